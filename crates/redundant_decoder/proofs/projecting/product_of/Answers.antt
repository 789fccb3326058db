use Rattle.std.proofs.Common.{◌≡◌, ◌-◌, ◌*◌, drop, get_or, slice_index, ap, ◌∙◌, arith}
use Rattle.number_theory.specs.Coprime.{product}
use Rattle.moduli_sets.specs.Moduli.{set_of}
use Rattle.mixed_radix.specs.Chosen.{entries_at}
use Rattle.redundant_decoder.proofs.ProjectionLemmas.{product_more, product_fits}
use Rattle.redundant_decoder.proofs.projecting.product_of.Goals as goal

pub overflow_mul-product : goal.overflow_mul-product
overflow_mul-product c =
    let set = set_of c.args.set.now in
    let which = c.args.which.now in
    let n = c.loop-n.n in
    let modulus : c.from-product.result ≡ get_or set.moduli (get_or which (n - 1) 0) 0 = c.from-product.ensures ∙ c.modulus.ensures.value ∙ ap (slice_index set.moduli) c.at.ensures in
    let more : c.loop-n.product * c.from-product.result ≡ product (drop (n - 1) (entries_at which set.moduli)) =
    ap (λ p. p * c.from-product.result) c.loop-n.invariant ∙ ap (λ m. product (drop n (entries_at which set.moduli)) * m) modulus ∙ product_more which set.moduli n (omega arith) (omega arith) in
    omega (arith, more, product_fits set which (n - 1) c.rules.ensures.set c.len-n.ensures.choice c.requires)

pub loop-n-preserved : goal.loop-n-preserved
loop-n-preserved c =
    let set = set_of c.args.set.now in
    let which = c.args.which.now in
    let n = c.loop-n.n in
    let modulus : c.from-product.result ≡ get_or set.moduli (get_or which (n - 1) 0) 0 = c.from-product.ensures ∙ c.modulus.ensures.value ∙ ap (slice_index set.moduli) c.at.ensures in
    ap (λ p. p * c.from-product.result) c.loop-n.invariant ∙ ap (λ m. product (drop n (entries_at which set.moduli)) * m) modulus ∙ product_more which set.moduli n (omega arith) (omega arith)

pub returns-clause-fits : goal.returns-clause-fits
returns-clause-fits c =
    omega (arith, c.loop-n.invariant, product_fits (set_of c.args.set.now) c.args.which.now c.loop-n.n c.rules.ensures.set c.len-n.ensures.choice c.requires)
