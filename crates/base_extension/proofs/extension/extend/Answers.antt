use Rattle.std.proofs.Common.{◌≡◌, ◌-◌, ◌*◌, ◌+◌, ◌%◌, drop, get_or, slice_index, ap, ◌∙◌, arith}
use Rattle.moduli_sets.specs.Moduli.{set_of}
use Rattle.mixed_radix.specs.Digits.{digits_value}
use Rattle.mixed_radix.specs.Chosen.{entries_at}
use Rattle.mixed_radix.proofs.ChosenLemmas.{length-entries_at}
use Rattle.mixed_radix.proofs.DigitLemmas.{length-residues}
use Rattle.base_extension.proofs.HornerLemmas.{mod-value_more, digit_below, remainders_fit}
use Rattle.base_extension.proofs.extension.extend.Goals as goal

pub at-requires-in-loop-n : goal.at-requires-in-loop-n
at-requires-in-loop-n c =
    let ms = (set_of c.args.set.now).moduli in
    omega (arith, length-entries_at c.args.which.now ms, length-residues (entries_at c.args.which.now ms) c.args.d.now c.requires.digits)

pub overflow_add-rest : goal.overflow_add-rest
overflow_add-rest c =
    let ms = (set_of c.args.set.now).moduli in
    let which = c.args.which.now in
    let n = c.loop-n.n in
    let above = digits_value (drop n (entries_at which ms)) (drop n c.args.d.now) in
    let m = c.modulus.result in
    let modulus : m ≡ get_or ms (get_or which (n - 1) 0) 0 = c.modulus.ensures.value ∙ ap (slice_index ms) c.at.ensures in
    let below = digit_below which ms c.args.d.now (n - 1) (omega arith) c.requires.digits in
    let scaled : c.loop-n.rest * (m % c.args.p) ≡ above % c.args.p * (m % c.args.p) = ap (λ r. r * (m % c.args.p)) c.loop-n.invariant in
    omega (arith, remainders_fit above m c.args.p c.requires.positive c.requires.fits)

pub loop-n-preserved : goal.loop-n-preserved
loop-n-preserved c =
    let ms = (set_of c.args.set.now).moduli in
    let which = c.args.which.now in
    let n = c.loop-n.n in
    let p = c.args.p in
    let modulus : c.modulus.result ≡ get_or ms (get_or which (n - 1) 0) 0 = c.modulus.ensures.value ∙ ap (slice_index ms) c.at.ensures in
    ap (λ r. (r * (c.modulus.result % p) + c.at-in-loop-n.result) % p) c.loop-n.invariant
    ∙ ap (λ m. (digits_value (drop n (entries_at which ms)) (drop n c.args.d.now) % p * (m % p) + c.at-in-loop-n.result) % p) modulus
    ∙ ap (λ d. (digits_value (drop n (entries_at which ms)) (drop n c.args.d.now) % p * (get_or ms (get_or which (n - 1) 0) 0 % p) + d) % p) c.at-in-loop-n.ensures
    ∙ mod-value_more which ms c.args.d.now n p (omega arith) (omega arith) c.requires.digits
