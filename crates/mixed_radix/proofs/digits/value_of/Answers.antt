use Rattle.std.proofs.Common.{◌≡◌, ℕ, ◌-◌, ◌*◌, drop, get_or, slice_index, ap, ◌∙◌, arith}
use Rattle.moduli_sets.specs.Moduli.{set_of}
use Rattle.mixed_radix.specs.Digits.{digits_value}
use Rattle.mixed_radix.specs.Chosen.{entries_at}
use Rattle.mixed_radix.proofs.ChosenLemmas.{length-entries_at}
use Rattle.mixed_radix.proofs.DigitLemmas.{length-residues}
use Rattle.mixed_radix.proofs.ValueLemmas.{value_more, value_fits}
use Rattle.std.proofs.Math.Nat.{mul_comm}
use Rattle.mixed_radix.proofs.digits.value_of.Goals as goal

turned : {a b v m : ℕ} → a ≡ v → b ≡ m → a * b ≡ m * v
turned {a} {b} {v} {m} e f = mul_comm a b ∙ ap (λ x. x * a) f ∙ ap (λ x. m * x) e

pub overflow_mul-value : goal.overflow_mul-value
overflow_mul-value c =
    let set = set_of c.args.set.now in
    let which = c.args.which.now in
    let ds = c.args.d.now in
    let n = c.loop-n.n in
    let more = value_more which set.moduli ds n (omega arith) (omega arith) c.requires.digits in
    let fits = value_fits set which ds (n - 1) c.rules.ensures.set c.len-n.ensures.choice c.requires.channels c.requires.digits in
    let modulus : c.from.result ≡ get_or set.moduli (get_or which (n - 1) 0) 0 = c.from.ensures ∙ c.modulus.ensures.value ∙ ap (slice_index set.moduli) c.at.ensures in
    let scaled : c.loop-n.value * c.from.result ≡ get_or set.moduli (get_or which (n - 1) 0) 0 * digits_value (drop n (entries_at which set.moduli)) (drop n ds) = turned c.loop-n.invariant modulus in
    omega arith

pub at-requires-in-loop-n : goal.at-requires-in-loop-n
at-requires-in-loop-n c =
    let cs = entries_at c.args.which.now (set_of c.args.set.now).moduli in
    omega (arith, length-entries_at c.args.which.now (set_of c.args.set.now).moduli, length-residues cs c.args.d.now c.requires.digits)

pub overflow_add-value : goal.overflow_add-value
overflow_add-value c =
    let set = set_of c.args.set.now in
    let which = c.args.which.now in
    let ds = c.args.d.now in
    let n = c.loop-n.n in
    let more = value_more which set.moduli ds n (omega arith) (omega arith) c.requires.digits in
    let fits = value_fits set which ds (n - 1) c.rules.ensures.set c.len-n.ensures.choice c.requires.channels c.requires.digits in
    let modulus : c.from.result ≡ get_or set.moduli (get_or which (n - 1) 0) 0 = c.from.ensures ∙ c.modulus.ensures.value ∙ ap (slice_index set.moduli) c.at.ensures in
    let scaled : c.loop-n.value * c.from.result ≡ get_or set.moduli (get_or which (n - 1) 0) 0 * digits_value (drop n (entries_at which set.moduli)) (drop n ds) = turned c.loop-n.invariant modulus in
    omega arith

pub loop-n-preserved : goal.loop-n-preserved
loop-n-preserved c =
    let set = set_of c.args.set.now in
    let which = c.args.which.now in
    let ds = c.args.d.now in
    let n = c.loop-n.n in
    let more = value_more which set.moduli ds n (omega arith) (omega arith) c.requires.digits in
    let modulus : c.from.result ≡ get_or set.moduli (get_or which (n - 1) 0) 0 = c.from.ensures ∙ c.modulus.ensures.value ∙ ap (slice_index set.moduli) c.at.ensures in
    let scaled : c.loop-n.value * c.from.result ≡ get_or set.moduli (get_or which (n - 1) 0) 0 * digits_value (drop n (entries_at which set.moduli)) (drop n ds) = turned c.loop-n.invariant modulus in
    omega arith
