use Rattle.std.proofs.Common.{◌≡◌, ℕ, ◌<◌, ◌^◌, ℤ, pos, neg_ℤ, ◌-ℤ◌, arith, sym, subst, rules}
use Rattle.std.specs.Int.{w128}
use Rattle.std.proofs.lemmas.Int.{to_z_pos, to_z-of_z, ints}
use mir.Val.{SFits, to_z, of_z}
use Rattle.thin_source.specs.ThinGrammar.{symbols_of}
use Rattle.thin_source.specs.ThinFronts.{BoundFront}
use Rattle.thin_source.proofs.ThinDeclarations.{bound_plain, bound_minus}
use Rattle.thin_source.proofs.parser.bound.Goals as goal

-- a number that is made negative, as an i128
negated : (n : ℕ) → n < 2 ^ 127 → to_z w128 (of_z w128 (pos 0 -ℤ to_z w128 n)) ≡ neg_ℤ (pos n)
negated n small =
    let value : pos 0 -ℤ pos n ≡ neg_ℤ (pos n) = omega (arith, ints) in
    let fits : SFits w128 (neg_ℤ (pos n)) = search rules in
    rw (to_z_pos w128 n small, value) (to_z-of_z w128 (neg_ℤ (pos n)) fits)

pub returns-in_default : goal.returns-in_default
returns-in_default c =
    let text = c.args.text.now in
    let small : c.in_ok-number.number < 2 ^ 127 = omega (arith, c.in_ok-number.ensures.fits) in
    (rw (to_z_pos w128 c.in_ok-number.number small) (bound_plain c.in_ok-number.number (symbols_of text c.args.tokens.now) (symbols_of text c.in_ok-number.rest.now) c.in_ok-number.ensures.value.0), c.in_ok-number.ensures.value.1)

pub returns : goal.returns
returns c =
    let text = c.args.text.now in
    let n = c.in_ok-number-2.number in
    let symbols = symbols_of text c.args.tokens.now in
    let rest = symbols_of text c.in_ok-number-2.rest.now in
    let begins = c.in-Some.ensures text c.requires in
    let made = bound_minus n symbols (symbols_of text c.in-Some.unsigned.now) rest begins.0 c.in_ok-number-2.ensures.value.0 in
    (subst (λ (b : ℤ). BoundFront b symbols rest) (sym (negated n (omega (arith, c.in_ok-number-2.ensures.fits)))) made, c.in_ok-number-2.ensures.value.1)
