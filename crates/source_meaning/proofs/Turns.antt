-- The turns of a `for`: how many are left, and one after another.
use Rattle.std.proofs.Common.{◌≡◌, suc, ◌+◌, ℤ, pos, ◌+ℤ◌, ◌-ℤ◌, ◌<ℤ◌, true, false, sym, ap, ◌∙◌, arith}
use Rattle.std.specs.Prelude.{if◌then◌else◌, unsigned_abs, int_lt}
use Rattle.std.proofs.lemmas.Int.{ints}
use Rattle.std.proofs.lemmas.Bool.Decides.{nat_tests}
use Rattle.source_tree.specs.Statement.{turns_of}

pub turns_more : (a b : ℤ) → a <ℤ b → turns_of a b ≡ suc (turns_of (a +ℤ pos 1) b)
turns_more a b h =
    let p : false ≡ int_lt b a = grind (arith, ints, nat_tests) in
    let q : false ≡ int_lt b (a +ℤ pos 1) = grind (arith, ints, nat_tests) in
    let e : unsigned_abs (b -ℤ a) + 1 ≡ suc (unsigned_abs (b -ℤ (a +ℤ pos 1)) + 1) = omega (arith, ints) in
    ap (λ c. if c then 0 else unsigned_abs (b -ℤ a) + 1) (sym p) ∙ e ∙ ap (λ c. suc (if c then 0 else unsigned_abs (b -ℤ (a +ℤ pos 1)) + 1)) q

pub turns_last : (a b : ℤ) → a ≡ b → turns_of a b ≡ 1
turns_last a b h =
    let p : false ≡ int_lt b a = grind (arith, ints, nat_tests) in
    let e : unsigned_abs (b -ℤ a) + 1 ≡ 1 = omega (arith, ints) in
    ap (λ c. if c then 0 else unsigned_abs (b -ℤ a) + 1) (sym p) ∙ e

pub turns_none : (a b : ℤ) → b <ℤ a → turns_of a b ≡ 0
turns_none a b h =
    let p : true ≡ int_lt b a = grind (arith, ints, nat_tests) in
    ap (λ c. if c then 0 else unsigned_abs (b -ℤ a) + 1) (sym p)
