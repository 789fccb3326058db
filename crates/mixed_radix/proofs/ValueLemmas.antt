-- The number that digits of chosen channels write, from the highest digit down.
use Rattle.std.proofs.Common.{◌≡◌, ℕ, ◌+◌, ◌-◌, ◌*◌, ◌^◌, ◌<◌, ◌≤◌, List, length, drop, get_or, ap, ◌∙◌, arith}
use Rattle.number_theory.specs.Residue.{AreResidues}
use Rattle.moduli_sets.specs.Set.{ModuliSet, IsModuliSet}
use Rattle.mixed_radix.specs.Digits.{digits_value}
use Rattle.mixed_radix.specs.Chosen.{IsChoice, AreBelow, entries_at}
use Rattle.mixed_radix.proofs.ChosenLemmas.{get_or-entries_at, length-entries_at, product-entries_at_le}
use Rattle.mixed_radix.proofs.DigitLemmas.{length-residues, digits_value-drop, digits_value-drop_le, digits_value-lt}

-- one digit more
pub value_more : (which ms ds : List ℕ) (n : ℕ) → 0 < n → n ≤ length which → AreResidues (entries_at which ms) ds → digits_value (drop (n - 1) (entries_at which ms)) (drop (n - 1) ds) ≡ get_or ds (n - 1) 0 + get_or ms (get_or which (n - 1) 0) 0 * digits_value (drop n (entries_at which ms)) (drop n ds)
value_more which ms ds n positive in' h =
    let cs = entries_at which ms in
    let k = n - 1 in
    let size = length-entries_at which ms in
    let count = length-residues cs ds h in
    let turn : k + 1 ≡ n = omega arith in
    digits_value-drop cs ds k (omega arith) (omega arith)
    ∙ ap (λ j. get_or ds k 0 + get_or cs k 0 * digits_value (drop j cs) (drop j ds)) turn
    ∙ ap (λ m. get_or ds k 0 + m * digits_value (drop n cs) (drop n ds)) (get_or-entries_at which ms k (omega arith))

-- is below 2 to the power of 127
pub value_fits : (set : ModuliSet) (which ds : List ℕ) (k : ℕ) → IsModuliSet set → IsChoice which → AreBelow (length set.moduli) which → AreResidues (entries_at which set.moduli) ds → digits_value (drop k (entries_at which set.moduli)) (drop k ds) < 2 ^ 127
value_fits set which ds k rules choice below h =
    let cs = entries_at which set.moduli in
    omega (arith, digits_value-drop_le cs ds k h, digits_value-lt cs ds h, product-entries_at_le which set.moduli choice below rules.coprime rules.moduli, rules.fits)
