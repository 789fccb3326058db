-- The integer of the information residues.
use Rattle.std.proofs.Common.{◌≡◌, ℕ, ◌+◌, ◌*◌, ◌%◌, ◌^◌, ◌<◌, ◌≤◌, List, [], ◌∷◌, map, length, take, get_or, refl, sym, ap, ◌∙◌, subst, arith, ℤ, pos, ◌+ℤ◌, ◌-ℤ◌}
use Rattle.std.specs.List.{range_with_len, AllByRecursion as ByRecursion}
use Rattle.std.proofs.lemmas.Int.{ints}
use Rattle.std.proofs.lemmas.List.{get_or-map, get_or-take, length-take-le}
use Rattle.std.proofs.lemmas.List.Elements.{All-take, recursion_from_All}
use Rattle.std.proofs.Math.Nat.{mul-one}
use Rattle.number_theory.specs.Coprime.{product}
use Rattle.number_theory.specs.Residue.{residue, AreResidues, IsNumberOf}
use Rattle.number_theory.proofs.ResidueLemmas.{residue_is}
use Rattle.moduli_sets.specs.Set.{ModuliSet, IsModulus, IsModuliSet, information, information_product, range_bound}
use Rattle.mixed_radix.specs.Chosen.{AreBelow, entries_at}
use Rattle.mixed_radix.specs.Digits.{digits, digits_value}
use Rattle.mixed_radix.proofs.ChosenLemmas.{AreBelow-range}
use Rattle.mixed_radix.proofs.DigitLemmas.{length-residues}
use Rattle.mixed_radix.proofs.SignLemmas.{entries_at-range}
use Rattle.redundant_decoder.proofs.PartLemmas.{all_kept, part-all_kept}
use Rattle.redundant_decoder.proofs.ProjectionLemmas.{IsNumberOf-value}
use Rattle.syndrome_table.specs.Reading.{IsInformation}
use Rattle.syndrome_table.proofs.WideLemmas.{product_of_more}
use Rattle.syndrome_table.proofs.CaseLemmas.{info_in}

-- 2 * M fits
pub product_small : (set : ModuliSet) → IsModuliSet set → 2 * information_product set < 2 ^ 127
product_small set rules =
    let ms = set.moduli in
    let many = subst (λ (ns : List ℕ). set.info < length ns) (sym (part-all_kept ms)) (info_in set rules) in
    let whole = subst (λ (ns : List ℕ). 2 * information_product set ≤ product ns) (part-all_kept ms) (product_of_more set (all_kept ms) rules many) in
    omega (arith, whole, rules.fits)

pub info_below : (set : ModuliSet) (which : List ℕ) → IsModuliSet set → which ≡ range_with_len 0 set.info → AreBelow (length set.moduli) which
info_below set which rules e =
    let within = info_in set rules in
    subst (AreBelow (length set.moduli)) (sym e) (AreBelow-range (length set.moduli) set.info (omega arith))

-- the number of the information residues
pub number_of_information : (set : ModuliSet) (which v ds : List ℕ) (n : ℕ) → IsModuliSet set → AreResidues set.moduli v → which ≡ range_with_len 0 set.info → (k : ℕ) × IsNumberOf (entries_at which set.moduli) (entries_at which v) k × (ds ≡ digits (entries_at which set.moduli) k) → n ≡ digits_value (entries_at which set.moduli) ds → IsNumberOf (information set) (take set.info v) n
number_of_information set which v ds n rules residues e number is =
    let within = info_in set rules in
    let all = IsNumberOf-value (entries_at which set.moduli) (entries_at which v) ds n number is in
    let front : entries_at which set.moduli ≡ information set = ap (λ w. entries_at w set.moduli) e ∙ entries_at-range set.info set.moduli (omega arith) in
    let parts : entries_at which v ≡ take set.info v = ap (λ w. entries_at w v) e ∙ entries_at-range set.info v (omega (arith, length-residues set.moduli v residues)) in
    subst (λ ms. IsNumberOf ms (take set.info v) n) front (subst (λ rs. IsNumberOf (entries_at which set.moduli) rs n) parts all)

residues-less_product : (ms : List ℕ) (n q : ℕ) → ByRecursion IsModulus ms → map (residue (pos n -ℤ pos (product ms * q))) ms ≡ map (λ m. n % m) ms
residues-less_product [] n q h = refl
residues-less_product (m ∷ ms) n q h =
    let p = product ms in
    let regroup : (m * p) * q ≡ p * (m * q) = omega arith in
    let turns : (m * p) * q ≡ (p * q) * m = omega arith in
    let less = pos n -ℤ pos ((m * p) * q) in
    let back : less +ℤ pos ((p * q) * m) ≡ pos n = omega (arith, ints, turns) in
    let head : residue less m ≡ n % m = residue_is less m (p * q) n (omega (arith, h.0.at_least_two)) back in
    let tail : map (residue less) ms ≡ map (λ a. n % a) ms =
    ap (λ e. map (residue (pos n -ℤ pos e)) ms) regroup ∙ residues-less_product ms n (m * q) h.1 in
    cc

residues_at : (set : ModuliSet) (v : List ℕ) (z : ℤ) → IsModuliSet set → map (residue z) (information set) ≡ take set.info v → (j : ℕ) → j < set.info → residue z (get_or set.moduli j 0) ≡ get_or v j 0
residues_at set v z rules e j h =
    let within = info_in set rules in
    let long : j < length (information set) = omega (arith, length-take-le set.info set.moduli (omega arith)) in
    ap (residue z) (sym (get_or-take set.info set.moduli j 0 h)) ∙ sym (get_or-map (residue z) (information set) j 0 0 long) ∙ ap (λ rs. get_or rs j 0) e ∙ get_or-take set.info v j 0 h

pub information_low : (set : ModuliSet) (v : List ℕ) (n : ℕ) → IsModuliSet set → IsNumberOf (information set) (take set.info v) n → n + range_bound set < information_product set → IsInformation set v (pos n)
information_low set v n rules number below = record {
  window = record { low = omega (arith, ints); high = omega (arith, ints) };
  residues = residues_at set v (pos n) rules number.residues;
}

pub information_high : (set : ModuliSet) (v : List ℕ) (n : ℕ) → IsModuliSet set → IsNumberOf (information set) (take set.info v) n → information_product set ≤ n + range_bound set → IsInformation set v (pos n -ℤ pos (information_product set))
information_high set v n rules number above =
    let small = number.small in
    let moduli = recursion_from_All IsModulus (information set) (All-take IsModulus set.info set.moduli rules.moduli) in
    let less = ap (λ p. map (residue (pos n -ℤ pos p)) (information set)) (sym (mul-one (information_product set))) ∙ residues-less_product (information set) n 1 moduli in
    record {
      window = record { low = omega (arith, ints); high = omega (arith, ints, rules.wide) };
      residues = residues_at set v (pos n -ℤ pos (information_product set)) rules (less ∙ number.residues);
    }
