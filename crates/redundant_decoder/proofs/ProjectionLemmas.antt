-- The integer in range that has the residues of some channels, and the verdicts that it leads to.
use Rattle.std.proofs.Common.{◌≡◌, ◌≢◌, ℕ, zero, suc, ◌+◌, ◌-◌, ◌*◌, ◌%◌, ◌^◌, ◌<◌, ◌≤◌, List, [], ◌∷◌, map, length, drop, get_or, slice_index, None, All, refl, sym, ap, ◌∙◌, subst, arith, ℤ, pos, ◌+ℤ◌, ◌-ℤ◌}
use Rattle.std.specs.List.{range_with_len, remove, AllByRecursion as ByRecursion}
use Rattle.std.proofs.lemmas.Int.{ints, by_lt_z}
use Rattle.std.proofs.lemmas.List.{get_or-map, length-map, take_all}
use Rattle.std.proofs.lemmas.List.Elements.{All-map, All-weaker, recursion_from_All}
use Rattle.std.proofs.Math.Nat.{mul-one, mul_comm, mul-le-mul}
use Rattle.std.proofs.Math.Seq.{drop-cons}
use Rattle.number_theory.specs.Coprime.{product}
use Rattle.number_theory.specs.Residue.{residue, AreResidues, IsNumberOf}
use Rattle.number_theory.proofs.CoprimeLemmas.{same_from_residues}
use Rattle.number_theory.proofs.ResidueLemmas.{residue_is}
use Rattle.moduli_sets.specs.Set.{ModuliSet, IsInRange, IsModulus, IsModuliSet, radius, range_bound}
use Rattle.moduli_sets.specs.Vector.{vector_of}
use Rattle.mixed_radix.specs.Chosen.{IsChoice, AreBelow, entries_at}
use Rattle.mixed_radix.specs.Digits.{digits, digits_value}
use Rattle.mixed_radix.proofs.DigitLemmas.{digits_value-digits}
use Rattle.mixed_radix.proofs.ChosenLemmas.{AreBelow-range, AreBelow-remove, ArePairwiseCoprime-entries_at, product-entries_at_le, get_or-entries_at, length-entries_at}
use Rattle.mixed_radix.proofs.SignLemmas.{entries_at-range}
use Rattle.redundant_decoder.specs.Projection.{IsIntegerOf}
use Rattle.redundant_decoder.specs.Verdict.{IsCorrection}
use Rattle.redundant_decoder.proofs.PartLemmas.{remove-map}
use Rattle.redundant_decoder.proofs.VerdictLemmas.{length-vector, IsCorrection-from_remove}

-- ---- chosen channels
map_entries_at : (f : ℕ → ℕ) (which ms : List ℕ) → ByRecursion (λ c. c < length ms) which → entries_at which (map f ms) ≡ map f (entries_at which ms)
map_entries_at f [] ms h = refl
map_entries_at f (c ∷ which) ms h =
    let head : get_or (map f ms) c 0 ≡ f (get_or ms c 0) = get_or-map f ms c 0 0 h.0 in
    let tail = map_entries_at f which ms h.1 in
    cc

-- channels may be chosen before a map or after it
entries_at-map : (f : ℕ → ℕ) (which ms : List ℕ) → AreBelow (length ms) which → entries_at which (map f ms) ≡ map f (entries_at which ms)
entries_at-map f which ms below = map_entries_at f which ms (recursion_from_All (λ c. c < length ms) which below)

AreModuli-entries_at : (which ms : List ℕ) → AreBelow (length ms) which → All IsModulus ms → All IsModulus (entries_at which ms)
AreModuli-entries_at which ms below moduli =
    All-map IsModulus (slice_index ms) which (All-weaker (λ c. c < length ms) (λ c. IsModulus (get_or ms c 0)) (λ c h. moduli c 0 h) which below)

-- all channels, and all but one
pub entries_at-all : (xs : List ℕ) (n : ℕ) → length xs ≡ n → entries_at (range_with_len 0 n) xs ≡ xs
entries_at-all xs n e = entries_at-range n xs (omega arith) ∙ take_all n xs (omega arith)

pub entries_at-without : (xs : List ℕ) (n i : ℕ) → length xs ≡ n → entries_at (remove (range_with_len 0 n) i) xs ≡ remove xs i
entries_at-without xs n i e =
    sym (remove-map (slice_index xs) (range_with_len 0 n) i) ∙ ap (λ ys. remove ys i) (entries_at-all xs n e)

-- ---- the product of the chosen moduli
product-drop_le : (ms : List ℕ) (k : ℕ) → ByRecursion IsModulus ms → product (drop k ms) ≤ product ms
product-drop_le [] zero h = omega arith
product-drop_le [] (suc k) h = omega arith
product-drop_le (m ∷ ms) zero h = omega arith
product-drop_le (m ∷ ms) (suc k) h =
    let one : 1 * product (drop k ms) ≤ m * product ms = mul-le-mul (omega (arith, h.0.at_least_two)) (product-drop_le ms k h.1) in
    omega arith

-- one modulus more
pub product_more : (which ms : List ℕ) (n : ℕ) → 0 < n → n ≤ length which → product (drop n (entries_at which ms)) * get_or ms (get_or which (n - 1) 0) 0 ≡ product (drop (n - 1) (entries_at which ms))
product_more which ms n positive h =
    let cs = entries_at which ms in
    let k = n - 1 in
    let turn : suc k ≡ n = omega arith in
    let front : product (drop k cs) ≡ get_or cs k 0 * product (drop (suc k) cs) = ap product (drop-cons cs k 0 (omega (arith, length-entries_at which ms))) in
    mul_comm (product (drop n cs)) (get_or ms (get_or which k 0) 0)
    ∙ ap (λ m. m * product (drop n cs)) (sym (get_or-entries_at which ms k (omega arith)))
    ∙ ap (λ j. get_or cs k 0 * product (drop j cs)) (sym turn)
    ∙ sym front

-- is below 2 to the power of 127
pub product_fits : (set : ModuliSet) (which : List ℕ) (k : ℕ) → IsModuliSet set → IsChoice which → AreBelow (length set.moduli) which → product (drop k (entries_at which set.moduli)) < 2 ^ 127
product_fits set which k rules choice below =
    let cs = entries_at which set.moduli in
    let moduli = recursion_from_All IsModulus cs (AreModuli-entries_at which set.moduli below rules.moduli) in
    omega (arith, product-drop_le cs k moduli, product-entries_at_le which set.moduli choice below rules.coprime rules.moduli, rules.fits)

-- ---- the integer of chosen channels
-- a number less a multiple of the moduli's product has its residues
residues-less_product : (ms : List ℕ) (n q : ℕ) → ByRecursion IsModulus ms → map (residue (pos n -ℤ pos (product ms * q))) ms ≡ map (λ m. n % m) ms
residues-less_product [] n q h = refl
residues-less_product (m ∷ ms) n q h =
    let p = product ms in
    let regroup : (m * p) * q ≡ p * (m * q) = omega arith in
    let turns : (m * p) * q ≡ (p * q) * m = omega arith in
    let less = pos n -ℤ pos ((m * p) * q) in
    let back : less +ℤ pos ((p * q) * m) ≡ pos n = omega (arith, ints, turns) in
    let head : residue less m ≡ n % m = residue_is less m (p * q) n (omega (arith, h.0.at_least_two)) back in
    let tail : map (residue less) ms ≡ map (λ a. n % a) ms =
    ap (λ e. map (residue (pos n -ℤ pos e)) ms) regroup ∙ residues-less_product ms n (m * q) h.1 in
    cc

residues_less : (ms : List ℕ) (n : ℕ) → All IsModulus ms → map (residue (pos n -ℤ pos (product ms))) ms ≡ map (λ m. n % m) ms
residues_less ms n moduli =
    ap (λ e. map (residue (pos n -ℤ pos e)) ms) (sym (mul-one (product ms))) ∙ residues-less_product ms n 1 (recursion_from_All IsModulus ms moduli)

-- the number that the digits of residues write is the number of these residues
pub IsNumberOf-value : (ms rs ds : List ℕ) (y : ℕ) → (n : ℕ) × IsNumberOf ms rs n × (ds ≡ digits ms n) → y ≡ digits_value ms ds → IsNumberOf ms rs y
IsNumberOf-value ms rs ds y number e =
    subst (IsNumberOf ms rs) (sym (e ∙ ap (digits_value ms) number.2 ∙ digits_value-digits ms number.0 number.1.small)) number.1

-- their number, where it is in range
pub IsIntegerOf-number : (set : ModuliSet) (which v : List ℕ) (n : ℕ) → AreBelow (length set.moduli) which → IsNumberOf (entries_at which set.moduli) (entries_at which v) n → n ≤ range_bound set → IsIntegerOf set which v (pos n)
IsIntegerOf-number set which v n below number within = record {
  in_range = record { low = omega (arith, ints); high = omega (arith, ints) };
  residues = entries_at-map (residue (pos n)) which set.moduli below ∙ number.residues;
}

-- or their number less the product, where that is
pub IsIntegerOf-less_product : (set : ModuliSet) (which v : List ℕ) (n p : ℕ) → IsModuliSet set → AreBelow (length set.moduli) which → IsNumberOf (entries_at which set.moduli) (entries_at which v) n → p ≡ product (entries_at which set.moduli) → p ≤ n + range_bound set → IsIntegerOf set which v (pos n -ℤ pos p)
IsIntegerOf-less_product set which v n p rules below number e within =
    let cs = entries_at which set.moduli in
    let small = number.small in
    let same : map (residue (pos n -ℤ pos p)) cs ≡ map (λ m. n % m) cs =
    ap (λ k. map (residue (pos n -ℤ pos k)) cs) e ∙ residues_less cs n (AreModuli-entries_at which set.moduli below rules.moduli) in
    record {
      in_range = record { low = omega (arith, ints); high = omega (arith, ints) };
      residues = entries_at-map (residue (pos n -ℤ pos p)) which set.moduli below ∙ same ∙ number.residues;
    }

-- and else none
pub IsIntegerOf-none : (set : ModuliSet) (which v : List ℕ) (n p : ℕ) → IsModuliSet set → IsChoice which → AreBelow (length set.moduli) which → IsNumberOf (entries_at which set.moduli) (entries_at which v) n → p ≡ product (entries_at which set.moduli) → range_bound set < n → n + range_bound set < p → (x : ℤ) → IsIntegerOf set which v x → ⊥
IsIntegerOf-none set which v n p rules choice below number e above far x is =
    let cs = entries_at which set.moduli in
    let coprime = ArePairwiseCoprime-entries_at which set.moduli choice below rules.coprime in
    let same : map (residue x) cs ≡ map (residue (pos n)) cs =
    sym (entries_at-map (residue x) which set.moduli below) ∙ is.residues ∙ sym number.residues in
    let less : map (residue (pos n -ℤ pos (product cs))) cs ≡ map (residue x) cs =
    residues_less cs n (AreModuli-entries_at which set.moduli below rules.moduli) ∙ sym same in
    let small = number.small in
    let low = is.in_range.low in
    let high = is.in_range.high in
    by_lt_z x (pos 0)
    (λ negative. let here = same_from_residues cs (pos n -ℤ pos (product cs)) x coprime less (omega (arith, ints)) (omega (arith, ints)) in
    absurd (omega (arith, ints)))
    (λ natural. let here = same_from_residues cs x (pos n) coprime same (omega (arith, ints)) (omega (arith, ints)) in
    absurd (omega (arith, ints)))

-- ---- verdicts
-- channels of all
pub AreBelow-all : (n : ℕ) (which : List ℕ) → which ≡ range_with_len 0 n → AreBelow n which
AreBelow-all n which e = subst (AreBelow n) (sym e) (AreBelow-range n n (omega arith))

pub AreBelow-without : (n i : ℕ) (which : List ℕ) → which ≡ remove (range_with_len 0 n) i → AreBelow n which
AreBelow-without n i which e = subst (AreBelow n) (sym e) (AreBelow-remove n (range_with_len 0 n) i (AreBelow-range n n (omega arith)))

length-of : (set : ModuliSet) (v : List ℕ) → AreResidues set.moduli v → length v ≡ length set.moduli
length-of set v residues = sym (length-vector set.moduli v (pos 0) residues) ∙ length-map set.moduli (residue (pos 0))

-- the residues but for one channel
remove_from_entries_at : (set : ModuliSet) (v : List ℕ) (x : ℤ) (i : ℕ) → AreResidues set.moduli v → entries_at (remove (range_with_len 0 (length set.moduli)) i) (vector_of set.moduli x) ≡ entries_at (remove (range_with_len 0 (length set.moduli)) i) v → remove (vector_of set.moduli x) i ≡ remove v i
remove_from_entries_at set v x i residues e =
    sym (entries_at-without (vector_of set.moduli x) (length set.moduli) i (length-map set.moduli (residue x))) ∙ e ∙ entries_at-without v (length set.moduli) i (length-of set v residues)

entries_at_from_remove : (set : ModuliSet) (v : List ℕ) (x : ℤ) (i : ℕ) → AreResidues set.moduli v → remove (vector_of set.moduli x) i ≡ remove v i → entries_at (remove (range_with_len 0 (length set.moduli)) i) (vector_of set.moduli x) ≡ entries_at (remove (range_with_len 0 (length set.moduli)) i) v
entries_at_from_remove set v x i residues e =
    entries_at-without (vector_of set.moduli x) (length set.moduli) i (length-map set.moduli (residue x)) ∙ e ∙ sym (entries_at-without v (length set.moduli) i (length-of set v residues))

-- the integer of all channels but one, where all have none, is corrected
pub IsVerdict-corrected : (set : ModuliSet) (which v : List ℕ) (x : ℤ) (i : ℕ) → IsModuliSet set → AreResidues set.moduli v → i < length set.moduli → which ≡ remove (range_with_len 0 (length set.moduli)) i → ((y : ℤ) → IsInRange set y → v ≢ vector_of set.moduli y) → IsIntegerOf set which v x → IsCorrection (radius set) None set v x i
IsVerdict-corrected set which v x i rules residues h e none is =
    IsCorrection-from_remove set v x i rules residues is.in_range h
    (remove_from_entries_at set v x i residues (subst (λ w. entries_at w (vector_of set.moduli x) ≡ entries_at w v) e is.residues))
    (none x is.in_range)

-- where they have none, no integer in range has the residues but for that channel
pub none_without : (set : ModuliSet) (which v : List ℕ) (i : ℕ) → AreResidues set.moduli v → which ≡ remove (range_with_len 0 (length set.moduli)) i → ((x : ℤ) → IsIntegerOf set which v x → ⊥) → (x : ℤ) → IsInRange set x → remove (vector_of set.moduli x) i ≢ remove v i
none_without set which v i residues e none x in_x same =
    let residues_same = subst (λ w. entries_at w (vector_of set.moduli x) ≡ entries_at w v) (sym e) (entries_at_from_remove set v x i residues same) in
    none x (record { in_range = in_x; residues = residues_same })
