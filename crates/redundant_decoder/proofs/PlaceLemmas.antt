-- Lists place by place, and the integer that the information residues tell.
use Rattle.std.proofs.Common.{◌≡◌, ◌≢◌, ℕ, zero, suc, ◌+◌, ◌*◌, ◌/◌, ◌<◌, ◌≤◌, List, [], ◌∷◌, length, take, get_or, None, refl, sym, ap, ◌∙◌, subst, arith, ℤ, inl, inr}
use Rattle.std.specs.List.{range_with_len, remove}
use Rattle.std.proofs.lemmas.Bool.{cases_lt, cases_eq}
use Rattle.std.proofs.lemmas.List.{ext_get_or, get_or-take, length-map, take-map}
use Rattle.std.proofs.lemmas.List.FromFn.{length-range_with_len}
use Rattle.std.proofs.Math.Nat.{mul_left_comm, mul-div_cancel_left}
use Rattle.number_theory.specs.Coprime.{product}
use Rattle.number_theory.specs.Residue.{residue, AreResidues}
use Rattle.moduli_sets.specs.Set.{ModuliSet, IsInRange, IsModuliSet, information_product, radius}
use Rattle.moduli_sets.specs.Vector.{vector_of}
use Rattle.moduli_sets.proofs.VectorLemmas.{same_from_information}
use Rattle.mixed_radix.specs.Chosen.{AreBelow, IsChoice, entries_at}
use Rattle.mixed_radix.proofs.ChosenLemmas.{AreBelow-range, IsChoice-range, IsChoice-remove, info_below, info_some}
use Rattle.mixed_radix.proofs.SignLemmas.{entries_at-range}
use Rattle.redundant_decoder.specs.Projection.{AgreeFrom, IsFirstDifference, IsIntegerOf}
use Rattle.redundant_decoder.specs.Verdict.{IsCorrection, IsVerdict}
use Rattle.redundant_decoder.specs.declared.decoder.Verdict.TheVariants.{Clean}
use Rattle.redundant_decoder.proofs.ProjectionLemmas.{entries_at-all, entries_at-without}
use Rattle.redundant_decoder.proofs.VerdictLemmas.{length-vector, IsCorrection-from_remove}

-- ---- lists without one place
-- what stands at another place stays
pub same_place_from_remove : (xs ys : List ℕ) (i k : ℕ) → length xs ≡ length ys → remove xs i ≡ remove ys i → k ≢ i → get_or xs k 0 ≡ get_or ys k 0
same_place_from_remove [] [] i k e same other = refl
same_place_from_remove [] (y ∷ ys) i k e same other = absurd (omega arith)
same_place_from_remove (x ∷ xs) [] i k e same other = absurd (omega arith)
same_place_from_remove (x ∷ xs) (y ∷ ys) zero zero e same other = absurd (other refl)
same_place_from_remove (x ∷ xs) (y ∷ ys) zero (suc k) e same other = ap (λ zs. get_or zs k 0) same
same_place_from_remove (x ∷ xs) (y ∷ ys) (suc i) zero e same other = cc
same_place_from_remove (x ∷ xs) (y ∷ ys) (suc i) (suc k) e same other =
    let tail : remove xs i ≡ remove ys i = cc in
    same_place_from_remove xs ys i k (omega arith) tail (λ is. other (ap suc is))

-- lists that agree at all other places are the same without place i
pub remove_from_places : (xs ys : List ℕ) (i : ℕ) → length xs ≡ length ys → ((k : ℕ) → k < length xs → k ≢ i → get_or xs k 0 ≡ get_or ys k 0) → remove xs i ≡ remove ys i
remove_from_places [] [] i e same = refl
remove_from_places [] (y ∷ ys) i e same = absurd (omega arith)
remove_from_places (x ∷ xs) [] i e same = absurd (omega arith)
remove_from_places (x ∷ xs) (y ∷ ys) zero e same =
    ext_get_or 0 xs ys (omega arith) (λ k h. same (suc k) (omega arith) (λ (is : suc k ≡ zero). omega arith))
remove_from_places (x ∷ xs) (y ∷ ys) (suc i) e same =
    let head : x ≡ y = same zero (omega arith) (λ (is : zero ≡ suc i). omega arith) in
    let tail = remove_from_places xs ys i (omega arith) (λ k h other. same (suc k) (omega arith) (λ (is : suc k ≡ suc i). other (omega arith))) in
    cc

-- the first n entries don't see a later place
take_from_remove : (n : ℕ) (xs ys : List ℕ) (i : ℕ) → n ≤ i → length xs ≡ length ys → remove xs i ≡ remove ys i → take n xs ≡ take n ys
take_from_remove zero xs ys i h e same = refl
take_from_remove (suc n) [] [] i h e same = refl
take_from_remove (suc n) [] (y ∷ ys) i h e same = absurd (omega arith)
take_from_remove (suc n) (x ∷ xs) [] i h e same = absurd (omega arith)
take_from_remove (suc n) (x ∷ xs) (y ∷ ys) zero h e same = absurd (omega arith)
take_from_remove (suc n) (x ∷ xs) (y ∷ ys) (suc i) h e same =
    let head : x ≡ y = cc in
    let rest : remove xs i ≡ remove ys i = cc in
    let tail = take_from_remove n xs ys i (omega arith) (omega arith) rest in
    cc

-- ---- the product of all moduli but one
product-remove : (ms : List ℕ) (i : ℕ) → i < length ms → product ms ≡ get_or ms i 0 * product (remove ms i)
product-remove [] i h = absurd (omega arith)
product-remove (m ∷ ms) zero h = refl
product-remove (m ∷ ms) (suc i) h =
    ap (λ p. m * p) (product-remove ms i (omega arith)) ∙ mul_left_comm m (get_or ms i 0) (product (remove ms i))

pub product-remove_div : (ms : List ℕ) (i : ℕ) → i < length ms → 0 < get_or ms i 0 → product ms / get_or ms i 0 ≡ product (remove ms i)
product-remove_div ms i h positive =
    ap (λ p. p / get_or ms i 0) (product-remove ms i h) ∙ mul-div_cancel_left (product (remove ms i)) positive

pub product_of_all : (ms which : List ℕ) → which ≡ range_with_len 0 (length ms) → product (entries_at which ms) ≡ product ms
product_of_all ms which is = ap product (ap (λ w. entries_at w ms) is ∙ entries_at-all ms (length ms) refl)

pub product_of_others : (ms which : List ℕ) (i : ℕ) → which ≡ remove (range_with_len 0 (length ms)) i → product (entries_at which ms) ≡ product (remove ms i)
product_of_others ms which i is =
    ap product (ap (λ w. entries_at w ms) is ∙ entries_at-without ms (length ms) i refl)

-- all channels but one
pub IsChoice-others : (set : ModuliSet) (which : List ℕ) (i : ℕ) → IsModuliSet set → i < length set.moduli → which ≡ remove (range_with_len 0 (length set.moduli)) i → IsChoice which
IsChoice-others set which i rules h is =
    let n = length set.moduli in
    let all = IsChoice-range n (omega (arith, rules.at_least_four)) rules.at_most_twelve in
    let size = length-range_with_len 0 n in
    subst IsChoice (sym is) (IsChoice-remove (range_with_len 0 n) i (omega arith) (omega (arith, rules.at_least_four)) all)

-- ---- the integer of the information residues
-- what stands at the information channels
information_of : (set : ModuliSet) (which xs : List ℕ) → IsModuliSet set → which ≡ range_with_len 0 set.info → length xs ≡ length set.moduli → entries_at which xs ≡ take set.info xs
information_of set which xs rules is e =
    ap (λ w. entries_at w xs) is ∙ entries_at-range set.info xs (omega (arith, info_below set rules))

pub IsChoice-information : (set : ModuliSet) (which : List ℕ) → IsModuliSet set → which ≡ range_with_len 0 set.info → IsChoice which
IsChoice-information set which rules is =
    subst IsChoice (sym is) (IsChoice-range set.info (info_some set rules) (omega (arith, info_below set rules, rules.at_most_twelve)))

pub AreBelow-information : (set : ModuliSet) (which : List ℕ) → IsModuliSet set → which ≡ range_with_len 0 set.info → AreBelow (length set.moduli) which
AreBelow-information set which rules is =
    subst (AreBelow (length set.moduli)) (sym is) (AreBelow-range (length set.moduli) set.info (omega (arith, info_below set rules)))

pub product_of_information : (set : ModuliSet) (which : List ℕ) → IsModuliSet set → which ≡ range_with_len 0 set.info → product (entries_at which set.moduli) ≡ information_product set
product_of_information set which rules is = ap product (information_of set which set.moduli rules is refl)

length-of_set : (set : ModuliSet) (v : List ℕ) (x : ℤ) → AreResidues set.moduli v → length v ≡ length set.moduli
length-of_set set v x residues = sym (length-vector set.moduli v x residues) ∙ length-map set.moduli (residue x)

same_information : (set : ModuliSet) (which v : List ℕ) (x : ℤ) → IsModuliSet set → AreResidues set.moduli v → which ≡ range_with_len 0 set.info → IsIntegerOf set which v x → take set.info (vector_of set.moduli x) ≡ take set.info v
same_information set which v x rules residues is integer =
    sym (information_of set which (vector_of set.moduli x) rules is (length-map set.moduli (residue x)))
    ∙ integer.residues
    ∙ information_of set which v rules is (length-of_set set v x residues)

-- an integer in range that has all residues but a redundant one has them
IsIntegerOf-from_remove : (set : ModuliSet) (which v : List ℕ) (x : ℤ) (i : ℕ) → IsModuliSet set → AreResidues set.moduli v → which ≡ range_with_len 0 set.info → IsInRange set x → set.info ≤ i → remove (vector_of set.moduli x) i ≡ remove v i → IsIntegerOf set which v x
IsIntegerOf-from_remove set which v x i rules residues is in_x h same = record {
  in_range = in_x;
  residues = information_of set which (vector_of set.moduli x) rules is (length-map set.moduli (residue x))
      ∙ take_from_remove set.info (vector_of set.moduli x) v i h (length-vector set.moduli v x residues) same
      ∙ sym (information_of set which v rules is (length-of_set set v x residues));
}

-- and there is one such integer
same_integer : (set : ModuliSet) (which v : List ℕ) (x y : ℤ) → IsModuliSet set → AreResidues set.moduli v → which ≡ range_with_len 0 set.info → IsIntegerOf set which v x → IsIntegerOf set which v y → x ≡ y
same_integer set which v x y rules residues is at_x at_y =
    let of_x = same_information set which v x rules residues is at_x in
    let of_y = same_information set which v y rules residues is at_y in
    same_from_information set x y rules at_x.in_range at_y.in_range
    (sym (take-map (residue x) set.info set.moduli) ∙ of_x ∙ sym of_y ∙ take-map (residue y) set.info set.moduli)

-- v has the residue of that integer in each information channel
right_information : (set : ModuliSet) (which v : List ℕ) (x : ℤ) (k : ℕ) → IsModuliSet set → AreResidues set.moduli v → which ≡ range_with_len 0 set.info → IsIntegerOf set which v x → k < set.info → get_or (vector_of set.moduli x) k 0 ≡ get_or v k 0
right_information set which v x k rules residues is integer h =
    sym (get_or-take set.info (vector_of set.moduli x) k 0 h)
    ∙ ap (λ xs. get_or xs k 0) (same_information set which v x rules residues is integer)
    ∙ get_or-take set.info v k 0 h

-- ---- verdicts by the information residues
-- all redundant residues are right
pub IsVerdict-by_information : (set : ModuliSet) (which v : List ℕ) (x : ℤ) → IsModuliSet set → AreResidues set.moduli v → which ≡ range_with_len 0 set.info → IsIntegerOf set which v x → AgreeFrom set.info (length set.moduli) v (vector_of set.moduli x) → IsVerdict (radius set) None set v (Clean x)
IsVerdict-by_information set which v x rules residues is integer agree =
    let vx = vector_of set.moduli x in
    let size = length-of_set set v x residues in
    let same = λ (k : ℕ) (h : k < length v). elim (cases_lt k set.info) as (λ c. get_or v k 0 ≡ get_or vx k 0) [
      | inl below ↦ sym (right_information set which v x k rules residues is integer below)
      | inr above ↦ agree k above (omega arith)
    ] in
    (integer.in_range, ext_get_or 0 v vx (sym (length-vector set.moduli v x residues)) same)

-- all but one
pub IsCorrection-by_information : (set : ModuliSet) (which v : List ℕ) (x : ℤ) (i : ℕ) → IsModuliSet set → AreResidues set.moduli v → which ≡ range_with_len 0 set.info → IsIntegerOf set which v x → IsFirstDifference set.info (length set.moduli) v (vector_of set.moduli x) i → AgreeFrom (i + 1) (length set.moduli) v (vector_of set.moduli x) → IsCorrection (radius set) None set v x i
IsCorrection-by_information set which v x i rules residues is integer first agree =
    let vx = vector_of set.moduli x in
    let size = length-map set.moduli (residue x) in
    let same = λ (k : ℕ) (h : k < length vx) (other : k ≢ i). elim (cases_lt k set.info) as (λ c. get_or vx k 0 ≡ get_or v k 0) [
      | inl below ↦ right_information set which v x k rules residues is integer below
      | inr above ↦ elim (cases_lt k i) as (λ c. get_or vx k 0 ≡ get_or v k 0) [
        | inl before ↦ sym (first.before k above before)
        | inr from ↦ sym (agree k (different_is_after k i from other) (omega arith))
      ]
    ] in
    IsCorrection-from_remove set v x i rules residues integer.in_range first.inside
    (remove_from_places vx v i (length-vector set.moduli v x residues) same)
    (λ e. first.differs (ap (λ xs. get_or xs i 0) e))
  where
    different_is_after : (k i : ℕ) → i ≤ k → k ≢ i → i + 1 ≤ k
    different_is_after k i h other = elim (cases_eq k i) [ inl e ↦ absurd (other e) | inr e ↦ omega arith ]

-- two are wrong: no integer in range has all residues but a redundant one
pub none_by_information : (set : ModuliSet) (which v : List ℕ) (x : ℤ) (i j : ℕ) → IsModuliSet set → AreResidues set.moduli v → which ≡ range_with_len 0 set.info → IsIntegerOf set which v x → IsFirstDifference set.info (length set.moduli) v (vector_of set.moduli x) i → IsFirstDifference (i + 1) (length set.moduli) v (vector_of set.moduli x) j → (y : ℤ) (k : ℕ) → IsInRange set y → set.info ≤ k → k < length set.moduli → remove (vector_of set.moduli y) k ≢ remove v k
none_by_information set which v x i j rules residues is integer first second y k in_y h inside same =
    let at_y = IsIntegerOf-from_remove set which v y k rules residues is in_y h same in
    let one = same_integer set which v y x rules residues is at_y integer in
    let of_x : remove (vector_of set.moduli x) k ≡ remove v k = subst (λ z. remove (vector_of set.moduli z) k ≡ remove v k) one same in
    let even = length-vector set.moduli v x residues in
    let right = λ (n : ℕ) (other : n ≢ k). sym (same_place_from_remove (vector_of set.moduli x) v k n even of_x other) in
    let ordered = second.at_least in
    elim (cases_eq i k) [
      | inl e ↦ second.differs (right j (λ (f : j ≡ k). omega arith))
      | inr other ↦ first.differs (right i other)
    ]

-- the information residues are those of no integer in range
pub none_of_information : (set : ModuliSet) (which v : List ℕ) → IsModuliSet set → AreResidues set.moduli v → which ≡ range_with_len 0 set.info → ((x : ℤ) → IsIntegerOf set which v x → ⊥) → (y : ℤ) (k : ℕ) → IsInRange set y → set.info ≤ k → k < length set.moduli → remove (vector_of set.moduli y) k ≢ remove v k
none_of_information set which v rules residues is none y k in_y h inside same =
    none y (IsIntegerOf-from_remove set which v y k rules residues is in_y h same)

-- where no integer in range has all residues but a redundant one, none has all
pub none_whole : (set : ModuliSet) (v : List ℕ) → IsModuliSet set → ((x : ℤ) (i : ℕ) → IsInRange set x → set.info ≤ i → i < length set.moduli → remove (vector_of set.moduli x) i ≢ remove v i) → (x : ℤ) → IsInRange set x → v ≢ vector_of set.moduli x
none_whole set v rules none x in_x e =
    none x set.info in_x (omega arith) (info_below set rules) (ap (λ xs. remove xs set.info) (sym e))
