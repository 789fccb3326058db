-- The numbers of a pass.
use Rattle.std.proofs.Common.{◌≡◌, ℕ, zero, suc, ◌+◌, ◌-◌, ◌*◌, ◌/◌, ◌%◌, ◌<◌, ◌≤◌, ◌^◌, Bool, true, false, List, [], ◌∷◌, length, take, drop, get_or, sym, ap, ◌∙◌, subst, arith, ℤ, pos, neg_ℤ, ◌*ℤ◌, to_z, of_z, length-drop, ◌++◌}
use Rattle.std.specs.Int.{w128}
use Rattle.std.specs.List.Sorted.{IsPermutation}
use lib.Signed.{le_z, quot_z}
use borrow.Rule.Slice.PartMut.{post_of}
use Rattle.std.proofs.lemmas.Int.{ints}
use Rattle.std.proofs.lemmas.List.{get_or-take, get_or-drop, length-take-le, take-append-drop, take_all, drop_all, append-nil, length-append}
use Rattle.std.proofs.lemmas.List.Sorted.{IsPermutation-append_right, length_permutation}
use Rattle.std.proofs.Math.Nat.{mul-le-mul_left, mul-div_cancel'}
use Rattle.number_theory.specs.Coprime.{product}
use Rattle.moduli_sets.specs.Set.{ModuliSet, IsModuliSet, information_product, range_bound, radius}
use Rattle.syndrome_table.specs.Entry.{signed, cofactor as cofactor_of}
use Rattle.syndrome_table.specs.Filling.{AreCofactors, IsReal}
use Rattle.syndrome_table.proofs.CaseLemmas.{info_in, modulus_positive}
use Rattle.syndrome_table.proofs.CofactorLemmas.{below_product, dvd_information}
use Rattle.syndrome_table.proofs.FilledLemmas.{natural_cofactor}
use Rattle.syndrome_table.proofs.RealLemmas.{mod_times, times_residue}
use Rattle.syndrome_table.proofs.ReadingLemmas.{product_small}
use Rattle.syndrome_table.proofs.VerdictLemmas.{count_is}

-- an information modulus is below the first redundant one
pub info_smaller : (set : ModuliSet) (i : ℕ) → IsModuliSet set → radius set ≡ 1 → i < set.info → get_or set.moduli i 0 < get_or set.moduli set.info 0
info_smaller set i rules one h =
    let count = count_is set rules one in
    let within = info_in set rules in
    let zero : set.info + 0 ≡ set.info = omega arith in
    let some : 0 < length (drop set.info set.moduli) = omega (arith, length-drop set.info set.moduli) in
    let in' : i < length (take set.info set.moduli) = omega (arith, length-take-le set.info set.moduli (omega arith)) in
    let less = rules.larger 0 0 some i 0 in' in
    let at : get_or (drop set.info set.moduli) 0 0 ≡ get_or set.moduli set.info 0 = get_or-drop set.info set.moduli 0 0 ∙ ap (λ n. get_or set.moduli n 0) zero in
    omega (arith, less, at, get_or-take set.info set.moduli i 0 h)

-- ---- so many cofactors
pub cofactor_kept : (set : ModuliSet) (cofactors : List ℤ) (i : ℕ) → IsModuliSet set → AreCofactors set cofactors → i < set.info → to_z w128 (of_z w128 (get_or cofactors i (pos 0))) ≡ pos (cofactor_of set i)
cofactor_kept set cofactors i rules cofactor h =
    let natural = natural_cofactor set cofactors i rules cofactor h in
    let p = cofactor_of set i in
    let m = get_or set.moduli i 0 in
    let positive = modulus_positive set i rules (omega (arith, info_in set rules)) in
    let fits = product_small set rules in
    let at_most : p * 1 ≤ p * m = mul-le-mul_left p positive in
    let p_small : p ≤ information_product set = omega (arith, at_most, natural.cofactor) in
    omega (arith, ints, natural.is)

pub record IsProduct (set : ModuliSet) (cofactors : List ℤ) (i k : ℕ) (f : ℤ) : Type 0 where
  pub product_is : to_z w128 (of_z w128 f) *ℤ to_z w128 (of_z w128 (get_or cofactors i (pos 0))) ≡ pos (k * cofactor_of set i)
  pub kept : to_z w128 (of_z w128 (to_z w128 (of_z w128 f) *ℤ to_z w128 (of_z w128 (get_or cofactors i (pos 0))))) ≡ pos (k * cofactor_of set i)
  pub small : k * cofactor_of set i < information_product set

pub times_cofactor : (set : ModuliSet) (cofactors : List ℤ) (i k : ℕ) (f : ℤ) → IsModuliSet set → AreCofactors set cofactors → i < set.info → f ≡ pos k → k < get_or set.moduli i 0 → IsProduct set cofactors i k f
times_cofactor set cofactors i k f rules cofactor h is less =
    let natural = natural_cofactor set cofactors i rules cofactor h in
    let p = cofactor_of set i in
    let size = rules.moduli i 0 (omega (arith, info_in set rules)) in
    let small = below_product set i p k rules natural.cofactor less in
    let fits = product_small set rules in
    let f_is : to_z w128 (of_z w128 f) ≡ pos k = omega (arith, ints, is, size.fits) in
    let c_is = cofactor_kept set cofactors i rules cofactor h in
    let whole = ap (λ a. a *ℤ to_z w128 (of_z w128 (get_or cofactors i (pos 0)))) f_is ∙ ap (λ a. pos k *ℤ a) c_is in
    let own : to_z w128 (of_z w128 (pos (k * p))) ≡ pos (k * p) = omega (arith, ints) in
    record {
      product_is = whole;
      kept = ap (λ a. to_z w128 (of_z w128 a)) whole ∙ own;
      small = small;
    }

pub at_most_twice : (x t : ℤ) (n b : ℕ) → x ≡ pos n → t ≡ pos (2 * b) → le_z x t ≡ true → n ≤ 2 * b
at_most_twice x t n b is twice h = omega (arith, ints, is, twice, h)

pub above_twice : (x t : ℤ) (n b : ℕ) → x ≡ pos n → t ≡ pos (2 * b) → le_z x t ≡ false → 2 * b < n
above_twice x t n b is twice h = omega (arith, ints, is, twice, h)

pub twice_of : (b : ℕ) (z : ℤ) → z ≡ pos b → 2 * b < 2 ^ 126 → to_z w128 (of_z w128 (pos 2 *ℤ to_z w128 (of_z w128 z))) ≡ pos (2 * b)
twice_of b z is small = omega (arith, ints, is)

-- what is real is below the modulus
pub real_small : (set : ModuliSet) (i times : ℕ) (below : Bool) → IsReal set i (signed times below) → times < get_or set.moduli i 0
real_small set i times false real = real.1
real_small set i zero true real = absurd (omega (arith, real.0))
real_small set i (suc k) true real = omega (arith, real.0)

pub real_most : (set : ModuliSet) (i times : ℕ) → IsReal set i (neg_ℤ (pos times)) → times * cofactor_of set i ≤ 2 * range_bound set
real_most set i zero real = absurd (omega (arith, real.0))
real_most set i (suc k) real =
    let e : k + 1 ≡ suc k = omega arith in
    subst (λ n. n * cofactor_of set i ≤ 2 * range_bound set) e real.1

-- ---- inverses
pub product_more : (ms : List ℕ) (j : ℕ) → j < length ms → product (take (j + 1) ms) ≡ product (take j ms) * get_or ms j 0
product_more [] j h = absurd (omega arith)
product_more (m ∷ ms) zero h = omega arith
product_more (m ∷ ms) (suc j) h =
    let rest = product_more ms j (omega arith) in
    let e : suc j + 1 ≡ suc (j + 1) = omega arith in
    let turn : m * (product (take j ms) * get_or ms j 0) ≡ (m * product (take j ms)) * get_or ms j 0 = omega arith in
    ap (λ n. product (take n (m ∷ ms))) e ∙ ap (λ a. m * a) rest ∙ turn

-- the inverse of a product
pub inverse_more : (a b x y r : ℕ) → 1 < r → (a * x) % r ≡ 1 → (b * y) % r ≡ 1 → ((a * b) * ((x * y) % r)) % r ≡ 1
inverse_more a b x y r some first second =
    let turn : (a * b) * (x * y) ≡ (a * x) * (b * y) = omega arith in
    times_residue (a * b) (x * y) r (omega arith) ∙ ap (λ n. n % r) turn ∙ mod_times (a * x) (b * y) r (omega arith) second ∙ first

-- of a cofactor: that of M, times the modulus
pub inverse_less : (p m big x r : ℕ) → 1 < r → p * m ≡ big → (big * x) % r ≡ 1 → (p * ((m * x) % r)) % r ≡ 1
inverse_less p m big x r some whole inverse =
    let turn : p * (m * x) ≡ (p * m) * x = omega arith in
    times_residue p (m * x) r (omega arith) ∙ ap (λ n. n % r) (turn ∙ ap (λ n. n * x) whole) ∙ inverse

-- ---- a sort of a table's end
abbrev pub written : {X : Type 0} → ℕ → List X → List X → List X
written from xs zs = take from xs ++ (zs ++ post_of from (length xs - from) xs)

written_is : {X : Type 0} (from : ℕ) (xs zs : List X) → written from xs zs ≡ take from xs ++ zs
written_is {X} from xs zs =
    let none : post_of from (length xs - from) xs ≡ [] = drop_all (length xs - from) (drop from xs) (omega (arith, length-drop from xs)) in
    ap (λ (ys : List X). take from xs ++ (zs ++ ys)) none ∙ ap (λ (ys : List X). take from xs ++ ys) (append-nil zs)

-- the end of a list, in another order, in the list's first n places
whole_end : {X : Type 0} (xs zs : List X) (from n : ℕ) → from ≤ length xs → n ≡ length xs → IsPermutation (take (length xs - from) (drop from xs)) zs → IsPermutation xs (take n (written from xs zs ++ drop (length (written from xs zs)) xs))
whole_end {X} xs zs from n within is moved =
    let end : take (length xs - from) (drop from xs) ≡ drop from xs = take_all (length xs - from) (drop from xs) (omega (arith, length-drop from xs)) in
    let sorted = subst (λ (ys : List X). IsPermutation ys zs) end moved in
    let size : length zs ≡ length xs - from = length_permutation (drop from xs) zs sorted ∙ length-drop from xs in
    let w = written from xs zs in
    let long : length w ≡ length xs = ap (λ (ys : List X). length ys) (written_is from xs zs) ∙ length-append (take from xs) zs ∙ omega (arith, size, length-take-le from xs within) in
    let rest : drop (length w) xs ≡ [] = drop_all (length w) xs (omega (arith, long)) in
    let back : take n (w ++ drop (length w) xs) ≡ take from xs ++ zs = ap (λ (ys : List X). take n (w ++ ys)) rest ∙ ap (take n) (append-nil w) ∙ take_all n w (omega (arith, long, is)) ∙ written_is from xs zs in
    let front = subst (λ (ys : List X). IsPermutation ys (take from xs ++ zs)) (take-append-drop from xs) (IsPermutation-append_right (take from xs) (drop from xs) zs sorted) in
    subst (IsPermutation xs) (sym back) front

pub sorted_end : {X : Type 0} (xs ys zs : List X) (from n : ℕ) → ys ≡ xs → from ≤ length xs → n ≡ length xs → IsPermutation (take (length ys - from) (drop from ys)) zs → IsPermutation xs (take n (written from ys zs ++ drop (length (written from ys zs)) xs))
sorted_end {X} xs ys zs from n same within is moved =
    subst (λ (us : List X). IsPermutation xs (take n (written from us zs ++ drop (length (written from us zs)) xs))) (sym same) (whole_end xs zs from n within is (subst (λ (us : List X). IsPermutation (take (length us - from) (drop from us)) zs) same moved))

-- M by a modulus
pub quotient_is : (set : ModuliSet) (i : ℕ) (a b : ℤ) → IsModuliSet set → i < set.info → a ≡ pos (information_product set) → b ≡ pos (get_or set.moduli i 0) → to_z w128 (of_z w128 (quot_z (to_z w128 (of_z w128 a)) (to_z w128 (of_z w128 b)))) *ℤ pos (get_or set.moduli i 0) ≡ pos (information_product set)
quotient_is set i a b rules h is_a is_b =
    let big = information_product set in
    let m = get_or set.moduli i 0 in
    let fits = product_small set rules in
    let size = rules.moduli i 0 (omega (arith, info_in set rules)) in
    let a_is : to_z w128 (of_z w128 a) ≡ pos big = omega (arith, ints, is_a) in
    let b_is : to_z w128 (of_z w128 b) ≡ pos m = omega (arith, ints, is_b, size.fits) in
    let parts : m * (big / m) ≡ big = mul-div_cancel' m (dvd_information set i rules h) in
    let least : (big / m) * 1 ≤ (big / m) * m = mul-le-mul_left (big / m) (modulus_positive set i rules (omega (arith, info_in set rules))) in
    let own : to_z w128 (of_z w128 (pos (big / m))) ≡ pos (big / m) = omega (arith, ints, least, parts) in
    let first = ap (λ z. to_z w128 (of_z w128 (quot_z z (to_z w128 (of_z w128 b))))) a_is ∙ ap (λ z. to_z w128 (of_z w128 (quot_z (pos big) z))) b_is in
    let whole : pos (big / m) *ℤ pos m ≡ pos big = omega (arith, ints, parts) in
    ap (λ z. z *ℤ pos m) (first ∙ own) ∙ whole
