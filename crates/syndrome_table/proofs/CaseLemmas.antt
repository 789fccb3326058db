-- Cases of wrong residues: their difference tells channel and error.
use Rattle.std.proofs.Common.{◌≡◌, ◌≢◌, ℕ, ◌+◌, ◌-◌, ◌*◌, ◌/◌, ◌%◌, ◌<◌, ◌≤◌, List, length, take, drop, get_or, sym, ap, ◌∙◌, arith, inl, inr, ℤ, pos, ◌+ℤ◌, ◌-ℤ◌, length-drop}
use Rattle.std.proofs.Math.ListN.{set as put}
use Rattle.std.proofs.lemmas.Int.{ints}
use Rattle.std.proofs.lemmas.Bool.{cases_lt, cases_eq}
use Rattle.std.proofs.lemmas.List.{length-map, get_or-map, get_or-take, get_or-drop, get_or-set_same, get_or-set_other, length-set, take-map, length-take-le}
use Rattle.std.proofs.Math.Nat.{div-add-mod', mod-eq_of_lt}
use Rattle.number_theory.specs.Residue.{residue}
use Rattle.number_theory.proofs.ResidueLemmas.{residue-add, residue-sub, residue_is, residue-below}
use Rattle.moduli_sets.specs.Set.{ModuliSet, IsModuliSet, information, redundant, radius}
use Rattle.moduli_sets.specs.Vector.{vector_of}
use Rattle.number_theory.specs.Distance.{distance}
use Rattle.redundant_decoder.proofs.DistanceLemmas.{distance-by_third, distance_from_remove}
use Rattle.syndrome_table.specs.Syndrome.{IsCase, IsSyndrome, triple_of}
use Rattle.syndrome_table.proofs.WideLemmas.{IsWide, same_from_distance_wide, remove_from_places}

-- ---- differences
-- x - y and what x and y leave
pub same_from_difference : (x y : ℤ) (m : ℕ) → 0 < m → residue (x -ℤ y) m ≡ 0 → residue x m ≡ residue y m
same_from_difference x y m h none =
    let back : (x -ℤ y) +ℤ y ≡ x = omega (arith, ints) in
    let front : 0 + residue y m ≡ residue y m = omega arith in
    ap (λ z. residue z m) (sym back) ∙ residue-add (x -ℤ y) y m h ∙ ap (λ n. (n + residue y m) % m) none ∙ ap (λ n. n % m) front ∙ mod-eq_of_lt (residue-below y m h)

pub difference_from_same : (x y : ℤ) (m : ℕ) → 0 < m → residue x m ≡ residue y m → residue (x -ℤ y) m ≡ 0
difference_from_same x y m h same =
    let r = residue y m in
    let none : pos r -ℤ pos r ≡ pos 0 = omega (arith, ints) in
    residue-sub x y m h ∙ ap (λ n. residue (pos n -ℤ pos r) m) same ∙ ap (λ z. residue z m) none ∙ mod-eq_of_lt h

-- the error is what y - x leaves
pub error_of : (x y : ℤ) (m e : ℕ) → e < m → residue y m ≡ (residue x m + e) % m → residue (y -ℤ x) m ≡ e
error_of x y m e h is =
    let r = residue x m in
    let q = (r + e) / m in
    let parts : q * m + (r + e) % m ≡ r + e = div-add-mod' (r + e) m in
    let up : (pos ((r + e) % m) -ℤ pos r) +ℤ pos (q * m) ≡ pos e = omega (arith, ints, parts) in
    residue-sub y x m (omega arith) ∙ ap (λ n. residue (pos n -ℤ pos r) m) is ∙ residue_is (pos ((r + e) % m) -ℤ pos r) m q e (omega arith) up ∙ mod-eq_of_lt h

-- ---- a case, place by place
-- what a place of the information moduli leaves
pub modulus_positive : (set : ModuliSet) (j : ℕ) → IsModuliSet set → j < length set.moduli → 0 < get_or set.moduli j 0
modulus_positive set j rules h = let m = rules.moduli j 0 h in omega (arith, m.at_least_two)

pub info_in : (set : ModuliSet) → IsModuliSet set → set.info < length set.moduli
info_in set rules = omega (arith, rules.odd, length-drop set.info set.moduli)

pub at_information : (set : ModuliSet) (z : ℤ) (j : ℕ) → j < set.info → j < length set.moduli → get_or (vector_of (information set) z) j 0 ≡ residue z (get_or set.moduli j 0)
at_information set z j h in' =
    ap (λ xs. get_or xs j 0) (sym (take-map (residue z) set.info set.moduli)) ∙ get_or-take set.info (vector_of set.moduli z) j 0 h ∙ get_or-map (residue z) set.moduli j 0 0 in'

pub at_redundant : (set : ModuliSet) (z : ℤ) (k : ℕ) → set.info + k < length set.moduli → get_or (vector_of (redundant set) z) k 0 ≡ residue z (get_or set.moduli (set.info + k) 0)
at_redundant set z k h =
    get_or-map (residue z) (drop set.info set.moduli) k 0 0 (omega (arith, length-drop set.info set.moduli)) ∙ ap (residue z) (get_or-drop set.info set.moduli k 0)

-- the other information residues are right
pub case-same : (set : ModuliSet) (i e : ℕ) (x y : ℤ) → IsModuliSet set → IsCase set i e x y → (j : ℕ) → j < set.info → j ≢ i → residue y (get_or set.moduli j 0) ≡ residue x (get_or set.moduli j 0)
case-same set i e x y rules case j h other =
    let in' : j < length set.moduli = omega (arith, info_in set rules) in
    sym (at_information set y j h in') ∙ ap (λ xs. get_or xs j 0) case.residues ∙ get_or-set_other (vector_of (information set) x) i j _ 0 other ∙ at_information set x j h in'

-- and channel i has the error
pub case-wrong : (set : ModuliSet) (i e : ℕ) (x y : ℤ) → IsModuliSet set → IsCase set i e x y → residue y (get_or set.moduli i 0) ≡ (residue x (get_or set.moduli i 0) + e) % get_or set.moduli i 0
case-wrong set i e x y rules case =
    let within = info_in set rules in
    let channel = case.channel in
    let in' : i < length set.moduli = omega arith in
    let long : i < length (vector_of (information set) x) = omega (arith, length-map (take set.info set.moduli) (residue x), length-take-le set.info set.moduli (omega arith)) in
    sym (at_information set y i channel in') ∙ ap (λ xs. get_or xs i 0) case.residues ∙ get_or-set_same (vector_of (information set) x) i _ 0 long

-- x - y lies between -M and M
pub case-wide : (set : ModuliSet) (i e : ℕ) (x y : ℤ) → IsModuliSet set → IsCase set i e x y → IsWide set (x -ℤ y)
case-wide set i e x y rules case =
    let low = case.in_range.low in
    let high = case.in_range.high in
    let from = case.window.low in
    let to = case.window.high in
    record { low = omega (arith, ints, rules.wide); high = omega (arith, ints, rules.wide) }

-- and is no multiple of the modulus of channel i
pub case-differs : (set : ModuliSet) (i e : ℕ) (x y : ℤ) → IsModuliSet set → IsCase set i e x y → residue (x -ℤ y) (get_or set.moduli i 0) ≢ 0
case-differs set i e x y rules case none =
    let m = get_or set.moduli i 0 in
    let positive : 0 < m = omega (arith, case.below) in
    let same = same_from_difference x y m positive none in
    let left = difference_from_same y x m positive (sym same) in
    absurd (omega (arith, case.error, left, error_of x y m e case.below (case-wrong set i e x y rules case)))

-- but of those of the other information channels
pub case-divides : (set : ModuliSet) (i e : ℕ) (x y : ℤ) → IsModuliSet set → IsCase set i e x y → (j : ℕ) → j < set.info → j ≢ i → residue (x -ℤ y) (get_or set.moduli j 0) ≡ 0
case-divides set i e x y rules case j h other =
    let positive = modulus_positive set j rules (omega (arith, info_in set rules)) in
    difference_from_same x y (get_or set.moduli j 0) positive (sym (case-same set i e x y rules case j h other))

-- ---- one triple, one case
pub one_difference : (set : ModuliSet) (i j e f : ℕ) (x y z w : ℤ) → IsModuliSet set → radius set ≡ 1 → IsCase set i e x y → IsCase set j f z w → triple_of set x y ≡ triple_of set z w → x -ℤ y ≡ z -ℤ w
one_difference set i j e f x y z w rules one case other triple =
    let a = x -ℤ y in
    let b = z -ℤ w in
    let ms = set.moduli in
    let va = vector_of ms a in
    let vb = vector_of ms b in
    let zs = put va i 0 in
    let long_a : length va ≡ length ms = length-map ms (residue a) in
    let long_b : length vb ≡ length ms = length-map ms (residue b) in
    let long_z : length zs ≡ length ms = length-set va i 0 ∙ long_a in
    let channel = case.channel in
    let within = info_in set rules in
    let near_a : distance va zs ≤ 1 =
    distance_from_remove va zs i (omega arith) (remove_from_places va zs i (omega arith) (λ k h differ. sym (get_or-set_other va i k 0 0 differ))) in
    let at_redundant_place = λ (k : ℕ) (low : set.info ≤ k) (h : k < length ms).
    let turn : set.info + (k - set.info) ≡ k = omega arith in
    let in' : set.info + (k - set.info) < length ms = omega arith in
    ap (λ n. residue b (get_or ms n 0)) (sym turn) ∙ sym (at_redundant set b (k - set.info) in') ∙ ap (λ t. get_or t (k - set.info) 0) (sym triple) ∙ at_redundant set a (k - set.info) in' ∙ ap (λ n. residue a (get_or ms n 0)) turn in
    let at_place : (k : ℕ) → k < length vb → k ≢ j → get_or vb k 0 ≡ get_or zs k 0 = λ k h differ.
    let k_in : k < length ms = omega arith in
    let here = get_or-map (residue b) ms k 0 0 k_in in
    elim (cases_eq k i) [
      | inl at_i ↦
          let zero_z : get_or zs k 0 ≡ 0 = ap (λ n. get_or zs n 0) at_i ∙ get_or-set_same va i 0 0 (omega arith) in
          here ∙ case-divides set j f z w rules other k (omega arith) differ ∙ sym zero_z
      | inr off_i ↦
          let there = get_or-set_other va i k 0 0 off_i ∙ get_or-map (residue a) ms k 0 0 k_in in
          elim (cases_lt k set.info) [
            | inl info ↦ here ∙ case-divides set j f z w rules other k info differ ∙ sym (there ∙ case-divides set i e x y rules case k info off_i)
            | inr red ↦ here ∙ at_redundant_place k red k_in ∙ sym there
          ]
    ] in
    let near_b : distance vb zs ≤ 1 = distance_from_remove vb zs j (omega arith) (remove_from_places vb zs j (omega arith) at_place) in
    let near = distance-by_third va vb zs 1 1 (omega arith) near_a near_b in
    same_from_distance_wide set a b rules (case-wide set i e x y rules case) (case-wide set j f z w rules other) (omega (arith, near, one))

pub one_case : (set : ModuliSet) (triple : List ℕ) (i j e f : ℕ) → IsModuliSet set → radius set ≡ 1 → IsSyndrome set triple i e → IsSyndrome set triple j f → (i ≡ j) × (e ≡ f)
one_case set triple i j e f rules one h k =
    let same = one_difference set i j e f h.x h.y k.x k.y rules one h.case k.case (sym h.is ∙ k.is) in
    let turned : h.y -ℤ h.x ≡ k.y -ℤ k.x = omega (arith, ints, same) in
    elim (cases_eq i j) [
      | inl at ↦
          let left = error_of h.x h.y (get_or set.moduli i 0) e h.case.below (case-wrong set i e h.x h.y rules h.case) in
          let right = error_of k.x k.y (get_or set.moduli j 0) f k.case.below (case-wrong set j f k.x k.y rules k.case) in
          (at, sym left ∙ ap (λ d. residue d (get_or set.moduli i 0)) turned ∙ ap (λ n. residue (k.y -ℤ k.x) (get_or set.moduli n 0)) at ∙ right)
      | inr off ↦
          let none = ap (λ d. residue d (get_or set.moduli i 0)) same ∙ case-divides set j f k.x k.y rules k.case i h.case.channel off in
          absurd (case-differs set i e h.x h.y rules h.case none)
    ]
