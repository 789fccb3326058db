-- Verdicts by the triple of a vector.
use Rattle.std.proofs.Common.{◌≡◌, ◌≢◌, ℕ, ◌+◌, ◌-◌, ◌*◌, ◌/◌, ◌%◌, ◌<◌, ◌≤◌, List, None, length, get_or, sym, ap, ◌∙◌, subst, arith, inl, inr, ◌⊎◌, ℤ, pos, ◌-ℤ◌, length-drop}
use Rattle.std.proofs.Math.ListN.{set as put}
use Rattle.std.specs.List.{remove}
use Rattle.std.proofs.lemmas.Int.{ints, by_lt_z}
use Rattle.std.proofs.lemmas.Bool.{cases_lt, cases_eq}
use Rattle.std.proofs.lemmas.List.{length-map, get_or-map, get_or-set_same, get_or-set_other, length-set, length-take-le}
use Rattle.std.proofs.Math.Nat.{mod-lt, div-add-mod', mod-eq_of_lt}
use Rattle.number_theory.specs.Residue.{residue, AreResidues}
use Rattle.number_theory.proofs.CoprimeLemmas.{ArePairwiseCoprime-take, same_from_residues}
use Rattle.number_theory.proofs.ResidueLemmas.{residue-sub, residue-below}
use Rattle.number_theory.proofs.InverseLemmas.{mod-from_turns}
use Rattle.moduli_sets.specs.Set.{ModuliSet, IsInRange, IsModuliSet, information, redundant, radius}
use Rattle.moduli_sets.specs.Vector.{vector_of}
use Rattle.mixed_radix.proofs.DigitLemmas.{AreResidues-at}
use Rattle.number_theory.specs.Distance.{distance}
use Rattle.redundant_decoder.specs.Nearest.{IsNearest}
use Rattle.redundant_decoder.specs.Verdict.{IsCorrection}
use Rattle.redundant_decoder.proofs.DistanceLemmas.{distance-by_third, same_from_remove, distance_from_remove, remove_from_distance}
use Rattle.redundant_decoder.proofs.VerdictLemmas.{length-vector, IsCorrection-from_remove}
use Rattle.syndrome_table.specs.Syndrome.{IsInWindow, IsCase, IsSyndrome, triple_of}
use Rattle.syndrome_table.specs.Reading.{IsInformation, IsTriple, IsAlone}
use Rattle.syndrome_table.proofs.WideLemmas.{IsWide, same_from_distance_wide, remove_from_places, places_from_remove, lists_from_places}
use Rattle.syndrome_table.proofs.CaseLemmas.{same_from_difference, difference_from_same, modulus_positive, info_in, at_information, at_redundant, case-differs, case-divides, one_difference}

-- three redundant moduli
pub count_is : (set : ModuliSet) → IsModuliSet set → radius set ≡ 1 → length set.moduli ≡ set.info + 3
count_is set rules one = omega (arith, rules.odd, one, length-drop set.info set.moduli)

-- a residue of v, as what it leaves
own_residue : (set : ModuliSet) (v : List ℕ) (j : ℕ) → AreResidues set.moduli v → j < length set.moduli → residue (pos (get_or v j 0)) (get_or set.moduli j 0) ≡ get_or v j 0
own_residue set v j residues h = mod-eq_of_lt (AreResidues-at set.moduli v j residues h)

-- a redundant channel where v and y differ by nothing
same_redundant : (set : ModuliSet) (v t : List ℕ) (y : ℤ) (k : ℕ) → IsModuliSet set → radius set ≡ 1 → AreResidues set.moduli v → IsTriple set v y t → k < 3 → get_or t k 0 ≡ 0 → residue y (get_or set.moduli (set.info + k) 0) ≡ get_or v (set.info + k) 0
same_redundant set v t y k rules one residues triple h none =
    let in' : set.info + k < length set.moduli = omega (arith, count_is set rules one) in
    let positive = modulus_positive set (set.info + k) rules in' in
    sym (same_from_difference (pos (get_or v (set.info + k) 0)) y _ positive (sym (triple.residues k h) ∙ none)) ∙ own_residue set v (set.info + k) residues in'

-- ---- v and y differ in one redundant channel at the most
alone-remove : (set : ModuliSet) (v t : List ℕ) (y : ℤ) (k : ℕ) → IsModuliSet set → radius set ≡ 1 → AreResidues set.moduli v → IsInformation set v y → IsTriple set v y t → IsAlone t k → remove (vector_of set.moduli y) (set.info + k) ≡ remove v (set.info + k)
alone-remove set v t y k rules one residues info triple alone =
    let ms = set.moduli in
    let vy = vector_of ms y in
    let long : length vy ≡ length ms = length-map ms (residue y) in
    remove_from_places vy v (set.info + k) (length-vector ms v y residues) (λ j h differ.
    let j_in : j < length ms = omega arith in
    let here = get_or-map (residue y) ms j 0 0 j_in in
    elim (cases_lt j set.info) [
      | inl low ↦ here ∙ info.residues j low
      | inr high ↦
          let l = j - set.info in
          let turn : set.info + l ≡ j = omega arith in
          let l_in : l < 3 = omega (arith, count_is set rules one) in
          let other : l ≢ k = λ e. differ (omega (arith, e, turn)) in
          here ∙ ap (λ n. residue y (get_or ms n 0)) (sym turn) ∙ same_redundant set v t y l rules one residues triple l_in (alone.others l l_in other) ∙ ap (λ n. get_or v n 0) turn
    ])

-- nowhere: v is the vector of y
pub alone-whole : (set : ModuliSet) (v t : List ℕ) (y : ℤ) (k : ℕ) → IsModuliSet set → radius set ≡ 1 → AreResidues set.moduli v → IsInformation set v y → IsTriple set v y t → IsAlone t k → get_or t k 0 ≡ 0 → v ≡ vector_of set.moduli y
alone-whole set v t y k rules one residues info triple alone none =
    let ms = set.moduli in
    let vy = vector_of ms y in
    let long : length vy ≡ length ms = length-map ms (residue y) in
    let removed = alone-remove set v t y k rules one residues info triple alone in
    let in' : set.info + k < length ms = omega (arith, count_is set rules one, alone.place) in
    let there : get_or vy (set.info + k) 0 ≡ get_or v (set.info + k) 0 = get_or-map (residue y) ms (set.info + k) 0 0 in' ∙ same_redundant set v t y k rules one residues triple alone.place none in
    sym (same_from_remove vy v (set.info + k) (length-vector ms v y residues) (omega arith) removed there)

-- in channel info + k: it is wrong
pub alone-corrected : (set : ModuliSet) (v t : List ℕ) (y : ℤ) (k : ℕ) → IsModuliSet set → radius set ≡ 1 → AreResidues set.moduli v → IsInformation set v y → IsTriple set v y t → IsAlone t k → get_or t k 0 ≢ 0 → IsInRange set y → IsCorrection (radius set) None set v y (set.info + k)
alone-corrected set v t y k rules one residues info triple alone some in_y =
    let ms = set.moduli in
    let in' : set.info + k < length ms = omega (arith, count_is set rules one, alone.place) in
    let positive = modulus_positive set (set.info + k) rules in' in
    let removed = alone-remove set v t y k rules one residues info triple alone in
    IsCorrection-from_remove set v y (set.info + k) rules residues in_y in' removed (λ e.
    let at : get_or v (set.info + k) 0 ≡ residue y (get_or ms (set.info + k) 0) = ap (λ w. get_or w (set.info + k) 0) e ∙ get_or-map (residue y) ms (set.info + k) 0 0 in' in
    some (triple.residues k alone.place ∙ difference_from_same (pos (get_or v (set.info + k) 0)) y _ positive (own_residue set v (set.info + k) residues in' ∙ at)))

wide_range : (set : ModuliSet) (x : ℤ) → IsModuliSet set → IsInRange set x → IsWide set x
wide_range set x rules h =
    let low = h.low in
    let high = h.high in
    record { low = omega (arith, ints, rules.wide); high = omega (arith, ints, rules.wide) }

wide_window : (set : ModuliSet) (y : ℤ) → IsModuliSet set → IsInWindow set y → IsWide set y
wide_window set y rules h =
    let low = h.low in
    let high = h.high in
    record { low = omega (arith, ints, rules.wide); high = omega (arith, ints, rules.wide) }

-- and with y out of range no integer is near
pub alone-damaged : (set : ModuliSet) (v t : List ℕ) (y : ℤ) (k : ℕ) → IsModuliSet set → radius set ≡ 1 → AreResidues set.moduli v → IsInformation set v y → IsTriple set v y t → IsAlone t k → (IsInRange set y → ⊥) → IsNearest (radius set) None set v None
alone-damaged set v t y k rules one residues info triple alone out x within =
    let vx = vector_of set.moduli x in
    let vy = vector_of set.moduli y in
    let near_y = distance_from_remove vy v (set.info + k) (length-vector set.moduli v y residues) (alone-remove set v t y k rules one residues info triple alone) in
    let near_x = within.close in
    let near = distance-by_third vx vy v (radius set) 1 (length-vector set.moduli v x residues) near_x near_y in
    let same = same_from_distance_wide set x y rules (wide_range set x rules within.in_range) (wide_window set y rules info.window) (omega (arith, near, one)) in
    out (subst (IsInRange set) same within.in_range)

-- ---- a triple that is in the table
-- the integer that the table's case leads to has the residues of v but in channel i
found-remove : (set : ModuliSet) (v t : List ℕ) (i e : ℕ) (y a b x : ℤ) → IsModuliSet set → radius set ≡ 1 → AreResidues set.moduli v → IsInformation set v y → IsTriple set v y t → IsCase set i e a b → t ≡ triple_of set a b → x -ℤ y ≡ a -ℤ b → remove (vector_of set.moduli x) i ≡ remove v i
found-remove set v t i e y a b x rules one residues info triple case is apart =
    let ms = set.moduli in
    let vx = vector_of ms x in
    let long : length vx ≡ length ms = length-map ms (residue x) in
    remove_from_places vx v i (length-vector ms v x residues) (λ j h differ.
    let j_in : j < length ms = omega arith in
    let positive = modulus_positive set j rules j_in in
    let here = get_or-map (residue x) ms j 0 0 j_in in
    elim (cases_lt j set.info) [
      | inl low ↦
          let none = ap (λ d. residue d (get_or ms j 0)) apart ∙ case-divides set i e a b rules case j low differ in
          here ∙ same_from_difference x y _ positive none ∙ info.residues j low
      | inr high ↦
          let l = j - set.info in
          let turn : set.info + l ≡ j = omega arith in
          let l_in : l < 3 = omega (arith, count_is set rules one) in
          let in' : set.info + l < length ms = omega arith in
          let m = get_or ms j 0 in
          let r = get_or v j 0 in
          let left : residue (pos r -ℤ y) m ≡ residue (x -ℤ y) m =
          ap (λ n. residue (pos (get_or v n 0) -ℤ y) (get_or ms n 0)) (sym turn) ∙ sym (triple.residues l l_in) ∙ ap (λ s. get_or s l 0) is ∙ at_redundant set (a -ℤ b) l in' ∙ ap (λ n. residue (a -ℤ b) (get_or ms n 0)) turn ∙ ap (λ d. residue d m) (sym apart) in
          let parts : (pos r -ℤ y) -ℤ (x -ℤ y) ≡ pos r -ℤ x = omega (arith, ints) in
          let none : residue (pos r -ℤ x) m ≡ 0 = ap (λ d. residue d m) (sym parts) ∙ difference_from_same (pos r -ℤ y) (x -ℤ y) m positive left in
          here ∙ sym (same_from_difference (pos r) x m positive none) ∙ own_residue set v j residues j_in
    ])

pub found-corrected : (set : ModuliSet) (v t : List ℕ) (i e : ℕ) (y a b x : ℤ) → IsModuliSet set → radius set ≡ 1 → AreResidues set.moduli v → IsInformation set v y → IsTriple set v y t → IsCase set i e a b → t ≡ triple_of set a b → x -ℤ y ≡ a -ℤ b → IsInRange set x → IsCorrection (radius set) None set v x i
found-corrected set v t i e y a b x rules one residues info triple case is apart in_x =
    let ms = set.moduli in
    let channel = case.channel in
    let in' : i < length ms = omega (arith, info_in set rules) in
    let positive = modulus_positive set i rules in' in
    IsCorrection-from_remove set v x i rules residues in_x in' (found-remove set v t i e y a b x rules one residues info triple case is apart) (λ same.
    let at : residue x (get_or ms i 0) ≡ residue y (get_or ms i 0) = sym (get_or-map (residue x) ms i 0 0 in') ∙ ap (λ w. get_or w i 0) (sym same) ∙ sym (info.residues i channel) in
    case-differs set i e a b rules case (ap (λ d. residue d (get_or ms i 0)) (sym apart) ∙ difference_from_same x y _ positive at))

-- ---- what an integer near v tells of the triple
-- integers with the same information residues
same_information : (set : ModuliSet) (x y : ℤ) → IsModuliSet set → IsInRange set x → IsInWindow set y → ((j : ℕ) → j < set.info → residue x (get_or set.moduli j 0) ≡ residue y (get_or set.moduli j 0)) → x ≡ y
same_information set x y rules in_x in_y same =
    let ms = information set in
    let within = info_in set rules in
    let size : length ms ≡ set.info = length-take-le set.info set.moduli (omega arith) in
    let coprime = ArePairwiseCoprime-take set.info set.moduli rules.coprime in
    let lists : vector_of ms x ≡ vector_of ms y = lists_from_places (vector_of ms x) (vector_of ms y) (length-map ms (residue x) ∙ sym (length-map ms (residue y))) (λ j h.
    let j_in : j < set.info = omega (arith, length-map ms (residue x)) in
    at_information set x j j_in (omega arith) ∙ same j j_in ∙ sym (at_information set y j j_in (omega arith))) in
    let x_low = in_x.low in
    let x_high = in_x.high in
    let y_low = in_y.low in
    let y_high = in_y.high in
    by_lt_z y x
    (λ below. sym (same_from_residues ms y x coprime (sym lists) (omega (arith, ints)) (omega (arith, ints, rules.wide))))
    (λ above. same_from_residues ms x y coprime lists above (omega (arith, ints)))

-- y itself: the triple is 0 but at one place
alone_from_remove : (set : ModuliSet) (v t : List ℕ) (y : ℤ) (k c : ℕ) → IsModuliSet set → radius set ≡ 1 → AreResidues set.moduli v → IsTriple set v y t → k < 3 → ((j : ℕ) → j < length set.moduli → set.info ≤ j → j ≢ set.info + k → residue y (get_or set.moduli j 0) ≡ get_or v j 0) → IsAlone t k
alone_from_remove set v t y k c rules one residues triple h same = record {
  place = h;
  others = λ l l_in differ.
      let in' : set.info + l < length set.moduli = omega (arith, count_is set rules one) in
      let positive = modulus_positive set (set.info + l) rules in' in
      let at = same (set.info + l) in' (omega arith) (λ e. differ (omega (arith, e))) in
      triple.residues l l_in ∙ difference_from_same (pos (get_or v (set.info + l) 0)) y _ positive (own_residue set v (set.info + l) residues in' ∙ sym at);
}

-- v has the redundant residues of x: its triple is that of x and y
triple_from_same : (set : ModuliSet) (v t : List ℕ) (x y : ℤ) → IsModuliSet set → radius set ≡ 1 → AreResidues set.moduli v → IsTriple set v y t → ((k : ℕ) → k < 3 → residue x (get_or set.moduli (set.info + k) 0) ≡ get_or v (set.info + k) 0) → t ≡ triple_of set x y
triple_from_same set v t x y rules one residues triple same =
    let d = x -ℤ y in
    let long : length (triple_of set x y) ≡ 3 = omega (arith, length-map (redundant set) (residue d), length-drop set.info set.moduli, count_is set rules one) in
    lists_from_places t (triple_of set x y) (triple.three ∙ sym long) (λ k h.
    let k_in : k < 3 = omega (arith, triple.three) in
    let in' : set.info + k < length set.moduli = omega (arith, count_is set rules one) in
    let positive = modulus_positive set (set.info + k) rules in' in
    let m = get_or set.moduli (set.info + k) 0 in
    let r = get_or v (set.info + k) 0 in
    let at : residue (pos r) m ≡ residue x m = own_residue set v (set.info + k) residues in' ∙ sym (same k k_in) in
    triple.residues k k_in ∙ residue-sub (pos r) y m positive ∙ ap (λ n. residue (pos n -ℤ pos (residue y m)) m) at ∙ sym (residue-sub x y m positive) ∙ sym (at_redundant set d k in'))

-- the error that makes v's residue of x's
record IsError (m a b e : ℕ) : Type 0 where
  some : 0 < e
  below : e < m
  leads : (a + e) % m ≡ b

error_between : (m a b : ℕ) → a < m → b < m → b ≢ a → (e : ℕ) × IsError m a b e
error_between m a b a_in b_in differ =
    let whole = b + (m - a) in
    let e = whole % m in
    let q = whole / m in
    let turns : a + e + q * m ≡ b + 1 * m = omega (arith, div-add-mod' whole m) in
    let leads : (a + e) % m ≡ b = mod-from_turns (a + e) b m q 1 turns ∙ mod-eq_of_lt b_in in
    let some : 0 < e =
    elim (cases_lt 0 e) [
      | inl h ↦ h
      | inr h ↦
          let none : a + e ≡ a = omega arith in
          absurd (differ (sym leads ∙ ap (λ n. n % m) none ∙ mod-eq_of_lt a_in))
    ] in
    (e, record { some = some; below = mod-lt whole (omega arith); leads = leads })

-- an integer near v is y, or the case of v and y
near_tells : (set : ModuliSet) (v t : List ℕ) (x y : ℤ) → IsModuliSet set → radius set ≡ 1 → AreResidues set.moduli v → IsInformation set v y → IsTriple set v y t → IsInRange set x → distance (vector_of set.moduli x) v ≤ 1 → ((k : ℕ) × IsAlone t k) ⊎ ((i : ℕ) × (e : ℕ) × IsCase set i e x y × (t ≡ triple_of set x y))
near_tells set v t x y rules one residues info triple in_x near =
    let ms = set.moduli in
    let vx = vector_of ms x in
    let long : length vx ≡ length ms = length-map ms (residue x) in
    let even = length-vector ms v x residues in
    let place = remove_from_distance vx v even (omega (arith, long, rules.at_least_four)) near in
    let c = place.0 in
    let c_in : c < length ms = omega (arith, long, place.1) in
    let same : (j : ℕ) → j < length ms → j ≢ c → residue x (get_or ms j 0) ≡ get_or v j 0 = λ j h differ.
    sym (get_or-map (residue x) ms j 0 0 h) ∙ places_from_remove vx v c even place.2 j (omega arith) differ in
    let redundant_same : x ≡ y → (j : ℕ) → j < length ms → j ≢ c → residue y (get_or ms j 0) ≡ get_or v j 0 = λ e j h differ.
    ap (λ z. residue z (get_or ms j 0)) (sym e) ∙ same j h differ in
    let within = info_in set rules in
    elim (cases_lt c set.info) [
      | inr high ↦
          let is : x ≡ y = same_information set x y rules in_x info.window (λ j h. same j (omega arith) (λ e. absurd (omega (arith, e))) ∙ sym (info.residues j h)) in
          let k = c - set.info in
          let turn : set.info + k ≡ c = omega arith in
          let k_in : k < 3 = omega (arith, count_is set rules one) in
          inl (k, alone_from_remove set v t y k c rules one residues triple k_in (λ j h up differ. redundant_same is j h (λ e. differ (e ∙ sym turn))))
      | inl low ↦ elim (cases_eq (get_or v c 0) (residue x (get_or ms c 0))) [
        | inl whole ↦
            let all : (j : ℕ) → j < set.info → residue x (get_or ms j 0) ≡ get_or v j 0 = λ j h.
            elim (cases_eq j c) [
              | inl at ↦ ap (λ n. residue x (get_or ms n 0)) at ∙ sym whole ∙ ap (λ n. get_or v n 0) (sym at)
              | inr off ↦ same j (omega arith) off
            ] in
            let is : x ≡ y = same_information set x y rules in_x info.window (λ j h. all j h ∙ sym (info.residues j h)) in
            inl (0, alone_from_remove set v t y 0 c rules one residues triple (omega arith) (λ j h up differ. redundant_same is j h (λ e. absurd (omega (arith, e)))))
        | inr wrong ↦
            let m = get_or ms c 0 in
            let positive = modulus_positive set c rules c_in in
            let error = error_between m (residue x m) (get_or v c 0) (residue-below x m positive) (AreResidues-at ms v c residues c_in) wrong in
            let vi = vector_of (information set) x in
            let w = (residue x m + error.0) % m in
            let size : length (information set) ≡ set.info = length-take-le set.info ms (omega arith) in
            let lists : vector_of (information set) y ≡ put vi c w =
            lists_from_places (vector_of (information set) y) (put vi c w) (length-map (information set) (residue y) ∙ sym (length-set vi c w ∙ length-map (information set) (residue x))) (λ j h.
            let j_in : j < set.info = omega (arith, length-map (information set) (residue y)) in
            at_information set y j j_in (omega arith) ∙ info.residues j j_in ∙ elim (cases_eq j c) [
              | inl at ↦
                  let there : get_or (put vi c w) c 0 ≡ w = get_or-set_same vi c w 0 (omega (arith, length-map (information set) (residue x))) in
                  ap (λ n. get_or v n 0) at ∙ sym error.1.leads ∙ sym there ∙ ap (λ n. get_or (put vi c w) n 0) (sym at)
              | inr off ↦ sym (get_or-set_other vi c j w 0 off ∙ at_information set x j j_in (omega arith) ∙ same j (omega arith) off)
            ]) in
            let case : IsCase set c error.0 x y = record {
              channel = low;
              error = error.1.some;
              below = error.1.below;
              in_range = in_x;
              window = info.window;
              residues = lists;
            } in
            let is = triple_from_same set v t x y rules one residues triple (λ k h. same (set.info + k) (omega (arith, count_is set rules one)) (λ e. absurd (omega (arith, e)))) in
            inr (c, error.0, case, is)
      ]
    ]

-- ---- where the triple is not 0 but at one place
-- it is in the table, and leads out of range
pub found-damaged : (set : ModuliSet) (v t : List ℕ) (i e : ℕ) (y a b x : ℤ) → IsModuliSet set → radius set ≡ 1 → AreResidues set.moduli v → IsInformation set v y → IsTriple set v y t → ((k : ℕ) → IsAlone t k → ⊥) → IsCase set i e a b → t ≡ triple_of set a b → x -ℤ y ≡ a -ℤ b → (IsInRange set x → ⊥) → IsNearest (radius set) None set v None
found-damaged set v t i e y a b x rules one residues info triple many case is apart out z within =
    elim (near_tells set v t z y rules one residues info triple within.in_range (omega (arith, one, within.close))) [
      | inl alone ↦ absurd (many alone.0 alone.1)
      | inr other ↦
          let same : a -ℤ b ≡ z -ℤ y = one_difference set i other.0 e other.1 a b z y rules one case other.2 (sym is ∙ other.3) in
          let here : z ≡ x = omega (arith, ints, same, apart) in
          absurd (out (subst (IsInRange set) here within.in_range))
    ]

-- it is in no table
pub missing-damaged : (set : ModuliSet) (v t : List ℕ) (y : ℤ) → IsModuliSet set → radius set ≡ 1 → AreResidues set.moduli v → IsInformation set v y → IsTriple set v y t → ((k : ℕ) → IsAlone t k → ⊥) → ((i e : ℕ) → IsSyndrome set t i e → ⊥) → IsNearest (radius set) None set v None
missing-damaged set v t y rules one residues info triple many none z within =
    elim (near_tells set v t z y rules one residues info triple within.in_range (omega (arith, one, within.close))) [
      | inl alone ↦ absurd (many alone.0 alone.1)
      | inr other ↦ absurd (none other.0 other.1 (record { x = z; y = y; case = other.2; is = other.3 }))
    ]

-- a triple's residues have 16 bits
pub small_triple : (set : ModuliSet) (v t : List ℕ) (y : ℤ) → IsModuliSet set → radius set ≡ 1 → IsTriple set v y t → (k : ℕ) → k < 3 → get_or t k 0 < 65536
small_triple set v t y rules one triple k h =
    let in' : set.info + k < length set.moduli = omega (arith, count_is set rules one) in
    let m = rules.moduli (set.info + k) 0 in' in
    omega (arith, triple.residues k h, residue-below (pos (get_or v (set.info + k) 0) -ℤ y) (get_or set.moduli (set.info + k) 0) (modulus_positive set (set.info + k) rules in'), m.fits)
