-- The distance of lists: it is a metric, and what distance 1 at the most says of the places.
use Rattle.std.proofs.Common.{◌≡◌, ◌≢◌, ℕ, zero, suc, ◌+◌, ◌<◌, ◌≤◌, ◌==◌, if◌then◌else◌, Bool, true, false, List, [], ◌∷◌, ◌++◌, length, map, get_or, Option, Some, None, eq-eqb, refl, sym, ap, ◌∙◌, arith, inl, inr}
use Rattle.std.specs.List.{remove}
use Rattle.std.proofs.lemmas.Bool.{cases_eq, cases_lt, ne_eqb}
use Rattle.std.proofs.lemmas.Bool.Decides.{nat_tests}
use Rattle.std.proofs.lemmas.List.{length-map}
use Rattle.std.proofs.lemmas.List.Edits.{length-remove}
use Rattle.number_theory.specs.Distance.{distance}
use Rattle.redundant_decoder.specs.Nearest.{without, different_places}

-- ---- one place
-- what one place adds to the distance
abbrev step : ℕ → ℕ → ℕ
step x y = if x == y then 0 else 1

step-same : (x y : ℕ) → x ≡ y → step x y ≡ 0
step-same x y e = grind (arith, nat_tests)

step-other : (x y : ℕ) → x ≢ y → step x y ≡ 1
step-other x y h = ap (λ b. if b then 0 else 1) (ne_eqb x y h)

step-comm : (x y : ℕ) → step x y ≡ step y x
step-comm x y = grind (arith, nat_tests)

step-triangle : (x y z : ℕ) → step x z ≤ step x y + step y z
step-triangle x y z = grind (arith, nat_tests)

same_from_step : (x y : ℕ) → step x y ≡ 0 → x ≡ y
same_from_step x y e = grind (arith, nat_tests)

step-most : (x y : ℕ) → step x y ≤ 1
step-most x y = grind (arith, nat_tests)

-- ---- a metric
-- a list is at distance 0 from itself
pub distance-self : (xs : List ℕ) → distance xs xs ≡ 0
distance-self [] = refl
distance-self (x ∷ xs) = omega (arith, step-same x x refl, distance-self xs)

-- the distance is the same both ways
pub distance-comm : (xs ys : List ℕ) → distance xs ys ≡ distance ys xs
distance-comm [] [] = refl
distance-comm [] (y ∷ ys) = refl
distance-comm (x ∷ xs) [] = refl
distance-comm (x ∷ xs) (y ∷ ys) = omega (arith, step-comm x y, distance-comm xs ys)

-- the way by a third list is no shorter
pub distance-triangle : (xs ys zs : List ℕ) → length xs ≡ length ys → distance xs zs ≤ distance xs ys + distance ys zs
distance-triangle [] ys zs e = omega arith
distance-triangle (x ∷ xs) [] zs e = absurd (omega arith)
distance-triangle (x ∷ xs) (y ∷ ys) [] e = omega arith
distance-triangle (x ∷ xs) (y ∷ ys) (z ∷ zs) e = omega (arith, step-triangle x y z, distance-triangle xs ys zs (omega arith))

-- lists at distance 0 are equal
pub same_from_distance : (xs ys : List ℕ) → length xs ≡ length ys → distance xs ys ≡ 0 → xs ≡ ys
same_from_distance [] [] e none = refl
same_from_distance [] (y ∷ ys) e none = absurd (omega arith)
same_from_distance (x ∷ xs) [] e none = absurd (omega arith)
same_from_distance (x ∷ xs) (y ∷ ys) e none =
    let head = same_from_step x y (omega arith) in
    let tail = same_from_distance xs ys (omega arith) (omega arith) in
    cc

-- two lists near a third are near each other
pub distance-by_third : (xs ys vs : List ℕ) (t u : ℕ) → length xs ≡ length vs → distance xs vs ≤ t → distance ys vs ≤ u → distance xs ys ≤ t + u
distance-by_third xs ys vs t u e near_x near_y = omega (arith, distance-triangle xs vs ys e, distance-comm ys vs)

-- ---- distance 1 at the most
-- lists that agree but for place i
pub distance_from_remove : (xs ys : List ℕ) (i : ℕ) → length xs ≡ length ys → remove xs i ≡ remove ys i → distance xs ys ≤ 1
distance_from_remove [] ys i e same = omega arith
distance_from_remove (x ∷ xs) [] i e same = absurd (omega arith)
distance_from_remove (x ∷ xs) (y ∷ ys) zero e same =
    let tail : xs ≡ ys = same in
    let rest : distance xs ys ≡ 0 = ap (λ zs. distance zs ys) tail ∙ distance-self ys in
    omega (arith, step-most x y)
distance_from_remove (x ∷ xs) (y ∷ ys) (suc i) e same =
    let head : x ≡ y = cc in
    let tail : remove xs i ≡ remove ys i = cc in
    omega (arith, step-same x y head, distance_from_remove xs ys i (omega arith) tail)

-- and agree at place i too
pub same_from_remove : (xs ys : List ℕ) (i : ℕ) → length xs ≡ length ys → i < length xs → remove xs i ≡ remove ys i → get_or xs i 0 ≡ get_or ys i 0 → xs ≡ ys
same_from_remove [] ys i e h same here = absurd (omega arith)
same_from_remove (x ∷ xs) [] i e h same here = absurd (omega arith)
same_from_remove (x ∷ xs) (y ∷ ys) zero e h same here = let tail : xs ≡ ys = same in cc
same_from_remove (x ∷ xs) (y ∷ ys) (suc i) e h same here =
    let head : x ≡ y = cc in
    let rest : remove xs i ≡ remove ys i = cc in
    let tail : xs ≡ ys = same_from_remove xs ys i (omega arith) (omega arith) rest here in
    cc

-- lists at distance 1 at the most agree but for one place
pub remove_from_distance : (xs ys : List ℕ) → length xs ≡ length ys → 0 < length xs → distance xs ys ≤ 1 → (i : ℕ) × (i < length xs) × (remove xs i ≡ remove ys i)
remove_from_distance [] ys e some near = absurd (omega arith)
remove_from_distance (x ∷ xs) [] e some near = absurd (omega arith)
remove_from_distance (x ∷ []) (y ∷ []) e some near = (0, omega arith, refl)
remove_from_distance (x ∷ []) (y ∷ b ∷ ys) e some near = absurd (omega arith)
remove_from_distance (x ∷ a ∷ xs) (y ∷ []) e some near = absurd (omega arith)
remove_from_distance (x ∷ a ∷ xs) (y ∷ b ∷ ys) e some near =
    elim (cases_eq x y) [
      | inl same ↦
          let s = remove_from_distance (a ∷ xs) (b ∷ ys) (omega arith) (omega arith) (omega arith) in
          (suc s.0, omega (arith, s.1), let tail = s.2 in cc)
      | inr other ↦
          let tail = same_from_distance (a ∷ xs) (b ∷ ys) (omega arith) (omega (arith, step-other x y other)) in
          (0, omega arith, tail)
    ]

-- a list that ends at place i or before has nothing to remove there
pub remove-past : (xs : List ℕ) (i : ℕ) → length xs ≤ i → remove xs i ≡ xs
remove-past [] zero h = refl
remove-past [] (suc i) h = refl
remove-past (x ∷ xs) zero h = absurd (omega arith)
remove-past (x ∷ xs) (suc i) h = ap (λ rest. x ∷ rest) (remove-past xs i (omega arith))

length-remove_same : (xs ys : List ℕ) (i : ℕ) → length xs ≡ length ys → length (remove xs i) ≡ length (remove ys i)
length-remove_same xs ys i e =
    elim (cases_lt i (length xs)) [
      | inl h ↦ omega (arith, length-remove xs i h, length-remove ys i (omega arith))
      | inr h ↦ ap length (remove-past xs i h) ∙ e ∙ sym (ap length (remove-past ys i (omega arith)))
    ]

-- at most one element is removed
pub length-remove_least : (xs : List ℕ) (i : ℕ) → length xs ≤ length (remove xs i) + 1
length-remove_least xs i =
    elim (cases_lt i (length xs)) [
      | inl h ↦ omega (arith, length-remove xs i h)
      | inr h ↦ omega (arith, ap length (remove-past xs i h))
    ]

-- lists of one length have one length without an erased place too
pub length-without_same : (erased : Option ℕ) (xs ys : List ℕ) → length xs ≡ length ys → length (without erased xs) ≡ length (without erased ys)
length-without_same None xs ys e = e
length-without_same (Some i) xs ys e = length-remove_same xs ys i e

-- ---- the places in which lists differ
-- whether one place is among them
abbrev mark : ℕ → ℕ → List ℕ
mark x y = if x == y then [] else (0 ∷ [])

marks_as_step : (b : Bool) (places : List ℕ) (d : ℕ) → length places ≡ d → length ((if b then [] else (0 ∷ [])) ++ map suc places) ≡ (if b then 0 else 1) + d
marks_as_step true places d e = length-map places suc ∙ e ∙ omega arith
marks_as_step false places d e = omega (arith, length-map places suc)

distance-none : (xs : List ℕ) → distance xs [] ≡ 0
distance-none [] = refl
distance-none (x ∷ xs) = refl

-- there are as many as the distance without the erased place says
pub length-different_places : (erased : Option ℕ) (xs ys : List ℕ) → length (different_places erased xs ys) ≡ distance (without erased xs) (without erased ys)
length-different_places None [] ys = refl
length-different_places (Some zero) [] ys = refl
length-different_places (Some (suc i)) [] ys = refl
length-different_places None (x ∷ xs) [] = refl
length-different_places (Some zero) (x ∷ xs) [] = sym (distance-none xs)
length-different_places (Some (suc i)) (x ∷ xs) [] = refl
length-different_places None (x ∷ xs) (y ∷ ys) =
    marks_as_step (x == y) (different_places None xs ys) _ (length-different_places None xs ys)
length-different_places (Some zero) (x ∷ xs) (y ∷ ys) =
    length-map (different_places None xs ys) suc ∙ length-different_places None xs ys
length-different_places (Some (suc i)) (x ∷ xs) (y ∷ ys) =
    marks_as_step (x == y) (different_places (Some i) xs ys) _ (length-different_places (Some i) xs ys)

none_from_length : (xs : List ℕ) → length xs ≡ 0 → xs ≡ []
none_from_length [] e = refl
none_from_length (x ∷ xs) e = absurd (omega arith)

different_places-self : (xs : List ℕ) → different_places None xs xs ≡ []
different_places-self xs =
    none_from_length (different_places None xs xs) (length-different_places None xs xs ∙ distance-self xs)

-- lists that agree but for place i differ there alone
pub different_places-remove : (xs ys : List ℕ) (i : ℕ) → length xs ≡ length ys → i < length xs → remove xs i ≡ remove ys i → get_or xs i 0 ≢ get_or ys i 0 → different_places None xs ys ≡ i ∷ []
different_places-remove [] ys i e h same other = absurd (omega arith)
different_places-remove (x ∷ xs) [] i e h same other = absurd (omega arith)
different_places-remove (x ∷ xs) (y ∷ ys) zero e h same other =
    let tail : xs ≡ ys = same in
    let rest : different_places None xs ys ≡ [] = ap (λ zs. different_places None zs ys) tail ∙ different_places-self ys in
    ap (λ b. (if b then [] else (0 ∷ [])) ++ map suc (different_places None xs ys)) (ne_eqb x y other)
    ∙ ap (λ places. 0 ∷ map suc places) rest
different_places-remove (x ∷ xs) (y ∷ ys) (suc i) e h same other =
    let head : x ≡ y = cc in
    let tail : remove xs i ≡ remove ys i = cc in
    let rest = different_places-remove xs ys i (omega arith) (omega arith) tail other in
    ap (λ b. (if b then [] else (0 ∷ [])) ++ map suc (different_places None xs ys)) (eq-eqb x y head)
    ∙ ap (map suc) rest
