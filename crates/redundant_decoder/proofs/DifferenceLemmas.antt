-- The places in which lists differ: which they are, and their order.
use Rattle.std.proofs.Common.{◌≡◌, ◌≢◌, ℕ, zero, suc, ◌+◌, ◌==◌, ◌↔◌, if◌then◌else◌, List, [], ◌∷◌, ◌++◌, length, map, get_or, Option, Some, None, All, Contains, eq-eqb, refl, sym, ap, ◌∙◌, subst, arith, inl, inr}
use Rattle.std.specs.List.Sorted.{IsStrictlyIncreasing}
use Rattle.std.proofs.lemmas.Bool.{cases_eq, ne_eqb}
use Rattle.std.proofs.lemmas.List.{get_or-map, length-map}
use Rattle.std.proofs.lemmas.List.Elements.{All-append, All-contains, All-from_recursion, All-map, All-weaker, Contains-append_left, Contains-append_right}
use Rattle.redundant_decoder.specs.Nearest.{DifferAt, different_places}

-- ---- one place
-- place 0, where the first entries differ
abbrev mark : ℕ → ℕ → List ℕ
mark x y = if x == y then [] else (0 ∷ [])

mark-same : (x y : ℕ) → x ≡ y → mark x y ≡ []
mark-same x y e = ap (λ b. if b then [] else (0 ∷ [])) (eq-eqb x y e)

mark-other : (x y : ℕ) → x ≢ y → mark x y ≡ 0 ∷ []
mark-other x y other = ap (λ b. if b then [] else (0 ∷ [])) (ne_eqb x y other)

All-mark : (P : ℕ → Type 0) (x y : ℕ) → (x ≢ y → P 0) → All P (mark x y)
All-mark P x y head =
    elim (cases_eq x y) as (λ c. All P (mark x y)) [
      | inl e ↦ subst (All P) (sym (mark-same x y e)) (All-from_recursion P [] tt)
      | inr other ↦ subst (All P) (sym (mark-other x y other)) (All-from_recursion P (0 ∷ []) (head other, tt))
    ]

All-places : (P : ℕ → Type 0) (x y : ℕ) (places : List ℕ) → (x ≢ y → P 0) → All (λ k. P (suc k)) places → All P (mark x y ++ map suc places)
All-places P x y places head rest = All-append P (mark x y) (map suc places) (All-mark P x y head) (All-map P suc places rest)

Contains-mark : (x y : ℕ) (places : List ℕ) → x ≢ y → Contains (mark x y ++ places) 0
Contains-mark x y places other =
    Contains-append_left (mark x y) places 0 (subst (λ xs. Contains xs 0) (sym (mark-other x y other)) (0, omega arith, refl))

Contains-suc : (xs : List ℕ) (k : ℕ) → Contains xs k → Contains (map suc xs) (suc k)
Contains-suc xs k h =
    (h.0, omega (arith, h.1, length-map xs suc), get_or-map suc xs h.0 k (suc k) h.1 ∙ ap suc h.2)

-- ---- which they are
different_from_some : (i : ℕ) → None ≢ Some i
different_from_some i e = cc

later_counts : (i k : ℕ) → Some i ≢ Some k → Some (suc i) ≢ Some (suc k)
later_counts i k h e = let same : suc i ≡ suc k = cc in let before : i ≡ k = omega arith in h (ap Some before)

first_counts : (i : ℕ) → Some (suc i) ≢ Some zero
first_counts i e = let same : suc i ≡ zero = cc in omega arith

others_count : (k : ℕ) → Some zero ≢ Some (suc k)
others_count k e = let same : zero ≡ suc k = cc in omega arith

all_differ : (erased : Option ℕ) (xs ys : List ℕ) → length xs ≡ length ys → All (DifferAt erased xs ys) (different_places erased xs ys)
all_differ None [] ys e = All-from_recursion (DifferAt None [] ys) [] tt
all_differ (Some zero) [] ys e = All-from_recursion (DifferAt (Some zero) [] ys) [] tt
all_differ (Some (suc i)) [] ys e = All-from_recursion (DifferAt (Some (suc i)) [] ys) [] tt
all_differ None (x ∷ xs) [] e = absurd (omega arith)
all_differ (Some zero) (x ∷ xs) [] e = absurd (omega arith)
all_differ (Some (suc i)) (x ∷ xs) [] e = absurd (omega arith)
all_differ None (x ∷ xs) (y ∷ ys) e =
    All-places (DifferAt None (x ∷ xs) (y ∷ ys)) x y (different_places None xs ys)
    (λ other. record { inside = omega arith; counts = different_from_some zero; differs = other })
    (All-weaker (DifferAt None xs ys) (λ k. DifferAt None (x ∷ xs) (y ∷ ys) (suc k))
    (λ k h. record { inside = omega (arith, h.inside); counts = different_from_some (suc k); differs = h.differs })
    (different_places None xs ys) (all_differ None xs ys (omega arith)))
all_differ (Some zero) (x ∷ xs) (y ∷ ys) e =
    All-map (DifferAt (Some zero) (x ∷ xs) (y ∷ ys)) suc (different_places None xs ys)
    (All-weaker (DifferAt None xs ys) (λ k. DifferAt (Some zero) (x ∷ xs) (y ∷ ys) (suc k))
    (λ k h. record { inside = omega (arith, h.inside); counts = others_count k; differs = h.differs })
    (different_places None xs ys) (all_differ None xs ys (omega arith)))
all_differ (Some (suc i)) (x ∷ xs) (y ∷ ys) e =
    All-places (DifferAt (Some (suc i)) (x ∷ xs) (y ∷ ys)) x y (different_places (Some i) xs ys)
    (λ other. record { inside = omega arith; counts = first_counts i; differs = other })
    (All-weaker (DifferAt (Some i) xs ys) (λ k. DifferAt (Some (suc i)) (x ∷ xs) (y ∷ ys) (suc k))
    (λ k h. record { inside = omega (arith, h.inside); counts = later_counts i k h.counts; differs = h.differs })
    (different_places (Some i) xs ys) (all_differ (Some i) xs ys (omega arith)))

contains : (erased : Option ℕ) (xs ys : List ℕ) (k : ℕ) → length xs ≡ length ys → DifferAt erased xs ys k → Contains (different_places erased xs ys) k
contains erased [] ys k e h = absurd (omega (arith, h.inside))
contains erased (x ∷ xs) [] k e h = absurd (omega arith)
contains None (x ∷ xs) (y ∷ ys) zero e h = Contains-mark x y (map suc (different_places None xs ys)) h.differs
contains None (x ∷ xs) (y ∷ ys) (suc k) e h =
    let rest : DifferAt None xs ys k = record { inside = omega (arith, h.inside); counts = different_from_some k; differs = h.differs } in
    Contains-append_right (mark x y) (map suc (different_places None xs ys)) (suc k) (Contains-suc (different_places None xs ys) k (contains None xs ys k (omega arith) rest))
contains (Some zero) (x ∷ xs) (y ∷ ys) zero e h = absurd (h.counts refl)
contains (Some zero) (x ∷ xs) (y ∷ ys) (suc k) e h =
    let rest : DifferAt None xs ys k = record { inside = omega (arith, h.inside); counts = different_from_some k; differs = h.differs } in
    Contains-suc (different_places None xs ys) k (contains None xs ys k (omega arith) rest)
contains (Some (suc i)) (x ∷ xs) (y ∷ ys) zero e h = Contains-mark x y (map suc (different_places (Some i) xs ys)) h.differs
contains (Some (suc i)) (x ∷ xs) (y ∷ ys) (suc k) e h =
    let counts : Some i ≢ Some k = λ (same : Some i ≡ Some k). h.counts (let before : i ≡ k = cc in ap (λ n. Some (suc n)) before) in
    let rest : DifferAt (Some i) xs ys k = record { inside = omega (arith, h.inside); counts = counts; differs = h.differs } in
    Contains-append_right (mark x y) (map suc (different_places (Some i) xs ys)) (suc k) (Contains-suc (different_places (Some i) xs ys) k (contains (Some i) xs ys k (omega arith) rest))

pub different_places-are : (erased : Option ℕ) (xs ys : List ℕ) (k : ℕ) → length xs ≡ length ys → Contains (different_places erased xs ys) k ↔ DifferAt erased xs ys k
different_places-are erased xs ys k e =
    (λ h. All-contains (DifferAt erased xs ys) (different_places erased xs ys) k (all_differ erased xs ys e) h, contains erased xs ys k e)

-- ---- their order
IsStrictlyIncreasing-suc : (xs : List ℕ) → IsStrictlyIncreasing xs → IsStrictlyIncreasing (map suc xs)
IsStrictlyIncreasing-suc xs h k in' =
    let size = length-map xs suc in
    omega (arith, get_or-map suc xs k 0 0 (omega arith), get_or-map suc xs (k + 1) 0 0 (omega arith), h k (omega arith))

IsStrictlyIncreasing-zero : (xs : List ℕ) → IsStrictlyIncreasing xs → IsStrictlyIncreasing (0 ∷ map suc xs)
IsStrictlyIncreasing-zero xs h zero in' =
    let size = length-map xs suc in
    omega (arith, get_or-map suc xs 0 0 0 (omega arith))
IsStrictlyIncreasing-zero xs h (suc k) in' =
    let turn : suc k + 1 ≡ suc (k + 1) = omega arith in
    let next : get_or (0 ∷ map suc xs) (suc k + 1) 0 ≡ get_or (map suc xs) (k + 1) 0 = ap (λ n. get_or (0 ∷ map suc xs) n 0) turn in
    omega (arith, next, IsStrictlyIncreasing-suc xs h k (omega arith))

IsStrictlyIncreasing-mark : (x y : ℕ) (xs : List ℕ) → IsStrictlyIncreasing xs → IsStrictlyIncreasing (mark x y ++ map suc xs)
IsStrictlyIncreasing-mark x y xs h =
    elim (cases_eq x y) as (λ c. IsStrictlyIncreasing (mark x y ++ map suc xs)) [
      | inl e ↦ subst (λ places. IsStrictlyIncreasing (places ++ map suc xs)) (sym (mark-same x y e)) (IsStrictlyIncreasing-suc xs h)
      | inr other ↦
          subst (λ places. IsStrictlyIncreasing (places ++ map suc xs)) (sym (mark-other x y other)) (IsStrictlyIncreasing-zero xs h)
    ]

none_increases : IsStrictlyIncreasing []
none_increases k in' = absurd (omega arith)

pub IsStrictlyIncreasing-different_places : (erased : Option ℕ) (xs ys : List ℕ) → IsStrictlyIncreasing (different_places erased xs ys)
IsStrictlyIncreasing-different_places None [] ys = none_increases
IsStrictlyIncreasing-different_places (Some zero) [] ys = none_increases
IsStrictlyIncreasing-different_places (Some (suc i)) [] ys = none_increases
IsStrictlyIncreasing-different_places None (x ∷ xs) [] = none_increases
IsStrictlyIncreasing-different_places (Some zero) (x ∷ xs) [] = none_increases
IsStrictlyIncreasing-different_places (Some (suc i)) (x ∷ xs) [] = none_increases
IsStrictlyIncreasing-different_places None (x ∷ xs) (y ∷ ys) =
    IsStrictlyIncreasing-mark x y (different_places None xs ys) (IsStrictlyIncreasing-different_places None xs ys)
IsStrictlyIncreasing-different_places (Some zero) (x ∷ xs) (y ∷ ys) =
    IsStrictlyIncreasing-suc (different_places None xs ys) (IsStrictlyIncreasing-different_places None xs ys)
IsStrictlyIncreasing-different_places (Some (suc i)) (x ∷ xs) (y ∷ ys) =
    IsStrictlyIncreasing-mark x y (different_places (Some i) xs ys) (IsStrictlyIncreasing-different_places (Some i) xs ys)
