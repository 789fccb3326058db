-- States stay fit as integers and elements within their ranges are put into them.
use Rattle.std.proofs.Common.{◌≡◌, ℕ, suc, ◌+◌, ℤ, ◌≤ℤ◌, List, [], ◌∷◌, ◌++◌, length, refl, sym, ◌∙◌, subst, arith, Bool, true, false, Option, Some, None}
use Rattle.std.specs.Prelude.{if◌then◌else◌, slice_get, slice_set, unsigned_abs, nat_eq}
use Rattle.std.specs.List.{All}
use Rattle.std.specs.Str.{bytes_eq}
use Rattle.std.proofs.lemmas.Int.{ints}
use Rattle.std.proofs.lemmas.Bool.Decides.{nat_tests}
use Rattle.std.proofs.lemmas.List.{length-set}
use Rattle.std.proofs.lemmas.List.Elements.{All-set}
use Rattle.plain_text.specs.Lookup.{lookup}
use Rattle.source_tree.specs.State.{State, with_integer, with_array, with_integers}
use Rattle.source_tree.specs.Scope.{Declared, variable, array, procedure, Scope, is_within, range_of, with_integer_of, with_element_of}
use Rattle.source_tree.specs.Meaning.{start_of}
use Rattle.source_tree.specs.Fits.{variables_from, FitsAs, Fits, number_of, IsAmong, IsScopeOf, Suit}
use Rattle.source_tree.specs.declared.name.Range.{Range}

pub same_number : (j k : ℕ) → nat_eq j k ≡ true → k ≡ j
same_number j k h = grind (arith, nat_tests)

pub start_within : (range : Range) → range.low ≤ℤ range.high → is_within (start_of range) range ≡ true
start_within range h = grind (arith, ints, nat_tests)

-- ---- a list stands in another from a place on
abbrev pub StandsAt : List Declared → ℕ → List Declared → Type 0
StandsAt declared k [] = Unit {0}
StandsAt declared k (d ∷ list) = (slice_get declared k ≡ Some d) × StandsAt declared (k + 1) list

stands_later : (declared : List Declared) (x : Declared) (k : ℕ) (list : List Declared)
    → StandsAt declared k list → StandsAt (x ∷ declared) (suc k) list
stands_later declared x k [] h = tt
stands_later declared x k (d ∷ list) h =
    let e : suc (k + 1) ≡ suc k + 1 = omega arith in
    (h.0, subst (λ n. StandsAt (x ∷ declared) n list) e (stands_later declared x (k + 1) list h.1))

pub stands_whole : (declared : List Declared) → StandsAt declared 0 declared
stands_whole [] = tt
stands_whole (d ∷ declared) = (refl, stands_later declared d 0 declared (stands_whole declared))

pub stands_parts : (declared : List Declared) (k : ℕ) (xs ys : List Declared)
    → StandsAt declared k (xs ++ ys) → StandsAt declared k xs × StandsAt declared (k + length xs) ys
stands_parts declared k [] ys h = let e : k ≡ k + 0 = omega arith in (tt, subst (λ n. StandsAt declared n ys) e h)
stands_parts declared k (d ∷ xs) ys h =
    let r = stands_parts declared (k + 1) xs ys h.1 in
    let e : k + 1 + length xs ≡ k + length (d ∷ xs) = omega arith in
    ((h.0, r.0), subst (λ n. StandsAt declared n ys) e r.1)

module _ (declared : List Declared) where
  -- ---- puts
  pub with_integer_fits : (k : ℕ) (range : Range) (v : ℤ) (state : State)
      → slice_get declared k ≡ Some (variable k range) → is_within v range ≡ true
      → Fits declared state → Fits declared (with_integer k v state)
  with_integer_fits k range v state t h fits j = of (nat_eq j k) refl
    where
      of : (b : Bool) → nat_eq j k ≡ b → FitsAs (slice_get declared j) (if b then v else state.integers j) (state.arrays j)
      of true e =
          subst (λ i. FitsAs (slice_get declared i) v (state.arrays j)) (same_number j k e)
          (subst (λ o. FitsAs o v (state.arrays j)) (sym t) h)
      of false e = fits j

  pub with_array_fits : (k : ℕ) (len : ℤ) (range : Range) (xs : List ℤ) (state : State)
      → slice_get declared k ≡ Some (array k len range) → length xs ≡ unsigned_abs len → All (λ e. is_within e range ≡ true) xs
      → Fits declared state → Fits declared (with_array k xs state)
  with_array_fits k len range xs state t l h fits j = of (nat_eq j k) refl
    where
      of : (b : Bool) → nat_eq j k ≡ b → FitsAs (slice_get declared j) (state.integers j) (if b then xs else state.arrays j)
      of true e =
          subst (λ i. FitsAs (slice_get declared i) (state.integers j) xs) (same_number j k e)
          (subst (λ o. FitsAs o (state.integers j) xs) (sym t) (l, h))
      of false e = fits j

  pub with_integer_of_fits : (o : Option Declared) (v : ℤ) (state : State)
      → IsAmong declared o → is_within v (range_of o) ≡ true → Fits declared state → Fits declared (with_integer_of o v state)
  with_integer_of_fits (Some (variable k range)) v state t h fits = with_integer_fits k range v state t h fits
  with_integer_of_fits (Some (array k len range)) v state t h fits = fits
  with_integer_of_fits (Some (procedure k params)) v state t h fits = fits
  with_integer_of_fits None v state t h fits = fits

  pub with_element_of_fits : (o : Option Declared) (i v : ℤ) (state : State)
      → IsAmong declared o → is_within v (range_of o) ≡ true → Fits declared state → Fits declared (with_element_of o i v state)
  with_element_of_fits (Some (array k len range)) i v state t h fits =
      let f : FitsAs (Some (array k len range)) (state.integers k) (state.arrays k) =
      subst (λ o. FitsAs o (state.integers k) (state.arrays k)) t (fits k) in
      with_array_fits k len range (slice_set (state.arrays k) (unsigned_abs i) v) state t
      (length-set (state.arrays k) (unsigned_abs i) v ∙ f.0)
      (All-set (λ e. is_within e range ≡ true) (state.arrays k) (unsigned_abs i) v h f.1) fits
  with_element_of_fits (Some (variable k range)) i v state t h fits = fits
  with_element_of_fits (Some (procedure k params)) i v state t h fits = fits
  with_element_of_fits None i v state t h fits = fits

  -- arguments into parameters
  pub with_integers_fits : (k : ℕ) (ranges : List Range) (xs : List ℤ) (state : State)
      → StandsAt declared k (variables_from k ranges) → Suit xs ranges
      → Fits declared state → Fits declared (with_integers k xs state)
  with_integers_fits k ranges [] state s suit fits = fits
  with_integers_fits k [] (x ∷ xs) state s suit fits = absurd suit
  with_integers_fits k (range ∷ ranges) (x ∷ xs) state s suit fits =
      with_integers_fits (k + 1) ranges xs (with_integer k x state) s.1 suit.1
      (with_integer_fits k range x state s.0 suit.0 fits)

  -- ---- scopes
  pub scope_more : (scope : Scope) (y : List ℕ) (d : Declared)
      → slice_get declared (number_of d) ≡ Some d → IsScopeOf declared scope → IsScopeOf declared (scope ++ (y, d) ∷ [])
  scope_more scope y d t h x = within_all scope (h x)
    where
      last : (b : Bool) → IsAmong declared (if b then Some d else None)
      last true = t
      last false = tt

      within_all : (l : Scope) → IsAmong declared (lookup x l) → IsAmong declared (lookup x (l ++ (y, d) ∷ []))
      within_all [] h = last (bytes_eq y x)
      within_all (entry ∷ l) h = of (bytes_eq entry.0 x) (λ k. within_all l k) h
        where
          of : (b : Bool) → (IsAmong declared (lookup x l) → IsAmong declared (lookup x (l ++ (y, d) ∷ [])))
              → IsAmong declared (if b then Some entry.1 else lookup x l)
              → IsAmong declared (if b then Some entry.1 else lookup x (l ++ (y, d) ∷ []))
          of true more h = h
          of false more h = more h
