-- The interval of an expression holds its value in each state of the declarations.
use Rattle.std.proofs.Common.{◌≡◌, ℕ, ℤ, pos, ◌*ℤ◌, ◌≤ℤ◌, Bool, true, false, List, [], ◌∷◌, Some, None, if◌then◌else◌, subst, arith}
use Rattle.std.proofs.lemmas.Int.{ints}
use Rattle.std.proofs.lemmas.Option.{option_and_then_some}
use Rattle.std.specs.Option.{option_and_then}
use Rattle.std.specs.Str.{bytes_eq}
use Rattle.number_theory.proofs.IntervalLemmas.{product_between}
use Rattle.thin_source.specs.declared.interval.Interval.{Interval}
use Rattle.thin_source.specs.Interval.{point, interval_product, is_within}
use Rattle.thin_source.specs.ThinTree.{Atom, number, name, Product, Sign, plus, minus, Sum, Declaration}
use Rattle.thin_source.specs.ThinRules.{pocket_range, fitting, declared_interval, range_of, atom_interval, factors_interval, product_interval, joined_interval, terms_interval, sum_interval}
use Rattle.thin_source.specs.ThinMeaning.{State, value_in, atom_value, times_factors, product_value, joined, with_terms, sum_value}
use Rattle.thin_source.specs.ThinStates.{LiesIn, IsStateOf}

-- ---- intervals that fit
pub within_parts : (inner outer : Interval) → is_within inner outer ≡ true → (outer.low ≤ℤ inner.low) × (inner.low ≤ℤ inner.high) × (inner.high ≤ℤ outer.high)
within_parts inner outer e = (grind (arith, ints), grind (arith, ints), grind (arith, ints))

pub LiesIn-within : (inner outer : Interval) (x : ℤ) → is_within inner outer ≡ true → LiesIn inner x → LiesIn outer x
LiesIn-within inner outer x e in_inner =
    let parts = within_parts inner outer e in
    record { low = omega (arith, ints, parts.0, in_inner.low); high = omega (arith, ints, parts.2, in_inner.high) }

LiesIn-fitting : (i j : Interval) (x : ℤ) → fitting i ≡ Some j → LiesIn i x → LiesIn j x
LiesIn-fitting i j x e in_i =
    elim (is_within i pocket_range) as (λ (b : Bool). (if b then Some i else None) ≡ Some j → LiesIn j x) [
      | true ↦ λ found. let same : i ≡ j = cc in subst (λ k. LiesIn k x) same in_i
      | false ↦ λ none. cc
    ] e

LiesIn-point : (x : ℤ) → LiesIn (point x) x
LiesIn-point x = record { low = omega (arith, ints); high = omega (arith, ints) }

LiesIn-product : (i j : Interval) (x y : ℤ) → LiesIn i x → LiesIn j y → LiesIn (interval_product i j) (x *ℤ y)
unfolding interval_product
LiesIn-product i j x y in_i in_j =
    let between = product_between i.low i.high j.low j.high x y in_i.low in_i.high in_j.low in_j.high in
    record { low = between.0; high = between.1 }

LiesIn-joined : (sign : Sign) (i j : Interval) (x y : ℤ) → LiesIn i x → LiesIn j y → LiesIn (joined_interval sign i j) (joined sign x y)
LiesIn-joined plus i j x y in_i in_j = record { low = omega (arith, ints, in_i.low, in_j.low); high = omega (arith, ints, in_i.high, in_j.high) }
LiesIn-joined minus i j x y in_i in_j = record { low = omega (arith, ints, in_i.low, in_j.high); high = omega (arith, ints, in_i.high, in_j.low) }

-- ---- names, atoms, products and sums
LiesIn-range_of : (ds : List Declaration) (state : State) (x : List ℕ) (i : Interval) → IsStateOf ds state → range_of ds x ≡ Some i → LiesIn i (value_in state x)
LiesIn-range_of [] state x i fits e = cc
LiesIn-range_of (d ∷ ds) [] x i fits e = absurd fits
LiesIn-range_of (d ∷ ds) (v ∷ state) x i (same, here, rest) e =
    rw same (elim (bytes_eq d.name x) as (λ (b : Bool). (if b then Some (declared_interval d) else range_of ds x) ≡ Some i → LiesIn i (if b then v.1 else value_in state x)) [
      | true ↦ λ found. let same : declared_interval d ≡ i = cc in subst (λ k. LiesIn k v.1) same here
      | false ↦ λ later. LiesIn-range_of ds state x i rest later
    ] e)

LiesIn-atom : (ds : List Declaration) (state : State) (atom : Atom) (i : Interval) → IsStateOf ds state → atom_interval ds atom ≡ Some i → LiesIn i (atom_value state atom)
LiesIn-atom ds state (number n) i fits e = LiesIn-fitting (point (pos n)) i (pos n) e (LiesIn-point (pos n))
LiesIn-atom ds state (name x) i fits e =
    option_and_then_some fitting (range_of ds x) i e (λ j found fit. LiesIn-fitting j i (value_in state x) fit (LiesIn-range_of ds state x j fits found))

LiesIn-factors : (ds : List Declaration) (state : State) (atoms : List Atom) (i k : Interval) (x : ℤ) → IsStateOf ds state → LiesIn i x → factors_interval ds i atoms ≡ Some k → LiesIn k (times_factors state x atoms)
LiesIn-factors ds state [] i k x fits in_i e = let same : i ≡ k = cc in subst (λ m. LiesIn m x) same in_i
LiesIn-factors ds state (atom ∷ atoms) i k x fits in_i e =
    let y = atom_value state atom in
    option_and_then_some (λ j. option_and_then (λ m. factors_interval ds m atoms) (fitting (interval_product i j))) (atom_interval ds atom) k e
    (λ j at after. option_and_then_some (λ m. factors_interval ds m atoms) (fitting (interval_product i j)) k after
    (λ m fit rest. LiesIn-factors ds state atoms m k (x *ℤ y) fits (LiesIn-fitting (interval_product i j) m (x *ℤ y) fit (LiesIn-product i j x y in_i (LiesIn-atom ds state atom j fits at))) rest))

LiesIn-product_interval : (ds : List Declaration) (state : State) (product : Product) (k : Interval) → IsStateOf ds state → product_interval ds product ≡ Some k → LiesIn k (product_value state product)
LiesIn-product_interval ds state product k fits e =
    option_and_then_some (λ i. factors_interval ds i product.more) (atom_interval ds product.first) k e
    (λ i at rest. LiesIn-factors ds state product.more i k (atom_value state product.first) fits (LiesIn-atom ds state product.first i fits at) rest)

LiesIn-terms : (ds : List Declaration) (state : State) (terms : List (Sign × Product)) (i k : Interval) (x : ℤ) → IsStateOf ds state → LiesIn i x → terms_interval ds i terms ≡ Some k → LiesIn k (with_terms state x terms)
LiesIn-terms ds state [] i k x fits in_i e = let same : i ≡ k = cc in subst (λ m. LiesIn m x) same in_i
LiesIn-terms ds state (term ∷ terms) i k x fits in_i e =
    let y = product_value state term.1 in
    let z = joined term.0 x y in
    option_and_then_some (λ j. option_and_then (λ m. terms_interval ds m terms) (fitting (joined_interval term.0 i j))) (product_interval ds term.1) k e
    (λ j at after. option_and_then_some (λ m. terms_interval ds m terms) (fitting (joined_interval term.0 i j)) k after
    (λ m fit rest. LiesIn-terms ds state terms m k z fits (LiesIn-fitting (joined_interval term.0 i j) m z fit (LiesIn-joined term.0 i j x y in_i (LiesIn-product_interval ds state term.1 j fits at))) rest))

-- the value of a sum lies in its interval
pub LiesIn-sum_interval : (ds : List Declaration) (state : State) (sum : Sum) (k : Interval) → IsStateOf ds state → sum_interval ds sum ≡ Some k → LiesIn k (sum_value state sum)
LiesIn-sum_interval ds state sum k fits e =
    option_and_then_some (λ i. terms_interval ds i sum.more) (product_interval ds sum.first) k e
    (λ i at rest. LiesIn-terms ds state sum.more i k (product_value state sum.first) fits (LiesIn-product_interval ds state sum.first i fits at) rest)
