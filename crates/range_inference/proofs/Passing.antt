-- Tests that each number of each interval of some demands passes.
use Rattle.std.proofs.Common.{◌≡◌, ℕ, ℤ, List, [], ◌∷◌, ◌++◌, map, refl, ap, arith, Bool, true, false}
use Rattle.std.specs.Prelude.{if◌then◌else◌}
use Rattle.std.proofs.lemmas.Int.{ints}
use Rattle.std.proofs.lemmas.List.Elements.{All-head, All-tail}
use Rattle.std.proofs.lemmas.Bool.Decides.{nat_tests}
use Rattle.std.specs.List.{All}
use Rattle.source_tree.specs.declared.statement.Statement.{Statement}
use Rattle.range_inference.specs.Demands.{Demand, declared, limit, node, node_intervals, wide_lines, all_demands, statement_demands, statements_demands}
use Rattle.range_inference.specs.Interval.{Ranges, from_to, interval_of_range, is_bounded, is_within_bound}
use Rattle.range_inference.specs.Watched.{Passes}
use Rattle.range_inference.specs.declared.interval.Interval.{Interval}

abbrev pub AllPass : (Interval → ℤ → Bool) → List Demand → Type 0
AllPass test [] = Unit {0}
AllPass test (declared range line ∷ ds) = AllPass test ds
AllPass test (limit turns line ∷ ds) = AllPass test ds
AllPass test (node i line ∷ ds) = Passes test i × AllPass test ds

pub pass_from_all : (test : Interval → ℤ → Bool) (demands : List Demand) → All (Passes test) (node_intervals demands) → AllPass test demands
pass_from_all test [] h = tt
pass_from_all test (declared range line ∷ ds) h = pass_from_all test ds h
pass_from_all test (limit turns line ∷ ds) h = pass_from_all test ds h
pass_from_all test (node i line ∷ ds) h = (
  All-head (Passes test) i (node_intervals ds) h,
  pass_from_all test ds (All-tail (Passes test) i (node_intervals ds) h),
)

pub pass_first : (test : Interval → ℤ → Bool) (a b : List Demand) → AllPass test (a ++ b) → AllPass test a
pass_first test [] b h = tt
pass_first test (declared range line ∷ a) b h = pass_first test a b h
pass_first test (limit turns line ∷ a) b h = pass_first test a b h
pass_first test (node i line ∷ a) b h = (h.0, pass_first test a b h.1)

pub pass_second : (test : Interval → ℤ → Bool) (a b : List Demand) → AllPass test (a ++ b) → AllPass test b
pass_second test [] b h = h
pass_second test (declared range line ∷ a) b h = pass_second test a b h
pass_second test (limit turns line ∷ a) b h = pass_second test a b h
pass_second test (node i line ∷ a) b h = pass_second test a b h.1

-- ---- what is demanded of statements, one after another
pub all_demands-map : (l : List Statement) (ranges : Ranges) → all_demands (map statement_demands l) ranges ≡ statements_demands l ranges
all_demands-map [] ranges = refl
all_demands-map (s ∷ l) ranges = ap (λ ds. statement_demands s ranges ++ ds) (all_demands-map l ranges)

-- ---- two tests
pub pass_always : (test : Interval → ℤ → Bool) (demands : List Demand) → ((i : Interval) → Passes test i) → AllPass test demands
pass_always test [] h = tt
pass_always test (declared range line ∷ ds) h = pass_always test ds h
pass_always test (limit turns line ∷ ds) h = pass_always test ds h
pass_always test (node i line ∷ ds) h = (h i, pass_always test ds h)

narrow_first : (b : Bool) (line : ℕ) (lines : List ℕ) → (if b then [] else line ∷ []) ++ lines ≡ [] → b ≡ true
narrow_first true line lines h = refl
narrow_first false line lines h = cc

narrow_rest : (b : Bool) (line : ℕ) (lines : List ℕ) → (if b then [] else line ∷ []) ++ lines ≡ [] → lines ≡ []
narrow_rest true line lines h = h
narrow_rest false line lines h = cc

-- a number between two bounded ones is bounded
bounded_between : (bound : ℤ) (i : Interval) → is_within_bound bound i ≡ true → Passes (λ interval x. is_bounded bound x) i
bounded_between bound i h x k = grind (arith, ints, nat_tests)

pub pass_bounded : (bound : ℤ) (demands : List Demand) → wide_lines bound demands ≡ [] → AllPass (λ interval x. is_bounded bound x) demands
pass_bounded bound [] h = tt
pass_bounded bound (declared range line ∷ ds) h =
    pass_bounded bound ds (narrow_rest (is_within_bound bound (interval_of_range range)) line (wide_lines bound ds) h)
pass_bounded bound (limit turns line ∷ ds) h =
    pass_bounded bound ds (narrow_rest (is_within_bound bound (from_to turns turns)) line (wide_lines bound ds) h)
pass_bounded bound (node i line ∷ ds) h = (
  bounded_between bound i (narrow_first (is_within_bound bound i) line (wide_lines bound ds) h),
  pass_bounded bound ds (narrow_rest (is_within_bound bound i) line (wide_lines bound ds) h),
)
