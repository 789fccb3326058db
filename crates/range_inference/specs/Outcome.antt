-- What a walk over a part of a source answers.
use Rattle.std.specs.Prelude.{◌≡◌, ℕ, ℤ, List, [], ◌∷◌, ◌++◌, true, false, Result, Ok, Err, ⊤}
use Rattle.range_inference.specs.Demands.{Demand, wide_lines, node_intervals}
use Rattle.range_inference.specs.Interval.{is_within_bound}
use Rattle.range_inference.specs.declared.fault.RangeFault.{RangeFault}
use Rattle.range_inference.specs.declared.fault.RangeFault.TheVariants.{TooWide, NoMemory}
use Rattle.range_inference.specs.declared.interval.Interval.{Interval}

-- the first line of some, or want of memory
abbrev pub IsFirst : List ℕ → RangeFault → Type 0
IsFirst lines (TooWide line) = (rest : List ℕ) × (lines ≡ line ∷ rest)
IsFirst lines NoMemory = Unit {0}

-- no demand is too wide, or the line of the first that is, or want of memory
abbrev pub IsJudged : {A : Type 0} → ℤ → List Demand → Result A RangeFault → Type 0
IsJudged bound demands (Ok value) = wide_lines bound demands ≡ []
IsJudged bound demands (Err fault) = IsFirst (wide_lines bound demands) fault

-- nothing is too wide, and the intervals of all nodes come after those from before
abbrev pub IsPassed : ℤ → List Demand → List Interval → List Interval → Type 0
IsPassed bound demands before after = (wide_lines bound demands ≡ []) × (after ≡ before ++ node_intervals demands)

-- the demands are passed, or the line of the first that is too wide, or want of memory
abbrev pub Walks : {A : Type 0} → ℤ → List Demand → List Interval → Result A RangeFault → List Interval → Type 0
Walks bound demands before (Ok value) after = IsPassed bound demands before after
Walks bound demands before (Err fault) after = IsFirst (wide_lines bound demands) fault

-- the same of one interval, where memory is not asked for
abbrev pub IsRequired : ℤ → Interval → ℕ → Result ⊤ RangeFault → Type 0
IsRequired bound interval line (Ok done) = is_within_bound bound interval ≡ true
IsRequired bound interval line (Err fault) = (is_within_bound bound interval ≡ false) × (fault ≡ TooWide line)
