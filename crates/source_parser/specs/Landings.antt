-- What a reader of the grammar does to what is wanted.
use Rattle.std.specs.Prelude.{◌≡◌, ℕ, List, [], ◌∷◌, ◌++◌, Option, Some, None, Result, Ok, Err}
use Rattle.source_parser.specs.Limits.{depth_limit, weight_limit}
use Rattle.source_parser.specs.Terminals.{Terminal, kinds_of}
use Rattle.source_parser.specs.Wants.{Want, declarations, statements, Outcome, stopped, too_deep, run}
use Rattle.source_parser.specs.declared.fault.Fault.{Fault}
use Rattle.source_parser.specs.declared.fault.Fault.TheVariants.{Stops, Deep, NoMemory}

-- Whatever else is wanted after it: the terminals come to what others come to, of which less is wanted, or more.
pub record Leads (wants : List Want) (old : List Terminal) (depth spare : ℕ) (others : List Want) (new : List Terminal) (depth_left spare_left : ℕ) : Type 0 where
  pub leads : (s : List Want) → run weight_limit (kinds_of old) (wants ++ s) depth spare ≡ run weight_limit (kinds_of new) (others ++ s) depth_left spare_left

-- Whatever else is wanted after it, the terminals come to this.
pub record Comes (wants : List Want) (old : List Terminal) (depth spare : ℕ) (outcome : Outcome) : Type 0 where
  pub comes : (s : List Want) → run weight_limit (kinds_of old) (wants ++ s) depth spare ≡ outcome

-- Where a reader answers, all that it wanted is there, and what is wanted after it is wanted of the terminals that are
-- left. Where it gives up, the terminals come to that fault, at the first that is left.
pub data Lands {A : Type 0} (wants : List Want) (old : List Terminal) (depth spare : ℕ) : Result A Fault → List Terminal → ℕ → ℕ → Type 0 where
  reads : {found : A} {new : List Terminal} {depth_left spare_left : ℕ}
      → Leads wants old depth spare [] new depth_left spare_left
      → Lands wants old depth spare (Ok found) new depth_left spare_left
  stops : {new : List Terminal} {depth_left spare_left : ℕ}
      → Comes wants old depth spare (stopped (kinds_of new))
      → Lands wants old depth spare (Err Stops) new depth_left spare_left
  deepens : {new : List Terminal} {depth_left spare_left : ℕ}
      → Comes wants old depth spare (too_deep (kinds_of new))
      → Lands wants old depth spare (Err Deep) new depth_left spare_left
  no_memory : {new : List Terminal} {depth_left spare_left : ℕ}
      → Lands wants old depth spare (Err NoMemory) new depth_left spare_left

-- The same, of a thing that need not be there and may come again.
pub data LandsNext {A : Type 0} (want : Want) (old : List Terminal) (depth spare : ℕ) : Result (Option A) Fault → List Terminal → Type 0 where
  reads_one : {found : A} {new : List Terminal}
      → Leads (want ∷ []) old depth spare (want ∷ []) new depth spare
      → LandsNext want old depth spare (Ok (Some found)) new
  reads_none : {new : List Terminal}
      → Leads (want ∷ []) old depth spare [] new depth spare
      → LandsNext want old depth spare (Ok None) new
  stops_there : {new : List Terminal}
      → Comes (want ∷ []) old depth spare (stopped (kinds_of new))
      → LandsNext want old depth spare (Err Stops) new
  deepens_there : {new : List Terminal}
      → Comes (want ∷ []) old depth spare (too_deep (kinds_of new))
      → LandsNext want old depth spare (Err Deep) new
  lacks_memory : {new : List Terminal} → LandsNext want old depth spare (Err NoMemory) new

-- what the terminals of a source come to, where reading them as a program fails
abbrev pub IsFaultOf : {A : Type 0} → List Terminal → Result A Fault → List Terminal → Type 0
IsFaultOf old (Ok found) new = Unit {0}
IsFaultOf old (Err Stops) new = run weight_limit (kinds_of old) (declarations ∷ statements ∷ []) depth_limit weight_limit ≡ stopped (kinds_of new)
IsFaultOf old (Err Deep) new = run weight_limit (kinds_of old) (declarations ∷ statements ∷ []) depth_limit weight_limit ≡ too_deep (kinds_of new)
IsFaultOf old (Err NoMemory) new = Unit {0}
