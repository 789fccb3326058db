-- The states that a thin source comes to, and the code's variables beside them.
use Rattle.std.specs.Prelude.{◌≡◌, ℕ, ℤ, ◌+ℤ◌, ◌-ℤ◌, ◌*ℤ◌, ◌≤ℤ◌, suc, List, [], ◌∷◌, if◌then◌else◌}
use Rattle.std.specs.Str.{bytes_eq}
use Rattle.thin_source.specs.declared.interval.Interval.{Interval}
use Rattle.thin_source.specs.declared.residues.Operation.{Operation}
use Rattle.thin_source.specs.declared.residues.Operation.TheVariants.{Add, Sub, Mul}
use Rattle.thin_source.specs.ThinTree.{Statement, assign, print, Declaration}
use Rattle.thin_source.specs.ThinRules.{declared_interval}
use Rattle.thin_source.specs.ThinMeaning.{State, with_value, sum_value}
use Rattle.thin_source.specs.ThinVectors.{vectors_of}

-- what an operation makes of two integers
abbrev pub operated : Operation → ℤ → ℤ → ℤ
operated Add x y = x +ℤ y
operated Sub x y = x -ℤ y
operated Mul x y = x *ℤ y

-- an integer of an interval
pub record LiesIn (i : Interval) (x : ℤ) : Type 0 where
  pub low : i.low ≤ℤ x
  pub high : x ≤ℤ i.high

-- a variable for each declaration, in order, with its name and a value of its range
abbrev pub IsStateOf : List Declaration → State → Type 0
IsStateOf [] [] = Unit {0}
IsStateOf [] (variable ∷ state) = ⊥
IsStateOf (declaration ∷ declarations) [] = ⊥
IsStateOf (declaration ∷ declarations) (variable ∷ state) =
    (variable.0 ≡ declaration.name) × LiesIn (declared_interval declaration) variable.1 × IsStateOf declarations state

-- the place of the first declaration with a name; their number where there is none
abbrev pub place_in : List Declaration → List ℕ → ℕ
place_in [] x = 0
place_in (declaration ∷ declarations) x = if bytes_eq declaration.name x then 0 else suc (place_in declarations x)

-- vectors that stand for the variables of a state of the declarations
pub record Holds (declarations : List Declaration) (variables : List (List ℕ)) (state : State) : Type 0 where
  pub fits : IsStateOf declarations state
  pub vectors : variables ≡ vectors_of state

-- the state that a statement leaves
abbrev pub state_after : State → Statement → State
state_after state (assign x sum) = with_value state x (sum_value state sum)
state_after state (print sum) = state
