-- States that fit: each variable, parameter, local and element lies in its range, and each array has its length.
use Rattle.std.specs.Prelude.{◌≡◌, ℕ, ◌+◌, ℤ, ◌≤ℤ◌, List, [], ◌∷◌, ◌++◌, map, length, true, Option, Some, None, slice_get, unsigned_abs}
use Rattle.std.specs.List.{All}
use Rattle.plain_text.specs.Lookup.{lookup}
use Rattle.source_tree.specs.State.{State}
use Rattle.source_tree.specs.Run.{Leads}
use Rattle.source_tree.specs.Scope.{Declared, variable, array, procedure, Scope, names_in, is_within}
use Rattle.source_tree.specs.Expression.{Calls}
use Rattle.source_tree.specs.Statement.{execution}
use Rattle.source_tree.specs.Meaning.{at_start, meaning}
use Rattle.source_tree.specs.declared.name.Range.{Range}
use Rattle.source_tree.specs.declared.statement.Statement.{Statement}
use Rattle.source_tree.specs.declared.declaration.Param.{Param}
use Rattle.source_tree.specs.declared.declaration.Local.{Local}
use Rattle.source_tree.specs.declared.declaration.Declaration.{Declaration}
use Rattle.source_tree.specs.declared.declaration.Declaration.TheVariants.{Var, Array, Proc}
use Rattle.source_tree.specs.declared.declaration.Program.{Program}

-- ---- what is declared, by number
-- variables of these ranges, from number k on
abbrev pub variables_from : ℕ → List Range → List Declared
variables_from k [] = []
variables_from k (range ∷ ranges) = variable k range ∷ variables_from (k + 1) ranges

abbrev pub params_declared : ℕ → List Param → List Declared
params_declared k params = variables_from k (map (λ p. p.range) params)

abbrev pub locals_declared : ℕ → List Local → List Declared
locals_declared k locals = variables_from k (map (λ l. l.range) locals)

abbrev pub declared_in : ℕ → Declaration → List Declared
declared_in k (Var name range line) = variable k range ∷ []
declared_in k (Array name len range line) = array k len range ∷ []
declared_in k (Proc name params locals body line) =
    procedure k (map (λ p. p.range) params) ∷
    (params_declared (k + 1) params ++ locals_declared (k + 1 + length params) locals)

-- all that is declared from number k on, parameters and locals too
abbrev pub all_declared : ℕ → List Declaration → List Declared
all_declared k [] = []
all_declared k (d ∷ declarations) = declared_in k d ++ all_declared (k + names_in d) declarations

-- what a source declares: each thing stands at the place of its number
abbrev pub declared_by : Program → List Declared
declared_by program = all_declared 0 program.declarations

-- ---- fitting
abbrev pub FitsAs : Option Declared → ℤ → List ℤ → Type 0
FitsAs (Some (variable k range)) x xs = is_within x range ≡ true
FitsAs (Some (array k len range)) x xs = (length xs ≡ unsigned_abs len) × All (λ e. is_within e range ≡ true) xs
FitsAs (Some (procedure k params)) x xs = Unit {0}
FitsAs None x xs = Unit {0}

abbrev pub Fits : List Declared → State → Type 0
Fits declared state = (j : ℕ) → FitsAs (slice_get declared j) (state.integers j) (state.arrays j)

-- no range is empty
abbrev pub HasRange : Option Declared → Type 0
HasRange (Some (variable k range)) = range.low ≤ℤ range.high
HasRange (Some (array k len range)) = range.low ≤ℤ range.high
HasRange (Some (procedure k params)) = Unit {0}
HasRange None = Unit {0}

abbrev pub HaveRanges : List Declared → Type 0
HaveRanges declared = (j : ℕ) → HasRange (slice_get declared j)

-- ---- scopes and calls
abbrev pub number_of : Declared → ℕ
number_of (variable k range) = k
number_of (array k len range) = k
number_of (procedure k params) = k

abbrev pub IsAmong : List Declared → Option Declared → Type 0
IsAmong declared (Some thing) = slice_get declared (number_of thing) ≡ Some thing
IsAmong declared None = Unit {0}

-- names stand for what is declared
abbrev pub IsScopeOf : List Declared → Scope → Type 0
IsScopeOf declared scope = (x : List ℕ) → IsAmong declared (lookup x scope)

-- arguments that lie in the ranges of parameters, as far as there are arguments
abbrev pub Suit : List ℤ → List Range → Type 0
Suit [] params = Unit {0}
Suit (x ∷ xs) [] = ⊥
Suit (x ∷ xs) (range ∷ params) = (is_within x range ≡ true) × Suit xs params

-- a call of a procedure with suitable arguments keeps what fits
abbrev pub KeepFits : List Declared → Calls → Type 0
KeepFits declared calls =
    (k : ℕ) (params : List Range) (arguments : List ℤ) (state : State)
    → slice_get declared k ≡ Some (procedure k params)
    → Suit arguments params
    → Fits declared state
    → Leads (calls k arguments state) (λ u after. Fits declared after)

-- ---- laws
-- A statement keeps what fits, whether or not the rules of names are kept.
abbrev pub StatementsKeepFits : Type 0
StatementsKeepFits =
    (declared : List Declared) (statement : Statement) (scope : Scope) (calls : Calls) (state : State)
    → IsScopeOf declared scope
    → KeepFits declared calls
    → Fits declared state
    → Leads (execution statement scope calls state) (λ u after. Fits declared after)

-- Where no range is empty the start fits, and so does what is there when the source ends.
abbrev pub MeaningFits : Type 0
MeaningFits =
    (program : Program) (input : List ℤ)
    → HaveRanges (declared_by program)
    → Fits (declared_by program) (at_start program.declarations input) ×
    Leads (meaning program input) (λ u after. Fits (declared_by program) after)
