-- What names stand for: one static scope, in which a declaration's name stands from there on.
use Rattle.std.specs.Prelude.{ℕ, ◌+◌, ℤ, pos, List, [], ◌∷◌, ◌++◌, map, length, ◌&&◌, Bool, Option, Some, None, int_lt, int_le, slice_set, slice_index_or, unsigned_abs}
use Rattle.plain_text.specs.Lookup.{Named, lookup}
use Rattle.source_tree.specs.State.{State, with_integer, with_array}
use Rattle.source_tree.specs.declared.name.Name.{Name}
use Rattle.source_tree.specs.declared.name.Range.{Range}
use Rattle.source_tree.specs.declared.declaration.Param.{Param}
use Rattle.source_tree.specs.declared.declaration.Local.{Local}
use Rattle.source_tree.specs.declared.declaration.Declaration.{Declaration}
use Rattle.source_tree.specs.declared.declaration.Declaration.TheVariants.{Var, Array, Proc}

-- What a name is declared as, with its number. A parameter or local is a variable with a number of its own. A procedure
-- has the ranges of its parameters, whose numbers follow its own.
pub data Declared : Type 0 where
  variable : ℕ → Range → Declared
  array : ℕ → ℤ → Range → Declared
  procedure : ℕ → List Range → Declared

-- in text order
abbrev pub Scope : Type 0
Scope = Named Declared

-- ---- the scope of declarations, with the number of the next name
abbrev pub with_variables : {A : Type 0} → (A → Name) → (A → Range) → ℕ → List A → Scope → Scope
with_variables name range k [] scope = scope
with_variables name range k (x ∷ xs) scope = with_variables name range (k + 1) xs (scope ++ ((name x).bytes, variable k (range x)) ∷ [])

abbrev pub with_params : ℕ → List Param → Scope → Scope
with_params k params scope = with_variables (λ p. p.name) (λ p. p.range) k params scope

abbrev pub with_locals : ℕ → List Local → Scope → Scope
with_locals k locals scope = with_variables (λ l. l.name) (λ l. l.range) k locals scope

-- the scope of the body of procedure k: what was declared before it, its parameters and its locals
abbrev pub inside : ℕ → List Param → List Local → Scope → Scope
inside k params locals scope = with_locals (k + 1 + length params) locals (with_params (k + 1) params scope)

abbrev pub with_declared : ℕ → Declaration → Scope → Scope
with_declared k (Var name range line) scope = scope ++ (name.bytes, variable k range) ∷ []
with_declared k (Array name len range line) scope = scope ++ (name.bytes, array k len range) ∷ []
with_declared k (Proc name params locals body line) scope =
    scope ++ (name.bytes, procedure k (map (λ p. p.range) params)) ∷ []

-- how many names a declaration declares: a procedure its own, its parameters' and its locals'
abbrev pub names_in : Declaration → ℕ
names_in (Var name range line) = 1
names_in (Array name len range line) = 1
names_in (Proc name params locals body line) = 1 + length params + length locals

abbrev pub with_all_declared : ℕ → List Declaration → Scope → Scope
with_all_declared k [] scope = scope
with_all_declared k (d ∷ declarations) scope = with_all_declared (k + names_in d) declarations (with_declared k d scope)

-- ---- what a name stands for
abbrev pub is_within : ℤ → Range → Bool
is_within x range = int_le range.low x && int_le x range.high

-- Where the rules of names are kept, each name that is used is declared as what it is used for. Elsewhere a value is 0, a
-- range is empty and a length is 0, so that what is put there traps by its range or its index, as does an element that is
-- read; a number for the bare name of an array changes nothing.

-- a variable, parameter or local
abbrev pub integer_of : Option Declared → State → ℤ
integer_of (Some (variable k range)) state = state.integers k
integer_of (Some (array k len range)) state = pos 0
integer_of (Some (procedure k params)) state = pos 0
integer_of None state = pos 0

abbrev pub with_integer_of : Option Declared → ℤ → State → State
with_integer_of (Some (variable k range)) value state = with_integer k value state
with_integer_of (Some (array k len range)) value state = state
with_integer_of (Some (procedure k params)) value state = state
with_integer_of None value state = state

-- a range without an integer
abbrev pub empty_range : Range
empty_range = record { low = pos 1; high = pos 0 }

-- the range of a variable, parameter, local or element
abbrev pub range_of : Option Declared → Range
range_of (Some (variable k range)) = range
range_of (Some (array k len range)) = range
range_of (Some (procedure k params)) = empty_range
range_of None = empty_range

-- an array
abbrev pub len_of : Option Declared → ℤ
len_of (Some (array k len range)) = len
len_of (Some (variable k range)) = pos 0
len_of (Some (procedure k params)) = pos 0
len_of None = pos 0

abbrev pub elements_of : Option Declared → State → List ℤ
elements_of (Some (array k len range)) state = state.arrays k
elements_of (Some (variable k range)) state = []
elements_of (Some (procedure k params)) state = []
elements_of None state = []

abbrev pub with_elements_of : Option Declared → List ℤ → State → State
with_elements_of (Some (array k len range)) elements state = with_array k elements state
with_elements_of (Some (variable k range)) elements state = state
with_elements_of (Some (procedure k params)) elements state = state
with_elements_of None elements state = state

-- its element i
abbrev pub has_element : Option Declared → ℤ → Bool
has_element a i = int_le (pos 0) i && int_lt i (len_of a)

abbrev pub element_of : Option Declared → ℤ → State → ℤ
element_of a i state = slice_index_or (elements_of a state) (unsigned_abs i) (pos 0)

abbrev pub with_element_of : Option Declared → ℤ → ℤ → State → State
with_element_of a i value state = with_elements_of a (slice_set (elements_of a state) (unsigned_abs i) value) state

-- ---- by name
abbrev pub integer_at : Scope → List ℕ → State → ℤ
integer_at scope x state = integer_of (lookup x scope) state

abbrev pub with_integer_at : Scope → List ℕ → ℤ → State → State
with_integer_at scope x value state = with_integer_of (lookup x scope) value state

abbrev pub range_at : Scope → List ℕ → Range
range_at scope x = range_of (lookup x scope)
