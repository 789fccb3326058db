-- What a thin source means, over plain integers.
use Rattle.std.specs.Prelude.{ℕ, ℤ, pos, ◌+ℤ◌, ◌-ℤ◌, ◌*ℤ◌, ◌≤◌, List, [], ◌∷◌, map, length, if◌then◌else◌, int_lt}
use Rattle.std.specs.Str.{bytes_eq}
use Rattle.source_lexer.specs.declared.token.Token.{Token}
use Rattle.source_lexer.specs.Scan.{Scans, whole}
use Rattle.thin_source.specs.ThinTree.{Atom, number, name, Product, Sign, plus, minus, Sum, Statement, assign, print, Declaration, Program}
use Rattle.thin_source.specs.ThinGrammar.{SpellsProgram, symbols_of}
use Rattle.thin_source.specs.ThinRules.{IsLawful}

-- the most tokens that a thin source has
abbrev pub token_limit : ℕ
token_limit = 400

-- the text spells the program
abbrev pub Spells : List ℕ → Program → Type 0
Spells text program = (tokens : List Token) × Scans text tokens whole × (length tokens ≤ token_limit) × SpellsProgram (symbols_of text tokens) program

-- the text is a thin source, and this is its program
pub record IsThin (text : List ℕ) (program : Program) : Type 0 where
  pub spells : Spells text program
  pub lawful : IsLawful program

-- variables by name, with their values
abbrev pub State : Type 0
State = List (List ℕ × ℤ)

-- the number of a range that is nearest to 0
abbrev pub nearest_to_zero : ℤ → ℤ → ℤ
nearest_to_zero low high = if int_lt (pos 0) low then low else if int_lt high (pos 0) then high else pos 0

-- each variable starts at the number of its range that is nearest to 0
abbrev pub start_of : List Declaration → State
start_of declarations = map (λ declaration. (declaration.name, nearest_to_zero declaration.low declaration.high)) declarations

-- the value of a variable
abbrev pub value_in : State → List ℕ → ℤ
value_in [] x = pos 0
value_in (variable ∷ state) x = if bytes_eq variable.0 x then variable.1 else value_in state x

-- the state after an assignment
abbrev pub with_value : State → List ℕ → ℤ → State
with_value [] x value = []
with_value (variable ∷ state) x value = if bytes_eq variable.0 x then (variable.0, value) ∷ state else variable ∷ with_value state x value

abbrev pub atom_value : State → Atom → ℤ
atom_value state (number n) = pos n
atom_value state (name x) = value_in state x

abbrev pub times_factors : State → ℤ → List Atom → ℤ
times_factors state x [] = x
times_factors state x (atom ∷ more) = times_factors state (x *ℤ atom_value state atom) more

abbrev pub product_value : State → Product → ℤ
product_value state product = times_factors state (atom_value state product.first) product.more

abbrev pub joined : Sign → ℤ → ℤ → ℤ
joined plus x y = x +ℤ y
joined minus x y = x -ℤ y

abbrev pub with_terms : State → ℤ → List (Sign × Product) → ℤ
with_terms state x [] = x
with_terms state x (term ∷ more) = with_terms state (joined term.0 x (product_value state term.1)) more

abbrev pub sum_value : State → Sum → ℤ
sum_value state sum = with_terms state (product_value state sum.first) sum.more

-- what the statements print, from a state on
abbrev pub prints_from : State → List Statement → List ℤ
prints_from state [] = []
prints_from state (assign x sum ∷ statements) = prints_from (with_value state x (sum_value state sum)) statements
prints_from state (print sum ∷ statements) = sum_value state sum ∷ prints_from state statements

-- what the program prints
abbrev pub prints_of : Program → List ℤ
prints_of program = prints_from (start_of program.declarations) program.statements
