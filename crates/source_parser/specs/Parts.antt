-- Parts of things of the grammar, as readers take them.
use Rattle.std.specs.Prelude.{◌≡◌, ℕ, ℤ, List, ◌∷◌, Option, Some, None, Result, Ok, Err}
use Rattle.source_lexer.specs.declared.token.TokenKind.{TokenKind}
use Rattle.source_lexer.specs.declared.token.TokenKind.TheVariants as kind
use Rattle.source_tree.specs.declared.name.Name.{Name}
use Rattle.source_tree.specs.declared.expression.Expr.{Expr}
use Rattle.source_tree.specs.declared.statement.Statement.{Statement}
use Rattle.source_parser.specs.declared.fault.Fault.{Fault}
use Rattle.source_parser.specs.Terminals.{Terminal, identifier, literal, fixed}
use Rattle.source_parser.specs.Grammar.{ReadsOutermost, ReadsStatements, ReadsElse}

-- a thing that need not be there: where none is answered, nothing is taken
abbrev pub ReadsNext : {A : Type 0} → (List Terminal → A → List Terminal → Type 0) → List Terminal → Result (Option A) Fault → List Terminal → Type 0
ReadsNext Reads old (Ok None) new = new ≡ old
ReadsNext Reads old (Ok (Some found)) new = Reads old found new
ReadsNext Reads old (Err fault) new = Unit {0}

-- a thing and a fixed terminal after it
pub record Closed {A : Type 0} (Reads : List Terminal → A → List Terminal → Type 0) (kind : TokenKind) (terminals : List Terminal) (found : A)
    (rest : List Terminal) : Type 0 where
  pub line : ℕ
  pub reads : Reads terminals found (fixed kind line ∷ rest)

-- a thing after a thing
pub record Both {A B : Type 0} (First : List Terminal → A → List Terminal → Type 0) (Second : List Terminal → B → List Terminal → Type 0) (terminals : List Terminal)
    (found : A × B) (rest : List Terminal) : Type 0 where
  pub behind : List Terminal
  pub first : First terminals found.0 behind
  pub second : Second behind found.1 rest

-- a name, and a number
abbrev pub ReadsName : List Terminal → Name → List Terminal → Type 0
ReadsName terminals name rest = terminals ≡ identifier name ∷ rest

abbrev pub ReadsLiteral : List Terminal → ℤ → List Terminal → Type 0
ReadsLiteral terminals value rest = (line : ℕ) × (terminals ≡ literal value line ∷ rest)

-- `first to last do`
abbrev pub ReadsBounds : ℕ → List Terminal → Expr × Expr → List Terminal → Type 0
ReadsBounds width = Both (Closed (ReadsOutermost width) kind.To) (Closed (ReadsOutermost width) kind.Do)

-- `statements else statements end`, the second statements with their `else` or neither
abbrev pub ReadsBranches : ℕ → ℕ → List Terminal → List Statement × List Statement → List Terminal → Type 0
ReadsBranches width depth = Both (ReadsStatements width depth) (Closed (ReadsElse width depth) kind.End)
