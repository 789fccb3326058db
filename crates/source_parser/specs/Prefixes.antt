-- Where kinds of tokens stop to be a prefix of a program, and where they nest too deep.
use Rattle.std.specs.Prelude.{◌≡◌, ℕ, suc, ◌<◌, ◌≤◌, List, ◌++◌, length, take}
use Rattle.source_lexer.specs.declared.token.TokenKind.{TokenKind}
use Rattle.source_tree.specs.declared.declaration.Program.{Program}
use Rattle.source_parser.specs.Terminals.{Terminal, kinds_of}
use Rattle.source_parser.specs.Grammar.{Spells}

-- ---- programs and their prefixes, by kinds alone
-- terminals of these kinds spell a program within the limits of nesting
pub record SpellsKinds (depth width : ℕ) (kinds : List TokenKind) : Type 0 where
  pub terminals : List Terminal
  pub program : Program
  pub same : kinds_of terminals ≡ kinds
  pub spells : Spells depth width terminals program

-- the kinds are those of a program, whatever its nesting
pub record IsProgram (kinds : List TokenKind) : Type 0 where
  pub depth : ℕ
  pub width : ℕ
  pub spells : SpellsKinds depth width kinds

-- some kinds after them make a program of them
pub record IsPrefix (kinds : List TokenKind) : Type 0 where
  pub rest : List TokenKind
  pub program : IsProgram (kinds ++ rest)

-- some kinds after them make a program of them that is within the limits
pub record IsPrefixWithin (depth width : ℕ) (kinds : List TokenKind) : Type 0 where
  pub rest : List TokenKind
  pub spells : SpellsKinds depth width (kinds ++ rest)

-- ---- the two faults
-- The kinds before the place are a prefix of a program within the limits. With the kind there they are a prefix of
-- none, whatever its nesting. Where there is no kind, they are all the kinds, and no program.
pub record StopsAt (depth width : ℕ) (kinds : List TokenKind) (place : ℕ) : Type 0 where
  pub within : place ≤ length kinds
  pub before : IsPrefixWithin depth width (take place kinds)
  pub stops : place < length kinds → IsPrefix (take (suc place) kinds) → ⊥
  pub ended : place ≡ length kinds → IsProgram kinds → ⊥

-- The kinds before the place are a prefix of a program within the limits. With the kind there they are a prefix of a
-- program, and of none within the limits.
pub record DeepAt (depth width : ℕ) (kinds : List TokenKind) (place : ℕ) : Type 0 where
  pub within : place < length kinds
  pub before : IsPrefixWithin depth width (take place kinds)
  pub prefix : IsPrefix (take (suc place) kinds)
  pub deep : IsPrefixWithin depth width (take (suc place) kinds) → ⊥
