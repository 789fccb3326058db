-- What tokens mean to the grammar.
use Rattle.std.specs.Prelude.{ℕ, ℤ, pos, List, [], ◌∷◌, map, slice_range}
use Rattle.plain_text.specs.Digits.{value_of_digits}
use Rattle.source_lexer.specs.declared.token.TokenKind.{TokenKind}
use Rattle.source_lexer.specs.declared.token.TokenKind.TheVariants as kind
use Rattle.source_lexer.specs.declared.token.Token.{Token}
use Rattle.source_tree.specs.declared.name.Name.{Name}

-- a name, a number with its line, or a keyword or symbol with its line
pub data Terminal : Type 0 where
  identifier : Name → Terminal
  literal : ℤ → ℕ → Terminal
  fixed : TokenKind → ℕ → Terminal

abbrev pub terminal_by : TokenKind → List ℕ → ℕ → Terminal
terminal_by kind.Name bytes line = identifier (record { bytes = bytes; line = line })
terminal_by kind.Number bytes line = literal (pos (value_of_digits bytes)) line
terminal_by kind bytes line = fixed kind line

-- what a token of a text means
abbrev pub terminal_of : List ℕ → Token → Terminal
terminal_of text token = terminal_by token.kind (slice_range text token.start token.end) token.line

-- what the tokens of a text mean
abbrev pub terminals_of : List ℕ → List Token → List Terminal
terminals_of text tokens = map (terminal_of text) tokens

-- the line of the first terminal
abbrev pub line_of : Terminal → ℕ
line_of (identifier name) = name.line
line_of (literal value line) = line
line_of (fixed kind line) = line

abbrev pub first_line : List Terminal → ℕ
first_line [] = 0
first_line (terminal ∷ terminals) = line_of terminal

-- the kind of a terminal
abbrev pub kind_of : Terminal → TokenKind
kind_of (identifier name) = kind.Name
kind_of (literal value line) = kind.Number
kind_of (fixed kind line) = kind

abbrev pub kinds_of : List Terminal → List TokenKind
kinds_of [] = []
kinds_of (terminal ∷ terminals) = kind_of terminal ∷ kinds_of terminals

-- the kinds of tokens
abbrev pub token_kinds : List Token → List TokenKind
token_kinds tokens = map (λ token. token.kind) tokens
