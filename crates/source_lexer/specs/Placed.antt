-- What each token of a scan is by itself, and how two of them lie.
use Rattle.std.specs.Prelude.{◌≡◌, ℕ, ◌<◌, ◌≤◌, List, length, slice_range}
use Rattle.plain_text.specs.Lines.{line_at}
use Rattle.source_lexer.specs.declared.token.Token.{Token}
use Rattle.source_lexer.specs.Tokens.{IsToken}
use Rattle.source_lexer.specs.Scan.{IsShort}

-- the bytes from start to end lie in the text and are a token of this kind, not too long, that begins on this line
pub record IsPlaced (text : List ℕ) (token : Token) : Type 0 where
  pub forward : token.start < token.end
  pub inside : token.end ≤ length text
  pub is_token : IsToken token.kind (slice_range text token.start token.end)
  pub short : IsShort token.kind (slice_range text token.start token.end)
  pub line : token.line ≡ line_at text token.start
  pub line_from_one : 1 ≤ token.line

-- a token ends before the other begins
abbrev pub IsBefore : Token → Token → Type 0
IsBefore a b = a.end ≤ b.start
