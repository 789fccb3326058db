-- How a source text is cut into tokens.
use Rattle.std.specs.Prelude.{◌≡◌, ℕ, ◌+◌, ◌-◌, ◌^◌, ◌<◌, ◌≤◌, ◌==◌, ◌||◌, Bool, true, false, not, List, [], ◌∷◌, length, drop, slice_range, Option, Some, None, IsSome, if◌then◌else◌}
use Rattle.plain_text.specs.Digits.{value_of_digits}
use Rattle.plain_text.specs.Lines.{line_at}
use Rattle.source_lexer.specs.declared.token.TokenKind.{TokenKind}
use Rattle.source_lexer.specs.declared.token.TokenKind.TheVariants.{Number}
use Rattle.source_lexer.specs.declared.token.Token.{Token}
use Rattle.source_lexer.specs.declared.lexer.LexFault.{LexFault}
use Rattle.source_lexer.specs.declared.lexer.LexFault.TheVariants.{BadByte, LongLiteral, NoMemory}
use Rattle.source_lexer.specs.Tokens.{IsToken}

-- space, tab, CR and LF part tokens
abbrev pub is_blank : ℕ → Bool
is_blank b = b == 32 || b == 9 || b == 13 || b == 10

-- whether a comment is open after these bytes, which begin inside one or not: `#` opens it, LF closes it;
-- None where a byte outside of comments is neither blank nor `#`
abbrev pub comment_after : Bool → List ℕ → Option Bool
comment_after inside [] = Some inside
comment_after true (b ∷ bytes) = comment_after (not (b == 10)) bytes
comment_after false (b ∷ bytes) = if is_blank b then comment_after false bytes else if b == 35 then comment_after true bytes else None

-- blanks and whole comments: a token may follow
abbrev pub IsGap : List ℕ → Type 0
IsGap bytes = comment_after false bytes ≡ Some false

-- blanks and comments up to the end of the text, which may end a comment too
abbrev pub IsLastGap : List ℕ → Type 0
IsLastGap bytes = IsSome (comment_after false bytes)

-- a token of this kind begins at start and ends before end, and none that begins there is longer
pub record IsLongest (text : List ℕ) (kind : TokenKind) (start end : ℕ) : Type 0 where
  pub forward : start < end
  pub inside : end ≤ length text
  pub is_token : IsToken kind (slice_range text start end)
  pub longest : (k : TokenKind) (e : ℕ) → end < e → e ≤ length text → IsToken k (slice_range text start e) → ⊥

-- no token begins at the place, and it is in no gap
pub record BeginsNoToken (text : List ℕ) (place : ℕ) : Type 0 where
  pub inside : place < length text
  pub no_gap : comment_after false (slice_range text place (place + 1)) ≡ None
  pub no_token : (k : TokenKind) (e : ℕ) → place < e → e ≤ length text → IsToken k (slice_range text place e) → ⊥

-- the value of a number that is a token is at most 2^127 - 1
abbrev pub greatest_literal : ℕ
greatest_literal = 2 ^ 127 - 1

-- a number's value is at most the greatest literal; other kinds have no limit
abbrev pub IsShort : TokenKind → List ℕ → Type 0
IsShort kind bytes = kind ≡ Number → value_of_digits bytes ≤ greatest_literal

-- from a place on there is a gap, and after it stands this token, with the line on which it begins
pub record StandsNext (text : List ℕ) (from : ℕ) (token : Token) : Type 0 where
  pub after : from ≤ token.start
  pub gap : IsGap (slice_range text from token.start)
  pub longest : IsLongest text token.kind token.start token.end
  pub line : token.line ≡ line_at text token.start

-- how a scan of a text ends: the text is whole, or a fault on a line
pub data ScanEnd : Type 0 where
  whole : ScanEnd
  bad_byte : ℕ → ScanEnd
  long_literal : ℕ → ScanEnd

-- the end of a scan after whose last token comes the place `from`
abbrev pub EndsFrom : List ℕ → ℕ → ScanEnd → Type 0
EndsFrom text from whole = IsLastGap (drop from text)
EndsFrom text from (bad_byte line) = (place : ℕ) × (from ≤ place) × IsGap (slice_range text from place) × BeginsNoToken text place × (line ≡ line_at text place)
EndsFrom text from (long_literal line) = (token : Token) × StandsNext text from token × (token.kind ≡ Number) × (greatest_literal < value_of_digits (slice_range text token.start token.end)) × (line ≡ token.line)

-- from a place on, the text has these tokens with gaps between them, and then the scan ends so
abbrev pub ScansFrom : List ℕ → ℕ → List Token → ScanEnd → Type 0
ScansFrom text from [] end = EndsFrom text from end
ScansFrom text from (token ∷ tokens) end = StandsNext text from token × IsShort token.kind (slice_range text token.start token.end) × ScansFrom text token.end tokens end

-- the text has these tokens up to the end of its scan: the whole text, or its first fault
abbrev pub Scans : List ℕ → List Token → ScanEnd → Type 0
Scans text tokens end = ScansFrom text 0 tokens end

-- a fault is the first of the text, want of memory aside
abbrev pub IsFirstFault : List ℕ → LexFault → Type 0
IsFirstFault text (BadByte line) = (tokens : List Token) × Scans text tokens (bad_byte line)
IsFirstFault text (LongLiteral line) = (tokens : List Token) × Scans text tokens (long_literal line)
IsFirstFault text NoMemory = Unit {0}
