-- What stands at the start of a text: blanks and comments, or a token.
use Rattle.std.specs.Prelude.{◌≡◌, ℕ, ◌<◌, ◌≤◌, false, List, [], ◌∷◌, length, take, slice_index, Option, Some, None, MatchOption}
use Rattle.std.specs.Char.{is_ascii_alphabetic, is_ascii_digit}
use Rattle.source_lexer.specs.declared.token.TokenKind.{TokenKind}
use Rattle.source_lexer.specs.Tokens.{fixed_text, IsFixed, IsToken}
use Rattle.source_lexer.specs.Scan.{comment_after, IsGap, IsLastGap}

-- the first n bytes are blanks and comments; after them comes a byte that is in no gap, or the end
pub record IsLongestGap (text : List ℕ) (n : ℕ) : Type 0 where
  pub inside : n ≤ length text
  pub last : n ≡ length text → IsLastGap text
  pub gap : n < length text → IsGap (take n text)
  pub stop : n < length text → comment_after false (slice_index text n ∷ []) ≡ None

-- the first n bytes are a token of this kind, and no longer prefix is a token
pub record IsLongestPrefix (text : List ℕ) (kind : TokenKind) (n : ℕ) : Type 0 where
  pub forward : 0 < n
  pub inside : n ≤ length text
  pub is_token : IsToken kind (take n text)
  pub longest : (k : TokenKind) (m : ℕ) → n < m → m ≤ length text → IsToken k (take m text) → ⊥

-- no prefix is a token
abbrev pub HasNoPrefix : List ℕ → Type 0
HasNoPrefix text = (k : TokenKind) (m : ℕ) → 0 < m → m ≤ length text → IsToken k (take m text) → ⊥

-- what was found is the longest token at the start, with its length
abbrev pub IsPrefixToken : List ℕ → Option (TokenKind × ℕ) → Type 0
IsPrefixToken text found = MatchOption found (HasNoPrefix text) (λ token. IsLongestPrefix text token.0 token.1)

-- what was found is the kind whose text the bytes are
abbrev pub IsKindOf : List ℕ → Option TokenKind → Type 0
IsKindOf bytes found = MatchOption found (¬ (IsFixed bytes)) (λ kind. fixed_text kind ≡ Some bytes)

-- the text begins with neither a letter nor a digit
pub record BeginsWithSymbol (text : List ℕ) : Type 0 where
  pub some : 0 < length text
  pub no_letter : is_ascii_alphabetic (slice_index text 0) ≡ false
  pub no_digit : is_ascii_digit (slice_index text 0) ≡ false

-- the first two bytes are the text of this kind
abbrev pub IsPair : List ℕ → TokenKind → Type 0
IsPair text kind = (1 < length text) × (fixed_text kind ≡ Some (slice_index text 0 ∷ slice_index text 1 ∷ []))

-- the first two bytes are no keyword and no symbol
abbrev pub HasNoPair : List ℕ → Type 0
HasNoPair text = 1 < length text → IsFixed (slice_index text 0 ∷ slice_index text 1 ∷ []) → ⊥
