-- What stands next from a place of a text, by what stands at the start of the text from there on.
use Rattle.std.proofs.Common.{◌≡◌, ℕ, ◌+◌, ◌-◌, ◌<◌, ◌≤◌, ◌==◌, List, [], ◌∷◌, Bool, false, length, get_or, take, drop, None, arith, ◌∙◌, ap, sym, refl, subst, length-drop}
use Rattle.std.specs.List.{slice_range}
use Rattle.std.proofs.lemmas.Bool.{eqb-false}
use Rattle.std.proofs.lemmas.List.{get_or-drop, drop_more}
use Rattle.plain_text.specs.Digits.{value_of_digits}
use Rattle.plain_text.specs.Lines.{line_feeds, line_at}
use Rattle.plain_text.proofs.LineCounts.{line_at-between, line_feeds-none}
use Rattle.source_lexer.specs.declared.token.TokenKind.{TokenKind}
use Rattle.source_lexer.specs.declared.token.TokenKind.TheVariants.{Number}
use Rattle.source_lexer.specs.Prefixes.{IsLongestPrefix, IsLongestGap, HasNoPrefix}
use Rattle.source_lexer.specs.Scan.{comment_after, IsGap, IsLongest, IsShort, StandsNext, EndsFrom, bad_byte, long_literal, greatest_literal}
use Rattle.source_lexer.specs.Tokens.{IsToken}
use Rattle.source_lexer.proofs.TokenForms.{no_line_feed}

-- a part of a text is a prefix of the text from its start on
pub part_is_prefix : (text : List ℕ) (i n : ℕ) → slice_range text i (i + n) ≡ take n (drop i text)
part_is_prefix text i n =
    let same : i + n - i ≡ n = omega arith in ap (λ m. take m (drop i text)) same

pub first_of_part : (text : List ℕ) (i : ℕ) → i < length text → slice_range text i (i + 1) ≡ get_or text i 0 ∷ []
first_of_part text i inside = part_is_prefix text i 1 ∙ ap (take 1) (drop_more text i 0 inside)

-- after a gap the text goes on, on this line
pub record BehindGap (text : List ℕ) (from gap line : ℕ) : Type 0 where
  pub inside : from + gap < length text
  pub blank : IsGap (slice_range text from (from + gap))
  pub stop : comment_after false (get_or text (from + gap) 0 ∷ []) ≡ None
  pub counted : line ≡ line_at text (from + gap)

pub behind_gap : (text : List ℕ) (from gap line feeds : ℕ) (empty : Bool) → from ≤ length text → line ≡ line_at text from → IsLongestGap (drop from text) gap → feeds ≡ line_feeds (slice_range text from (from + gap)) → empty ≡ (length (drop (from + gap) text) == 0) → empty ≡ false → BehindGap text from gap (line + feeds)
behind_gap text from gap line feeds empty le counted found more is_empty some =
    let goes_on : length (drop (from + gap) text) ≡ 0 → ⊥ = eqb-false _ _ (sym is_empty ∙ some) in
    let within : gap < length (drop from text) = omega (arith, length-drop from text, length-drop (from + gap) text) in
    record {
      inside = omega (arith, length-drop (from + gap) text);
      blank = ap (comment_after false) (part_is_prefix text from gap) ∙ found.gap within;
      stop = ap (λ b. comment_after false (b ∷ [])) (sym (get_or-drop from text gap 0)) ∙ found.stop within;
      counted = omega (arith, line_at-between text from (from + gap) (omega arith));
    }

pub no_token_next : (text : List ℕ) (from gap line : ℕ) → BehindGap text from gap line → HasNoPrefix (drop (from + gap) text) → EndsFrom text from (bad_byte line)
no_token_next text from gap line behind none = (
  from + gap,
  omega arith,
  behind.blank,
  record {
    inside = behind.inside;
    no_gap = ap (comment_after false) (first_of_part text (from + gap) behind.inside) ∙ behind.stop;
    no_token = λ k e more within token. none k (e - (from + gap)) (omega arith) (omega (arith, length-drop (from + gap) text)) token;
  },
  behind.counted,
)

longest_part : (text : List ℕ) (kind : TokenKind) (start n : ℕ) → start ≤ length text → IsLongestPrefix (drop start text) kind n → IsLongest text kind start (start + n)
longest_part text kind start n le found = record {
  forward = omega (arith, found.forward);
  inside = omega (arith, found.inside, length-drop start text);
  is_token = subst (IsToken kind) (sym (part_is_prefix text start n)) found.is_token;
  longest = λ k e more within token.
      found.longest k (e - start) (omega arith) (omega (arith, length-drop start text)) token;
}

-- the token at the start after a gap
pub token_next : (text : List ℕ) (from gap line n : ℕ) (kind : TokenKind) → BehindGap text from gap line → IsLongestPrefix (drop (from + gap) text) kind n → StandsNext text from (record { kind = kind; start = from + gap; end = from + gap + n; line = line })
token_next text from gap line n kind behind prefix = record {
  after = omega arith;
  gap = behind.blank;
  longest = longest_part text kind (from + gap) n (omega (arith, behind.inside)) prefix;
  line = behind.counted;
}

pub short_next : (text : List ℕ) (start n : ℕ) (kind : TokenKind) → IsShort kind (take n (drop start text)) → IsShort kind (slice_range text start (start + n))
short_next text start n kind short = subst (IsShort kind) (sym (part_is_prefix text start n)) short

pub long_next : (text : List ℕ) (from gap line n : ℕ) (kind : TokenKind) → BehindGap text from gap line → IsLongestPrefix (drop (from + gap) text) kind n → (kind ≡ Number) × (greatest_literal < value_of_digits (take n (drop (from + gap) text))) → EndsFrom text from (long_literal line)
long_next text from gap line n kind behind prefix long =
    let P : List ℕ → Type 0 = λ bytes. greatest_literal < value_of_digits bytes in
    (record { kind = kind; start = from + gap; end = from + gap + n; line = line }, token_next text from gap line n kind behind prefix, long.0, subst P (sym (part_is_prefix text (from + gap) n)) long.1, refl)

-- a token is on one line
pub token_one_line : (text : List ℕ) (kind : TokenKind) (start end : ℕ) → IsLongest text kind start end → line_at text end ≡ line_at text start
token_one_line text kind start end found =
    omega (arith, line_at-between text start end (omega (arith, found.forward)), line_feeds-none (slice_range text start end) (no_line_feed kind _ found.is_token))
