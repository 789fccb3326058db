-- A text is scanned in one way only.
use Rattle.std.proofs.Common.{◌≡◌, ℕ, ◌+◌, ◌-◌, ◌<◌, ◌≤◌, ◌⊎◌, inl, inr, List, [], ◌∷◌, ◌++◌, false, length, get_or, take, drop, Some, None, arith, suc, ◌∙◌, ap, sym, refl, subst}
use Rattle.std.specs.Option.{option_and_then, is_some}
use Rattle.std.specs.List.{slice_range}
use Rattle.std.proofs.lemmas.Bool.{cases_order, false≢true}
use Rattle.std.proofs.lemmas.List.{get_or-drop, get_or-take, drop_more, drop-drop}
use Rattle.std.proofs.lemmas.List.Folds.{drop_split}
use Rattle.std.proofs.Math.Seq.{take-add}
use Rattle.plain_text.specs.Digits.{value_of_digits}
use Rattle.plain_text.specs.Lines.{line_at}
use Rattle.source_lexer.specs.declared.token.TokenKind.{TokenKind}
use Rattle.source_lexer.specs.declared.token.Token.{Token}
use Rattle.source_lexer.specs.Scan.{comment_after, IsGap, IsLastGap, IsShort, BeginsNoToken, StandsNext, EndsFrom, ScanEnd, whole, bad_byte, long_literal, ScansFrom, Scans}
use Rattle.source_lexer.specs.Tokens.{IsToken}
use Rattle.source_lexer.proofs.Gaps.{comment_after_append, comment_after_behind}
use Rattle.source_lexer.proofs.Standing.{first_of_part}
use Rattle.source_lexer.proofs.TokenForms.{begins_outside, same_kind}

-- a gap from a place on ends here, since a byte comes that is in no gap
pub record GapEnds (text : List ℕ) (from place : ℕ) : Type 0 where
  pub after : from ≤ place
  pub inside : place < length text
  pub gap : IsGap (slice_range text from place)
  pub stop : comment_after false (get_or text place 0 ∷ []) ≡ None

stop_stays : (b : ℕ) (bytes : List ℕ) → comment_after false (b ∷ []) ≡ None → comment_after false (b ∷ bytes) ≡ None
stop_stays b bytes h =
    comment_after_append false (b ∷ []) bytes ∙ ap (option_and_then (λ within. comment_after within bytes)) h

-- nothing longer from the place on is a gap
stopped : (gap bytes : List ℕ) (b : ℕ) → IsGap gap → comment_after false (b ∷ []) ≡ None → comment_after false (gap ++ b ∷ bytes) ≡ None
stopped gap bytes b h k = comment_after_behind gap (b ∷ bytes) false h ∙ stop_stays b bytes k

part_further : (text : List ℕ) (from place end : ℕ) → from ≤ place → place < end → end ≤ length text → slice_range text from end ≡ slice_range text from place ++ get_or text place 0 ∷ slice_range text (place + 1) end
part_further text from place end le lt within =
    let behind : from + (place - from) ≡ place = omega arith in
    let lengths : end - from ≡ (place - from) + (end - place) = omega arith in
    let one_more : end - place ≡ suc (end - (place + 1)) = omega arith in
    let head : take (end - place) (drop place text) ≡ get_or text place 0 ∷ slice_range text (place + 1) end = ap (λ n. take n (drop place text)) one_more ∙ ap (take (suc (end - (place + 1)))) (drop_more text place 0 (omega arith)) in
    ap (λ n. take n (drop from text)) lengths ∙ take-add (place - from) (end - place) (drop from text) ∙ ap (λ rest. slice_range text from place ++ take (end - place) rest) (drop-drop (place - from) from text ∙ ap (λ n. drop n text) behind) ∙ ap (λ rest. slice_range text from place ++ rest) head

rest_further : (text : List ℕ) (from place : ℕ) → from ≤ place → place < length text → drop from text ≡ slice_range text from place ++ get_or text place 0 ∷ drop (place + 1) text
rest_further text from place le lt =
    drop_split text from place le ∙ ap (λ rest. slice_range text from place ++ rest) (drop_more text place 0 lt)

no_later : (text : List ℕ) (from place end : ℕ) → GapEnds text from place → place < end → end ≤ length text → IsGap (slice_range text from end) → ⊥
no_later text from place end ends lt within gap =
    let none = ap (comment_after false) (part_further text from place end ends.after lt within) ∙ stopped (slice_range text from place) (slice_range text (place + 1) end) (get_or text place 0) ends.gap ends.stop in
    let absent : Some false ≡ None = sym gap ∙ none in
    cc

one_gap_end : (text : List ℕ) (from a b : ℕ) → GapEnds text from a → GapEnds text from b → a ≡ b
one_gap_end text from a b h k = go (cases_order a b)
  where
    go : (a ≡ b) ⊎ ((a < b) ⊎ (b < a)) → a ≡ b
    go (inl e) = e
    go (inr (inl lt)) = absurd (no_later text from a b h lt (omega (arith, k.inside)) k.gap)
    go (inr (inr lt)) = absurd (no_later text from b a k lt (omega (arith, h.inside)) h.gap)

-- before a token, and before a byte that begins none
ends_at_token : (text : List ℕ) (from : ℕ) (token : Token) → StandsNext text from token → GapEnds text from token.start
ends_at_token text from token next =
    let some : 0 < token.end - token.start = omega (arith, next.longest.forward) in
    let at : token.start + 0 ≡ token.start = omega arith in
    let first = get_or-take (token.end - token.start) (drop token.start text) 0 0 some ∙ get_or-drop token.start text 0 0 ∙ ap (λ n. get_or text n 0) at in
    record {
      after = next.after;
      inside = omega (arith, next.longest.forward, next.longest.inside);
      gap = next.gap;
      stop = ap (λ b. comment_after false (b ∷ [])) (sym first) ∙ begins_outside token.kind _ next.longest.is_token;
    }

ends_at_byte : (text : List ℕ) (from place : ℕ) → from ≤ place → IsGap (slice_range text from place) → BeginsNoToken text place → GapEnds text from place
ends_at_byte text from place le gap none = record {
  after = le;
  inside = none.inside;
  gap = gap;
  stop = ap (comment_after false) (sym (first_of_part text place none.inside)) ∙ none.no_gap;
}

no_last_gap : (text : List ℕ) (from place : ℕ) → GapEnds text from place → IsLastGap (drop from text) → ⊥
no_last_gap text from place ends last =
    let none = ap (comment_after false) (rest_further text from place ends.after ends.inside) ∙ stopped (slice_range text from place) (drop (place + 1) text) (get_or text place 0) ends.gap ends.stop in
    false≢true (sym (ap is_some none) ∙ last)

-- one token stands next
abbrev token_of : TokenKind → ℕ → ℕ → ℕ → Token
token_of kind start end line = record { kind = kind; start = start; end = end; line = line }

token_from_parts : (a b : Token) → a.kind ≡ b.kind → a.start ≡ b.start → a.end ≡ b.end → a.line ≡ b.line → a ≡ b
token_from_parts a b kind start end line =
    ap (λ k. token_of k a.start a.end a.line) kind ∙ ap (λ n. token_of b.kind n a.end a.line) start ∙ ap (λ n. token_of b.kind b.start n a.line) end ∙ ap (λ n. token_of b.kind b.start b.end n) line

no_longer : (text : List ℕ) (from : ℕ) (a b : Token) → StandsNext text from a → StandsNext text from b → a.start ≡ b.start → a.end < b.end → ⊥
no_longer text from a b h k start lt =
    h.longest.longest b.kind b.end lt k.longest.inside (subst (λ (n : ℕ). IsToken b.kind (slice_range text n b.end)) (sym start) k.longest.is_token)

same_end : (text : List ℕ) (from : ℕ) (a b : Token) → StandsNext text from a → StandsNext text from b → a.start ≡ b.start → (a.end ≡ b.end) ⊎ ((a.end < b.end) ⊎ (b.end < a.end)) → a.end ≡ b.end
same_end text from a b h k start (inl e) = e
same_end text from a b h k start (inr (inl lt)) = absurd (no_longer text from a b h k start lt)
same_end text from a b h k start (inr (inr lt)) = absurd (no_longer text from b a k h (sym start) lt)

same_token : (text : List ℕ) (from : ℕ) (a b : Token) → StandsNext text from a → StandsNext text from b → a ≡ b
same_token text from a b h k =
    let start = one_gap_end text from a.start b.start (ends_at_token text from a h) (ends_at_token text from b k) in
    let end = same_end text from a b h k start (cases_order a.end b.end) in
    let bytes : slice_range text b.start b.end ≡ slice_range text a.start a.end = ap (λ n. slice_range text n b.end) (sym start) ∙ ap (slice_range text a.start) (sym end) in
    let kind = same_kind a.kind b.kind (slice_range text a.start a.end) h.longest.is_token (subst (IsToken b.kind) bytes k.longest.is_token) in
    token_from_parts a b kind start end (h.line ∙ ap (line_at text) start ∙ sym k.line)

-- a scan that ends here has no token next
no_token_at : (text : List ℕ) (from place : ℕ) (token : Token) → StandsNext text from token → from ≤ place → IsGap (slice_range text from place) → BeginsNoToken text place → ⊥
no_token_at text from place token next le gap none =
    let start = one_gap_end text from token.start place (ends_at_token text from token next) (ends_at_byte text from place le gap none) in
    none.no_token token.kind token.end (omega (arith, next.longest.forward)) next.longest.inside (subst (λ (n : ℕ). IsToken token.kind (slice_range text n token.end)) start next.longest.is_token)

ends_or_goes_on : (text : List ℕ) (from : ℕ) (end : ScanEnd) (token : Token) → EndsFrom text from end → StandsNext text from token → IsShort token.kind (slice_range text token.start token.end) → ⊥
ends_or_goes_on text from whole token h next short =
    no_last_gap text from token.start (ends_at_token text from token next) h
ends_or_goes_on text from (bad_byte line) token (place, le, gap, none, counted) next short =
    no_token_at text from place token next le gap none
ends_or_goes_on text from (long_literal line) token (long, stands, kind, above, counted) next short =
    let same = same_token text from token long next stands in
    let small = short (ap (λ (t : Token). t.kind) same ∙ kind) in
    let value = ap (λ (t : Token). value_of_digits (slice_range text t.start t.end)) same in
    omega arith

one_end : (text : List ℕ) (from : ℕ) (x y : ScanEnd) → EndsFrom text from x → EndsFrom text from y → x ≡ y
one_end text from whole whole h k = refl
one_end text from whole (bad_byte line) h (place, le, gap, none, counted) =
    absurd (no_last_gap text from place (ends_at_byte text from place le gap none) h)
one_end text from whole (long_literal line) h (token, next, kind, above, counted) =
    absurd (no_last_gap text from token.start (ends_at_token text from token next) h)
one_end text from (bad_byte line) whole (place, le, gap, none, counted) k =
    absurd (no_last_gap text from place (ends_at_byte text from place le gap none) k)
one_end text from (bad_byte line) (bad_byte other) (place, le, gap, none, counted) (there, up, blank, neither, seen) =
    let same = one_gap_end text from place there (ends_at_byte text from place le gap none) (ends_at_byte text from there up blank neither) in
    ap bad_byte (counted ∙ ap (line_at text) same ∙ sym seen)
one_end text from (bad_byte line) (long_literal other) (place, le, gap, none, counted) (token, next, kind, above, seen) =
    absurd (no_token_at text from place token next le gap none)
one_end text from (long_literal line) whole (token, next, kind, above, counted) k =
    absurd (no_last_gap text from token.start (ends_at_token text from token next) k)
one_end text from (long_literal line) (bad_byte other) (token, next, kind, above, counted) (place, le, gap, none, seen) =
    absurd (no_token_at text from place token next le gap none)
one_end text from (long_literal line) (long_literal other) (token, next, kind, above, counted) (that, stands, k, over, seen) =
    let same = same_token text from token that next stands in
    ap long_literal (counted ∙ ap (λ (t : Token). t.line) same ∙ sym seen)

one_scan_from : (text : List ℕ) (from : ℕ) (a b : List Token) (x y : ScanEnd) → ScansFrom text from a x → ScansFrom text from b y → (a ≡ b) × (x ≡ y)
one_scan_from text from [] [] x y h k = (refl, one_end text from x y h k)
one_scan_from text from [] (token ∷ b) x y h k = absurd (ends_or_goes_on text from x token h k.0 k.1)
one_scan_from text from (token ∷ a) [] x y h k = absurd (ends_or_goes_on text from y token k h.0 h.1)
one_scan_from text from (token ∷ a) (other ∷ b) x y h k =
    let same = same_token text from token other h.0 k.0 in
    let rest = one_scan_from text token.end a b x y h.2 (subst (λ (t : Token). ScansFrom text t.end b y) (sym same) k.2) in
    (cc, rest.1)

pub one_scan_of : (text : List ℕ) (a b : List Token) (x y : ScanEnd) → Scans text a x → Scans text b y → (a ≡ b) × (x ≡ y)
one_scan_of text a b x y h k = one_scan_from text 0 a b x y h k
