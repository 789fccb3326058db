-- The tokens of a scan lie in the text, in order.
use Rattle.std.proofs.Common.{ℕ, ◌≤◌, List, [], ◌∷◌, arith}
use Rattle.std.specs.List.{All, AllPairs, slice_range}
use Rattle.std.proofs.lemmas.List.Elements.{All-cons, All-weaker}
use Rattle.std.proofs.lemmas.List.Kept.{AllPairs-cons}
use Rattle.plain_text.proofs.LineCounts.{line_at-positive}
use Rattle.source_lexer.specs.declared.token.Token.{Token}
use Rattle.source_lexer.specs.Placed.{IsPlaced, IsBefore}
use Rattle.source_lexer.specs.Scan.{StandsNext, IsShort, ScanEnd, ScansFrom, Scans}

placed_next : (text : List ℕ) (from : ℕ) (token : Token) → StandsNext text from token → IsShort token.kind (slice_range text token.start token.end) → IsPlaced text token
placed_next text from token next short = record {
  forward = next.longest.forward;
  inside = next.longest.inside;
  is_token = next.longest.is_token;
  short = short;
  line = next.line;
  line_from_one = omega (arith, next.line, line_at-positive text token.start);
}

placed_from : (text : List ℕ) (from : ℕ) (tokens : List Token) (end : ScanEnd) → ScansFrom text from tokens end → All (IsPlaced text) tokens
placed_from text from [] end scans = λ k d lt. absurd (omega arith)
placed_from text from (token ∷ tokens) end scans =
    All-cons (IsPlaced text) token tokens (placed_next text from token scans.0 scans.1) (placed_from text token.end tokens end scans.2)

begin_from : (text : List ℕ) (from : ℕ) (tokens : List Token) (end : ScanEnd) → ScansFrom text from tokens end → All (λ token. from ≤ token.start) tokens
begin_from text from [] end scans = λ k d lt. absurd (omega arith)
begin_from text from (token ∷ tokens) end scans =
    let later = begin_from text token.end tokens end scans.2 in
    let forward = scans.0.longest.forward in
    let after = scans.0.after in
    All-cons (λ t. from ≤ t.start) token tokens after (All-weaker (λ t. token.end ≤ t.start) (λ t. from ≤ t.start) (λ t h. omega arith) tokens later)

ordered_from : (text : List ℕ) (from : ℕ) (tokens : List Token) (end : ScanEnd) → ScansFrom text from tokens end → AllPairs IsBefore tokens
ordered_from text from [] end scans = λ i j d lt within. absurd (omega arith)
ordered_from text from (token ∷ tokens) end scans =
    AllPairs-cons IsBefore token tokens (begin_from text token.end tokens end scans.2) (ordered_from text token.end tokens end scans.2)

pub placed_tokens : (text : List ℕ) (tokens : List Token) (end : ScanEnd) → Scans text tokens end → All (IsPlaced text) tokens
placed_tokens text tokens end scans = placed_from text 0 tokens end scans

pub ordered_tokens : (text : List ℕ) (tokens : List Token) (end : ScanEnd) → Scans text tokens end → AllPairs IsBefore tokens
ordered_tokens text tokens end scans = ordered_from text 0 tokens end scans
