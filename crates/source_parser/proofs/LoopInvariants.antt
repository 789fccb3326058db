-- What loops keep of what they read.
use Rattle.std.specs.Prelude.{◌≡◌, ℕ, ◌+◌, ◌<◌, ◌≤◌, List, [], ◌∷◌, ◌++◌, length}
use Rattle.source_lexer.specs.declared.token.TokenKind.TheVariants as kind
use Rattle.source_tree.specs.declared.expression.Expr.{Expr}
use Rattle.source_parser.specs.Terminals.{Terminal, fixed}
use Rattle.source_parser.specs.Grammar.{ReadsExpr, ReadsCommas, weight}
use Rattle.source_parser.specs.declared.expression.Chain.{Chain}
use Rattle.source_parser.specs.Landings.{Leads}
use Rattle.source_parser.specs.Taking.{level_of}
use Rattle.source_parser.specs.Wants.{wanted}
use Rattle.source_parser.proofs.Chains.{tail_of}

-- the parts of a sum or of a term, joined from the left
pub record Joining (c : Chain) (start : List Terminal) (budget : ℕ) (left : Expr) (now : List Terminal) (weight_left : ℕ) : Type 0 where
  pub reads : ReadsExpr (level_of c) start left now
  pub leads : (depth : ℕ) → Leads (wanted (level_of c) ∷ []) start depth budget (tail_of c ∷ []) now depth weight_left
  pub weight_paid : weight start + weight_left ≡ weight now + budget
  pub shorter : length now < length start

-- Things one after another: what was found and more is all.
pub record Listing {A : Type 0} (ReadsThem : List Terminal → List A → List Terminal → Type 0) (start : List Terminal) (found : List A) (now : List Terminal) : Type 0 where
  pub reads : (more : List A) (rest : List Terminal) → ReadsThem now more rest → ReadsThem start (found ++ more) rest
  pub shorter : length now ≤ length start

-- Things with commas between them: the last that was found is before a comma and more, or before `)`.
pub record Gathering {A : Type 0} (Reads : List Terminal → A → List Terminal → Type 0) (start : List Terminal) (found : List A) (now : List Terminal) : Type 0 where
  pub ends : (rest : List Terminal) (line : ℕ) → now ≡ fixed kind.RightParen line ∷ rest → ReadsCommas Reads start found rest
  pub goes_on : (more : List A) (behind rest : List Terminal) (line : ℕ) → now ≡ fixed kind.Comma line ∷ behind → ReadsCommas Reads behind more rest
      → ReadsCommas Reads start (found ++ more) rest
  pub shorter : length now < length start
