-- Sums and terms: parts of the level below, and operators between them.
use Rattle.std.proofs.Common.{◌≡◌, ℕ, suc, List, [], ◌∷◌, ◌++◌, refl, ap, ◌∙◌}
use Rattle.source_lexer.specs.declared.token.TokenKind.{TokenKind}
use Rattle.source_lexer.specs.declared.token.TokenKind.TheVariants as kind
use Rattle.source_tree.specs.declared.expression.Operator.{Operator}
use Rattle.source_tree.specs.declared.expression.Expr.{Expr, Binary}
use Rattle.source_parser.specs.declared.expression.Chain.{Chain}
use Rattle.source_parser.specs.declared.expression.Chain.TheVariants as chain
use Rattle.source_parser.specs.Terminals.{Terminal, fixed}
use Rattle.source_parser.specs.Grammar.{Level, below, weight, Joins, plus, minus, times, divided, remainder, ReadsExpr, one_factor, multiplied, one_term, added}
use Rattle.source_parser.specs.Taking.{level_of, NotKind}
use Rattle.source_parser.specs.Wants.{Want, sum_tail, term_tail, wanted, run, too_deep}
use Rattle.source_parser.proofs.Forward.{weight_joins}
use Rattle.source_parser.proofs.Runs.{sum_begins, term_begins}

-- ---- what they read
pub one_part : (c : Chain) {terminals rest : List Terminal} {e : Expr} → ReadsExpr (below (level_of c)) terminals e rest → ReadsExpr (level_of c) terminals e rest
one_part chain.Sum r = one_term r
one_part chain.Term r = one_factor r

pub one_more : (c : Chain) {terminals now behind rest : List Terminal} {left right : Expr} {sign : TokenKind} {line : ℕ} {op : Operator}
    → now ≡ fixed sign line ∷ behind → ReadsExpr (level_of c) terminals left now → Joins (level_of c) sign op → ReadsExpr (below (level_of c)) behind right rest
    → ReadsExpr (level_of c) terminals (Binary left op right line) rest
one_more chain.Sum there r joins q = added (rw there at r) joins q
one_more chain.Term there r joins q = multiplied (rw there at r) joins q

pub heavier : {level : Level} {now behind : List Terminal} {sign : TokenKind} {line : ℕ} {op : Operator} → Joins level sign op → now ≡ fixed sign line ∷ behind → weight now ≡ suc (weight behind)
heavier {behind = behind} {line = line} joins same = ap weight same ∙ weight_joins joins line behind

-- ---- what is wanted of them
-- operators and what they join, or nothing
abbrev pub tail_of : Chain → Want
tail_of chain.Sum = sum_tail
tail_of chain.Term = term_tail

abbrev pub part_and_tail : Chain → List Want
part_and_tail c = wanted (below (level_of c)) ∷ tail_of c ∷ []

module _ (width : ℕ) (s : List Want) (d w : ℕ) where
  pub begins : (c : Chain) (ks : List TokenKind) → run width ks (wanted (level_of c) ∷ s) d w ≡ run width ks (part_and_tail c ++ s) d w
  begins chain.Sum ks = sum_begins width s d w ks
  begins chain.Term ks = term_begins width s d w ks

  pub ends : (c : Chain) (ks : List TokenKind) → ((sign : TokenKind) (op : Operator) → Joins (level_of c) sign op → NotKind sign ks) → run width ks (tail_of c ∷ s) d w ≡ run width ks s d w
  ends chain.Sum [] not = refl
  ends chain.Sum (kind.Plus ∷ ks) not = absurd (not _ _ plus ks refl)
  ends chain.Sum (kind.Minus ∷ ks) not = absurd (not _ _ minus ks refl)
  ends chain.Sum (k ∷ ks) not = refl
  ends chain.Term [] not = refl
  ends chain.Term (kind.Star ∷ ks) not = absurd (not _ _ times ks refl)
  ends chain.Term (kind.Div ∷ ks) not = absurd (not _ _ divided ks refl)
  ends chain.Term (kind.Mod ∷ ks) not = absurd (not _ _ remainder ks refl)
  ends chain.Term (k ∷ ks) not = refl

  -- an operator, taken or one too many
  pub goes : (c : Chain) {sign : TokenKind} {op : Operator} → Joins (level_of c) sign op → (ks : List TokenKind)
      → run width (sign ∷ ks) (tail_of c ∷ s) d (suc w) ≡ run width ks (part_and_tail c ++ s) d w
  goes chain.Sum plus ks = refl
  goes chain.Sum minus ks = refl
  goes chain.Term times ks = refl
  goes chain.Term divided ks = refl
  goes chain.Term remainder ks = refl

  pub deep : (c : Chain) {sign : TokenKind} {op : Operator} → Joins (level_of c) sign op → (ks : List TokenKind) → run width (sign ∷ ks) (tail_of c ∷ s) d 0 ≡ too_deep (sign ∷ ks)
  deep chain.Sum plus ks = refl
  deep chain.Sum minus ks = refl
  deep chain.Term times ks = refl
  deep chain.Term divided ks = refl
  deep chain.Term remainder ks = refl
