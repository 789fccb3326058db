-- From the same terminals one expression is read, up to where nothing makes it longer.
use Rattle.std.proofs.Common.{◌≡◌, ℕ, ℤ, true, false, Bool, List, [], ◌∷◌, refl, ap, sym, subst, ◌∙◌}
use Rattle.source_lexer.specs.declared.token.TokenKind.{TokenKind}
use Rattle.source_lexer.specs.declared.token.TokenKind.TheVariants as kind
use Rattle.source_tree.specs.declared.name.Name.{Name}
use Rattle.source_tree.specs.declared.expression.Operator.{Operator}
use Rattle.source_tree.specs.declared.expression.Operator.TheVariants as operator
use Rattle.source_tree.specs.declared.expression.Expr.{Expr, Number, Name as Variable, Element, Neg, Binary}
use Rattle.source_parser.specs.Terminals.{Terminal, identifier, literal, fixed}
use Rattle.source_parser.specs.Grammar as g
use Rattle.source_parser.specs.Grammar.{Level, factor, term, sum, below, Joins, plus, minus, times, divided, remainder, ReadsExpr}

-- ---- what may follow
-- a kind that would make an expression of a level longer
abbrev pub prolongs : Level → TokenKind → Bool
prolongs level kind.LeftBracket = true
prolongs term kind.Star = true
prolongs term kind.Div = true
prolongs term kind.Mod = true
prolongs sum kind.Star = true
prolongs sum kind.Div = true
prolongs sum kind.Mod = true
prolongs sum kind.Plus = true
prolongs sum kind.Minus = true
prolongs level kind = false

-- nothing that would make an expression of the level longer
abbrev pub Ends : Level → List Terminal → Type 0
Ends level [] = Unit {0}
Ends level (identifier name ∷ terminals) = Unit {0}
Ends level (literal value line ∷ terminals) = Unit {0}
Ends level (fixed kind line ∷ terminals) = prolongs level kind ≡ false

prolongs_below : (level : Level) (kind : TokenKind) → prolongs level kind ≡ false → prolongs (below level) kind ≡ false
prolongs_below factor kind h = h
prolongs_below term kind.LeftBracket h = absurd cc
prolongs_below term kind h = refl
prolongs_below sum kind.LeftBracket h = absurd cc
prolongs_below sum kind.Star h = absurd cc
prolongs_below sum kind.Div h = absurd cc
prolongs_below sum kind.Mod h = absurd cc
prolongs_below sum kind h = refl

ends_below : (level : Level) (terminals : List Terminal) → Ends level terminals → Ends (below level) terminals
ends_below level [] h = tt
ends_below level (identifier x ∷ terminals) h = tt
ends_below level (literal value line ∷ terminals) h = tt
ends_below level (fixed kind line ∷ terminals) h = prolongs_below level kind h

joins_ends : {level : Level} {sign : TokenKind} {op : Operator} → Joins level sign op → prolongs (below level) sign ≡ false
joins_ends plus = refl
joins_ends minus = refl
joins_ends times = refl
joins_ends divided = refl
joins_ends remainder = refl

joins_no_end : {level : Level} {sign : TokenKind} {op : Operator} → Joins level sign op → prolongs level sign ≡ false → ⊥
joins_no_end plus h = absurd cc
joins_no_end minus h = absurd cc
joins_no_end times h = absurd cc
joins_no_end divided h = absurd cc
joins_no_end remainder h = absurd cc

-- the operator of a sign
operator_of : TokenKind → Operator
operator_of kind.Plus = operator.Add
operator_of kind.Minus = operator.Sub
operator_of kind.Star = operator.Mul
operator_of kind.Div = operator.Div
operator_of kind = operator.Mod

joins_operator : {level : Level} {sign : TokenKind} {op : Operator} → Joins level sign op → op ≡ operator_of sign
unfolding operator_of
joins_operator plus = refl
joins_operator minus = refl
joins_operator times = refl
joins_operator divided = refl
joins_operator remainder = refl

-- ---- an expression is its first part, and what is joined to it
mutual
  data Chain : Level → List Terminal → Expr → List Terminal → Type 0 where
    number : {value : ℤ} {line : ℕ} {rest : List Terminal} → Chain factor (literal value line ∷ rest) (Number value line) rest
    name : {x : Name} {rest : List Terminal} → Chain factor (identifier x ∷ rest) (Variable x) rest
    element : {x : Name} {line last : ℕ} {terminals rest : List Terminal} {index : Expr}
        → Chain sum terminals index (fixed kind.RightBracket last ∷ rest)
        → Chain factor (identifier x ∷ fixed kind.LeftBracket line ∷ terminals) (Element x index) rest
    negated : {line : ℕ} {terminals rest : List Terminal} {operand : Expr} → Chain factor terminals operand rest → Chain factor (fixed kind.Minus line ∷ terminals) (Neg operand line) rest
    bracketed : {line last : ℕ} {terminals rest : List Terminal} {inner : Expr}
        → Chain sum terminals inner (fixed kind.RightParen last ∷ rest) → Chain factor (fixed kind.LeftParen line ∷ terminals) inner rest
    factors : {terminals behind rest : List Terminal} {first e : Expr} → Chain factor terminals first behind → Tail term first behind e rest → Chain term terminals e rest
    terms : {terminals behind rest : List Terminal} {first e : Expr} → Chain term terminals first behind → Tail sum first behind e rest → Chain sum terminals e rest

  data Tail : Level → Expr → List Terminal → Expr → List Terminal → Type 0 where
    ends : {level : Level} {e : Expr} {rest : List Terminal} → Tail level e rest e rest
    goes_on : {level : Level} {left right whole : Expr} {behind after rest : List Terminal} {sign : TokenKind} {line : ℕ} {op : Operator}
        → Joins level sign op → Chain (below level) behind right after → Tail level (Binary left op right line) after whole rest
        → Tail level left (fixed sign line ∷ behind) whole rest

one_more : {level : Level} {first left right : Expr} {now behind rest : List Terminal} {sign : TokenKind} {line : ℕ} {op : Operator}
    → Tail level first now left (fixed sign line ∷ behind) → Joins level sign op → Chain (below level) behind right rest → Tail level first now (Binary left op right line) rest
one_more ends joins right = goes_on joins right ends
one_more (goes_on before part on) joins right = goes_on before part (one_more on joins right)

chain : {level : Level} {terminals rest : List Terminal} {e : Expr} → ReadsExpr level terminals e rest → Chain level terminals e rest
chain g.number = number
chain g.name = name
chain (g.element index) = element (chain index)
chain (g.negated operand) = negated (chain operand)
chain (g.bracketed inner) = bracketed (chain inner)
chain (g.one_factor part) = factors (chain part) ends
chain (g.multiplied left joins right) = elim (chain left) [ factors first tail ↦ factors first (one_more tail joins (chain right)) ]
chain (g.one_term part) = terms (chain part) ends
chain (g.added left joins right) = elim (chain left) [ terms first tail ↦ terms first (one_more tail joins (chain right)) ]

-- ---- two are one
tail_ends : {level : Level} {left whole : Expr} {now rest : List Terminal} → Tail level left now whole rest → Ends level rest → Ends (below level) now
tail_ends {level} {left} {whole} {now} {rest} ends h = ends_below level rest h
tail_ends (goes_on joins right on) h = joins_ends joins

mutual
  same_chain : {level : Level} {terminals r s : List Terminal} {a b : Expr} → Chain level terminals a r → Chain level terminals b s → Ends level r → Ends level s → (a ≡ b) × (r ≡ s)
  same_chain number number h k = (refl, refl)
  same_chain name name h k = (refl, refl)
  same_chain name (element index) h k = absurd cc
  same_chain (element index) name h k = absurd cc
  same_chain (element {x = x} index) (element other) h k = let same = same_chain index other refl refl in (ap (Element x) same.0, let e = same.1 in cc)
  same_chain (negated {line = line} operand) (negated other) h k = let same = same_chain operand other h k in (ap (λ (e : Expr). Neg e line) same.0, same.1)
  same_chain (bracketed inner) (bracketed other) h k = let same = same_chain inner other refl refl in (same.0, let e = same.1 in cc)
  same_chain (factors first tail) (factors other tail') h k =
      let same = same_chain first other (tail_ends tail h) (tail_ends tail' k) in
      same_tail tail tail' same.0 same.1 h k
  same_chain (terms first tail) (terms other tail') h k =
      let same = same_chain first other (tail_ends tail h) (tail_ends tail' k) in
      same_tail tail tail' same.0 same.1 h k

  same_tail : {level : Level} {left left' a b : Expr} {now now' r s : List Terminal} → Tail level left now a r → Tail level left' now' b s → left ≡ left' → now ≡ now'
      → Ends level r → Ends level s → (a ≡ b) × (r ≡ s)
  same_tail ends ends p q h k = (p, q)
  same_tail ends (goes_on joins right on) p q h k = absurd (joins_no_end joins (rw q at h))
  same_tail (goes_on joins right on) ends p q h k = absurd (joins_no_end joins (rw (sym q) at k))
  same_tail {level} {left} (goes_on {right = right} {behind = behind} {after = after} {sign = sign} {line = line} {op = op} joins part on)
      (goes_on {left = left'} {right = right'} {behind = behind'} {after = after'} {sign = sign'} {line = line'} {op = op'} joins' part' on') p q h k =
      let same_behind : behind' ≡ behind = cc in
      let same_sign : sign ≡ sign' = cc in
      let same_line : line ≡ line' = cc in
      let same_op : op ≡ op' = joins_operator joins ∙ ap operator_of same_sign ∙ sym (joins_operator joins') in
      let same = same_chain part (subst (λ (ts : List Terminal). Chain (below level) ts right' after') same_behind part') (tail_ends on h) (tail_ends on' k) in
      let same_right = same.0 in
      let same_left : Binary left op right line ≡ Binary left' op' right' line' = cc in
      same_tail on on' same_left same.1 h k

pub one_expression : {level : Level} {terminals r s : List Terminal} {a b : Expr} → ReadsExpr level terminals a r → ReadsExpr level terminals b s → Ends level r → Ends level s → (a ≡ b) × (r ≡ s)
one_expression first second h k = same_chain (chain first) (chain second) h k
