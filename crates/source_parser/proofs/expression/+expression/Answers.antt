use Rattle.std.proofs.Common.{◌≡◌, ℕ, List, [], ◌∷◌, length, Result, Ok, Err, refl, sym, ap, subst, ◌∙◌, not, arith, rules}
use Rattle.std.specs.Prelude.{ℤ, IfOk}
use Rattle.std.specs.Int.{w128}
use Rattle.std.specs.Int.RustNames.{FitsSigned}
use Rattle.std.proofs.lemmas.Int.{to_z-of_z}
use Rattle.source_lexer.specs.declared.token.TokenKind.{TokenKind}
use Rattle.source_lexer.specs.declared.token.TokenKind.TheVariants as kind
use Rattle.source_tree.specs.declared.name.Name.{Name}
use Rattle.source_tree.specs.declared.expression.Expr.{Expr, Number, Element, Neg}
use Rattle.source_parser.specs.declared.fault.Fault.{Fault}
use Rattle.source_parser.specs.Limits.{weight_limit}
use Rattle.source_parser.specs.Terminals.{Terminal, identifier, literal, fixed, kinds_of}
use Rattle.source_parser.specs.Grammar.{factor, sum, ReadsExpr, number, name, element, negated, bracketed}
use Rattle.source_parser.specs.Landings.{Comes, reads}
use Rattle.source_parser.specs.Taking.{NotKind}
use Rattle.source_parser.specs.Wants as wants
use Rattle.source_parser.specs.Wants.{stopped}
use Rattle.source_parser.proofs.Chains.{part_and_tail, one_part, one_more, heavier, begins, ends, goes, deep}
use Rattle.source_parser.proofs.Moves.{at_start, and_then, ends_with, fails}
use Rattle.source_parser.proofs.Runs.{index_ends}
use Rattle.source_parser.proofs.Runs as runs
use Rattle.source_parser.proofs.Taken.{weighted_taken, weighted_missed}
use Rattle.source_parser.proofs.TokenMoves.{and_weighted, and_inside, and_inner, and_not, instead, still, unmoved, no_inner, no_name_of, no_memory_for, too_many}
use Rattle.source_parser.proofs.expression.+expression.Goals as goal

-- ---- factors
negated_reads : {old behind new : List Terminal} {line : ℕ} {operand : Expr} → old ≡ fixed kind.Minus line ∷ behind → ReadsExpr factor behind operand new → ReadsExpr factor old (Neg operand line) new
negated_reads minus h = rw minus (negated h)

bracketed_reads : {old inside now new : List Terminal} {line last : ℕ} {e : Expr} → old ≡ fixed kind.LeftParen line ∷ inside → ReadsExpr sum inside e now → now ≡ fixed kind.RightParen last ∷ new
    → ReadsExpr factor old e new
bracketed_reads opens h closes = rw opens (bracketed (rw closes at h))

number_reads : {old new : List Terminal} {value : ℤ} {line : ℕ} → old ≡ literal value line ∷ new → ReadsExpr factor old (Number value line) new
number_reads there = rw there number

name_reads : {old now : List Terminal} {x : Name} (new : List Terminal) (result : Result Expr Fault) → old ≡ identifier x ∷ now
    → IfOk result (λ e. ReadsExpr factor (identifier x ∷ now) e new) → IfOk result (λ e. ReadsExpr factor old e new)
name_reads new (Ok e) there h = rw there h
name_reads new (Err fault) there h = tt

element_reads : {x : Name} {old inside now new : List Terminal} {line last : ℕ} {index : Expr} → old ≡ fixed kind.LeftBracket line ∷ inside → ReadsExpr sum inside index now
    → now ≡ fixed kind.RightBracket last ∷ new → ReadsExpr factor (identifier x ∷ old) (Element x index) new
element_reads opens h closes = rw opens (element (rw closes at h))

-- no factor begins where none of their first tokens stands
no_factor : {a b c e : List Terminal} {d w : ℕ} → b ≡ a → c ≡ b → e ≡ c
    → NotKind kind.Minus (kinds_of a) → NotKind kind.LeftParen (kinds_of b) → NotKind kind.Number (kinds_of c) → NotKind kind.Name (kinds_of e)
    → Comes (wants.factor ∷ []) e d w (stopped (kinds_of e))
no_factor {e = e} {d = d} {w = w} p q r no_minus no_paren no_number no_name =
    let at_e = λ (k : TokenKind) (ts : List Terminal) (same : ts ≡ e) (missing : NotKind k (kinds_of ts)). subst (λ (xs : List Terminal). NotKind k (kinds_of xs)) same missing in
    record {
      comes = λ s. runs.no_factor weight_limit s d w (kinds_of e) (at_e kind.Minus _ (sym (r ∙ q ∙ p)) no_minus) (at_e kind.LeftParen _ (sym (r ∙ q)) no_paren)
          (at_e kind.Number _ (sym r) no_number) no_name;
    }

pub factor-returns-in_err-line-clause-lands : goal.factor-returns-in_err-line-clause-lands
factor-returns-in_err-line-clause-lands t c = λ d. too_many c.in_err-line.ensures.value (λ s ks. refl) c.from_residual.ensures.1 at_start

pub factor-returns-in_err-operand-clause-lands : goal.factor-returns-in_err-operand-clause-lands
factor-returns-in_err-operand-clause-lands t c = λ d.
    let minus = rw c.in-Some.is at c.in_ok-line.ensures.value in
    fails _ (c.in_err-operand.ensures.lands d) c.from_residual-in_err-operand.ensures.1 (and_weighted (wants.factor ∷ []) minus.0 minus.1 (λ s ks. refl) at_start)

pub factor-returns-in_err-operand-2-clause-lands : goal.factor-returns-in_err-operand-2-clause-lands
factor-returns-in_err-operand-2-clause-lands t c = λ d. no_memory_for c.from_residual-in_err-operand-2.ensures.1

pub factor-returns-in-Some-clause-value : goal.factor-returns-in-Some-clause-value
factor-returns-in-Some-clause-value t c =
    let minus = rw c.in-Some.is at c.in_ok-line.ensures.value in
    rw c.in_ok-operand-2.ensures (negated_reads minus.0 c.in_ok-operand.ensures.value)

pub factor-returns-in-Some-clause-lands : goal.factor-returns-in-Some-clause-lands
factor-returns-in-Some-clause-lands t c = λ d.
    let minus = rw c.in-Some.is at c.in_ok-line.ensures.value in
    reads (and_then _ (c.in_ok-operand.ensures.lands d) (and_weighted (wants.factor ∷ []) minus.0 minus.1 (λ s ks. refl) at_start))

pub factor-returns-in_err-take_weighted-clause-lands : goal.factor-returns-in_err-take_weighted-clause-lands
factor-returns-in_err-take_weighted-clause-lands t c = λ d.
    let minus = rw c.in_default.is at c.in_ok-line.ensures.value in
    too_many c.in_err-take_weighted.ensures.value (λ s ks. refl) c.from_residual-in_err-take_weighted.ensures.1 (and_not minus at_start)

pub factor-returns-in_err-inner-clause-lands : goal.factor-returns-in_err-inner-clause-lands
factor-returns-in_err-inner-clause-lands t c = λ d.
    let minus = rw c.in_default.is at c.in_ok-line.ensures.value in
    let paren = weighted_taken _ _ _ _ _ _ c.in_ok-take_weighted.ensures.value (sym c.is_some.ensures ∙ c.if-is_some.true) in
    fails _ (c.in_err-inner.ensures.lands d) c.from_residual-in_err-inner.ensures.1
    (and_weighted (wants.sum ∷ wants.inner kind.RightParen ∷ []) paren.1 paren.2 (λ s ks. refl) (and_not minus at_start))

pub factor-returns-in_err-expect-clause-lands : goal.factor-returns-in_err-expect-clause-lands
factor-returns-in_err-expect-clause-lands t c = λ d.
    let minus = rw c.in_default.is at c.in_ok-line.ensures.value in
    let paren = weighted_taken _ _ _ _ _ _ c.in_ok-take_weighted.ensures.value (sym c.is_some.ensures ∙ c.if-is_some.true) in
    no_inner c.in_err-expect.ensures.value c.from_residual-in_err-expect.ensures.1
    (and_then _ (c.in_ok-inner.ensures.lands d) (and_weighted (wants.sum ∷ wants.inner kind.RightParen ∷ []) paren.1 paren.2 (λ s ks. refl) (and_not minus at_start)))

pub factor-returns-then-is_some-clause-value : goal.factor-returns-then-is_some-clause-value
factor-returns-then-is_some-clause-value t c =
    let minus = rw c.in_default.is at c.in_ok-line.ensures.value in
    let paren = weighted_taken _ _ _ _ _ _ c.in_ok-take_weighted.ensures.value (sym c.is_some.ensures ∙ c.if-is_some.true) in
    bracketed_reads (sym minus.1.0 ∙ paren.1) c.in_ok-inner.ensures.value c.in_ok-expect.ensures.value

pub factor-returns-then-is_some-clause-lands : goal.factor-returns-then-is_some-clause-lands
factor-returns-then-is_some-clause-lands t c = λ d.
    let minus = rw c.in_default.is at c.in_ok-line.ensures.value in
    let paren = weighted_taken _ _ _ _ _ _ c.in_ok-take_weighted.ensures.value (sym c.is_some.ensures ∙ c.if-is_some.true) in
    reads (and_inner c.in_ok-expect.ensures.value (and_then _ (c.in_ok-inner.ensures.lands d)
    (and_weighted (wants.sum ∷ wants.inner kind.RightParen ∷ []) paren.1 paren.2 (λ s ks. refl) (and_not minus at_start))))

pub factor-returns-in-Some-take_number-clause-value : goal.factor-returns-in-Some-take_number-clause-value
factor-returns-in-Some-take_number-clause-value t c =
    let minus = rw c.in_default.is at c.in_ok-line.ensures.value in
    let paren = weighted_missed _ _ _ _ _ _ c.in_ok-take_weighted.ensures.value (sym c.is_some.ensures ∙ c.if-is_some.false) in
    let there = sym (paren.1.0 ∙ minus.1.0) ∙ c.in-Some-take_number.ensures.value in
    let fits : FitsSigned w128 c.in-Some-take_number.value = search rules in
    simp to_z-of_z (number_reads there)

pub factor-returns-in-Some-take_number-clause-lands : goal.factor-returns-in-Some-take_number-clause-lands
factor-returns-in-Some-take_number-clause-lands t c = λ d.
    let minus = rw c.in_default.is at c.in_ok-line.ensures.value in
    let paren = weighted_missed _ _ _ _ _ _ c.in_ok-take_weighted.ensures.value (sym c.is_some.ensures ∙ c.if-is_some.false) in
    reads (and_inside [] c.in-Some-take_number.ensures.value (λ s ks. refl) (and_not paren (and_not minus at_start)))

pub factor-returns-in_err-name-clause-lands : goal.factor-returns-in_err-name-clause-lands
factor-returns-in_err-name-clause-lands t c = λ d.
    let minus = rw c.in_default.is at c.in_ok-line.ensures.value in
    let paren = weighted_missed _ _ _ _ _ _ c.in_ok-take_weighted.ensures.value (sym c.is_some.ensures ∙ c.if-is_some.false) in
    let numbered = c.in_default-take_number.ensures.value in
    no_name_of _ c.in_err-name.field-0.0 c.in_err-name.ensures.value c.from_residual-in_err-name.ensures.1
    (no_factor minus.1.0 paren.1.0 numbered.0 minus.1.1 paren.1.1 numbered.1) (still numbered.0 (and_not paren (and_not minus at_start)))

pub factor-returns-clause-value : goal.factor-returns-clause-value
factor-returns-clause-value t c =
    let minus = rw c.in_default.is at c.in_ok-line.ensures.value in
    let paren = weighted_missed _ _ _ _ _ _ c.in_ok-take_weighted.ensures.value (sym c.is_some.ensures ∙ c.if-is_some.false) in
    let numbered = c.in_default-take_number.ensures.value in
    name_reads c.variable.new.reader c.variable.result (sym (numbered.0 ∙ paren.1.0 ∙ minus.1.0) ∙ c.in_ok-name.ensures.value) c.variable.ensures.value

pub factor-returns-clause-lands : goal.factor-returns-clause-lands
factor-returns-clause-lands t c = λ d.
    let minus = rw c.in_default.is at c.in_ok-line.ensures.value in
    let paren = weighted_missed _ _ _ _ _ _ c.in_ok-take_weighted.ensures.value (sym c.is_some.ensures ∙ c.if-is_some.false) in
    let numbered = c.in_default-take_number.ensures.value in
    ends_with (c.variable.ensures.lands d)
    (and_inside (wants.index ∷ []) c.in_ok-name.ensures.value (λ s ks. refl) (still numbered.0 (and_not paren (and_not minus at_start))))

-- ---- after a name
pub variable-returns-in_err-take_weighted-clause-lands : goal.variable-returns-in_err-take_weighted-clause-lands
variable-returns-in_err-take_weighted-clause-lands t c = λ d. too_many c.in_err-take_weighted.ensures.value (λ s ks. refl) c.from_residual.ensures.1 at_start

pub variable-returns-then-is_none-clause-value : goal.variable-returns-then-is_none-clause-value
variable-returns-then-is_none-clause-value t c =
    let bracket = weighted_missed _ _ _ _ _ _ c.in_ok-take_weighted.ensures.value (c.is_none.ensures ∙ ap not c.if-is_none.true) in
    rw bracket.1.0 name

pub variable-returns-then-is_none-clause-lands : goal.variable-returns-then-is_none-clause-lands
variable-returns-then-is_none-clause-lands t c = λ d.
    let bracket = weighted_missed _ _ _ _ _ _ c.in_ok-take_weighted.ensures.value (c.is_none.ensures ∙ ap not c.if-is_none.true) in
    reads (and_not bracket (instead [] (λ s. index_ends weight_limit s d c.args.weight_left.now (kinds_of c.args.reader.now) bracket.1.1) at_start))

pub variable-returns-in_err-index-clause-lands : goal.variable-returns-in_err-index-clause-lands
variable-returns-in_err-index-clause-lands t c = λ d.
    let bracket = weighted_taken _ _ _ _ _ _ c.in_ok-take_weighted.ensures.value (c.is_none.ensures ∙ ap not c.if-is_none.false) in
    fails _ (c.in_err-index.ensures.lands d) c.from_residual-in_err-index.ensures.1
    (and_weighted (wants.sum ∷ wants.inner kind.RightBracket ∷ []) bracket.1 bracket.2 (λ s ks. refl) at_start)

pub variable-returns-in_err-expect-clause-lands : goal.variable-returns-in_err-expect-clause-lands
variable-returns-in_err-expect-clause-lands t c = λ d.
    let bracket = weighted_taken _ _ _ _ _ _ c.in_ok-take_weighted.ensures.value (c.is_none.ensures ∙ ap not c.if-is_none.false) in
    no_inner c.in_err-expect.ensures.value c.from_residual-in_err-expect.ensures.1
    (and_then _ (c.in_ok-index.ensures.lands d) (and_weighted (wants.sum ∷ wants.inner kind.RightBracket ∷ []) bracket.1 bracket.2 (λ s ks. refl) at_start))

pub variable-returns-in_err-index-2-clause-lands : goal.variable-returns-in_err-index-2-clause-lands
variable-returns-in_err-index-2-clause-lands t c = λ d. no_memory_for c.from_residual-in_err-index-2.ensures.1

pub variable-returns-clause-value : goal.variable-returns-clause-value
variable-returns-clause-value t c =
    let bracket = weighted_taken _ _ _ _ _ _ c.in_ok-take_weighted.ensures.value (c.is_none.ensures ∙ ap not c.if-is_none.false) in
    rw c.in_ok-index-2.ensures (element_reads bracket.1 c.in_ok-index.ensures.value c.in_ok-expect.ensures.value)

pub variable-returns-clause-lands : goal.variable-returns-clause-lands
variable-returns-clause-lands t c = λ d.
    let bracket = weighted_taken _ _ _ _ _ _ c.in_ok-take_weighted.ensures.value (c.is_none.ensures ∙ ap not c.if-is_none.false) in
    reads (and_inner c.in_ok-expect.ensures.value
    (and_then _ (c.in_ok-index.ensures.lands d) (and_weighted (wants.sum ∷ wants.inner kind.RightBracket ∷ []) bracket.1 bracket.2 (λ s ks. refl) at_start)))

-- ---- sums and terms
pub parts-returns-in_err-left-clause-lands : goal.parts-returns-in_err-left-clause-lands
parts-returns-in_err-left-clause-lands t c = λ d.
    fails _ (c.in_err-left.ensures.lands d) c.from_residual.ensures.1
    (instead (part_and_tail c.args.chain) (λ s. begins weight_limit s d c.args.weight_left.now c.args.chain (kinds_of c.args.reader.now)) at_start)

pub parts-loop-left-init : goal.parts-loop-left-init
parts-loop-left-init t c = record {
  reads = one_part c.args.chain c.in_ok-left.ensures.value;
  leads = λ d. and_then _ (c.in_ok-left.ensures.lands d) (instead (part_and_tail c.args.chain) (λ s. begins weight_limit s d c.args.weight_left.now c.args.chain (kinds_of c.args.reader.now)) at_start);
  weight_paid = c.in_ok-left.ensures.weight_paid;
  shorter = c.in_ok-left.ensures.shorter;
}

pub parts-returns-in_err-operator-clause-lands : goal.parts-returns-in_err-operator-clause-lands
parts-returns-in_err-operator-clause-lands t c = λ d.
    let many = c.in_err-operator.ensures.value in
    too_many (many.0, many.1, many.5) (λ s ks. deep weight_limit s d 0 c.args.chain many.4 ks) c.from_residual-in_err-operator.ensures.1 (c.loop-left.invariant.leads d)

pub parts-returns-in_err-right-clause-lands : goal.parts-returns-in_err-right-clause-lands
parts-returns-in_err-right-clause-lands t c = λ d.
    let sign = rw c.in-Some.is at c.in_ok-operator.ensures.value in
    fails _ (c.in_err-right.ensures.lands d) c.from_residual-in_err-right.ensures.1
    (and_weighted (part_and_tail c.args.chain) sign.2 sign.3 (λ s ks. goes weight_limit s d _ c.args.chain sign.1 ks) (c.loop-left.invariant.leads d))

pub parts-returns-in_err-left-2-clause-lands : goal.parts-returns-in_err-left-2-clause-lands
parts-returns-in_err-left-2-clause-lands t c = λ d. no_memory_for c.from_residual-in_err-left-2.ensures.1

pub parts-loop-left-preserved : goal.parts-loop-left-preserved
parts-loop-left-preserved t c =
    let sign = rw c.in-Some.is at c.in_ok-operator.ensures.value in
    let right = c.in_ok-right.ensures in
    let so_far = c.loop-left.invariant in
    let heavy = heavier sign.1 sign.2 in
    let longer = ap length sign.2 in
    let paid = right.weight_paid in
    let less = right.shorter in
    rw c.in_ok-left-2.ensures (record {
      reads = one_more c.args.chain sign.2 so_far.reads sign.1 right.value;
      leads = λ d. and_then _ (right.lands d) (and_weighted (part_and_tail c.args.chain) sign.2 sign.3 (λ s ks. goes weight_limit s d _ c.args.chain sign.1 ks) (c.loop-left.invariant.leads d));
      weight_paid = omega (arith, heavy, paid, so_far.weight_paid, sign.3);
      shorter = omega (arith, longer, less, so_far.shorter);
    })

pub parts-returns-clause-value : goal.parts-returns-clause-value
parts-returns-clause-value t c =
    let none = rw c.in_default.is at c.in_ok-operator.ensures.value in
    rw none.1 c.loop-left.invariant.reads

pub parts-returns-clause-lands : goal.parts-returns-clause-lands
parts-returns-clause-lands t c = λ d.
    let none = rw c.in_default.is at c.in_ok-operator.ensures.value in
    reads (unmoved none.0 none.1 (instead [] (λ s. ends weight_limit s d _ c.args.chain (kinds_of c.loop-left.reader) none.2) (c.loop-left.invariant.leads d)))
