use Rattle.std.proofs.Common.{◌≡◌, ℕ, List, [], ◌∷◌, refl}
use Rattle.source_lexer.specs.declared.token.TokenKind.TheVariants as kind
use Rattle.source_tree.specs.declared.name.Name.{Name}
use Rattle.source_tree.specs.declared.expression.Expr.{Expr}
use Rattle.source_tree.specs.declared.statement.Statement.{Call}
use Rattle.source_parser.specs.Limits.{weight_limit}
use Rattle.source_parser.specs.Terminals.{Terminal, identifier, fixed, kinds_of}
use Rattle.source_parser.specs.Grammar as grammar
use Rattle.source_parser.specs.Grammar.{ReadsListed, ReadsOutermost, ReadsStatement}
use Rattle.source_parser.specs.Landings.{reads}
use Rattle.source_parser.specs.Wants as wants
use Rattle.source_parser.proofs.Moves.{at_start, and_then, fails}
use Rattle.source_parser.proofs.Runs.{place_begins}
use Rattle.source_parser.proofs.Taken.{taken, not_taken}
use Rattle.source_parser.proofs.TokenMoves.{and_taken, and_token, instead, still, no_token}
use Rattle.source_parser.proofs.statement.assignment_or_call.Goals as goal

call_reads : {depth line last : ℕ} {x : Name} {old inside now new : List Terminal} {arguments : List Expr} → old ≡ fixed kind.LeftParen line ∷ inside
    → ReadsListed (ReadsOutermost weight_limit) inside arguments now → now ≡ fixed kind.Semicolon last ∷ new → ReadsStatement weight_limit depth (identifier x ∷ old) (Call x arguments x.line) new
call_reads opens arguments ends = rw opens (grammar.call (rw ends at arguments))

-- ---- a call
pub returns-in_err-arguments-clause-lands : goal.returns-in_err-arguments-clause-lands
returns-in_err-arguments-clause-lands c = λ d w.
    let opens = taken kind.LeftParen c.args.reader.now c.take.result c.take.new.self c.take.ensures.value c.if-is_some.ensures in
    fails _ (c.in_err-arguments.ensures.lands d _) c.from_residual.ensures.1
    (and_taken (wants.listed ∷ wants.token kind.Semicolon ∷ []) opens.1 (λ s ks. refl) at_start)

pub returns-in_err-expect-clause-lands : goal.returns-in_err-expect-clause-lands
returns-in_err-expect-clause-lands c = λ d w.
    let opens = taken kind.LeftParen c.args.reader.now c.take.result c.take.new.self c.take.ensures.value c.if-is_some.ensures in
    no_token c.in_err-expect.ensures.value c.from_residual-in_err-expect.ensures.1
    (and_then _ (c.in_ok-arguments.ensures.lands d _) (and_taken (wants.listed ∷ wants.token kind.Semicolon ∷ []) opens.1 (λ s ks. refl) at_start))

pub returns-then-is_some-clause-value : goal.returns-then-is_some-clause-value
returns-then-is_some-clause-value c = λ depth.
    let opens = taken kind.LeftParen c.args.reader.now c.take.result c.take.new.self c.take.ensures.value c.if-is_some.ensures in
    call_reads opens.1 c.in_ok-arguments.ensures.value c.in_ok-expect.ensures.value

pub returns-then-is_some-clause-lands : goal.returns-then-is_some-clause-lands
returns-then-is_some-clause-lands c = λ d w.
    let opens = taken kind.LeftParen c.args.reader.now c.take.result c.take.new.self c.take.ensures.value c.if-is_some.ensures in
    reads (and_token c.in_ok-expect.ensures.value
    (and_then _ (c.in_ok-arguments.ensures.lands d _) (and_taken (wants.listed ∷ wants.token kind.Semicolon ∷ []) opens.1 (λ s ks. refl) at_start)))

-- ---- an assignment
pub returns-in_err-place-clause-lands : goal.returns-in_err-place-clause-lands
returns-in_err-place-clause-lands c = λ d w.
    let alone = not_taken kind.LeftParen c.args.reader.now c.take.result c.take.new.self c.take.ensures.value c.if-is_some.ensures in
    fails _ (c.in_err-place.ensures.lands d w) c.from_residual-in_err-place.ensures.1
    (still alone.0 (instead (wants.place_tail ∷ wants.token kind.Becomes ∷ wants.outermost ∷ wants.token kind.Semicolon ∷ [])
    (λ s. place_begins weight_limit s d w (kinds_of c.args.reader.now) alone.1) at_start))

pub returns-in_err-expect-2-clause-lands : goal.returns-in_err-expect-2-clause-lands
returns-in_err-expect-2-clause-lands c = λ d w.
    let alone = not_taken kind.LeftParen c.args.reader.now c.take.result c.take.new.self c.take.ensures.value c.if-is_some.ensures in
    no_token c.in_err-expect-2.ensures.value c.from_residual-in_err-expect-2.ensures.1
    (and_then _ (c.in_ok-place.ensures.lands d w)
    (still alone.0 (instead (wants.place_tail ∷ wants.token kind.Becomes ∷ wants.outermost ∷ wants.token kind.Semicolon ∷ [])
    (λ s. place_begins weight_limit s d w (kinds_of c.args.reader.now) alone.1) at_start)))

pub returns-in_err-value-clause-lands : goal.returns-in_err-value-clause-lands
returns-in_err-value-clause-lands c = λ d w.
    let alone = not_taken kind.LeftParen c.args.reader.now c.take.result c.take.new.self c.take.ensures.value c.if-is_some.ensures in
    fails _ (c.in_err-value.ensures.lands d _) c.from_residual-in_err-value.ensures.1
    (and_token c.in_ok-expect-2.ensures.value (and_then _ (c.in_ok-place.ensures.lands d w)
    (still alone.0 (instead (wants.place_tail ∷ wants.token kind.Becomes ∷ wants.outermost ∷ wants.token kind.Semicolon ∷ [])
    (λ s. place_begins weight_limit s d w (kinds_of c.args.reader.now) alone.1) at_start))))

pub returns-clause-value : goal.returns-clause-value
returns-clause-value c = λ depth.
    let alone = not_taken kind.LeftParen c.args.reader.now c.take.result c.take.new.self c.take.ensures.value c.if-is_some.ensures in
    let place = rw alone.0 at c.in_ok-place.ensures.value in
    grammar.assign (rw c.in_ok-expect-2.ensures.value at place) c.in_ok-value.ensures.value.reads

pub returns-clause-lands : goal.returns-clause-lands
returns-clause-lands c = λ d w.
    let alone = not_taken kind.LeftParen c.args.reader.now c.take.result c.take.new.self c.take.ensures.value c.if-is_some.ensures in
    reads (and_then _ (c.in_ok-value.ensures.lands d _) (and_token c.in_ok-expect-2.ensures.value (and_then _ (c.in_ok-place.ensures.lands d w)
    (still alone.0 (instead (wants.place_tail ∷ wants.token kind.Becomes ∷ wants.outermost ∷ wants.token kind.Semicolon ∷ [])
    (λ s. place_begins weight_limit s d w (kinds_of c.args.reader.now) alone.1) at_start)))))
