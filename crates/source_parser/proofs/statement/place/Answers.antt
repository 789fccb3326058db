use Rattle.std.proofs.Common.{◌≡◌, ℕ, List, [], ◌∷◌, refl, sym}
use Rattle.source_lexer.specs.declared.token.TokenKind.TheVariants as kind
use Rattle.source_tree.specs.declared.name.Name.{Name}
use Rattle.source_tree.specs.declared.expression.Expr.{Expr}
use Rattle.source_tree.specs.declared.statement.Place.TheVariants as place
use Rattle.source_parser.specs.Limits.{weight_limit}
use Rattle.source_parser.specs.Terminals.{Terminal, identifier, fixed, kinds_of}
use Rattle.source_parser.specs.Grammar.{ReadsOutermost, ReadsPlace, variable, element_of}
use Rattle.source_parser.specs.Landings.{reads}
use Rattle.source_parser.specs.Wants as wants
use Rattle.source_parser.proofs.Moves.{at_start, and_then, fails}
use Rattle.source_parser.proofs.Runs.{place_ends}
use Rattle.source_parser.proofs.Taken.{taken, not_taken}
use Rattle.source_parser.proofs.TokenMoves.{and_taken, and_token, instead, still, no_token}
use Rattle.source_parser.proofs.statement.place.Goals as goal

element_reads : {x : Name} {old inside now new : List Terminal} {line last : ℕ} {index : Expr} → old ≡ fixed kind.LeftBracket line ∷ inside → ReadsOutermost weight_limit inside index now
    → now ≡ fixed kind.RightBracket last ∷ new → ReadsPlace weight_limit (identifier x ∷ old) (place.Element x index) new
element_reads opens index closes = rw opens (element_of (rw closes at index))

pub returns-then-is_none-clause-value : goal.returns-then-is_none-clause-value
returns-then-is_none-clause-value c =
    let alone = not_taken kind.LeftBracket c.args.reader.now c.take.result c.take.new.self c.take.ensures.value (sym c.if-is_none.ensures) in
    rw alone.0 variable

pub returns-then-is_none-clause-lands : goal.returns-then-is_none-clause-lands
returns-then-is_none-clause-lands c = λ d w.
    let alone = not_taken kind.LeftBracket c.args.reader.now c.take.result c.take.new.self c.take.ensures.value (sym c.if-is_none.ensures) in
    reads (still alone.0 (instead [] (λ s. place_ends weight_limit s d w (kinds_of c.args.reader.now) alone.1) at_start))

pub returns-in_err-index-clause-lands : goal.returns-in_err-index-clause-lands
returns-in_err-index-clause-lands c = λ d w.
    let opens = taken kind.LeftBracket c.args.reader.now c.take.result c.take.new.self c.take.ensures.value (sym c.if-is_none.ensures) in
    fails _ (c.in_err-index.ensures.lands d _) c.from_residual.ensures.1
    (and_taken (wants.outermost ∷ wants.token kind.RightBracket ∷ []) opens.1 (λ s ks. refl) at_start)

pub returns-in_err-expect-clause-lands : goal.returns-in_err-expect-clause-lands
returns-in_err-expect-clause-lands c = λ d w.
    let opens = taken kind.LeftBracket c.args.reader.now c.take.result c.take.new.self c.take.ensures.value (sym c.if-is_none.ensures) in
    no_token c.in_err-expect.ensures.value c.from_residual-in_err-expect.ensures.1
    (and_then _ (c.in_ok-index.ensures.lands d _) (and_taken (wants.outermost ∷ wants.token kind.RightBracket ∷ []) opens.1 (λ s ks. refl) at_start))

pub returns-clause-value : goal.returns-clause-value
returns-clause-value c =
    let opens = taken kind.LeftBracket c.args.reader.now c.take.result c.take.new.self c.take.ensures.value (sym c.if-is_none.ensures) in
    element_reads opens.1 c.in_ok-index.ensures.value c.in_ok-expect.ensures.value

pub returns-clause-lands : goal.returns-clause-lands
returns-clause-lands c = λ d w.
    let opens = taken kind.LeftBracket c.args.reader.now c.take.result c.take.new.self c.take.ensures.value (sym c.if-is_none.ensures) in
    reads (and_token c.in_ok-expect.ensures.value
    (and_then _ (c.in_ok-index.ensures.lands d _) (and_taken (wants.outermost ∷ wants.token kind.RightBracket ∷ []) opens.1 (λ s ks. refl) at_start)))
