use Rattle.std.proofs.Common.{◌<◌, [], ◌∷◌, ◌++◌, length, refl, arith}
use Rattle.source_tree.specs.declared.declaration.Local.{Local}
use Rattle.source_parser.specs.Limits.{weight_limit}
use Rattle.source_parser.specs.Terminals.{kinds_of}
use Rattle.source_parser.specs.Grammar.{none, and_more, local}
use Rattle.source_parser.specs.Landings.{reads}
use Rattle.source_lexer.specs.declared.token.TokenKind.TheVariants as kind
use Rattle.source_parser.specs.Wants as wants
use Rattle.source_parser.proofs.ListLemmas.{list_starts, list_grows, list_ends}
use Rattle.source_parser.proofs.Moves.{at_start, and_then, fails}
use Rattle.source_parser.proofs.Runs.{locals_end}
use Rattle.source_parser.proofs.TokenMoves.{and_taken, and_token, instead, still, no_token, no_memory_for}
use Rattle.source_parser.proofs.declaration.locals.Goals as goal

pub loop-line-init : goal.loop-line-init
loop-line-init c = rw c.new-found.ensures (list_starts, λ d. at_start)

pub returns-in_err-name-clause-lands : goal.returns-in_err-name-clause-lands
returns-in_err-name-clause-lands c = λ d.
    fails _ (c.in_err-name.ensures.lands d _) c.from_residual.ensures.1
    (and_taken (wants.param_wanted ++ wants.token kind.Semicolon ∷ wants.locals ∷ []) c.in-Some.ensures.value (λ s ks. refl) (c.loop-line.invariant.1 d))

pub returns-in_err-expect-clause-lands : goal.returns-in_err-expect-clause-lands
returns-in_err-expect-clause-lands c = λ d.
    no_token c.in_err-expect.ensures.value c.from_residual-in_err-expect.ensures.1
    (and_then _ (c.in_ok-name.ensures.lands d _)
    (and_taken (wants.param_wanted ++ wants.token kind.Semicolon ∷ wants.locals ∷ []) c.in-Some.ensures.value (λ s ks. refl) (c.loop-line.invariant.1 d)))

pub returns-in_err-push-clause-lands : goal.returns-in_err-push-clause-lands
returns-in_err-push-clause-lands c = λ d. no_memory_for c.from_residual-in_err-push.ensures.1

pub loop-line-preserved : goal.loop-line-preserved
loop-line-preserved c =
    let found = c.in_ok-name.field-0 in
    let whole : Local = record { name = found.name; range = found.range; line = c.in-Some.line } in
    let less : length c.expect.new.self < length c.loop-line.reader = omega (arith, c.in-Some.ensures.shorter, c.in_ok-name.ensures.shorter, c.in_ok-expect.ensures.shorter) in (
      rw c.in_ok-push.ensures.ok (list_grows whole
          (λ more rest h. rw c.in-Some.ensures.value (and_more (local (rw c.in_ok-expect.ensures.value at c.in_ok-name.ensures.value)) h)) less c.loop-line.invariant.0),
      λ d. and_token c.in_ok-expect.ensures.value (and_then _ (c.in_ok-name.ensures.lands d _)
          (and_taken (wants.param_wanted ++ wants.token kind.Semicolon ∷ wants.locals ∷ []) c.in-Some.ensures.value (λ s ks. refl) (c.loop-line.invariant.1 d))),
    )

pub returns-clause-value : goal.returns-clause-value
returns-clause-value c = let end = c.in_default.ensures.value in rw end.0 (list_ends none c.loop-line.invariant.0)

pub returns-clause-lands : goal.returns-clause-lands
returns-clause-lands c = λ d.
    let end = c.in_default.ensures.value in
    reads (still end.0 (instead [] (λ s. locals_end weight_limit s d _ (kinds_of c.loop-line.reader) end.1) (c.loop-line.invariant.1 d)))
