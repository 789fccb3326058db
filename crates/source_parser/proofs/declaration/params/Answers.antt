use Rattle.std.proofs.Common.{[], ◌∷◌, ◌++◌, List, refl, ap, ◌∙◌}
use Rattle.source_lexer.specs.declared.token.TokenKind.TheVariants as kind
use Rattle.source_tree.specs.declared.declaration.Param.{Param}
use Rattle.source_parser.specs.Limits.{weight_limit}
use Rattle.source_parser.specs.Terminals.{kinds_of}
use Rattle.source_parser.specs.Grammar.{things}
use Rattle.source_parser.specs.Landings.{reads}
use Rattle.source_parser.specs.Wants as wants
use Rattle.source_parser.proofs.ListLemmas.{commas_start, commas_grow, listed_empty}
use Rattle.source_parser.proofs.Moves.{at_start, and_then, fails, gives_up}
use Rattle.source_parser.proofs.Runs.{params_begin, params_stop}
use Rattle.source_parser.proofs.Taken.{taken, not_taken}
use Rattle.source_parser.proofs.TokenMoves.{and_taken, instead, still, no_memory_for}
use Rattle.source_parser.proofs.declaration.params.Goals as goal

pub returns-then-is_some-clause-value : goal.returns-then-is_some-clause-value
returns-then-is_some-clause-value c =
    let close = taken kind.RightParen c.args.reader.now c.take.result c.take.new.self c.take.ensures.value c.if-is_some.ensures in
    rw c.new-found.ensures (listed_empty close.1)

pub returns-then-is_some-clause-lands : goal.returns-then-is_some-clause-lands
returns-then-is_some-clause-lands c = λ d w.
    let close = taken kind.RightParen c.args.reader.now c.take.result c.take.new.self c.take.ensures.value c.if-is_some.ensures in
    reads (and_taken [] close.1 (λ s ks. refl) at_start)

pub returns-in_err-param-clause-lands : goal.returns-in_err-param-clause-lands
returns-in_err-param-clause-lands c = λ d w.
    let open_ = not_taken kind.RightParen c.args.reader.now c.take.result c.take.new.self c.take.ensures.value c.if-is_some.ensures in
    fails _ (c.in_err-param.ensures.lands d w) c.from_residual.ensures.1
    (still open_.0 (instead (wants.param_wanted ++ wants.more_params ∷ []) (λ s. params_begin weight_limit s d w (kinds_of c.args.reader.now) open_.1) at_start))

pub returns-in_err-push-clause-lands : goal.returns-in_err-push-clause-lands
returns-in_err-push-clause-lands c = λ d w. no_memory_for c.from_residual-in_err-push.ensures.1

pub loop-alloc-init : goal.loop-alloc-init
loop-alloc-init c =
    let open_ = not_taken kind.RightParen c.args.reader.now c.take.result c.take.new.self c.take.ensures.value c.if-is_some.ensures in
    let first = c.in_ok-param.field-0 in
    let pushed = c.in_ok-push.ensures.ok ∙ ap (λ (found : List Param). found ++ first ∷ []) c.new-found.ensures in (
      rw pushed (commas_start first (rw open_.0 at c.in_ok-param.ensures.value) (rw open_.0 at c.in_ok-param.ensures.shorter)),
      λ d w. and_then _ (c.in_ok-param.ensures.lands d w)
          (still open_.0 (instead (wants.param_wanted ++ wants.more_params ∷ []) (λ s. params_begin weight_limit s d w (kinds_of c.args.reader.now) open_.1) at_start)),
    )

pub returns-in_err-param-2-clause-lands : goal.returns-in_err-param-2-clause-lands
returns-in_err-param-2-clause-lands c = λ d w.
    let sign = taken kind.Comma c.loop-alloc.reader c.take-in-loop-alloc.result c.take-in-loop-alloc.new.self c.take-in-loop-alloc.ensures.value c.loop-alloc-test.ensures in
    fails _ (c.in_err-param-2.ensures.lands d _) c.from_residual-in_err-param-2.ensures.1
    (and_taken (wants.param_wanted ++ wants.more_params ∷ []) sign.1 (λ s ks. refl) (c.loop-alloc.invariant.1 d w))

pub returns-in_err-push-2-clause-lands : goal.returns-in_err-push-2-clause-lands
returns-in_err-push-2-clause-lands c = λ d w. no_memory_for c.from_residual-in_err-push-2.ensures.1

pub loop-alloc-preserved : goal.loop-alloc-preserved
loop-alloc-preserved c =
    let sign = taken kind.Comma c.loop-alloc.reader c.take-in-loop-alloc.result c.take-in-loop-alloc.new.self c.take-in-loop-alloc.ensures.value c.loop-alloc-test.ensures in (
      rw c.in_ok-push-2.ensures.ok (commas_grow c.in_ok-param-2.field-0 sign.1 c.in_ok-param-2.ensures.value c.in_ok-param-2.ensures.shorter c.loop-alloc.invariant.0),
      λ d w. and_then _ (c.in_ok-param-2.ensures.lands d _) (and_taken (wants.param_wanted ++ wants.more_params ∷ []) sign.1 (λ s ks. refl) (c.loop-alloc.invariant.1 d w)),
    )

pub returns-in_err-expect-clause-lands : goal.returns-in_err-expect-clause-lands
returns-in_err-expect-clause-lands c = λ d w.
    let ended = not_taken kind.Comma c.loop-alloc.reader c.take-in-loop-alloc.result c.take-in-loop-alloc.new.self c.take-in-loop-alloc.ensures.value c.loop-alloc-test.ensures in
    let missing = rw ended.0 at c.in_err-expect.ensures.value in
    gives_up [] {part = wants.more_params ∷ []} (record { comes = λ s. params_stop weight_limit s d weight_limit (kinds_of c.loop-alloc.reader) ended.1 missing.1.1 }) missing.0 missing.1.0 c.from_residual-in_err-expect.ensures.1
    (c.loop-alloc.invariant.1 d w)

pub returns-clause-value : goal.returns-clause-value
returns-clause-value c =
    let ended = not_taken kind.Comma c.loop-alloc.reader c.take-in-loop-alloc.result c.take-in-loop-alloc.new.self c.take-in-loop-alloc.ensures.value c.loop-alloc-test.ensures in
    things (c.loop-alloc.invariant.0.ends c.expect.new.self c.in_ok-expect.field-0 (rw ended.0 at c.in_ok-expect.ensures.value))

pub returns-clause-lands : goal.returns-clause-lands
returns-clause-lands c = λ d w.
    let ended = not_taken kind.Comma c.loop-alloc.reader c.take-in-loop-alloc.result c.take-in-loop-alloc.new.self c.take-in-loop-alloc.ensures.value c.loop-alloc-test.ensures in
    reads (and_taken [] (rw ended.0 at c.in_ok-expect.ensures.value) (λ s ks. refl) (c.loop-alloc.invariant.1 d w))
