use Rattle.std.proofs.Common.{◌∙◌, sym}
use Rattle.std.proofs.lemmas.Result.{err_from_is_err_and}
use Rattle.source_lexer.specs.Scan.{whole}
use Rattle.source_lexer.proofs.Joins.{joins_next, joins_end, first_fault}
use Rattle.source_lexer.proofs.PlacedTokens.{placed_tokens, ordered_tokens}
use Rattle.source_lexer.proofs.Standing.{token_one_line}
use Rattle.source_lexer.proofs.lexer.tokens.Goals as goal

pub returns-in_err-token-clause-scan : goal.returns-in_err-token-clause-scan
returns-in_err-token-clause-scan c =
    let failed = err_from_is_err_and c.from_residual.result c.from_residual.ensures.1 in
    rw (failed.1, failed.2) (first_fault c.args.text.now c.loop-found.place c.loop-found.found.items _ c.loop-found.invariant.joins c.in_err-token.ensures)

pub returns-in_err-push-clause-scan : goal.returns-in_err-push-clause-scan
returns-in_err-push-clause-scan c =
    let failed = err_from_is_err_and c.from_residual-in_err-push.result c.from_residual-in_err-push.ensures.1 in
    rw (failed.1, failed.2) tt

pub loop-found-preserved : goal.loop-found-preserved
loop-found-preserved c =
    let text = c.args.text.now in
    let token = c.in-Some.token in
    let next = rw c.in-Some.is at c.in_ok-token.ensures in
    record {
      inside = next.0.longest.inside;
      counted = next.0.line ∙ sym (token_one_line text token.kind token.start token.end next.0.longest);
      joins = rw c.in_ok-push.ensures.items (joins_next text c.loop-found.place c.loop-found.found.items token c.loop-found.invariant.joins next);
    }

pub returns-clause-scan : goal.returns-clause-scan
returns-clause-scan c =
    joins_end c.args.text.now c.loop-found.place c.loop-found.found.items whole c.loop-found.invariant.joins (rw c.in_default.is at c.in_ok-token.ensures)

pub returns-clause-slices : goal.returns-clause-slices
returns-clause-slices c =
    let found = c.loop-found.found.items in
    placed_tokens c.args.text.now found whole (
    joins_end c.args.text.now c.loop-found.place found whole c.loop-found.invariant.joins (rw c.in_default.is at c.in_ok-token.ensures)
    )

pub returns-clause-in_order : goal.returns-clause-in_order
returns-clause-in_order c =
    let found = c.loop-found.found.items in
    ordered_tokens c.args.text.now found whole (
    joins_end c.args.text.now c.loop-found.place found whole c.loop-found.invariant.joins (rw c.in_default.is at c.in_ok-token.ensures)
    )
