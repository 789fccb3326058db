use Rattle.source_parser.specs.Grammar.{none, and_more}
use Rattle.source_parser.specs.Landings.{reads}
use Rattle.source_parser.proofs.ListLemmas.{list_starts, list_grows, list_ends}
use Rattle.source_parser.proofs.Moves.{at_start, fails_in, and_again, and_no_more}
use Rattle.source_parser.proofs.TokenMoves.{no_memory_for}
use Rattle.source_parser.proofs.declaration.declarations.Goals as goal

pub loop-found-init : goal.loop-found-init
loop-found-init c = rw c.new-found.ensures (list_starts, at_start)

pub returns-in_err-next-clause-lands : goal.returns-in_err-next-clause-lands
returns-in_err-next-clause-lands c = fails_in c.in_err-next.ensures.lands c.from_residual.ensures.1 c.loop-found.invariant.1

pub returns-in_err-push-clause-lands : goal.returns-in_err-push-clause-lands
returns-in_err-push-clause-lands c = no_memory_for c.from_residual-in_err-push.ensures.1

pub loop-found-preserved : goal.loop-found-preserved
loop-found-preserved c =
    let one = rw c.in-Some.is at c.in_ok-next.ensures.value in
    let less = rw c.in-Some.is at c.in_ok-next.ensures.shorter in (
      rw c.in_ok-push.ensures.ok (list_grows c.in-Some.next (λ more rest h. and_more one h) less c.loop-found.invariant.0),
      and_again (rw c.in-Some.is at c.in_ok-next.ensures.lands) c.loop-found.invariant.1,
    )

pub returns-clause-value : goal.returns-clause-value
returns-clause-value c =
    let end = rw c.in_default.is at c.in_ok-next.ensures.value in
    rw end (list_ends none c.loop-found.invariant.0)

pub returns-clause-lands : goal.returns-clause-lands
returns-clause-lands c = reads (and_no_more (rw c.in_default.is at c.in_ok-next.ensures.lands) c.loop-found.invariant.1)
