use Rattle.source_parser.specs.Landings.{reads}
use Rattle.source_parser.proofs.Moves.{at_start, and_then, fails}
use Rattle.source_parser.proofs.TokenMoves.{and_token, no_token}
use Rattle.source_parser.proofs.statement.condition_before.Goals as goal

pub returns-in_err-condition-clause-lands : goal.returns-in_err-condition-clause-lands
returns-in_err-condition-clause-lands c = λ d w. fails _ (c.in_err-condition.ensures.lands d w) c.from_residual.ensures.1 at_start

pub returns-in_err-expect-clause-lands : goal.returns-in_err-expect-clause-lands
returns-in_err-expect-clause-lands c = λ d w.
    no_token c.in_err-expect.ensures.value c.from_residual-in_err-expect.ensures.1 (and_then _ (c.in_ok-condition.ensures.lands d w) at_start)

pub returns-clause-value : goal.returns-clause-value
returns-clause-value c = record { line = c.in_ok-expect.field-0; reads = rw c.in_ok-expect.ensures.value at c.in_ok-condition.ensures.value }

pub returns-clause-lands : goal.returns-clause-lands
returns-clause-lands c = λ d w. reads (and_token c.in_ok-expect.ensures.value (and_then _ (c.in_ok-condition.ensures.lands d w) at_start))
