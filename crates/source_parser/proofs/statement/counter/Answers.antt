use Rattle.source_parser.specs.Landings.{reads}
use Rattle.source_parser.proofs.Moves.{at_start}
use Rattle.source_parser.proofs.TokenMoves.{and_name, and_token, no_name, no_token}
use Rattle.source_parser.proofs.statement.counter.Goals as goal

pub returns-in_err-name-clause-lands : goal.returns-in_err-name-clause-lands
returns-in_err-name-clause-lands c = λ d w. no_name c.in_err-name.field-0.0 c.in_err-name.ensures.value c.from_residual.ensures.1 at_start

pub returns-in_err-expect-clause-lands : goal.returns-in_err-expect-clause-lands
returns-in_err-expect-clause-lands c = λ d w.
    no_token c.in_err-expect.ensures.value c.from_residual-in_err-expect.ensures.1 (and_name c.in_ok-name.ensures.value at_start)

pub returns-clause-value : goal.returns-clause-value
returns-clause-value c = record { line = c.in_ok-expect.field-0; reads = rw (← c.in_ok-expect.ensures.value) c.in_ok-name.ensures.value }

pub returns-clause-lands : goal.returns-clause-lands
returns-clause-lands c = λ d w. reads (and_token c.in_ok-expect.ensures.value (and_name c.in_ok-name.ensures.value at_start))
