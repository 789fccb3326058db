use Rattle.source_parser.specs.Grammar as grammar
use Rattle.source_parser.specs.Landings.{reads}
use Rattle.source_parser.proofs.Moves.{at_start, and_then, fails}
use Rattle.source_parser.proofs.TokenMoves.{and_name, and_token, no_name, no_token}
use Rattle.source_parser.proofs.statement.read.Goals as goal

pub returns-in_err-name-clause-lands : goal.returns-in_err-name-clause-lands
returns-in_err-name-clause-lands c = λ d w. no_name c.in_err-name.field-0.0 c.in_err-name.ensures.value c.from_residual.ensures.1 at_start

pub returns-in_err-place-clause-lands : goal.returns-in_err-place-clause-lands
returns-in_err-place-clause-lands c = λ d w.
    fails _ (c.in_err-place.ensures.lands d _) c.from_residual-in_err-place.ensures.1 (and_name c.in_ok-name.ensures.value at_start)

pub returns-in_err-expect-clause-lands : goal.returns-in_err-expect-clause-lands
returns-in_err-expect-clause-lands c = λ d w.
    no_token c.in_err-expect.ensures.value c.from_residual-in_err-expect.ensures.1
    (and_then _ (c.in_ok-place.ensures.lands d _) (and_name c.in_ok-name.ensures.value at_start))

pub returns-clause-value : goal.returns-clause-value
returns-clause-value c = λ depth. rw c.in_ok-name.ensures.value (grammar.read (rw c.in_ok-expect.ensures.value at c.in_ok-place.ensures.value))

pub returns-clause-lands : goal.returns-clause-lands
returns-clause-lands c = λ d w.
    reads (and_token c.in_ok-expect.ensures.value (and_then _ (c.in_ok-place.ensures.lands d _) (and_name c.in_ok-name.ensures.value at_start)))
