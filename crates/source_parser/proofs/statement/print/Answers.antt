use Rattle.source_parser.specs.Grammar as grammar
use Rattle.source_parser.specs.Landings.{reads}
use Rattle.source_parser.proofs.Moves.{at_start, and_then, fails}
use Rattle.source_parser.proofs.statement.print.Goals as goal

pub returns-in_err-value-clause-lands : goal.returns-in_err-value-clause-lands
returns-in_err-value-clause-lands c = λ d w. fails _ (c.in_err-value.ensures.lands d w) c.from_residual.ensures.1 at_start

pub returns-clause-value : goal.returns-clause-value
returns-clause-value c = λ depth. grammar.print c.in_ok-value.ensures.value.reads

pub returns-clause-lands : goal.returns-clause-lands
returns-clause-lands c = λ d w. reads (and_then _ (c.in_ok-value.ensures.lands d w) at_start)
