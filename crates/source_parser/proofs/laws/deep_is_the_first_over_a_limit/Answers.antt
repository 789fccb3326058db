use Rattle.source_parser.proofs.CountLemmas.{deep_is_first_over, first_over_is_deep}
use Rattle.source_parser.proofs.laws.deep_is_the_first_over_a_limit.Goals as goal

pub returns-clause-counted : goal.returns-clause-counted
returns-clause-counted c = λ depth width place kinds. deep_is_first_over depth width kinds place

pub returns-clause-deep : goal.returns-clause-deep
returns-clause-deep c = λ depth width place kinds. first_over_is_deep depth width kinds place
