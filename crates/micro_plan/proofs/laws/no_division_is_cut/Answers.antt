use Rattle.std.proofs.Common.{Some}
use Rattle.micro_plan.proofs.ToldInstructions.{quotient_plan-comes, remainder_plan-comes}
use Rattle.micro_plan.proofs.laws.no_division_is_cut.Goals as goal

pub returns-clause-quotient : goal.returns-clause-quotient
returns-clause-quotient c = λ set a b k line other control at rules fits. (quotient_plan-comes (Some other) set a b k line control at rules fits).0

pub returns-clause-remainder : goal.returns-clause-remainder
returns-clause-remainder c = λ set a b k line other control at rules fits. (remainder_plan-comes (Some other) set a b k line control at rules fits).0
