use Rattle.std.proofs.Common.{sym, subst}
use Rattle.micro_plan.specs.declared.plan.Course.{Course}
use Rattle.micro_plan.specs.Plans.{IsNext}
use Rattle.micro_plan.specs.Stages.{CourseHasPlaces, course_left, division_left}
use Rattle.micro_plan.proofs.plan.Plan.next.Goals as goal

pub returns-in-Scaling-clause-possible : goal.returns-in-Scaling-clause-possible
returns-in-Scaling-clause-possible c =
    λ words channels have. c.next.ensures.possible words channels (subst (CourseHasPlaces channels) c.in-Scaling.is have)

pub returns-in-Division-clause-possible : goal.returns-in-Division-clause-possible
returns-in-Division-clause-possible c =
    λ words channels have. c.next-in-Division.ensures.possible words channels (subst (CourseHasPlaces channels) c.in-Division.is have)

pub returns-in-Division-clause-next : goal.returns-in-Division-clause-next
returns-in-Division-clause-next c =
    subst (λ (course : Course). IsNext (course_left course c.args.told) c.next-in-Division.result (division_left c.next-in-Division.new.self)) (sym c.in-Division.is)
    c.next-in-Division.ensures.next

pub returns-in-Division-clause-places : goal.returns-in-Division-clause-places
returns-in-Division-clause-places c =
    λ channels have. c.next-in-Division.ensures.places channels (subst (CourseHasPlaces channels) c.in-Division.is have)
