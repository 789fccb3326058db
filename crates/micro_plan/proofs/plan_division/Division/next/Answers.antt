use Rattle.std.proofs.Common.{rules, sym, subst, ℤ, Option}
use Rattle.std.specs.Int.{w128}
use Rattle.std.specs.Int.RustNames.{FitsSigned}
use Rattle.std.proofs.lemmas.Int.{to_z-of_z}
use Rattle.micro_plan.specs.declared.plan.Course.TheVariants as course
use Rattle.micro_plan.specs.declared.plan_division.Stage.{Stage}
use Rattle.micro_plan.specs.declared.plan_division.Stage.TheVariants.{Hears}
use Rattle.micro_plan.specs.Stages.{Proceeds, question_left, question_most, stage_left, stage_most}
use Rattle.micro_plan.proofs.plan_division.Division.next.Goals as goal

pub returns-in-Hears-Some : goal.returns-in-Hears-Some
returns-in-Hears-Some c =
    let d = c.args.self.now in
    let q = c.in-Hears-Some.question in
    let x = c.in-Hears-Some.x in
    let result = c.hear.result in
    let new = c.hear.new.self in
    let fits : FitsSigned w128 x = search rules in
    let here : Proceeds (question_left d q x) (question_most q) (course.Division d) result (course.Division new) =
    subst (λ (z : ℤ). Proceeds (question_left d q z) (question_most q) (course.Division d) result (course.Division new)) (to_z-of_z w128 x fits) c.hear.ensures in
    subst (λ (stage : Stage). Proceeds (stage_left d stage c.args.told) (stage_most stage) (course.Division d) result (course.Division new)) (sym c.in-Hears-Some.is-0)
    (subst (λ (told : Option ℤ). Proceeds (stage_left d (Hears q) told) (question_most q) (course.Division d) result (course.Division new)) (sym c.in-Hears-Some.is-1) here)
