use Rattle.std.proofs.Common.{◌≡◌, ◌<◌, ℤ, List, [], ◌∷◌, length, rules, arith, sym, ap, ◌∙◌, Ok, Err, subst}
use Rattle.std.proofs.lemmas.Int.{to_z-of_z}
use Rattle.std.specs.Prelude.{slice_set}
use mir.Syntax.{w128}
use mir.Val.{SFits}
use Rattle.moduli_sets.specs.declared.kind.Kind.TheVariants.{Range}
use Rattle.source_meaning.specs.declared.machine.Stop.TheVariants.{Trap}
use Rattle.source_meaning.proofs.ArgumentForms.{after_those, arguments_end, err_held, at_argument, argument_stops, argument_refused, argument_not_held, argument_held, held_before, arguments_done}
use Rattle.source_meaning.proofs.machine.Machine.arguments.Goals as goal

pub returns-in_err-value : goal.returns-in_err-value
returns-in_err-value c =
    err_held _ _ _ c.args.first (length c.args.arguments.now) _ _ c.from_residual.ensures
    (c.loop-argument.invariant.goes (Err c.in_err-value.field-0.0) c.value.new.self
    (at_argument c.loop-argument.at c.args.arguments.now c.loop-argument.argument-index c.args.line c.loop-argument.self c.argument-item.result c.loop-argument-test.true c.argument-item.is _ _
    (argument_stops c.loop-argument.at c.argument-item.result _ c.args.line c.loop-argument.self _ _ c.in_err-value.ensures.does)))

pub returns-then-not-lies_in : goal.returns-then-not-lies_in
returns-then-not-lies_in c =
    let fits : SFits w128 c.in_ok-value.value = search rules in
    let tested = simp to_z-of_z at c.lies_in.ensures in
    c.loop-argument.invariant.goes (Err (Trap Range c.args.line)) c.value.new.self
    (at_argument c.loop-argument.at c.args.arguments.now c.loop-argument.argument-index c.args.line c.loop-argument.self c.argument-item.result c.loop-argument-test.true c.argument-item.is _ _
    (argument_refused c.loop-argument.at c.argument-item.result _ c.args.line c.loop-argument.self _ _ c.in_ok-value.ensures.does (sym tested ∙ c.if-not-lies_in.true)))

pub returns-in_err-hold : goal.returns-in_err-hold
returns-in_err-hold c =
    let fits : SFits w128 c.in_ok-value.value = search rules in
    let tested = simp to_z-of_z at c.lies_in.ensures in
    err_held _ _ _ c.args.first (length c.args.arguments.now) _ _ c.from_residual-in_err-hold.ensures
    (c.loop-argument.invariant.goes (Err c.in_err-hold.field-0.0) c.hold.new.self
    (at_argument c.loop-argument.at c.args.arguments.now c.loop-argument.argument-index c.args.line c.loop-argument.self c.argument-item.result c.loop-argument-test.true c.argument-item.is _ _
    (argument_not_held c.loop-argument.at c.argument-item.result _ c.args.line c.loop-argument.self _ _ c.in_ok-value.ensures.does _ _ (sym tested ∙ c.if-not-lies_in.false) c.in_err-hold.ensures.does)))

pub loop-argument-preserved : goal.loop-argument-preserved
loop-argument-preserved c =
    let fits : SFits w128 c.in_ok-value.value = search rules in
    let tested = simp to_z-of_z at c.lies_in.ensures in
    let within : c.loop-argument.at < length c.loop-argument.self.held = subst (λ (h : List ℤ). c.loop-argument.at < length h) c.in_ok-value.ensures.held c.in_ok-hold.ensures.within in
    let more = (simp to_z-of_z at c.in_ok-hold.ensures.held) ∙ ap (λ h. slice_set h c.loop-argument.at c.in_ok-value.value) c.in_ok-value.ensures.held in
    record {
      place = omega (arith, c.loop-argument.invariant.place);
      goes = λ o u f.
          held_before _ _ _ c.args.first c.loop-argument.argument-index c.loop-argument.at c.loop-argument.self.held c.hold.new.self.held c.in_ok-value.value o c.loop-argument.invariant.place within more
          (c.loop-argument.invariant.goes (after_those (c.in_ok-value.value ∷ []) o) u
          (at_argument c.loop-argument.at c.args.arguments.now c.loop-argument.argument-index c.args.line c.loop-argument.self c.argument-item.result c.loop-argument-test.true c.argument-item.is _ _
          (argument_held c.loop-argument.at c.argument-item.result _ c.args.line c.loop-argument.self _ _ c.in_ok-value.ensures.does _ _ _ o (sym tested ∙ c.if-not-lies_in.false) c.in_ok-hold.ensures.does f)));
    }

pub returns : goal.returns
returns c =
    let last : c.loop-argument.argument-index ≡ length c.args.arguments.now = omega (arith, c.loop-argument.auto.argument-index-end, c.loop-argument-test.false) in
    arguments_end _ _ _ c.args.first c.loop-argument.argument-index (length c.args.arguments.now) c.loop-argument.self.held last
    (c.loop-argument.invariant.goes (Ok []) c.loop-argument.self (arguments_done c.loop-argument.at c.args.arguments.now c.loop-argument.argument-index c.args.line c.loop-argument.self (omega (arith, last))))
