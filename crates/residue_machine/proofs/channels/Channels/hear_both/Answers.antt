use Rattle.std.proofs.Common.{rules, ℤ, subst, None}
use Rattle.std.specs.Int.{w128}
use Rattle.std.specs.Int.RustNames.{FitsSigned}
use Rattle.std.proofs.lemmas.Int.{to_z-of_z}
use mir.Val.{to_z, of_z}
use Rattle.moduli_sets.specs.Set.{radius}
use Rattle.channel_alu.specs.declared.operation.Place.TheVariants.{Reg}
use Rattle.micro_plan.specs.ActTree.{ask}
use Rattle.residue_machine.specs.Outcomes.{ComesTo}
use Rattle.residue_machine.proofs.ActLemmas.{comes-ask, comes-both}
use Rattle.residue_machine.proofs.channels.Channels.hear_both.Goals as goal

pub returns-in-Err-clause-told : goal.returns-in-Err-clause-told
returns-in-Err-clause-told g c = λ acts control. c.in-Err.ensures.told (λ x. ask (Reg c.args.b) (acts x)) control

pub returns-in-Ok-hear-clause-told : goal.returns-in-Ok-hear-clause-told
returns-in-Ok-hear-clause-told g c =
    let x = c.in-Ok.x in
    let y = c.in-Ok-hear.y in
    let fits_x : FitsSigned w128 x = search rules in
    let fits_y : FitsSigned w128 y = search rules in
    λ acts control outcome last h.
    comes-both g.R.Rack radius None c.args.a c.args.b acts x y control c.args.self.now c.hear.new.self c.hear-2.new.self last outcome c.in-Ok.ensures.told c.in-Ok-hear.ensures.told
    (subst (λ (z : ℤ). ComesTo g.R.Rack radius None (acts x z) control c.hear-2.new.self outcome last) (to_z-of_z w128 y fits_y)
    (subst (λ (z : ℤ). ComesTo g.R.Rack radius None (acts z (to_z w128 (of_z w128 y))) control c.hear-2.new.self outcome last) (to_z-of_z w128 x fits_x) h))

pub returns-in-Err-hear-clause-told : goal.returns-in-Err-hear-clause-told
returns-in-Err-hear-clause-told g c = λ acts control.
    comes-ask g.R.Rack radius None (Reg c.args.a) (λ x. ask (Reg c.args.b) (acts x)) c.in-Ok.x control c.args.self.now c.hear.new.self c.hear-2.new.self c.in-Err-hear.outcome c.in-Ok.ensures.told
    (c.in-Err-hear.ensures.told (acts c.in-Ok.x) control)
