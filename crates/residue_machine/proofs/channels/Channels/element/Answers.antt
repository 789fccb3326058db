use Rattle.std.proofs.Common.{rules, ◌≡◌, ◌+◌, ℤ, true, ap, None}
use Rattle.std.specs.Prelude.{unsigned_abs}
use Rattle.std.specs.Int.{w128}
use Rattle.std.specs.Int.RustNames.{FitsSigned}
use Rattle.std.proofs.lemmas.Int.{to_z-of_z}
use mir.Val.{to_z, of_z}
use Rattle.moduli_sets.specs.Set.{radius}
use Rattle.moduli_sets.specs.declared.kind.Kind.TheVariants.{Index}
use Rattle.channel_alu.specs.declared.operation.Place.TheVariants.{Word}
use Rattle.machine_table.specs.Control.{traps}
use Rattle.machine_table.specs.Integers.{is_index}
use Rattle.micro_plan.specs.ActTree.{end_by}
use Rattle.micro_plan.specs.Acts.{issues}
use Rattle.std.specs.Prelude.{if◌then◌else◌}
use Rattle.residue_machine.proofs.ActLemmas.{comes-element}
use Rattle.residue_machine.proofs.channels.Channels.element.Goals as goal

pub returns-then-is_index-clause-told : goal.returns-then-is_index-clause-told
returns-then-is_index-clause-told g c =
    let x = c.in-Ok.x in
    let fits : FitsSigned w128 x = search rules in
    let ex : to_z w128 (of_z w128 x) ≡ x = to_z-of_z w128 x fits in
    let inside : is_index c.args.count x ≡ true = cc (c.is_index.ensures, c.if-is_index.true, ex) in
    let at : c.args.address + unsigned_abs (to_z w128 (of_z w128 x)) ≡ c.args.address + unsigned_abs x = ap (λ (z : ℤ). c.args.address + unsigned_abs z) ex in
    λ copy control outcome last h.
    comes-element g.R.Rack radius None copy c.args.b c.args.address c.args.count c.args.line x (c.args.address + unsigned_abs (to_z w128 (of_z w128 x))) control c.args.self.now c.hear.new.self last outcome c.in-Ok.ensures.told inside at h

pub returns-in-Err-clause-told : goal.returns-in-Err-clause-told
returns-in-Err-clause-told g c = λ copy control.
    c.in-Err.ensures.told (λ x. if is_index c.args.count x then issues (copy (Word (c.args.address + unsigned_abs x))) control else end_by (traps Index c.args.line)) control
