use Rattle.std.proofs.Common.{rules, ℤ, List, drop, true, false, sym, subst, None}
use Rattle.std.specs.Int.{w128}
use Rattle.std.specs.Int.RustNames.{FitsSigned}
use Rattle.std.proofs.lemmas.Int.{to_z-of_z}
use Rattle.moduli_sets.specs.Set.{radius}
use Rattle.moduli_sets.specs.declared.kind.Kind.TheVariants.{InputEnd, InputRange}
use Rattle.channel_alu.specs.declared.operation.Place.TheVariants.{Reg}
use Rattle.channel_alu.specs.declared.operation.MicroOp.TheVariants.{Put}
use Rattle.machine_table.specs.Control.{Control, with_input}
use Rattle.micro_plan.specs.Acts.{issues, read_acts}
use Rattle.residue_machine.specs.declared.ending.Ended.TheVariants as ended
use Rattle.residue_machine.specs.declared.outcome.Outcome.TheVariants.{End}
use Rattle.residue_machine.specs.Outcomes.{ComesTo}
use Rattle.residue_machine.proofs.ActLemmas.{comes-read, comes-trap, lies_in-said}
use Rattle.residue_machine.proofs.following.read_number.Goals as goal

pub returns-in-None-clause-comes : goal.returns-in-None-clause-comes
returns-in-None-clause-comes g c =
    let old = c.args.position.now in
    let b = c.args.channels.now in
    subst (λ (xs : List ℤ). ComesTo g.R.Rack radius None (read_acts c.args.a c.args.low c.args.high c.args.line xs old) old b (End (ended.Trap InputEnd c.args.line)) b) (sym c.in-None.ensures)
    (comes-trap g.R.Rack radius None InputEnd c.args.line old b)

pub returns-then-lies_in-clause-comes : goal.returns-then-lies_in-clause-comes
returns-then-lies_in-clause-comes g c =
    let old = c.args.position.now in
    let b = c.args.channels.now in
    let x = c.in-Some.x in
    let fits : FitsSigned w128 x = search rules in
    let passed : Control = with_input (drop 1 old.input) old in
    let within = lies_in-said c.args.low c.args.high x c.lies_in.result true (search rules) (search rules) fits c.lies_in.ensures c.if-lies_in.true in
    let comes = subst (λ (z : ℤ). ComesTo g.R.Rack radius None (issues (Put (Reg c.args.a) z) passed) passed b c.compute.result c.compute.new.self) (to_z-of_z w128 x fits) (c.compute.ensures.comes passed) in
    subst (λ (p : Control). ComesTo g.R.Rack radius None (read_acts c.args.a c.args.low c.args.high c.args.line old.input old) p b c.compute.result c.compute.new.self) (sym c.pass_input.ensures)
    (comes-read g.R.Rack radius None c.args.a c.args.low c.args.high x c.args.line (drop 1 old.input) old.input true old passed b c.compute.new.self c.compute.result c.in-Some.ensures within comes)

pub returns-else-lies_in-clause-comes : goal.returns-else-lies_in-clause-comes
returns-else-lies_in-clause-comes g c =
    let old = c.args.position.now in
    let b = c.args.channels.now in
    let x = c.in-Some.x in
    let fits : FitsSigned w128 x = search rules in
    let outside = lies_in-said c.args.low c.args.high x c.lies_in.result false (search rules) (search rules) fits c.lies_in.ensures c.if-lies_in.false in
    comes-read g.R.Rack radius None c.args.a c.args.low c.args.high x c.args.line (drop 1 old.input) old.input false old old b b (End (ended.Trap InputRange c.args.line)) c.in-Some.ensures outside
    (comes-trap g.R.Rack radius None InputRange c.args.line old b)
