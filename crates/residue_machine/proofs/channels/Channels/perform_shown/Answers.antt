use Rattle.std.proofs.Common.{rules, arith, ◌<◌, ℤ, Bool, All, length, true, false, sym, subst, None}
use Rattle.std.specs.Prelude.{int_lt, if◌then◌else◌}
use Rattle.std.specs.Ordering.{int_eq}
use Rattle.std.specs.Int.{w128}
use Rattle.std.specs.Int.RustNames.{FitsSigned}
use Rattle.std.proofs.lemmas.Int.{to_z-of_z}
use Rattle.std.proofs.cmp.Tests.{signed_test}
use mir.Val.{to_z, of_z}
use Rattle.moduli_sets.specs.Set.{radius}
use Rattle.moduli_sets.specs.declared.kind.Kind.{Kind}
use Rattle.moduli_sets.specs.declared.kind.Kind.TheVariants.{Range}
use Rattle.channel_alu.specs.declared.operation.Place.TheVariants.{Reg}
use Rattle.channel_alu.specs.declared.operation.MicroOp.TheVariants.{Copy}
use Rattle.machine_table.specs.declared.instr.Instr.{Instr}
use Rattle.machine_table.specs.declared.instr.Instr.TheVariants.{Scl}
use Rattle.machine_table.specs.Control.{at_place, kind_numbered, lies_in, next, traps}
use Rattle.machine_table.specs.Faults.{shape_of}
use Rattle.machine_table.specs.Operands.{IsSoundOperand, operands_of}
use Rattle.micro_plan.specs.ActTree.{end_by, go_on, print}
use Rattle.micro_plan.specs.Acts.{acts_of}
use Rattle.micro_plan.specs.Plans.{IsPlanned}
use Rattle.residue_machine.specs.declared.ending.Ended.TheVariants as ended
use Rattle.residue_machine.specs.declared.outcome.Outcome.TheVariants as outcome
use Rattle.residue_machine.specs.Outcomes.{ComesTo, GoesOn}
use Rattle.micro_plan.proofs.ToldInstructions.{info_below}
use Rattle.residue_machine.proofs.ActLemmas.{comes-check, comes-halt, comes-next, comes-to, comes-trap, comes-went, lies_in-said}
use Rattle.residue_machine.proofs.OperandLemmas.{named}
use Rattle.residue_machine.proofs.channels.Channels.perform_shown.Goals as goal

pub divide-requires-in-Scl-clause-planned : goal.divide-requires-in-Scl-clause-planned
divide-requires-in-Scl-clause-planned g c =
    let b = c.args.self.now in
    let scl = c.in-Scl in
    let shape = shape_of b.set b.code b.start in
    let operands = named shape (operands_of (Scl scl.a scl.b scl.channel)) (subst (λ (i : Instr). All (IsSoundOperand shape) (operands_of i)) scl.is c.requires.sound) in
    let info : scl.channel < b.set.info = operands.1.1.0 in
    let below = info_below b.set c.rules.ensures.set in
    let within : scl.channel < length b.set.moduli = omega (arith, info, below) in
    subst (λ (i : Instr). IsPlanned b.set i) (sym scl.is) within

pub returns-in-Halt-clause-comes : goal.returns-in-Halt-clause-comes
returns-in-Halt-clause-comes g c = λ control.
    let b = c.args.self.now in
    subst (λ (i : Instr). ComesTo g.R.Rack radius None (acts_of b.set i control) control b (outcome.End ended.Halt) b) (sym c.in-Halt.is) (comes-halt g.R.Rack radius None control b)

pub returns-in-Ok-clause-comes : goal.returns-in-Ok-clause-comes
returns-in-Ok-clause-comes g c = λ control.
    let b = c.args.self.now in
    subst (λ (i : Instr). ComesTo g.R.Rack radius None (acts_of b.set i control) control b c.compute.result c.compute.new.self) (sym c.in-Ldx.is)
    (c.in-Ok.ensures.told (λ place. Copy (Reg c.in-Ldx.a) place) control c.compute.result c.compute.new.self (c.compute.ensures.comes control))

pub returns-in-Err-clause-comes : goal.returns-in-Err-clause-comes
returns-in-Err-clause-comes g c = λ control.
    let b = c.args.self.now in
    subst (λ (i : Instr). ComesTo g.R.Rack radius None (acts_of b.set i control) control b c.in-Err.outcome c.element.new.self) (sym c.in-Ldx.is)
    (c.in-Err.ensures.told (λ place. Copy (Reg c.in-Ldx.a) place) control)

pub returns-in-Ok-element-clause-comes : goal.returns-in-Ok-element-clause-comes
returns-in-Ok-element-clause-comes g c = λ control.
    let b = c.args.self.now in
    subst (λ (i : Instr). ComesTo g.R.Rack radius None (acts_of b.set i control) control b c.compute-in-Ok-element.result c.compute-in-Ok-element.new.self) (sym c.in-Stx.is)
    (c.in-Ok-element.ensures.told (λ place. Copy place (Reg c.in-Stx.a)) control c.compute-in-Ok-element.result c.compute-in-Ok-element.new.self (c.compute-in-Ok-element.ensures.comes control))

pub returns-in-Err-element-clause-comes : goal.returns-in-Err-element-clause-comes
returns-in-Err-element-clause-comes g c = λ control.
    let b = c.args.self.now in
    subst (λ (i : Instr). ComesTo g.R.Rack radius None (acts_of b.set i control) control b c.in-Err-element.outcome c.element-in-Stx.new.self) (sym c.in-Stx.is)
    (c.in-Err-element.ensures.told (λ place. Copy place (Reg c.in-Stx.a)) control)

pub returns-in-Jmp-clause-comes : goal.returns-in-Jmp-clause-comes
returns-in-Jmp-clause-comes g c = λ control.
    let b = c.args.self.now in
    subst (λ (i : Instr). ComesTo g.R.Rack radius None (acts_of b.set i control) control b (outcome.To c.in-Jmp.target) b) (sym c.in-Jmp.is) (comes-to g.R.Rack radius None c.in-Jmp.target control b)

pub returns-in-Ok-hear_both-clause-comes : goal.returns-in-Ok-hear_both-clause-comes
returns-in-Ok-hear_both-clause-comes g c = λ control.
    let b = c.args.self.now in
    let met = c.in-Blt in
    let x = c.in-Ok-hear_both.x in
    let y = c.in-Ok-hear_both.y in
    let fits_x : FitsSigned w128 x = search rules in
    let fits_y : FitsSigned w128 y = search rules in
    let went =
    subst (λ (z : ℤ). GoesOn c.where_to.result control (if int_lt x z then at_place met.target control else next control)) (to_z-of_z w128 y fits_y)
    (subst (λ (z : ℤ). GoesOn c.where_to.result control (if int_lt z (to_z w128 (of_z w128 y)) then at_place met.target control else next control)) (to_z-of_z w128 x fits_x) (c.where_to.ensures control)) in
    subst (λ (i : Instr). ComesTo g.R.Rack radius None (acts_of b.set i control) control b c.where_to.result c.hear_both.new.self) (sym met.is)
    (c.in-Ok-hear_both.ensures.told (λ x y. go_on (if int_lt x y then at_place met.target control else next control)) control c.where_to.result c.hear_both.new.self
    (comes-went g.R.Rack radius None c.where_to.result control (if int_lt x y then at_place met.target control else next control) c.hear_both.new.self went))

pub returns-in-Err-hear_both-clause-comes : goal.returns-in-Err-hear_both-clause-comes
returns-in-Err-hear_both-clause-comes g c = λ control.
    let b = c.args.self.now in
    let met = c.in-Blt in
    subst (λ (i : Instr). ComesTo g.R.Rack radius None (acts_of b.set i control) control b c.in-Err-hear_both.outcome c.hear_both.new.self) (sym met.is)
    (c.in-Err-hear_both.ensures.told (λ x y. go_on (if int_lt x y then at_place met.target control else next control)) control)

pub returns-in-Ok-hear_both-2-clause-comes : goal.returns-in-Ok-hear_both-2-clause-comes
returns-in-Ok-hear_both-2-clause-comes g c = λ control.
    let b = c.args.self.now in
    let met = c.in-Beq in
    let x = c.in-Ok-hear_both-2.x in
    let y = c.in-Ok-hear_both-2.y in
    let fits_x : FitsSigned w128 x = search rules in
    let fits_y : FitsSigned w128 y = search rules in
    let went = subst (λ (t : Bool). GoesOn c.where_to-in-Ok-hear_both-2.result control (if t then at_place met.target control else next control)) (signed_test w128 x y fits_x fits_y) (c.where_to-in-Ok-hear_both-2.ensures control) in
    subst (λ (i : Instr). ComesTo g.R.Rack radius None (acts_of b.set i control) control b c.where_to-in-Ok-hear_both-2.result c.hear_both-in-Beq.new.self) (sym met.is)
    (c.in-Ok-hear_both-2.ensures.told (λ x y. go_on (if int_eq x y then at_place met.target control else next control)) control c.where_to-in-Ok-hear_both-2.result c.hear_both-in-Beq.new.self
    (comes-went g.R.Rack radius None c.where_to-in-Ok-hear_both-2.result control (if int_eq x y then at_place met.target control else next control) c.hear_both-in-Beq.new.self went))

pub returns-in-Err-hear_both-2-clause-comes : goal.returns-in-Err-hear_both-2-clause-comes
returns-in-Err-hear_both-2-clause-comes g c = λ control.
    let b = c.args.self.now in
    let met = c.in-Beq in
    subst (λ (i : Instr). ComesTo g.R.Rack radius None (acts_of b.set i control) control b c.in-Err-hear_both-2.outcome c.hear_both-in-Beq.new.self) (sym met.is)
    (c.in-Err-hear_both-2.ensures.told (λ x y. go_on (if int_eq x y then at_place met.target control else next control)) control)

pub returns-then-lies_in-clause-comes : goal.returns-then-lies_in-clause-comes
returns-then-lies_in-clause-comes g c = λ control.
    let b = c.args.self.now in
    let chk = c.in-Chk in
    let x = c.in-Ok-hear.x in
    let within = lies_in-said chk.low chk.high x c.lies_in.result true (search rules) (search rules) (search rules) c.lies_in.ensures c.if-lies_in.true in
    subst (λ (i : Instr). ComesTo g.R.Rack radius None (acts_of b.set i control) control b outcome.Next c.hear.new.self) (sym chk.is)
    (comes-check g.R.Rack radius None chk.a chk.low chk.high x chk.line true control b c.hear.new.self outcome.Next c.in-Ok-hear.ensures.told within (comes-next g.R.Rack radius None control c.hear.new.self))

pub returns-else-lies_in-clause-comes : goal.returns-else-lies_in-clause-comes
returns-else-lies_in-clause-comes g c = λ control.
    let b = c.args.self.now in
    let chk = c.in-Chk in
    let x = c.in-Ok-hear.x in
    let outside = lies_in-said chk.low chk.high x c.lies_in.result false (search rules) (search rules) (search rules) c.lies_in.ensures c.if-lies_in.false in
    let after = outcome.End (ended.Trap Range chk.line) in
    subst (λ (i : Instr). ComesTo g.R.Rack radius None (acts_of b.set i control) control b after c.hear.new.self) (sym chk.is)
    (comes-check g.R.Rack radius None chk.a chk.low chk.high x chk.line false control b c.hear.new.self after c.in-Ok-hear.ensures.told outside (comes-trap g.R.Rack radius None Range chk.line control c.hear.new.self))

pub returns-in-Err-hear-clause-comes : goal.returns-in-Err-hear-clause-comes
returns-in-Err-hear-clause-comes g c = λ control.
    let b = c.args.self.now in
    let chk = c.in-Chk in
    subst (λ (i : Instr). ComesTo g.R.Rack radius None (acts_of b.set i control) control b c.in-Err-hear.outcome c.hear.new.self) (sym chk.is)
    (c.in-Err-hear.ensures.told (λ y. if lies_in chk.low chk.high y then go_on (next control) else end_by (traps Range chk.line)) control)

pub returns-in-Err-hear-2-clause-comes : goal.returns-in-Err-hear-2-clause-comes
returns-in-Err-hear-2-clause-comes g c = λ control.
    let b = c.args.self.now in
    subst (λ (i : Instr). ComesTo g.R.Rack radius None (acts_of b.set i control) control b c.in-Err-hear-2.outcome c.hear-in-Out.new.self) (sym c.in-Out.is)
    (c.in-Err-hear-2.ensures.told (λ x. print x (go_on (next control))) control)

pub returns-in-Trp-clause-comes : goal.returns-in-Trp-clause-comes
returns-in-Trp-clause-comes g c = λ control.
    let b = c.args.self.now in
    let trp = c.in-Trp in
    subst (λ (i : Instr). ComesTo g.R.Rack radius None (acts_of b.set i control) control b (outcome.End (ended.Trap c.kind_of.result trp.line)) b) (sym trp.is)
    (subst (λ (k : Kind). ComesTo g.R.Rack radius None (end_by (traps (kind_numbered trp.kind) trp.line)) control b (outcome.End (ended.Trap k trp.line)) b) (sym c.kind_of.ensures) (comes-trap g.R.Rack radius None (kind_numbered trp.kind) trp.line control b))
