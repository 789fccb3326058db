use Rattle.std.proofs.Common.{arith, ◌≡◌, ◌<◌, ◌≤◌, ℕ, List, All, length, refl, sym, subst, ◌∙◌, None}
use Rattle.std.specs.Prelude.{slice_index_or}
use Rattle.std.proofs.lemmas.List.{get_or_past}
use Rattle.moduli_sets.specs.Set.{radius}
use Rattle.machine_table.specs.declared.instr.Instr.{Instr}
use Rattle.machine_table.specs.declared.instr.Instr.TheVariants.{Call, Halt, In}
use Rattle.machine_table.specs.Faults.{shape_of}
use Rattle.machine_table.specs.Integers.{instruction_at}
use Rattle.machine_table.specs.Operands.{IsSoundOperand, operands_of}
use Rattle.micro_plan.specs.Acts.{acts_of}
use Rattle.micro_plan.proofs.ToldRuns.{sound_at}
use Rattle.residue_machine.specs.declared.outcome.Outcome.TheVariants as outcome
use Rattle.residue_machine.specs.declared.ending.Ended.TheVariants as ended
use Rattle.residue_machine.specs.Outcomes.{ComesTo}
use Rattle.residue_machine.proofs.ActLemmas.{comes-halt}
use Rattle.residue_machine.proofs.OperandLemmas.{instruction-is, named}
use Rattle.residue_machine.proofs.following.perform_next.Goals as goal

pub returns-then-counter-code-clause-comes : goal.returns-then-counter-code-clause-comes
returns-then-counter-code-clause-comes g c =
    let old = c.args.position.now in
    let b = c.args.channels.now in
    let same : c.code-code.result.now ≡ b.code = c.code-code.ensures ∙ c.object.ensures.code in
    let past : length b.code ≤ old.counter =
    subst (λ (n : ℕ). length b.code ≤ n) c.counter-counter.ensures (subst (λ (xs : List Instr). length xs ≤ c.counter-counter.result) same c.if-counter-code.true) in
    subst (λ (i : Instr). ComesTo g.R.Rack radius None (acts_of b.set i old) old b (outcome.End ended.Halt) b) (sym (get_or_past b.code old.counter Halt past)) (comes-halt g.R.Rack radius None old b)

pub read_number-requires-clause-register : goal.read_number-requires-clause-register
read_number-requires-clause-register g c =
    let old = c.args.position.now in
    let b = c.args.channels.now in
    let shape = shape_of b.set b.code b.start in
    let instr = In c.in-In.a c.in-In.low c.in-In.high c.in-In.line in
    let is : instruction_at b.code old.counter ≡ instr =
    instruction-is c.code-code.result.now b.code c.counter-counter.result old.counter instr (c.code-code.ensures ∙ c.object.ensures.code) c.counter-counter.ensures c.in-In.is in
    let operands = named shape (operands_of instr)
    (subst (λ (i : Instr). All (IsSoundOperand shape) (operands_of i)) is (sound_at shape b.code old.counter c.rules.ensures.sound.operands)) in
    let small : c.in-In.a ≤ 15 = operands.0 in
    omega (arith, small)

pub returns-in-Call-clause-comes : goal.returns-in-Call-clause-comes
returns-in-Call-clause-comes g c =
    let old = c.args.position.now in
    let b = c.args.channels.now in
    let instr = Call c.in-Call.target c.in-Call.line in
    let is : instruction_at b.code old.counter ≡ instr =
    instruction-is c.code-code.result.now b.code c.counter-counter.result old.counter instr (c.code-code.ensures ∙ c.object.ensures.code) c.counter-counter.ensures c.in-Call.is in
    subst (λ (i : Instr). ComesTo g.R.Rack radius None (acts_of b.set i old) c.call.new.position b c.call.result b) (sym is) (c.call.ensures.comes b.set)

pub returns-in_default : goal.returns-in_default
returns-in_default g c =
    let old = c.args.position.now in
    let b = c.args.channels.now in
    let instr = slice_index_or c.code-code.result.now c.counter-counter.result Halt in
    let same : c.code-code.result.now ≡ b.code = c.code-code.ensures ∙ c.object.ensures.code in
    let is : instruction_at b.code old.counter ≡ instr = instruction-is c.code-code.result.now b.code c.counter-counter.result old.counter instr same c.counter-counter.ensures refl in
    let within : old.counter < length b.code =
    subst (λ (n : ℕ). n < length b.code) c.counter-counter.ensures (subst (λ (xs : List Instr). c.counter-counter.result < length xs) same c.if-counter-code.false) in
    let fits = c.rules.ensures.sound.code_fits in
    record {
      issued = c.perform.ensures.issued;
      comes = subst (λ (i : Instr). ComesTo g.R.Rack radius None (acts_of b.set i old) old b c.perform.result c.perform.new.self) (sym is) (c.perform.ensures.comes old);
      stays = λ h. refl;
      counter = refl;
      inside = λ h. omega (arith, within, fits);
    }
