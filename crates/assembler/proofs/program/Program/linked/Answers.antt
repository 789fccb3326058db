use Rattle.std.proofs.Common.{◌+◌, take, sym, subst, arith}
use Rattle.assembler.specs.Taken.{IsFirstUntied, IsLinked, saids_of}
use Rattle.assembler.proofs.PassedLemmas.{passed_on}
use Rattle.assembler.proofs.TiedLemmas.{first_untied, length-saids, saids-more}
use Rattle.assembler.proofs.program.Program.linked.Goals as goal

pub returns-in_err-take : goal.returns-in_err-take
returns-in_err-take c =
    let program = c.args.self.now in
    let n = program.set_number + 1 in
    let list = c.deref-statement-items.result.now in
    let same = c.deref-statement-items.ensures.value in
    let i = c.loop-statement.statement-index in
    let within = c.loop-statement-test.true in
    let fault = c.in_err-take.field-0.0 in
    let so_far = c.loop-statement.invariant.linked in
    let counted = c.loop-statement.invariant.counted in
    let so_many = length-saids program list same i within in
    passed_on _ (IsFirstUntied program.places n (saids_of program)) fault c.from_residual.result c.from_residual.ensures.1
    (first_untied program list same i within n (c.loop-statement.number + 1) c.loop-statement.linked fault (omega arith) so_far
    (c.in_err-take.ensures n (take i (saids_of program)) so_far (omega arith)))

pub loop-statement-preserved : goal.loop-statement-preserved
loop-statement-preserved c =
    let program = c.args.self.now in
    let n = program.set_number + 1 in
    let list = c.deref-statement-items.result.now in
    let same = c.deref-statement-items.ensures.value in
    let i = c.loop-statement.statement-index in
    let within = c.loop-statement-test.true in
    let so_far = c.loop-statement.invariant.linked in
    let counted = c.loop-statement.invariant.counted in
    let so_many = length-saids program list same i within in
    record {
      counted = omega arith;
      linked = subst (λ saids. IsLinked program.places n saids c.take.new.self) (sym (saids-more program list same i within)) (c.in_ok-take.ensures n (take i (saids_of program)) so_far (omega arith));
    }
