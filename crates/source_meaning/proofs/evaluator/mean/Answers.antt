use Rattle.std.proofs.Common.{◌≡◌, [], length, ap, ◌∙◌, subst}
use Rattle.name_check.specs.Names.{name_faults}
use Rattle.name_check.specs.declared.checked.Checked.{Checked}
use Rattle.resolved_tree.specs.Meaning.{state_at_start}
use Rattle.resolved_tree.specs.Resolution.{resolved_of}
use Rattle.source_meaning.specs.Follows.{state_of}
use Rattle.source_meaning.proofs.EndForms.{means_same}
use Rattle.source_meaning.proofs.evaluator.mean.Goals as goal

pub returns-in-Ok-machine_at_start : goal.returns-in-Ok-machine_at_start
returns-in-Ok-machine_at_start g c =
    let m = c.in-Ok-machine_at_start in
    let same : c.program.result.now ≡ c.args.ranged.now.checked.program = c.program.ensures.program ∙ ap (λ (x : Checked). x.program) c.checked.ensures in
    let kept : name_faults c.args.ranged.now.checked.program ≡ [] = subst (λ p. name_faults p ≡ []) same c.program.ensures.kept in
    let is : c.in-Ok.resolved ≡ resolved_of c.args.ranged.now.checked.program = c.in-Ok.ensures ∙ ap resolved_of same in
    let starts : state_of m.machine ≡ state_at_start c.in-Ok.resolved.slots c.args.input.now = rw c.as_slice.ensures at m.ensures.state in
    let sizes : length m.machine.integers ≡ length c.in-Ok.resolved.slots = rw c.as_slice.ensures at m.ensures.integers in
    means_same g.K.Sink.puts g.K.Sink.state c.args.ranged.now.checked.program c.args.ranged.now.set c.args.input.now c.args.limit c.in-Ok.resolved m.machine
    c.args.sink.now c.run.new.sink c.run.result c.resolved_means_the_same.ensures kept c.set-set.ensures.narrow is m.ensures.left sizes starts c.run.ensures
