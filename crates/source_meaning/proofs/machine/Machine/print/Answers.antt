use Rattle.std.proofs.Common.{rules, ◌∙◌}
use Rattle.std.proofs.lemmas.Int.{to_z-of_z}
use mir.Syntax.{w128}
use mir.Val.{SFits}
use Rattle.source_meaning.proofs.Following.{err_follows}
use Rattle.source_meaning.proofs.PrintForms.{print_stops, print_goes, print_breaks}
use Rattle.source_meaning.proofs.machine.Machine.print.Goals as goal

pub returns-in_err-x : goal.returns-in_err-x
returns-in_err-x g c =
    err_follows g.K.Sink.puts g.K.Sink.state _ _ _ _ _ _ _ c.from_residual.ensures
    (print_stops g.K.Sink.puts g.K.Sink.state c.args.value.now _ _ _ _ c.in_err-x.ensures.does)

pub returns-in-Done : goal.returns-in-Done
returns-in-Done g c =
    let fits : SFits w128 c.in_ok-x.x = search rules in
    let piece = c.as_slice.ensures ∙ (simp to_z-of_z at c.line_of.ensures) in
    print_goes g.K.Sink.puts g.K.Sink.state c.args.value.now _ _ _ _ _ _ c.in_ok-x.ensures.does piece c.put.ensures.late c.put.ensures.puts _ c.in-Done.ensures.leaves

pub returns-in-Failed : goal.returns-in-Failed
returns-in-Failed g c =
    let fits : SFits w128 c.in_ok-x.x = search rules in
    let piece = c.as_slice.ensures ∙ (simp to_z-of_z at c.line_of.ensures) in
    print_breaks g.K.Sink.puts g.K.Sink.state c.args.value.now _ _ _ _ _ _ c.in_ok-x.ensures.does piece c.put.ensures.late c.put.ensures.puts c.in-Failed.ensures.leaves
