use Rattle.job_endings.specs.declared.status.Status.TheVariants.{Ok}
use Rattle.thin_source.specs.ThinMeaning.{prints_of}
use Rattle.thin_source.specs.ThinView.{program_view}
use Rattle.number_text.specs.Lines.{print_lines}
use Rattle.rnm_engine.specs.Jobs.{last_lines}
use Rattle.job_endings.proofs.EndingLemmas.{puts_after, fails_before}
use Rattle.rnm_engine.proofs.run.run_program.Goals as goal

pub returns-in-Done : goal.returns-in-Done
returns-in-Done g c =
    puts_after g.K.Sink.puts g.K.Sink.state c.args.sink.now c.run.new.sink (print_lines (prints_of (program_view c.args.program.now))) last_lines Ok
    c.put_last_lines.result c.put_last_lines.new.sink c.in-Done.ensures c.put_last_lines.ensures

pub returns-in-Failed : goal.returns-in-Failed
returns-in-Failed g c =
    fails_before g.K.Sink.puts g.K.Sink.state c.args.sink.now (print_lines (prints_of (program_view c.args.program.now))) last_lines Ok c.run.new.sink c.in-Failed.ensures
