use Rattle.std.proofs.Common.{take}
use Rattle.outside.specs.Sink.{WroteAll}
use Rattle.job_endings.proofs.lines.put_lines.Given as goal

-- the lines so far are put
abbrev pub invariant-loop-line : goal.invariant-loop-line
invariant-loop-line g l = WroteAll g.K.Sink.puts g.K.Sink.state l.initial.sink (take l.line-index l.lines) l.sink
