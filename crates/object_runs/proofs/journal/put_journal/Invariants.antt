use Rattle.std.proofs.Common.{map, take}
use Rattle.outside.specs.Sink.{WroteAll}
use Rattle.object_runs.specs.RunText.{journal_line}
use Rattle.object_runs.proofs.journal.put_journal.Given as goal

-- the lines of the entries so far are put
abbrev pub invariant-loop-entry : goal.invariant-loop-entry
invariant-loop-entry g l = WroteAll g.K.Sink.puts g.K.Sink.state l.initial.sink (map journal_line (take l.entry-index l.entries)) l.sink
