use Rattle.std.proofs.Common.{◌≡◌, ◌+◌, take}
use Rattle.assembler.specs.Taken.{IsLinked, saids_of}
use Rattle.assembler.proofs.program.Program.linked.Given as goal

-- what the lines so far say is linked
abbrev pub invariant-loop-statement : goal.invariant-loop-statement
invariant-loop-statement l = record {
  counted : l.number ≡ l.self.set_number + l.statement-index;
  linked : IsLinked l.self.places (l.self.set_number + 1) (take l.statement-index (saids_of l.self)) l.linked;
}
