use Rattle.std.proofs.Common.{◌≡◌, length, take}
use Rattle.assembler.specs.Words.{said_in}
use Rattle.assembler.specs.Taken.{IsRead}
use Rattle.assembler.proofs.assembling.assemble.Given as goal

-- the lines so far break no rule, and are read
abbrev pub invariant-loop-part : goal.invariant-loop-part
invariant-loop-part l = record {
  counted : l.number ≡ length l.yielded;
  read : IsRead (take (length l.yielded) (said_in l.text)) l.program;
}
