use Rattle.std.proofs.Common.{take}
use Rattle.assembler.specs.Listing.{AreWritable}
use Rattle.assembler.proofs.writable.are_writable.Given as goal

-- the instructions so far fit
abbrev pub invariant-loop-instr : goal.invariant-loop-instr
invariant-loop-instr l = AreWritable (take l.instr-index l.code)
