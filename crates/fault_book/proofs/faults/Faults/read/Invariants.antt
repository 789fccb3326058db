use Rattle.std.proofs.Common.{◌≡◌, length}
use Rattle.moduli_sets.specs.Moduli.{set_of}
use Rattle.fault_book.proofs.ReadLemmas.{IsReadUpTo}
use Rattle.fault_book.proofs.faults.Faults.read.Given as goal

-- the lines so far break no rule, and their entries are made
abbrev pub invariant-loop-line : goal.invariant-loop-line
invariant-loop-line l = record {
  counted : l.line_number ≡ length l.yielded;
  read : IsReadUpTo (length (set_of l.set).moduli) l.text (length l.yielded) l.named l.made;
}
