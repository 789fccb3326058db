use Rattle.std.proofs.Common.{◌≡◌, Some, map, take}
use Rattle.fault_book.specs.Invariant.{IsConsistent}
use Rattle.fault_book.proofs.faults.Faults.of_entries.Given as goal

-- the entries so far are those of the list so far, in order, and their flags are set
abbrev pub invariant-loop-channel : goal.invariant-loop-channel
invariant-loop-channel l = record {
  entries : l.made.entries ≡ map (λ e. ((e.0, e.1), e.2)) (take l.channel-index l.entries);
  consistent : IsConsistent l.named (Some l.made);
}
