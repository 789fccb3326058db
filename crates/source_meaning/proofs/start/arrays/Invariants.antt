use Rattle.std.proofs.Common.{◌≡◌, map, take}
use Rattle.resolved_tree.specs.Slots.{start_elements}
use Rattle.source_meaning.proofs.start.arrays.Given as goal

-- so far
abbrev pub invariant-loop-s : goal.invariant-loop-s
invariant-loop-s l = l.found.items ≡ map start_elements (take l.s-index l.slots)
