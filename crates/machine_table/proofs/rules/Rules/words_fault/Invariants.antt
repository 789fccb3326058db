use Rattle.std.proofs.Common.{◌≡◌, drop}
use Rattle.machine_table.specs.Faults.{words_fault}
use Rattle.machine_table.specs.Rules.{shape_of_rules}
use Rattle.machine_table.proofs.rules.Rules.words_fault.Given as goal

-- the first fault is that of what is left
abbrev pub invariant-loop-n : goal.invariant-loop-n
invariant-loop-n l = words_fault (shape_of_rules l.self).set l.n (drop l.n l.words) ≡ words_fault (shape_of_rules l.self).set 0 l.words
