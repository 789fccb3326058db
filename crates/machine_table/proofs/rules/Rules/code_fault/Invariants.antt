use Rattle.std.proofs.Common.{◌≡◌, drop}
use Rattle.machine_table.specs.Faults.{code_fault}
use Rattle.machine_table.specs.Rules.{shape_of_rules}
use Rattle.machine_table.proofs.rules.Rules.code_fault.Given as goal

-- the first fault is that of what is left
abbrev pub invariant-loop-n : goal.invariant-loop-n
invariant-loop-n l = code_fault (shape_of_rules l.self) l.n (drop l.n l.code) ≡ code_fault (shape_of_rules l.self) 0 l.code
