use Rattle.moduli_sets.specs.Moduli.{set_of}
use Rattle.syndrome_table.specs.Filling.{IsFilled}
use Rattle.syndrome_table.proofs.syndromes.Syndromes.build.Given as goal

abbrev pub invariant-loop-first : goal.invariant-loop-first
invariant-loop-first l = IsFilled (set_of l.set) l.cofactors l.table.items l.first 0
