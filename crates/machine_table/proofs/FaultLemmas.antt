-- The first fault of what is left of the code and of the data words, one step on.
use Rattle.std.proofs.Common.{◌≡◌, ℕ, ◌+◌, ◌<◌, ℤ, List, length, get_or, drop, Some, cond}
use Rattle.std.proofs.Math.Bool.{or-false}
use Rattle.std.proofs.lemmas.List.{at_drop_more}
use Rattle.moduli_sets.specs.Set.{ModuliSet}
use Rattle.machine_table.specs.declared.fault.ObjectFault.TheVariants.{BadDatum}
use Rattle.machine_table.specs.declared.instr.Instr.{Instr}
use Rattle.machine_table.specs.Operands.{Shape, operands_of}
use Rattle.machine_table.specs.Faults.{code_fault, is_outside, operands_fault, or_fault, words_fault}

-- a test of the last operand alone
pub ruleset single_tests = or-false

pub code_fault-at : (shape : Shape) (code : List Instr) (i : ℕ) (d : Instr) → i < length code
    → code_fault shape i (drop i code) ≡ or_fault (operands_fault shape (operands_of (get_or code i d)) i) (code_fault shape (i + 1) (drop (i + 1) code))
code_fault-at shape code i d lt = at_drop_more (code_fault shape i) code i d lt

pub words_fault-at : (set : ModuliSet) (words : List ℤ) (i : ℕ) (d : ℤ) → i < length words
    → words_fault set i (drop i words) ≡ cond (is_outside set (get_or words i d)) (Some (BadDatum i)) (words_fault set (i + 1) (drop (i + 1) words))
words_fault-at set words i d lt = at_drop_more (words_fault set i) words i d lt
