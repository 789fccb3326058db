use Rattle.std.proofs.Common.{◌≡◌, length, map, string_bytes}
use Rattle.moduli_sets.specs.Moduli.{set_of}
use Rattle.word_readers.proofs.ResidueLemmas.{GoesOn}
use Rattle.word_readers.proofs.numbers.residues_in.Given as goal

-- one residue for each word so far, and the words that are left tell the outcome
abbrev pub invariant-loop-i : goal.invariant-loop-i
invariant-loop-i l = record {
  goes_on : GoesOn (set_of l.set).moduli (map string_bytes l.words) l.i l.residues;
  count : length l.residues ≡ l.i;
}
