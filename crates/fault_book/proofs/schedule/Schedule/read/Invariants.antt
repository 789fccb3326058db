use Rattle.std.proofs.Common.{◌≡◌, ◌≤◌, ◌-◌, false, drop, length}
use Rattle.plain_text.specs.Words.{white_space, words_from}
use Rattle.moduli_sets.specs.Moduli.{set_of}
use Rattle.fault_book.proofs.ScheduleLemmas.{AreTurnsUpTo}
use Rattle.fault_book.proofs.schedule.Schedule.read.Given as goal

-- the words before this place are these turns
abbrev pub invariant-loop-word : goal.invariant-loop-word
invariant-loop-word l = record {
  within : l.place ≤ length l.text;
  counted : l.number ≡ length l.turns.items;
  few : l.number ≤ l.place;
  read : AreTurnsUpTo (length (set_of l.set).moduli) l.text (words_from white_space false l.place (drop l.place l.text)) l.turns.items;
}

abbrev pub decreases-loop-word : goal.decreases-loop-word
decreases-loop-word l = length l.text - l.place
