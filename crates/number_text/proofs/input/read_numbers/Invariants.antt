use Rattle.std.proofs.Common.{◌≤◌, ◌-◌, false, drop, length}
use Rattle.plain_text.specs.Words.{white_space, words_from}
use Rattle.number_text.specs.Input.{input_words}
use Rattle.number_text.proofs.InputLemmas.{AreNumbersUpTo}
use Rattle.number_text.proofs.input.read_numbers.Given as goal

-- the words before this place are whole numbers, and these are their integers
abbrev pub invariant-loop-word : goal.invariant-loop-word
invariant-loop-word l = record {
  within : l.place ≤ length l.text;
  read : AreNumbersUpTo (input_words l.text) (words_from white_space false l.place (drop l.place l.text)) l.numbers.items;
}

abbrev pub decreases-loop-word : goal.decreases-loop-word
decreases-loop-word l = length l.text - l.place
