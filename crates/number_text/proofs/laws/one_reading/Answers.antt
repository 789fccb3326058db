use Rattle.number_text.proofs.InputLemmas.{same_numbers, same_place, numbers_or_place}
use Rattle.number_text.proofs.laws.one_reading.Goals as goal

pub returns-clause-numbers : goal.returns-clause-numbers
returns-clause-numbers c = same_numbers

pub returns-clause-place : goal.returns-clause-place
returns-clause-place c = same_place

pub returns-clause-apart : goal.returns-clause-apart
returns-clause-apart c = λ words xs n are first. numbers_or_place words n are.all first
