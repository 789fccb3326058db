use Rattle.std.proofs.Common.{map, string_bytes}
use Rattle.word_readers.proofs.OptionLemmas.{HasFound}
use Rattle.word_readers.proofs.options.option_value.Given as goal

-- the value of the option in the words so far is found
abbrev pub invariant-loop-word : goal.invariant-loop-word
invariant-loop-word l = HasFound l.name (map string_bytes l.rest) l.word-index l.found
