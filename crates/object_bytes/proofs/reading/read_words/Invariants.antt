use Rattle.std.proofs.Common.{◌≡◌, ◌-◌, ◌*◌, ◌++◌, drop}
use Rattle.object_bytes.specs.Loading.{words_from}
use Rattle.object_bytes.proofs.reading.read_words.Given as goal

-- the words so far and those of the bytes that are left are all
abbrev pub invariant-loop-n : goal.invariant-loop-n
invariant-loop-n l = l.words.items ++ words_from (l.count - l.n) (drop (16 * l.n) l.bytes) ≡ words_from l.count l.bytes
