use Rattle.std.proofs.Common.{◌≡◌, drop}
use Rattle.outside.specs.Memory.{listed_len}
use Rattle.outside.proofs.memory_sink.find_listed.Given as goal

abbrev pub invariant-loop-place : goal.invariant-loop-place
invariant-loop-place l = listed_len l.number l.failing ≡ listed_len l.number (drop l.place-index l.failing)
