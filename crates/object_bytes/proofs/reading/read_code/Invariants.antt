use Rattle.std.proofs.Common.{◌≡◌, ◌+◌, ◌-◌, ◌*◌, ◌++◌, drop}
use Rattle.object_bytes.specs.Loading.{code_from, records_fault}
use Rattle.object_bytes.proofs.reading.read_code.Given as goal

-- the instructions so far and those of the records that are left are all, and the first fault is that of what is left
abbrev pub invariant-loop-n : goal.invariant-loop-n
invariant-loop-n l = record {
  code : l.code.items ++ code_from (l.count - l.n) (drop (40 * l.n) l.records) ≡ code_from l.count l.records;
  fault : records_fault (l.count - l.n) (16 + 40 * l.n) (drop (40 * l.n) l.records) ≡ records_fault l.count 16 l.records;
}
