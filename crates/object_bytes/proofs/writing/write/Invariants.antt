use Rattle.std.proofs.Common.{◌≡◌, ◌++◌, length, take}
use Rattle.std.specs.List.{flat_map}
use Rattle.machine_table.specs.Objects.{code_of, set_of_object, words_of}
use Rattle.object_bytes.specs.Record.{instr_bytes, integer_bytes}
use Rattle.object_bytes.specs.Spelling.{header_bytes}
use Rattle.object_bytes.proofs.writing.write.Given as goal

-- the header and the records so far
abbrev pub invariant-loop-instr : goal.invariant-loop-instr
invariant-loop-instr l =
    l.out.items ≡ header_bytes (set_of_object l.object) (length (code_of l.object)) (length (words_of l.object)) ++ flat_map instr_bytes (take l.instr-index (code_of l.object))

-- the header, the records, and the data words so far
abbrev pub invariant-loop-x : goal.invariant-loop-x
invariant-loop-x l =
    l.out.items ≡ header_bytes (set_of_object l.object) (length (code_of l.object)) (length (words_of l.object)) ++ flat_map instr_bytes (code_of l.object)
    ++ flat_map integer_bytes (take l.x-index (words_of l.object))
