use Rattle.std.proofs.Common.{◌≡◌, ◌++◌, ◌∷◌, [], codes, take}
use Rattle.std.specs.List.{flat_map}
use Rattle.moduli_sets.specs.Name.{word_of_name}
use Rattle.machine_table.specs.Objects.{code_of, set_of_object, words_of}
use Rattle.assembler.specs.Listing.{datum_line, instr_line}
use Rattle.assembler.proofs.listing.list.Given as goal

-- the set line, and the data words so far
abbrev pub invariant-loop-x : goal.invariant-loop-x
invariant-loop-x l =
    l.out.items ≡ codes "set " ++ word_of_name (set_of_object l.object) ++ (10 ∷ []) ++ flat_map datum_line (take l.x-index (words_of l.object))

-- the set line, the data words, and the instructions so far
abbrev pub invariant-loop-instr : goal.invariant-loop-instr
invariant-loop-instr l =
    l.out.items ≡ codes "set " ++ word_of_name (set_of_object l.object) ++ (10 ∷ []) ++ flat_map datum_line (words_of l.object)
    ++ flat_map instr_line (take l.instr-index (code_of l.object))
