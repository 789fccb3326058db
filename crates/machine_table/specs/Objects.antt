-- What an object holds.
use Rattle.std.specs.Prelude.{ℤ, List}
use Rattle.moduli_sets.specs.declared.set_name.SetName.{SetName}
use Rattle.machine_table.specs.declared.instr.Instr.{Instr}
use Rattle.machine_table.specs.declared.object.Object.{Object}

abbrev pub set_of_object : Object → SetName
set_of_object object = object.set

abbrev pub code_of : Object → List Instr
code_of object = object.code.items

abbrev pub words_of : Object → List ℤ
words_of object = object.words.items
