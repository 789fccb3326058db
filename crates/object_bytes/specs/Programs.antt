-- The program that an object holds.
use Rattle.machine_table.specs.declared.object.Object.{Object}
use Rattle.machine_table.specs.Objects.{code_of, set_of_object, words_of}
use Rattle.object_bytes.specs.Loading.{Program}

abbrev pub program_of : Object → Program
program_of object = record { set = set_of_object object; code = code_of object; words = words_of object }
