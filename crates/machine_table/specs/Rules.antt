-- What the rules of a program ask of its shape.
use Rattle.moduli_sets.specs.Moduli.{set_of}
use Rattle.machine_table.specs.declared.rules.Rules.{Rules}
use Rattle.machine_table.specs.Operands.{Shape}

abbrev pub shape_of_rules : Rules → Shape
shape_of_rules rules = record { set = set_of rules.set; instructions = rules.instructions; words = rules.words }
