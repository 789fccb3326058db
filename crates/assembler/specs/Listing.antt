-- The listing: the one text of a program in which nothing can be written otherwise.
use Rattle.std.specs.Prelude.{ℕ, ◌<◌, ◌^◌, ℤ, List, [], ◌∷◌, ◌++◌, All, codes}
use Rattle.std.specs.Fmt.{decimal, signed_decimal}
use Rattle.std.specs.List.{flat_map}
use Rattle.moduli_sets.specs.declared.set_name.SetName.{SetName}
use Rattle.moduli_sets.specs.Name.{word_of_name}
use Rattle.machine_table.specs.declared.instr.Instr.{Instr}
use Rattle.assembler.specs.Fields.{Field, a_register, an_integer, a_natural, a_place, fields_of, mnemonic_of}
use Rattle.assembler.specs.Words.{IsInt128}

-- numbers stand in decimal, without leading zeros; a place is a number
abbrev pub field_text : Field → List ℕ
field_text (a_register r) = codes "r" ++ decimal r
field_text (an_integer x) = signed_decimal x
field_text (a_natural n) = decimal n
field_text (a_place n) = decimal n

-- words stand one space apart, and each line ends with LF
abbrev pub instr_line : Instr → List ℕ
instr_line instr = mnemonic_of instr ++ flat_map (λ field. 32 ∷ field_text field) (fields_of instr) ++ 10 ∷ []

abbrev pub datum_line : ℤ → List ℕ
datum_line x = codes "data " ++ signed_decimal x ++ 10 ∷ []

-- the set line, a line for each data word, and one for each instruction
unfoldable pub listing : SetName → List Instr → List ℤ → List ℕ
listing set code words = codes "set " ++ word_of_name set ++ (10 ∷ []) ++ flat_map datum_line words ++ flat_map instr_line code

-- the fields of instructions fit their words, as those of every value of the type do
abbrev pub Fits : Field → Type 0
Fits (a_register r) = r < 2 ^ 8
Fits (an_integer x) = IsInt128 x
Fits (a_natural n) = n < 2 ^ 32
Fits (a_place n) = n < 2 ^ 32

abbrev pub AreWritable : List Instr → Type 0
AreWritable code = All (λ instr. All Fits (fields_of instr)) code
