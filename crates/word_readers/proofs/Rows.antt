-- Worked rows: operands, options, numbers, and names of files. Word 0 is the command.
use Rattle.std.specs.Prelude.{◌≡◌, refl, true, false, pos, negsuc, [], ◌∷◌, Some, None, codes, map, replicate}
use Rattle.moduli_sets.specs.declared.set_name.SetName.TheVariants.{Pocket}
use Rattle.word_readers.specs.declared.options.OptionKind.TheVariants.{Value, Flag}
use Rattle.word_readers.specs.Numbers.{integer_in_range, residue_in, residues_in, steps_in}
use Rattle.word_readers.specs.Operands.{file_and_input, file_name, file_option, named_file, operands_of, value_word, values_from, whole_word}
use Rattle.word_readers.specs.Options.{OptionTable, flag_of, has_only_options, is_word_of, option_of, value_in, values_of}

-- ---- operands
-- `a.src` is word 1 and `b` is word 3; a command line without words has none, and the command is none
operands_rows : map operands_of (
    (codes "mean" ∷ codes "a.src" ∷ codes "--set=hall" ∷ codes "b" ∷ [])
    ∷ []
    ∷ (codes "mean" ∷ [])
    ∷ []) ≡ ((1, codes "a.src") ∷ (3, codes "b") ∷ []) ∷ [] ∷ [] ∷ []
operands_rows = refl

-- an input, no input, no source, one operand, and three
files_rows : map file_and_input (
    ((1, codes "a") ∷ (3, codes "b") ∷ [])
    ∷ ((1, codes "a") ∷ (3, codes "-") ∷ [])
    ∷ ((1, codes "-") ∷ (3, codes "b") ∷ [])
    ∷ ((1, codes "a") ∷ [])
    ∷ ((1, codes "a") ∷ (2, codes "b") ∷ (3, codes "c") ∷ [])
    ∷ []) ≡ Some (whole_word 1, Some (whole_word 3)) ∷ Some (whole_word 1, None) ∷ None ∷ None ∷ None ∷ []
files_rows = refl

-- a minus in a name is fine; an empty word, a minus alone and an option name no file
named_rows : map named_file ((1, codes "-a") ∷ (1, []) ∷ (1, codes "-") ∷ (1, codes "--a") ∷ [])
    ≡ Some (whole_word 1) ∷ None ∷ None ∷ None ∷ []
named_rows = refl

-- the name after `--faults=`, one with `=` in it, and that of a whole word
name_rows : map (file_name (codes "run" ∷ codes "--faults=f.txt" ∷ codes "--faults==f=" ∷ codes "a" ∷ []))
    (record { word = 1; skip = 9 } ∷ value_word (codes "--faults") 2 ∷ whole_word 3 ∷ [])
    ≡ codes "f.txt" ∷ codes "=f=" ∷ codes "a" ∷ []
name_rows = refl

-- ---- files of options
-- each value with the number of its word; the command gives none, and neither does an operand or another option
numbered_rows : map (values_from (codes "--faults") 1) (
    (codes "exec" ∷ codes "a" ∷ codes "--faults=f" ∷ codes "--faults=" ∷ [])
    ∷ (codes "--faults=f" ∷ codes "faults=f" ∷ codes "--faults" ∷ codes "--faultsx=f" ∷ codes "--fault=f" ∷ [])
    ∷ []) ≡ ((2, codes "f") ∷ (3, []) ∷ []) ∷ [] ∷ []
numbered_rows = refl

-- no file; one before, between and after operands; names that begin with `--` or a minus, or hold `=`
faults_rows : map (file_option (codes "--faults")) (
    []
    ∷ (codes "exec" ∷ codes "a" ∷ codes "b" ∷ [])
    ∷ (codes "exec" ∷ codes "--faults=f" ∷ codes "a" ∷ codes "b" ∷ [])
    ∷ (codes "exec" ∷ codes "a" ∷ codes "--faults=f" ∷ codes "b" ∷ [])
    ∷ (codes "exec" ∷ codes "a" ∷ codes "b" ∷ codes "--faults=f" ∷ [])
    ∷ (codes "exec" ∷ codes "--faults=--f" ∷ [])
    ∷ (codes "exec" ∷ codes "--faults=-f" ∷ [])
    ∷ (codes "exec" ∷ codes "--faults==f=" ∷ [])
    ∷ []) ≡ Some None ∷ Some None ∷ map (λ n. Some (Some (value_word (codes "--faults") n))) (1 ∷ 2 ∷ 3 ∷ 1 ∷ 1 ∷ 1 ∷ [])
faults_rows = refl

-- nothing and a minus name no file, and two options name none, even where they are the same
no_faults_rows : map (file_option (codes "--faults")) (
    (codes "exec" ∷ codes "--faults=" ∷ [])
    ∷ (codes "exec" ∷ codes "--faults=-" ∷ [])
    ∷ (codes "exec" ∷ codes "--faults=f" ∷ codes "a" ∷ codes "--faults=g" ∷ [])
    ∷ (codes "exec" ∷ codes "--faults=f" ∷ codes "--faults=f" ∷ [])
    ∷ (codes "exec" ∷ codes "--faults=" ∷ codes "--faults=f" ∷ [])
    ∷ []) ≡ replicate 5 None
no_faults_rows = refl

-- ---- options
table : OptionTable
table = (codes "--set", Value) ∷ ((codes "--journal", Flag) ∷ [])

-- operands and options of the table; the value may be empty, or have `=` in it
word_rows : map (is_word_of table) (
    codes "a" ∷ codes "-" ∷ [] ∷ codes "--set=hall" ∷ codes "--set=" ∷ codes "--set==" ∷ codes "--journal" ∷ []) ≡ replicate 7 true
unfolding table
word_rows = refl

-- a name that begins like another, a part of a name, a value too much, one too few, and an option that isn't there
no_word_rows : map (is_word_of table) (
    codes "--journalx" ∷ codes "--journa" ∷ codes "--journal=" ∷ codes "--set" ∷ codes "--setx=desk" ∷ codes "--se=desk"
    ∷ codes "--" ∷ codes "--=desk" ∷ codes "--steps=1" ∷ []) ≡ replicate 9 false
unfolding table
no_word_rows = refl

-- the command is no option, whatever it is
only_rows : map (has_only_options table) (
    []
    ∷ (codes "--steps=1" ∷ codes "a" ∷ codes "--set=hall" ∷ [])
    ∷ (codes "mean" ∷ codes "a" ∷ codes "--steps=1" ∷ [])
    ∷ []) ≡ true ∷ true ∷ false ∷ []
unfolding table
only_rows = refl

-- the first `=` ends the name
value_rows : map (value_in (codes "--set")) (
    codes "--set=hall" ∷ codes "--set=" ∷ codes "--set=a=b" ∷ codes "--set" ∷ codes "--setx=hall" ∷ codes "--se=hall" ∷ [])
    ≡ Some (codes "hall") ∷ Some [] ∷ Some (codes "a=b") ∷ None ∷ None ∷ None ∷ []
value_rows = refl

values_rows : map (values_of (codes "--set")) (
    (codes "mean" ∷ codes "a" ∷ codes "--set=hall" ∷ [])
    ∷ (codes "mean" ∷ codes "--set=" ∷ codes "--set=x" ∷ [])
    ∷ (codes "--set=hall" ∷ codes "a" ∷ [])
    ∷ []) ≡ (codes "hall" ∷ []) ∷ ([] ∷ codes "x" ∷ []) ∷ [] ∷ []
values_rows = refl

-- none says the default, one says its value, two say nothing
option_rows : map (option_of (λ value. Some value) (codes "desk")) ([] ∷ (codes "hall" ∷ []) ∷ (codes "a" ∷ codes "b" ∷ []) ∷ [])
    ≡ Some (codes "desk") ∷ Some (codes "hall") ∷ None ∷ []
option_rows = refl

-- a flag that is there, one that isn't, and one that is there twice; neither a name that begins like it nor a value is one
flag_rows : map (flag_of (codes "--journal")) (
    (codes "run" ∷ codes "a" ∷ codes "--journal" ∷ [])
    ∷ (codes "--journal" ∷ codes "--journalx" ∷ codes "--journal=" ∷ codes "--journa" ∷ [])
    ∷ (codes "run" ∷ codes "--journal" ∷ codes "a" ∷ codes "--journal" ∷ [])
    ∷ []) ≡ Some true ∷ Some false ∷ None ∷ []
flag_rows = refl

-- ---- numbers
-- ten digits, and eleven; the modulus itself; a minus, and no digit
residue_rows : map (residue_in 13) (codes "12" ∷ codes "0000000012" ∷ codes "00000000012" ∷ codes "13" ∷ codes "-0" ∷ [] ∷ [])
    ≡ Some 12 ∷ Some 12 ∷ None ∷ None ∷ None ∷ None ∷ []
residue_rows = refl

-- one for each modulus, no more and no fewer
residues_rows : map (residues_in (13 ∷ 15 ∷ [])) (
    (codes "3" ∷ codes "14" ∷ [])
    ∷ (codes "3" ∷ [])
    ∷ (codes "3" ∷ codes "14" ∷ codes "0" ∷ [])
    ∷ (codes "14" ∷ codes "3" ∷ [])
    ∷ []) ≡ Some (3 ∷ 14 ∷ []) ∷ None ∷ None ∷ None ∷ []
residues_rows = refl

-- the ends of the range, one past them, and a minus alone
integer_rows : map (integer_in_range Pocket) (codes "97" ∷ codes "-97" ∷ codes "98" ∷ codes "-98" ∷ codes "-" ∷ [])
    ≡ Some (pos 97) ∷ Some (negsuc 96) ∷ None ∷ None ∷ None ∷ []
integer_rows = refl

-- the least and the greatest limit, none, one more, and eleven digits
steps_rows : map steps_in (codes "1" ∷ codes "1000000000" ∷ codes "0" ∷ codes "1000000001" ∷ codes "00000000001" ∷ [])
    ≡ Some 1 ∷ Some 1000000000 ∷ None ∷ None ∷ None ∷ []
steps_rows = refl
