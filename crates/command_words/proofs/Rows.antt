-- Worked rows: words, and the jobs that they ask for.
use Rattle.std.specs.Prelude.{◌≡◌, refl, ℕ, pos, negsuc, Bool, true, false, [], ◌∷◌, Option, Some, None, codes, map, replicate}
use Rattle.moduli_sets.specs.declared.set_name.SetName.TheVariants.{Pocket, Desk, Hall}
use Rattle.word_readers.specs.declared.operands.FileWord.{FileWord}
use Rattle.word_readers.specs.Operands.{whole_word}
use Rattle.command_words.specs.declared.job.Job.TheVariants.{Run, Exec, Asm, List as Listing, Decode, Encode, Mean, Set}
use Rattle.command_words.specs.Words.{job_of_words}

-- ---- jobs
run_row : job_of_words (codes "run" ∷ codes "a.src" ∷ codes "-" ∷ codes "--set=pocket" ∷ []) ≡ Some (Run (whole_word 1))
run_row = refl

-- with no input and the default limit, and with an option between the operands
exec_rows : map job_of_words (
    (codes "exec" ∷ codes "a.rnm" ∷ codes "-" ∷ [])
    ∷ (codes "exec" ∷ codes "a.rnm" ∷ codes "--steps=7" ∷ codes "b" ∷ [])
    ∷ []) ≡ Some (Exec (whole_word 1) None 1000000 None None false) ∷ Some (Exec (whole_word 1) (Some (whole_word 3)) 7 None None false) ∷ []
exec_rows = refl

-- what stands in word n after `--faults=`
abbrev faults_in : ℕ → Option FileWord
faults_in n = Some (record { word = n; skip = 9 })

-- the faults before, between and after the operands
faults_rows : map job_of_words (
    (codes "exec" ∷ codes "--faults=f" ∷ codes "a.rnm" ∷ codes "b" ∷ [])
    ∷ (codes "exec" ∷ codes "a.rnm" ∷ codes "--faults=f" ∷ codes "b" ∷ [])
    ∷ (codes "exec" ∷ codes "a.rnm" ∷ codes "b" ∷ codes "--faults=f" ∷ [])
    ∷ []) ≡ Some (Exec (whole_word 2) (Some (whole_word 3)) 1000000 (faults_in 1) None false)
    ∷ Some (Exec (whole_word 1) (Some (whole_word 3)) 1000000 (faults_in 2) None false)
    ∷ Some (Exec (whole_word 1) (Some (whole_word 2)) 1000000 (faults_in 3) None false) ∷ []
faults_rows = refl

-- and beside a limit
faults_and_steps : map job_of_words (
    (codes "exec" ∷ codes "--steps=7" ∷ codes "--faults=f" ∷ codes "a.rnm" ∷ codes "-" ∷ [])
    ∷ (codes "exec" ∷ codes "--faults=f" ∷ codes "a.rnm" ∷ codes "-" ∷ codes "--steps=7" ∷ [])
    ∷ []) ≡ Some (Exec (whole_word 3) None 7 (faults_in 2) None false) ∷ Some (Exec (whole_word 2) None 7 (faults_in 1) None false) ∷ []
faults_and_steps = refl

-- a file of faults whose name begins like an option, or holds `=`
faults_names : map job_of_words (
    (codes "exec" ∷ codes "a.rnm" ∷ codes "-" ∷ codes "--faults=--f" ∷ [])
    ∷ (codes "exec" ∷ codes "a.rnm" ∷ codes "-" ∷ codes "--faults=f=g" ∷ [])
    ∷ (codes "exec" ∷ codes "a.rnm" ∷ codes "-" ∷ codes "--faults==" ∷ [])
    ∷ []) ≡ replicate 3 (Some (Exec (whole_word 1) None 1000000 (faults_in 3) None false))
faults_names = refl

-- what stands in word n after `--schedule=`
abbrev schedule_in : ℕ → Option FileWord
schedule_in n = Some (record { word = n; skip = 11 })

-- the journal before, between and after the operands; a schedule, beside it and beside faults
schedule_rows : map job_of_words (
    (codes "exec" ∷ codes "--journal" ∷ codes "a.rnm" ∷ codes "b" ∷ [])
    ∷ (codes "exec" ∷ codes "a.rnm" ∷ codes "--journal" ∷ codes "b" ∷ [])
    ∷ (codes "exec" ∷ codes "a.rnm" ∷ codes "-" ∷ codes "--schedule=s" ∷ [])
    ∷ (codes "exec" ∷ codes "--schedule=s" ∷ codes "--faults=f" ∷ codes "a.rnm" ∷ codes "-" ∷ codes "--journal" ∷ [])
    ∷ []) ≡ Some (Exec (whole_word 2) (Some (whole_word 3)) 1000000 None None true)
    ∷ Some (Exec (whole_word 1) (Some (whole_word 3)) 1000000 None None true)
    ∷ Some (Exec (whole_word 1) None 1000000 None (schedule_in 3) false)
    ∷ Some (Exec (whole_word 3) None 1000000 (faults_in 2) (schedule_in 1) true) ∷ []
schedule_rows = refl

-- a schedule twice, without a name, and from no file; a journal twice, with a value, and with a longer name
schedule_usage : map job_of_words (
    (codes "exec" ∷ codes "a.rnm" ∷ codes "-" ∷ codes "--schedule=s" ∷ codes "--schedule=s" ∷ [])
    ∷ (codes "exec" ∷ codes "a.rnm" ∷ codes "-" ∷ codes "--schedule=" ∷ [])
    ∷ (codes "exec" ∷ codes "a.rnm" ∷ codes "-" ∷ codes "--schedule=-" ∷ [])
    ∷ (codes "exec" ∷ codes "a.rnm" ∷ codes "-" ∷ codes "--schedule" ∷ codes "s" ∷ [])
    ∷ (codes "exec" ∷ codes "a.rnm" ∷ codes "-" ∷ codes "--journal" ∷ codes "--journal" ∷ [])
    ∷ (codes "exec" ∷ codes "a.rnm" ∷ codes "-" ∷ codes "--journal=yes" ∷ [])
    ∷ (codes "exec" ∷ codes "a.rnm" ∷ codes "-" ∷ codes "--journals" ∷ [])
    ∷ []) ≡ replicate 7 None
schedule_usage = refl

-- one file each
asm_row : job_of_words (codes "asm" ∷ codes "a.txt" ∷ []) ≡ Some (Asm (whole_word 1))
asm_row = refl

list_row : job_of_words (codes "list" ∷ codes "a.rnm" ∷ []) ≡ Some (Listing (whole_word 1))
list_row = refl

-- no file, `-` for one, one too many, and an option
one_file_usage : map job_of_words (
    (codes "asm" ∷ [])
    ∷ (codes "asm" ∷ codes "-" ∷ [])
    ∷ (codes "list" ∷ codes "a.rnm" ∷ codes "b" ∷ [])
    ∷ (codes "list" ∷ codes "--set=desk" ∷ [])
    ∷ (codes "asm" ∷ [] ∷ [])
    ∷ []) ≡ replicate 5 None
one_file_usage = refl

set_row : job_of_words (codes "set" ∷ codes "desk" ∷ []) ≡ Some (Set Desk)
set_row = refl

-- the least integer in range, and a zero with a sign
encode_rows : map job_of_words (
    (codes "encode" ∷ codes "pocket" ∷ codes "-97" ∷ [])
    ∷ (codes "encode" ∷ codes "pocket" ∷ codes "-0" ∷ [])
    ∷ []) ≡ Some (Encode Pocket (negsuc 96)) ∷ Some (Encode Pocket (pos 0)) ∷ []
encode_rows = refl

-- ten digits for a residue
decode_rows : map job_of_words (
    (codes "decode" ∷ codes "pocket" ∷ codes "3" ∷ codes "12" ∷ codes "10" ∷ codes "8" ∷ codes "4" ∷ [])
    ∷ (codes "decode" ∷ codes "pocket" ∷ codes "3" ∷ codes "12" ∷ codes "10" ∷ codes "8" ∷ codes "0000000004" ∷ [])
    ∷ []) ≡ replicate 2 (Some (Decode Pocket (3 ∷ 12 ∷ 10 ∷ 8 ∷ 4 ∷ [])))
decode_rows = refl

mean_row : job_of_words (codes "mean" ∷ codes "a.src" ∷ codes "-" ∷ []) ≡ Some (Mean (whole_word 1) None Desk 1000000)
mean_row = refl

-- options stand before, between and after operands
options_row : job_of_words (codes "mean" ∷ codes "--steps=7" ∷ codes "a.src" ∷ codes "--set=hall" ∷ codes "b" ∷ [])
    ≡ Some (Mean (whole_word 2) (Some (whole_word 4)) Hall 7)
options_row = refl

-- the greatest limit, and the least with nine zeros in front
limit_rows : map job_of_words (
    (codes "mean" ∷ codes "a" ∷ codes "-" ∷ codes "--steps=1000000000" ∷ [])
    ∷ (codes "mean" ∷ codes "a" ∷ codes "-" ∷ codes "--steps=0000000001" ∷ [])
    ∷ []) ≡ Some (Mean (whole_word 1) None Desk 1000000000) ∷ Some (Mean (whole_word 1) None Desk 1) ∷ []
limit_rows = refl

-- ---- usage faults
no_words : map job_of_words ([] ∷ (codes "help" ∷ []) ∷ []) ≡ None ∷ None ∷ []
no_words = refl

-- words in another order, and what names no file
run_faults : map job_of_words (
    (codes "run" ∷ codes "a.src" ∷ codes "-" ∷ [])
    ∷ (codes "run" ∷ codes "-" ∷ codes "-" ∷ codes "--set=pocket" ∷ [])
    ∷ (codes "run" ∷ codes "--a" ∷ codes "-" ∷ codes "--set=pocket" ∷ [])
    ∷ (codes "run" ∷ [] ∷ codes "-" ∷ codes "--set=pocket" ∷ [])
    ∷ (codes "run" ∷ codes "a.src" ∷ codes "--set=pocket" ∷ codes "-" ∷ [])
    ∷ []) ≡ replicate 5 None
run_faults = refl

-- operands none, too few and too many, `-` for an object, a set, an option twice, a limit of 0 and one past the greatest
exec_faults : map job_of_words (
    (codes "exec" ∷ [])
    ∷ (codes "exec" ∷ codes "a" ∷ [])
    ∷ (codes "exec" ∷ codes "a" ∷ codes "b" ∷ codes "c" ∷ [])
    ∷ (codes "exec" ∷ codes "-" ∷ codes "-" ∷ [])
    ∷ (codes "exec" ∷ codes "a" ∷ codes "-" ∷ codes "--set=desk" ∷ [])
    ∷ (codes "exec" ∷ codes "a" ∷ codes "-" ∷ codes "--steps=7" ∷ codes "--steps=7" ∷ [])
    ∷ (codes "exec" ∷ codes "a" ∷ codes "-" ∷ codes "--steps=0" ∷ [])
    ∷ (codes "exec" ∷ codes "a" ∷ codes "-" ∷ codes "--steps=1000000001" ∷ [])
    ∷ []) ≡ replicate 8 None
exec_faults = refl

-- faults that name no file, a name without its value, an option twice, and names that begin alike
faults_faults : map job_of_words (
    (codes "exec" ∷ codes "a" ∷ codes "-" ∷ codes "--faults=" ∷ [])
    ∷ (codes "exec" ∷ codes "a" ∷ codes "-" ∷ codes "--faults=-" ∷ [])
    ∷ (codes "exec" ∷ codes "a" ∷ codes "-" ∷ codes "--faults" ∷ [])
    ∷ (codes "exec" ∷ codes "a" ∷ codes "-" ∷ codes "--faults" ∷ codes "f" ∷ [])
    ∷ (codes "exec" ∷ codes "a" ∷ codes "-" ∷ codes "--faults=a" ∷ codes "--faults=b" ∷ [])
    ∷ (codes "exec" ∷ codes "a" ∷ codes "-" ∷ codes "--faults=a" ∷ codes "--faults=a" ∷ [])
    ∷ (codes "exec" ∷ codes "a" ∷ codes "-" ∷ codes "--faultsx=a" ∷ [])
    ∷ (codes "exec" ∷ codes "a" ∷ codes "-" ∷ codes "--fault=a" ∷ [])
    ∷ (codes "exec" ∷ codes "a" ∷ codes "--faults=f" ∷ [])
    ∷ []) ≡ replicate 9 None
faults_faults = refl

set_faults : map job_of_words (
    (codes "set" ∷ [])
    ∷ (codes "set" ∷ codes "des" ∷ [])
    ∷ (codes "set" ∷ codes "desk" ∷ codes "desk" ∷ [])
    ∷ []) ≡ replicate 3 None
set_faults = refl

-- one past the range on both sides; two minuses; a minus and nothing, nothing, and forty digits
encode_faults : map job_of_words (
    (codes "encode" ∷ codes "pocket" ∷ [])
    ∷ (codes "encode" ∷ codes "pocket" ∷ codes "98" ∷ [])
    ∷ (codes "encode" ∷ codes "pocket" ∷ codes "-98" ∷ [])
    ∷ (codes "encode" ∷ codes "pocket" ∷ codes "--5" ∷ [])
    ∷ (codes "encode" ∷ codes "pocket" ∷ codes "-" ∷ [])
    ∷ (codes "encode" ∷ codes "pocket" ∷ [] ∷ [])
    ∷ (codes "encode" ∷ codes "desk" ∷ codes "451727098180" ∷ [])
    ∷ (codes "encode" ∷ codes "pocket" ∷ codes "0000000000000000000000000000000000000000" ∷ [])
    ∷ []) ≡ replicate 8 None
encode_faults = refl

-- a residue too few and too many, one that is its modulus, eleven digits, a minus, nothing
decode_faults : map job_of_words (
    (codes "decode" ∷ [])
    ∷ (codes "decode" ∷ codes "pocket" ∷ codes "3" ∷ codes "12" ∷ codes "10" ∷ codes "8" ∷ [])
    ∷ (codes "decode" ∷ codes "pocket" ∷ codes "3" ∷ codes "12" ∷ codes "10" ∷ codes "8" ∷ codes "4" ∷ codes "0" ∷ [])
    ∷ (codes "decode" ∷ codes "pocket" ∷ codes "13" ∷ codes "12" ∷ codes "10" ∷ codes "8" ∷ codes "4" ∷ [])
    ∷ (codes "decode" ∷ codes "pocket" ∷ codes "3" ∷ codes "12" ∷ codes "10" ∷ codes "8" ∷ codes "00000000004" ∷ [])
    ∷ (codes "decode" ∷ codes "pocket" ∷ codes "-3" ∷ codes "12" ∷ codes "10" ∷ codes "8" ∷ codes "4" ∷ [])
    ∷ (codes "decode" ∷ codes "pocket" ∷ [] ∷ codes "12" ∷ codes "10" ∷ codes "8" ∷ codes "4" ∷ [])
    ∷ []) ≡ replicate 7 None
decode_faults = refl

-- a name of an option is matched whole: longer and shorter ones, a name without its value, values that name no set,
-- and a flag of another command
near_options : map job_of_words (
    (codes "mean" ∷ codes "a" ∷ codes "-" ∷ codes "--setx=desk" ∷ [])
    ∷ (codes "mean" ∷ codes "a" ∷ codes "-" ∷ codes "--se=desk" ∷ [])
    ∷ (codes "mean" ∷ codes "a" ∷ codes "-" ∷ codes "--set" ∷ [])
    ∷ (codes "mean" ∷ codes "a" ∷ codes "-" ∷ codes "--set" ∷ codes "desk" ∷ [])
    ∷ (codes "mean" ∷ codes "a" ∷ codes "-" ∷ codes "--set=" ∷ [])
    ∷ (codes "mean" ∷ codes "a" ∷ codes "-" ∷ codes "--set==desk" ∷ [])
    ∷ (codes "mean" ∷ codes "a" ∷ codes "-" ∷ codes "--set=desk=" ∷ [])
    ∷ (codes "mean" ∷ codes "a" ∷ codes "-" ∷ codes "--steps2=1" ∷ [])
    ∷ (codes "mean" ∷ codes "a" ∷ codes "-" ∷ codes "--steps" ∷ [])
    ∷ (codes "mean" ∷ codes "a" ∷ codes "-" ∷ codes "--journalx" ∷ [])
    ∷ (codes "mean" ∷ codes "a" ∷ codes "-" ∷ codes "--=desk" ∷ [])
    ∷ []) ≡ replicate 11 None
near_options = refl

-- operands too few and too many, `-` for a source, an option twice, a limit of 0 and one past the greatest, options of
-- other commands
mean_faults : map job_of_words (
    (codes "mean" ∷ [])
    ∷ (codes "mean" ∷ codes "a" ∷ [])
    ∷ (codes "mean" ∷ codes "a" ∷ codes "b" ∷ codes "c" ∷ [])
    ∷ (codes "mean" ∷ codes "-" ∷ codes "-" ∷ [])
    ∷ (codes "mean" ∷ codes "a" ∷ [] ∷ [])
    ∷ (codes "mean" ∷ codes "a" ∷ codes "-" ∷ codes "--set=desk" ∷ codes "--set=desk" ∷ [])
    ∷ (codes "mean" ∷ codes "a" ∷ codes "-" ∷ codes "--set=tiny" ∷ [])
    ∷ (codes "mean" ∷ codes "a" ∷ codes "-" ∷ codes "--steps=" ∷ [])
    ∷ (codes "mean" ∷ codes "a" ∷ codes "-" ∷ codes "--steps=0" ∷ [])
    ∷ (codes "mean" ∷ codes "a" ∷ codes "-" ∷ codes "--steps=1000000001" ∷ [])
    ∷ (codes "mean" ∷ codes "a" ∷ codes "-" ∷ codes "--steps=00000000001" ∷ [])
    ∷ (codes "mean" ∷ codes "a" ∷ codes "-" ∷ codes "--journal" ∷ [])
    ∷ (codes "mean" ∷ codes "a" ∷ codes "-" ∷ codes "--faults=f" ∷ [])
    ∷ (codes "mean" ∷ codes "a" ∷ codes "-" ∷ codes "--" ∷ [])
    ∷ []) ≡ replicate 14 None
mean_faults = refl
