-- Worked rows: programs and their bytes, and the first fault of bytes.
use Rattle.std.proofs.Common.{◌≡◌, ℕ, ◌-◌, pos, negsuc, List, [], ◌∷◌, ◌++◌, length, map, take, Option, Some, None, refl}
use Rattle.std.specs.Prelude.{codes, replicate}
use Rattle.moduli_sets.specs.declared.set_name.SetName.TheVariants.{Pocket, Desk, Hall}
use Rattle.machine_table.specs.declared.fault.ObjectFault.TheVariants.{TooMuchCode, TooMuchData, BadRegister, BadTarget, BadDatum}
use Rattle.machine_table.specs.declared.instr.Instr.TheVariants.{Halt, Ldi, Ldx, Scl, Chk, Out, Div}
use Rattle.object_bytes.specs.declared.fault.LoadFault.{LoadFault}
use Rattle.object_bytes.specs.declared.fault.LoadFault.TheVariants.{Short, BadMagic, BadVersion, BadSet, Long, BadRecord, Unsound}
use Rattle.object_bytes.specs.Layout.{layout_fault, record_fault}
use Rattle.object_bytes.specs.Loading.{code_from, counts_fault, header_fault, load_fault, prefix_fault, program_in, records_fault, words_from}
use Rattle.object_bytes.specs.Record.{fields_bytes, instr_in}
use Rattle.object_bytes.specs.Spelling.{bytes_of}

-- the header of a set with few instructions and data words; 16 bytes of 0, of a small number, and of one above -257; a record
abbrev head : ℕ → ℕ → ℕ → List ℕ
head set n m = codes "RNMO" ++ (1 ∷ set ∷ 0 ∷ 0 ∷ 0 ∷ 0 ∷ 0 ∷ n ∷ 0 ∷ 0 ∷ 0 ∷ m ∷ [])

abbrev none : List ℕ
none = replicate 16 0

abbrev small : ℕ → List ℕ
small x = replicate 15 0 ++ (x ∷ [])

abbrev below_zero : ℕ → List ℕ
below_zero x = replicate 15 255 ++ (x ∷ [])

abbrev row : ℕ → ℕ → ℕ → ℕ → ℕ → List ℕ → List ℕ → List ℕ
row number a b c line p q = (number ∷ a ∷ b ∷ c ∷ 0 ∷ 0 ∷ 0 ∷ line ∷ []) ++ p ++ q

-- ---- both ways
-- print 42; end. -42 by 13, the modulus of channel 0. 97 by -5, with the line of the division
out_42 : bytes_of Pocket (Ldi 0 (pos 42) ∷ (Out 0 ∷ [])) [] ≡ head 1 2 0 ++ row 1 0 0 0 0 (small 42) none ++ row 20 0 0 0 0 none none
unfolding bytes_of fields_bytes
out_42 = refl

scale : bytes_of Pocket (Ldi 0 (negsuc 41) ∷ (Scl 0 0 0 ∷ (Out 0 ∷ []))) [] ≡ head 1 3 0 ++ row 1 0 0 0 0 (below_zero 214) none ++ row 14 0 0 0 0 none none ++ row 20 0 0 0 0 none none
unfolding bytes_of fields_bytes
scale = refl

divide : bytes_of Pocket (Ldi 0 (pos 97) ∷ (Ldi 1 (negsuc 4) ∷ (Div 0 0 1 1 ∷ []))) []
    ≡ head 1 3 0 ++ row 1 0 0 0 0 (small 97) none ++ row 1 1 0 0 0 (below_zero 251) none ++ row 12 0 0 1 1 none none
unfolding bytes_of fields_bytes
divide = refl

-- a word of data, and of each set the number
data_5 : bytes_of Pocket (Halt ∷ []) (pos 5 ∷ []) ≡ head 1 1 1 ++ row 0 0 0 0 0 none none ++ small 5
unfolding bytes_of fields_bytes
data_5 = refl

empty_programs : map (λ set. bytes_of set [] []) (Pocket ∷ (Desk ∷ (Hall ∷ []))) ≡ head 1 0 0 ∷ head 2 0 0 ∷ head 3 0 0 ∷ []
unfolding bytes_of
empty_programs = refl

-- what is read of an index's block, of an interval and of words, the least of 128 bits among them
abbrev block : List ℕ
block = head 2 2 2 ++ row 4 2 3 0 7 (small 1) (small 9) ++ row 18 15 0 0 255 (below_zero 0) (small 3) ++ small 6 ++ (128 ∷ replicate 15 0)

block_read : program_in block ≡ record {
  set = Desk;
  code = Ldx 2 3 1 9 7 ∷ (Chk 15 (negsuc 255) (pos 3) 255 ∷ []);
  words = pos 6 ∷ (negsuc 170141183460469231731687303715884105727 ∷ []);
}
unfolding program_in code_from words_from instr_in
block_read = refl

-- ---- faults
abbrev out : List ℕ
out = row 20 0 0 0 0 none none

abbrev fine : List ℕ
fine = head 1 2 0 ++ row 1 0 0 0 0 (small 42) none ++ out

abbrev faults : List (List ℕ) → List (Option LoadFault)
faults rows = map load_fault rows

-- whole, cut by one byte, cut in the header, none, and one byte more
length_rows : faults (fine ∷ (take 95 fine ∷ (take 15 fine ∷ ([] ∷ ((fine ++ (0 ∷ [])) ∷ [])))))
    ≡ None ∷ (Some (Short 95) ∷ (Some (Short 15) ∷ (Some (Short 0) ∷ (Some (Long 1) ∷ []))))
unfolding load_fault header_fault prefix_fault counts_fault records_fault record_fault layout_fault program_in code_from words_from instr_in
length_rows = refl

-- the first bytes, the version, the set, the zeros: each before those after it
abbrev begins : List ℕ → List ℕ
begins bytes = bytes ++ replicate (16 - length bytes) 9

header_rows : faults (begins (codes "RNMo") ∷ (begins (codes "RNMO" ++ (2 ∷ [])) ∷ (begins (codes "RNMO" ++ (0 ∷ 1 ∷ [])) ∷ (begins (codes "RNMO" ++ (1 ∷ 0 ∷ []))
    ∷ (begins (codes "RNMO" ++ (1 ∷ 4 ∷ [])) ∷ (begins (codes "RNMO" ++ (1 ∷ 3 ∷ 1 ∷ 1 ∷ [])) ∷ (begins (codes "RNMO" ++ (1 ∷ 3 ∷ 0 ∷ 1 ∷ [])) ∷ [])))))))
    ≡ Some BadMagic ∷ (Some (BadVersion 2) ∷ (Some (BadVersion 0) ∷ (Some (BadSet 0) ∷ (Some (BadSet 4) ∷ (Some (BadRecord 6) ∷ (Some (BadRecord 7) ∷ []))))))
unfolding load_fault header_fault prefix_fault
header_rows = refl

-- 65,537 instructions, and data words, of which none is there: the count comes before the length, and the code before the data.
-- 65,536 are too few bytes
count_rows : map (λ counts. load_fault (codes "RNMO" ++ (1 ∷ 1 ∷ 0 ∷ 0 ∷ []) ++ counts)) (
    (0 ∷ 1 ∷ 0 ∷ 1 ∷ 0 ∷ 1 ∷ 0 ∷ 1 ∷ []) ∷ ((0 ∷ 0 ∷ 0 ∷ 0 ∷ 0 ∷ 1 ∷ 0 ∷ 1 ∷ []) ∷ (replicate 8 255 ∷ ((0 ∷ 1 ∷ 0 ∷ 0 ∷ 0 ∷ 1 ∷ 0 ∷ 0 ∷ []) ∷ []))))
    ≡ Some (Unsound TooMuchCode) ∷ (Some (Unsound TooMuchData) ∷ (Some (Unsound TooMuchCode) ∷ (Some (Short 16) ∷ [])))
unfolding load_fault header_fault prefix_fault counts_fault
count_rows = refl

-- number 24; a register that HALT hasn't; a line that it hasn't, its third byte; the last byte of its q
record_rows : faults (
    (head 1 1 0 ++ row 24 0 0 0 0 none none)
    ∷ ((head 1 1 0 ++ row 0 1 0 0 0 none none)
    ∷ ((head 1 1 0 ++ (0 ∷ 0 ∷ 0 ∷ 0 ∷ 0 ∷ 0 ∷ 1 ∷ 0 ∷ []) ++ none ++ none)
    ∷ ((head 1 1 0 ++ row 0 0 0 0 0 none (small 1)) ∷ []))))
    ≡ Some (BadRecord 16) ∷ (Some (BadRecord 17) ∷ (Some (BadRecord 22) ∷ (Some (BadRecord 55) ∷ [])))
unfolding load_fault header_fault prefix_fault counts_fault records_fault record_fault layout_fault
record_rows = refl

-- a p past 4294967295, told by its first byte; one below 0; a q; an unused byte before it
abbrev two_to_32 : List ℕ
two_to_32 = replicate 11 0 ++ (1 ∷ 0 ∷ 0 ∷ 0 ∷ 0 ∷ [])

kind_rows : faults (
    (head 1 1 0 ++ row 15 0 0 0 0 two_to_32 none)
    ∷ ((head 1 1 0 ++ row 15 0 0 0 0 (replicate 16 255) none)
    ∷ ((head 1 1 0 ++ row 4 0 0 0 0 none two_to_32)
    ∷ ((head 1 1 0 ++ row 2 0 1 0 0 two_to_32 none) ∷ []))))
    ≡ Some (BadRecord 24) ∷ (Some (BadRecord 24) ∷ (Some (BadRecord 40) ∷ (Some (BadRecord 18) ∷ [])))
unfolding load_fault header_fault prefix_fault counts_fault records_fault record_fault layout_fault
kind_rows = refl

-- a register 16 is unsound; a later record comes first; 4294967295 is a target of no program; a word out of range
program_rows : faults (
    (head 1 2 0 ++ row 1 16 0 0 0 (small 42) none ++ out)
    ∷ ((head 1 2 0 ++ row 1 16 0 0 0 (small 42) none ++ row 20 0 1 0 0 none none)
    ∷ ((head 1 1 0 ++ row 15 0 0 0 0 (replicate 12 0 ++ replicate 4 255) none)
    ∷ ((head 1 0 2 ++ small 97 ++ small 98) ∷ []))))
    ≡ Some (Unsound (BadRegister 0)) ∷ (Some (BadRecord 58) ∷ (Some (Unsound (BadTarget 0)) ∷ (Some (Unsound (BadDatum 1)) ∷ [])))
unfolding load_fault header_fault prefix_fault counts_fault records_fault record_fault layout_fault program_in code_from words_from instr_in
program_rows = refl
