-- Worked rows: the first rule that a program for `pocket` breaks. Its range is -97 to 97 and it has 2 information channels.
use Rattle.std.proofs.Common.{◌≡◌, ℤ, pos, negsuc, List, [], ◌∷◌, length, map, Option, Some, None, refl}
use Rattle.moduli_sets.specs.declared.set_name.SetName.TheVariants.{Pocket}
use Rattle.moduli_sets.specs.Name.{set_of_name}
use Rattle.machine_table.specs.declared.fault.ObjectFault.{ObjectFault}
use Rattle.machine_table.specs.declared.fault.ObjectFault.TheVariants.{TooMuchCode, TooMuchData, BadRegister, BadTarget, BadAddress, BadConstant, BadDatum}
use Rattle.machine_table.specs.declared.instr.Instr.{Instr}
use Rattle.machine_table.specs.declared.instr.Instr.TheVariants.{Halt, Ldi, Ld, St, Ldx, Stx, Mov, Mac, Div, Scl, Jmp, Blt, Beq, Chk, In, Out, Call, Trp}
use Rattle.machine_table.specs.Faults.{object_fault}

-- of one instruction in a program with four data words
abbrev alone : Instr → Option ObjectFault
alone instr = object_fault (set_of_name Pocket) (instr ∷ []) (pos 0 ∷ (pos 0 ∷ (pos 0 ∷ (pos 0 ∷ []))))

-- ---- one instruction
-- 15 is a register, 16 is none, wherever it stands
register_rows : map alone (Out 15 ∷ (Out 16 ∷ (Mov 0 15 ∷ (Mov 0 16 ∷ (Mov 16 0 ∷ (Mac 15 15 15 ∷ (Mac 0 0 16 ∷ (Div 0 16 0 1 ∷ []))))))))
    ≡ None ∷ (Some (BadRegister 0) ∷ (None ∷ (Some (BadRegister 0) ∷ (Some (BadRegister 0) ∷ (None ∷ (Some (BadRegister 0) ∷ (Some (BadRegister 0) ∷ [])))))))
register_rows = refl

-- the place after the last instruction is a target, the one after it is none
target_rows : map alone (Jmp 0 ∷ (Jmp 1 ∷ (Jmp 2 ∷ (Blt 0 0 2 ∷ (Beq 0 0 1 ∷ (Call 2 9 ∷ []))))))
    ≡ None ∷ (None ∷ (Some (BadTarget 0) ∷ (Some (BadTarget 0) ∷ (None ∷ (Some (BadTarget 0) ∷ [])))))
target_rows = refl

-- the last data word, and the one past it
address_rows : map alone (Ld 0 3 ∷ (Ld 0 4 ∷ (St 0 3 ∷ (St 0 4 ∷ []))))
    ≡ None ∷ (Some (BadAddress 0) ∷ (None ∷ (Some (BadAddress 0) ∷ [])))
address_rows = refl

-- all words, one word more, the last word alone, one past the end, an empty block, and a length that is no number of words
block_rows : map alone (Ldx 0 0 0 4 9 ∷ (Ldx 0 0 0 5 9 ∷ (Stx 0 0 3 1 9 ∷ (Stx 0 0 3 2 9 ∷ (Ldx 0 0 4 1 9 ∷ (Stx 0 0 0 0 9 ∷ (Ldx 0 0 4 0 9 ∷ (Ldx 0 0 1 4294967295 9 ∷ []))))))))
    ≡ None ∷ (Some (BadAddress 0) ∷ (None ∷ (Some (BadAddress 0) ∷ (Some (BadAddress 0) ∷ (Some (BadAddress 0) ∷ (Some (BadAddress 0) ∷ (Some (BadAddress 0) ∷ [])))))))
block_rows = refl

-- the ends of the range, and one past each
constant_rows : map alone (Ldi 0 (pos 97) ∷ (Ldi 0 (pos 98) ∷ (Ldi 0 (negsuc 96) ∷ (Ldi 0 (negsuc 97) ∷ []))))
    ≡ None ∷ (Some (BadConstant 0) ∷ (None ∷ (Some (BadConstant 0) ∷ [])))
constant_rows = refl

-- the whole range, one integer, an empty interval, and one end past the range
interval_rows : map alone (Chk 0 (negsuc 96) (pos 97) 9 ∷ (Chk 0 (pos 4) (pos 4) 9 ∷ (Chk 0 (pos 5) (pos 4) 9 ∷ (Chk 0 (negsuc 97) (pos 0) 9 ∷ (In 0 (pos 0) (pos 98) 9 ∷ (In 0 (pos 0) (negsuc 0) 9 ∷ []))))))
    ≡ None ∷ (None ∷ (Some (BadConstant 0) ∷ (Some (BadConstant 0) ∷ (Some (BadConstant 0) ∷ (Some (BadConstant 0) ∷ [])))))
interval_rows = refl

-- the information channels, and the first redundant one; the last kind of trap, and one past it
channel_and_kind_rows : map alone (Scl 0 0 0 ∷ (Scl 0 0 1 ∷ (Scl 0 0 2 ∷ (Trp 6 9 ∷ (Trp 7 9 ∷ [])))))
    ≡ None ∷ (None ∷ (Some (BadConstant 0) ∷ (None ∷ (Some (BadConstant 0) ∷ []))))
channel_and_kind_rows = refl

-- a register's fault comes before that of the other operand
register_first_rows : map alone (Blt 16 0 2 ∷ (Beq 0 16 2 ∷ (Ld 16 4 ∷ (Ldi 16 (pos 98) ∷ (Scl 0 16 2 ∷ [])))))
    ≡ Some (BadRegister 0) ∷ (Some (BadRegister 0) ∷ (Some (BadRegister 0) ∷ (Some (BadRegister 0) ∷ (Some (BadRegister 0) ∷ []))))
register_first_rows = refl

-- ---- programs
-- no instruction and no data word are a program; a place after the last of two is a target
empty_program : object_fault (set_of_name Pocket) [] [] ≡ None
empty_program = refl

two_instructions : object_fault (set_of_name Pocket) (Jmp 2 ∷ (Jmp 3 ∷ [])) [] ≡ Some (BadTarget 1)
two_instructions = refl

-- the first instruction counts, whatever its fault
first_instruction : object_fault (set_of_name Pocket) (Halt ∷ (Ldi 0 (pos 98) ∷ (Out 16 ∷ []))) [] ≡ Some (BadConstant 1)
first_instruction = refl

-- code comes before data, and of the data the first word
code_before_data : object_fault (set_of_name Pocket) (Out 16 ∷ []) (pos 98 ∷ []) ≡ Some (BadRegister 0)
code_before_data = refl

first_word : object_fault (set_of_name Pocket) (Halt ∷ []) (negsuc 96 ∷ (pos 98 ∷ (negsuc 97 ∷ []))) ≡ Some (BadDatum 1)
first_word = refl

-- too many instructions come before too many data words, and these before all else
too_long : (code : List Instr) (words : List ℤ) → length code ≡ 65537 → object_fault (set_of_name Pocket) code words ≡ Some TooMuchCode
too_long code words e = rw e refl

too_wide : (words : List ℤ) → length words ≡ 65537 → object_fault (set_of_name Pocket) (Out 16 ∷ []) words ≡ Some TooMuchData
too_wide words e = rw e refl
