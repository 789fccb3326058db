-- Worked rows: what programs for `pocket` print over plain integers, and how they end. The range is -97 to 97.
use Rattle.std.proofs.Common.{◌≡◌, ℕ, ℤ, pos, negsuc, List, [], ◌∷◌, map, refl}
use Rattle.moduli_sets.specs.declared.kind.Kind.TheVariants.{Zero, Range, Index, InputEnd, InputRange, Turns, Stack}
use Rattle.moduli_sets.specs.declared.set_name.SetName.TheVariants.{Pocket}
use Rattle.moduli_sets.specs.Name.{set_of_name}
use Rattle.machine_table.specs.declared.instr.Instr.{Instr}
use Rattle.machine_table.specs.declared.instr.Instr.TheVariants.{Halt, Ldi, Ld, St, Ldx, Stx, Mov, Add, Sub, Mul, Neg, Mac, Div, Mod, Scl, Jmp, Blt, Beq, Chk, In, Out, Call, Ret, Trp}
use Rattle.machine_table.specs.Integers.{integer_run, printed_by, IntegerEnding, halt, trap, out_of_range, spent, ending_of}

-- the prints and the ending of at most n instructions, with data words and an input
abbrev runs : List ℤ → List ℤ → ℕ → List Instr → List ℤ × IntegerEnding
runs words input n code = let run = integer_run (set_of_name Pocket) code words n input in (printed_by run, ending_of run)

-- with no data, no input and room for every row
abbrev run_of : List Instr → List ℤ × IntegerEnding
run_of code = runs [] [] 100 code

-- ---- division
-- the quotient and the remainder of two integers
abbrev divided : ℤ × ℤ → List ℤ × IntegerEnding
divided xs = run_of (Ldi 0 xs.0 ∷ (Ldi 1 xs.1 ∷ (Div 2 0 1 7 ∷ (Out 2 ∷ (Mod 2 0 1 8 ∷ (Out 2 ∷ []))))))

-- 7 and -7 by 2 and -2: the floor, and what it leaves, with the sign of the divisor
sign_rows : map divided ((pos 7, pos 2) ∷ ((negsuc 6, pos 2) ∷ ((pos 7, negsuc 1) ∷ ((negsuc 6, negsuc 1) ∷ []))))
    ≡ (pos 3 ∷ (pos 1 ∷ []), halt) ∷ ((negsuc 3 ∷ (pos 1 ∷ []), halt) ∷ ((negsuc 3 ∷ (negsuc 0 ∷ []), halt) ∷ ((pos 3 ∷ (negsuc 0 ∷ []), halt) ∷ [])))
sign_rows = refl

-- quotients that are whole, of 0, and at the ends of the range
whole_rows : map divided ((negsuc 5, pos 3) ∷ ((pos 6, negsuc 2) ∷ ((pos 0, negsuc 4) ∷ ((negsuc 96, negsuc 0) ∷ ((pos 97, negsuc 96) ∷ [])))))
    ≡ (negsuc 1 ∷ (pos 0 ∷ []), halt) ∷ ((negsuc 1 ∷ (pos 0 ∷ []), halt) ∷ ((pos 0 ∷ (pos 0 ∷ []), halt) ∷ ((pos 97 ∷ (pos 0 ∷ []), halt) ∷ ((negsuc 0 ∷ (pos 0 ∷ []), halt) ∷ []))))
whole_rows = refl

zero_rows : map run_of ((Ldi 0 (pos 7) ∷ (Div 0 0 1 4 ∷ [])) ∷ ((Ldi 0 (pos 7) ∷ (Mod 0 0 1 5 ∷ [])) ∷ []))
    ≡ ([], trap Zero 4) ∷ (([], trap Zero 5) ∷ [])
zero_rows = refl

-- -97 by 13, the modulus of channel 0, and by 15, that of channel 1; 97 by 13
scale_rows : map run_of ((Ldi 0 (negsuc 96) ∷ (Scl 1 0 0 ∷ (Out 1 ∷ (Scl 0 0 1 ∷ (Out 0 ∷ []))))) ∷ ((Ldi 0 (pos 97) ∷ (Scl 0 0 0 ∷ (Out 0 ∷ []))) ∷ []))
    ≡ (negsuc 7 ∷ (negsuc 6 ∷ []), halt) ∷ ((pos 7 ∷ [], halt) ∷ [])
scale_rows = refl

-- ---- sums and products
-- R(0) is 5 and R(1) is -7
abbrev computed : Instr → List ℤ × IntegerEnding
computed instr = run_of (Ldi 0 (pos 5) ∷ (Ldi 1 (negsuc 6) ∷ (instr ∷ (Out 0 ∷ []))))

arithmetic_rows : map computed (Mov 0 1 ∷ (Add 0 0 1 ∷ (Sub 0 0 1 ∷ (Sub 0 1 0 ∷ (Mul 0 0 1 ∷ (Neg 0 1 ∷ (Mac 0 1 1 ∷ [])))))))
    ≡ (negsuc 6 ∷ [], halt) ∷ ((negsuc 1 ∷ [], halt) ∷ ((pos 12 ∷ [], halt) ∷ ((negsuc 11 ∷ [], halt) ∷ ((negsuc 34 ∷ [], halt) ∷ ((pos 7 ∷ [], halt) ∷ ((pos 54 ∷ [], halt) ∷ []))))))
arithmetic_rows = refl

-- R(0) is 97, the greatest integer, and R(1) is -1
abbrev at_the_end : Instr → List ℤ × IntegerEnding
at_the_end instr = run_of (Ldi 0 (pos 97) ∷ (Ldi 1 (negsuc 0) ∷ (instr ∷ (Out 0 ∷ []))))

-- one past each end of the range; of MAC the sum alone must be in range: 97 * -1 + 97 and 97 * 97 + 97
end_rows : map at_the_end (Add 0 0 1 ∷ (Sub 0 0 1 ∷ (Mul 0 0 1 ∷ (Mul 0 0 0 ∷ (Mac 0 0 1 ∷ (Mac 0 0 0 ∷ []))))))
    ≡ (pos 96 ∷ [], halt) ∷ (([], out_of_range) ∷ ((negsuc 96 ∷ [], halt) ∷ (([], out_of_range) ∷ ((pos 0 ∷ [], halt) ∷ (([], out_of_range) ∷ [])))))
end_rows = refl

-- 10 * 10 - 3 is in range, though the product isn't
product_past_the_end : run_of (Ldi 0 (negsuc 2) ∷ (Ldi 1 (pos 10) ∷ (Mac 0 1 1 ∷ (Out 0 ∷ [])))) ≡ (pos 97 ∷ [], halt)
product_past_the_end = refl

-- ---- data words
-- words 1 and 2 of 5 6 7 8, by the index in R(0)
abbrev indexed : ℤ → List ℤ × IntegerEnding
indexed x = runs (pos 5 ∷ (pos 6 ∷ (pos 7 ∷ (pos 8 ∷ [])))) [] 100 (Ldi 0 x ∷ (Ldx 1 0 1 2 9 ∷ (Out 1 ∷ [])))

index_rows : map indexed (pos 0 ∷ (pos 1 ∷ (pos 2 ∷ (negsuc 0 ∷ []))))
    ≡ (pos 6 ∷ [], halt) ∷ ((pos 7 ∷ [], halt) ∷ (([], trap Index 9) ∷ (([], trap Index 9) ∷ [])))
index_rows = refl

-- 3 goes to word 2 by the index 1; words 1 and 3 stay. Then a word goes by its address
stored_rows : map (runs (pos 5 ∷ (pos 6 ∷ (pos 7 ∷ (pos 8 ∷ [])))) [] 100) (
    (Ldi 0 (pos 3) ∷ (Ldi 1 (pos 1) ∷ (Stx 0 1 1 2 9 ∷ (Ld 2 1 ∷ (Out 2 ∷ (Ld 2 2 ∷ (Out 2 ∷ (Ld 2 3 ∷ (Out 2 ∷ [])))))))))
    ∷ ((Ldi 1 (pos 2) ∷ (Stx 0 1 1 2 9 ∷ [])) ∷ ((Ld 0 3 ∷ (St 0 0 ∷ (Ld 1 0 ∷ (Out 1 ∷ [])))) ∷ [])))
    ≡ (pos 6 ∷ (pos 3 ∷ (pos 8 ∷ [])), halt) ∷ (([], trap Index 9) ∷ ((pos 8 ∷ [], halt) ∷ []))
stored_rows = refl

-- ---- control
-- R(0) against R(1): where the test holds 1 is printed as well
abbrev compared : (ℕ → Instr) → ℤ × ℤ → List ℤ × IntegerEnding
compared instr xs = run_of (Ldi 0 xs.0 ∷ (Ldi 1 xs.1 ∷ (Ldi 2 (pos 1) ∷ (instr 5 ∷ (Jmp 6 ∷ (Out 2 ∷ (Out 0 ∷ [])))))))

less_rows : map (compared (Blt 0 1)) ((negsuc 1, negsuc 0) ∷ ((pos 4, pos 4) ∷ ((pos 5, negsuc 5) ∷ [])))
    ≡ (pos 1 ∷ (negsuc 1 ∷ []), halt) ∷ ((pos 4 ∷ [], halt) ∷ ((pos 5 ∷ [], halt) ∷ []))
less_rows = refl

equal_rows : map (compared (Beq 0 1)) ((negsuc 1, negsuc 0) ∷ ((pos 4, pos 4) ∷ ((pos 5, negsuc 4) ∷ [])))
    ≡ (negsuc 1 ∷ [], halt) ∷ ((pos 1 ∷ (pos 4 ∷ []), halt) ∷ ((pos 5 ∷ [], halt) ∷ []))
equal_rows = refl

-- the ends of an interval are in it
abbrev checked : ℤ → List ℤ × IntegerEnding
checked x = run_of (Ldi 0 x ∷ (Chk 0 (negsuc 1) (pos 3) 9 ∷ (Out 0 ∷ [])))

interval_rows : map checked (negsuc 1 ∷ (pos 3 ∷ (negsuc 2 ∷ (pos 4 ∷ []))))
    ≡ (negsuc 1 ∷ [], halt) ∷ ((pos 3 ∷ [], halt) ∷ (([], trap Range 9) ∷ (([], trap Range 9) ∷ [])))
interval_rows = refl

-- numbers are taken in order, the ends of the interval too; one out of range, and none left
input_rows : map (λ input. runs [] input 100 (In 0 (pos 0) (pos 9) 4 ∷ (In 1 (pos 0) (pos 9) 5 ∷ (Out 1 ∷ (Out 0 ∷ [])))))
    ((pos 0 ∷ (pos 9 ∷ [])) ∷ ((pos 3 ∷ (pos 10 ∷ [])) ∷ ((negsuc 0 ∷ []) ∷ ((pos 3 ∷ []) ∷ []))))
    ≡ (pos 9 ∷ (pos 0 ∷ []), halt) ∷ (([], trap InputRange 5) ∷ (([], trap InputRange 4) ∷ (([], trap InputEnd 5) ∷ [])))
input_rows = refl

-- what is called returns to the instruction after the call; nothing is left to return to
call_rows : map run_of ((Call 3 9 ∷ (Out 0 ∷ (Halt ∷ (Ldi 0 (pos 5) ∷ (Ret 8 ∷ []))))) ∷ ((Ret 8 ∷ []) ∷ ((Call 1 9 ∷ (Ret 8 ∷ [])) ∷ [])))
    ≡ (pos 5 ∷ [], halt) ∷ (([], trap Stack 8) ∷ (([], trap Stack 8) ∷ []))
call_rows = refl

-- 64 return places are held, and no more
depth_rows : map (λ n. runs [] [] n (Call 0 9 ∷ [])) (64 ∷ (65 ∷ [])) ≡ ([], spent) ∷ (([], trap Stack 9) ∷ [])
depth_rows = refl

trap_rows : map (λ k. run_of (Trp k 3 ∷ [])) (0 ∷ (1 ∷ (2 ∷ (3 ∷ (4 ∷ (5 ∷ (6 ∷ [])))))))
    ≡ ([], trap Zero 3) ∷ (([], trap Range 3) ∷ (([], trap Index 3) ∷ (([], trap InputEnd 3) ∷ (([], trap InputRange 3) ∷ (([], trap Turns 3) ∷ (([], trap Stack 3) ∷ []))))))
trap_rows = refl

-- a counter past the last instruction halts, and that counts as an instruction
past_the_end_rows : map (λ n. runs [] [] n (Out 0 ∷ (Jmp 2 ∷ []))) (0 ∷ (2 ∷ (3 ∷ [])))
    ≡ ([], spent) ∷ ((pos 0 ∷ [], spent) ∷ ((pos 0 ∷ [], halt) ∷ []))
past_the_end_rows = refl
