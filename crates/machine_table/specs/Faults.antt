-- The rules of objects, and the first that a program breaks.
use Rattle.std.specs.Prelude.{ℕ, ◌+◌, ◌≤◌, ℤ, pos, neg_ℤ, Bool, false, not, ◌&&◌, ◌||◌, nat_lt, nat_eq, int_le, List, [], ◌∷◌, All, length, Option, Some, None, if◌then◌else◌}
use Rattle.moduli_sets.specs.Set.{ModuliSet, IsInRange, range_bound}
use Rattle.machine_table.specs.declared.fault.ObjectFault.{ObjectFault}
use Rattle.machine_table.specs.declared.fault.ObjectFault.TheVariants.{TooMuchCode, TooMuchData, BadRegister, BadTarget, BadAddress, BadConstant, BadDatum}
use Rattle.machine_table.specs.declared.instr.Instr.{Instr}
use Rattle.machine_table.specs.Operands.{Operand, register, constant, interval, address, block, target, channel, kind, operands_of, Shape, IsSoundOperand}

-- the most instructions, and the most data words
abbrev pub most_instructions : ℕ
most_instructions = 65536

abbrev pub most_words : ℕ
most_words = 65536

-- the shape of a program
abbrev pub shape_of : ModuliSet → List Instr → List ℤ → Shape
shape_of set code words = record { set = set; instructions = length code; words = length words }

-- a program of which all that is named exists
pub record IsSound (set : ModuliSet) (code : List Instr) (words : List ℤ) : Type 0 where
  pub code_fits : length code ≤ most_instructions
  pub words_fit : length words ≤ most_words
  pub operands : All (λ instr. All (IsSoundOperand (shape_of set code words)) (operands_of instr)) code
  pub in_range : All (IsInRange set) words

-- ---- what is bad of an operand
abbrev pub is_outside : ModuliSet → ℤ → Bool
is_outside set x = not (int_le (neg_ℤ (pos (range_bound set))) x && int_le x (pos (range_bound set)))

abbrev pub is_bad_register : Shape → Operand → Bool
is_bad_register shape (register r) = nat_lt 15 r
is_bad_register shape (constant x) = false
is_bad_register shape (interval low high) = false
is_bad_register shape (address p) = false
is_bad_register shape (block p q) = false
is_bad_register shape (target p) = false
is_bad_register shape (channel s) = false
is_bad_register shape (kind k) = false

abbrev pub is_bad_target : Shape → Operand → Bool
is_bad_target shape (register r) = false
is_bad_target shape (constant x) = false
is_bad_target shape (interval low high) = false
is_bad_target shape (address p) = false
is_bad_target shape (block p q) = false
is_bad_target shape (target p) = nat_lt shape.instructions p
is_bad_target shape (channel s) = false
is_bad_target shape (kind k) = false

abbrev pub is_bad_address : Shape → Operand → Bool
is_bad_address shape (register r) = false
is_bad_address shape (constant x) = false
is_bad_address shape (interval low high) = false
is_bad_address shape (address p) = not (nat_lt p shape.words)
is_bad_address shape (block p q) = nat_eq q 0 || nat_lt shape.words (p + q)
is_bad_address shape (target p) = false
is_bad_address shape (channel s) = false
is_bad_address shape (kind k) = false

abbrev pub is_bad_constant : Shape → Operand → Bool
is_bad_constant shape (register r) = false
is_bad_constant shape (constant x) = is_outside shape.set x
is_bad_constant shape (interval low high) = is_outside shape.set low || is_outside shape.set high || not (int_le low high)
is_bad_constant shape (address p) = false
is_bad_constant shape (block p q) = false
is_bad_constant shape (target p) = false
is_bad_constant shape (channel s) = not (nat_lt s shape.set.info)
is_bad_constant shape (kind k) = nat_lt 6 k

-- ---- the first fault of an instruction, of the code, of the data, of a program
-- a test holds of some operand
abbrev pub some_is : (Operand → Bool) → List Operand → Bool
some_is is_bad [] = false
some_is is_bad (operand ∷ operands) = is_bad operand || some_is is_bad operands

-- the fault where it does, or else what comes next
abbrev pub fault_where : (Operand → Bool) → List Operand → ObjectFault → Option ObjectFault → Option ObjectFault
fault_where is_bad operands fault next = if some_is is_bad operands then Some fault else next

abbrev pub operands_fault : Shape → List Operand → ℕ → Option ObjectFault
operands_fault shape operands n =
    fault_where (is_bad_register shape) operands (BadRegister n)
    (fault_where (is_bad_target shape) operands (BadTarget n)
    (fault_where (is_bad_address shape) operands (BadAddress n)
    (fault_where (is_bad_constant shape) operands (BadConstant n) None)))

-- the first of two faults
abbrev pub or_fault : Option ObjectFault → Option ObjectFault → Option ObjectFault
or_fault (Some fault) next = Some fault
or_fault None next = next

-- of the instructions from number n on
abbrev pub code_fault : Shape → ℕ → List Instr → Option ObjectFault
code_fault shape n [] = None
code_fault shape n (instr ∷ code) = or_fault (operands_fault shape (operands_of instr) n) (code_fault shape (n + 1) code)

-- of the data words from number n on
abbrev pub words_fault : ModuliSet → ℕ → List ℤ → Option ObjectFault
words_fault set n [] = None
words_fault set n (x ∷ words) = if is_outside set x then Some (BadDatum n) else words_fault set (n + 1) words

abbrev pub object_fault : ModuliSet → List Instr → List ℤ → Option ObjectFault
object_fault set code words =
    if nat_lt most_instructions (length code) then Some TooMuchCode
    else if nat_lt most_words (length words) then Some TooMuchData
    else or_fault (code_fault (shape_of set code words) 0 code) (words_fault set 0 words)
