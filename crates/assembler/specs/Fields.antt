-- How an instruction is written: its word, and then its fields, one word each.
use Rattle.std.specs.Prelude.{ℕ, ℤ, List, [], ◌∷◌, ◌++◌, codes}
use Rattle.std.specs.List.{flat_map}
use Rattle.machine_table.specs.declared.instr.Instr.{Instr}
use Rattle.machine_table.specs.declared.instr.Instr.TheVariants.{Halt, Ldi, Ld, St, Ldx, Stx, Mov, Add, Sub, Mul, Neg, Mac, Div, Mod, Scl, Jmp, Blt, Beq, Chk, In, Out, Call, Ret, Trp}
use Rattle.machine_table.specs.Operands.{Operand, register, constant, interval, address, block, target, channel, kind, operands_of}

-- the word of an instruction
abbrev pub mnemonic_of : Instr → List ℕ
mnemonic_of Halt = codes "HALT"
mnemonic_of (Ldi a value) = codes "LDI"
mnemonic_of (Ld a p) = codes "LD"
mnemonic_of (St a p) = codes "ST"
mnemonic_of (Ldx a b p q line) = codes "LDX"
mnemonic_of (Stx a b p q line) = codes "STX"
mnemonic_of (Mov a b) = codes "MOV"
mnemonic_of (Add a b c) = codes "ADD"
mnemonic_of (Sub a b c) = codes "SUB"
mnemonic_of (Mul a b c) = codes "MUL"
mnemonic_of (Neg a b) = codes "NEG"
mnemonic_of (Mac a b c) = codes "MAC"
mnemonic_of (Div a b c line) = codes "DIV"
mnemonic_of (Mod a b c line) = codes "MOD"
mnemonic_of (Scl a b s) = codes "SCL"
mnemonic_of (Jmp p) = codes "JMP"
mnemonic_of (Blt a b p) = codes "BLT"
mnemonic_of (Beq a b p) = codes "BEQ"
mnemonic_of (Chk a low high line) = codes "CHK"
mnemonic_of (In a low high line) = codes "IN"
mnemonic_of (Out a) = codes "OUT"
mnemonic_of (Call p line) = codes "CALL"
mnemonic_of (Ret line) = codes "RET"
mnemonic_of (Trp k line) = codes "TRP"

-- What one word after it writes: a register, an integer, a natural number, or the place that a jump goes to.
pub data Field : Type 0 where
  a_register : ℕ → Field
  an_integer : ℤ → Field
  a_natural : ℕ → Field
  a_place : ℕ → Field

-- a block is written by its address and its length, an interval by its two ends
abbrev pub fields_of_operand : Operand → List Field
fields_of_operand (register r) = a_register r ∷ []
fields_of_operand (constant x) = an_integer x ∷ []
fields_of_operand (interval low high) = an_integer low ∷ (an_integer high ∷ [])
fields_of_operand (address p) = a_natural p ∷ []
fields_of_operand (block p q) = a_natural p ∷ (a_natural q ∷ [])
fields_of_operand (target p) = a_place p ∷ []
fields_of_operand (channel s) = a_natural s ∷ []
fields_of_operand (kind k) = a_natural k ∷ []

-- the source line, which the instructions that may trap have
abbrev pub line_field : Instr → List Field
line_field (Ldx a b p q line) = a_natural line ∷ []
line_field (Stx a b p q line) = a_natural line ∷ []
line_field (Div a b c line) = a_natural line ∷ []
line_field (Mod a b c line) = a_natural line ∷ []
line_field (Chk a low high line) = a_natural line ∷ []
line_field (In a low high line) = a_natural line ∷ []
line_field (Call p line) = a_natural line ∷ []
line_field (Ret line) = a_natural line ∷ []
line_field (Trp k line) = a_natural line ∷ []
line_field instr = []

-- the operands in their order, and then the line
abbrev pub fields_of : Instr → List Field
fields_of instr = flat_map fields_of_operand (operands_of instr) ++ line_field instr
