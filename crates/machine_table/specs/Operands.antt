-- What an instruction names, and what a program must have for it.
use Rattle.std.specs.Prelude.{ℕ, ◌+◌, ◌<◌, ◌≤◌, ℤ, ◌≤ℤ◌, List, [], ◌∷◌}
use Rattle.moduli_sets.specs.Set.{ModuliSet, IsInRange}
use Rattle.machine_table.specs.declared.instr.Instr.{Instr}
use Rattle.machine_table.specs.declared.instr.Instr.TheVariants.{Halt, Ldi, Ld, St, Ldx, Stx, Mov, Add, Sub, Mul, Neg, Mac, Div, Mod, Scl, Jmp, Blt, Beq, Chk, In, Out, Call, Ret, Trp}

-- A register, a constant, the ends of an interval; the address of a data word, a block of words by its address and
-- length; the number of an instruction, of an information channel, of a kind of trap.
pub data Operand : Type 0 where
  register : ℕ → Operand
  constant : ℤ → Operand
  interval : ℤ → ℤ → Operand
  address : ℕ → Operand
  block : ℕ → ℕ → Operand
  target : ℕ → Operand
  channel : ℕ → Operand
  kind : ℕ → Operand

-- all that an instruction names, but the line
abbrev pub operands_of : Instr → List Operand
operands_of Halt = []
operands_of (Ldi a value) = register a ∷ (constant value ∷ [])
operands_of (Ld a p) = register a ∷ (address p ∷ [])
operands_of (St a p) = register a ∷ (address p ∷ [])
operands_of (Ldx a b p q line) = register a ∷ (register b ∷ (block p q ∷ []))
operands_of (Stx a b p q line) = register a ∷ (register b ∷ (block p q ∷ []))
operands_of (Mov a b) = register a ∷ (register b ∷ [])
operands_of (Add a b c) = register a ∷ (register b ∷ (register c ∷ []))
operands_of (Sub a b c) = register a ∷ (register b ∷ (register c ∷ []))
operands_of (Mul a b c) = register a ∷ (register b ∷ (register c ∷ []))
operands_of (Neg a b) = register a ∷ (register b ∷ [])
operands_of (Mac a b c) = register a ∷ (register b ∷ (register c ∷ []))
operands_of (Div a b c line) = register a ∷ (register b ∷ (register c ∷ []))
operands_of (Mod a b c line) = register a ∷ (register b ∷ (register c ∷ []))
operands_of (Scl a b s) = register a ∷ (register b ∷ (channel s ∷ []))
operands_of (Jmp p) = target p ∷ []
operands_of (Blt a b p) = register a ∷ (register b ∷ (target p ∷ []))
operands_of (Beq a b p) = register a ∷ (register b ∷ (target p ∷ []))
operands_of (Chk a low high line) = register a ∷ (interval low high ∷ [])
operands_of (In a low high line) = register a ∷ (interval low high ∷ [])
operands_of (Out a) = register a ∷ []
operands_of (Call p line) = target p ∷ []
operands_of (Ret line) = []
operands_of (Trp k line) = kind k ∷ []

-- the set of a program, and how many instructions and data words it has
pub record Shape : Type 0 where
  pub set : ModuliSet
  pub instructions : ℕ
  pub words : ℕ

-- what is named exists; a target may be the place after the last instruction
abbrev pub IsSoundOperand : Shape → Operand → Type 0
IsSoundOperand shape (register r) = r ≤ 15
IsSoundOperand shape (constant x) = IsInRange shape.set x
IsSoundOperand shape (interval low high) = IsInRange shape.set low × IsInRange shape.set high × (low ≤ℤ high)
IsSoundOperand shape (address p) = p < shape.words
IsSoundOperand shape (block p q) = (0 < q) × (p + q ≤ shape.words)
IsSoundOperand shape (target p) = p ≤ shape.instructions
IsSoundOperand shape (channel s) = s < shape.set.info
IsSoundOperand shape (kind k) = k ≤ 6
