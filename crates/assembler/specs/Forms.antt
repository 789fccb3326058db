-- The instruction of a word and of the fields after it.
use Rattle.std.specs.Prelude.{◌≡◌, ◌↔◌, ℕ, ℤ, pos, List, ◌++◌, nat_lt, slice_index, Some}
use Rattle.plain_text.specs.Lookup.{lookup}
use Rattle.machine_table.specs.declared.instr.Instr.{Instr}
use Rattle.machine_table.specs.declared.instr.Instr.TheVariants.{Halt, Ldi, Ld, St, Ldx, Stx, Mov, Add, Sub, Mul, Neg, Mac, Div, Mod, Scl, Jmp, Blt, Beq, Chk, In, Out, Call, Ret, Trp}
use Rattle.assembler.specs.declared.opcode.Opcode.{Opcode}
use Rattle.assembler.specs.declared.opcode.Opcode.TheVariants as op
use Rattle.assembler.specs.declared.fields.Fields.{Fields}
use Rattle.assembler.specs.declared.fields.Form.{Form}
use Rattle.assembler.specs.declared.fields.Target.{Target}
use Rattle.assembler.specs.declared.fields.Target.TheVariants.{Place, Name}
use Rattle.assembler.specs.Fields.{Field, a_register, an_integer, a_natural, a_place, mnemonic_of}
use Rattle.assembler.specs.Words.{Places}
use Rattle.assembler.specs.Statements.{WriteAll}
use Rattle.assembler.specs.Readers.{field_if}

-- ---- fields of instructions
-- Enough for the fields of any instruction, each kind in order; an instruction has some of them.
pub record Parts : Type 0 where
  pub registers : ℕ × (ℕ × ℕ)
  pub integers : ℤ × ℤ
  pub place : ℕ
  pub naturals : ℕ × (ℕ × ℕ)

abbrev pub instr_of : Opcode → Parts → Instr
instr_of op.Halt parts = Halt
instr_of op.Ldi parts = Ldi parts.registers.0 parts.integers.0
instr_of op.Ld parts = Ld parts.registers.0 parts.naturals.0
instr_of op.St parts = St parts.registers.0 parts.naturals.0
instr_of op.Ldx parts = Ldx parts.registers.0 parts.registers.1.0 parts.naturals.0 parts.naturals.1.0 parts.naturals.1.1
instr_of op.Stx parts = Stx parts.registers.0 parts.registers.1.0 parts.naturals.0 parts.naturals.1.0 parts.naturals.1.1
instr_of op.Mov parts = Mov parts.registers.0 parts.registers.1.0
instr_of op.Add parts = Add parts.registers.0 parts.registers.1.0 parts.registers.1.1
instr_of op.Sub parts = Sub parts.registers.0 parts.registers.1.0 parts.registers.1.1
instr_of op.Mul parts = Mul parts.registers.0 parts.registers.1.0 parts.registers.1.1
instr_of op.Neg parts = Neg parts.registers.0 parts.registers.1.0
instr_of op.Mac parts = Mac parts.registers.0 parts.registers.1.0 parts.registers.1.1
instr_of op.Div parts = Div parts.registers.0 parts.registers.1.0 parts.registers.1.1 parts.naturals.0
instr_of op.Mod parts = Mod parts.registers.0 parts.registers.1.0 parts.registers.1.1 parts.naturals.0
instr_of op.Scl parts = Scl parts.registers.0 parts.registers.1.0 parts.naturals.0
instr_of op.Jmp parts = Jmp parts.place
instr_of op.Blt parts = Blt parts.registers.0 parts.registers.1.0 parts.place
instr_of op.Beq parts = Beq parts.registers.0 parts.registers.1.0 parts.place
instr_of op.Chk parts = Chk parts.registers.0 parts.integers.0 parts.integers.1 parts.naturals.0
instr_of op.In parts = In parts.registers.0 parts.integers.0 parts.integers.1 parts.naturals.0
instr_of op.Out parts = Out parts.registers.0
instr_of op.Call parts = Call parts.place parts.naturals.0
instr_of op.Ret parts = Ret parts.naturals.0
instr_of op.Trp parts = Trp parts.naturals.0 parts.naturals.1.0

-- the word of an opcode is that of its instructions, whatever their fields are
abbrev pub no_parts : Parts
no_parts = record { registers = (0, (0, 0)); integers = (pos 0, pos 0); place = 0; naturals = (0, (0, 0)) }

abbrev pub word_of : Opcode → List ℕ
word_of opcode = mnemonic_of (instr_of opcode no_parts)

-- so many of three registers, of two integers, of three natural numbers
abbrev pub registers_of : ℕ → ℕ × (ℕ × ℕ) → List Field
registers_of n registers =
    field_if (nat_lt 0 n) (a_register registers.0) ++ (field_if (nat_lt 1 n) (a_register registers.1.0) ++ field_if (nat_lt 2 n) (a_register registers.1.1))

abbrev pub integers_of : ℕ → ℤ × ℤ → List Field
integers_of n integers = field_if (nat_lt 0 n) (an_integer integers.0) ++ field_if (nat_lt 1 n) (an_integer integers.1)

abbrev pub naturals_of : ℕ → ℕ × (ℕ × ℕ) → List Field
naturals_of n naturals =
    field_if (nat_lt 0 n) (a_natural naturals.0) ++ (field_if (nat_lt 1 n) (a_natural naturals.1.0) ++ field_if (nat_lt 2 n) (a_natural naturals.1.1))

-- the fields of a form
abbrev pub form_fields : Form → Parts → List Field
form_fields form parts =
    registers_of form.registers parts.registers
    ++ (integers_of form.integers parts.integers
    ++ (field_if form.has_target (a_place parts.place)
    ++ naturals_of form.naturals parts.naturals))

-- ---- fields that were read
abbrev pub are_registers : List ℕ → Places → ℕ × (ℕ × ℕ) → Type 0
are_registers read places registers = (registers.0 ≡ slice_index read 0) × ((registers.1.0 ≡ slice_index read 1) × (registers.1.1 ≡ slice_index read 2))

abbrev pub are_integers : ℤ × ℤ → Places → ℤ × ℤ → Type 0
are_integers read places integers = (integers.0 ≡ read.0) × (integers.1 ≡ read.1)

abbrev pub are_naturals : List ℕ → Places → ℕ × (ℕ × ℕ) → Type 0
are_naturals read places naturals = (naturals.0 ≡ slice_index read 0) × ((naturals.1.0 ≡ slice_index read 1) × (naturals.1.1 ≡ slice_index read 2))

-- where a target goes
abbrev pub GoesTo : Target → Places → ℕ → Type 0
GoesTo (Place n) places p = p ≡ n
GoesTo (Name name) places p = lookup name.now places ≡ Some p

-- the fields that were read, with the place that the target goes to
abbrev pub parts_at : Fields → ℕ → Parts
parts_at fields p = record {
  registers = (slice_index fields.registers 0, (slice_index fields.registers 1, slice_index fields.registers 2));
  integers = fields.integers;
  place = p;
  naturals = (slice_index fields.naturals 0, (slice_index fields.naturals 1, slice_index fields.naturals 2));
}

-- with any places, the words write the fields that were read, and no others of the form
abbrev pub AreFields : Form → List (List ℕ) → Fields → Type 0
AreFields form words fields = (places : Places) (parts : Parts)
    → WriteAll places words (form_fields form parts) ↔ ((p : ℕ) × GoesTo fields.target places p × (form_fields form parts ≡ form_fields form (parts_at fields p)))

-- the words write no fields of the form
abbrev pub AreNoFields : Form → List (List ℕ) → Type 0
AreNoFields form words = (places : Places) (parts : Parts) → WriteAll places words (form_fields form parts) → ⊥
