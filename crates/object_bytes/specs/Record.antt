-- Instructions as records, both ways.
use Rattle.std.specs.Prelude.{ℕ, ◌+◌, ℤ, pos, List, [], ◌∷◌, ◌++◌, slice_index, slice_get, slice_range, Option}
use Rattle.std.specs.Int.{w32, w128, to_be_bytes, from_be_bytes, cast_signed, cast_unsigned}
use Rattle.machine_table.specs.declared.instr.Instr.{Instr}
use Rattle.machine_table.specs.declared.instr.Instr.TheVariants.{Halt, Ldi, Ld, St, Ldx, Stx, Mov, Add, Sub, Mul, Neg, Mac, Div, Mod, Scl, Jmp, Blt, Beq, Chk, In, Out, Call, Ret, Trp}
use Rattle.object_bytes.specs.declared.fields.Fields.{Fields}

-- ---- what is written
abbrev pub fields : ℕ → ℕ → ℕ → ℕ → ℕ → ℤ → ℤ → Fields
fields number a b c line p q = record { number = number; a = a; b = b; c = c; line = line; p = p; q = q }

-- the number of an instruction, its registers, its line, and p and q; 0 where it has none
abbrev pub fields_of : Instr → Fields
fields_of Halt = fields 0 0 0 0 0 (pos 0) (pos 0)
fields_of (Ldi a value) = fields 1 a 0 0 0 value (pos 0)
fields_of (Ld a address) = fields 2 a 0 0 0 (pos address) (pos 0)
fields_of (St a address) = fields 3 a 0 0 0 (pos address) (pos 0)
fields_of (Ldx a b address length line) = fields 4 a b 0 line (pos address) (pos length)
fields_of (Stx a b address length line) = fields 5 a b 0 line (pos address) (pos length)
fields_of (Mov a b) = fields 6 a b 0 0 (pos 0) (pos 0)
fields_of (Add a b c) = fields 7 a b c 0 (pos 0) (pos 0)
fields_of (Sub a b c) = fields 8 a b c 0 (pos 0) (pos 0)
fields_of (Mul a b c) = fields 9 a b c 0 (pos 0) (pos 0)
fields_of (Neg a b) = fields 10 a b 0 0 (pos 0) (pos 0)
fields_of (Mac a b c) = fields 11 a b c 0 (pos 0) (pos 0)
fields_of (Div a b c line) = fields 12 a b c line (pos 0) (pos 0)
fields_of (Mod a b c line) = fields 13 a b c line (pos 0) (pos 0)
fields_of (Scl a b channel) = fields 14 a b 0 0 (pos channel) (pos 0)
fields_of (Jmp target) = fields 15 0 0 0 0 (pos target) (pos 0)
fields_of (Blt a b target) = fields 16 a b 0 0 (pos target) (pos 0)
fields_of (Beq a b target) = fields 17 a b 0 0 (pos target) (pos 0)
fields_of (Chk a low high line) = fields 18 a 0 0 line low high
fields_of (In a low high line) = fields 19 a 0 0 line low high
fields_of (Out a) = fields 20 a 0 0 0 (pos 0) (pos 0)
fields_of (Call target line) = fields 21 0 0 0 line (pos target) (pos 0)
fields_of (Ret line) = fields 22 0 0 0 line (pos 0) (pos 0)
fields_of (Trp kind line) = fields 23 0 0 0 line (pos kind) (pos 0)

-- 16 bytes in two's complement, the highest first
abbrev pub integer_bytes : ℤ → List ℕ
integer_bytes x = to_be_bytes w128 (cast_unsigned w128 x)

unfoldable pub fields_bytes : Fields → List ℕ
fields_bytes f = (f.number ∷ f.a ∷ f.b ∷ f.c ∷ []) ++ to_be_bytes w32 f.line ++ integer_bytes f.p ++ integer_bytes f.q

abbrev pub instr_bytes : Instr → List ℕ
instr_bytes instr = fields_bytes (fields_of instr)

-- ---- what is read
-- the 4 bytes and the 16 bytes from place i on, as numbers
abbrev pub natural_at : ℕ → List ℕ → ℕ
natural_at i bytes = from_be_bytes w32 (slice_range bytes i (i + 4))

abbrev pub integer_at : ℕ → List ℕ → ℤ
integer_at i bytes = cast_signed w128 (from_be_bytes w128 (slice_range bytes i (i + 16)))

-- the instructions by number, of registers, a line, p and q, and the natural numbers that these are
abbrev pub instrs : ℕ → ℕ → ℕ → ℕ → ℤ → ℤ → ℕ → ℕ → List Instr
instrs a b c line p q m n =
    Halt
    ∷ Ldi a p
    ∷ Ld a m
    ∷ St a m
    ∷ Ldx a b m n line
    ∷ Stx a b m n line
    ∷ Mov a b
    ∷ Add a b c
    ∷ Sub a b c
    ∷ Mul a b c
    ∷ Neg a b
    ∷ Mac a b c
    ∷ Div a b c line
    ∷ Mod a b c line
    ∷ Scl a b m
    ∷ Jmp m
    ∷ Blt a b m
    ∷ Beq a b m
    ∷ Chk a p q line
    ∷ In a p q line
    ∷ Out a
    ∷ Call m line
    ∷ Ret line
    ∷ Trp m line
    ∷ []

abbrev pub instrs_in : List ℕ → List Instr
instrs_in bytes =
    instrs (slice_index bytes 1) (slice_index bytes 2) (slice_index bytes 3) (natural_at 4 bytes)
    (integer_at 8 bytes) (integer_at 24 bytes) (natural_at 20 bytes) (natural_at 36 bytes)

-- the instruction of a record, where there is one of its number
unfoldable pub instr_in : List ℕ → Option Instr
instr_in bytes = slice_get (instrs_in bytes) (slice_index bytes 0)
