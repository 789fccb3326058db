-- The records of instructions: which fields an instruction uses, and how.
use Rattle.std.specs.Prelude.{ℕ, zero, suc, ◌+◌, List, [], ◌∷◌, take, slice_index, slice_get, slice_range, Option, Some, None, is_some, if◌then◌else◌}
use Rattle.object_bytes.specs.declared.layout.Use.{Use}
use Rattle.object_bytes.specs.declared.layout.Use.TheVariants.{Unused, Natural, Whole}
use Rattle.object_bytes.specs.declared.layout.Layout.{Layout}

-- a record has 40 bytes: the number of the instruction, the registers a, b and c, 4 bytes of the line, 16 of p, 16 of q
abbrev pub record_length : ℕ
record_length = 40

-- no field, and one to three registers
abbrev nothing : Layout
nothing = record { a = Unused; b = Unused; c = Unused; line = Unused; p = Unused; q = Unused }

abbrev a : Layout
a = record nothing { a = Whole }

abbrev a_b : Layout
a_b = record a { b = Whole }

abbrev a_b_c : Layout
a_b_c = record a_b { c = Whole }

-- the layouts of the 24 instructions, by number
abbrev pub layouts : List Layout
layouts =
    nothing  -- HALT
    ∷ record a { p = Whole }  -- LDI
    ∷ record a { p = Natural }  -- LD
    ∷ record a { p = Natural }  -- ST
    ∷ record a_b { line = Whole; p = Natural; q = Natural }  -- LDX
    ∷ record a_b { line = Whole; p = Natural; q = Natural }  -- STX
    ∷ a_b  -- MOV
    ∷ a_b_c  -- ADD
    ∷ a_b_c  -- SUB
    ∷ a_b_c  -- MUL
    ∷ a_b  -- NEG
    ∷ a_b_c  -- MAC
    ∷ record a_b_c { line = Whole }  -- DIV
    ∷ record a_b_c { line = Whole }  -- MOD
    ∷ record a_b { p = Natural }  -- SCL
    ∷ record nothing { p = Natural }  -- JMP
    ∷ record a_b { p = Natural }  -- BLT
    ∷ record a_b { p = Natural }  -- BEQ
    ∷ record a { line = Whole; p = Whole; q = Whole }  -- CHK
    ∷ record a { line = Whole; p = Whole; q = Whole }  -- IN
    ∷ a  -- OUT
    ∷ record nothing { line = Whole; p = Natural }  -- CALL
    ∷ record nothing { line = Whole }  -- RET
    ∷ record nothing { line = Whole; p = Natural }  -- TRP
    ∷ []

-- ---- the first place of a record that breaks its layout
-- the place of the first byte other than 0, where the first of these bytes stands at place n
abbrev pub first_nonzero : ℕ → List ℕ → Option ℕ
first_nonzero n [] = None
first_nonzero n (zero ∷ bytes) = first_nonzero (n + 1) bytes
first_nonzero n (suc b ∷ bytes) = Some n

-- of a field that begins at place n: an unused byte is 0, and a natural number has 12 bytes of 0 before its 4
abbrev pub field_fault : Use → ℕ → List ℕ → Option ℕ
field_fault Unused n bytes = first_nonzero n bytes
field_fault Natural n bytes = if is_some (first_nonzero n (take 12 bytes)) then Some n else None
field_fault Whole n bytes = None

-- the first of two places
abbrev pub or_place : Option ℕ → Option ℕ → Option ℕ
or_place (Some place) next = Some place
or_place None next = next

-- of a record that begins at place n
unfoldable pub layout_fault : Layout → ℕ → List ℕ → Option ℕ
layout_fault layout n bytes =
    or_place (field_fault layout.a (n + 1) (slice_range bytes 1 2))
    (or_place (field_fault layout.b (n + 2) (slice_range bytes 2 3))
    (or_place (field_fault layout.c (n + 3) (slice_range bytes 3 4))
    (or_place (field_fault layout.line (n + 4) (slice_range bytes 4 8))
    (or_place (field_fault layout.p (n + 8) (slice_range bytes 8 24))
    (field_fault layout.q (n + 24) (slice_range bytes 24 40))))))

-- where there is no instruction of this number, its first byte
abbrev pub fault_by : Option Layout → ℕ → List ℕ → Option ℕ
fault_by None n bytes = Some n
fault_by (Some layout) n bytes = layout_fault layout n bytes

unfoldable pub record_fault : ℕ → List ℕ → Option ℕ
record_fault n bytes = fault_by (slice_get layouts (slice_index bytes 0)) n bytes
