-- Records and their instructions: what keeps to a layout is the record of the instruction that is read, and the record of
-- an instruction keeps to its layout and is read as it.
use Rattle.std.proofs.Common.{◌≡◌, ℕ, zero, suc, ◌+◌, ◌^◌, ◌<◌, ◌≤◌, ℤ, pos, List, [], ◌∷◌, ◌++◌, length, take, drop, Option, Some, None, refl, sym, ap, subst, ◌∙◌, append_assoc, inl, inr, cond, zero-add, add-zero, arith}
use Rattle.std.specs.Prelude.{slice_get, slice_index, is_some}
use Rattle.std.specs.Int.{w32, w128, to_be_bytes, from_be_bytes, cast_signed}
use Rattle.std.specs.Int.RustNames.{FitsSigned}
use Rattle.std.specs.List.{AllByRecursion}
use Rattle.std.specs.Option.{option_copied}
use Rattle.std.specs.Slice.{IsItemAt}
use denote.Bor.{Bor}
use Rattle.std.proofs.lemmas.Bool.{cases_lt}
use Rattle.std.proofs.lemmas.Int.{ints}
use Rattle.std.proofs.lemmas.Option.{slice_get_past, slice_get_read}
use Rattle.std.proofs.lemmas.List.{take-append-drop, drop-take, drop-drop, length-drop, length-take, take_all, get_or-drop, get_or-take, get_or_past}
use Rattle.moduli_sets.specs.Set.{ModuliSet, IsInRange, range_bound}
use Rattle.machine_table.specs.Operands.{Shape, IsSoundOperand, operands_of}
use Rattle.machine_table.specs.declared.instr.Instr.{Instr}
use Rattle.machine_table.specs.declared.instr.Instr.TheVariants.{Halt, Ldi, Ld, St, Ldx, Stx, Mov, Add, Sub, Mul, Neg, Mac, Div, Mod, Scl, Jmp, Blt, Beq, Chk, In, Out, Call, Ret, Trp}
use Rattle.object_bytes.specs.declared.fields.Fields.{Fields}
use Rattle.object_bytes.specs.declared.layout.Use.{Use}
use Rattle.object_bytes.specs.declared.layout.Use.TheVariants.{Unused, Natural, Whole}
use Rattle.object_bytes.specs.declared.layout.Layout.{Layout}
use Rattle.object_bytes.specs.Layout.{layouts, first_nonzero, field_fault, or_place, layout_fault, fault_by, record_fault}
use Rattle.object_bytes.specs.Loading.{AreBytes}
use Rattle.object_bytes.specs.Record.{fields, fields_of, integer_bytes, fields_bytes, instr_bytes, natural_at, integer_at, instrs, instrs_in, instr_in}
use Rattle.object_bytes.proofs.NumberLemmas.{natural_back, natural_again, integer_back, integer_again, nothing_back, wide_back, wide_again, wide_zeros}

-- ---- what is read of a field by its use
abbrev kept : Use → ℕ → ℕ
kept Unused x = 0
kept Natural x = x
kept Whole x = x

abbrev number : Use → ℤ → ℕ → ℤ
number Unused p m = pos 0
number Natural p m = pos m
number Whole p m = p

kept_byte : (u : Use) (n x : ℕ) → field_fault u n (x ∷ []) ≡ None → kept u x ≡ x
kept_byte Unused n zero e = refl
kept_byte Unused n (suc x) e = absurd cc
kept_byte Natural n x e = refl
kept_byte Whole n x e = refl

kept_line : (u : Use) (n : ℕ) (bytes : List ℕ) → length bytes ≡ 4 → AreBytes bytes → field_fault u n bytes ≡ None
    → to_be_bytes w32 (kept u (from_be_bytes w32 bytes)) ≡ bytes
kept_line Unused n bytes long h e = nothing_back 4 n bytes long h e
kept_line Natural n bytes long h e = natural_back bytes long h
kept_line Whole n bytes long h e = natural_back bytes long h

no_nonzero : (n : ℕ) (o : Option ℕ) → cond (is_some o) (Some n) None ≡ None → o ≡ None
no_nonzero n None e = refl
no_nonzero n (Some x) e = absurd cc

number_kept : (u : Use) (n : ℕ) (bytes : List ℕ) → length bytes ≡ 16 → AreBytes bytes → field_fault u n bytes ≡ None
    → integer_bytes (number u (cast_signed w128 (from_be_bytes w128 bytes)) (from_be_bytes w32 (drop 12 bytes))) ≡ bytes
number_kept Unused n bytes long h e = nothing_back 16 n bytes long h e
number_kept Natural n bytes long h e = wide_back n bytes long h (no_nonzero n (first_nonzero n (take 12 bytes)) e)
number_kept Whole n bytes long h e = integer_back bytes long h

some_same : {A : Type 0} (x y : A) → Some x ≡ Some y → x ≡ y
some_same x y e = cc

-- ---- the two tables agree
module _ (a b c line : ℕ) (p q : ℤ) (m n : ℕ) where
  -- the fields of instruction number k by its layout
  abbrev laid : ℕ → Layout → Fields
  laid k layout = fields k (kept layout.a a) (kept layout.b b) (kept layout.c c) (kept layout.line line) (number layout.p p m) (number layout.q q n)

  abbrev Agree : ℕ → List Instr → List Layout → Type 0
  Agree k [] [] = Unit {0}
  Agree k [] (layout ∷ ls) = ⊥
  Agree k (instr ∷ is) [] = ⊥
  Agree k (instr ∷ is) (layout ∷ ls) = (fields_of instr ≡ laid k layout) × Agree (suc k) is ls

  tables_agree : Agree 0 (instrs a b c line p q m n) layouts
  tables_agree = (refl, (refl, (refl, (refl, (refl, (refl, (refl, (refl, (refl, (refl, (refl, (refl, (refl, (refl, (refl, (refl, (refl, (refl, (refl, (refl, (refl, (refl, (refl, (refl, tt))))))))))))))))))))))))

  agree_at : (j k : ℕ) (is : List Instr) (ls : List Layout) (layout : Layout) → Agree k is ls → slice_get ls j ≡ Some layout
      → (instr : Instr) × (slice_get is j ≡ Some instr) × (fields_of instr ≡ laid (j + k) layout)
  agree_at j k [] [] layout h e = absurd cc
  agree_at j k [] (l ∷ ls) layout h e = absurd h
  agree_at j k (instr ∷ is) [] layout h e = absurd h
  agree_at zero k (instr ∷ is) (l ∷ ls) layout h e = (instr, refl, h.0 ∙ ap (laid k) (some_same l layout e) ∙ ap (λ i. laid i layout) (sym (zero-add k)))
  agree_at (suc j) k (instr ∷ is) (l ∷ ls) layout h e =
      let rest = agree_at j (suc k) is ls layout h.1 e in
      (rest.0, rest.1, rest.2 ∙ ap (λ i. laid i layout) (let same : j + suc k ≡ suc j + k = omega arith in same))

-- a copy of the item at a place
pub copied_at : {X : Type 0} (xs : List X) (i : ℕ) (r : Option (Bor X)) → IsItemAt xs i r → option_copied r ≡ slice_get xs i
copied_at xs i None h = sym (slice_get_past xs i h.3)
copied_at xs i (Some x) h = sym (slice_get_read xs (length xs) i x.now refl h.3.0 h.1)

-- the instruction of a number in the table, by what the table is made of
pub same_instr : (k j a b c line line' : ℕ) (p p' q q' : ℤ) (m m' n n' : ℕ) → k ≡ j → line ≡ line' → p ≡ p' → q ≡ q' → m ≡ m' → n ≡ n'
    → slice_get (instrs a b c line p q m n) k ≡ slice_get (instrs a b c line' p' q' m' n') j
same_instr k j a b c line line' p p' q q' m m' n n' ek el ep eq em en =
    subst (λ i. slice_get (instrs a b c line p q m n) k ≡ slice_get (instrs a b c line' p' q' m' n') i) ek
    (subst (λ (y : ℤ). slice_get (instrs a b c line p q m n) k ≡ slice_get (instrs a b c line' y q' m' n') k) ep
    (subst (λ (y : ℤ). slice_get (instrs a b c line p q m n) k ≡ slice_get (instrs a b c line' p y m' n') k) eq
    (subst (λ i. slice_get (instrs a b c line p q m n) k ≡ slice_get (instrs a b c i p q m' n') k) el
    (subst (λ i. slice_get (instrs a b c line p q m n) k ≡ slice_get (instrs a b c line p q i n') k) em
    (subst (λ i. slice_get (instrs a b c line p q m n) k ≡ slice_get (instrs a b c line p q m i) k) en refl)))))

-- ---- a record that keeps to its layout
pub or_place-parts : (a b : Option ℕ) → or_place a b ≡ None → (a ≡ None) × (b ≡ None)
or_place-parts (Some n) b e = absurd cc
or_place-parts None b e = (refl, e)

laid_out : (k : ℕ) (o : Option Layout) (n : ℕ) (bytes : List ℕ) → fault_by o n bytes ≡ None → (layout : Layout) × (o ≡ Some layout) × (layout_fault layout n bytes ≡ None)
laid_out k None n bytes e = absurd cc
laid_out k (Some layout) n bytes e = (layout, refl, e)

pub AreBytes-drop : (k : ℕ) (bytes : List ℕ) → AreBytes bytes → AreBytes (drop k bytes)
AreBytes-drop k bytes h i = rw get_or-drop (h (k + i))

pub AreBytes-take : (k : ℕ) (bytes : List ℕ) → AreBytes bytes → AreBytes (take k bytes)
AreBytes-take k bytes h i =
    elim (cases_lt i k) [
      | inl lt ↦ rw (get_or-take k bytes i 0 lt) (h i)
      | inr le ↦ rw (get_or_past (take k bytes) i 0 (omega (arith, length-take k bytes))) (omega arith)
    ]

-- 36 bytes are those of the line, of p and of q
parts_of : (bytes : List ℕ) → length bytes ≡ 36 → take 4 bytes ++ take 16 (drop 4 bytes) ++ take 16 (drop 20 bytes) ≡ bytes
parts_of bytes long =
    let last : take 16 (drop 20 bytes) ≡ drop 20 bytes = take_all 16 (drop 20 bytes) (omega (arith, length-drop 20 bytes)) in
    let tail : take 16 (drop 4 bytes) ++ drop 20 bytes ≡ drop 4 bytes = ap (λ xs. take 16 (drop 4 bytes) ++ xs) (sym (drop-drop 16 4 bytes)) ∙ take-append-drop 16 (drop 4 bytes) in
    append_assoc (take 4 bytes) (take 16 (drop 4 bytes)) (take 16 (drop 20 bytes))
    ∙ ap (λ xs. take 4 bytes ++ (take 16 (drop 4 bytes) ++ xs)) last ∙ ap (λ xs. take 4 bytes ++ xs) tail ∙ take-append-drop 4 bytes

joined : (j i a x b y c z : ℕ) (l k p r q s : List ℕ) → j ≡ i → a ≡ x → b ≡ y → c ≡ z → l ≡ k → p ≡ r → q ≡ s
    → (j ∷ a ∷ b ∷ c ∷ []) ++ l ++ p ++ q ≡ i ∷ x ∷ y ∷ z ∷ (k ++ r ++ s)
joined j i a x b y c z l k p r q s ej ea eb ec el ep eq = cc

-- the last 4 of the 16 bytes of p, and of q
low_of : (k : ℕ) (bytes : List ℕ) → drop 12 (take 16 (drop k bytes)) ≡ take 4 (drop (k + 12) bytes)
low_of k bytes = drop-take 12 4 (drop k bytes) ∙ ap (take 4) (drop-drop 12 k bytes)

-- a record whose number is 24 or more
pub record_fault-none : (n : ℕ) (bytes : List ℕ) → 24 ≤ slice_index bytes 0 → (instr_in bytes ≡ None) × (record_fault n bytes ≡ Some n)
unfolding instr_in record_fault
record_fault-none n bytes h = (slice_get_past (instrs_in bytes) (slice_index bytes 0) h, ap (λ o. fault_by o n bytes) (slice_get_past layouts (slice_index bytes 0) h))

pub record_fault-is : (n : ℕ) (bytes : List ℕ) (layout : Layout) → slice_get layouts (slice_index bytes 0) ≡ Some layout → record_fault n bytes ≡ layout_fault layout n bytes
unfolding record_fault
record_fault-is n bytes layout e = ap (λ o. fault_by o n bytes) e

pub record_back : (n : ℕ) (bytes : List ℕ) → length bytes ≡ 40 → AreBytes bytes → record_fault n bytes ≡ None
    → (instr : Instr) × (instr_in bytes ≡ Some instr) × (instr_bytes instr ≡ bytes)
unfolding record_fault layout_fault instr_in fields_bytes
record_back n [] long h e = absurd (omega arith)
record_back n (j ∷ []) long h e = absurd (omega arith)
record_back n (j ∷ x ∷ []) long h e = absurd (omega arith)
record_back n (j ∷ x ∷ y ∷ []) long h e = absurd (omega arith)
record_back n (j ∷ x ∷ y ∷ z ∷ rest) long h e =
    let bytes : List ℕ = j ∷ x ∷ y ∷ z ∷ rest in
    let left : length rest ≡ 36 = omega arith in
    let are : AreBytes rest = λ i. h (suc (suc (suc (suc i)))) in
    let line = take 4 rest in
    let p = take 16 (drop 4 rest) in
    let q = take 16 (drop 20 rest) in
    let out = laid_out j (slice_get layouts j) n bytes e in
    let layout = out.0 in
    let fa = or_place-parts (field_fault layout.a (n + 1) (x ∷ [])) _ out.2 in
    let fb = or_place-parts (field_fault layout.b (n + 2) (y ∷ [])) _ fa.1 in
    let fc = or_place-parts (field_fault layout.c (n + 3) (z ∷ [])) _ fb.1 in
    let fl = or_place-parts (field_fault layout.line (n + 4) line) _ fc.1 in
    let fp = or_place-parts (field_fault layout.p (n + 8) p) (field_fault layout.q (n + 24) q) fl.1 in
    let p_is = number_kept layout.p (n + 8) p (length-take 16 (drop 4 rest) ∙ omega (arith, length-drop 4 rest)) (AreBytes-take 16 (drop 4 rest) (AreBytes-drop 4 rest are)) fp.0 in
    let q_is = number_kept layout.q (n + 24) q (length-take 16 (drop 20 rest) ∙ omega (arith, length-drop 20 rest)) (AreBytes-take 16 (drop 20 rest) (AreBytes-drop 20 rest are)) fp.1 in
    let p_low = subst (λ bs. integer_bytes (number layout.p (cast_signed w128 (from_be_bytes w128 p)) (from_be_bytes w32 bs)) ≡ p) (low_of 4 rest) p_is in
    let q_low = subst (λ bs. integer_bytes (number layout.q (cast_signed w128 (from_be_bytes w128 q)) (from_be_bytes w32 bs)) ≡ q) (low_of 20 rest) q_is in
    let read = agree_at x y z (natural_at 4 bytes) (integer_at 8 bytes) (integer_at 24 bytes) (natural_at 20 bytes) (natural_at 36 bytes) j 0 (instrs_in bytes) layouts layout
    (tables_agree x y z (natural_at 4 bytes) (integer_at 8 bytes) (integer_at 24 bytes) (natural_at 20 bytes) (natural_at 36 bytes)) out.1 in
    let written = joined (j + 0) j (kept layout.a x) x (kept layout.b y) y (kept layout.c z) z
    (to_be_bytes w32 (kept layout.line (from_be_bytes w32 line))) line _ p _ q
    (add-zero j) (kept_byte layout.a (n + 1) x fa.0) (kept_byte layout.b (n + 2) y fb.0) (kept_byte layout.c (n + 3) z fc.0)
    (kept_line layout.line (n + 4) line (length-take 4 rest ∙ omega arith) (AreBytes-take 4 rest are) fl.0) p_low q_low in
    (read.0, read.1, ap fields_bytes read.2 ∙ written ∙ ap (λ bs. j ∷ x ∷ y ∷ z ∷ bs) (parts_of rest left))

-- ---- the record of an instruction
-- a field is used so
abbrev HoldsByte : Use → ℕ → Type 0
HoldsByte Unused x = x ≡ 0
HoldsByte Natural x = x ≡ 0
HoldsByte Whole x = Unit {0}

abbrev HoldsInteger : Use → ℤ → Type 0
HoldsInteger Unused x = x ≡ pos 0
HoldsInteger Natural x = (m : ℕ) × (x ≡ pos m) × (m < 2 ^ 32)
HoldsInteger Whole x = Unit {0}

record Holds (layout : Layout) (f : Fields) : Type 0 where
  a : HoldsByte layout.a f.a
  b : HoldsByte layout.b f.b
  c : HoldsByte layout.c f.c
  line : HoldsByte layout.line f.line
  p : HoldsInteger layout.p f.p
  q : HoldsInteger layout.q f.q

byte_fine : (u : Use) (n x : ℕ) → HoldsByte u x → field_fault u n (x ∷ []) ≡ None
byte_fine Unused n x h = subst (λ y. field_fault Unused n (y ∷ []) ≡ None) (sym h) refl
byte_fine Natural n x h = subst (λ y. field_fault Natural n (y ∷ []) ≡ None) (sym h) refl
byte_fine Whole n x h = refl

line_fine : (u : Use) (n x : ℕ) → HoldsByte u x → field_fault u n (to_be_bytes w32 x) ≡ None
line_fine Unused n x h = subst (λ y. field_fault Unused n (to_be_bytes w32 y) ≡ None) (sym h) refl
line_fine Natural n x h = subst (λ y. field_fault Natural n (to_be_bytes w32 y) ≡ None) (sym h) refl
line_fine Whole n x h = refl

integer_fine : (u : Use) (n : ℕ) (x : ℤ) → HoldsInteger u x → field_fault u n (integer_bytes x) ≡ None
integer_fine Unused n x h = subst (λ y. field_fault Unused n (integer_bytes y) ≡ None) (sym h) refl
integer_fine Natural n x h =
    subst (λ y. field_fault Natural n (integer_bytes y) ≡ None) (sym h.1) (ap (λ o. cond (is_some o) (Some n) None) (wide_zeros n h.0 h.2))
integer_fine Whole n x h = refl

pub or_place-none : (a b : Option ℕ) → a ≡ None → b ≡ None → or_place a b ≡ None
or_place-none (Some n) b e h = absurd cc
or_place-none None b e h = h

layout_fine : (layout : Layout) (f : Fields) (n : ℕ) → Holds layout f → layout_fault layout n (fields_bytes f) ≡ None
unfolding layout_fault fields_bytes
layout_fine layout f n h =
    or_place-none _ _ (byte_fine layout.a (n + 1) f.a h.a)
    (or_place-none _ _ (byte_fine layout.b (n + 2) f.b h.b)
    (or_place-none _ _ (byte_fine layout.c (n + 3) f.c h.c)
    (or_place-none _ _ (line_fine layout.line (n + 4) f.line h.line)
    (or_place-none _ _ (integer_fine layout.p (n + 8) f.p h.p) (integer_fine layout.q (n + 24) f.q h.q)))))

-- what is read of a record
line_again : (f : Fields) → f.line < 2 ^ 32 → natural_at 4 (fields_bytes f) ≡ f.line
unfolding fields_bytes
line_again f h = natural_again f.line h

p_again : (f : Fields) → FitsSigned w128 f.p → integer_at 8 (fields_bytes f) ≡ f.p
unfolding fields_bytes
p_again f h = integer_again f.p h

q_again : (f : Fields) → FitsSigned w128 f.q → integer_at 24 (fields_bytes f) ≡ f.q
unfolding fields_bytes
q_again f h = integer_again f.q h

m_again : (f : Fields) (m : ℕ) → f.p ≡ pos m → m < 2 ^ 32 → natural_at 20 (fields_bytes f) ≡ m
unfolding fields_bytes
m_again f m e h = ap (λ x. from_be_bytes w32 (drop 12 (integer_bytes x))) e ∙ wide_again m h

n_again : (f : Fields) (n : ℕ) → f.q ≡ pos n → n < 2 ^ 32 → natural_at 36 (fields_bytes f) ≡ n
unfolding fields_bytes
n_again f n e h = ap (λ x. from_be_bytes w32 (drop 12 (integer_bytes x))) e ∙ wide_again n h

-- ---- instructions of sound programs
-- what a program has is counted in 32 bits, and its integers in 128
pub record IsSmall (shape : Shape) : Type 0 where
  pub instructions : shape.instructions ≤ 65536
  pub words : shape.words ≤ 65536
  pub info : shape.set.info ≤ 65536
  pub bound : range_bound shape.set < 2 ^ 127

pub fits : (set : ModuliSet) (x : ℤ) → range_bound set < 2 ^ 127 → IsInRange set x → FitsSigned w128 x
fits set x small h = let low = h.low in let high = h.high in record { sfits = grind (arith, ints) }

abbrev pub IsSoundInstr : Shape → Instr → Type 0
IsSoundInstr shape instr = AllByRecursion (IsSoundOperand shape) (operands_of instr)

below : {n : ℕ} → n ≤ 65536 → n < 2 ^ 32
below h = omega arith

-- each keeps to the layout of its number
instr_fine : (shape : Shape) → IsSmall shape → (instr : Instr) → IsSoundInstr shape instr
    → (layout : Layout) × (slice_get layouts (fields_of instr).number ≡ Some layout) × Holds layout (fields_of instr)
instr_fine shape small Halt h = (_, refl, record { a = refl; b = refl; c = refl; line = refl; p = refl; q = refl })
instr_fine shape small (Ldi a value) h = (_, refl, record { a = tt; b = refl; c = refl; line = refl; p = tt; q = refl })
instr_fine shape small (Ld a address) h = (_, refl, record { a = tt; b = refl; c = refl; line = refl; p = (address, refl, below (omega (arith, h.1.0, small.instructions, small.words, small.info))); q = refl })
instr_fine shape small (St a address) h = (_, refl, record { a = tt; b = refl; c = refl; line = refl; p = (address, refl, below (omega (arith, h.1.0, small.instructions, small.words, small.info))); q = refl })
instr_fine shape small (Ldx a b address length line) h = (_, refl, record { a = tt; b = tt; c = refl; line = tt; p = (address, refl, below (omega (arith, h.1.1.0.1, small.instructions, small.words, small.info))); q = (length, refl, below (omega (arith, h.1.1.0.1, small.instructions, small.words, small.info))) })
instr_fine shape small (Stx a b address length line) h = (_, refl, record { a = tt; b = tt; c = refl; line = tt; p = (address, refl, below (omega (arith, h.1.1.0.1, small.instructions, small.words, small.info))); q = (length, refl, below (omega (arith, h.1.1.0.1, small.instructions, small.words, small.info))) })
instr_fine shape small (Mov a b) h = (_, refl, record { a = tt; b = tt; c = refl; line = refl; p = refl; q = refl })
instr_fine shape small (Add a b c) h = (_, refl, record { a = tt; b = tt; c = tt; line = refl; p = refl; q = refl })
instr_fine shape small (Sub a b c) h = (_, refl, record { a = tt; b = tt; c = tt; line = refl; p = refl; q = refl })
instr_fine shape small (Mul a b c) h = (_, refl, record { a = tt; b = tt; c = tt; line = refl; p = refl; q = refl })
instr_fine shape small (Neg a b) h = (_, refl, record { a = tt; b = tt; c = refl; line = refl; p = refl; q = refl })
instr_fine shape small (Mac a b c) h = (_, refl, record { a = tt; b = tt; c = tt; line = refl; p = refl; q = refl })
instr_fine shape small (Div a b c line) h = (_, refl, record { a = tt; b = tt; c = tt; line = tt; p = refl; q = refl })
instr_fine shape small (Mod a b c line) h = (_, refl, record { a = tt; b = tt; c = tt; line = tt; p = refl; q = refl })
instr_fine shape small (Scl a b channel) h = (_, refl, record { a = tt; b = tt; c = refl; line = refl; p = (channel, refl, below (omega (arith, h.1.1.0, small.instructions, small.words, small.info))); q = refl })
instr_fine shape small (Jmp target) h = (_, refl, record { a = refl; b = refl; c = refl; line = refl; p = (target, refl, below (omega (arith, h.0, small.instructions, small.words, small.info))); q = refl })
instr_fine shape small (Blt a b target) h = (_, refl, record { a = tt; b = tt; c = refl; line = refl; p = (target, refl, below (omega (arith, h.1.1.0, small.instructions, small.words, small.info))); q = refl })
instr_fine shape small (Beq a b target) h = (_, refl, record { a = tt; b = tt; c = refl; line = refl; p = (target, refl, below (omega (arith, h.1.1.0, small.instructions, small.words, small.info))); q = refl })
instr_fine shape small (Chk a low high line) h = (_, refl, record { a = tt; b = refl; c = refl; line = tt; p = tt; q = tt })
instr_fine shape small (In a low high line) h = (_, refl, record { a = tt; b = refl; c = refl; line = tt; p = tt; q = tt })
instr_fine shape small (Out a) h = (_, refl, record { a = tt; b = refl; c = refl; line = refl; p = refl; q = refl })
instr_fine shape small (Call target line) h = (_, refl, record { a = refl; b = refl; c = refl; line = tt; p = (target, refl, below (omega (arith, h.0, small.instructions, small.words, small.info))); q = refl })
instr_fine shape small (Ret line) h = (_, refl, record { a = refl; b = refl; c = refl; line = tt; p = refl; q = refl })
instr_fine shape small (Trp kind line) h = (_, refl, record { a = refl; b = refl; c = refl; line = tt; p = (kind, refl, below (omega (arith, h.0, small.instructions, small.words, small.info))); q = refl })

pub record_fine : (shape : Shape) → IsSmall shape → (instr : Instr) → IsSoundInstr shape instr → (n : ℕ) → record_fault n (instr_bytes instr) ≡ None
unfolding record_fault fields_bytes
record_fine shape small instr h n =
    let fine = instr_fine shape small instr h in
    ap (λ o. fault_by o n (instr_bytes instr)) fine.1 ∙ layout_fine fine.0 (fields_of instr) n fine.2

-- each is read of its record
pub instr_again : (shape : Shape) → IsSmall shape → (instr : Instr) → IsSoundInstr shape instr → (fields_of instr).line < 2 ^ 32 → instr_in (instr_bytes instr) ≡ Some instr
unfolding instr_in fields_bytes
instr_again shape small Halt h line_fits = refl
instr_again shape small (Ldi a value) h line_fits =
    ap (λ v. Some (Ldi a v)) (p_again (fields_of (Ldi a value)) (fits shape.set value small.bound h.1.0))
instr_again shape small (Ld a address) h line_fits =
    ap (λ v. Some (Ld a v)) (m_again (fields_of (Ld a address)) address refl (below (omega (arith, h.1.0, small.instructions, small.words, small.info))))
instr_again shape small (St a address) h line_fits =
    ap (λ v. Some (St a v)) (m_again (fields_of (St a address)) address refl (below (omega (arith, h.1.0, small.instructions, small.words, small.info))))
instr_again shape small (Ldx a b address length line) h line_fits =
    ap (λ v. Some (Ldx a b v (natural_at 36 (instr_bytes (Ldx a b address length line))) (natural_at 4 (instr_bytes (Ldx a b address length line))))) (m_again (fields_of (Ldx a b address length line)) address refl (below (omega (arith, h.1.1.0.1, small.instructions, small.words, small.info))))
    ∙ ap (λ v. Some (Ldx a b address v (natural_at 4 (instr_bytes (Ldx a b address length line))))) (n_again (fields_of (Ldx a b address length line)) length refl (below (omega (arith, h.1.1.0.1, small.instructions, small.words, small.info))))
    ∙ ap (λ v. Some (Ldx a b address length v)) (line_again (fields_of (Ldx a b address length line)) line_fits)
instr_again shape small (Stx a b address length line) h line_fits =
    ap (λ v. Some (Stx a b v (natural_at 36 (instr_bytes (Stx a b address length line))) (natural_at 4 (instr_bytes (Stx a b address length line))))) (m_again (fields_of (Stx a b address length line)) address refl (below (omega (arith, h.1.1.0.1, small.instructions, small.words, small.info))))
    ∙ ap (λ v. Some (Stx a b address v (natural_at 4 (instr_bytes (Stx a b address length line))))) (n_again (fields_of (Stx a b address length line)) length refl (below (omega (arith, h.1.1.0.1, small.instructions, small.words, small.info))))
    ∙ ap (λ v. Some (Stx a b address length v)) (line_again (fields_of (Stx a b address length line)) line_fits)
instr_again shape small (Mov a b) h line_fits = refl
instr_again shape small (Add a b c) h line_fits = refl
instr_again shape small (Sub a b c) h line_fits = refl
instr_again shape small (Mul a b c) h line_fits = refl
instr_again shape small (Neg a b) h line_fits = refl
instr_again shape small (Mac a b c) h line_fits = refl
instr_again shape small (Div a b c line) h line_fits =
    ap (λ v. Some (Div a b c v)) (line_again (fields_of (Div a b c line)) line_fits)
instr_again shape small (Mod a b c line) h line_fits =
    ap (λ v. Some (Mod a b c v)) (line_again (fields_of (Mod a b c line)) line_fits)
instr_again shape small (Scl a b channel) h line_fits =
    ap (λ v. Some (Scl a b v)) (m_again (fields_of (Scl a b channel)) channel refl (below (omega (arith, h.1.1.0, small.instructions, small.words, small.info))))
instr_again shape small (Jmp target) h line_fits =
    ap (λ v. Some (Jmp v)) (m_again (fields_of (Jmp target)) target refl (below (omega (arith, h.0, small.instructions, small.words, small.info))))
instr_again shape small (Blt a b target) h line_fits =
    ap (λ v. Some (Blt a b v)) (m_again (fields_of (Blt a b target)) target refl (below (omega (arith, h.1.1.0, small.instructions, small.words, small.info))))
instr_again shape small (Beq a b target) h line_fits =
    ap (λ v. Some (Beq a b v)) (m_again (fields_of (Beq a b target)) target refl (below (omega (arith, h.1.1.0, small.instructions, small.words, small.info))))
instr_again shape small (Chk a low high line) h line_fits =
    ap (λ v. Some (Chk a v (integer_at 24 (instr_bytes (Chk a low high line))) (natural_at 4 (instr_bytes (Chk a low high line))))) (p_again (fields_of (Chk a low high line)) (fits shape.set low small.bound h.1.0.0))
    ∙ ap (λ v. Some (Chk a low v (natural_at 4 (instr_bytes (Chk a low high line))))) (q_again (fields_of (Chk a low high line)) (fits shape.set high small.bound h.1.0.1))
    ∙ ap (λ v. Some (Chk a low high v)) (line_again (fields_of (Chk a low high line)) line_fits)
instr_again shape small (In a low high line) h line_fits =
    ap (λ v. Some (In a v (integer_at 24 (instr_bytes (In a low high line))) (natural_at 4 (instr_bytes (In a low high line))))) (p_again (fields_of (In a low high line)) (fits shape.set low small.bound h.1.0.0))
    ∙ ap (λ v. Some (In a low v (natural_at 4 (instr_bytes (In a low high line))))) (q_again (fields_of (In a low high line)) (fits shape.set high small.bound h.1.0.1))
    ∙ ap (λ v. Some (In a low high v)) (line_again (fields_of (In a low high line)) line_fits)
instr_again shape small (Out a) h line_fits = refl
instr_again shape small (Call target line) h line_fits =
    ap (λ v. Some (Call v (natural_at 4 (instr_bytes (Call target line))))) (m_again (fields_of (Call target line)) target refl (below (omega (arith, h.0, small.instructions, small.words, small.info))))
    ∙ ap (λ v. Some (Call target v)) (line_again (fields_of (Call target line)) line_fits)
instr_again shape small (Ret line) h line_fits =
    ap (λ v. Some (Ret v)) (line_again (fields_of (Ret line)) line_fits)
instr_again shape small (Trp kind line) h line_fits =
    ap (λ v. Some (Trp v (natural_at 4 (instr_bytes (Trp kind line))))) (m_again (fields_of (Trp kind line)) kind refl (below (omega (arith, h.0, small.instructions, small.words, small.info))))
    ∙ ap (λ v. Some (Trp kind v)) (line_again (fields_of (Trp kind line)) line_fits)
