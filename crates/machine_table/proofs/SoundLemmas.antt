-- The sound programs are those without a fault.
use Rattle.std.proofs.Common.{◌≡◌, ℕ, ◌+◌, ℤ, Bool, true, false, not, cond, ◌||◌, nat_lt, nat_eq, int_le, List, [], ◌∷◌, All, length, Option, Some, None, refl, arith}
use Rattle.std.specs.List.{AllByRecursion}
use Rattle.std.proofs.lemmas.Int.{ints}
use Rattle.std.proofs.lemmas.Bool.{ltb-false, le-ltb, or_parts, or_from}
use Rattle.std.proofs.lemmas.Bool.Decides.{nat_tests}
use Rattle.std.proofs.lemmas.List.Elements.{All-from_recursion, recursion_from_All}
use Rattle.moduli_sets.specs.Set.{ModuliSet, IsInRange}
use Rattle.machine_table.specs.declared.fault.ObjectFault.{ObjectFault}
use Rattle.machine_table.specs.declared.fault.ObjectFault.TheVariants.{TooMuchCode, TooMuchData, BadRegister, BadTarget, BadAddress, BadConstant, BadDatum}
use Rattle.machine_table.specs.declared.instr.Instr.{Instr}
use Rattle.machine_table.specs.Operands.{Operand, register, constant, interval, address, block, target, channel, kind, operands_of, Shape, IsSoundOperand}
use Rattle.machine_table.specs.Faults.{most_instructions, most_words, shape_of, IsSound, is_outside, is_bad_register, is_bad_target, is_bad_address, is_bad_constant, some_is, operands_fault, or_fault, code_fault, words_fault, object_fault}

-- ---- a choice of nothing
-- where a choice is none, its test failed, and the rest is none
none_parts : {A : Type 0} (b : Bool) (x : A) (next : Option A) → cond b (Some x) next ≡ None → (b ≡ false) × (next ≡ None)
none_parts true x next e = absurd cc
none_parts false x next e = (refl, e)

none_from : {A : Type 0} (b : Bool) (x : A) (next : Option A) → b ≡ false → next ≡ None → cond b (Some x) next ≡ None
none_from true x next e h = absurd cc
none_from false x next e h = h

or_fault-parts : (a b : Option ObjectFault) → or_fault a b ≡ None → (a ≡ None) × (b ≡ None)
or_fault-parts (Some fault) b e = absurd cc
or_fault-parts None b e = (refl, e)

or_fault-none : (a b : Option ObjectFault) → a ≡ None → b ≡ None → or_fault a b ≡ None
or_fault-none (Some fault) b e h = absurd cc
or_fault-none None b e h = h

-- ---- integers in range
inside : (set : ModuliSet) (x : ℤ) → is_outside set x ≡ false → IsInRange set x
inside set x e = record { low = grind (arith, ints); high = grind (arith, ints) }

not_outside : (set : ModuliSet) (x : ℤ) → IsInRange set x → is_outside set x ≡ false
not_outside set x h = let low = h.low in let high = h.high in grind (arith, ints)

-- ---- operands
-- none of the four tests holds of the operand
record IsFine (shape : Shape) (operand : Operand) : Type 0 where
  registers : is_bad_register shape operand ≡ false
  targets : is_bad_target shape operand ≡ false
  addresses : is_bad_address shape operand ≡ false
  constants : is_bad_constant shape operand ≡ false

sound_from_fine : (shape : Shape) (operand : Operand) → IsFine shape operand → IsSoundOperand shape operand
sound_from_fine shape (register r) h = ltb-false 15 r h.registers
sound_from_fine shape (constant x) h = inside shape.set x h.constants
sound_from_fine shape (interval low high) h =
    let ends = or_parts (is_outside shape.set low || is_outside shape.set high) (not (int_le low high)) h.constants in
    let range = or_parts (is_outside shape.set low) (is_outside shape.set high) ends.0 in
    let test = ends.1 in
    (inside shape.set low range.0, inside shape.set high range.1, grind (arith, ints))
sound_from_fine shape (address p) h = let test = h.addresses in grind (arith, nat_tests)
sound_from_fine shape (block p q) h =
    let ends = or_parts (nat_eq q 0) (nat_lt shape.words (p + q)) h.addresses in
    let empty = ends.0 in
    (grind (arith, nat_tests), ltb-false shape.words (p + q) ends.1)
sound_from_fine shape (target p) h = ltb-false shape.instructions p h.targets
sound_from_fine shape (channel s) h = let test = h.constants in grind (arith, nat_tests)
sound_from_fine shape (kind k) h = ltb-false 6 k h.constants

fine_from_sound : (shape : Shape) (operand : Operand) → IsSoundOperand shape operand → IsFine shape operand
fine_from_sound shape (register r) h = record { registers = le-ltb 15 r h; targets = refl; addresses = refl; constants = refl }
fine_from_sound shape (constant x) h = record { registers = refl; targets = refl; addresses = refl; constants = not_outside shape.set x h }
fine_from_sound shape (interval low high) h =
    let ordered = h.2 in
    let test : not (int_le low high) ≡ false = grind (arith, ints) in
    let range = or_from (is_outside shape.set low) (is_outside shape.set high) (not_outside shape.set low h.0) (not_outside shape.set high h.1) in
    record { registers = refl; targets = refl; addresses = refl; constants = or_from (is_outside shape.set low || is_outside shape.set high) (not (int_le low high)) range test }
fine_from_sound shape (address p) h = record { registers = refl; targets = refl; addresses = grind (arith, nat_tests); constants = refl }
fine_from_sound shape (block p q) h =
    let some = h.0 in
    let test : nat_eq q 0 ≡ false = grind (arith, nat_tests) in
    record { registers = refl; targets = refl; addresses = or_from (nat_eq q 0) (nat_lt shape.words (p + q)) test (le-ltb shape.words (p + q) h.1); constants = refl }
fine_from_sound shape (target p) h = record { registers = refl; targets = le-ltb shape.instructions p h; addresses = refl; constants = refl }
fine_from_sound shape (channel s) h = record { registers = refl; targets = refl; addresses = refl; constants = grind (arith, nat_tests) }
fine_from_sound shape (kind k) h = record { registers = refl; targets = refl; addresses = refl; constants = le-ltb 6 k h }

-- ---- the operands of an instruction
operands_sound : (shape : Shape) (operands : List Operand) → some_is (is_bad_register shape) operands ≡ false → some_is (is_bad_target shape) operands ≡ false
    → some_is (is_bad_address shape) operands ≡ false → some_is (is_bad_constant shape) operands ≡ false → AllByRecursion (IsSoundOperand shape) operands
operands_sound shape [] r t a c = tt
operands_sound shape (operand ∷ operands) r t a c =
    let rs = or_parts (is_bad_register shape operand) (some_is (is_bad_register shape) operands) r in
    let ts = or_parts (is_bad_target shape operand) (some_is (is_bad_target shape) operands) t in
    let as_ = or_parts (is_bad_address shape operand) (some_is (is_bad_address shape) operands) a in
    let cs = or_parts (is_bad_constant shape operand) (some_is (is_bad_constant shape) operands) c in
    (sound_from_fine shape operand (record { registers = rs.0; targets = ts.0; addresses = as_.0; constants = cs.0 }), operands_sound shape operands rs.1 ts.1 as_.1 cs.1)

-- a test that holds of no sound operand holds of none of these
none_is : (shape : Shape) (is_bad : Operand → Bool) → ((operand : Operand) → IsFine shape operand → is_bad operand ≡ false)
    → (operands : List Operand) → AllByRecursion (IsSoundOperand shape) operands → some_is is_bad operands ≡ false
none_is shape is_bad fine [] h = refl
none_is shape is_bad fine (operand ∷ operands) h =
    or_from (is_bad operand) (some_is is_bad operands) (fine operand (fine_from_sound shape operand h.0)) (none_is shape is_bad fine operands h.1)

operands_fault-sound : (shape : Shape) (operands : List Operand) (n : ℕ) → operands_fault shape operands n ≡ None → AllByRecursion (IsSoundOperand shape) operands
operands_fault-sound shape operands n e =
    let r = none_parts (some_is (is_bad_register shape) operands) (BadRegister n) _ e in
    let t = none_parts (some_is (is_bad_target shape) operands) (BadTarget n) _ r.1 in
    let a = none_parts (some_is (is_bad_address shape) operands) (BadAddress n) _ t.1 in
    let c = none_parts (some_is (is_bad_constant shape) operands) (BadConstant n) _ a.1 in
    operands_sound shape operands r.0 t.0 a.0 c.0

operands_fault-none : (shape : Shape) (operands : List Operand) (n : ℕ) → AllByRecursion (IsSoundOperand shape) operands → operands_fault shape operands n ≡ None
operands_fault-none shape operands n h =
    none_from _ (BadRegister n) _ (none_is shape (is_bad_register shape) (λ o fine. fine.registers) operands h)
    (none_from _ (BadTarget n) _ (none_is shape (is_bad_target shape) (λ o fine. fine.targets) operands h)
    (none_from _ (BadAddress n) _ (none_is shape (is_bad_address shape) (λ o fine. fine.addresses) operands h)
    (none_from _ (BadConstant n) None (none_is shape (is_bad_constant shape) (λ o fine. fine.constants) operands h) refl)))

-- ---- code and data words
abbrev IsSoundInstr : Shape → Instr → Type 0
IsSoundInstr shape instr = All (IsSoundOperand shape) (operands_of instr)

code_sound : (shape : Shape) (n : ℕ) (code : List Instr) → code_fault shape n code ≡ None → AllByRecursion (IsSoundInstr shape) code
code_sound shape n [] e = tt
code_sound shape n (instr ∷ code) e =
    let parts = or_fault-parts (operands_fault shape (operands_of instr) n) (code_fault shape (n + 1) code) e in
    (All-from_recursion (IsSoundOperand shape) (operands_of instr) (operands_fault-sound shape (operands_of instr) n parts.0), code_sound shape (n + 1) code parts.1)

code_fault-none : (shape : Shape) (n : ℕ) (code : List Instr) → AllByRecursion (IsSoundInstr shape) code → code_fault shape n code ≡ None
code_fault-none shape n [] h = refl
code_fault-none shape n (instr ∷ code) h =
    or_fault-none (operands_fault shape (operands_of instr) n) (code_fault shape (n + 1) code)
    (operands_fault-none shape (operands_of instr) n (recursion_from_All (IsSoundOperand shape) (operands_of instr) h.0)) (code_fault-none shape (n + 1) code h.1)

words_sound : (set : ModuliSet) (n : ℕ) (words : List ℤ) → words_fault set n words ≡ None → AllByRecursion (IsInRange set) words
words_sound set n [] e = tt
words_sound set n (x ∷ words) e =
    let parts = none_parts (is_outside set x) (BadDatum n) (words_fault set (n + 1) words) e in
    (inside set x parts.0, words_sound set (n + 1) words parts.1)

words_fault-none : (set : ModuliSet) (n : ℕ) (words : List ℤ) → AllByRecursion (IsInRange set) words → words_fault set n words ≡ None
words_fault-none set n [] h = refl
words_fault-none set n (x ∷ words) h =
    none_from (is_outside set x) (BadDatum n) (words_fault set (n + 1) words) (not_outside set x h.0) (words_fault-none set (n + 1) words h.1)

-- ---- programs
pub IsSound-from_none : (set : ModuliSet) (code : List Instr) (words : List ℤ) → object_fault set code words ≡ None → IsSound set code words
IsSound-from_none set code words e =
    let shape = shape_of set code words in
    let long = none_parts (nat_lt most_instructions (length code)) TooMuchCode _ e in
    let wide = none_parts (nat_lt most_words (length words)) TooMuchData _ long.1 in
    let parts = or_fault-parts (code_fault shape 0 code) (words_fault set 0 words) wide.1 in
    record {
      code_fits = ltb-false most_instructions (length code) long.0;
      words_fit = ltb-false most_words (length words) wide.0;
      operands = All-from_recursion (IsSoundInstr shape) code (code_sound shape 0 code parts.0);
      in_range = All-from_recursion (IsInRange set) words (words_sound set 0 words parts.1);
    }

pub object_fault-none : (set : ModuliSet) (code : List Instr) (words : List ℤ) → IsSound set code words → object_fault set code words ≡ None
object_fault-none set code words h =
    let shape = shape_of set code words in
    none_from _ TooMuchCode _ (le-ltb most_instructions (length code) h.code_fits)
    (none_from _ TooMuchData _ (le-ltb most_words (length words) h.words_fit)
    (or_fault-none (code_fault shape 0 code) (words_fault set 0 words)
    (code_fault-none shape 0 code (recursion_from_All (IsSoundInstr shape) code h.operands))
    (words_fault-none set 0 words (recursion_from_All (IsInRange set) words h.in_range))))
