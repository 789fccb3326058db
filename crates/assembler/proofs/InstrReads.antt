-- An instruction is told by its word and its fields.
use Rattle.std.proofs.Common.{◌≡◌, ◌↔◌, ℕ, ℤ, pos, true, false, not, List, [], ◌∷◌, Option, Some, codes, find, refl, sym, ap, ◌∙◌, subst}
use Rattle.std.specs.Borrow.{Bor}
use Rattle.std.specs.Str.{bytes_eq}
use Rattle.plain_text.specs.Lookup.{lookup}
use Rattle.machine_table.specs.declared.instr.Instr.{Instr}
use Rattle.machine_table.specs.declared.instr.Instr.TheVariants.{Halt, Ldi, Ld, St, Ldx, Stx, Mov, Add, Sub, Mul, Neg, Mac, Div, Mod, Scl, Jmp, Blt, Beq, Chk, In, Out, Call, Ret, Trp}
use Rattle.assembler.specs.declared.fields.Fields.{Fields}
use Rattle.assembler.specs.declared.fields.Form.{Form}
use Rattle.assembler.specs.declared.fields.Target.TheVariants.{Place, Name}
use Rattle.assembler.specs.declared.opcode.Opcode.{Opcode}
use Rattle.assembler.specs.declared.opcode.Opcode.TheVariants as op
use Rattle.assembler.specs.Fields.{fields_of, mnemonic_of}
use Rattle.assembler.specs.Words.{Places}
use Rattle.assembler.specs.Statements.{IsInstruction, WriteAll, an_instruction}
use Rattle.assembler.specs.Assembly.{has_instruction}
use Rattle.assembler.specs.Reading.{says_instr, says_jump, with_target}
use Rattle.assembler.specs.Forms.{AreFields, AreNoFields, GoesTo, Parts, form_fields, instr_of, parts_at, word_of}
use Rattle.assembler.specs.Lines.{IsInstructionSaid}

abbrev pub opcode_of : Instr → Opcode
opcode_of Halt = op.Halt
opcode_of (Ldi a x) = op.Ldi
opcode_of (Ld a n) = op.Ld
opcode_of (St a n) = op.St
opcode_of (Ldx a b n o q) = op.Ldx
opcode_of (Stx a b n o q) = op.Stx
opcode_of (Mov a b) = op.Mov
opcode_of (Add a b c) = op.Add
opcode_of (Sub a b c) = op.Sub
opcode_of (Mul a b c) = op.Mul
opcode_of (Neg a b) = op.Neg
opcode_of (Mac a b c) = op.Mac
opcode_of (Div a b c n) = op.Div
opcode_of (Mod a b c n) = op.Mod
opcode_of (Scl a b n) = op.Scl
opcode_of (Jmp p) = op.Jmp
opcode_of (Blt a b p) = op.Blt
opcode_of (Beq a b p) = op.Beq
opcode_of (Chk a x y n) = op.Chk
opcode_of (In a x y n) = op.In
opcode_of (Out a) = op.Out
opcode_of (Call p n) = op.Call
opcode_of (Ret n) = op.Ret
opcode_of (Trp n o) = op.Trp

-- its fields, and 0 for those that it doesn't have
abbrev parts : ℕ → ℕ → ℕ → ℤ → ℤ → ℕ → ℕ → ℕ → ℕ → Parts
parts a b c x y p n o q = record { registers = (a, (b, c)); integers = (x, y); place = p; naturals = (n, (o, q)) }

abbrev parts_of : Instr → Parts
parts_of Halt = parts 0 0 0 (pos 0) (pos 0) 0 0 0 0
parts_of (Ldi a x) = parts a 0 0 x (pos 0) 0 0 0 0
parts_of (Ld a n) = parts a 0 0 (pos 0) (pos 0) 0 n 0 0
parts_of (St a n) = parts a 0 0 (pos 0) (pos 0) 0 n 0 0
parts_of (Ldx a b n o q) = parts a b 0 (pos 0) (pos 0) 0 n o q
parts_of (Stx a b n o q) = parts a b 0 (pos 0) (pos 0) 0 n o q
parts_of (Mov a b) = parts a b 0 (pos 0) (pos 0) 0 0 0 0
parts_of (Add a b c) = parts a b c (pos 0) (pos 0) 0 0 0 0
parts_of (Sub a b c) = parts a b c (pos 0) (pos 0) 0 0 0 0
parts_of (Mul a b c) = parts a b c (pos 0) (pos 0) 0 0 0 0
parts_of (Neg a b) = parts a b 0 (pos 0) (pos 0) 0 0 0 0
parts_of (Mac a b c) = parts a b c (pos 0) (pos 0) 0 0 0 0
parts_of (Div a b c n) = parts a b c (pos 0) (pos 0) 0 n 0 0
parts_of (Mod a b c n) = parts a b c (pos 0) (pos 0) 0 n 0 0
parts_of (Scl a b n) = parts a b 0 (pos 0) (pos 0) 0 n 0 0
parts_of (Jmp p) = parts 0 0 0 (pos 0) (pos 0) p 0 0 0
parts_of (Blt a b p) = parts a b 0 (pos 0) (pos 0) p 0 0 0
parts_of (Beq a b p) = parts a b 0 (pos 0) (pos 0) p 0 0 0
parts_of (Chk a x y n) = parts a 0 0 x y 0 n 0 0
parts_of (In a x y n) = parts a 0 0 x y 0 n 0 0
parts_of (Out a) = parts a 0 0 (pos 0) (pos 0) 0 0 0 0
parts_of (Call p n) = parts 0 0 0 (pos 0) (pos 0) p n 0 0
parts_of (Ret n) = parts 0 0 0 (pos 0) (pos 0) 0 n 0 0
parts_of (Trp n o) = parts 0 0 0 (pos 0) (pos 0) 0 n o 0

instr_of-parts : (instr : Instr) → instr_of (opcode_of instr) (parts_of instr) ≡ instr
instr_of-parts Halt = refl
instr_of-parts instr = refl

pub word_of-opcode : (instr : Instr) → mnemonic_of instr ≡ word_of (opcode_of instr)
word_of-opcode Halt = refl
word_of-opcode instr = refl

mnemonic_of-instr : (opcode : Opcode) (parts : Parts) → mnemonic_of (instr_of opcode parts) ≡ word_of opcode
mnemonic_of-instr op.Halt parts = refl
mnemonic_of-instr opcode parts = refl

pub with_target-instr : (opcode : Opcode) (fields : Fields) (p q : ℕ) → with_target p (instr_of opcode (parts_at fields q)) ≡ instr_of opcode (parts_at fields p)
with_target-instr op.Halt fields p q = refl
with_target-instr opcode fields p q = refl

fields_tell : (opcode : Opcode) (one other : Parts) → fields_of (instr_of opcode one) ≡ fields_of (instr_of opcode other) → instr_of opcode one ≡ instr_of opcode other
fields_tell op.Halt one other h = cc
fields_tell opcode one other h = cc

pub word_of-data : (opcode : Opcode) → bytes_eq (word_of opcode) (codes "data") ≡ false
word_of-data op.Halt = refl
word_of-data opcode = refl

-- ---- words
all_opcodes : List Opcode
all_opcodes = op.Halt ∷ op.Ldi ∷ op.Ld ∷ op.St ∷ op.Ldx ∷ op.Stx ∷ op.Mov ∷ op.Add ∷ op.Sub ∷ op.Mul ∷ op.Neg ∷ op.Mac ∷ op.Div ∷ op.Mod ∷ op.Scl ∷ op.Jmp ∷ op.Blt ∷ op.Beq ∷ op.Chk ∷ op.In ∷ op.Out ∷ op.Call ∷ op.Ret ∷ op.Trp ∷ []

opcode_named : List ℕ → Option Opcode
opcode_named word = find (λ opcode. bytes_eq word (word_of opcode)) all_opcodes

opcode_named-word : (opcode : Opcode) → opcode_named (word_of opcode) ≡ Some opcode
unfolding opcode_named all_opcodes
opcode_named-word op.Halt = refl
opcode_named-word opcode = refl

word_tells : (one other : Opcode) → word_of one ≡ word_of other → one ≡ other
word_tells one other h =
    let same : Some one ≡ Some other = sym (opcode_named-word one) ∙ ap opcode_named h ∙ opcode_named-word other in cc

-- ---- the instructions that words are
-- no opcode has the word
pub no_word : (word : List ℕ) (words : List (List ℕ)) → ((opcode : Opcode) → word ≡ word_of opcode → ⊥) → (places : Places) (instr : Instr) → IsInstruction places (word ∷ words) instr → ⊥
no_word word words none places instr h = none (opcode_of instr) (h.0 ∙ word_of-opcode instr)

-- the parts of an instruction of the opcode
instr_of-same : (opcode : Opcode) (instr : Instr) → word_of opcode ≡ mnemonic_of instr → instr_of opcode (parts_of instr) ≡ instr
instr_of-same opcode instr h =
    ap (λ k. instr_of k (parts_of instr)) (word_tells opcode (opcode_of instr) (h ∙ word_of-opcode instr)) ∙ instr_of-parts instr

form_written : (opcode : Opcode) (form : Form) (words : List (List ℕ)) → ((parts : Parts) → fields_of (instr_of opcode parts) ≡ form_fields form parts)
    → (places : Places) (instr : Instr) → IsInstruction places (word_of opcode ∷ words) instr → WriteAll places words (form_fields form (parts_of instr))
form_written opcode form words formed places instr h =
    subst (WriteAll places words) (sym (ap fields_of (instr_of-same opcode instr h.0)) ∙ formed (parts_of instr)) h.1

pub no_form : (opcode : Opcode) (form : Form) (words : List (List ℕ)) → ((parts : Parts) → fields_of (instr_of opcode parts) ≡ form_fields form parts) → AreNoFields form words
    → (places : Places) (instr : Instr) → IsInstruction places (word_of opcode ∷ words) instr → ⊥
no_form opcode form words formed none places instr h = none places (parts_of instr) (form_written opcode form words formed places instr h)

pub instr_read : (opcode : Opcode) (form : Form) (words : List (List ℕ)) (fields : Fields) → ((parts : Parts) → fields_of (instr_of opcode parts) ≡ form_fields form parts) → AreFields form words fields
    → (places : Places) (instr : Instr) → IsInstruction places (word_of opcode ∷ words) instr ↔ ((p : ℕ) × GoesTo fields.target places p × (instr ≡ instr_of opcode (parts_at fields p)))
instr_read opcode form words fields formed read places instr = (
  λ h.
      let found = (read places (parts_of instr)).0 (form_written opcode form words formed places instr h) in (
        found.0,
        found.1,
        sym (instr_of-same opcode instr h.0)
            ∙ fields_tell opcode (parts_of instr) (parts_at fields found.0) (formed (parts_of instr) ∙ found.2 ∙ sym (formed (parts_at fields found.0))),
      ),
  λ h.
      let written = subst (WriteAll places words) (sym (formed (parts_at fields h.0))) ((read places (parts_at fields h.0)).1 (h.0, h.1, refl)) in
      subst (IsInstruction places (word_of opcode ∷ words)) (sym h.2) (sym (mnemonic_of-instr opcode (parts_at fields h.0)), written),
)

-- ---- what they say
-- the opcode of a word, the form of its instructions, and the fields that the words after it write
pub record IsReadInstr (word : List ℕ) (words : List (List ℕ)) (opcode : Opcode) (form : Form) (fields : Fields) : Type 0 where
  pub named : word ≡ word_of opcode
  pub formed : (parts : Parts) → fields_of (instr_of opcode parts) ≡ form_fields form parts
  pub read : AreFields form words fields

counted : (word : List ℕ) (words : List (List ℕ)) (opcode : Opcode) → word ≡ word_of opcode → has_instruction (word ∷ words) ≡ true
counted word words opcode named = ap (λ t. not t) (ap (λ w. bytes_eq w (codes "data")) named ∙ word_of-data opcode)

read_as : (word : List ℕ) (words : List (List ℕ)) (opcode : Opcode) (form : Form) (fields : Fields) → IsReadInstr word words opcode form fields → (places : Places) (instr : Instr)
    → IsInstruction places (word ∷ words) instr ↔ ((p : ℕ) × GoesTo fields.target places p × (instr ≡ instr_of opcode (parts_at fields p)))
read_as word words opcode form fields h places instr =
    subst (λ w. IsInstruction places (w ∷ words) instr ↔ ((p : ℕ) × GoesTo fields.target places p × (instr ≡ instr_of opcode (parts_at fields p)))) (sym h.named)
    (instr_read opcode form words fields h.formed h.read places instr)

pub placed_said : (word : List ℕ) (words : List (List ℕ)) (opcode : Opcode) (form : Form) (fields : Fields) (n : ℕ) → IsReadInstr word words opcode form fields → fields.target ≡ Place n
    → IsInstructionSaid (word ∷ words) (says_instr (instr_of opcode (parts_at fields n)))
placed_said word words opcode form fields n h target = record {
  means = λ places instr.
      let read = read_as word words opcode form fields h places instr in (
        λ is.
            let found = read.0 is in
            let there : found.0 ≡ n = subst (λ t. GoesTo t places found.0) target found.1 in
            ap an_instruction (found.2 ∙ ap (λ p. instr_of opcode (parts_at fields p)) there),
        λ is. let same : instr ≡ instr_of opcode (parts_at fields n) = cc in read.1 (n, subst (λ t. GoesTo t places n) (sym target) refl, same),
      );
  is = refl;
  counts = counted word words opcode h.named;
}

pub named_said : (word : List ℕ) (words : List (List ℕ)) (opcode : Opcode) (form : Form) (fields : Fields) (name : Bor (List ℕ)) → IsReadInstr word words opcode form fields → fields.target ≡ Name name
    → IsInstructionSaid (word ∷ words) (says_jump (instr_of opcode (parts_at fields 0)) name.now)
named_said word words opcode form fields name h target = record {
  means = λ places instr.
      let read = read_as word words opcode form fields h places instr in (
        λ is.
            let found = read.0 is in
            let there : lookup name.now places ≡ Some found.0 = subst (λ t. GoesTo t places found.0) target found.1 in
            (found.0, there, ap an_instruction (found.2 ∙ sym (with_target-instr opcode fields found.0 0))),
        λ is.
            let said = is.2 in
            let same : instr ≡ with_target is.0 (instr_of opcode (parts_at fields 0)) = cc in
            read.1 (is.0, subst (λ t. GoesTo t places is.0) (sym target) is.1, same ∙ with_target-instr opcode fields is.0 0),
      );
  is = refl;
  counts = counted word words opcode h.named;
}
