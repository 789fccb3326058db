-- A line says one statement at the most.
use Rattle.std.proofs.Common.{◌≡◌, ℕ, ℤ, pos, false, List, [], ◌∷◌, map, refl, sym, ap, ◌∙◌, subst, inl, inr, arith}
use Rattle.std.specs.Prelude.{codes, slice_index_or, if◌then◌else◌, IsTrue}
use Rattle.std.specs.Str.{bytes_eq}
use Rattle.std.proofs.lemmas.Bool.{false≢true}
use Rattle.std.proofs.lemmas.Bool.Decides.{nat_tests}
use Rattle.std.proofs.lemmas.Slice.Eq.{bytes_eq-Decides}
use Rattle.machine_table.specs.declared.instr.Instr.{Instr}
use Rattle.machine_table.specs.declared.instr.Instr.TheVariants.{Halt, Ldi, Ld, St, Ldx, Stx, Mov, Add, Sub, Mul, Neg, Mac, Div, Mod, Scl, Jmp, Blt, Beq, Chk, In, Out, Call, Ret, Trp}
use Rattle.plain_text.specs.Digits.{IsWholeNumber}
use Rattle.assembler.specs.Fields.{Field, a_register, an_integer, a_natural, a_place, mnemonic_of, fields_of}
use Rattle.assembler.specs.Words.{Places, Writes, is_name}
use Rattle.assembler.specs.Statements.{Statement, IsInstruction, IsStatement, WriteAll, no_statement, an_instruction, a_datum, without_label}

-- ---- a word and a field
-- the number of the kind of a field
abbrev kind_number : Field → ℕ
kind_number (a_register r) = 0
kind_number (an_integer x) = 1
kind_number (a_natural n) = 2
kind_number (a_place n) = 3

-- a name begins with a letter, digits with a digit
pub digits-no_name : (word : List ℕ) → IsWholeNumber word → IsTrue (is_name word) → ⊥
digits-no_name [] d n = omega (arith, d.0)
digits-no_name (b ∷ bytes) d n = let digit = d.1.0 in grind (arith, nat_tests)

-- a word writes one field of a kind at the most
field_one : (places : Places) (word : List ℕ) (field field' : Field) → kind_number field ≡ kind_number field' → Writes places word field → Writes places word field' → field ≡ field'
field_one places word (a_register r) (a_register r') k h h' = let e = h.1 in let e' = h'.1 in let v = h.4 in let v' = h'.4 in cc
field_one places word (a_register r) (an_integer x) k h h' = absurd (omega arith)
field_one places word (a_register r) (a_natural n) k h h' = absurd (omega arith)
field_one places word (a_register r) (a_place n) k h h' = absurd (omega arith)
field_one places word (an_integer x) (a_register r) k h h' = absurd (omega arith)
field_one places word (an_integer x) (an_integer x') k h h' = let v = h.1 in let v' = h'.1 in cc
field_one places word (an_integer x) (a_natural n) k h h' = absurd (omega arith)
field_one places word (an_integer x) (a_place n) k h h' = absurd (omega arith)
field_one places word (a_natural n) (a_register r) k h h' = absurd (omega arith)
field_one places word (a_natural n) (an_integer x) k h h' = absurd (omega arith)
field_one places word (a_natural n) (a_natural n') k h h' = let v = h.1 in let v' = h'.1 in cc
field_one places word (a_natural n) (a_place n') k h h' = absurd (omega arith)
field_one places word (a_place n) (a_register r) k h h' = absurd (omega arith)
field_one places word (a_place n) (an_integer x) k h h' = absurd (omega arith)
field_one places word (a_place n) (a_natural n') k h h' = absurd (omega arith)
field_one places word (a_place n) (a_place n') k (inl h) (inl h') = let v = h.1 in let v' = h'.1 in cc
field_one places word (a_place n) (a_place n') k (inl h) (inr h') = absurd (digits-no_name word h.0 h'.0)
field_one places word (a_place n) (a_place n') k (inr h) (inl h') = absurd (digits-no_name word h'.0 h.0)
field_one places word (a_place n) (a_place n') k (inr h) (inr h') = let v = h.1 in let v' = h'.1 in cc

first_kind : (field field' : Field) (fields fields' : List Field) → map kind_number (field ∷ fields) ≡ map kind_number (field' ∷ fields') → (kind_number field ≡ kind_number field') × (map kind_number fields ≡ map kind_number fields')
first_kind field field' fields fields' e = (cc, cc)

-- words write one list of fields of given kinds at the most
fields_one : (places : Places) (words : List (List ℕ)) (fields fields' : List Field) → map kind_number fields ≡ map kind_number fields' → WriteAll places words fields → WriteAll places words fields' → fields ≡ fields'
fields_one places [] [] [] k h h' = refl
fields_one places [] [] (field' ∷ fields') k h h' = absurd h'
fields_one places [] (field ∷ fields) fields' k h h' = absurd h
fields_one places (word ∷ words) [] fields' k h h' = absurd h
fields_one places (word ∷ words) (field ∷ fields) [] k h h' = absurd h'
fields_one places (word ∷ words) (field ∷ fields) (field' ∷ fields') k h h' =
    let kinds = first_kind field field' fields fields' k in
    let one = field_one places word field field' kinds.0 h.0 h'.0 in
    let rest = fields_one places words fields fields' kinds.1 h.1 h'.1 in
    cc

-- ---- a word and an instruction
-- field k, as a natural number and as an integer
abbrev natural_in : Field → ℕ
natural_in (a_register r) = r
natural_in (an_integer x) = 0
natural_in (a_natural n) = n
natural_in (a_place n) = n

abbrev integer_in : Field → ℤ
integer_in (a_register r) = pos 0
integer_in (an_integer x) = x
integer_in (a_natural n) = pos 0
integer_in (a_place n) = pos 0

abbrev natural_at : List Field → ℕ → ℕ
natural_at fields k = natural_in (slice_index_or fields k (a_natural 0))

abbrev integer_at : List Field → ℕ → ℤ
integer_at fields k = integer_in (slice_index_or fields k (a_natural 0))

-- the instruction of a word and its fields
abbrev instr_of : List ℕ → List Field → Instr
instr_of word fields =
    let n = natural_at fields in
    let z = integer_at fields in
    if bytes_eq word (codes "LDI") then Ldi (n 0) (z 1)
    else if bytes_eq word (codes "LD") then Ld (n 0) (n 1)
    else if bytes_eq word (codes "ST") then St (n 0) (n 1)
    else if bytes_eq word (codes "LDX") then Ldx (n 0) (n 1) (n 2) (n 3) (n 4)
    else if bytes_eq word (codes "STX") then Stx (n 0) (n 1) (n 2) (n 3) (n 4)
    else if bytes_eq word (codes "MOV") then Mov (n 0) (n 1)
    else if bytes_eq word (codes "ADD") then Add (n 0) (n 1) (n 2)
    else if bytes_eq word (codes "SUB") then Sub (n 0) (n 1) (n 2)
    else if bytes_eq word (codes "MUL") then Mul (n 0) (n 1) (n 2)
    else if bytes_eq word (codes "NEG") then Neg (n 0) (n 1)
    else if bytes_eq word (codes "MAC") then Mac (n 0) (n 1) (n 2)
    else if bytes_eq word (codes "DIV") then Div (n 0) (n 1) (n 2) (n 3)
    else if bytes_eq word (codes "MOD") then Mod (n 0) (n 1) (n 2) (n 3)
    else if bytes_eq word (codes "SCL") then Scl (n 0) (n 1) (n 2)
    else if bytes_eq word (codes "JMP") then Jmp (n 0)
    else if bytes_eq word (codes "BLT") then Blt (n 0) (n 1) (n 2)
    else if bytes_eq word (codes "BEQ") then Beq (n 0) (n 1) (n 2)
    else if bytes_eq word (codes "CHK") then Chk (n 0) (z 1) (z 2) (n 3)
    else if bytes_eq word (codes "IN") then In (n 0) (z 1) (z 2) (n 3)
    else if bytes_eq word (codes "OUT") then Out (n 0)
    else if bytes_eq word (codes "CALL") then Call (n 0) (n 1)
    else if bytes_eq word (codes "RET") then Ret (n 0)
    else if bytes_eq word (codes "TRP") then Trp (n 0) (n 1)
    else Halt

-- an instruction is told by its word and its fields
instr_told : (instr : Instr) → instr ≡ instr_of (mnemonic_of instr) (fields_of instr)
instr_told Halt = refl
instr_told (Ldi a value) = refl
instr_told (Ld a p) = refl
instr_told (St a p) = refl
instr_told (Ldx a b p q l) = refl
instr_told (Stx a b p q l) = refl
instr_told (Mov a b) = refl
instr_told (Add a b c) = refl
instr_told (Sub a b c) = refl
instr_told (Mul a b c) = refl
instr_told (Neg a b) = refl
instr_told (Mac a b c) = refl
instr_told (Div a b c l) = refl
instr_told (Mod a b c l) = refl
instr_told (Scl a b s) = refl
instr_told (Jmp p) = refl
instr_told (Blt a b p) = refl
instr_told (Beq a b p) = refl
instr_told (Chk a low high l) = refl
instr_told (In a low high l) = refl
instr_told (Out a) = refl
instr_told (Call p l) = refl
instr_told (Ret l) = refl
instr_told (Trp k l) = refl

-- the word alone tells the kinds of the fields
abbrev kinds_of : List ℕ → List ℕ
kinds_of word = map kind_number (fields_of (instr_of word []))

kinds_told : (instr : Instr) → map kind_number (fields_of instr) ≡ kinds_of (mnemonic_of instr)
kinds_told Halt = refl
kinds_told (Ldi a value) = refl
kinds_told (Ld a p) = refl
kinds_told (St a p) = refl
kinds_told (Ldx a b p q l) = refl
kinds_told (Stx a b p q l) = refl
kinds_told (Mov a b) = refl
kinds_told (Add a b c) = refl
kinds_told (Sub a b c) = refl
kinds_told (Mul a b c) = refl
kinds_told (Neg a b) = refl
kinds_told (Mac a b c) = refl
kinds_told (Div a b c l) = refl
kinds_told (Mod a b c l) = refl
kinds_told (Scl a b s) = refl
kinds_told (Jmp p) = refl
kinds_told (Blt a b p) = refl
kinds_told (Beq a b p) = refl
kinds_told (Chk a low high l) = refl
kinds_told (In a low high l) = refl
kinds_told (Out a) = refl
kinds_told (Call p l) = refl
kinds_told (Ret l) = refl
kinds_told (Trp k l) = refl

-- no word of an instruction is that of a data word, and none is a label
data-no_mnemonic : (instr : Instr) → bytes_eq (codes "data") (mnemonic_of instr) ≡ false
data-no_mnemonic Halt = refl
data-no_mnemonic (Ldi a value) = refl
data-no_mnemonic (Ld a p) = refl
data-no_mnemonic (St a p) = refl
data-no_mnemonic (Ldx a b p q l) = refl
data-no_mnemonic (Stx a b p q l) = refl
data-no_mnemonic (Mov a b) = refl
data-no_mnemonic (Add a b c) = refl
data-no_mnemonic (Sub a b c) = refl
data-no_mnemonic (Mul a b c) = refl
data-no_mnemonic (Neg a b) = refl
data-no_mnemonic (Mac a b c) = refl
data-no_mnemonic (Div a b c l) = refl
data-no_mnemonic (Mod a b c l) = refl
data-no_mnemonic (Scl a b s) = refl
data-no_mnemonic (Jmp p) = refl
data-no_mnemonic (Blt a b p) = refl
data-no_mnemonic (Beq a b p) = refl
data-no_mnemonic (Chk a low high l) = refl
data-no_mnemonic (In a low high l) = refl
data-no_mnemonic (Out a) = refl
data-no_mnemonic (Call p l) = refl
data-no_mnemonic (Ret l) = refl
data-no_mnemonic (Trp k l) = refl

pub mnemonic-no_data : (instr : Instr) → codes "data" ≡ mnemonic_of instr → ⊥
mnemonic-no_data instr e = false≢true (sym (data-no_mnemonic instr) ∙ (bytes_eq-Decides (codes "data") (mnemonic_of instr)).1 e)

instruction_one : (places : Places) (words : List (List ℕ)) (instr instr' : Instr) → IsInstruction places words instr → IsInstruction places words instr' → instr ≡ instr'
instruction_one places [] instr instr' h h' = absurd h
instruction_one places (word ∷ words) instr instr' h h' =
    let same : mnemonic_of instr ≡ mnemonic_of instr' = sym h.0 ∙ h'.0 in
    let kinds : map kind_number (fields_of instr) ≡ map kind_number (fields_of instr') = kinds_told instr ∙ ap kinds_of same ∙ sym (kinds_told instr') in
    let fields = fields_one places words (fields_of instr) (fields_of instr') kinds h.1 h'.1 in
    instr_told instr ∙ ap (λ w. instr_of w (fields_of instr)) same ∙ ap (instr_of (mnemonic_of instr')) fields ∙ sym (instr_told instr')

-- ---- a line
nothing-no_instruction : (places : Places) (words : List (List ℕ)) (instr : Instr) → without_label words ≡ [] → IsInstruction places (without_label words) instr → ⊥
nothing-no_instruction places words instr e h = subst (λ (ws : List (List ℕ)). IsInstruction places ws instr) e h

nothing-no_datum : (word : List ℕ) (words : List (List ℕ)) → without_label words ≡ [] → words ≡ codes "data" ∷ (word ∷ []) → ⊥
nothing-no_datum word words e h = let f : without_label (codes "data" ∷ (word ∷ [])) ≡ [] = subst (λ (ws : List (List ℕ)). without_label ws ≡ []) h e in cc

datum-no_instruction : (places : Places) (word : List ℕ) (words : List (List ℕ)) (instr : Instr) → words ≡ codes "data" ∷ (word ∷ []) → IsInstruction places (without_label words) instr → ⊥
datum-no_instruction places word words instr e h =
    let at_data : IsInstruction places (codes "data" ∷ (word ∷ [])) instr = subst (λ (ws : List (List ℕ)). IsInstruction places (without_label ws) instr) e h in
    mnemonic-no_data instr at_data.0

pub statement_one : (places : Places) (words : List (List ℕ)) (said said' : Statement) → IsStatement places words said → IsStatement places words said' → said ≡ said'
statement_one places words no_statement no_statement h h' = refl
statement_one places words no_statement (an_instruction instr) h h' = absurd (nothing-no_instruction places words instr h h')
statement_one places words no_statement (a_datum x) h h' = absurd (nothing-no_datum h'.0 words h h'.1)
statement_one places words (an_instruction instr) no_statement h h' = absurd (nothing-no_instruction places words instr h' h)
statement_one places words (an_instruction instr) (an_instruction instr') h h' = ap an_instruction (instruction_one places (without_label words) instr instr' h h')
statement_one places words (an_instruction instr) (a_datum x) h h' = absurd (datum-no_instruction places h'.0 words instr h'.1 h)
statement_one places words (a_datum x) no_statement h h' = absurd (nothing-no_datum h.0 words h' h.1)
statement_one places words (a_datum x) (an_instruction instr) h h' = absurd (datum-no_instruction places h.0 words instr h.1 h')
statement_one places words (a_datum x) (a_datum x') h h' = let e = h.1 in let e' = h'.1 in let v = h.2.1 in let v' = h'.2.1 in cc
