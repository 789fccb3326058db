-- Worked rows: what texts spell, why they are refused, and listings, computed from the definitions.
use Rattle.std.proofs.Common.{◌≡◌, ℕ, zero, suc, ◌<◌, pos, negsuc, true, false, List, [], ◌∷◌, ◌++◌, take, refl, sym, ap, ◌∙◌, inl, inr, arith}
use Rattle.std.specs.Prelude.{codes}
use Rattle.std.specs.Fmt.{digits}
use Rattle.std.specs.Str.{bytes_eq}
use Rattle.std.proofs.lemmas.Bool.{false≢true}
use Rattle.std.proofs.lemmas.Slice.Eq.{bytes_eq-Decides}
use Rattle.moduli_sets.specs.declared.set_name.SetName.TheVariants.{Pocket, Hall}
use Rattle.machine_table.specs.declared.fault.ObjectFault.TheVariants.{BadRegister}
use Rattle.machine_table.specs.declared.instr.Instr.{Instr}
use Rattle.machine_table.specs.declared.instr.Instr.TheVariants.{Halt, Ldi, Ld, St, Ldx, Stx, Mov, Add, Sub, Mul, Neg, Mac, Div, Mod, Scl, Jmp, Blt, Beq, Chk, In, Out, Call, Ret, Trp}
use Rattle.assembler.specs.Fields.{mnemonic_of, a_register, a_place}
use Rattle.assembler.specs.Words.{Places, said_in, Writes}
use Rattle.assembler.specs.Statements.{Statement, IsInstruction, IsStatement, is_label, no_statement, an_instruction, a_datum}
use Rattle.assembler.specs.Assembly.{HasForm, IsNew, code_lines, data_lines, line, places_from, set_line, Spells}
use Rattle.assembler.specs.Listing.{listing}
use Rattle.assembler.specs.Assembly.{IsRefusal}
use Rattle.assembler.specs.declared.fault.AsmFault.TheVariants.{BadLine, TwiceNamed, UnknownName, Unsound}

-- a line with its LF, and one with a CR before it
abbrev ended : List ℕ → List ℕ
ended line = line ++ 10 ∷ []

abbrev returned : List ℕ → List ℕ
returned line = line ++ 13 ∷ (10 ∷ [])

-- ---- lines and words
-- a comment begins anywhere, also within a word; spaces and tabs part words
words_of_lines : said_in (ended (codes "# sum") ++ ended (codes "  OUT r0#x") ++ codes "OUT" ++ 9 ∷ codes " r1") ≡ [] ∷ ((codes "OUT" ∷ (codes "r0" ∷ [])) ∷ ((codes "OUT" ∷ (codes "r1" ∷ [])) ∷ []))
words_of_lines = refl

-- one CR right before an LF is none of its line; a second is, and so is one at the end of the text or before a comment
one_return : said_in (returned (codes "HALT")) ≡ (codes "HALT" ∷ []) ∷ ([] ∷ [])
one_return = refl

two_returns : said_in (codes "HALT" ++ 13 ∷ (13 ∷ (10 ∷ []))) ≡ ((codes "HALT" ++ 13 ∷ []) ∷ []) ∷ ([] ∷ [])
two_returns = refl

return_at_the_end : said_in (codes "HALT" ++ 13 ∷ []) ≡ ((codes "HALT" ++ 13 ∷ []) ∷ []) ∷ []
return_at_the_end = refl

return_before_a_comment : said_in (codes "HALT" ++ 13 ∷ ended (codes "#")) ≡ ((codes "HALT" ++ 13 ∷ []) ∷ []) ∷ ([] ∷ [])
return_before_a_comment = refl

-- ---- labels
-- a place is the number of the next instruction: a label alone, two for one place, one at the end; data words count for nothing
label_places : places_from 0 (said_in (ended (codes "a:") ++ ended (codes "b: HALT") ++ ended (codes "data 5") ++ ended (codes "c: d:") ++ codes "e:"))
    ≡ (codes "a", 0) ∷ ((codes "b", 0) ∷ ((codes "c", 1) ∷ ((codes "e", 2) ∷ [])))
label_places = refl

-- a label begins with a letter, and is one word
labels : is_label (codes "a_1:") ≡ true
labels = refl

no_labels : is_label (codes "1a:") ≡ false
no_labels = refl

bare_colon : is_label (codes ":") ≡ false
bare_colon = refl

-- ---- refusals
-- an empty text, and one of comments, has no set line
empty_text : IsRefusal [] (BadLine 1)
empty_text = inr (refl, refl)

comments_alone : IsRefusal (ended (codes "# nothing") ++ codes " ") (BadLine 1)
comments_alone = inr (refl, refl)

-- ---- lines of faults
-- lines count from that of the first statement; blank lines count, and those of data apart from those of code
statement_lines : code_lines 2 (no_statement ∷ (an_instruction Halt ∷ (a_datum (pos 5) ∷ (an_instruction (Ret 7) ∷ [])))) ≡ 3 ∷ (5 ∷ [])
statement_lines = refl

datum_lines : data_lines 2 (no_statement ∷ (an_instruction Halt ∷ (a_datum (pos 5) ∷ (an_instruction (Ret 7) ∷ [])))) ≡ 4 ∷ []
datum_lines = refl

-- ---- listings
halt_listed : listing Pocket (Halt ∷ []) [] ≡ ended (codes "set pocket") ++ ended (codes "HALT")
unfolding listing
halt_listed = refl

-- a line of each kind of field, with data words before the code
fields_listed : listing Hall (Ldx 1 2 3 4 9 ∷ (Chk 15 (negsuc 4) (pos 7) 10 ∷ (Blt 0 1 2 ∷ []))) (pos 0 ∷ (negsuc 6 ∷ []))
    ≡ ended (codes "set hall") ++ ended (codes "data 0") ++ ended (codes "data -7") ++ ended (codes "LDX r1 r2 3 4 9") ++ ended (codes "CHK r15 -5 7 10") ++ ended (codes "BLT r0 r1 2")
unfolding listing digits
fields_listed = refl

-- ---- a text that spells a program
register_0 : Writes [] (codes "r0") (a_register 0)
register_0 = (codes "0", refl, (omega arith, (omega arith, tt)), omega arith, refl, omega arith)

sum_spelled : Spells (ended (codes "set pocket") ++ ended (codes "LDI r0 97") ++ ended (codes "ADD r0 r0 r0") ++ codes "OUT r0") Pocket (Ldi 0 (pos 97) ∷ (Add 0 0 0 ∷ (Out 0 ∷ []))) []
sum_spelled = (
  an_instruction (Ldi 0 (pos 97)) ∷ (an_instruction (Add 0 0 0) ∷ (an_instruction (Out 0) ∷ [])),
  record {
    before = [];
    after = (codes "LDI" ∷ (codes "r0" ∷ (codes "97" ∷ []))) ∷ ((codes "ADD" ∷ (codes "r0" ∷ (codes "r0" ∷ (codes "r0" ∷ [])))) ∷ ((codes "OUT" ∷ (codes "r0" ∷ [])) ∷ []));
    parts = refl;
    empty = refl;
    names = λ i j d l m e. absurd (omega arith);
    said = (
      (refl, (register_0, (((omega arith, (omega arith, (omega arith, tt))), refl, omega arith), tt))),
      ((refl, (register_0, (register_0, (register_0, tt)))), ((refl, (register_0, tt)), tt)),
    );
  },
  refl,
  refl,
)

-- ---- words that differ
apart : (a b : List ℕ) → a ≡ b → bytes_eq a b ≡ false → ⊥
apart a b same other = false≢true (sym other ∙ (bytes_eq-Decides a b).1 same)

abbrev head : List (List ℕ) → List ℕ
head [] = []
head (word ∷ words) = word

-- ---- a line that breaks the grammar
-- a second label stands where an instruction is wanted
abbrev two_labels : List (List ℕ)
two_labels = codes "a:" ∷ (codes "a:" ∷ (codes "HALT" ∷ []))

no_instruction : (instr : Instr) → codes "a:" ≡ mnemonic_of instr → ⊥
no_instruction Halt h = apart _ _ h refl
no_instruction (Ldi a value) h = apart _ _ h refl
no_instruction (Ld a p) h = apart _ _ h refl
no_instruction (St a p) h = apart _ _ h refl
no_instruction (Ldx a b p q l) h = apart _ _ h refl
no_instruction (Stx a b p q l) h = apart _ _ h refl
no_instruction (Mov a b) h = apart _ _ h refl
no_instruction (Add a b c) h = apart _ _ h refl
no_instruction (Sub a b c) h = apart _ _ h refl
no_instruction (Mul a b c) h = apart _ _ h refl
no_instruction (Neg a b) h = apart _ _ h refl
no_instruction (Mac a b c) h = apart _ _ h refl
no_instruction (Div a b c l) h = apart _ _ h refl
no_instruction (Mod a b c l) h = apart _ _ h refl
no_instruction (Scl a b s) h = apart _ _ h refl
no_instruction (Jmp p) h = apart _ _ h refl
no_instruction (Blt a b p) h = apart _ _ h refl
no_instruction (Beq a b p) h = apart _ _ h refl
no_instruction (Chk a low high l) h = apart _ _ h refl
no_instruction (In a low high l) h = apart _ _ h refl
no_instruction (Out a) h = apart _ _ h refl
no_instruction (Call p l) h = apart _ _ h refl
no_instruction (Ret l) h = apart _ _ h refl
no_instruction (Trp k l) h = apart _ _ h refl

says_nothing : (places : Places) (statement : Statement) → IsStatement places two_labels statement → ⊥
says_nothing places no_statement h = cc
says_nothing places (an_instruction instr) h = no_instruction instr h.0
says_nothing places (a_datum x) h = apart _ _ (ap head h.1) refl

set_first : (i : ℕ) → i < 1 → HasForm (take i (set_line Pocket ∷ (two_labels ∷ []))) (line (set_line Pocket ∷ (two_labels ∷ [])) i) × IsNew (take i (set_line Pocket ∷ (two_labels ∷ []))) (line (set_line Pocket ∷ (two_labels ∷ [])) i)
set_first zero l = (inl (refl, inr (Pocket, refl)), λ i d l. absurd (omega arith))
set_first (suc i) l = absurd (omega arith)

has_no_form : HasForm (set_line Pocket ∷ []) two_labels → ⊥
has_no_form (inl h) = let e = h.0 in cc
has_no_form (inr h) = says_nothing h.1.0 h.1.1 h.1.2

two_labels_refused : IsRefusal (ended (codes "set pocket") ++ codes "a: a: HALT") (BadLine 2)
two_labels_refused = inl (1, refl, omega arith, set_first, has_no_form)

-- ---- a target that no line names
abbrev jump_away : List (List ℕ)
jump_away = codes "JMP" ∷ (codes "away" ∷ [])

-- with a place for the name the line says a jump
jump_away_with_a_place : IsStatement ((codes "away", 7) ∷ []) jump_away (an_instruction (Jmp 7))
jump_away_with_a_place = (refl, (inr (refl, refl), tt))

no_place : (n : ℕ) → Writes [] (codes "away") (a_place n) → ⊥
no_place n (inl h) = let e = h.0.1 in omega (arith, e.0)
no_place n (inr h) = let e = h.1 in cc

no_jump : (instr : Instr) → IsInstruction [] jump_away instr → ⊥
no_jump Halt h = apart _ _ h.0 refl
no_jump (Ldi a value) h = apart _ _ h.0 refl
no_jump (Ld a p) h = apart _ _ h.0 refl
no_jump (St a p) h = apart _ _ h.0 refl
no_jump (Ldx a b p q l) h = apart _ _ h.0 refl
no_jump (Stx a b p q l) h = apart _ _ h.0 refl
no_jump (Mov a b) h = apart _ _ h.0 refl
no_jump (Add a b c) h = apart _ _ h.0 refl
no_jump (Sub a b c) h = apart _ _ h.0 refl
no_jump (Mul a b c) h = apart _ _ h.0 refl
no_jump (Neg a b) h = apart _ _ h.0 refl
no_jump (Mac a b c) h = apart _ _ h.0 refl
no_jump (Div a b c l) h = apart _ _ h.0 refl
no_jump (Mod a b c l) h = apart _ _ h.0 refl
no_jump (Scl a b s) h = apart _ _ h.0 refl
no_jump (Jmp p) h = no_place p h.1.0
no_jump (Blt a b p) h = apart _ _ h.0 refl
no_jump (Beq a b p) h = apart _ _ h.0 refl
no_jump (Chk a low high l) h = apart _ _ h.0 refl
no_jump (In a low high l) h = apart _ _ h.0 refl
no_jump (Out a) h = apart _ _ h.0 refl
no_jump (Call p l) h = apart _ _ h.0 refl
no_jump (Ret l) h = apart _ _ h.0 refl
no_jump (Trp k l) h = apart _ _ h.0 refl

names_nothing : (statement : Statement) → IsStatement [] jump_away statement → ⊥
names_nothing no_statement h = cc
names_nothing (an_instruction instr) h = no_jump instr h
names_nothing (a_datum x) h = apart _ _ (ap head h.1) refl

abbrev jump_lines : List (List (List ℕ))
jump_lines = set_line Pocket ∷ (jump_away ∷ [])

jump_lawful : (i : ℕ) → i < 2 → HasForm (take i jump_lines) (line jump_lines i) × IsNew (take i jump_lines) (line jump_lines i)
jump_lawful zero l = (inl (refl, inr (Pocket, refl)), λ i d l. absurd (omega arith))
jump_lawful (suc zero) l = (inr (refl, ((codes "away", 7) ∷ [], an_instruction (Jmp 7), jump_away_with_a_place)), λ i d l. absurd (omega arith))
jump_lawful (suc (suc i)) l = absurd (omega arith)

jump_away_refused : IsRefusal (ended (codes "set pocket") ++ codes "JMP away") (UnknownName 2)
jump_away_refused = (
  [],
  jump_away ∷ [],
  [],
  0,
  refl,
  omega arith,
  record { lawful = jump_lawful; set = Pocket; parts = refl; empty = refl; tied = refl; named = λ i l. absurd (omega arith) },
  λ h. names_nothing h.0 h.1,
)

-- ---- a register that doesn't exist: the grammar lets it pass, the rules of programs don't
register_16_refused : IsRefusal (ended (codes "set pocket") ++ codes "LDI r16 1") (Unsound (BadRegister 0) 2)
register_16_refused = (
  Pocket,
  an_instruction (Ldi 16 (pos 1)) ∷ [],
  record {
    before = [];
    after = (codes "LDI" ∷ (codes "r16" ∷ (codes "1" ∷ []))) ∷ [];
    parts = refl;
    empty = refl;
    names = λ i j d l m e. absurd (omega arith);
    said = ((refl, ((codes "16", refl, (omega arith, (omega arith, (omega arith, tt))), omega arith, refl, omega arith), (((omega arith, (omega arith, tt)), refl, omega arith), tt))), tt);
  },
  refl,
  refl,
)

-- ---- a label of two lines
abbrev label_lines : List (List (List ℕ))
label_lines = set_line Pocket ∷ ((codes "a:" ∷ (codes "HALT" ∷ [])) ∷ ((codes "a:" ∷ (codes "HALT" ∷ [])) ∷ []))

a_halt : HasForm (take 1 label_lines) (line label_lines 1)
a_halt = inr (refl, ([], an_instruction Halt, (refl, tt)))

labels_lawful : (i : ℕ) → i < 2 → HasForm (take i label_lines) (line label_lines i) × IsNew (take i label_lines) (line label_lines i)
labels_lawful zero l = (inl (refl, inr (Pocket, refl)), λ i d l. absurd (omega arith))
labels_lawful (suc zero) l = (a_halt, λ i d l. refl)
labels_lawful (suc (suc i)) l = absurd (omega arith)

twice_named : IsRefusal (ended (codes "set pocket") ++ ended (codes "a: HALT") ++ codes "a: HALT") (TwiceNamed 3)
twice_named = (2, refl, omega arith, labels_lawful, inr (refl, ([], an_instruction Halt, (refl, tt))), λ h. false≢true (sym (h 0 [] (omega arith))))
