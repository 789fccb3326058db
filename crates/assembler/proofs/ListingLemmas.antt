-- The listing of a program spells it.
use Rattle.std.proofs.Common.{◌≡◌, ℕ, ℤ, ◌&&◌, Bool, true, false, List, [], ◌∷◌, ◌++◌, cond, length, map, refl, sym, ap, ◌∙◌, subst, arith, append_assoc}
use Rattle.std.specs.Prelude.{◌≢◌, All, codes, nat_lt}
use Rattle.std.specs.Fmt.{signed_decimal}
use Rattle.std.specs.List.{AllByRecursion, flat_map, list_all}
use Rattle.std.proofs.lemmas.List.{append-nil}
use Rattle.std.proofs.lemmas.List.Concat.{flat_map-append}
use Rattle.std.proofs.lemmas.List.Elements.{recursion_from_All}
use Rattle.moduli_sets.specs.declared.set_name.SetName.{SetName}
use Rattle.moduli_sets.specs.declared.set_name.SetName.TheVariants.{Pocket, Desk, Hall}
use Rattle.moduli_sets.specs.Name.{set_of_name, word_of_name}
use Rattle.moduli_sets.specs.Set.{IsInRange}
use Rattle.machine_table.proofs.SoundLemmas.{object_fault-none}
use Rattle.machine_table.specs.declared.instr.Instr.{Instr}
use Rattle.machine_table.specs.declared.instr.Instr.TheVariants.{Halt, Ldi, Ld, St, Ldx, Stx, Mov, Add, Sub, Mul, Neg, Mac, Div, Mod, Scl, Jmp, Blt, Beq, Chk, In, Out, Call, Ret, Trp}
use Rattle.assembler.specs.declared.fault.AsmFault.{AsmFault}
use Rattle.assembler.specs.declared.fault.AsmFault.TheVariants.{BadLine, TwiceNamed, UnknownName, Unsound, NoMemory}
use Rattle.assembler.specs.Fields.{Field, fields_of, mnemonic_of}
use Rattle.assembler.specs.Words.{IsInt128, Places, said_in}
use Rattle.assembler.specs.Statements.{IsInstruction, IsStatement, a_datum, an_instruction, is_label, name_in_label, no_statement}
use Rattle.assembler.specs.Assembly.{AreDifferent, AreStatements, Spells, code_in, data_in, names_of, places_from, set_line}
use Rattle.assembler.specs.Listing.{Fits, datum_line, field_text, instr_line, listing}
use Rattle.assembler.specs.Laws.{ListingsComeBack, ListingsSpell}
use Rattle.assembler.proofs.FieldTexts.{IsInt128-in_range, IsPlainWord, plain-fields, plain-from_test, plain-integer, write_fields, writes_integer}
use Rattle.assembler.proofs.LinesOfTexts.{ArePlain, said_in-text, text_of}
use Rattle.assembler.proofs.ProgramLemmas.{spells_one}
use Rattle.assembler.proofs.RefusalLemmas.{refused_spelled}
use Rattle.assembler.proofs.WordsOfLines.{joined, spaced}

-- ---- the words of the lines
abbrev datum_words : ℤ → List (List ℕ)
datum_words x = codes "data" ∷ (signed_decimal x ∷ [])

abbrev instr_words : Instr → List (List ℕ)
instr_words instr = mnemonic_of instr ∷ map field_text (fields_of instr)

-- those after the set line
abbrev body : List Instr → List ℤ → List (List (List ℕ))
body code words = map datum_words words ++ map instr_words code

-- ---- the text of the lines
set_text : (set : SetName) (said : List (List (List ℕ))) → text_of (set_line set ∷ said) ≡ codes "set " ++ word_of_name set ++ (10 ∷ []) ++ text_of said
set_text Pocket said = refl
set_text Desk said = refl
set_text Hall said = refl

data_text : (words : List ℤ) → text_of (map datum_words words) ≡ flat_map datum_line words
data_text [] = refl
data_text (x ∷ words) =
    ap (λ (number : List ℕ). (codes "data " ++ number ++ 10 ∷ []) ++ text_of (map datum_words words)) (append-nil (signed_decimal x))
    ∙ ap (λ (rest : List ℕ). datum_line x ++ rest) (data_text words)

spaced_fields : (fields : List Field) → spaced (map field_text fields) ≡ flat_map (λ field. 32 ∷ field_text field) fields
spaced_fields [] = refl
spaced_fields (field ∷ fields) = ap (λ (rest : List ℕ). (32 ∷ field_text field) ++ rest) (spaced_fields fields)

code_text : (code : List Instr) → text_of (map instr_words code) ≡ flat_map instr_line code
code_text [] = refl
code_text (instr ∷ code) =
    ap (λ (fields : List ℕ). (mnemonic_of instr ++ fields ++ 10 ∷ []) ++ text_of (map instr_words code)) (spaced_fields (fields_of instr))
    ∙ ap (λ (rest : List ℕ). instr_line instr ++ rest) (code_text code)

body_text : (code : List Instr) (words : List ℤ) → text_of (body code words) ≡ flat_map datum_line words ++ flat_map instr_line code
body_text code words =
    flat_map-append (λ (ws : List (List ℕ)). joined ws ++ 10 ∷ []) (map datum_words words) (map instr_words code)
    ∙ ap (λ (text : List ℕ). text ++ text_of (map instr_words code)) (data_text words)
    ∙ ap (λ (text : List ℕ). flat_map datum_line words ++ text) (code_text code)

-- the listing is the text of these lines
listing_text : (set : SetName) (code : List Instr) (words : List ℤ) → listing set code words ≡ text_of (set_line set ∷ body code words)
unfolding listing
listing_text set code words =
    append_assoc (codes "set " ++ word_of_name set ++ (10 ∷ [])) (flat_map datum_line words) (flat_map instr_line code)
    ∙ ap (λ (rest : List ℕ). codes "set " ++ word_of_name set ++ (10 ∷ []) ++ rest) (sym (body_text code words))
    ∙ sym (set_text set (body code words))

-- ---- plain words, and no labels
plain-mnemonic : (instr : Instr) → (nat_lt 0 (length (mnemonic_of instr)) && list_all (nat_lt 35) (mnemonic_of instr)) ≡ true
plain-mnemonic Halt = refl
plain-mnemonic (Ldi a value) = refl
plain-mnemonic (Ld a p) = refl
plain-mnemonic (St a p) = refl
plain-mnemonic (Ldx a b p q l) = refl
plain-mnemonic (Stx a b p q l) = refl
plain-mnemonic (Mov a b) = refl
plain-mnemonic (Add a b c) = refl
plain-mnemonic (Sub a b c) = refl
plain-mnemonic (Mul a b c) = refl
plain-mnemonic (Neg a b) = refl
plain-mnemonic (Mac a b c) = refl
plain-mnemonic (Div a b c l) = refl
plain-mnemonic (Mod a b c l) = refl
plain-mnemonic (Scl a b s) = refl
plain-mnemonic (Jmp p) = refl
plain-mnemonic (Blt a b p) = refl
plain-mnemonic (Beq a b p) = refl
plain-mnemonic (Chk a low high l) = refl
plain-mnemonic (In a low high l) = refl
plain-mnemonic (Out a) = refl
plain-mnemonic (Call p l) = refl
plain-mnemonic (Ret l) = refl
plain-mnemonic (Trp k l) = refl

no_label : (instr : Instr) → is_label (mnemonic_of instr) ≡ false
no_label Halt = refl
no_label (Ldi a value) = refl
no_label (Ld a p) = refl
no_label (St a p) = refl
no_label (Ldx a b p q l) = refl
no_label (Stx a b p q l) = refl
no_label (Mov a b) = refl
no_label (Add a b c) = refl
no_label (Sub a b c) = refl
no_label (Mul a b c) = refl
no_label (Neg a b) = refl
no_label (Mac a b c) = refl
no_label (Div a b c l) = refl
no_label (Mod a b c l) = refl
no_label (Scl a b s) = refl
no_label (Jmp p) = refl
no_label (Blt a b p) = refl
no_label (Beq a b p) = refl
no_label (Chk a low high l) = refl
no_label (In a low high l) = refl
no_label (Out a) = refl
no_label (Call p l) = refl
no_label (Ret l) = refl
no_label (Trp k l) = refl

-- the fields of each instruction fit
abbrev AllFit : List Instr → Type 0
AllFit code = AllByRecursion (λ instr. All Fits (fields_of instr)) code

fit_at : (instr : Instr) → All Fits (fields_of instr) → AllByRecursion Fits (fields_of instr)
fit_at instr h = recursion_from_All Fits (fields_of instr) h

plain_code : (code : List Instr) → AllFit code → ArePlain (map instr_words code)
plain_code [] fit = tt
plain_code (instr ∷ code) fit = ((plain-from_test (mnemonic_of instr) (plain-mnemonic instr), plain-fields (fields_of instr) (fit_at instr fit.0)), plain_code code fit.1)

plain_body : (code : List Instr) (words : List ℤ) → AllFit code → AllByRecursion IsInt128 words → ArePlain (body code words)
plain_body code [] fit fits = plain_code code fit
plain_body code (x ∷ words) fit fits = ((plain-from_test (codes "data") refl, (plain-integer x fits.0, tt)), plain_body code words fit fits.1)

plain_set : (set : SetName) → AllByRecursion IsPlainWord (set_line set)
plain_set Pocket = (plain-from_test (codes "set") refl, (plain-from_test (codes "pocket") refl, tt))
plain_set Desk = (plain-from_test (codes "set") refl, (plain-from_test (codes "desk") refl, tt))
plain_set Hall = (plain-from_test (codes "set") refl, (plain-from_test (codes "hall") refl, tt))

-- the lines of the listing
said_of_listing : (set : SetName) (code : List Instr) (words : List ℤ) → AllFit code → AllByRecursion IsInt128 words → said_in (listing set code words) ≡ set_line set ∷ (body code words ++ [] ∷ [])
said_of_listing set code words fit fits =
    ap said_in (listing_text set code words) ∙ said_in-text (set_line set ∷ body code words) (plain_set set, plain_body code words fit fits)

-- ---- the statements
instr_said : (places : Places) (instr : Instr) → All Fits (fields_of instr) → IsStatement places (instr_words instr) (an_instruction instr)
instr_said places instr fit =
    subst (λ (words : List (List ℕ)). IsInstruction places words instr)
    (sym (ap (λ (t : Bool). cond t (map field_text (fields_of instr)) (instr_words instr)) (no_label instr)))
    (refl, write_fields places (fields_of instr) (fit_at instr fit))

code_said : (places : Places) (code : List Instr) → AllFit code → AreStatements places (map instr_words code ++ [] ∷ []) (map an_instruction code ++ no_statement ∷ [])
code_said places [] fit = (refl, tt)
code_said places (instr ∷ code) fit = (instr_said places instr fit.0, code_said places code fit.1)

body_said : (places : Places) (code : List Instr) (words : List ℤ) → AllFit code → AllByRecursion IsInt128 words → AreStatements places (map datum_words words ++ (map instr_words code ++ [] ∷ [])) (map a_datum words ++ (map an_instruction code ++ no_statement ∷ []))
body_said places code [] fit fits = code_said places code fit
body_said places code (x ∷ words) fit fits = ((signed_decimal x, refl, writes_integer places x fits.0), body_said places code words fit fits.1)

-- no line has a label
names_of_code : (code : List Instr) → names_of (map instr_words code ++ [] ∷ []) ≡ []
names_of_code [] = refl
names_of_code (instr ∷ code) =
    ap (λ (t : Bool). cond t (name_in_label (mnemonic_of instr) ∷ []) [] ++ names_of (map instr_words code ++ [] ∷ [])) (no_label instr) ∙ names_of_code code

names_of_body : (code : List Instr) (words : List ℤ) → names_of (map datum_words words ++ (map instr_words code ++ [] ∷ [])) ≡ []
names_of_body code [] = names_of_code code
names_of_body code (x ∷ words) = names_of_body code words

none_different : AreDifferent []
none_different i j d l m e = absurd (omega arith)

-- their code and their data
code_of_code : (code : List Instr) → code ≡ code_in (map an_instruction code ++ no_statement ∷ [])
code_of_code [] = refl
code_of_code (instr ∷ code) = ap (λ (rest : List Instr). instr ∷ rest) (code_of_code code)

code_of_body : (code : List Instr) (words : List ℤ) → code ≡ code_in (map a_datum words ++ (map an_instruction code ++ no_statement ∷ []))
code_of_body code [] = code_of_code code
code_of_body code (x ∷ words) = code_of_body code words

data_of_code : (code : List Instr) → [] ≡ data_in (map an_instruction code ++ no_statement ∷ [])
data_of_code [] = refl
data_of_code (instr ∷ code) = data_of_code code

data_of_body : (code : List Instr) (words : List ℤ) → words ≡ data_in (map a_datum words ++ (map an_instruction code ++ no_statement ∷ []))
data_of_body code [] = data_of_code code
data_of_body code (x ∷ words) = ap (λ (rest : List ℤ). x ∷ rest) (data_of_body code words)

-- ---- the law
body_spells : (set : SetName) (code : List Instr) (words : List ℤ) → AllFit code → AllByRecursion IsInt128 words → Spells (listing set code words) set code words
body_spells set code words fit fits = (
  map a_datum words ++ (map an_instruction code ++ no_statement ∷ []),
  record {
    before = [];
    after = map datum_words words ++ (map instr_words code ++ [] ∷ []);
    parts = said_of_listing set code words fit fits ∙ ap (λ (lines : List (List (List ℕ))). set_line set ∷ lines) (append_assoc (map datum_words words) (map instr_words code) ([] ∷ []));
    empty = refl;
    names = subst AreDifferent (sym (names_of_body code words)) none_different;
    said = body_said (places_from 0 (map datum_words words ++ (map instr_words code ++ [] ∷ []))) code words fit fits;
  },
  code_of_body code words,
  data_of_body code words,
)

all_int128 : (set : SetName) (words : List ℤ) → AllByRecursion (IsInRange (set_of_name set)) words → AllByRecursion IsInt128 words
all_int128 set [] h = tt
all_int128 set (x ∷ words) h = (IsInt128-in_range set x h.0, all_int128 set words h.1)

pub listings_spell : ListingsSpell
listings_spell set code words sound writable =
    body_spells set code words (recursion_from_All (λ (instr : Instr). All Fits (fields_of instr)) code writable)
    (all_int128 set words (recursion_from_All (IsInRange (set_of_name set)) words sound.in_range))

-- a fault that can't be any other is want of memory
only_memory : (fault : AsmFault) → (fault ≢ NoMemory → ⊥) → fault ≡ NoMemory
only_memory (BadLine n) never = absurd (never (λ (e : BadLine n ≡ NoMemory). absurd cc))
only_memory (TwiceNamed n) never = absurd (never (λ (e : TwiceNamed n ≡ NoMemory). absurd cc))
only_memory (UnknownName n) never = absurd (never (λ (e : UnknownName n ≡ NoMemory). absurd cc))
only_memory (Unsound f n) never = absurd (never (λ (e : Unsound f n ≡ NoMemory). absurd cc))
only_memory NoMemory never = refl

pub listings_come_back : ListingsComeBack
listings_come_back set code words sound writable =
    let spelled = listings_spell set code words sound writable in (
      spelled,
      λ set' code' words' h. spells_one (listing set code words) set' set code' code words' words h spelled,
      λ fault refused. only_memory fault (λ other. refused_spelled (listing set code words) fault set code words other refused spelled (object_fault-none (set_of_name set) code words sound)),
    )
