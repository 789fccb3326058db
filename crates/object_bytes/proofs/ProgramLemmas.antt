-- Records and data words one after another.
use Rattle.std.proofs.Common.{◌≡◌, ℕ, zero, suc, ◌+◌, ◌*◌, ◌^◌, ◌<◌, ◌≤◌, ℤ, List, [], ◌∷◌, ◌++◌, length, take, drop, None, refl, sym, ap, ◌∙◌, append_assoc, arith}
use Rattle.std.specs.Prelude.{unwrap_or}
use Rattle.std.specs.List.{AllByRecursion, flat_map}
use Rattle.std.specs.Int.{w128}
use Rattle.std.specs.Int.RustNames.{FitsSigned}
use Rattle.std.proofs.Math.Seq.{take-add}
use Rattle.std.proofs.lemmas.List.{take-append-drop, take_at, drop_at, length-append, length-drop, length-take, nil_from_length}
use Rattle.std.proofs.lemmas.List.Concat.{flat_map-cons}
use Rattle.machine_table.specs.declared.instr.Instr.{Instr}
use Rattle.machine_table.specs.declared.instr.Instr.TheVariants.{Halt}
use Rattle.machine_table.specs.Operands.{Shape}
use Rattle.object_bytes.specs.declared.fields.Fields.{Fields}
use Rattle.object_bytes.specs.Layout.{record_fault}
use Rattle.object_bytes.specs.Loading.{AreBytes, code_from, records_fault, words_from}
use Rattle.object_bytes.specs.Record.{fields_of, fields_bytes, instr_bytes, integer_bytes, instr_in, integer_at}
use Rattle.object_bytes.proofs.NumberLemmas.{integer_again, integer_back}
use Rattle.object_bytes.proofs.RecordLemmas.{AreBytes-drop, AreBytes-take, IsSmall, IsSoundInstr, instr_again, or_place-parts, or_place-none, record_back, record_fine}

length-fields : (f : Fields) → length (fields_bytes f) ≡ 40
unfolding fields_bytes
length-fields f = refl

pub length-records : (code : List Instr) → length (flat_map instr_bytes code) ≡ 40 * length code
length-records [] = refl
length-records (instr ∷ code) =
    ap length (flat_map-cons instr_bytes instr code) ∙ length-append (instr_bytes instr) (flat_map instr_bytes code)
    ∙ omega (arith, length-fields (fields_of instr), length-records code)

pub length-integers : (words : List ℤ) → length (flat_map integer_bytes words) ≡ 16 * length words
length-integers [] = refl
length-integers (x ∷ words) =
    ap length (flat_map-cons integer_bytes x words) ∙ length-append (integer_bytes x) (flat_map integer_bytes words) ∙ omega (arith, length-integers words)

-- ---- what is written
first_record : (instr : Instr) (code : List Instr) (rest : List ℕ) → flat_map instr_bytes (instr ∷ code) ++ rest ≡ instr_bytes instr ++ (flat_map instr_bytes code ++ rest)
first_record instr code rest =
    ap (λ bytes. bytes ++ rest) (flat_map-cons instr_bytes instr code) ∙ append_assoc (instr_bytes instr) (flat_map instr_bytes code) rest

pub code_again : (shape : Shape) → IsSmall shape → (code : List Instr) → AllByRecursion (IsSoundInstr shape) code → AllByRecursion (λ instr. (fields_of instr).line < 2 ^ 32) code
    → (rest : List ℕ) → code_from (length code) (flat_map instr_bytes code ++ rest) ≡ code
unfolding code_from
code_again shape small [] h lines rest = refl
code_again shape small (instr ∷ code) h lines rest =
    let bytes = flat_map instr_bytes code ++ rest in
    let long = length-fields (fields_of instr) in
    ap (λ bs. unwrap_or (instr_in (take 40 bs)) Halt ∷ code_from (length code) (drop 40 bs)) (first_record instr code rest)
    ∙ ap (λ bs. unwrap_or (instr_in bs) Halt ∷ code_from (length code) (drop 40 (instr_bytes instr ++ bytes))) (take_at (instr_bytes instr) bytes 40 long)
    ∙ ap (λ bs. unwrap_or (instr_in (instr_bytes instr)) Halt ∷ code_from (length code) bs) (drop_at (instr_bytes instr) bytes 40 long)
    ∙ ap (λ o. unwrap_or o Halt ∷ code_from (length code) bytes) (instr_again shape small instr h.0 lines.0)
    ∙ ap (λ is. instr ∷ is) (code_again shape small code h.1 lines.1 rest)

pub records_fine : (shape : Shape) → IsSmall shape → (code : List Instr) → AllByRecursion (IsSoundInstr shape) code
    → (place : ℕ) (rest : List ℕ) → records_fault (length code) place (flat_map instr_bytes code ++ rest) ≡ None
unfolding records_fault
records_fine shape small [] h place rest = refl
records_fine shape small (instr ∷ code) h place rest =
    let bytes = flat_map instr_bytes code ++ rest in
    let long = length-fields (fields_of instr) in
    let whole = first_record instr code rest in
    or_place-none (record_fault place (take 40 (flat_map instr_bytes (instr ∷ code) ++ rest))) (records_fault (length code) (place + 40) (drop 40 (flat_map instr_bytes (instr ∷ code) ++ rest)))
    (ap (λ bs. record_fault place (take 40 bs)) whole ∙ ap (record_fault place) (take_at (instr_bytes instr) bytes 40 long) ∙ record_fine shape small instr h.0 place)
    (ap (λ bs. records_fault (length code) (place + 40) (drop 40 bs)) whole ∙ ap (records_fault (length code) (place + 40)) (drop_at (instr_bytes instr) bytes 40 long)
    ∙ records_fine shape small code h.1 (place + 40) rest)

pub words_again : (words : List ℤ) → AllByRecursion (FitsSigned w128) words → words_from (length words) (flat_map integer_bytes words) ≡ words
unfolding words_from
words_again [] h = refl
words_again (x ∷ words) h =
    let bytes = flat_map integer_bytes words in
    ap (λ bs. integer_at 0 bs ∷ words_from (length words) (drop 16 bs)) (flat_map-cons integer_bytes x words)
    ∙ ap (λ y. y ∷ words_from (length words) bytes) (integer_again x h.0) ∙ ap (λ xs. x ∷ xs) (words_again words h.1)

-- ---- what is read
pub code_back : (n place : ℕ) (bytes : List ℕ) → AreBytes bytes → 40 * n ≤ length bytes → records_fault n place bytes ≡ None
    → (length (code_from n bytes) ≡ n) × (flat_map instr_bytes (code_from n bytes) ≡ take (40 * n) bytes)
unfolding code_from records_fault
code_back zero place bytes h long e = (refl, refl)
code_back (suc n) place bytes h long e =
    let parts = or_place-parts (record_fault place (take 40 bytes)) (records_fault n (place + 40) (drop 40 bytes)) e in
    let whole : length (take 40 bytes) ≡ 40 = omega (arith, length-take 40 bytes) in
    let first = record_back place (take 40 bytes) whole (AreBytes-take 40 bytes h) parts.0 in
    let rest = code_back n (place + 40) (drop 40 bytes) (AreBytes-drop 40 bytes h) (omega (arith, length-drop 40 bytes)) parts.1 in
    let is = ap (λ o. unwrap_or o Halt) first.1 in
    let times : 40 + 40 * n ≡ 40 * suc n = omega arith in (
      ap suc rest.0,
      flat_map-cons instr_bytes (unwrap_or (instr_in (take 40 bytes)) Halt) (code_from n (drop 40 bytes))
          ∙ ap (λ instr. instr_bytes instr ++ flat_map instr_bytes (code_from n (drop 40 bytes))) is
          ∙ ap (λ bs. bs ++ flat_map instr_bytes (code_from n (drop 40 bytes))) first.2 ∙ ap (λ bs. take 40 bytes ++ bs) rest.1
          ∙ sym (take-add 40 (40 * n) bytes) ∙ ap (λ k. take k bytes) times,
    )

pub words_back : (n : ℕ) (bytes : List ℕ) → AreBytes bytes → length bytes ≡ 16 * n
    → (length (words_from n bytes) ≡ n) × (flat_map integer_bytes (words_from n bytes) ≡ bytes)
unfolding words_from
words_back zero bytes h long = (refl, sym (nil_from_length bytes (long ∙ omega arith)))
words_back (suc n) bytes h long =
    let first = integer_back (take 16 bytes) (omega (arith, length-take 16 bytes)) (AreBytes-take 16 bytes h) in
    let rest = words_back n (drop 16 bytes) (AreBytes-drop 16 bytes h) (length-drop 16 bytes ∙ omega arith) in (
      ap suc rest.0,
      flat_map-cons integer_bytes (integer_at 0 bytes) (words_from n (drop 16 bytes)) ∙ ap (λ bs. bs ++ flat_map integer_bytes (words_from n (drop 16 bytes))) first
          ∙ ap (λ bs. take 16 bytes ++ bs) rest.1 ∙ take-append-drop 16 bytes,
    )
