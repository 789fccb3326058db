-- Whole objects: bytes without a fault are the spelling of the program that is read, and a spelling has no fault and is read as
-- its program.
use Rattle.std.proofs.Common.{◌≡◌, ℕ, ◌+◌, ◌*◌, ◌^◌, ◌<◌, ◌≤◌, ℤ, List, [], ◌∷◌, ◌++◌, length, take, drop, All, Option, Some, None, sym, ap, subst, ◌∙◌, append_assoc, lit<, lit≤, inl, inr, arith}
use Rattle.std.specs.Prelude.{slice_range}
use Rattle.std.specs.Option.{option_map}
use Rattle.std.specs.List.{AllByRecursion, flat_map}
use Rattle.std.specs.Int.{w128}
use Rattle.std.specs.Int.RustNames.{FitsSigned}
use Rattle.std.proofs.lemmas.List.{take-append-drop, take_rest, drop-drop, drop_at, length-append, length-drop}
use Rattle.std.proofs.lemmas.List.Elements.{recursion_from_All}
use Rattle.moduli_sets.specs.declared.set_name.SetName.{SetName}
use Rattle.moduli_sets.specs.declared.set_name.SetName.TheVariants.{Pocket, Desk, Hall}
use Rattle.moduli_sets.specs.Name.{set_of_name}
use Rattle.moduli_sets.specs.Set.{IsInRange, range_bound}
use Rattle.machine_table.specs.declared.instr.Instr.{Instr}
use Rattle.machine_table.specs.Operands.{Shape, IsSoundOperand, operands_of}
use Rattle.machine_table.specs.Faults.{IsSound, object_fault, shape_of}
use Rattle.machine_table.proofs.SoundLemmas.{IsSound-from_none, object_fault-none}
use Rattle.object_bytes.specs.declared.fault.LoadFault.{LoadFault}
use Rattle.object_bytes.specs.declared.fault.LoadFault.TheVariants.{BadRecord, Unsound}
use Rattle.object_bytes.specs.declared.header.Header.{Header}
use Rattle.object_bytes.specs.Header.{IsHeader}
use Rattle.object_bytes.specs.Loading.{AreBytes, IsRefusal, Program, code_from, counts_fault, header_fault, instructions_in, length_by, load_fault, or_load_fault, prefix_fault, program_fault, program_in, records_fault, set_in, words_from, words_in}
use Rattle.object_bytes.specs.Record.{instr_bytes, integer_bytes}
use Rattle.object_bytes.specs.Spelling.{HaveLines, bytes_of, header_bytes}
use Rattle.object_bytes.proofs.HeaderLemmas.{counts_fine, counts_parts, header_back, map_none, or_load-none, or_load-parts, prefix_fine, prefix_parts, set_again}
use Rattle.object_bytes.proofs.NumberLemmas.{natural_again}
use Rattle.object_bytes.proofs.RecordLemmas.{AreBytes-drop, IsSmall, IsSoundInstr, fits}
use Rattle.object_bytes.proofs.ProgramLemmas.{code_again, code_back, length-integers, length-records, records_fine, words_again, words_back}

-- ---- what is spelled is loaded
small_sets : (set : SetName) → (range_bound (set_of_name set) < 2 ^ 127) × ((set_of_name set).info ≤ 65536)
small_sets Pocket = (lit< tt, lit≤ tt)
small_sets Desk = (lit< tt, lit≤ tt)
small_sets Hall = (lit< tt, lit≤ tt)

small_shape : (set : SetName) (code : List Instr) (words : List ℤ) → IsSound (set_of_name set) code words → IsSmall (shape_of (set_of_name set) code words)
small_shape set code words h =
    let small = small_sets set in
    record { instructions = h.code_fits; words = h.words_fit; info = small.1; bound = small.0 }

code_sound : (shape : Shape) (code : List Instr) → AllByRecursion (λ instr. All (IsSoundOperand shape) (operands_of instr)) code → AllByRecursion (IsSoundInstr shape) code
code_sound shape [] h = tt
code_sound shape (instr ∷ code) h = (recursion_from_All (IsSoundOperand shape) (operands_of instr) h.0, code_sound shape code h.1)

words_fit : (set : SetName) (words : List ℤ) → AllByRecursion (IsInRange (set_of_name set)) words → AllByRecursion (FitsSigned w128) words
words_fit set [] h = tt
words_fit set (x ∷ words) h = (fits (set_of_name set) x (small_sets set).0 h.0, words_fit set words h.1)

pub same_program : (a b : SetName) (c d : List Instr) (v w : List ℤ) → a ≡ b → c ≡ d → v ≡ w
    → (let program : Program = record { set = a; code = c; words = v } in program) ≡ record { set = b; code = d; words = w }
same_program a b c d v w e f g = cc

pub spelled_loaded : (set : SetName) (code : List Instr) (words : List ℤ) → IsSound (set_of_name set) code words → HaveLines code
    → (load_fault (bytes_of set code words) ≡ None) × (program_in (bytes_of set code words) ≡ record { set = set; code = code; words = words })
unfolding load_fault header_fault program_in bytes_of
spelled_loaded set code words sound lines =
    let n = length code in
    let m = length words in
    let few_n = sound.code_fits in
    let few_m = sound.words_fit in
    let records = flat_map instr_bytes code in
    let values = flat_map integer_bytes words in
    let bytes = header_bytes set n m ++ records ++ values in
    let joined : bytes ≡ header_bytes set n m ++ (records ++ values) = append_assoc (header_bytes set n m) records values in
    let shape = shape_of (set_of_name set) code words in
    let small = small_shape set code words sound in
    let instructions : instructions_in bytes ≡ n = natural_again n (omega arith) in
    let word_count : words_in bytes ≡ m = natural_again m (omega arith) in
    let operands = code_sound shape code (recursion_from_All _ code sound.operands) in
    let long : length bytes ≡ length_by n m =
    ap length joined ∙ length-append (header_bytes set n m) (records ++ values) ∙ ap (λ k. 16 + k) (length-append records values)
    ∙ omega (arith, length-records code, length-integers words) in
    let prefix = ap prefix_fault joined ∙ prefix_fine set n m (records ++ values) in
    let counts = ap (λ i. counts_fault i (words_in bytes) (length bytes)) instructions ∙ ap (λ j. counts_fault n j (length bytes)) word_count ∙ counts_fine n m (length bytes) few_n few_m long in
    let no_record = ap (λ i. option_map BadRecord (records_fault i 16 (records ++ values))) instructions ∙ ap (option_map BadRecord) (records_fine shape small code operands 16 values) in
    let code_is = ap (λ i. code_from i (records ++ values)) instructions ∙ code_again shape small code operands (recursion_from_All _ code lines) values in
    let behind : drop (16 + 40 * instructions_in bytes) bytes ≡ values =
    ap (λ i. drop (16 + 40 * i) bytes) instructions ∙ sym (drop-drop (40 * n) 16 bytes) ∙ drop_at records values (40 * n) (length-records code) in
    let words_is = ap (λ bs. words_from (words_in bytes) bs) behind ∙ ap (λ j. words_from j values) word_count
    ∙ words_again words (words_fit set words (recursion_from_All (IsInRange (set_of_name set)) words sound.in_range)) in
    let program = same_program (set_in bytes) set _ code _ words (ap set_in joined ∙ set_again set n m (records ++ values)) code_is words_is in
    let no_fault = ap (λ p. option_map Unsound (program_fault p)) program ∙ ap (option_map Unsound) (object_fault-none (set_of_name set) code words sound) in
    (or_load-none _ _ (or_load-none _ _ prefix counts) (or_load-none _ _ no_record no_fault), program)

-- ---- what is loaded is spelled
pub loaded_spelled : (bytes : List ℕ) → AreBytes bytes → load_fault bytes ≡ None
    → (bytes ≡ bytes_of (program_in bytes).set (program_in bytes).code (program_in bytes).words)
    × IsSound (set_of_name (program_in bytes).set) (program_in bytes).code (program_in bytes).words
unfolding load_fault header_fault program_in bytes_of
loaded_spelled bytes h e =
    let n = instructions_in bytes in
    let m = words_in bytes in
    let body = drop 16 bytes in
    let parts = or_load-parts _ _ e in
    let header = or_load-parts (prefix_fault bytes) (counts_fault n m (length bytes)) parts.0 in
    let others = or_load-parts _ _ parts.1 in
    let counts = counts_parts n m (length bytes) header.1 in
    let prefix = prefix_parts bytes header.0 in
    let length_is : length bytes ≡ 16 + 40 * n + 16 * m = counts.2 in
    let room : 40 * n ≤ length body = omega (arith, length-drop 16 bytes) in
    let code = code_back n 16 body (AreBytes-drop 16 bytes h) room (map_none BadRecord _ others.0) in
    let behind : drop (16 + 40 * n) bytes ≡ drop (40 * n) body = sym (drop-drop (40 * n) 16 bytes) in
    let values = drop (16 + 40 * n) bytes in
    let words = words_back m values (AreBytes-drop (16 + 40 * n) bytes h) (length-drop (16 + 40 * n) bytes ∙ omega arith) in
    let whole = header_back bytes h prefix in
    let set = set_in bytes in
    let spelled : header_bytes set (length (code_from n body)) (length (words_from m values)) ++ flat_map instr_bytes (code_from n body) ++ flat_map integer_bytes (words_from m values) ≡ bytes =
    ap (λ i. header_bytes set i (length (words_from m values)) ++ flat_map instr_bytes (code_from n body) ++ flat_map integer_bytes (words_from m values)) code.0
    ∙ ap (λ j. header_bytes set n j ++ flat_map instr_bytes (code_from n body) ++ flat_map integer_bytes (words_from m values)) words.0
    ∙ ap (λ bs. header_bytes set n m ++ bs ++ flat_map integer_bytes (words_from m values)) code.1
    ∙ ap (λ bs. header_bytes set n m ++ take (40 * n) body ++ bs) (words.1 ∙ behind)
    ∙ append_assoc (header_bytes set n m) (take (40 * n) body) (drop (40 * n) body)
    ∙ ap (λ bs. header_bytes set n m ++ bs) (take-append-drop (40 * n) body) ∙ sym whole in
    (sym spelled, IsSound-from_none _ _ _ (map_none Unsound _ others.1))

-- ---- what a call finds on its way
-- the faults after the header's
abbrev after_header : List ℕ → Option LoadFault
after_header bytes =
    or_load_fault (option_map BadRecord (records_fault (instructions_in bytes) 16 (drop 16 bytes))) (option_map Unsound (program_fault (program_in bytes)))

pub header_refused : (bytes : List ℕ) (fault : LoadFault) → header_fault bytes ≡ Some fault → IsRefusal (load_fault bytes) fault
unfolding load_fault
header_refused bytes fault e = inr (ap (λ o. or_load_fault o (after_header bytes)) e)

-- what is behind the header, and what is behind the records, as a slice has them
abbrev body_of : List ℕ → List ℕ
body_of bytes = slice_range bytes 16 (length bytes)

abbrev values_of : ℕ → List ℕ → List ℕ
values_of n bytes = slice_range bytes (16 + 40 * n) (length bytes)

pub record_refused : (bytes : List ℕ) (header : Header) (fault : LoadFault) → IsHeader bytes header → IsRefusal (option_map BadRecord (records_fault header.instructions 16 (body_of bytes))) fault
    → IsRefusal (load_fault bytes) fault
unfolding load_fault
record_refused bytes header fault h (inl e) = inl e
record_refused bytes header fault h (inr e) =
    inr (ap (λ o. or_load_fault o (after_header bytes)) h.no_fault
    ∙ ap (λ n. or_load_fault (option_map BadRecord (records_fault n 16 (drop 16 bytes))) (option_map Unsound (program_fault (program_in bytes)))) (sym h.instructions)
    ∙ ap (λ bs. or_load_fault (option_map BadRecord (records_fault header.instructions 16 bs)) (option_map Unsound (program_fault (program_in bytes)))) (sym (take_rest bytes 16))
    ∙ ap (λ o. or_load_fault o (option_map Unsound (program_fault (program_in bytes)))) e)

-- the program of the parts that are read, and its fault
pub parts_read : (bytes : List ℕ) (header : Header) (code : List Instr) (words : List ℤ) → IsHeader bytes header → records_fault header.instructions 16 (body_of bytes) ≡ None
    → code ≡ code_from header.instructions (body_of bytes) → words ≡ words_from header.words (values_of header.instructions bytes)
    → (program_in bytes ≡ record { set = header.set; code = code; words = words }) × (load_fault bytes ≡ option_map Unsound (object_fault (set_of_name header.set) code words))
unfolding load_fault program_in
parts_read bytes header code words h records code_is words_is =
    let body = take_rest bytes 16 in
    let code_same = ap (λ n. code_from n (drop 16 bytes)) (sym h.instructions) ∙ ap (code_from header.instructions) (sym body) ∙ sym code_is in
    let words_same = ap (λ m. words_from m (drop (16 + 40 * instructions_in bytes) bytes)) (sym h.words)
    ∙ ap (λ n. words_from header.words (drop (16 + 40 * n) bytes)) (sym h.instructions) ∙ ap (words_from header.words) (sym (take_rest bytes (16 + 40 * header.instructions))) ∙ sym words_is in
    let read = same_program (set_in bytes) header.set (code_from (instructions_in bytes) (drop 16 bytes)) code (words_from (words_in bytes) (drop (16 + 40 * instructions_in bytes) bytes)) words
    (sym h.set) code_same words_same in (
      read,
      ap (λ o. or_load_fault o (after_header bytes)) h.no_fault
          ∙ ap (λ n. or_load_fault (option_map BadRecord (records_fault n 16 (drop 16 bytes))) (option_map Unsound (program_fault (program_in bytes)))) (sym h.instructions)
          ∙ ap (λ bs. or_load_fault (option_map BadRecord (records_fault header.instructions 16 bs)) (option_map Unsound (program_fault (program_in bytes)))) (sym body)
          ∙ ap (λ o. or_load_fault (option_map BadRecord o) (option_map Unsound (program_fault (program_in bytes)))) records ∙ ap (λ p. option_map Unsound (program_fault p)) read,
    )

pub program_is_spelled : (bytes : List ℕ) (program : Program) → AreBytes bytes → load_fault bytes ≡ None → program_in bytes ≡ program
    → bytes ≡ bytes_of program.set program.code program.words
program_is_spelled bytes program h fine read = subst (λ (p : Program). bytes ≡ bytes_of p.set p.code p.words) read (loaded_spelled bytes h fine).0
