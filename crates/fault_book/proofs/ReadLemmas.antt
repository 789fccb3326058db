-- The lines of a text of faults, read one after another.
use Rattle.std.proofs.Common.{◌≡◌, ℕ, suc, ◌+◌, ◌-◌, ◌<◌, ◌≤◌, ◌&&◌, ◌||◌, ◌==◌, Bool, true, false, cond, nat_eq, nat_le, List, [], ◌∷◌, ◌++◌, length, get_or, slice_set, take, map, Option, None, Some, is_some, if◌then◌else◌, refl, sym, ap, subst, ◌∙◌, arith}
use Rattle.std.specs.List.{cons_option, filter_map, list_any, range_with_len, slice_split}
use Rattle.std.specs.Map.{lookup}
use Rattle.std.specs.Str.Lines.{strip_carriage_return}
use Rattle.std.proofs.lemmas.Bool.Decides.{nat_tests}
use Rattle.std.proofs.lemmas.List.{append-nil, get_or-map, length-map, take_all, take_more}
use Rattle.std.proofs.lemmas.List.Elements.{filter_map-append}
use Rattle.indexmap.specs.IndexMap.{IndexMap, insert_entry}
use Rattle.indexmap.proofs.CallerLemmas.{insert_entry-new}
use Rattle.fault_book.specs.Invariant.{IsConsistent}
use Rattle.fault_book.specs.FaultText.{IsBookFault, book_faults, entry_of, fault_at_line, is_of_answer, line_fault, line_of, said_in}
use Rattle.fault_book.specs.declared.line.Line.{Line}
use Rattle.fault_book.specs.declared.line.Line.TheVariants.{Nothing, Entry, Bad}
use Rattle.fault_book.specs.declared.reading.BookFault.{BookFault}
use Rattle.fault_book.specs.declared.reading.BookFault.TheVariants.{BadLine, UnknownChannel, Twice}
use Rattle.fault_book.proofs.EntryLemmas.{IsConsistent-insert, same_answer}

-- the parts of a text between LF
abbrev pub parts_of : List ℕ → List (List ℕ)
parts_of text = slice_split (λ b. b == 10) text

-- line i says this, counted from 0
abbrev pub Says : List ℕ → ℕ → Line → Type 0
Says text i line = (i < length (said_in text)) × (line ≡ get_or (said_in text) i Nothing)

pub Says-part : (text : List ℕ) (i : ℕ) (part line : List ℕ) (said : Line) → (i < length (parts_of text)) × (part ≡ get_or (parts_of text) i part) → line ≡ strip_carriage_return part → said ≡ line_of line → Says text i said
Says-part text i part line said at stripped says =
    let parts = parts_of text in
    let lines = map strip_carriage_return parts in
    let within : i < length lines = omega (arith, length-map parts strip_carriage_return, at.0) in (
      omega (arith, length-map lines line_of, within),
      says
          ∙ ap line_of (stripped ∙ ap strip_carriage_return at.1 ∙ sym (get_or-map strip_carriage_return parts i part [] at.0))
          ∙ sym (get_or-map line_of lines i [] Nothing within),
    )

length-said_in : (text : List ℕ) → length (said_in text) ≡ length (parts_of text)
length-said_in text = length-map (map strip_carriage_return (parts_of text)) line_of ∙ length-map (parts_of text) strip_carriage_return

-- ---- faults
-- those of the lines from number i on
abbrev pub faults_from : ℕ → List Line → ℕ → List BookFault
faults_from channels lines i = filter_map (fault_at_line channels lines) (range_with_len i (length lines - i))

-- that of a line is the first of them
faults_from-line : (channels : ℕ) (text : List ℕ) (i : ℕ) (line : Line) → Says text i line
    → faults_from channels (said_in text) i ≡ cons_option (line_fault channels (take i (said_in text)) line (i + 1)) (faults_from channels (said_in text) (i + 1))
faults_from-line channels text i line says =
    let lines = said_in text in
    let one_more : length lines - i ≡ suc (length lines - (i + 1)) = omega (arith, says.0) in
    ap (λ n. filter_map (fault_at_line channels lines) (range_with_len i n)) one_more
    ∙ ap (λ l. cons_option (line_fault channels (take i lines) l (i + 1)) (faults_from channels lines (i + 1))) (sym says.1)

faults_from-start : (channels : ℕ) (text : List ℕ) → book_faults channels text ≡ faults_from channels (said_in text) 0
faults_from-start channels text =
    let all : length (said_in text) ≡ length (said_in text) - 0 = omega arith in
    ap (λ n. filter_map (fault_at_line channels (said_in text)) (range_with_len 0 n)) all

faults_from-end : (channels : ℕ) (lines : List Line) (i : ℕ) → i ≡ length lines → faults_from channels lines i ≡ []
faults_from-end channels lines i all =
    let none : length lines - i ≡ 0 = omega arith in
    ap (λ n. filter_map (fault_at_line channels lines) (range_with_len i n)) none

-- ---- entries
-- those of one line more
entries-line : (text : List ℕ) (i : ℕ) (line : Line) → Says text i line → filter_map entry_of (take (i + 1) (said_in text)) ≡ filter_map entry_of (take i (said_in text)) ++ filter_map entry_of (line ∷ [])
entries-line text i line says =
    let lines = said_in text in
    ap (filter_map entry_of) (take_more lines i Nothing says.0 ∙ ap (λ l. take i lines ++ l ∷ []) (sym says.1)) ∙ filter_map-append entry_of (take i lines) (line ∷ [])

seen-cons : (b : Bool) (value : ℕ) (found : Option ℕ) (any : Bool) → is_some found ≡ any → is_some (cond b (Some value) found) ≡ (b || any)
seen-cons true value found any h = refl
seen-cons false value found any h = h

-- an answer has an entry exactly if a line is of it
seen : (lines : List Line) (channel number : ℕ) → is_some (lookup (same_answer (channel, number)) (filter_map entry_of lines)) ≡ list_any (is_of_answer channel number) lines
seen [] channel number = refl
seen (Nothing ∷ lines) channel number = seen lines channel number
seen (Entry c n value ∷ lines) channel number = seen-cons (nat_eq channel c && nat_eq number n) value _ _ (seen lines channel number)
seen (Bad ∷ lines) channel number = seen lines channel number

none_from_test : (o : Option ℕ) → is_some o ≡ false → o ≡ None
none_from_test None h = refl
none_from_test (Some x) h = cc

-- ---- line by line
-- the first i lines break no rule, and these are their entries and flags
pub record IsReadUpTo {S : Type 0} (channels : ℕ) (text : List ℕ) (i : ℕ) (named : List Bool) (made : IndexMap (ℕ × ℕ) ℕ S) : Type 0 where
  pub faults : book_faults channels text ≡ faults_from channels (said_in text) i
  pub entries : made.entries ≡ filter_map entry_of (take i (said_in text))
  pub consistent : IsConsistent named (Some made)

module _ {S : Type 0} (channels : ℕ) (text : List ℕ) where
  pub IsReadUpTo-start : (named : List Bool) (made : IndexMap (ℕ × ℕ) ℕ S) → made.entries ≡ [] → IsConsistent named (Some made) → IsReadUpTo channels text 0 named made
  IsReadUpTo-start named made none consistent = record { faults = faults_from-start channels text; entries = none; consistent = consistent }

  pub IsReadUpTo-end : (i : ℕ) (named : List Bool) (made : IndexMap (ℕ × ℕ) ℕ S) → i ≡ length (parts_of text) → IsReadUpTo channels text i named made
      → (book_faults channels text ≡ []) × (made.entries ≡ filter_map entry_of (said_in text))
  IsReadUpTo-end i named made all read =
      let lines = said_in text in (
        read.faults ∙ faults_from-end channels lines i (all ∙ sym (length-said_in text)),
        read.entries ∙ ap (filter_map entry_of) (take_all i lines (omega (arith, length-said_in text))),
      )

  module _ (i : ℕ) (named : List Bool) (made : IndexMap (ℕ × ℕ) ℕ S) (read : IsReadUpTo channels text i named made) where
    -- a line without a fault is passed over
    none_broken : (line : Line) → Says text i line → line_fault channels (take i (said_in text)) line (i + 1) ≡ None → book_faults channels text ≡ faults_from channels (said_in text) (i + 1)
    none_broken line says fine =
        read.faults ∙ faults_from-line channels text i line says ∙ ap (λ fault. cons_option fault (faults_from channels (said_in text) (i + 1))) fine

    -- a line with one has the first
    first_broken : (line : Line) (fault : BookFault) → Says text i line → line_fault channels (take i (said_in text)) line (i + 1) ≡ Some fault → (more : List BookFault) × (book_faults channels text ≡ fault ∷ more)
    first_broken line fault says broken = (
      faults_from channels (said_in text) (i + 1),
      read.faults ∙ faults_from-line channels text i line says ∙ ap (λ found. cons_option found (faults_from channels (said_in text) (i + 1))) broken,
    )

    pub passed : Says text i Nothing → IsReadUpTo channels text (i + 1) named made
    passed says = record {
      faults = none_broken Nothing says refl;
      entries = read.entries ∙ sym (entries-line text i Nothing says ∙ append-nil _);
      consistent = read.consistent;
    }

    pub is_bad : (n : ℕ) → n ≡ i + 1 → Says text i Bad → IsBookFault channels text (BadLine n)
    is_bad n counted says = subst (λ m. IsBookFault channels text (BadLine m)) (sym counted) (first_broken Bad (BadLine (i + 1)) says refl)

    module _ (channel number value : ℕ) (says : Says text i (Entry channel number value)) where
      fault_by : (unknown twice : Bool) → nat_le channels channel ≡ unknown → list_any (is_of_answer channel number) (take i (said_in text)) ≡ twice
          → line_fault channels (take i (said_in text)) (Entry channel number value) (i + 1) ≡ (if unknown then Some (UnknownChannel (i + 1)) else if twice then Some (Twice (i + 1)) else None)
      fault_by unknown twice is_unknown is_twice = cc

      pub is_unknown : (n : ℕ) → n ≡ i + 1 → channels ≤ channel → IsBookFault channels text (UnknownChannel n)
      is_unknown n counted past =
          subst (λ m. IsBookFault channels text (UnknownChannel m)) (sym counted)
          (first_broken (Entry channel number value) (UnknownChannel (i + 1)) says (fault_by true _ (grind (arith, nat_tests)) refl))

      -- what the map had for the answer says whether a line before is of it
      twice_is : (old : Option ℕ) → old ≡ lookup (same_answer (channel, number)) made.entries → list_any (is_of_answer channel number) (take i (said_in text)) ≡ is_some old
      twice_is old had = sym (ap is_some (had ∙ ap (lookup (same_answer (channel, number))) read.entries) ∙ seen (take i (said_in text)) channel number)

      known : channel < channels → nat_le channels channel ≡ false
      known within = grind (arith, nat_tests)

      pub is_twice : (n : ℕ) (old : Option ℕ) → n ≡ i + 1 → channel < channels → old ≡ lookup (same_answer (channel, number)) made.entries → is_some old ≡ true → IsBookFault channels text (Twice n)
      is_twice n old counted within had some =
          subst (λ m. IsBookFault channels text (Twice m)) (sym counted)
          (first_broken (Entry channel number value) (Twice (i + 1)) says (fault_by false true (known within) (twice_is old had ∙ some)))

      pub one_more : (new : IndexMap (ℕ × ℕ) ℕ S) (flags : List Bool) (old : Option ℕ) → channel < channels → channels ≤ 12 → old ≡ lookup (same_answer (channel, number)) made.entries → is_some old ≡ false
          → new.entries ≡ insert_entry same_answer made.entries (channel, number) value → flags ≡ slice_set named channel true → IsReadUpTo channels text (i + 1) flags new
      one_more new flags old within few had none put set = record {
        faults = none_broken (Entry channel number value) says (fault_by false false (known within) (twice_is old had ∙ none));
        entries =
            put ∙ insert_entry-new same_answer made (channel, number) value (sym had ∙ none_from_test old none)
            ∙ ap (λ es. es ++ ((channel, number), value) ∷ []) read.entries ∙ sym (entries-line text i (Entry channel number value) says);
        consistent = IsConsistent-insert made new named flags channel number value (omega arith) put set read.consistent;
      }
