-- Lines that break no rule, one more at a time, and the first that breaks one.
use Rattle.std.proofs.Common.{◌≡◌, ℕ, ◌+◌, ◌<◌, ◌≤◌, false, List, [], ◌∷◌, ◌++◌, length, get_or, take, map, count_by, All, Option, Some, None, inl, inr, refl, sym, ap, subst, ◌∙◌, append_assoc, length-append, arith}
use Rattle.std.specs.Prelude.{IsTrue}
use Rattle.std.specs.List.{list_any}
use Rattle.std.specs.Option.{is_some}
use Rattle.std.specs.Str.{bytes_eq}
use Rattle.std.proofs.Math.Nat.{eq-or-lt_of_le}
use Rattle.std.proofs.Math.Seq.{get_or-append_seam, take-append_seam}
use Rattle.std.proofs.lemmas.Bool.{false≢true}
use Rattle.std.proofs.lemmas.Grind.{flat_map-append}
use Rattle.std.proofs.lemmas.List.{append-nil, get_or_append_left, take-append-le}
use Rattle.plain_text.specs.Lookup.{lookup}
use Rattle.assembler.specs.Statements.{IsWellFormed, names_in}
use Rattle.assembler.specs.Assembly.{AreDifferent, AreLawful, HasForm, IsNew, are_empty, line, names_of, places_from, set_line}
use Rattle.assembler.specs.Reading.{IsSaid, Said, is_instr}
use Rattle.assembler.specs.Taken.{AreSaid, IsRefusedAt, IsTaken, IsTwice, saids_of}
use Rattle.assembler.specs.declared.fault.AsmFault.{AsmFault}
use Rattle.assembler.specs.declared.fault.AsmFault.TheVariants.{BadLine, TwiceNamed, UnknownName, Unsound, NoMemory}
use Rattle.assembler.specs.declared.program.Program.{Program}
use Rattle.assembler.proofs.SaidLemmas.{AreSaid-more, IsWellFormed-from_IsSaid, are_empty-after, count-more, different-more, length-names_in, named-by, names-after, places_from-more}

-- a line breaks no rule in its place
abbrev pub IsLawfulAt : List (List (List ℕ)) → List (List ℕ) → Type 0
IsLawfulAt before words = HasForm before words × IsNew before words

-- ---- lines behind others
pub AreLawful-longer : (n : ℕ) (lines more : List (List (List ℕ))) → n ≤ length lines → AreLawful n lines → AreLawful n (lines ++ more)
AreLawful-longer n lines more within lawful i below =
    subst (λ words. IsLawfulAt (take i (lines ++ more)) words) (sym (get_or_append_left lines more [] i (omega arith)))
    (subst (λ before. IsLawfulAt before (line lines i)) (sym (take-append-le i lines more (omega arith))) (lawful i below))

module _ (lines : List (List (List ℕ))) (words : List (List ℕ)) (more : List (List (List ℕ))) where
  pub lines_before : take (length lines) (lines ++ words ∷ more) ≡ lines
  lines_before = take-append_seam lines (words ∷ more)

  pub line_there : line (lines ++ words ∷ more) (length lines) ≡ words
  line_there = get_or-append_seam lines words more []

  pub in_place : (P : List (List (List ℕ)) → List (List ℕ) → Type 0) → P lines words → P (take (length lines) (lines ++ words ∷ more)) (line (lines ++ words ∷ more) (length lines))
  in_place P holds =
      subst (λ w. P (take (length lines) (lines ++ words ∷ more)) w) (sym line_there) (subst (λ before. P before words) (sym lines_before) holds)

  pub out_of_place : (P : List (List (List ℕ)) → List (List ℕ) → Type 0) → P (take (length lines) (lines ++ words ∷ more)) (line (lines ++ words ∷ more) (length lines)) → P lines words
  out_of_place P holds =
      subst (λ before. P before words) lines_before (subst (λ w. P (take (length lines) (lines ++ words ∷ more)) w) line_there holds)

  pub one_there : length lines < length (lines ++ words ∷ more)
  one_there = omega (arith, length-append lines (words ∷ more))

pub AreLawful-next : (lines : List (List (List ℕ))) (words : List (List ℕ)) → AreLawful (length lines) lines → HasForm lines words → IsNew lines words → AreLawful (length (lines ++ words ∷ [])) (lines ++ words ∷ [])
AreLawful-next lines words lawful form new i below =
    elim (eq-or-lt_of_le (at_most i below)) [
      | inr before ↦ AreLawful-longer (length lines) lines (words ∷ []) (omega arith) lawful i before
      | inl last ↦ subst (λ k. IsLawfulAt (take k (lines ++ words ∷ [])) (line (lines ++ words ∷ []) k)) (sym last) (in_place lines words [] IsLawfulAt (form, new))
    ]
  where
    at_most : (k : ℕ) → k < length (lines ++ words ∷ []) → k ≤ length lines
    at_most k h = omega (arith, length-append lines (words ∷ []))

-- ---- the first line that breaks a rule
module _ (lines : List (List (List ℕ))) (words : List (List ℕ)) (number : ℕ) (lawful : AreLawful (length lines) lines) (counted : number ≡ length lines + 1) where
  pub refused-form : (HasForm lines words → ⊥) → IsRefusedAt lines words (BadLine number)
  refused-form none more =
      inl (length lines, counted, one_there lines words more, AreLawful-longer (length lines) lines (words ∷ more) (omega arith) lawful, λ form. none (out_of_place lines words more HasForm form))

  pub refused-twice : HasForm lines words → (IsNew lines words → ⊥) → IsRefusedAt lines words (TwiceNamed number)
  refused-twice form none more = (
    length lines,
    counted,
    one_there lines words more,
    AreLawful-longer (length lines) lines (words ∷ more) (omega arith) lawful,
    in_place lines words more HasForm form,
    λ new. none (out_of_place lines words more IsNew new),
  )

-- ---- before the set line
form-blank : (lines : List (List (List ℕ))) → IsTrue (are_empty lines) → HasForm lines []
form-blank lines none = inl (none, inl refl)

-- ---- one line more of a program
none_from_test : (o : Option ℕ) → is_some o ≡ false → o ≡ None
none_from_test None h = refl
none_from_test (Some x) h = cc

module _ (lines : List (List (List ℕ))) (program : Program) (taken : IsTaken lines program) where
  names-taken : names_of lines ≡ names_of taken.after
  names-taken = ap names_of taken.parts ∙ names-after taken.before taken.after program.set taken.empty

  begun : are_empty lines ≡ false
  begun = ap are_empty taken.parts ∙ are_empty-after taken.before taken.after program.set

  pub form-taken : (words : List (List ℕ)) → IsWellFormed words → HasForm lines words
  form-taken words well = inr (begun, well)

  pub ill-taken : (words : List (List ℕ)) → (IsWellFormed words → ⊥) → HasForm lines words → ⊥
  ill-taken words ill (inl (none, rest)) = false≢true (sym begun ∙ none)
  ill-taken words ill (inr (some, well)) = ill well

  -- a label is new exactly if its name has no place
  place-test : (name : List ℕ) → is_some (lookup name program.places) ≡ list_any (bytes_eq name) (names_of lines)
  place-test name = ap (λ places. is_some (lookup name places)) taken.placed ∙ named-by name taken.after ∙ ap (list_any (bytes_eq name)) (sym names-taken)

  pub new-from_lookup : (words : List (List ℕ)) → All (λ name. lookup name program.places ≡ None) (names_in words) → IsNew lines words
  new-from_lookup words none k d within = sym (place-test (get_or (names_in words) k d)) ∙ ap is_some (none k d within)

  pub lookup-from_new : (words : List (List ℕ)) → IsNew lines words → All (λ name. lookup name program.places ≡ None) (names_in words)
  lookup-from_new words new k d within = none_from_test (lookup (get_or (names_in words) k d) program.places) (place-test (get_or (names_in words) k d) ∙ new k d within)

  module _ (words : List (List ℕ)) (said : Said) (is : IsSaid words said) where
    pub refused-label : (names : List (List ℕ)) (number : ℕ) (fault : AsmFault) → names ≡ names_in words → number ≡ length lines + 1 → IsTwice program.places names number fault → IsRefusedAt lines words fault
    refused-label names number (BadLine n) same counted twice = absurd twice
    refused-label names number (TwiceNamed n) same counted twice =
        refused-twice lines words n taken.lawful (twice.0 ∙ counted) (form-taken words (IsWellFormed-from_IsSaid words said is))
        (λ new. twice.1 (subst (All (λ name. lookup name program.places ≡ None)) (sym same) (lookup-from_new words new)))
    refused-label names number (UnknownName n) same counted twice = absurd twice
    refused-label names number (Unsound fault n) same counted twice = absurd twice
    refused-label names number NoMemory same counted twice = λ more. tt

    pub IsTaken-next : (new : Program) → All (λ name. lookup name program.places ≡ None) (names_in words)
        → new.set ≡ program.set → new.set_number ≡ program.set_number → saids_of new ≡ saids_of program ++ said ∷ []
        → new.places ≡ program.places ++ map (λ name. (name, program.instructions)) (names_in words)
        → new.instructions ≡ program.instructions + count_by is_instr (said ∷ []) → IsTaken (lines ++ words ∷ []) new
    IsTaken-next new none set number saids places instructions =
        let fresh = new-from_lookup words none in
        record {
          before = taken.before;
          after = taken.after ++ words ∷ [];
          parts = ap (λ ls. ls ++ words ∷ []) (taken.parts ∙ ap (λ s. taken.before ++ set_line s ∷ taken.after) (sym set)) ∙ append_assoc taken.before (set_line new.set ∷ taken.after) (words ∷ []);
          empty = taken.empty;
          numbered = number ∙ taken.numbered;
          said = subst (AreSaid (taken.after ++ words ∷ [])) (sym saids) (AreSaid-more taken.after (saids_of program) words said taken.said is);
          different = subst AreDifferent (sym (flat_map-append names_in taken.after (words ∷ []) ∙ ap (λ ns. names_of taken.after ++ ns) (append-nil (names_in words))))
              (different-more (names_of taken.after) (names_in words) (length-names_in words) taken.different (subst (λ ns. All (λ name. list_any (bytes_eq name) ns ≡ false) (names_in words)) names-taken fresh));
          placed = places ∙ ap (λ ps. ps ++ map (λ name. (name, program.instructions)) (names_in words)) taken.placed
              ∙ ap (λ n. places_from 0 taken.after ++ map (λ name. (name, n)) (names_in words)) (taken.counted ∙ omega arith)
              ∙ sym (places_from-more 0 taken.after (saids_of program) words taken.said);
          counted = instructions ∙ ap (λ n. n + count_by is_instr (said ∷ [])) taken.counted ∙ sym (count-more (saids_of program) said) ∙ ap (count_by is_instr) (sym saids);
          lawful = AreLawful-next lines words taken.lawful (form-taken words (IsWellFormed-from_IsSaid words said is)) fresh;
        }
