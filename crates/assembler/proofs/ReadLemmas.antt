-- The lines of a text, read one after another.
use Rattle.std.proofs.Common.{◌≡◌, ℕ, zero, suc, ◌+◌, ◌<◌, ◌==◌, Bool, true, false, List, [], ◌∷◌, ◌++◌, length, get_or, take, drop, map, count_by, Option, Some, None, inl, inr, refl, sym, ap, subst, ◌∙◌, append_assoc, length-append, arith}
use Rattle.std.specs.Prelude.{if◌then◌else◌, IfSome, IsTrue}
use Rattle.std.specs.List.{slice_split}
use Rattle.std.specs.Str.Lines.{strip_carriage_return}
use Rattle.std.proofs.lemmas.Bool.{false≢true}
use Rattle.std.proofs.lemmas.Bool.Decides.{nat_tests}
use Rattle.std.proofs.lemmas.List.{get_or-map, length-map, length-take-le, take-append-drop, take_all, take_more}
use Rattle.std.proofs.lemmas.List.Splits.{length-slice_split}
use Rattle.std.proofs.lemmas.List.Sums.{count_by-le-length}
use Rattle.plain_text.specs.Lines.{line_feeds}
use Rattle.moduli_sets.specs.declared.set_name.SetName.{SetName}
use Rattle.assembler.specs.Words.{lines_of, said_in, without_returns, words_in}
use Rattle.assembler.specs.Assembly.{AreLawful, HasForm, IsNew, IsRefused, are_empty, line, set_line}
use Rattle.assembler.specs.Reading.{is_instr}
use Rattle.assembler.specs.Lines.{said_of}
use Rattle.assembler.specs.Taken.{AreSaid, IsRead, IsRefusedAt, IsTaken, saids_of}
use Rattle.assembler.specs.declared.fault.AsmFault.{AsmFault}
use Rattle.assembler.specs.declared.fault.AsmFault.TheVariants.{BadLine}
use Rattle.assembler.specs.declared.program.Program.{Program}
use Rattle.assembler.proofs.LawfulLines.{AreLawful-next, refused-form}
use Rattle.assembler.proofs.SaidLemmas.{are_empty-more, length-AreSaid}

-- ---- lines
-- the parts of a text between LF
abbrev pub parts_of : List ℕ → List (List ℕ)
parts_of text = slice_split (λ b. b == 10) text

pub length-parts_of : (text : List ℕ) → length (parts_of text) ≡ line_feeds text + 1
length-parts_of text = length-slice_split (λ b. b == 10) text

length-without_returns : (parts : List (List ℕ)) → length (without_returns parts) ≡ length parts
length-without_returns [] = refl
length-without_returns (last ∷ []) = refl
length-without_returns (part ∷ (next ∷ parts)) = ap suc (length-without_returns (next ∷ parts))

pub length-said_in : (text : List ℕ) → length (said_in text) ≡ length (parts_of text)
length-said_in text = length-map (lines_of text) words_in ∙ length-without_returns (parts_of text)

-- the last part is a line as it stands, and one CR at its end is none of an earlier one
last_line : (parts : List (List ℕ)) (i : ℕ) (d : List ℕ) → i + 1 ≡ length parts → get_or (without_returns parts) i [] ≡ get_or parts i d
last_line [] i d at = absurd (omega arith)
last_line (last ∷ []) zero d at = refl
last_line (last ∷ []) (suc i) d at = absurd (omega arith)
last_line (part ∷ (next ∷ parts)) zero d at = absurd (omega arith)
last_line (part ∷ (next ∷ parts)) (suc i) d at = last_line (next ∷ parts) i d (omega arith)

earlier_line : (parts : List (List ℕ)) (i : ℕ) (d : List ℕ) → i + 1 < length parts → get_or (without_returns parts) i [] ≡ strip_carriage_return (get_or parts i d)
earlier_line [] i d at = absurd (omega arith)
earlier_line (last ∷ []) i d at = absurd (omega arith)
earlier_line (part ∷ (next ∷ parts)) zero d at = refl
earlier_line (part ∷ (next ∷ parts)) (suc i) d at = earlier_line (next ∷ parts) i d (omega arith)

line_at : (parts : List (List ℕ)) (i : ℕ) (d : List ℕ) (is_last : Bool) → i < length parts → (i + 1 == length parts) ≡ is_last
    → (if is_last then get_or parts i d else strip_carriage_return (get_or parts i d)) ≡ get_or (without_returns parts) i []
line_at parts i d true within test = sym (last_line parts i d (grind (arith, nat_tests)))
line_at parts i d false within test = sym (earlier_line parts i d (grind (arith, nat_tests)))

-- the words of the line that a part is
pub words_at : (text : List ℕ) (i : ℕ) (part here : List ℕ) (words : List (List ℕ)) → (i < length (parts_of text)) × (part ≡ get_or (parts_of text) i part)
    → here ≡ (if i + 1 == line_feeds text + 1 then part else strip_carriage_return part) → words ≡ words_in here → (i < length (said_in text)) × (words ≡ line (said_in text) i)
words_at text i part here words at is says =
    let parts = parts_of text in
    let there : i < length (lines_of text) = omega (arith, length-without_returns parts, at.0) in
    let same : here ≡ get_or (lines_of text) i [] =
    is ∙ ap (λ p. if i + 1 == line_feeds text + 1 then p else strip_carriage_return p) at.1
    ∙ ap (λ n. if i + 1 == n then get_or parts i part else strip_carriage_return (get_or parts i part)) (sym (length-parts_of text))
    ∙ line_at parts i part (i + 1 == length parts) at.0 refl in (
      omega (arith, length-map (lines_of text) words_in, there),
      says ∙ ap words_in same ∙ sym (get_or-map words_in (lines_of text) i [] [] there),
    )

split_line : (lines : List (List (List ℕ))) (i : ℕ) → i < length lines → take i lines ++ line lines i ∷ drop (i + 1) lines ≡ lines
split_line lines i within =
    sym (append_assoc (take i lines) (line lines i ∷ []) (drop (i + 1) lines)) ∙ ap (λ ls. ls ++ drop (i + 1) lines) (sym (take_more lines i [] within)) ∙ take-append-drop (i + 1) lines

module _ (text : List ℕ) (i : ℕ) (words : List (List ℕ)) (at : (i < length (said_in text)) × (words ≡ line (said_in text) i)) where
  pub length-read : length (take i (said_in text)) ≡ i
  length-read = length-take-le i (said_in text) (omega (arith, at.0))

  pub read-more : (program : Option Program) → IsRead (take i (said_in text) ++ words ∷ []) program → IsRead (take (i + 1) (said_in text)) program
  read-more program read = subst (λ lines. IsRead lines program) (ap (λ w. take i (said_in text) ++ w ∷ []) at.1 ∙ sym (take_more (said_in text) i [] at.0)) read

  pub refused-here : (fault : AsmFault) → IsRefusedAt (take i (said_in text)) words fault → IsRefused (said_in text) fault
  refused-here fault why =
      subst (λ lines. IsRefused lines fault) (ap (λ w. take i (said_in text) ++ w ∷ drop (i + 1) (said_in text)) at.1 ∙ split_line (said_in text) i at.0) (why (drop (i + 1) (said_in text)))

pub read-all : (text : List ℕ) (n : ℕ) (program : Option Program) → n ≡ length (parts_of text) → IsRead (take n (said_in text)) program → IsRead (said_in text) program
read-all text n program all read = subst (λ lines. IsRead lines program) (take_all n (said_in text) (omega (arith, length-said_in text, all))) read

-- ---- room for numbers
module _ (lines : List (List (List ℕ))) (program : Program) (taken : IsTaken lines program) where
  length-taken : length lines ≡ length taken.before + length taken.after + 1
  length-taken = ap length taken.parts ∙ omega (arith, length-append taken.before (set_line program.set ∷ taken.after))

  length-statements : length taken.after ≡ length program.statements.items
  length-statements = length-AreSaid taken.after (saids_of program) taken.said ∙ length-map program.statements.items said_of

  few_instructions : program.instructions < length lines + 1
  few_instructions = omega (arith, length-taken, length-AreSaid taken.after (saids_of program) taken.said, taken.counted, count_by-le-length is_instr (saids_of program))

  pub lines-are : program.set_number + length program.statements.items ≡ length lines
  lines-are = omega (arith, length-taken, length-statements, taken.numbered)

pub instructions-below : (lines : List (List (List ℕ))) (program : Option Program) (n : ℕ) → IsRead lines program → length lines < n → IfSome program (λ p. p.instructions < n)
instructions-below lines None n read above = tt
instructions-below lines (Some program) n read above = omega (arith, few_instructions lines program read)

-- ---- lines before the set line
line-empty : (lines : List (List (List ℕ))) (i : ℕ) → IsTrue (are_empty lines) → (are_empty (take i lines) ≡ true) × (line lines i ≡ [])
line-empty [] zero none = (refl, refl)
line-empty [] (suc i) none = (refl, refl)
line-empty ([] ∷ lines) zero none = (refl, refl)
line-empty ([] ∷ lines) (suc i) none = line-empty lines i none
line-empty ((word ∷ words) ∷ lines) i none = absurd (false≢true none)

lawful-empty : (lines : List (List (List ℕ))) → IsTrue (are_empty lines) → AreLawful (length lines) lines
lawful-empty lines none i below =
    let here = line-empty lines i none in
    (inl (here.0, inl here.1), subst (IsNew (take i lines)) (sym here.1) (λ k d within. absurd (omega arith)))

module _ (lines : List (List (List ℕ))) (none : IsTrue (are_empty lines)) where
  pub read-blank : (words : List (List ℕ)) → words ≡ [] → IsTrue (are_empty (lines ++ words ∷ []))
  read-blank words blank = subst (λ w. IsTrue (are_empty (lines ++ w ∷ []))) (sym blank) (are_empty-more lines none)

  form-set : (words : List (List ℕ)) (set : SetName) → words ≡ set_line set → HasForm lines words
  form-set words set is = inl (none, inr (set, is))

  pub refused-begun : (words : List (List ℕ)) (number : ℕ) → number ≡ length lines + 1 → (words ≡ [] → ⊥) → ((set : SetName) → words ≡ set_line set → ⊥) → IsRefusedAt lines words (BadLine number)
  refused-begun words number counted some no_set = refused-form lines words number (lawful-empty lines none) counted (λ form. wrong form)
    where
      wrong : HasForm lines words → ⊥
      wrong (inl (empty, inl blank)) = some blank
      wrong (inl (empty, inr (set, is))) = no_set set is
      wrong (inr (begun, well)) = false≢true (sym begun ∙ none)

  -- the set line begins a program
  pub read-set : (words : List (List ℕ)) (program : Program) → words ≡ set_line program.set → program.set_number ≡ length lines + 1 → program.statements.items ≡ [] → program.places ≡ [] → program.instructions ≡ 0 → IsTaken (lines ++ words ∷ []) program
  read-set words program is number statements places instructions = record {
    before = lines;
    after = [];
    parts = ap (λ w. lines ++ w ∷ []) is;
    empty = none;
    numbered = number;
    said = subst (λ held. AreSaid [] (map said_of held)) (sym statements) tt;
    different = λ i j d before within same. absurd (omega arith);
    placed = places;
    counted = instructions ∙ ap (λ held. count_by is_instr (map said_of held)) (sym statements);
    lawful = AreLawful-next lines words (lawful-empty lines none) (form-set words program.set is) (subst (IsNew lines) (sym is) (λ k d within. absurd (omega arith)));
  }
