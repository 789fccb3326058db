-- A text is refused for one reason at the most, and spells no program then.
use Rattle.std.proofs.Common.{◌≡◌, ℕ, zero, suc, ◌+◌, ◌<◌, ℤ, true, List, [], ◌∷◌, ◌++◌, length, take, Option, Some, None, refl, sym, ap, ◌∙◌, subst, inl, inr, arith}
use Rattle.std.specs.Prelude.{◌≢◌, ◌⊎◌}
use Rattle.std.proofs.lemmas.Bool.{cases_order, false≢true}
use Rattle.moduli_sets.specs.declared.set_name.SetName.{SetName}
use Rattle.moduli_sets.specs.Name.{set_of_name}
use Rattle.machine_table.specs.declared.fault.ObjectFault.{ObjectFault}
use Rattle.machine_table.specs.Faults.{object_fault}
use Rattle.machine_table.specs.declared.instr.Instr.{Instr}
use Rattle.assembler.specs.declared.fault.AsmFault.{AsmFault}
use Rattle.assembler.specs.declared.fault.AsmFault.TheVariants.{BadLine, TwiceNamed, UnknownName, Unsound, NoMemory}
use Rattle.assembler.specs.Laws.{RefusedAreNone}
use Rattle.assembler.specs.Words.{Places, said_in}
use Rattle.assembler.specs.Statements.{Statement}
use Rattle.assembler.specs.Assembly.{AreLawful, AreStatements, HasForm, IsNew, IsProgram, IsRefused, Says, are_empty, code_in, data_in, line, line_of_fault, places_from, set_line}
use Rattle.assembler.proofs.LawfulLemmas.{are_empty-set_line, lawful-empty, lawful-program}
use Rattle.assembler.proofs.ProgramLemmas.{parts_one, program_one, program_parts}

-- ---- the first line that breaks a rule of lines
record IsFirstBad (lines : List (List (List ℕ))) (i : ℕ) : Type 0 where
  within : i < length lines
  lawful : AreLawful i lines
  bad : HasForm (take i lines) (line lines i) × IsNew (take i lines) (line lines i) → ⊥

-- why a line has no form, or has a label of another
abbrev IsBadLine : ℕ → List (List (List ℕ)) → Type 0
IsBadLine n lines = (i : ℕ) × (n ≡ i + 1) × (i < length lines) × AreLawful i lines × (HasForm (take i lines) (line lines i) → ⊥)

abbrev IsTwiceNamed : ℕ → List (List (List ℕ)) → Type 0
IsTwiceNamed n lines =
    (i : ℕ) × (n ≡ i + 1) × (i < length lines) × AreLawful i lines × HasForm (take i lines) (line lines i) × (IsNew (take i lines) (line lines i) → ⊥)

first-bad_line : (n : ℕ) (lines : List (List (List ℕ))) → (h : IsBadLine n lines) → IsFirstBad lines h.0
first-bad_line n lines h = record { within = h.2; lawful = h.3; bad = λ both. h.4 both.0 }

first-twice_named : (n : ℕ) (lines : List (List (List ℕ))) → (h : IsTwiceNamed n lines) → IsFirstBad lines h.0
first-twice_named n lines h = record { within = h.2; lawful = h.3; bad = λ both. h.5 both.1 }

first_of_two : (lines : List (List (List ℕ))) (i j : ℕ) → IsFirstBad lines i → IsFirstBad lines j → (i ≡ j) ⊎ ((i < j) ⊎ (j < i)) → i ≡ j
first_of_two lines i j h h' (inl e) = e
first_of_two lines i j h h' (inr (inl l)) = absurd (h.bad (h'.lawful i l))
first_of_two lines i j h h' (inr (inr l)) = absurd (h'.bad (h.lawful j l))

first_one : (lines : List (List (List ℕ))) (i j : ℕ) → IsFirstBad lines i → IsFirstBad lines j → i ≡ j
first_one lines i j h h' = first_of_two lines i j h h' (cases_order i j)

bad_one : (n m : ℕ) (lines : List (List (List ℕ))) → IsBadLine n lines → IsBadLine m lines → n ≡ m
bad_one n m lines h h' = let one = first_one lines h.0 h'.0 (first-bad_line n lines h) (first-bad_line m lines h') in omega (arith, h.1, h'.1)

twice_one : (n m : ℕ) (lines : List (List (List ℕ))) → IsTwiceNamed n lines → IsTwiceNamed m lines → n ≡ m
twice_one n m lines h h' = let one = first_one lines h.0 h'.0 (first-twice_named n lines h) (first-twice_named m lines h') in omega (arith, h.1, h'.1)

bad-not_twice : (n m : ℕ) (lines : List (List (List ℕ))) → IsBadLine n lines → IsTwiceNamed m lines → ⊥
bad-not_twice n m lines h h' =
    let one = first_one lines h'.0 h.0 (first-twice_named m lines h') (first-bad_line n lines h) in
    h.4 (subst (λ (i : ℕ). HasForm (take i lines) (line lines i)) one h'.4)

bad-not_lawful : (n : ℕ) (lines : List (List (List ℕ))) → IsBadLine n lines → AreLawful (length lines) lines → ⊥
bad-not_lawful n lines h all = h.4 (all h.0 h.2).0

twice-not_lawful : (n : ℕ) (lines : List (List (List ℕ))) → IsTwiceNamed n lines → AreLawful (length lines) lines → ⊥
twice-not_lawful n lines h all = h.5 (all h.0 h.2).1

-- lines with a set line have a word
parts-not_empty : (lines before after : List (List (List ℕ))) (set : SetName) → lines ≡ before ++ set_line set ∷ after → are_empty lines ≡ true → ⊥
parts-not_empty lines before after set e h = false≢true (sym (are_empty-set_line before after set) ∙ ap are_empty (sym e) ∙ h)

-- ---- the first line that says nothing
says_at : (places : Places) (lines : List (List (List ℕ))) (statements : List Statement) → AreStatements places lines statements → (i : ℕ) → i < length lines → Says places (line lines i)
says_at places [] statements h i l = absurd (omega arith)
says_at places (words ∷ lines) [] h i l = absurd h
says_at places (words ∷ lines) (said ∷ statements) h zero l = (said, h.0)
says_at places (words ∷ lines) (said ∷ statements) h (suc i) l = says_at places lines statements h.1 i (omega arith)

says_moved : (places places' : Places) (after after' : List (List (List ℕ))) (i : ℕ) → places ≡ places' → after ≡ after' → Says places (line after i) → Says places' (line after' i)
says_moved places places' after after' i e f h =
    subst (λ (ps : Places). Says ps (line after' i)) e (subst (λ (ls : List (List (List ℕ))). Says places (line ls i)) f h)

-- the first of two such lines is the other
silent_of_two : (places places' : Places) (after after' : List (List (List ℕ))) (i j : ℕ) → places ≡ places' → after ≡ after'
    → ((k : ℕ) → k < i → Says places (line after k)) → (Says places (line after i) → ⊥) → ((k : ℕ) → k < j → Says places' (line after' k)) → (Says places' (line after' j) → ⊥)
    → (i ≡ j) ⊎ ((i < j) ⊎ (j < i)) → i ≡ j
silent_of_two places places' after after' i j e f said silent said' silent' (inl same) = same
silent_of_two places places' after after' i j e f said silent said' silent' (inr (inl l)) = absurd (silent (says_moved places' places after' after i (sym e) (sym f) (said' i l)))
silent_of_two places places' after after' i j e f said silent said' silent' (inr (inr l)) = absurd (silent' (says_moved places places' after after' j e f (said j l)))

silent_one : (places places' : Places) (after after' : List (List (List ℕ))) (i j : ℕ) → places ≡ places' → after ≡ after'
    → ((k : ℕ) → k < i → Says places (line after k)) → (Says places (line after i) → ⊥) → ((k : ℕ) → k < j → Says places' (line after' k)) → (Says places' (line after' j) → ⊥) → i ≡ j
silent_one places places' after after' i j e f said silent said' silent' =
    silent_of_two places places' after after' i j e f said silent said' silent' (cases_order i j)

-- ---- one reason
unknown_one : (n m : ℕ) (lines : List (List (List ℕ))) → IsRefused lines (UnknownName n) → IsRefused lines (UnknownName m) → n ≡ m
unknown_one n m lines h h' =
    let named = h.6 in
    let named' = h'.6 in
    let same = parts_one named.set named'.set h.0 h'.0 h.1 h'.1 named.empty named'.empty (sym named.parts ∙ named'.parts) in
    let places : h.2 ≡ h'.2 = named.tied ∙ ap (places_from 0) same.afters ∙ sym named'.tied in
    let line_one : h.3 ≡ h'.3 = silent_one h.2 h'.2 h.1 h'.1 h.3 h'.3 places same.afters named.named h.7 named'.named h'.7 in
    omega (arith, h.4, h'.4, ap length same.befores)

-- lines that are a program say something each
unknown-no_program : (n : ℕ) (lines : List (List (List ℕ))) (set : SetName) (statements : List Statement) → IsRefused lines (UnknownName n) → IsProgram lines set statements → ⊥
unknown-no_program n lines set statements h p =
    let named = h.6 in
    let same = parts_one named.set set h.0 p.before h.1 p.after named.empty p.empty (sym named.parts ∙ p.parts) in
    let places : places_from 0 p.after ≡ h.2 = sym (named.tied ∙ ap (places_from 0) same.afters) in
    let within : h.3 < length p.after = omega (arith, h.5, ap length same.afters) in
    h.7 (says_moved (places_from 0 p.after) h.2 p.after h.1 h.3 places (sym same.afters) (says_at (places_from 0 p.after) p.after statements p.said h.3 within))

object_fault-same : (set set' : SetName) (statements statements' : List Statement) → set ≡ set' → statements ≡ statements'
    → object_fault (set_of_name set) (code_in statements) (data_in statements) ≡ object_fault (set_of_name set') (code_in statements') (data_in statements')
object_fault-same set set' statements statements' e f =
    ap (λ (s : SetName). object_fault (set_of_name s) (code_in statements) (data_in statements)) e
    ∙ ap (λ (ss : List Statement). object_fault (set_of_name set') (code_in ss) (data_in ss)) f

line_of_fault-same : (fault fault' : ObjectFault) (before before' : List (List (List ℕ))) (statements statements' : List Statement) → fault ≡ fault' → before ≡ before' → statements ≡ statements'
    → line_of_fault fault (length before + 2) statements ≡ line_of_fault fault' (length before' + 2) statements'
line_of_fault-same fault fault' before before' statements statements' e f g =
    ap (λ (o : ObjectFault). line_of_fault o (length before + 2) statements) e
    ∙ ap (λ (ls : List (List (List ℕ))). line_of_fault fault' (length ls + 2) statements) f
    ∙ ap (λ (ss : List Statement). line_of_fault fault' (length before' + 2) ss) g

-- two programs of one text have one fault on one line
unsound_one : (lines : List (List (List ℕ))) (fault fault' : ObjectFault) (n m : ℕ) → IsRefused lines (Unsound fault n) → IsRefused lines (Unsound fault' m) → Unsound fault n ≡ Unsound fault' m
unsound_one lines fault fault' n m h h' =
    let one = program_one lines h.0 h'.0 h.1 h'.1 h.2 h'.2 in
    let befores = (program_parts lines h.0 h'.0 h.1 h'.1 h.2 h'.2).befores in
    let some : Some fault ≡ Some fault' = sym h.3 ∙ object_fault-same h.0 h'.0 h.1 h'.1 one.0 one.1 ∙ h'.3 in
    let faults : fault ≡ fault' = cc in
    let numbers : n ≡ m = h.4 ∙ line_of_fault-same fault fault' h.2.before h'.2.before h.1 h'.1 faults befores one.1 ∙ sym h'.4 in
    ap (λ (o : ObjectFault). Unsound o n) faults ∙ ap (λ (k : ℕ). Unsound fault' k) numbers

-- a line that breaks a rule of lines comes before all else
lines_first : (n m : ℕ) (lines : List (List (List ℕ))) → IsRefused lines (BadLine n) → IsTwiceNamed m lines → ⊥
lines_first n m lines (inl h) h' = bad-not_twice n m lines h h'
lines_first n m lines (inr h) h' = twice-not_lawful m lines h' (lawful-empty lines h.1)

bad-no_parts : (n : ℕ) (lines before after : List (List (List ℕ))) (set : SetName) → IsRefused lines (BadLine n) → AreLawful (length lines) lines → lines ≡ before ++ set_line set ∷ after → ⊥
bad-no_parts n lines before after set (inl h) all e = bad-not_lawful n lines h all
bad-no_parts n lines before after set (inr h) all e = parts-not_empty lines before after set e h.1

bad-no_unknown : (n m : ℕ) (lines : List (List (List ℕ))) → IsRefused lines (BadLine n) → IsRefused lines (UnknownName m) → ⊥
bad-no_unknown n m lines h h' = bad-no_parts n lines h'.0 h'.1 h'.6.set h h'.6.lawful h'.6.parts

bad-no_program : (n : ℕ) (lines : List (List (List ℕ))) (set : SetName) (statements : List Statement) → IsRefused lines (BadLine n) → IsProgram lines set statements → ⊥
bad-no_program n lines set statements h p = bad-no_parts n lines p.before p.after set h (lawful-program lines set statements p) p.parts

twice-no_program : (n : ℕ) (lines : List (List (List ℕ))) (set : SetName) (statements : List Statement) → IsTwiceNamed n lines → IsProgram lines set statements → ⊥
twice-no_program n lines set statements h p = twice-not_lawful n lines h (lawful-program lines set statements p)

bad_lines_one : (lines : List (List (List ℕ))) (n m : ℕ) → IsRefused lines (BadLine n) → IsRefused lines (BadLine m) → n ≡ m
bad_lines_one lines n m (inl h) (inl h') = bad_one n m lines h h'
bad_lines_one lines n m (inl h) (inr h') = absurd (bad-not_lawful n lines h (lawful-empty lines h'.1))
bad_lines_one lines n m (inr h) (inl h') = absurd (bad-not_lawful m lines h' (lawful-empty lines h.1))
bad_lines_one lines n m (inr h) (inr h') = h.0 ∙ sym h'.0

pub refusal_one : (lines : List (List (List ℕ))) (fault fault' : AsmFault) → fault ≢ NoMemory → fault' ≢ NoMemory → IsRefused lines fault → IsRefused lines fault' → fault ≡ fault'
refusal_one lines (BadLine n) (BadLine m) a b h h' = ap BadLine (bad_lines_one lines n m h h')
refusal_one lines (BadLine n) (TwiceNamed m) a b h h' = absurd (lines_first n m lines h h')
refusal_one lines (BadLine n) (UnknownName m) a b h h' = absurd (bad-no_unknown n m lines h h')
refusal_one lines (BadLine n) (Unsound f m) a b h h' = absurd (bad-no_program n lines h'.0 h'.1 h h'.2)
refusal_one lines (BadLine n) NoMemory a b h h' = absurd (b refl)
refusal_one lines (TwiceNamed n) (BadLine m) a b h h' = absurd (lines_first m n lines h' h)
refusal_one lines (TwiceNamed n) (TwiceNamed m) a b h h' = ap TwiceNamed (twice_one n m lines h h')
refusal_one lines (TwiceNamed n) (UnknownName m) a b h h' = absurd (twice-not_lawful n lines h h'.6.lawful)
refusal_one lines (TwiceNamed n) (Unsound f m) a b h h' = absurd (twice-no_program n lines h'.0 h'.1 h h'.2)
refusal_one lines (TwiceNamed n) NoMemory a b h h' = absurd (b refl)
refusal_one lines (UnknownName n) (BadLine m) a b h h' = absurd (bad-no_unknown m n lines h' h)
refusal_one lines (UnknownName n) (TwiceNamed m) a b h h' = absurd (twice-not_lawful m lines h' h.6.lawful)
refusal_one lines (UnknownName n) (UnknownName m) a b h h' = ap UnknownName (unknown_one n m lines h h')
refusal_one lines (UnknownName n) (Unsound f m) a b h h' = absurd (unknown-no_program n lines h'.0 h'.1 h h'.2)
refusal_one lines (UnknownName n) NoMemory a b h h' = absurd (b refl)
refusal_one lines (Unsound f n) (BadLine m) a b h h' = absurd (bad-no_program m lines h.0 h.1 h' h.2)
refusal_one lines (Unsound f n) (TwiceNamed m) a b h h' = absurd (twice-no_program m lines h.0 h.1 h' h.2)
refusal_one lines (Unsound f n) (UnknownName m) a b h h' = absurd (unknown-no_program m lines h.0 h.1 h' h.2)
refusal_one lines (Unsound f n) (Unsound f' m) a b h h' = unsound_one lines f f' n m h h'
refusal_one lines (Unsound f n) NoMemory a b h h' = absurd (b refl)
refusal_one lines NoMemory fault' a b h h' = absurd (a refl)

-- ---- no program without a fault
faults_differ : (fault : ObjectFault) (result : Option ObjectFault) → result ≡ Some fault → result ≡ None → ⊥
faults_differ fault result some none = cc

pub refused-unsound : (lines : List (List (List ℕ))) (fault : AsmFault) (set : SetName) (statements : List Statement) → fault ≢ NoMemory → IsRefused lines fault → IsProgram lines set statements
    → object_fault (set_of_name set) (code_in statements) (data_in statements) ≢ None
refused-unsound lines (BadLine n) set statements a h p none = bad-no_program n lines set statements h p
refused-unsound lines (TwiceNamed n) set statements a h p none = twice-no_program n lines set statements h p
refused-unsound lines (UnknownName n) set statements a h p none = unknown-no_program n lines set statements h p
refused-unsound lines (Unsound f n) set statements a h p none =
    let one = program_one lines set h.0 statements h.1 p h.2 in
    let same = object_fault-same set h.0 statements h.1 one.0 one.1 ∙ h.3 in
    faults_differ f (object_fault (set_of_name set) (code_in statements) (data_in statements)) same none
refused-unsound lines NoMemory set statements a h p none = a refl

pub refused_spelled : RefusedAreNone
refused_spelled text fault set code words a refused spelled none =
    refused-unsound (said_in text) fault set spelled.0 a refused spelled.1
    (ap (λ (instrs : List Instr). object_fault (set_of_name set) instrs (data_in spelled.0)) (sym spelled.2)
    ∙ ap (λ (data_words : List ℤ). object_fault (set_of_name set) code data_words) (sym spelled.3)
    ∙ none)
