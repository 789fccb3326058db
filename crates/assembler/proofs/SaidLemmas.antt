-- Lines and what they say, one more at a time; the names of their labels, and the places of these.
use Rattle.std.proofs.Common.{◌≡◌, ◌≢◌, ℕ, zero, suc, ◌+◌, ◌<◌, ◌≤◌, Bool, true, false, cond, ◌||◌, List, [], ◌∷◌, ◌++◌, length, get_or, map, count_by, All, Option, Some, None, refl, sym, ap, subst, ◌∙◌, append_assoc, arith}
use Rattle.std.specs.Prelude.{if◌then◌else◌, IsTrue}
use Rattle.std.specs.List.{list_any}
use Rattle.std.specs.Option.{is_some}
use Rattle.std.specs.Str.{bytes_eq}
use Rattle.std.proofs.lemmas.Bool.{false≢true}
use Rattle.std.proofs.lemmas.Bool.Decides.{same_from_decides}
use Rattle.std.proofs.lemmas.Grind.{flat_map-append}
use Rattle.std.proofs.lemmas.List.{append-nil, map-append}
use Rattle.std.proofs.lemmas.List.Sums.{sum_by-append, sum_by-cons}
use Rattle.std.proofs.lemmas.List.Folds.{list_any_at}
use Rattle.std.proofs.lemmas.List.Quantifiers.{all_pairs_push}
use Rattle.std.proofs.lemmas.Slice.Eq.{bytes_eq-Decides}
use Rattle.plain_text.specs.Lookup.{lookup}
use Rattle.moduli_sets.specs.declared.set_name.SetName.{SetName}
use Rattle.assembler.specs.Words.{Places}
use Rattle.assembler.specs.Statements.{no_statement, an_instruction, a_datum, IsWellFormed, is_label, name_in_label, names_in, without_label}
use Rattle.assembler.specs.Assembly.{AreDifferent, are_empty, has_instruction, line, names_of, places_from, set_line}
use Rattle.assembler.specs.Reading.{IsSaid, Said, is_instr, says_nothing, says_instr, says_jump, says_datum, with_target}
use Rattle.assembler.specs.Taken.{AreSaid}

-- ---- what lines say
pub AreSaid-more : (lines : List (List (List ℕ))) (saids : List Said) (words : List (List ℕ)) (said : Said) → AreSaid lines saids → IsSaid words said → AreSaid (lines ++ words ∷ []) (saids ++ said ∷ [])
AreSaid-more [] [] words said are is = (is, tt)
AreSaid-more [] (first ∷ saids) words said are is = absurd are
AreSaid-more (first ∷ lines) [] words said are is = absurd are
AreSaid-more (here ∷ lines) (first ∷ saids) words said are is = (are.0, AreSaid-more lines saids words said are.1 is)

pub length-AreSaid : (lines : List (List (List ℕ))) (saids : List Said) → AreSaid lines saids → length lines ≡ length saids
length-AreSaid [] [] are = refl
length-AreSaid [] (first ∷ saids) are = absurd are
length-AreSaid (first ∷ lines) [] are = absurd are
length-AreSaid (here ∷ lines) (first ∷ saids) are = ap suc (length-AreSaid lines saids are.1)

pub AreSaid-at : (lines : List (List (List ℕ))) (saids : List Said) (i : ℕ) → AreSaid lines saids → i < length lines → IsSaid (line lines i) (get_or saids i says_nothing)
AreSaid-at [] [] i are within = absurd (omega arith)
AreSaid-at [] (first ∷ saids) i are within = absurd are
AreSaid-at (first ∷ lines) [] i are within = absurd are
AreSaid-at (here ∷ lines) (first ∷ saids) zero are within = are.0
AreSaid-at (here ∷ lines) (first ∷ saids) (suc i) are within = AreSaid-at lines saids i are.1 (omega arith)

same_bytes : (name : List ℕ) → bytes_eq name name ≡ true
same_bytes name = (bytes_eq-Decides name name).1 refl

-- what says something has the form of a statement: a name that it goes to may have any place
pub IsWellFormed-from_IsSaid : (words : List (List ℕ)) (said : Said) → IsSaid words said → IsWellFormed words
IsWellFormed-from_IsSaid words says_nothing is = ([], no_statement, (is.means [] no_statement).1 refl)
IsWellFormed-from_IsSaid words (says_instr instr) is = ([], an_instruction instr, (is.means [] (an_instruction instr)).1 refl)
IsWellFormed-from_IsSaid words (says_jump instr name) is =
    let places : Places = (name, 0) ∷ [] in
    let statement = an_instruction (with_target 0 instr) in
    (places, statement, (is.means places statement).1 (0, ap (λ b. if b then Some 0 else None) (same_bytes name), refl))
IsWellFormed-from_IsSaid words (says_datum x) is = ([], a_datum x, (is.means [] (a_datum x)).1 refl)

-- ---- places
if_more : (b : Bool) (n : ℕ) → (if b then n + 1 else n) ≡ n + cond b 1 0
if_more true n = refl
if_more false n = omega arith

count-cons : (said : Said) (saids : List Said) → count_by is_instr (said ∷ saids) ≡ cond (is_instr said) 1 0 + count_by is_instr saids
count-cons said saids = sum_by-cons (λ s. cond (is_instr s) 1 0) said saids

-- the label of one line more has the number of the next instruction
pub places_from-more : (n : ℕ) (lines : List (List (List ℕ))) (saids : List Said) (words : List (List ℕ)) → AreSaid lines saids
    → places_from n (lines ++ words ∷ []) ≡ places_from n lines ++ map (λ name. (name, n + count_by is_instr saids)) (names_in words)
places_from-more n [] [] words are = append-nil _ ∙ ap (λ k. map (λ name. (name, k)) (names_in words)) (omega arith)
places_from-more n [] (first ∷ saids) words are = absurd are
places_from-more n (first ∷ lines) [] words are = absurd are
places_from-more n (here ∷ lines) (first ∷ saids) words are =
    let next : ℕ = if has_instruction (without_label here) then n + 1 else n in
    let so_many : next + count_by is_instr saids ≡ n + count_by is_instr (first ∷ saids) =
    ap (λ b. (if b then n + 1 else n) + count_by is_instr saids) are.0.counts
    ∙ ap (λ k. k + count_by is_instr saids) (if_more (is_instr first) n)
    ∙ omega (arith, count-cons first saids) in
    ap (λ places. map (λ name. (name, n)) (names_in here) ++ places) (places_from-more next lines saids words are.1 ∙ ap (λ k. places_from next lines ++ map (λ name. (name, k)) (names_in words)) so_many)
    ∙ sym (append_assoc (map (λ name. (name, n)) (names_in here)) (places_from next lines) (map (λ name. (name, n + count_by is_instr (first ∷ saids))) (names_in words)))

pub count-more : (saids : List Said) (said : Said) → count_by is_instr (saids ++ said ∷ []) ≡ count_by is_instr saids + count_by is_instr (said ∷ [])
count-more saids said = sum_by-append (λ s. cond (is_instr s) 1 0) saids (said ∷ [])

names_with : (n : ℕ) (names : List (List ℕ)) → map (λ (e : List ℕ × ℕ). e.0) (map (λ name. (name, n)) names) ≡ names
names_with n [] = refl
names_with n (name ∷ names) = ap (λ ns. name ∷ ns) (names_with n names)

-- the labels with places are the labels of the lines
names-places_from : (n : ℕ) (lines : List (List (List ℕ))) → map (λ (e : List ℕ × ℕ). e.0) (places_from n lines) ≡ names_of lines
names-places_from n [] = refl
names-places_from n (here ∷ lines) =
    let next : ℕ = if has_instruction (without_label here) then n + 1 else n in
    map-append (λ (e : List ℕ × ℕ). e.0) (map (λ name. (name, n)) (names_in here)) (places_from next lines)
    ∙ ap (λ ns. ns ++ map (λ (e : List ℕ × ℕ). e.0) (places_from next lines)) (names_with n (names_in here))
    ∙ ap (λ ns. names_in here ++ ns) (names-places_from next lines)

bytes_eq-sym : (a b : List ℕ) → bytes_eq a b ≡ bytes_eq b a
bytes_eq-sym a b =
    let d = bytes_eq-Decides b a in
    same_from_decides (bytes_eq a b) (bytes_eq b a) (bytes_eq-Decides a b) (λ h. sym (d.0 h), λ p. d.1 (sym p))

some_if : (b : Bool) (p : ℕ) (found : Option ℕ) → is_some (if b then Some p else found) ≡ (b || is_some found)
some_if true p found = refl
some_if false p found = refl

is_some-lookup : (name : List ℕ) (places : Places) → is_some (lookup name places) ≡ list_any (bytes_eq name) (map (λ (e : List ℕ × ℕ). e.0) places)
is_some-lookup name [] = refl
is_some-lookup name (e ∷ places) =
    some_if (bytes_eq e.0 name) e.1 (lookup name places)
    ∙ ap (λ b. b || is_some (lookup name places)) (bytes_eq-sym e.0 name)
    ∙ ap (λ b. bytes_eq name e.0 || b) (is_some-lookup name places)

-- a name has a place exactly if it is that of a label
pub named-by : (name : List ℕ) (lines : List (List (List ℕ))) → is_some (lookup name (places_from 0 lines)) ≡ list_any (bytes_eq name) (names_of lines)
named-by name lines = is_some-lookup name (places_from 0 lines) ∙ ap (list_any (bytes_eq name)) (names-places_from 0 lines)

-- ---- the lines before the set line
names-empty : (lines : List (List (List ℕ))) → IsTrue (are_empty lines) → names_of lines ≡ []
names-empty [] none = refl
names-empty ([] ∷ lines) none = names-empty lines none
names-empty ((word ∷ words) ∷ lines) none = absurd (false≢true none)

-- neither they nor the set line have a label
pub names-after : (before after : List (List (List ℕ))) (set : SetName) → IsTrue (are_empty before) → names_of (before ++ set_line set ∷ after) ≡ names_of after
names-after before after set none = flat_map-append names_in before (set_line set ∷ after) ∙ ap (λ ns. ns ++ names_of after) (names-empty before none)

pub are_empty-after : (before after : List (List (List ℕ))) (set : SetName) → are_empty (before ++ set_line set ∷ after) ≡ false
are_empty-after [] after set = refl
are_empty-after ([] ∷ before) after set = are_empty-after before after set
are_empty-after ((word ∷ words) ∷ before) after set = refl

pub are_empty-more : (lines : List (List (List ℕ))) → IsTrue (are_empty lines) → IsTrue (are_empty (lines ++ [] ∷ []))
are_empty-more [] none = refl
are_empty-more ([] ∷ lines) none = are_empty-more lines none
are_empty-more ((word ∷ words) ∷ lines) none = none

-- ---- names that differ
-- one name more, if it is none of them
different-one : (names : List (List ℕ)) (name : List ℕ) → AreDifferent names → list_any (bytes_eq name) names ≡ false → AreDifferent (names ++ name ∷ [])
different-one names name are new =
    all_pairs_push (λ a b. a ≢ b) names name are
    (λ k d within same. false≢true (sym new ∙ list_any_at (bytes_eq name) names k d within ((bytes_eq-Decides name (get_or names k d)).1 (sym same))))

pub different-more : (names new : List (List ℕ)) → length new ≤ 1 → AreDifferent names → All (λ name. list_any (bytes_eq name) names ≡ false) new → AreDifferent (names ++ new)
different-more names [] few are fresh = subst AreDifferent (sym (append-nil names)) are
different-more names (name ∷ []) few are fresh = different-one names name are (fresh 0 name (omega arith))
different-more names (name ∷ (other ∷ more)) few are fresh = absurd (omega arith)

one_label : (b : Bool) (name : List ℕ) → length (if b then name ∷ [] else []) ≤ 1
one_label true name = omega arith
one_label false name = omega arith

pub length-names_in : (words : List (List ℕ)) → length (names_in words) ≤ 1
length-names_in [] = omega arith
length-names_in (word ∷ words) = one_label (is_label word) (name_in_label word)
