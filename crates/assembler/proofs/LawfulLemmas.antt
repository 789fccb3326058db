-- The lines of a program are lawful, and so are lines without words.
use Rattle.std.proofs.Common.{◌≡◌, ℕ, zero, suc, ◌+◌, ◌<◌, true, false, List, [], ◌∷◌, ◌++◌, length, get_or, take, refl, sym, ap, ◌∙◌, subst, inl, inr, arith, append_assoc}
use Rattle.std.specs.Prelude.{All}
use Rattle.std.specs.List.{list_any}
use Rattle.std.specs.Str.{bytes_eq}
use Rattle.std.proofs.lemmas.Bool.{false_from_ne_true}
use Rattle.std.proofs.lemmas.List.{append-nil, get_or_append_left, get_or-append-add, get_or_default, length-append}
use Rattle.std.proofs.lemmas.List.Concat.{flat_map-append}
use Rattle.std.proofs.lemmas.List.Elements.{All-nil}
use Rattle.std.proofs.lemmas.List.Folds.{list_any_none}
use Rattle.std.proofs.lemmas.Slice.Eq.{bytes_eq-Decides}
use Rattle.moduli_sets.specs.declared.set_name.SetName.{SetName}
use Rattle.assembler.specs.Words.{Places}
use Rattle.assembler.specs.Statements.{Statement, names_in}
use Rattle.assembler.specs.Assembly.{AreDifferent, AreLawful, AreStatements, HasForm, IsNew, IsProgram, are_empty, line, names_of, set_line}

-- ---- lines, one after another
-- a line is lawful after those before it
abbrev IsLawful : List (List (List ℕ)) → List (List ℕ) → Type 0
IsLawful seen words = HasForm seen words × IsNew seen words

-- each line is, where the first stands after others
abbrev AreLawfulAfter : List (List (List ℕ)) → List (List (List ℕ)) → Type 0
AreLawfulAfter seen [] = Unit {0}
AreLawfulAfter seen (words ∷ lines) = IsLawful seen words × AreLawfulAfter (seen ++ words ∷ []) lines

lawful_at : (seen lines : List (List (List ℕ))) → AreLawfulAfter seen lines → (i : ℕ) → i < length lines → IsLawful (seen ++ take i lines) (line lines i)
lawful_at seen [] h i l = absurd (omega arith)
lawful_at seen (words ∷ lines) h zero l = subst (λ (ls : List (List (List ℕ))). IsLawful ls words) (sym (append-nil seen)) h.0
lawful_at seen (words ∷ lines) h (suc i) l =
    subst (λ (ls : List (List (List ℕ))). IsLawful ls (line lines i)) (append_assoc seen (words ∷ []) (take i lines))
    (lawful_at (seen ++ words ∷ []) lines h.1 i (omega arith))

AreLawful-from_each : (lines : List (List (List ℕ))) → AreLawfulAfter [] lines → AreLawful (length lines) lines
AreLawful-from_each lines h i l = lawful_at [] lines h i l

-- ---- lines without words
are_empty-append : (xs ys : List (List (List ℕ))) → are_empty xs ≡ true → are_empty ys ≡ true → are_empty (xs ++ ys) ≡ true
are_empty-append [] ys h h' = h'
are_empty-append ([] ∷ xs) ys h h' = are_empty-append xs ys h h'
are_empty-append ((word ∷ words) ∷ xs) ys h h' = absurd cc

pub are_empty-set_line : (before after : List (List (List ℕ))) (set : SetName) → are_empty (before ++ set_line set ∷ after) ≡ false
are_empty-set_line [] after set = refl
are_empty-set_line ([] ∷ before) after set = are_empty-set_line before after set
are_empty-set_line ((word ∷ words) ∷ before) after set = refl

names_of-empty : (lines : List (List (List ℕ))) → are_empty lines ≡ true → names_of lines ≡ []
names_of-empty [] h = refl
names_of-empty ([] ∷ lines) h = names_of-empty lines h
names_of-empty ((word ∷ words) ∷ lines) h = absurd cc

-- lines without words are lawful, whatever lawful ones come after them
lawful_after-empty : (seen before rest : List (List (List ℕ))) → are_empty seen ≡ true → are_empty before ≡ true → AreLawfulAfter (seen ++ before) rest → AreLawfulAfter seen (before ++ rest)
lawful_after-empty seen [] rest h h' further = subst (λ (ls : List (List (List ℕ))). AreLawfulAfter ls rest) (append-nil seen) further
lawful_after-empty seen ([] ∷ before) rest h h' further = (
  (inl (h, inl refl), All-nil (λ (name : List ℕ). list_any (bytes_eq name) (names_of seen) ≡ false)),
  lawful_after-empty (seen ++ [] ∷ []) before rest (are_empty-append seen ([] ∷ []) h refl) h'
      (subst (λ (ls : List (List (List ℕ))). AreLawfulAfter ls rest) (sym (append_assoc seen ([] ∷ []) before)) further),
)
lawful_after-empty seen ((word ∷ words) ∷ before) rest h h' further = absurd cc

pub lawful-empty : (lines : List (List (List ℕ))) → are_empty lines ≡ true → AreLawful (length lines) lines
lawful-empty lines h =
    AreLawful-from_each lines (subst (AreLawfulAfter []) (append-nil lines) (lawful_after-empty [] lines [] refl h tt))

-- ---- names
bytes_eq-other : (name other : List ℕ) → (other ≡ name → ⊥) → bytes_eq name other ≡ false
bytes_eq-other name other differ = false_from_ne_true (bytes_eq name other) (λ (same : bytes_eq name other ≡ true). differ (sym ((bytes_eq-Decides name other).0 same)))

-- of different names, one of some is none of those before them
differ_at : (xs ys zs : List (List ℕ)) (i j : ℕ) (d e : List ℕ) → AreDifferent (xs ++ (ys ++ zs)) → i < length xs → j < length ys → get_or xs i e ≡ get_or ys j d → ⊥
differ_at xs ys zs i j d e apart li lj same =
    let here : get_or (xs ++ (ys ++ zs)) i d ≡ get_or xs i e = get_or_append_left xs (ys ++ zs) d i li ∙ get_or_default xs i d e li in
    let there : get_or (xs ++ (ys ++ zs)) (length xs + j) d ≡ get_or ys j d = get_or-append-add xs (ys ++ zs) j d ∙ get_or_append_left ys zs d j lj in
    apart i (length xs + j) d (omega arith) (omega (arith, length-append xs (ys ++ zs), length-append ys zs)) (here ∙ same ∙ sym there)

new_among : (xs ys zs : List (List ℕ)) → AreDifferent (xs ++ (ys ++ zs)) → All (λ name. list_any (bytes_eq name) xs ≡ false) ys
new_among xs ys zs apart j d lj =
    list_any_none (bytes_eq (get_or ys j d)) xs
    (λ (i : ℕ) (e : List ℕ) (li : i < length xs). bytes_eq-other (get_or ys j d) (get_or xs i e) (differ_at xs ys zs i j d e apart li lj))

names_of-one : (seen : List (List (List ℕ))) (words : List (List ℕ)) (lines : List (List (List ℕ))) → names_of (seen ++ words ∷ []) ++ names_of lines ≡ names_of seen ++ (names_in words ++ names_of lines)
names_of-one seen words lines =
    ap (λ (names : List (List ℕ)). names ++ names_of lines) (flat_map-append names_in seen (words ∷ []))
    ∙ append_assoc (names_of seen) (names_in words ++ []) (names_of lines)
    ∙ ap (λ (names : List (List ℕ)). names_of seen ++ (names ++ names_of lines)) (append-nil (names_in words))

-- ---- the lines of a program
are_empty-longer : (xs ys : List (List (List ℕ))) → are_empty xs ≡ false → are_empty (xs ++ ys) ≡ false
are_empty-longer [] ys h = absurd cc
are_empty-longer ([] ∷ xs) ys h = are_empty-longer xs ys h
are_empty-longer ((word ∷ words) ∷ xs) ys h = refl

lawful_after-statements : (seen lines : List (List (List ℕ))) (places : Places) (statements : List Statement) → are_empty seen ≡ false → AreDifferent (names_of seen ++ names_of lines) → AreStatements places lines statements → AreLawfulAfter seen lines
lawful_after-statements seen [] places statements h apart said = tt
lawful_after-statements seen (words ∷ lines) places [] h apart said = absurd said
lawful_after-statements seen (words ∷ lines) places (statement ∷ statements) h apart said = (
  (inr (h, (places, statement, said.0)), new_among (names_of seen) (names_in words) (names_of lines) apart),
  lawful_after-statements (seen ++ words ∷ []) lines places statements (are_empty-longer seen (words ∷ []) h)
      (subst AreDifferent (sym (names_of-one seen words lines)) apart) said.1,
)

lawful_parts : (before after : List (List (List ℕ))) (set : SetName) (places : Places) (statements : List Statement) → are_empty before ≡ true → AreDifferent (names_of after) → AreStatements places after statements
    → AreLawfulAfter [] (before ++ set_line set ∷ after)
lawful_parts before after set places statements h apart said =
    let none : names_of (before ++ set_line set ∷ []) ≡ [] = flat_map-append names_in before (set_line set ∷ []) ∙ ap (λ (names : List (List ℕ)). names ++ []) (names_of-empty before h) in
    lawful_after-empty [] before (set_line set ∷ after) refl h (
      (inl (h, inr (set, refl)), All-nil (λ (name : List ℕ). list_any (bytes_eq name) (names_of before) ≡ false)),
      lawful_after-statements (before ++ set_line set ∷ []) after places statements (are_empty-set_line before [] set)
          (subst (λ (names : List (List ℕ)). AreDifferent (names ++ names_of after)) (sym none) apart) said,
    )

pub lawful-program : (lines : List (List (List ℕ))) (set : SetName) (statements : List Statement) → IsProgram lines set statements → AreLawful (length lines) lines
lawful-program lines set statements p =
    AreLawful-from_each lines (subst (AreLawfulAfter []) (sym p.parts) (lawful_parts p.before p.after set _ statements p.empty p.names p.said))
