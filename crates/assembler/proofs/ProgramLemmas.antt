-- Lines are one program at the most, and the lines of a program are lawful.
use Rattle.std.proofs.Common.{◌≡◌, ℕ, List, [], ◌∷◌, ◌++◌, Some, refl, sym, ap, ◌∙◌, subst}
use Rattle.std.specs.Prelude.{IsTrue}
use Rattle.moduli_sets.specs.declared.set_name.SetName.{SetName}
use Rattle.moduli_sets.specs.declared.set_name.SetName.TheVariants.{Pocket, Desk, Hall}
use Rattle.moduli_sets.specs.Name.{set_named, word_of_name}
use Rattle.assembler.specs.Words.{Places, said_in}
use Rattle.assembler.specs.Statements.{Statement}
use Rattle.assembler.specs.Assembly.{AreStatements, IsProgram, are_empty, code_in, data_in, places_from, set_line}
use Rattle.assembler.specs.Laws.{SpellsOne}
use Rattle.assembler.proofs.LineLemmas.{statement_one}

-- ---- the set line
set_named-word : (set : SetName) → set_named (word_of_name set) ≡ Some set
set_named-word Pocket = refl
set_named-word Desk = refl
set_named-word Hall = refl

words_of_set : (set set' : SetName) → set_line set ≡ set_line set' → word_of_name set ≡ word_of_name set'
words_of_set set set' e = cc

set_of_line : (set set' : SetName) → set_line set ≡ set_line set' → set ≡ set'
set_of_line set set' e =
    let same : Some set ≡ Some set' = sym (set_named-word set) ∙ ap set_named (words_of_set set set' e) ∙ set_named-word set' in
    cc

-- the first line with a word parts lines in one way
pub record AreSame (set set' : SetName) (before before' after after' : List (List (List ℕ))) : Type 0 where
  pub sets : set ≡ set'
  pub befores : before ≡ before'
  pub afters : after ≡ after'

heads_of_lines : (x y : List (List ℕ)) (xs ys : List (List (List ℕ))) → x ∷ xs ≡ y ∷ ys → (x ≡ y) × (xs ≡ ys)
heads_of_lines x y xs ys e = (cc, cc)

pub parts_one : (set set' : SetName) (before before' after after' : List (List (List ℕ))) → IsTrue (are_empty before) → IsTrue (are_empty before')
    → before ++ set_line set ∷ after ≡ before' ++ set_line set' ∷ after' → AreSame set set' before before' after after'
parts_one set set' [] [] after after' h h' e =
    let parts = heads_of_lines (set_line set) (set_line set') after after' e in
    record { sets = set_of_line set set' parts.0; befores = refl; afters = parts.1 }
parts_one set set' [] ([] ∷ before') after after' h h' e =
    let line = (heads_of_lines (set_line set) [] after (before' ++ set_line set' ∷ after') e).0 in absurd cc
parts_one set set' [] ((word ∷ words) ∷ before') after after' h h' e = absurd cc
parts_one set set' ([] ∷ before) [] after after' h h' e =
    let line = (heads_of_lines [] (set_line set') (before ++ set_line set ∷ after) after' e).0 in absurd cc
parts_one set set' ((word ∷ words) ∷ before) before' after after' h h' e = absurd cc
parts_one set set' ([] ∷ before) ((word ∷ words) ∷ before') after after' h h' e = absurd cc
parts_one set set' ([] ∷ before) ([] ∷ before') after after' h h' e =
    let rest = parts_one set set' before before' after after' h h' (heads_of_lines [] [] (before ++ set_line set ∷ after) (before' ++ set_line set' ∷ after') e).1 in
    record { sets = rest.sets; befores = ap (λ (ls : List (List (List ℕ))). [] ∷ ls) rest.befores; afters = rest.afters }

-- ---- the statements
pub statements_one : (places : Places) (lines : List (List (List ℕ))) (statements statements' : List Statement) → AreStatements places lines statements → AreStatements places lines statements' → statements ≡ statements'
statements_one places [] [] [] h h' = refl
statements_one places [] [] (said' ∷ statements') h h' = absurd h'
statements_one places [] (said ∷ statements) statements' h h' = absurd h
statements_one places (words ∷ lines) [] statements' h h' = absurd h
statements_one places (words ∷ lines) (said ∷ statements) [] h h' = absurd h'
statements_one places (words ∷ lines) (said ∷ statements) (said' ∷ statements') h h' =
    let one = statement_one places words said said' h.0 h'.0 in
    let rest = statements_one places lines statements statements' h.1 h'.1 in
    cc

pub statements_of_one : (lines lines' : List (List (List ℕ))) (statements statements' : List Statement) → lines ≡ lines'
    → AreStatements (places_from 0 lines) lines statements → AreStatements (places_from 0 lines') lines' statements' → statements ≡ statements'
statements_of_one lines lines' statements statements' e h h' =
    statements_one (places_from 0 lines) lines statements statements' h
    (subst (λ (ls : List (List (List ℕ))). AreStatements (places_from 0 ls) ls statements') (sym e) h')

-- ---- the program
pub program_parts : (lines : List (List (List ℕ))) (set set' : SetName) (statements statements' : List Statement) → (p : IsProgram lines set statements) → (p' : IsProgram lines set' statements')
    → AreSame set set' p.before p'.before p.after p'.after
program_parts lines set set' statements statements' p p' =
    parts_one set set' p.before p'.before p.after p'.after p.empty p'.empty (sym p.parts ∙ p'.parts)

pub program_one : (lines : List (List (List ℕ))) (set set' : SetName) (statements statements' : List Statement) → IsProgram lines set statements → IsProgram lines set' statements'
    → (set ≡ set') × (statements ≡ statements')
program_one lines set set' statements statements' p p' =
    let parts = program_parts lines set set' statements statements' p p' in
    (parts.sets, statements_of_one p.after p'.after statements statements' parts.afters p.said p'.said)

pub spells_one : SpellsOne
spells_one text set set' code code' words words' h h' =
    let one = program_one (said_in text) set set' h.0 h'.0 h.1 h'.1 in
    (one.0, h.2 ∙ ap code_in one.1 ∙ sym h'.2, h.3 ∙ ap data_in one.1 ∙ sym h'.3)
