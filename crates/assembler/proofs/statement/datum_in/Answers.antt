use Rattle.std.proofs.Common.{◌≡◌, ℤ, List, [], ◌∷◌, codes, rules, refl, sym, ap, ◌∙◌, ℕ, subst, to_z, of_z}
use Rattle.std.proofs.lemmas.Int.{to_z-of_z}
use mir.Syntax.{w128}
use Rattle.assembler.specs.Statements.{IsWellFormed}
use Rattle.assembler.specs.Reading.{IsSaid, says_datum}
use Rattle.assembler.proofs.DatumReads.{datum_said, no_datum}
use Rattle.assembler.proofs.statement.datum_in.Goals as goal

pub returns-in_default-integer_in : goal.returns-in_default-integer_in
returns-in_default-integer_in c =
    let word = c.in-Some.word.now in
    let alone : c.args.words ≡ word ∷ [] = c.in-Some.ensures ∙ ap (λ words. word ∷ words) (c.if-not-are_none.ensures.0 refl) in
    subst (λ (words : List (List ℕ)). IsWellFormed (codes "data" ∷ words) → ⊥) (sym alone) (no_datum word c.in_default-integer_in.ensures)

pub returns : goal.returns
returns c =
    let word = c.in-Some.word.now in
    let x = c.in-Some-integer_in.datum in
    let alone : c.args.words ≡ word ∷ [] = c.in-Some.ensures ∙ ap (λ words. word ∷ words) (c.if-not-are_none.ensures.0 refl) in
    let x_is : to_z w128 (of_z w128 x) ≡ x = to_z-of_z w128 x (search rules) in
    subst (λ (words : List (List ℕ)). IsSaid (codes "data" ∷ words) (says_datum (to_z w128 (of_z w128 x)))) (sym alone)
    (subst (λ (z : ℤ). IsSaid (codes "data" ∷ (word ∷ [])) (says_datum z)) (sym x_is) (datum_said word x c.in-Some-integer_in.ensures))
