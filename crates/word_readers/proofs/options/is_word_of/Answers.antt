use Rattle.std.proofs.Common.{◌≡◌, ◌||◌, List, [], ◌∷◌, Bool, not, map, refl, rules, tests, sym, ap, ◌∙◌}
use Rattle.std.specs.List.{list_any}
use Rattle.std.proofs.lemmas.Iterator.{YieldsList-from_slice}
use Rattle.std.proofs.lemmas.Iterator.Search.{any_from_yields_List}
use Rattle.word_readers.specs.Options.{is_row_of, row_of}
use Rattle.word_readers.proofs.options.is_word_of.Goals as goal

list_any-map : {X Y : Type 0} (test : X → Bool) (f : Y → X) (ys : List Y)
    → list_any test (map f ys) ≡ list_any (λ y. test (f y)) ys
list_any-map test f [] = refl
list_any-map test f (y ∷ ys) = ap (λ b. test (f y) || b) (list_any-map test f ys)

pub returns-else-not-is_option : goal.returns-else-not-is_option
returns-else-not-is_option c =
    let word = c.args.word.now in
    let table = c.args.table.now in
    let any = any_from_yields_List (λ row. is_row_of word (row_of row)) _ _ _ c.any.ensures.ran
    (YieldsList-from_slice table cc) (λ x b q k. search (rules, tests)) in
    any
    ∙ sym (list_any-map (is_row_of word) row_of table)
    ∙ sym (ap (λ b. not b || list_any (is_row_of word) (map row_of table)) (sym c.is_option.ensures ∙ c.if-not-is_option.false))
