use Rattle.std.proofs.Common.{string_bytes, map, rules, tests, sym, ap, ◌∙◌}
use Rattle.std.specs.List.{list_all}
use Rattle.std.proofs.lemmas.Iterator.{YieldsList-from_slice}
use Rattle.std.proofs.lemmas.Iterator.Search.{all_from_yields_List}
use Rattle.std.proofs.lemmas.List.Folds.{list_all-map}
use Rattle.word_readers.specs.Options.{is_word_of, row_of}
use Rattle.word_readers.proofs.options.has_only_options.Goals as goal

pub returns : goal.returns
returns c =
    let test = is_word_of (map row_of c.args.table.now) in
    let rest = c.after_command.result.now in
    all_from_yields_List (λ word. test (string_bytes word)) _ _ _ c.all.ensures.ran (YieldsList-from_slice rest cc)
    (λ x b q k. search (rules, tests))
    ∙ sym (list_all-map test string_bytes rest)
    ∙ ap (list_all test) c.after_command.ensures
