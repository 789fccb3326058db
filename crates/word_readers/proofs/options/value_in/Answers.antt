use Rattle.std.proofs.Common.{None, sym, ap, ◌∙◌, arith}
use Rattle.std.specs.Option.{option_map}
use Rattle.std.proofs.lemmas.Str.Pattern.{split_once_first}
use Rattle.word_readers.proofs.OptionLemmas.{value_in-none}
use Rattle.word_readers.proofs.options.value_in.Goals as goal

pub returns-in_err-own_name-clause-value : goal.returns-in_err-own_name-clause-value
returns-in_err-own_name-clause-value c =
    let over = split_once_first 61 c.args.word.now None c.in_err-own_name.ensures.cases (omega arith) in
    ap (option_map (λ value. value.now)) c.from_residual.ensures ∙ sym (value_in-none c.args.name.now c.args.word.now over)
