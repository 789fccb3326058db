use Rattle.std.proofs.Common.{◌≡◌, sym, ap, arith}
use Rattle.std.proofs.lemmas.Grind.{elements}
use Rattle.moduli_sets.specs.declared.set_name.SetName.TheVariants.{Pocket}
use Rattle.moduli_sets.specs.Name.{set_named, word_of_name}
use Rattle.moduli_sets.proofs.set_name.SetName.named.Goals as goal

-- the text is the word, since each of its bytes is
pub returns-in-pocket-clause-value : goal.returns-in-pocket-clause-value
returns-in-pocket-clause-value c =
    let is_word : c.args.text.now ≡ word_of_name Pocket = grind (arith, elements) in sym (ap set_named is_word)
