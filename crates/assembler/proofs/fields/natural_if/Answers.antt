use Rattle.assembler.specs.Fields.{a_natural}
use Rattle.assembler.proofs.FieldReads.{read_word}
use Rattle.assembler.proofs.fields.natural_if.Goals as goal

pub returns : goal.returns
returns c = read_word a_natural c.in-Some.word.now c.args.words.now c.next_word.new.self c.args.wanted c.natural_in.result c.if-not-wanted.false c.in-Some.ensures c.natural_in.ensures
