use Rattle.assembler.specs.Fields.{an_integer}
use Rattle.assembler.proofs.FieldReads.{read_word}
use Rattle.assembler.proofs.fields.integer_if.Goals as goal

pub returns : goal.returns
returns c = read_word an_integer c.in-Some.word.now c.args.words.now c.next_word.new.self c.args.wanted c.integer_in.result c.if-not-wanted.false c.in-Some.ensures c.integer_in.ensures
