use Rattle.assembler.specs.Fields.{a_register}
use Rattle.assembler.proofs.FieldReads.{read_word}
use Rattle.assembler.proofs.fields.register_if.Goals as goal

pub returns : goal.returns
returns c = read_word a_register c.in-Some.word.now c.args.words.now c.next_word.new.self c.args.wanted c.register_in.result c.if-not-wanted.false c.in-Some.ensures c.register_in.ensures
