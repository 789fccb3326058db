use Rattle.std.proofs.Common.{◌≡◌, false}
use Rattle.assembler.specs.Words.{is_name}
use Rattle.assembler.proofs.FieldReads.{read_no_place, read_place}
use Rattle.assembler.proofs.fields.target_in.Goals as goal

pub returns-in_default-natural_in : goal.returns-in_default-natural_in
returns-in_default-natural_in c =
    let other : is_name c.in-Some.word.now ≡ false = cc (c.is_name.ensures, c.if-is_name.false) in
    read_no_place c.in-Some.word.now c.args.words.now c.next_word.new.self c.args.wanted c.if-not-wanted.false c.in-Some.ensures other c.in_default-natural_in.ensures

pub returns : goal.returns
returns c =
    let other : is_name c.in-Some.word.now ≡ false = cc (c.is_name.ensures, c.if-is_name.false) in
    read_place c.in-Some.word.now c.args.words.now c.next_word.new.self c.args.wanted c.in-Some-natural_in.place c.if-not-wanted.false c.in-Some.ensures other c.in-Some-natural_in.ensures
