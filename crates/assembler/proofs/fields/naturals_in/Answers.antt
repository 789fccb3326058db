use Rattle.std.proofs.Common.{nat_lt}
use Rattle.assembler.specs.Fields.{a_natural}
use Rattle.assembler.proofs.FieldReads.{read_three}
use Rattle.assembler.proofs.fields.naturals_in.Goals as goal

pub returns : goal.returns
returns c =
    let n = c.args.count in
    read_three a_natural (nat_lt 0 n) (nat_lt 1 n) (nat_lt 2 n) c.in_ok-first.first c.in_ok-second.second c.in_ok-third.third
    c.args.words.now c.natural_if.new.words c.natural_if-2.new.words c.natural_if-3.new.words c.in_ok-first.ensures c.in_ok-second.ensures c.in_ok-third.ensures
