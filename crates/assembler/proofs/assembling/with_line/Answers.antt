use Rattle.std.proofs.Common.{subst}
use Rattle.assembler.specs.Taken.{IsRead, IsRefusedAt}
use Rattle.assembler.proofs.LawfulLines.{ill-taken, refused-form}
use Rattle.assembler.proofs.PassedLemmas.{passed_on}
use Rattle.assembler.proofs.assembling.with_line.Goals as goal

pub returns : goal.returns
returns c lines read counted =
    let taken = subst (IsRead lines) c.in-Some.is read in
    refused-form lines c.args.words c.args.number taken.lawful counted (ill-taken lines c.in-Some.program taken c.args.words c.in-None.ensures)

pub returns-in_err-take-in-Some-line_in : goal.returns-in_err-take-in-Some-line_in
returns-in_err-take-in-Some-line_in c lines read counted =
    let words = c.args.words in
    let fault = c.in_err-take-in-Some-line_in.field-0.0 in
    let said = c.in-Some-line_in.ensures in
    passed_on _ (IsRefusedAt lines words) fault c.from_residual.result c.from_residual.ensures.1
    (c.in_err-take-in-Some-line_in.ensures lines words (subst (IsRead lines) c.in-Some.is read) counted said.0 said.1)
