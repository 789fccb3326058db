use Rattle.std.proofs.Common.{sym, ap, ◌∙◌}
use Rattle.std.proofs.lemmas.Bool.{false≢true}
use Rattle.assembler.specs.Assembly.{set_line}
use Rattle.assembler.proofs.ReadLemmas.{read-blank, read-set, refused-begun}
use Rattle.assembler.proofs.assembling.begun.Goals as goal

pub returns-then-are_none : goal.returns-then-are_none
returns-then-are_none c lines none counted = read-blank lines none c.args.words (c.are_none.ensures.0 c.if-are_none.true)

pub returns-in-Some : goal.returns-in-Some
returns-in-Some c lines none counted =
    let made = c.new.ensures in
    read-set lines none c.args.words c.new.result (c.in-Some.ensures ∙ ap set_line (sym made.set)) (made.set_number ∙ counted) made.statements made.places made.instructions

pub returns-in-None : goal.returns-in-None
returns-in-None c lines none counted =
    refused-begun lines none c.args.words c.args.number counted (λ blank. false≢true (sym c.if-are_none.false ∙ c.are_none.ensures.1 blank)) c.in-None.ensures
