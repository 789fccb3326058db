use Rattle.std.proofs.Common.{◌≡◌, ◌+◌, ◌++◌, map, All, None, refl, ap, subst, ◌∙◌}
use Rattle.std.proofs.lemmas.List.{map-append}
use Rattle.plain_text.specs.Lookup.{lookup}
use Rattle.assembler.specs.Lines.{label_names, said_of}
use Rattle.assembler.specs.Taken.{IsRefusedAt}
use Rattle.assembler.proofs.LawfulLines.{IsTaken-next, refused-label}
use Rattle.assembler.proofs.PassedLemmas.{passed_on}
use Rattle.assembler.proofs.program.Program.take.Goals as goal

pub returns-in_err-declare : goal.returns-in_err-declare
returns-in_err-declare c lines words taken counted names is =
    let program = c.args.self.now in
    let fault = c.in_err-declare.field-0.0 in
    passed_on _ (IsRefusedAt lines words) fault c.from_residual.result c.from_residual.ensures.1
    (refused-label lines program taken words (said_of c.args.said.statement) is (label_names c.args.said) c.args.number fault names counted c.in_err-declare.ensures)

pub returns : goal.returns
returns c lines words taken counted names is =
    let program = c.args.self.now in
    let said = said_of c.args.said.statement in
    let declared = c.in_ok-declare.ensures in
    IsTaken-next lines program taken words said is _ (subst (All (λ name. lookup name program.places ≡ None)) names declared.1) refl refl
    (ap (map said_of) c.in_ok-push.ensures.items ∙ map-append said_of program.statements.items _)
    (declared.0 ∙ ap (λ ns. program.places ++ map (λ name. (name, program.instructions)) ns) names)
    (ap (λ n. program.instructions + n) c.instructions_in.ensures.count)
