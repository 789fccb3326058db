use Rattle.std.proofs.Common.{map}
use Rattle.thin_source.specs.ThinGrammar.{symbols_of}
use Rattle.thin_source.specs.ThinView.{declaration_view, statement_view}
use Rattle.thin_source.proofs.ThinPrograms.{program_of, program_made, program_begins, program_stuck, program_once}
use Rattle.thin_source.proofs.parser.parse.Goals as goal

pub returns-in_default-clause-only : goal.returns-in_default-clause-only
returns-in_default-clause-only c =
    let none = rw c.in_default.is at c.in_ok-declarations.ensures in
    program_begins (symbols_of c.args.text.now c.args.tokens.now) none

pub returns-in_default-2-clause-only : goal.returns-in_default-2-clause-only
returns-in_default-2-clause-only c =
    let text = c.args.text.now in
    let declared = rw c.in-Some.is at c.in_ok-declarations.ensures in
    let none = rw c.in_default-2.is at c.in_ok-statements.ensures in
    program_stuck (map declaration_view c.in-Some.declarations.items) (symbols_of text c.args.tokens.now) (symbols_of text c.in-Some.rest.now) declared.0 none

pub returns-clause-only : goal.returns-clause-only
returns-clause-only c =
    let text = c.args.text.now in
    let symbols = symbols_of text c.args.tokens.now in
    let declarations = map declaration_view c.in-Some.declarations.items in
    let statements = map statement_view c.in-Some-2.statements.items in
    let declared = rw c.in-Some.is at c.in_ok-declarations.ensures in
    let stated = rw c.in-Some-2.is at c.in_ok-statements.ensures in
    let own = program_made declarations statements symbols (symbols_of text c.in-Some.rest.now) declared.0 stated in
    λ program spelled. program_once (program_of declarations statements) program symbols own spelled
