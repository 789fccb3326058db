use Rattle.thin_source.specs.ThinGrammar.{symbols_of}
use Rattle.thin_source.proofs.ThinStatements.{print_stuck, assign_stuck}
use Rattle.thin_source.proofs.parser.statement.Goals as goal

pub returns-in_default-2 : goal.returns-in_default-2
returns-in_default-2 c =
    let text = c.args.text.now in
    let begins = c.in-Some.ensures text c.requires in
    let none = rw c.in_default-2.is at c.in_ok-sum.ensures in
    print_stuck (symbols_of text c.args.tokens.now) (symbols_of text c.in-Some.rest.now) begins.0 none

pub returns-in_default-3 : goal.returns-in_default-3
returns-in_default-3 c =
    let text = c.args.text.now in
    let none = rw c.in_default-3.is at c.in_ok-sum-2.ensures in
    assign_stuck c.in-Some-target.name.now (symbols_of text c.args.tokens.now) (symbols_of text c.in-Some-target.rest.now) c.in-Some-target.ensures.0 none
