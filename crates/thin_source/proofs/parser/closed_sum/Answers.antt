use Rattle.thin_source.specs.ThinGrammar.{symbols_of}
use Rattle.thin_source.specs.ThinView.{sum_view}
use Rattle.thin_source.proofs.ThinStatements.{closed_stuck}
use Rattle.thin_source.proofs.parser.closed_sum.Goals as goal

pub returns-in_default-front_mark : goal.returns-in_default-front_mark
returns-in_default-front_mark c =
    let text = c.args.text.now in
    let own = rw c.in-Some.is at c.in_ok-sum.ensures in
    closed_stuck (sum_view c.in-Some.sum) (symbols_of text c.args.tokens.now) (symbols_of text c.in-Some.rest.now) own.0 (c.in_default-front_mark.ensures text own.1)
