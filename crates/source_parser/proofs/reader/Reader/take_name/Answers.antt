use Rattle.source_parser.proofs.Tokens.{placed_rest}
use Rattle.source_parser.proofs.reader.Reader.take_name.Goals as goal

pub invariant_of-self : goal.invariant_of-self
invariant_of-self c = placed_rest c.self.inside.text.now c.self.inside.rest.now c.in-Some.token.now c.in-Some.rest.now c.self.invariant c.in-Some.ensures.cases.0
