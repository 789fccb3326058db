use Rattle.source_parser.proofs.Tokens.{placed_rest}
use Rattle.source_parser.proofs.reader.Reader.take_number.Goals as goal

pub invariant_of-self : goal.invariant_of-self
invariant_of-self c = placed_rest c.self.inside.text.now c.self.inside.rest.now c.in_ok-token.token.now c.in_ok-token.rest.now c.self.invariant c.in_ok-token.ensures.cases.0
