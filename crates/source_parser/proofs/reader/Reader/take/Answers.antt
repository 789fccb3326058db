use Rattle.std.proofs.Common.{arith}
use Rattle.std.proofs.lemmas.Grind.{common_steps}
use Rattle.source_parser.proofs.Tokens.{placed_rest}
use Rattle.source_parser.proofs.reader.Reader.take.Goals as goal

pub invariant_of-self : goal.invariant_of-self
invariant_of-self c = placed_rest c.self.inside.text.now c.self.inside.rest.now c.in_ok-token.token.now c.in_ok-token.rest.now c.self.invariant c.in_ok-token.ensures.cases.0

pub returns-in_err-token-clause-value : goal.returns-in_err-token-clause-value
returns-in_err-token-clause-value c = grind (arith, common_steps)

pub returns-in_err-token-clause-shorter : goal.returns-in_err-token-clause-shorter
returns-in_err-token-clause-shorter c = grind (arith, common_steps)

pub returns-then-ne-clause-value : goal.returns-then-ne-clause-value
returns-then-ne-clause-value c = grind (arith, common_steps)

pub returns-then-ne-clause-shorter : goal.returns-then-ne-clause-shorter
returns-then-ne-clause-shorter c = grind (arith, common_steps)

pub returns-clause-value : goal.returns-clause-value
returns-clause-value c = grind (arith, common_steps)

pub returns-clause-shorter : goal.returns-clause-shorter
returns-clause-shorter c = grind (arith, common_steps)
