use Rattle.std.proofs.Common.{rules}
use Rattle.std.specs.Int.{w128}
use Rattle.std.proofs.lemmas.Int.{to_z-of_z}
use mir.Val.{SFits}
use Rattle.source_parser.specs.Landings.{reads}
use Rattle.source_parser.proofs.Moves.{at_start}
use Rattle.source_parser.proofs.TokenMoves.{and_number, and_token, no_token}
use Rattle.source_parser.proofs.statement.limit.Goals as goal

pub returns-in_err-limit-clause-lands : goal.returns-in_err-limit-clause-lands
returns-in_err-limit-clause-lands c = λ d w. no_token c.in_err-limit.ensures.value c.from_residual.ensures.1 at_start

pub returns-in_err-expect-clause-lands : goal.returns-in_err-expect-clause-lands
returns-in_err-expect-clause-lands c = λ d w.
    no_token c.in_err-expect.ensures.value c.from_residual-in_err-expect.ensures.1 (and_number c.in_ok-limit.ensures.value.1 at_start)

pub returns-clause-value : goal.returns-clause-value
returns-clause-value c =
    let fits : SFits w128 c.in_ok-limit.limit = search rules in
    rw (to_z-of_z w128 c.in_ok-limit.limit fits)
    (record { line = c.in_ok-expect.field-0; reads = rw c.in_ok-expect.ensures.value at c.in_ok-limit.ensures.value })

pub returns-clause-lands : goal.returns-clause-lands
returns-clause-lands c = λ d w. reads (and_token c.in_ok-expect.ensures.value (and_number c.in_ok-limit.ensures.value.1 at_start))
