use Rattle.std.proofs.Common.{rules}
use Rattle.std.specs.Int.{w128}
use Rattle.std.proofs.lemmas.Int.{to_z-of_z}
use mir.Val.{SFits}
use Rattle.source_parser.specs.Grammar as grammar
use Rattle.source_parser.specs.Landings.{reads}
use Rattle.source_parser.proofs.Moves.{at_start, and_then, fails}
use Rattle.source_parser.proofs.TokenMoves.{and_token, no_token}
use Rattle.source_parser.proofs.declaration.range.Goals as goal

pub returns-in_err-low-clause-lands : goal.returns-in_err-low-clause-lands
returns-in_err-low-clause-lands c = λ d w. fails _ (c.in_err-low.ensures.lands d w) c.from_residual.ensures.1 at_start

pub returns-in_err-expect-clause-lands : goal.returns-in_err-expect-clause-lands
returns-in_err-expect-clause-lands c = λ d w.
    no_token c.in_err-expect.ensures.value c.from_residual-in_err-expect.ensures.1 (and_then _ (c.in_ok-low.ensures.lands d w) at_start)

pub returns-in_err-high-clause-lands : goal.returns-in_err-high-clause-lands
returns-in_err-high-clause-lands c = λ d w.
    fails _ (c.in_err-high.ensures.lands d _) c.from_residual-in_err-high.ensures.1
    (and_token c.in_ok-expect.ensures.value (and_then _ (c.in_ok-low.ensures.lands d w) at_start))

pub returns-clause-lands : goal.returns-clause-lands
returns-clause-lands c = λ d w.
    reads (and_then _ (c.in_ok-high.ensures.lands d _) (and_token c.in_ok-expect.ensures.value (and_then _ (c.in_ok-low.ensures.lands d w) at_start)))

pub returns-clause-value : goal.returns-clause-value
returns-clause-value c =
    let low_fits : SFits w128 c.in_ok-low.low = search rules in
    let high_fits : SFits w128 c.in_ok-high.high = search rules in
    rw (to_z-of_z w128 c.in_ok-low.low low_fits, to_z-of_z w128 c.in_ok-high.high high_fits)
    (grammar.range (rw c.in_ok-expect.ensures.value at c.in_ok-low.ensures.value) c.in_ok-high.ensures.value)
