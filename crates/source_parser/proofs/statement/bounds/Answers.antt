use Rattle.source_parser.specs.Landings.{reads}
use Rattle.source_parser.proofs.Moves.{at_start, and_then, fails}
use Rattle.source_parser.proofs.TokenMoves.{and_token, no_token}
use Rattle.source_parser.proofs.statement.bounds.Goals as goal

pub returns-in_err-first-clause-lands : goal.returns-in_err-first-clause-lands
returns-in_err-first-clause-lands c = λ d w. fails _ (c.in_err-first.ensures.lands d w) c.from_residual.ensures.1 at_start

pub returns-in_err-expect-clause-lands : goal.returns-in_err-expect-clause-lands
returns-in_err-expect-clause-lands c = λ d w.
    no_token c.in_err-expect.ensures.value c.from_residual-in_err-expect.ensures.1 (and_then _ (c.in_ok-first.ensures.lands d w) at_start)

pub returns-in_err-last-clause-lands : goal.returns-in_err-last-clause-lands
returns-in_err-last-clause-lands c = λ d w.
    fails _ (c.in_err-last.ensures.lands d _) c.from_residual-in_err-last.ensures.1
    (and_token c.in_ok-expect.ensures.value (and_then _ (c.in_ok-first.ensures.lands d w) at_start))

pub returns-in_err-expect-2-clause-lands : goal.returns-in_err-expect-2-clause-lands
returns-in_err-expect-2-clause-lands c = λ d w.
    no_token c.in_err-expect-2.ensures.value c.from_residual-in_err-expect-2.ensures.1
    (and_then _ (c.in_ok-last.ensures.lands d _) (and_token c.in_ok-expect.ensures.value (and_then _ (c.in_ok-first.ensures.lands d w) at_start)))

pub returns-clause-value : goal.returns-clause-value
returns-clause-value c = record {
  behind = c.expect.new.self;
  first = record { line = c.in_ok-expect.field-0; reads = rw c.in_ok-expect.ensures.value at c.in_ok-first.ensures.value };
  second = record { line = c.in_ok-expect-2.field-0; reads = rw c.in_ok-expect-2.ensures.value at c.in_ok-last.ensures.value };
}

pub returns-clause-lands : goal.returns-clause-lands
returns-clause-lands c = λ d w.
    reads (and_token c.in_ok-expect-2.ensures.value
    (and_then _ (c.in_ok-last.ensures.lands d _) (and_token c.in_ok-expect.ensures.value (and_then _ (c.in_ok-first.ensures.lands d w) at_start))))
