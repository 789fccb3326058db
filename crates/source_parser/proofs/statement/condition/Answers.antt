use Rattle.std.proofs.Common.{[], ◌∷◌}
use Rattle.source_parser.specs.Limits.{weight_limit}
use Rattle.source_parser.specs.Terminals.{kinds_of}
use Rattle.source_parser.specs.Grammar as grammar
use Rattle.source_parser.specs.Landings.{reads}
use Rattle.source_parser.specs.Wants as wants
use Rattle.source_parser.proofs.Moves.{at_start, and_then, fails, gives_up}
use Rattle.source_parser.proofs.Runs.{comparison_goes, comparison_stops}
use Rattle.source_parser.proofs.TokenMoves.{and_taken}
use Rattle.source_parser.proofs.statement.condition.Goals as goal

pub returns-in_err-left-clause-lands : goal.returns-in_err-left-clause-lands
returns-in_err-left-clause-lands c = λ d w. fails _ (c.in_err-left.ensures.lands d w) c.from_residual.ensures.1 at_start

pub returns-in_err-comparison-clause-lands : goal.returns-in_err-comparison-clause-lands
returns-in_err-comparison-clause-lands c = λ d w.
    let missing = c.in_err-comparison.ensures.value in
    gives_up _ {part = wants.comparison ∷ []} (record { comes = λ s. comparison_stops weight_limit s d weight_limit (kinds_of c.expr.new.reader) missing.2 }) missing.0 missing.1 c.from_residual-in_err-comparison.ensures.1
    (and_then _ (c.in_ok-left.ensures.lands d w) at_start)

pub returns-in_err-right-clause-lands : goal.returns-in_err-right-clause-lands
returns-in_err-right-clause-lands c = λ d w.
    let sign = c.in_ok-comparison.ensures.value in
    fails _ (c.in_err-right.ensures.lands d _) c.from_residual-in_err-right.ensures.1
    (and_taken [] sign.3 (λ s ks. comparison_goes weight_limit s d weight_limit sign.2 ks) (and_then _ (c.in_ok-left.ensures.lands d w) at_start))

pub returns-clause-value : goal.returns-clause-value
returns-clause-value c =
    let sign = c.in_ok-comparison.ensures.value in
    rw c.line-line.ensures (grammar.condition (rw sign.3 at c.in_ok-left.ensures.value) sign.2 c.in_ok-right.ensures.value)

pub returns-clause-lands : goal.returns-clause-lands
returns-clause-lands c = λ d w.
    let sign = c.in_ok-comparison.ensures.value in
    reads (and_then _ (c.in_ok-right.ensures.lands d _)
    (and_taken [] sign.3 (λ s ks. comparison_goes weight_limit s d weight_limit sign.2 ks) (and_then _ (c.in_ok-left.ensures.lands d w) at_start)))
