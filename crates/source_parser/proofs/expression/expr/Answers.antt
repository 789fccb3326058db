use Rattle.std.proofs.Common.{[], ◌∷◌, arith, Result, Ok, Err, ℕ, ◌≡◌, ◌+◌, List}
use Rattle.std.specs.Prelude.{IfOk, OnOk}
use Rattle.source_tree.specs.declared.expression.Expr.{Expr}
use Rattle.source_parser.specs.declared.fault.Fault.{Fault}
use Rattle.source_parser.specs.Limits.{weight_limit}
use Rattle.source_parser.specs.Terminals.{Terminal, kinds_of}
use Rattle.source_parser.specs.Grammar.{sum, weight, ReadsExpr, ReadsOutermost}
use Rattle.source_parser.specs.Wants as wants
use Rattle.source_parser.proofs.Moves.{at_start, within}
use Rattle.source_parser.proofs.Runs.{outermost_begins, fresh_ends}
use Rattle.source_parser.proofs.TokenMoves.{instead}
use Rattle.source_parser.proofs.expression.expr.Goals as goal

outermost_reads : (old new : List Terminal) (left : ℕ) (result : Result Expr Fault) → IfOk result (λ e. ReadsExpr sum old e new) → OnOk result (weight old + left ≡ weight new + weight_limit)
    → IfOk result (λ e. ReadsOutermost weight_limit old e new)
outermost_reads old new left (Ok e) h paid = record { reads = h; fits = omega (arith, paid) }
outermost_reads old new left (Err fault) h paid = tt

pub returns-clause-value : goal.returns-clause-value
returns-clause-value c = outermost_reads c.args.reader.now c.parts.new.reader c.parts.new.weight_left c.parts.result c.parts.ensures.value c.parts.ensures.weight_paid

pub returns-clause-lands : goal.returns-clause-lands
returns-clause-lands c = λ d w.
    within _ (c.parts.ensures.lands d) (λ s. fresh_ends weight_limit s d c.parts.new.weight_left (kinds_of c.parts.new.reader))
    (instead (wants.sum ∷ wants.fresh ∷ []) (λ s. outermost_begins weight_limit s d w (kinds_of c.args.reader.now)) at_start)
