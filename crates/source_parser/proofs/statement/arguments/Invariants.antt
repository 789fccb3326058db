use Rattle.std.proofs.Common.{ℕ, [], ◌∷◌, length}
use Rattle.source_parser.specs.Limits.{weight_limit}
use Rattle.source_parser.specs.Grammar.{ReadsOutermost}
use Rattle.source_parser.specs.Landings.{Leads}
use Rattle.source_parser.specs.Wants as wants
use Rattle.source_parser.proofs.LoopInvariants.{Gathering}
use Rattle.source_parser.proofs.statement.arguments.Given as goal

abbrev pub invariant-loop-alloc : goal.invariant-loop-alloc
invariant-loop-alloc l =
    Gathering (ReadsOutermost weight_limit) l.fn.reader l.found l.reader
    × ((depth spare : ℕ) → Leads (wants.listed ∷ []) l.fn.reader depth spare (wants.commas ∷ []) l.reader depth weight_limit)

abbrev pub decreases-loop-alloc : goal.decreases-loop-alloc
decreases-loop-alloc l = length l.reader
