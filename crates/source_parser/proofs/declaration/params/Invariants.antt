use Rattle.std.proofs.Common.{ℕ, [], ◌∷◌, length}
use Rattle.source_parser.specs.Limits.{weight_limit}
use Rattle.source_parser.specs.Grammar.{ReadsParam}
use Rattle.source_parser.specs.Landings.{Leads}
use Rattle.source_parser.specs.Wants as wants
use Rattle.source_parser.proofs.LoopInvariants.{Gathering}
use Rattle.source_parser.proofs.declaration.params.Given as goal

abbrev pub invariant-loop-alloc : goal.invariant-loop-alloc
invariant-loop-alloc l =
    Gathering ReadsParam l.fn.reader l.found l.reader
    × ((depth spare : ℕ) → Leads (wants.params ∷ []) l.fn.reader depth spare (wants.more_params ∷ []) l.reader depth weight_limit)

abbrev pub decreases-loop-alloc : goal.decreases-loop-alloc
decreases-loop-alloc l = length l.reader
