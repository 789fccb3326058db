use Rattle.std.proofs.Common.{ℕ, [], ◌∷◌, length}
use Rattle.source_parser.specs.Grammar.{ReadsAll, ReadsLocal}
use Rattle.source_parser.specs.Limits.{weight_limit}
use Rattle.source_parser.specs.Landings.{Leads}
use Rattle.source_parser.specs.Wants as wants
use Rattle.source_parser.proofs.LoopInvariants.{Listing}
use Rattle.source_parser.proofs.declaration.locals.Given as goal

abbrev pub invariant-loop-line : goal.invariant-loop-line
invariant-loop-line l =
    Listing (ReadsAll ReadsLocal) l.fn.reader l.found l.reader
    × ((depth : ℕ) → Leads (wants.locals ∷ []) l.fn.reader depth weight_limit (wants.locals ∷ []) l.reader depth weight_limit)

abbrev pub decreases-loop-line : goal.decreases-loop-line
decreases-loop-line l = length l.reader
