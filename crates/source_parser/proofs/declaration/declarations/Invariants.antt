use Rattle.std.proofs.Common.{[], ◌∷◌, length}
use Rattle.source_parser.specs.Limits.{depth_limit, weight_limit}
use Rattle.source_parser.specs.Grammar.{ReadsAll, ReadsDeclaration}
use Rattle.source_parser.specs.Landings.{Leads}
use Rattle.source_parser.specs.Wants as wants
use Rattle.source_parser.proofs.LoopInvariants.{Listing}
use Rattle.source_parser.proofs.declaration.declarations.Given as goal

abbrev pub invariant-loop-found : goal.invariant-loop-found
invariant-loop-found l =
    Listing (ReadsAll (ReadsDeclaration depth_limit weight_limit)) l.fn.reader l.found l.reader
    × Leads (wants.declarations ∷ []) l.fn.reader depth_limit weight_limit (wants.declarations ∷ []) l.reader depth_limit weight_limit

abbrev pub decreases-loop-found : goal.decreases-loop-found
decreases-loop-found l = length l.reader
