use Rattle.std.proofs.Common.{◌+◌, ◌*◌, [], ◌∷◌, length}
use Rattle.source_parser.specs.Limits.{weight_limit}
use Rattle.source_parser.specs.Grammar.{ReadsStatements}
use Rattle.source_parser.specs.Landings.{Leads}
use Rattle.source_parser.specs.Wants as wants
use Rattle.source_parser.proofs.LoopInvariants.{Listing}
use Rattle.source_parser.proofs.statement.+statement.Given as goal

abbrev pub decreases-if_statement : goal.decreases-if_statement
decreases-if_statement l = length l.reader.now * 4

abbrev pub decreases-for_statement : goal.decreases-for_statement
decreases-for_statement l = length l.reader.now * 4

abbrev pub decreases-while_statement : goal.decreases-while_statement
decreases-while_statement l = length l.reader.now * 4

abbrev pub decreases-statement : goal.decreases-statement
decreases-statement l = length l.reader.now * 4 + 1

abbrev pub decreases-statements : goal.decreases-statements
decreases-statements l = length l.reader.now * 4 + 2

abbrev pub decreases-else_part : goal.decreases-else_part
decreases-else_part l = length l.reader.now * 4

abbrev pub decreases-branches : goal.decreases-branches
decreases-branches l = length l.reader.now * 4 + 3

abbrev pub decreases-body : goal.decreases-body
decreases-body l = length l.reader.now * 4 + 3

abbrev pub invariant-statements-loop-found : goal.invariant-statements-loop-found
invariant-statements-loop-found l =
    Listing (ReadsStatements weight_limit l.depth) l.fn.reader l.found l.reader
    × Leads (wants.statements ∷ []) l.fn.reader l.depth weight_limit (wants.statements ∷ []) l.reader l.depth weight_limit

abbrev pub decreases-statements-loop-found : goal.decreases-statements-loop-found
decreases-statements-loop-found l = length l.reader
