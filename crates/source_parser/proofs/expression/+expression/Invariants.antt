use Rattle.std.proofs.Common.{ℕ, ◌+◌, ◌*◌, length}
use Rattle.source_parser.specs.declared.expression.Chain.{Chain}
use Rattle.source_parser.specs.declared.expression.Chain.TheVariants as chain
use Rattle.source_parser.proofs.LoopInvariants.{Joining}
use Rattle.source_parser.proofs.expression.+expression.Given as goal

-- a sum is read by way of a term, and a term by way of a factor
abbrev rank : Chain → ℕ
rank chain.Sum = 3
rank chain.Term = 1

abbrev pub decreases-factor : goal.decreases-factor
decreases-factor l = length l.reader.now * 5

abbrev pub decreases-variable : goal.decreases-variable
decreases-variable l = length l.reader.now * 5

abbrev pub decreases-part : goal.decreases-part
decreases-part l = length l.reader.now * 5 + rank l.chain

abbrev pub decreases-parts : goal.decreases-parts
decreases-parts l = length l.reader.now * 5 + rank l.chain + 1

abbrev pub invariant-parts-loop-left : goal.invariant-parts-loop-left
invariant-parts-loop-left l = Joining l.fn.chain l.fn.reader l.fn.weight_left l.left l.reader l.weight_left

abbrev pub decreases-parts-loop-left : goal.decreases-parts-loop-left
decreases-parts-loop-left l = length l.reader
