use Rattle.std.proofs.Common.{arith, pos, ◌<ℤ◌}
use Rattle.std.proofs.lemmas.Int.{ints}
use Rattle.source_meaning.proofs.DivisionLemmas.{down_word}
use Rattle.source_meaning.proofs.division.floor_quotient.Goals as goal

pub returns-then-x-gt0 : goal.returns-then-x-gt0
returns-then-x-gt0 c =
    let above : pos 0 <ℤ c.args.x = grind (arith, ints) in
    let below : c.args.y <ℤ pos 0 = grind (arith, ints) in
    down_word c.args.x c.args.y c.ranges.x c.ranges.y above below
