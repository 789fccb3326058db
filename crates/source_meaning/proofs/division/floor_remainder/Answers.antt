use Rattle.std.proofs.Common.{arith, ◌∙◌, rules, pos, ◌<ℤ◌}
use Rattle.std.proofs.lemmas.Int.{ints, to_z-of_z}
use mir.Syntax.{w128}
use mir.Val.{SFits}
use Rattle.source_meaning.proofs.DivisionLemmas.{down_rest_word, up_rest}
use Rattle.source_meaning.proofs.division.floor_remainder.Goals as goal

pub returns-then-y-gt0 : goal.returns-then-y-gt0
returns-then-y-gt0 c =
    let above : pos 0 <ℤ c.args.y = grind (arith, ints) in
    let fits : SFits w128 c.rem_euclid.result = search rules in
    let fx : SFits w128 c.args.x = c.ranges.x in
    let fy : SFits w128 c.args.y = c.ranges.y in
    let is = simp to_z-of_z at c.rem_euclid.ensures.value in
    to_z-of_z w128 c.rem_euclid.result fits ∙ is ∙ up_rest c.args.x c.args.y c.floor_quotient_and_rest.ensures.above above

pub returns-then-x-gt0 : goal.returns-then-x-gt0
returns-then-x-gt0 c =
    let above : pos 0 <ℤ c.args.x = grind (arith, ints) in
    let below : c.args.y <ℤ pos 0 = grind (arith, ints) in
    down_rest_word c.args.x c.args.y c.floor_quotient_and_rest.ensures.below c.ranges.x c.ranges.y above below
