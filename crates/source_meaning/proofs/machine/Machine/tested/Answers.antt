use Rattle.std.proofs.Common.{rules}
use Rattle.std.proofs.lemmas.Int.{to_z-of_z}
use mir.Syntax.{w128}
use mir.Val.{SFits}
use Rattle.source_meaning.proofs.Following.{err_computes}
use Rattle.source_meaning.proofs.TestForms.{test_not_begun, left_side_stops, right_side_stops, test_goes}
use Rattle.source_meaning.proofs.machine.Machine.tested.Goals as goal

pub returns-in_err-visit : goal.returns-in_err-visit
returns-in_err-visit c = err_computes _ _ _ _ _ c.from_residual.ensures (test_not_begun c.args.test.now _ _ _ c.in_err-visit.ensures.does)

pub returns-in_err-x : goal.returns-in_err-x
returns-in_err-x c =
    err_computes _ _ _ _ _ c.from_residual-in_err-x.ensures (left_side_stops c.args.test.now _ _ _ c.in_ok-visit.ensures.does _ _ c.in_err-x.ensures.does)

pub returns-in_err-y : goal.returns-in_err-y
returns-in_err-y c =
    err_computes _ _ _ _ _ c.from_residual-in_err-y.ensures (right_side_stops c.args.test.now _ _ _ c.in_ok-visit.ensures.does _ _ _ _ c.in_ok-x.ensures.does c.in_err-y.ensures.does)

pub returns : goal.returns
returns c =
    let fits : SFits w128 c.in_ok-x.x = search rules in
    let fits' : SFits w128 c.in_ok-y.y = search rules in
    test_goes c.args.test.now _ _ _ c.in_ok-visit.ensures.does _ _ _ _ _ c.in_ok-x.ensures.does c.in_ok-y.ensures.does (simp to_z-of_z at c.holds.ensures)
