use Rattle.std.proofs.Common.{pos, get_or, rules, arith, Err, Ok}
use Rattle.std.proofs.lemmas.Int.{to_z-of_z}
use mir.Syntax.{w128}
use mir.Val.{SFits}
use Rattle.source_meaning.proofs.Following.{err_computes}
use Rattle.source_meaning.proofs.CallForms.{local_not_begun, local_stops, local_goes, locals_done}
use Rattle.source_meaning.proofs.machine.Machine.locals.Goals as goal

pub returns-in_err-visit : goal.returns-in_err-visit
returns-in_err-visit c =
    err_computes _ _ _ _ _ c.from_residual.ensures
    (c.loop-start.invariant (Err c.in_err-visit.field-0.0) c.visit.new.self
    (local_not_begun c.loop-start.at c.args.starts.now c.loop-start.start-index c.loop-start-test.true c.loop-start.self _ _ c.in_err-visit.ensures.does))

pub returns-in_err-put_at : goal.returns-in_err-put_at
returns-in_err-put_at c =
    let fits : SFits w128 (get_or c.args.starts.now c.loop-start.start-index (pos 0)) = search rules in
    err_computes _ _ _ _ _ c.from_residual-in_err-put_at.ensures
    (c.loop-start.invariant (Err c.in_err-put_at.field-0.0) c.put_at.new.self
    (local_stops c.loop-start.at c.args.starts.now c.loop-start.start-index c.loop-start-test.true c.loop-start.self _ _ c.in_ok-visit.ensures.does _ _ (simp to_z-of_z at c.in_err-put_at.ensures.does)))

pub loop-start-preserved : goal.loop-start-preserved
loop-start-preserved c =
    let fits : SFits w128 (get_or c.args.starts.now c.loop-start.start-index (pos 0)) = search rules in
    λ o u f.
    c.loop-start.invariant o u
    (local_goes c.loop-start.at c.args.starts.now c.loop-start.start-index c.loop-start-test.true c.loop-start.self _ _ c.in_ok-visit.ensures.does _ _ _ _ (simp to_z-of_z at c.in_ok-put_at.ensures.does) f)

pub returns : goal.returns
returns c = c.loop-start.invariant (Ok tt) c.loop-start.self (locals_done c.loop-start.at c.args.starts.now c.loop-start.start-index c.loop-start.self tt (omega arith))
