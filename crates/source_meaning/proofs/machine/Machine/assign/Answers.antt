use Rattle.std.proofs.Common.{rules}
use Rattle.std.proofs.lemmas.Int.{to_z-of_z}
use mir.Syntax.{w128}
use mir.Val.{SFits}
use Rattle.moduli_sets.specs.declared.kind.Kind.TheVariants.{Range}
use Rattle.resolved_tree.specs.Meaning.{value_of, put_into}
use Rattle.source_meaning.specs.Follows.{state_of}
use Rattle.source_meaning.proofs.Following.{err_computes, computes_then, computes_stops}
use Rattle.source_meaning.proofs.machine.Machine.assign.Goals as goal

pub returns-in_err-x : goal.returns-in_err-x
returns-in_err-x c =
    err_computes _ _ _ _ _ c.from_residual.ensures
    (computes_stops (λ n. value_of c.args.value.now (state_of c.args.self.now)) (λ n x. put_into n c.args.target.now x Range c.args.line c.args.line) _ _ _ c.in_err-x.ensures.does)

pub returns : goal.returns
returns c =
    let fits : SFits w128 c.in_ok-x.x = search rules in
    computes_then (λ n. value_of c.args.value.now (state_of c.args.self.now)) (λ n x. put_into n c.args.target.now x Range c.args.line c.args.line) _ _ _ _ _ c.in_ok-x.ensures.does
    (simp to_z-of_z at c.put_into.ensures)
