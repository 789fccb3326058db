use Rattle.std.proofs.Common.{List, ℕ, sym, subst, None}
use Rattle.moduli_sets.specs.Set.{radius}
use Rattle.moduli_sets.specs.declared.kind.Kind.TheVariants.{Stack}
use Rattle.machine_table.specs.Control.{Control}
use Rattle.micro_plan.specs.Acts.{return_acts}
use Rattle.residue_machine.specs.declared.outcome.Outcome.TheVariants.{To, End}
use Rattle.residue_machine.specs.declared.ending.Ended.TheVariants as ended
use Rattle.residue_machine.specs.Outcomes.{ComesTo}
use Rattle.residue_machine.specs.Places.{holding}
use Rattle.residue_machine.proofs.ActLemmas.{comes-to, comes-trap}
use Rattle.residue_machine.proofs.following.go_back.Goals as goal

pub returns-in-Some-clause-comes : goal.returns-in-Some-clause-comes
returns-in-Some-clause-comes g c =
    let old = c.args.position.now in
    let b = c.args.channels.now in
    let place = c.in-Some.place in
    let places = c.release.new.self.places in
    subst (λ (p : Control). ComesTo g.R.Rack radius None (return_acts c.args.line old.places old) p b (To place) b) (sym c.in-Some.ensures.1)
    (subst (λ (ps : List ℕ). ComesTo g.R.Rack radius None (return_acts c.args.line ps old) (holding places old) b (To place) b) (sym c.in-Some.ensures.0) (comes-to g.R.Rack radius None place (holding places old) b))

pub returns-in-None-clause-comes : goal.returns-in-None-clause-comes
returns-in-None-clause-comes g c =
    let old = c.args.position.now in
    let b = c.args.channels.now in
    subst (λ (p : Control). ComesTo g.R.Rack radius None (return_acts c.args.line old.places old) p b (End (ended.Trap Stack c.args.line)) b) (sym c.in-None.ensures.1)
    (subst (λ (ps : List ℕ). ComesTo g.R.Rack radius None (return_acts c.args.line ps old) old b (End (ended.Trap Stack c.args.line)) b) (sym c.in-None.ensures.0) (comes-trap g.R.Rack radius None Stack c.args.line old b))
