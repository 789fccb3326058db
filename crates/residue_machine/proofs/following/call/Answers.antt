use Rattle.std.proofs.Common.{◌≡◌, ◌+◌, ◌∷◌, length, true, false, sym, ap, ◌∙◌, subst, None}
use Rattle.std.specs.Prelude.{nat_lt}
use Rattle.moduli_sets.specs.Set.{radius}
use Rattle.moduli_sets.specs.declared.kind.Kind.TheVariants.{Stack}
use Rattle.machine_table.specs.declared.instr.Instr.TheVariants.{Call}
use Rattle.machine_table.specs.Control.{Control, at_place, most_places, traps}
use Rattle.micro_plan.specs.ActTree.{end_by, go_on}
use Rattle.micro_plan.specs.Acts.{acts_of}
use Rattle.residue_machine.specs.declared.outcome.Outcome.TheVariants.{To, End}
use Rattle.residue_machine.specs.declared.ending.Ended.TheVariants as ended
use Rattle.residue_machine.specs.Outcomes.{ComesTo}
use Rattle.residue_machine.specs.Places.{held_if, holding}
use Rattle.residue_machine.proofs.ActLemmas.{comes-test, comes-to, comes-trap}
use Rattle.residue_machine.proofs.following.call.Goals as goal

pub returns-then-hold-clause-comes : goal.returns-then-hold-clause-comes
returns-then-hold-clause-comes g c = λ set.
    let old = c.args.position.now in
    let b = c.args.channels.now in
    let held = holding ((old.counter + 1) ∷ old.places) old in
    let same : c.hold.new.self ≡ held = c.hold.ensures.place ∙ ap (λ t. held_if t old) c.if-hold.true in
    subst (λ (p : Control). ComesTo g.R.Rack radius None (acts_of set (Call c.args.target c.args.line) old) p b (To c.args.target) b) (sym same)
    (comes-test g.R.Rack radius None (nat_lt (length old.places) most_places) true (go_on (at_place c.args.target held)) (end_by (traps Stack c.args.line)) held b b (To c.args.target) (sym c.hold.ensures.held ∙ c.if-hold.true) (comes-to g.R.Rack radius None c.args.target held b))

pub returns-else-hold-clause-comes : goal.returns-else-hold-clause-comes
returns-else-hold-clause-comes g c = λ set.
    let old = c.args.position.now in
    let b = c.args.channels.now in
    let held = holding ((old.counter + 1) ∷ old.places) old in
    let same : c.hold.new.self ≡ old = c.hold.ensures.place ∙ ap (λ t. held_if t old) c.if-hold.false in
    subst (λ (p : Control). ComesTo g.R.Rack radius None (acts_of set (Call c.args.target c.args.line) old) p b (End (ended.Trap Stack c.args.line)) b) (sym same)
    (comes-test g.R.Rack radius None (nat_lt (length old.places) most_places) false (go_on (at_place c.args.target held)) (end_by (traps Stack c.args.line)) old b b (End (ended.Trap Stack c.args.line)) (sym c.hold.ensures.held ∙ c.if-hold.false) (comes-trap g.R.Rack radius None Stack c.args.line old b))
