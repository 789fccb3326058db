use Rattle.std.proofs.Common.{rules, arith, ◌<◌, ℤ, length, None, Some, sym, subst, ◌∙◌}
use Rattle.std.specs.Int.{w128}
use Rattle.std.specs.Int.RustNames.{FitsSigned}
use Rattle.std.proofs.lemmas.Int.{to_z-of_z}
use mir.Val.{to_z, of_z}
use Rattle.moduli_sets.specs.Set.{ModuliSet, radius}
use Rattle.moduli_sets.specs.declared.kind.Kind.TheVariants.{Zero}
use Rattle.channel_lane.specs.Meaning.{CanPerform, destination}
use Rattle.machine_table.specs.Control.{Control, next, traps}
use Rattle.micro_plan.specs.ActTree.{Acts, end_by, go_on}
use Rattle.micro_plan.specs.Stages.{left_of, most_left}
use Rattle.residue_machine.specs.declared.outcome.Outcome.{Outcome}
use Rattle.residue_machine.specs.declared.outcome.Outcome.TheVariants.{Next, End}
use Rattle.residue_machine.specs.declared.ending.Ended.TheVariants as ended
use Rattle.residue_machine.specs.Bench.{Bench}
use Rattle.residue_machine.specs.Outcomes.{ComesTo}
use Rattle.residue_machine.proofs.ActLemmas.{comes-ask, comes-issue, comes-next, comes-trap, is_silent}
use Rattle.residue_machine.proofs.channels.Channels.perform_plan.Goals as goal

pub issue-requires-clause-can : goal.issue-requires-clause-can
issue-requires-clause-can g c =
    let now = c.acts.self in
    subst (λ (s : ModuliSet). CanPerform (length now.start) (length s.moduli) c.in-Issue.op) (sym c.acts.invariant.set)
    (c.in-Issue.ensures.possible (length now.start) (length c.args.self.now.set.moduli) c.acts.invariant.places).0

pub issue-requires-clause-silent : goal.issue-requires-clause-silent
issue-requires-clause-silent g c =
    is_silent (destination c.in-Issue.op) (c.in-Issue.ensures.possible (length c.acts.self.start) (length c.args.self.now.set.moduli) c.acts.invariant.places).1

pub hear-requires-clause-place : goal.hear-requires-clause-place
hear-requires-clause-place g c =
    c.in-Await.ensures.possible (length c.acts.self.start) (length c.args.self.now.set.moduli) c.acts.invariant.places

pub acts-preserved-in-Issue : goal.acts-preserved-in-Issue
acts-preserved-in-Issue g c =
    let now = c.acts.self in
    let new = c.issue.new.self in
    let inv = c.acts.invariant in
    let more = c.issue.ensures.issued in
    let less : most_left c.next.new.self < most_left c.acts.plan = c.in-Issue.ensures.shorter in
    let count = inv.count in
    let whole : (control : Control) (outcome : Outcome) (last : Bench g.row.R.Denot g.row.D.Denot) → ComesTo g.R.Rack radius None (left_of c.next.new.self None (end_by (traps Zero c.args.line)) (go_on (next control))) control new outcome last → ComesTo g.R.Rack radius None (left_of c.args.plan.now None (end_by (traps Zero c.args.line)) (go_on (next control))) control c.args.self.now outcome last =
    λ control outcome last h.
    let zero = end_by (traps Zero c.args.line) in
    let rest = go_on (next control) in
    inv.whole control outcome last
    (subst (λ (a : Acts). ComesTo g.R.Rack radius None a control now outcome last) (sym (c.in-Issue.ensures.next zero rest))
    (comes-issue g.R.Rack radius None c.in-Issue.op (left_of c.next.new.self None zero rest) control now new last outcome c.issue.ensures h)) in
    record {
      whole = whole;
      waits = sym c.in-Issue.ensures.waits;
      places = c.in-Issue.ensures.places (length c.args.self.now.set.moduli) inv.places;
      set = c.issue.ensures.set ∙ inv.set;
      count = omega (arith, more, less, count);
    }

pub acts-preserved : goal.acts-preserved
acts-preserved g c =
    let now = c.acts.self in
    let new = c.hear.new.self in
    let inv = c.acts.invariant in
    let x = c.in-Ok.x in
    let fits : FitsSigned w128 x = search rules in
    let more = c.hear.ensures.issued in
    let less : most_left c.next.new.self < most_left c.acts.plan = c.in-Await.ensures.shorter in
    let count = inv.count in
    let whole : (control : Control) (outcome : Outcome) (last : Bench g.row.R.Denot g.row.D.Denot) → ComesTo g.R.Rack radius None (left_of c.next.new.self (Some (to_z w128 (of_z w128 x))) (end_by (traps Zero c.args.line)) (go_on (next control))) control new outcome last → ComesTo g.R.Rack radius None (left_of c.args.plan.now None (end_by (traps Zero c.args.line)) (go_on (next control))) control c.args.self.now outcome last =
    λ control outcome last h.
    let zero = end_by (traps Zero c.args.line) in
    let rest = go_on (next control) in
    inv.whole control outcome last
    (subst (λ (a : Acts). ComesTo g.R.Rack radius None a control now outcome last) (sym (c.in-Await.ensures.next zero rest))
    (comes-ask g.R.Rack radius None c.in-Await.place (λ y. left_of c.next.new.self (Some y) zero rest) x control now new last outcome c.in-Ok.ensures.told
    (subst (λ (z : ℤ). ComesTo g.R.Rack radius None (left_of c.next.new.self (Some z) zero rest) control new outcome last) (to_z-of_z w128 x fits) h))) in
    record {
      whole = whole;
      waits = sym c.in-Await.ensures.waits;
      places = c.in-Await.ensures.places (length c.args.self.now.set.moduli) inv.places;
      set = c.hear.ensures.set ∙ inv.set;
      count = omega (arith, more, less, count);
    }

pub returns-in-Err-clause-comes : goal.returns-in-Err-clause-comes
returns-in-Err-clause-comes g c = λ control.
    let zero = end_by (traps Zero c.args.line) in
    let rest = go_on (next control) in
    c.acts.invariant.whole control c.in-Err.outcome c.hear.new.self
    (subst (λ (a : Acts). ComesTo g.R.Rack radius None a control c.acts.self c.in-Err.outcome c.hear.new.self) (sym (c.in-Await.ensures.next zero rest))
    (c.in-Err.ensures.told (λ y. left_of c.next.new.self (Some y) zero rest) control))

pub returns-in-Done-clause-comes : goal.returns-in-Done-clause-comes
returns-in-Done-clause-comes g c = λ control.
    let zero = end_by (traps Zero c.args.line) in
    let rest = go_on (next control) in
    c.acts.invariant.whole control Next c.acts.self
    (subst (λ (a : Acts). ComesTo g.R.Rack radius None a control c.acts.self Next c.acts.self) (sym (c.in-Done.ensures.next zero rest).0) (comes-next g.R.Rack radius None control c.acts.self))

pub returns-in-Zero-clause-comes : goal.returns-in-Zero-clause-comes
returns-in-Zero-clause-comes g c = λ control.
    let zero = end_by (traps Zero c.args.line) in
    let rest = go_on (next control) in
    c.acts.invariant.whole control (End (ended.Trap Zero c.args.line)) c.acts.self
    (subst (λ (a : Acts). ComesTo g.R.Rack radius None a control c.acts.self (End (ended.Trap Zero c.args.line)) c.acts.self) (sym (c.in-Zero.ensures.next zero rest).0) (comes-trap g.R.Rack radius None Zero c.args.line control c.acts.self))
