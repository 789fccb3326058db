use Rattle.std.proofs.Common.{rules, ◌≡◌, [], ◌∷◌, None, Some, refl, sym, ap, ◌∙◌}
use Rattle.std.specs.Int.{w128}
use Rattle.std.specs.Int.RustNames.{FitsSigned}
use Rattle.std.proofs.lemmas.Int.{to_z-of_z}
use mir.Val.{to_z, of_z}
use Rattle.moduli_sets.specs.Set.{radius}
use Rattle.residue_machine.specs.declared.ending.Stepped.TheVariants.{On, Print}
use Rattle.residue_machine.specs.declared.outcome.Outcome.TheVariants as outcome
use Rattle.residue_machine.specs.Machine.{ending_by, ending_held, ending_of_held, machine_of}
use Rattle.residue_machine.proofs.StepLemmas.{step-again, step-fresh, step-on, stepped-off}
use Rattle.residue_machine.proofs.machine.Machine.go_on.Goals as goal

pub returns-in-Some : goal.returns-in-Some
returns-in-Some g c =
    let s = c.self.inside in
    step-again g.R.Rack radius None c.args.self.now (machine_of s.channels s.position s.taken s.ended) c.stepped.result (ending_of_held c.in-Some.ended) c.self.view_is (ap ending_held c.in-Some.is) c.stepped.ensures.ending c.stepped.ensures.prints

pub returns-in-Next : goal.returns-in-Next
returns-in-Next g c =
    let done = c.perform_next-outcome.new in
    step-on g.R.Rack radius None c.args.self.now _ done.position c.advance.new.self done.channels outcome.Next On c.self.view_is (ap ending_held c.in_default.is) c.in-Next.ensures.comes (ap Some (sym c.advance.ensures)) refl refl

pub returns-in-To : goal.returns-in-To
returns-in-To g c =
    let done = c.perform_next-outcome.new in
    step-on g.R.Rack radius None c.args.self.now _ done.position c.jump.new.self done.channels (outcome.To c.in-To.target) On c.self.view_is (ap ending_held c.in_default.is) c.in-To.ensures.comes (ap Some (sym c.jump.ensures)) refl refl

pub returns-in-Print : goal.returns-in-Print
returns-in-Print g c =
    let done = c.perform_next-outcome.new in
    let x = c.in-Print.x in
    let fits : FitsSigned w128 x = search rules in
    step-on g.R.Rack radius None c.args.self.now _ done.position c.advance-in-Print.new.self done.channels (outcome.Print x) (Print (to_z w128 (of_z w128 x))) c.self.view_is (ap ending_held c.in_default.is) c.in-Print.ensures.comes (ap Some (sym c.advance-in-Print.ensures)) (ap (λ z. z ∷ []) (sym (to_z-of_z w128 x fits))) refl

pub returns-in-End : goal.returns-in-End
returns-in-End g c =
    let s = c.self.inside in
    let old = machine_of s.channels s.position s.taken s.ended in
    let fresh : old.ended ≡ None = ap ending_held c.in_default.is in
    let done = c.perform_next-outcome.new in
    let kept : ending_held c.end.new.kept ≡ Some (ending_by c.end.result) = ap ending_held c.end.ensures.kept ∙ ap Some (sym c.end.ensures.ending) in
    step-fresh g.R.Rack radius None c.args.self.now old _ c.end.result c.self.view_is fresh
    (stepped-off g.R.Rack radius None old done.position done.channels (outcome.End c.in-End.ended) c.end.result (ending_held c.end.new.kept) kept c.in-End.ensures.comes refl (c.in-End.ensures.stays refl) (sym c.end.ensures.prints) (sym c.end.ensures.ending))
