use Rattle.std.proofs.Common.{rules, arith, ◌≡◌, ◌-◌, ℤ, sym, subst, None}
use Rattle.std.specs.Int.{w128}
use Rattle.std.specs.Int.RustNames.{FitsSigned}
use Rattle.std.proofs.lemmas.Int.{to_z-of_z}
use Rattle.moduli_sets.specs.Set.{radius}
use Rattle.residue_machine.specs.declared.channels.Told.TheVariants.{Integer}
use Rattle.residue_machine.specs.Bench.{IsTold}
use Rattle.residue_machine.proofs.ActLemmas.{comes-bad}
use Rattle.residue_machine.proofs.channels.Channels.hear.Goals as goal

pub returns-in-Integer : goal.returns-in-Integer
returns-in-Integer g c =
    let x = c.in-Integer.x in
    let fits : FitsSigned w128 x = search rules in
    record {
      issued = c.in-Integer.ensures.1.issued;
      start = c.in-Integer.ensures.1.start;
      set = c.in-Integer.ensures.1.set;
      told = subst (λ (z : ℤ). IsTold g.R.Rack radius None c.args.place c.args.self.now (Integer z) c.ask.new.self) (sym (to_z-of_z w128 x fits)) c.in-Integer.ensures;
    }

pub returns-in-Bad : goal.returns-in-Bad
returns-in-Bad g c =
    let more = c.in-Bad.ensures.2.issued in
    let number : c.issued.result - 1 ≡ c.args.self.now.issued = omega (arith, c.issued.ensures, more) in
    record {
      issued = more;
      start = c.in-Bad.ensures.2.start;
      set = c.in-Bad.ensures.2.set;
      told = λ acts control. comes-bad g.R.Rack radius None c.args.place acts c.in-Bad.column (c.issued.result - 1) control c.args.self.now c.ask.new.self c.in-Bad.ensures number;
    }
