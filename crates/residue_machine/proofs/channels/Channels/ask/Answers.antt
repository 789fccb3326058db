use Rattle.std.proofs.Common.{rules, ◌≡◌, ◌+◌, slice_index, subst, None}
use Rattle.std.specs.Int.{w128}
use Rattle.std.specs.Int.RustNames.{FitsSigned}
use Rattle.std.proofs.lemmas.Int.{to_z-of_z}
use Rattle.std.proofs.Math.ListN.{set as set_at}
use Rattle.moduli_sets.specs.Set.{radius}
use Rattle.residue_machine.specs.declared.channels.Told.TheVariants.{Integer, Bad}
use Rattle.residue_machine.specs.Bench.{Bench, IsTold}
use Rattle.residue_machine.proofs.BenchLemmas.{IsBench-corrected, counted, decodable, told-bad, told-clean, told-corrected}
use Rattle.residue_machine.proofs.channels.Channels.ask.Goals as goal

pub decode-requires : goal.decode-requires
decode-requires g c =
    decodable g.R.Rack g.D.Decoder c.args.self.now _ _ c.args.place c.show-column.result c.self.view_is c.show-column.ensures c.self.invariant.0

pub at-requires : goal.at-requires
at-requires g c =
    counted g.R.Rack g.D.Decoder c.args.self.now _ _ c.args.place c.show-column.result c.self.view_is c.show-column.ensures c.self.invariant.0
    c.in-Corrected.x c.in-Corrected.i c.in-Corrected.ensures

pub replace-requires : goal.replace-requires
replace-requires g c =
    counted g.R.Rack g.D.Decoder c.args.self.now _ _ c.args.place c.show-column.result c.self.view_is c.show-column.ensures c.self.invariant.0
    c.in-Corrected.x c.in-Corrected.i c.in-Corrected.ensures

pub invariant_of-self : goal.invariant_of-self
invariant_of-self g c =
    let s = c.self.inside in
    let i = c.in-Corrected.i in
    let more : c.replace.new.self ≡ set_at s.corrections i (slice_index s.corrections i + 1) = cc (c.replace.ensures, c.at.ensures) in (
      IsBench-corrected g.R.Rack g.D.Decoder c.args.self.now _ _ c.args.place c.show-column.result c.self.view_is c.show-column.ensures c.self.invariant.0
          c.in-Corrected.x i c.replace.new.self c.in-Corrected.ensures more,
      c.self.invariant.1,
    )

pub returns-in-Clean : goal.returns-in-Clean
returns-in-Clean g c =
    let x = c.in-Clean.x in
    let fits : FitsSigned w128 x = search rules in
    rw (to_z-of_z w128 x fits) (subst (λ (b : Bench g.row.R.Denot g.row.D.Denot). IsTold g.R.Rack radius None c.args.place c.args.self.now (Integer x) b) c.self.view_is
    (told-clean g.R.Rack g.D.Decoder c.args.self.now _ _ c.args.place c.show-column.result c.self.view_is c.show-column.ensures c.self.invariant.0 x c.in-Clean.ensures))

pub returns-in-Corrected : goal.returns-in-Corrected
returns-in-Corrected g c =
    let s = c.self.inside in
    let i = c.in-Corrected.i in
    let more : c.replace.new.self ≡ set_at s.corrections i (slice_index s.corrections i + 1) = cc (c.replace.ensures, c.at.ensures) in
    let x = c.in-Corrected.x in
    let fits : FitsSigned w128 x = search rules in
    rw (to_z-of_z w128 x fits)
    (told-corrected g.R.Rack g.D.Decoder c.args.self.now _ _ c.args.place c.show-column.result c.self.view_is c.show-column.ensures c.self.invariant.0 x i c.replace.new.self c.in-Corrected.ensures more)

pub returns-in-Damaged : goal.returns-in-Damaged
returns-in-Damaged g c =
    subst (λ (b : Bench g.row.R.Denot g.row.D.Denot). IsTold g.R.Rack radius None c.args.place c.args.self.now (Bad c.show-column.result) b) c.self.view_is
    (told-bad g.R.Rack g.D.Decoder c.args.self.now _ _ c.args.place c.show-column.result c.self.view_is c.show-column.ensures c.self.invariant.0 c.in-Damaged.ensures)
