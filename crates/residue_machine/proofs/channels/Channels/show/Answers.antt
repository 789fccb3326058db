use Rattle.std.proofs.Common.{subst}
use Rattle.moduli_sets.specs.Moduli.{set_of}
use Rattle.channel_alu.specs.declared.operation.MicroOp.TheVariants.{Show}
use Rattle.residue_machine.specs.Bench.{Bench, HasShown, bench_of}
use Rattle.residue_machine.proofs.BenchLemmas.{IsBench-more, bench_with, can, room, shown-one}
use Rattle.residue_machine.proofs.channels.Channels.show.Goals as goal

pub show-column-requires-clause-place : goal.show-column-requires-clause-place
show-column-requires-clause-place g c = can g.R.Rack _ _ (Show c.args.place) c.self.view_is c.self.invariant.0.come c.requires.place

pub show-column-requires-clause-room : goal.show-column-requires-clause-room
show-column-requires-clause-room g c = room g.R.Rack _ _ c.self.view_is c.self.invariant.0.come c.requires.room

pub invariant_of-self : goal.invariant_of-self
invariant_of-self g c =
    let s = c.self.inside in
    let d = c.show-column.ensures in
    let old = bench_of (set_of s.set) s.object.now s.rack s.decoder s.issued s.corrections in (
      IsBench-more g.R.Rack g.D.Decoder old (Show c.args.place) c.show-column.new.self
          (record { book = d.book; plan = d.plan; lanes = d.lanes; run = d.run }) c.self.invariant.0,
      c.self.invariant.1,
    )

pub returns : goal.returns
returns g c =
    let s = c.self.inside in
    let d = c.show-column.ensures in
    let old = bench_of (set_of s.set) s.object.now s.rack s.decoder s.issued s.corrections in
    let new = bench_with g.R.Rack c.show-column.new.self old in
    subst (λ (b : Bench g.row.R.Denot g.row.D.Denot). HasShown g.R.Rack c.args.place b c.show-column.result new) c.self.view_is
    (shown-one g.R.Rack g.D.Decoder old c.args.place c.show-column.new.self c.show-column.result (record { book = d.book; plan = d.plan; lanes = d.lanes; run = d.run }) d.column c.self.invariant.0)
