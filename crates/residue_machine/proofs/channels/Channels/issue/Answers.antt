use Rattle.moduli_sets.specs.Moduli.{set_of}
use Rattle.residue_machine.specs.Bench.{bench_of}
use Rattle.residue_machine.proofs.BenchLemmas.{IsBench-more, can, room}
use Rattle.residue_machine.proofs.channels.Channels.issue.Goals as goal

pub issue-requires-clause-can : goal.issue-requires-clause-can
issue-requires-clause-can g c = can g.R.Rack _ _ c.args.op c.self.view_is c.self.invariant.0.come c.requires.can

pub issue-requires-clause-room : goal.issue-requires-clause-room
issue-requires-clause-room g c = room g.R.Rack _ _ c.self.view_is c.self.invariant.0.come c.requires.room

pub invariant_of-self : goal.invariant_of-self
invariant_of-self g c =
    let s = c.self.inside in
    let done = c.issue.ensures in
    let old = bench_of (set_of s.set) s.object.now s.rack s.decoder s.issued s.corrections in (
      IsBench-more g.R.Rack g.D.Decoder old c.args.op c.issue.new.self
          (record { book = done.book; plan = done.plan; lanes = done.lanes; run = done.run }) c.self.invariant.0,
      c.self.invariant.1,
    )
