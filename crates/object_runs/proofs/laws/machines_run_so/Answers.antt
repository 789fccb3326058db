use Rattle.std.proofs.Common.{List, [], None, ap, ◌∙◌}
use Rattle.moduli_sets.specs.Set.{radius}
use Rattle.channel_lane.specs.Lane.{LaneState}
use Rattle.lane_bank.specs.Bank.{lanes_at_start}
use Rattle.lane_bank.proofs.BankLemmas.{lanes_after_all-none}
use Rattle.machine_table.specs.Control.{control_at_start}
use Rattle.shown_run.specs.Decoded.{nearest}
use Rattle.shown_run.specs.Runs.{run_shown}
use Rattle.object_runs.proofs.laws.machines_run_so.Goals as goal

pub returns : goal.returns
returns g c = λ set code words input rack decoder n way.
    let start = lanes_at_start set 0 words in
    let book = g.R.Rack.book_of rack in
    let lanes = g.met.R.Rack.lanes_under_way rack start [] way ∙ lanes_after_all-none book start in
    ap (λ (ls : List LaneState). run_shown (nearest (radius set) None set) book set code n (control_at_start input) ls) lanes
