use Rattle.std.proofs.Common.{◌≡◌, ◌≤◌, ◌-◌, length, map}
use Rattle.std.specs.List.{range_with_len}
use Rattle.moduli_sets.specs.Moduli.{set_of}
use Rattle.channel_lane.specs.Lane.{lane_at_start}
use Rattle.lane_bank.proofs.any.AnyBankBank.make.Given as goal

-- the lanes so far are those of the channels from the first one on
abbrev pub invariant-loop-channel : goal.invariant-loop-channel
invariant-loop-channel l =
    let set = set_of l.set in
    record {
      lanes : l.lanes.items ≡ map (lane_at_start set l.start) (range_with_len l.first (l.channel - l.first));
      within : l.channel - l.first ≤ length set.moduli - l.first;
    }
