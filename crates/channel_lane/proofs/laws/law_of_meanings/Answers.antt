use Rattle.channel_lane.proofs.LaneLemmas.{IsLane-at_start, IsLane-after}
use Rattle.channel_lane.proofs.MeaningLemmas.{value-meaning, HoldsResidues-at_start, HoldsResidues-after}
use Rattle.channel_lane.proofs.laws.law_of_meanings.Goals as goal

pub returns-clause-new : goal.returns-clause-new
returns-clause-new c = IsLane-at_start

pub returns-clause-start : goal.returns-clause-start
returns-clause-start c = HoldsResidues-at_start

pub returns-clause-lane : goal.returns-clause-lane
returns-clause-lane c = IsLane-after

pub returns-clause-value : goal.returns-clause-value
returns-clause-value c = value-meaning

pub returns-clause-after : goal.returns-clause-after
returns-clause-after c = HoldsResidues-after
