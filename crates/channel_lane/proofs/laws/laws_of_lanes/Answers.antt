use Rattle.channel_lane.proofs.LaneLemmas.{set-after_all, channel-after_all, words-after_all, answers-after_all, answer-below, after_all-parts, CanPerform-after_all}
use Rattle.channel_lane.proofs.laws.laws_of_lanes.Goals as goal

pub returns-clause-set : goal.returns-clause-set
returns-clause-set c = set-after_all

pub returns-clause-channel : goal.returns-clause-channel
returns-clause-channel c = channel-after_all

pub returns-clause-words : goal.returns-clause-words
returns-clause-words c = words-after_all

pub returns-clause-answers : goal.returns-clause-answers
returns-clause-answers c = answers-after_all

pub returns-clause-residue : goal.returns-clause-residue
returns-clause-residue c = answer-below

pub returns-clause-parts : goal.returns-clause-parts
returns-clause-parts c = after_all-parts

pub returns-clause-can : goal.returns-clause-can
returns-clause-can c = CanPerform-after_all
