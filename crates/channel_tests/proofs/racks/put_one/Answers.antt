use Rattle.std.proofs.Common.{arith}
use Rattle.channel_tests.proofs.RackLemmas.{few_room, few_after}
use Rattle.channel_tests.proofs.racks.put_one.Goals as goal

pub issue-requires-clause-room : goal.issue-requires-clause-room
issue-requires-clause-room g c = few_room c.args.before (g.R.Rack.lanes_of c.args.rack.now) (omega (arith, c.ranges.before)) c.requires

pub returns : goal.returns
returns g c = few_after _ _ c.args.before _ _ c.issue.ensures.lanes c.requires
