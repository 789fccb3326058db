use Rattle.std.proofs.Common.{arith}
use Rattle.channel_tests.proofs.RackLemmas.{few_room}
use Rattle.channel_tests.proofs.racks.show_after.Goals as goal

pub show-requires-clause-room : goal.show-requires-clause-room
show-requires-clause-room g c = few_room c.args.before (g.R.Rack.lanes_of c.args.rack.now) (omega (arith, c.ranges.before)) c.requires
