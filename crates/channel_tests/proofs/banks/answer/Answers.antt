use Rattle.std.proofs.Common.{length}
use Rattle.lane_bank.specs.Bank.{lane_at}
use Rattle.channel_tests.proofs.banks.answer.Goals as goal

pub perform-requires-clause-can : goal.perform-requires-clause-can
perform-requires-clause-can g c =
    let lane = lane_at (g.B.Bank.lanes_of c.args.bank.now) c.args.i in
    c.requires (length lane.words) (length lane.set.moduli)
