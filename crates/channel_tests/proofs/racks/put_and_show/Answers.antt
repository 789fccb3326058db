use Rattle.std.proofs.Common.{◌≡◌, ◌<◌, ◌^◌, List, [], ◌∷◌, All, sym, subst, arith}
use Rattle.std.proofs.lemmas.List.Elements.{All-map, All-weaker}
use Rattle.channel_alu.specs.declared.operation.MicroOp.{MicroOp}
use Rattle.fault_book.specs.Book.{Book}
use Rattle.channel_lane.specs.Lane.{LaneState, lane_after}
use Rattle.channel_lane.proofs.LaneLemmas.{answers-after_all}
use Rattle.lane_bank.specs.Bank.{lanes_after}
use Rattle.channel_scheduler.specs.Rack.{HasRoom}
use Rattle.channel_tests.proofs.racks.put_and_show.Goals as goal

pub issue-requires-clause-room : goal.issue-requires-clause-room
issue-requires-clause-room g c =
    All-weaker (λ lane. lane.answers < 10 ^ 17) (λ lane. lane.answers < 10 ^ 18) (λ lane h. omega arith) (g.R.Rack.lanes_of c.args.rack.now) c.requires

room_after : (book : Book) (op : MicroOp) (lanes after : List LaneState) → after ≡ lanes_after book op lanes → All (λ lane. lane.answers < 10 ^ 17) lanes → HasRoom after
room_after book op lanes after e few =
    subst HasRoom (sym e)
    (All-map (λ lane. lane.answers < 10 ^ 18) (lane_after book op) lanes
    (All-weaker (λ lane. lane.answers < 10 ^ 17) (λ lane. (lane_after book op lane).answers < 10 ^ 18)
    (λ lane h. omega (arith, answers-after_all book (op ∷ []) lane)) lanes few))

pub show-column-requires-clause-room : goal.show-column-requires-clause-room
show-column-requires-clause-room g c = room_after _ _ _ _ c.issue.ensures.lanes c.requires
