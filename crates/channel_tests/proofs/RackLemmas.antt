-- How often lanes have answered.
use Rattle.std.proofs.Common.{◌≡◌, ◌<◌, ◌≤◌, ◌+◌, ◌^◌, ℕ, List, [], ◌∷◌, All, subst, sym, arith}
use Rattle.std.proofs.lemmas.List.Elements.{All-map, All-weaker}
use Rattle.channel_alu.specs.declared.operation.MicroOp.{MicroOp}
use Rattle.fault_book.specs.Book.{Book}
use Rattle.channel_lane.specs.Lane.{LaneState, lane_after}
use Rattle.channel_lane.proofs.LaneLemmas.{answers-after_all}
use Rattle.lane_bank.specs.Bank.{lanes_after}
use Rattle.channel_scheduler.specs.Rack.{HasRoom}

pub few_room : (n : ℕ) (lanes : List LaneState) → n < 2 ^ 32 → All (λ lane. lane.answers ≤ n) lanes → HasRoom lanes
few_room n lanes few h = All-weaker (λ lane. lane.answers ≤ n) (λ lane. lane.answers < 10 ^ 18) (λ lane k. omega (arith, few)) lanes h

pub few_after : (book : Book) (op : MicroOp) (n : ℕ) (lanes after : List LaneState) → after ≡ lanes_after book op lanes → All (λ lane. lane.answers ≤ n) lanes → All (λ lane. lane.answers ≤ n + 1) after
few_after book op n lanes after e few =
    subst (All (λ lane. lane.answers ≤ n + 1)) (sym e)
    (All-map (λ lane. lane.answers ≤ n + 1) (lane_after book op) lanes
    (All-weaker (λ lane. lane.answers ≤ n) (λ lane. (lane_after book op lane).answers ≤ n + 1)
    (λ lane h. omega (arith, answers-after_all book (op ∷ []) lane)) lanes few))
