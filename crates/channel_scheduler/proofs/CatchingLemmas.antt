-- What the lanes and their last answers are, once each lane has performed what waits for it.
use Rattle.std.proofs.Common.{◌≡◌, ℕ, zero, suc, ◌<◌, Bool, false, not, eqb, List, [], ◌∷◌, ◌++◌, map, length, refl, sym, ap, ◌∙◌, arith}
use Rattle.std.specs.List.{list_any}
use Rattle.std.proofs.Math.ListN.{set}
use Rattle.std.proofs.lemmas.List.{length-set}
use Rattle.std.proofs.lemmas.Bool.{or_parts, not-false, eqb-true}
use Rattle.channel_alu.specs.declared.operation.MicroOp.{MicroOp}
use Rattle.fault_book.specs.Book.{Book}
use Rattle.channel_lane.specs.Lane.{LaneState, answer_of, lane_after, lane_after_all}
use Rattle.channel_lane.proofs.LaneLemmas.{after_all-parts}
use Rattle.lane_bank.specs.Bank.{lane_at}
use Rattle.fault_book.specs.declared.schedule.Turn.{Turn}
use Rattle.fault_book.specs.declared.schedule.Turn.TheVariants.{Control, Lane}
use Rattle.channel_scheduler.specs.Channels.{ChannelState, queue_at, next_turn, performed, performed_from, by_turn, passed, passes, caught_up, last_answer, last_answers}

-- something waits in one of the queues
abbrev pub waits : List (List MicroOp) → Bool
waits queues = list_any (λ queue. not (eqb (length queue) 0)) queues

-- what does not wait is nothing
pub none_waits : (op : MicroOp) (ops : List MicroOp) (queues : List (List MicroOp)) → waits ((op ∷ ops) ∷ queues) ≡ false → ⊥
none_waits op ops queues h =
    let parts = or_parts (not (eqb (suc (length ops)) 0)) (waits queues) h in
    let same : suc (length ops) ≡ 0 = eqb-true (suc (length ops)) 0 (not-false (eqb (suc (length ops)) 0) parts.0) in
    omega arith

-- ---- lanes
pub length-caught_up : (book : Book) (lanes : List LaneState) (queues : List (List MicroOp)) → length (caught_up book lanes queues) ≡ length lanes
length-caught_up book [] queues = refl
length-caught_up book (lane ∷ lanes) [] = ap suc (length-caught_up book lanes [])
length-caught_up book (lane ∷ lanes) (queue ∷ queues) = ap suc (length-caught_up book lanes queues)

pub caught_up-at : (book : Book) (lanes : List LaneState) (queues : List (List MicroOp)) (i : ℕ) → i < length lanes → lane_at (caught_up book lanes queues) i ≡ lane_after_all book (queue_at queues i) (lane_at lanes i)
caught_up-at book [] queues i h = absurd (omega arith)
caught_up-at book (lane ∷ lanes) [] zero h = refl
caught_up-at book (lane ∷ lanes) [] (suc i) h = caught_up-at book lanes [] i (omega arith)
caught_up-at book (lane ∷ lanes) (queue ∷ queues) zero h = refl
caught_up-at book (lane ∷ lanes) (queue ∷ queues) (suc i) h = caught_up-at book lanes queues i (omega arith)

pub caught_up-first : (book : Book) (lanes : List LaneState) (queues : List (List MicroOp)) (i : ℕ) (op : MicroOp) (rest : List MicroOp) → queue_at queues i ≡ op ∷ rest → caught_up book (set lanes i (lane_after book op (lane_at lanes i))) (set queues i rest) ≡ caught_up book lanes queues
caught_up-first book [] queues i op rest h = refl
caught_up-first book (lane ∷ lanes) [] i op rest h = cc
caught_up-first book (lane ∷ lanes) (queue ∷ queues) zero op rest h =
    ap (λ q. lane_after_all book q lane ∷ caught_up book lanes queues) (sym h)
caught_up-first book (lane ∷ lanes) (queue ∷ queues) (suc i) op rest h =
    ap (λ ls. lane_after_all book queue lane ∷ ls) (caught_up-first book lanes queues i op rest h)

pub caught_up-issued : (book : Book) (lanes : List LaneState) (queues : List (List MicroOp)) (op : MicroOp) → length queues ≡ length lanes → caught_up book lanes (map (λ queue. queue ++ op ∷ []) queues) ≡ map (lane_after book op) (caught_up book lanes queues)
caught_up-issued book [] queues op h = refl
caught_up-issued book (lane ∷ lanes) [] op h = absurd (omega arith)
caught_up-issued book (lane ∷ lanes) (queue ∷ queues) op h =
    ap (λ l. l ∷ caught_up book lanes (map (λ queue. queue ++ op ∷ []) queues)) (after_all-parts book queue (op ∷ []) lane)
    ∙ ap (λ ls. lane_after book op (lane_after_all book queue lane) ∷ ls) (caught_up-issued book lanes queues op (omega arith))

pub caught_up-settled : (book : Book) (lanes : List LaneState) (queues : List (List MicroOp)) → waits queues ≡ false → caught_up book lanes queues ≡ lanes
caught_up-settled book [] queues h = refl
caught_up-settled book (lane ∷ lanes) [] h = ap (λ ls. lane ∷ ls) (caught_up-settled book lanes [] refl)
caught_up-settled book (lane ∷ lanes) ([] ∷ queues) h = ap (λ ls. lane ∷ ls) (caught_up-settled book lanes queues h)
caught_up-settled book (lane ∷ lanes) ((op ∷ ops) ∷ queues) h = absurd (none_waits op ops queues h)

-- ---- last answers
pub last_answers-first : (book : Book) (lanes : List LaneState) (queues : List (List MicroOp)) (column : List ℕ) (i : ℕ) (op : MicroOp) (rest : List MicroOp) → queue_at queues i ≡ op ∷ rest → last_answers book (set lanes i (lane_after book op (lane_at lanes i))) (set queues i rest) (set column i (answer_of book op (lane_at lanes i))) ≡ last_answers book lanes queues column
last_answers-first book [] queues column i op rest h = refl
last_answers-first book (lane ∷ lanes) [] column i op rest h = cc
last_answers-first book (lane ∷ lanes) (queue ∷ queues) [] zero op rest h = refl
last_answers-first book (lane ∷ lanes) (queue ∷ queues) [] (suc i) op rest h = refl
last_answers-first book (lane ∷ lanes) (queue ∷ queues) (last ∷ column) zero op rest h =
    ap (λ q. last_answer book q lane last ∷ last_answers book lanes queues column) (sym h)
last_answers-first book (lane ∷ lanes) (queue ∷ queues) (last ∷ column) (suc i) op rest h =
    ap (λ xs. last_answer book queue lane last ∷ xs) (last_answers-first book lanes queues column i op rest h)

last_answer-push : (book : Book) (queue : List MicroOp) (op : MicroOp) (lane : LaneState) (last : ℕ) → last_answer book (queue ++ op ∷ []) lane last ≡ answer_of book op (lane_after_all book queue lane)
last_answer-push book [] op lane last = refl
last_answer-push book (first ∷ queue) op lane last = last_answer-push book queue op (lane_after book first lane) (answer_of book first lane)

pub last_answers-issued : (book : Book) (lanes : List LaneState) (queues : List (List MicroOp)) (column : List ℕ) (op : MicroOp) → length queues ≡ length lanes → length column ≡ length lanes → last_answers book lanes (map (λ queue. queue ++ op ∷ []) queues) column ≡ map (answer_of book op) (caught_up book lanes queues)
last_answers-issued book [] queues column op h k = refl
last_answers-issued book (lane ∷ lanes) [] column op h k = absurd (omega arith)
last_answers-issued book (lane ∷ lanes) (queue ∷ queues) [] op h k = absurd (omega arith)
last_answers-issued book (lane ∷ lanes) (queue ∷ queues) (last ∷ column) op h k =
    ap (λ x. x ∷ last_answers book lanes (map (λ queue. queue ++ op ∷ []) queues) column) (last_answer-push book queue op lane last)
    ∙ ap (λ xs. answer_of book op (lane_after_all book queue lane) ∷ xs) (last_answers-issued book lanes queues column op (omega arith) (omega arith))

pub last_answers-settled : (book : Book) (lanes : List LaneState) (queues : List (List MicroOp)) (column : List ℕ) → length queues ≡ length lanes → length column ≡ length lanes → waits queues ≡ false → last_answers book lanes queues column ≡ column
last_answers-settled book [] queues [] h k w = refl
last_answers-settled book [] queues (last ∷ column) h k w = absurd (omega arith)
last_answers-settled book (lane ∷ lanes) [] column h k w = absurd (omega arith)
last_answers-settled book (lane ∷ lanes) (queue ∷ queues) [] h k w = absurd (omega arith)
last_answers-settled book (lane ∷ lanes) ([] ∷ queues) (last ∷ column) h k w =
    ap (λ xs. last ∷ xs) (last_answers-settled book lanes queues column (omega arith) (omega arith) w)
last_answers-settled book (lane ∷ lanes) ((op ∷ ops) ∷ queues) (last ∷ column) h k w = absurd (none_waits op ops queues w)

-- ---- turns that issue nothing
-- what turns that issue nothing leave as it is
pub record Keeps (book : Book) (before after : ChannelState) : Type 0 where
  pub lanes : caught_up book after.lanes after.queues ≡ caught_up book before.lanes before.queues
  pub column : last_answers book after.lanes after.queues after.column ≡ last_answers book before.lanes before.queues before.column
  pub lanes_count : length after.lanes ≡ length before.lanes
  pub queues_count : length after.queues ≡ length before.queues
  pub schedule : after.schedule ≡ before.schedule
  pub room : after.journal.room ≡ before.journal.room

Keeps-from : (book : Book) (s : ChannelState) (i : ℕ) (queue : List MicroOp) → queue_at s.queues i ≡ queue → Keeps book s (performed_from book s i queue)
Keeps-from book s i [] e = record { lanes = refl; column = refl; lanes_count = refl; queues_count = refl; schedule = refl; room = refl }
Keeps-from book s i (op ∷ rest) e = record {
  lanes = caught_up-first book s.lanes s.queues i op rest e;
  column = last_answers-first book s.lanes s.queues s.column i op rest e;
  lanes_count = length-set s.lanes i _;
  queues_count = length-set s.queues i _;
  schedule = refl;
  room = refl;
}

Keeps-performed : (book : Book) (s : ChannelState) (i : ℕ) → Keeps book s (performed book s i)
unfolding performed
Keeps-performed book s i = Keeps-from book s i (queue_at s.queues i) refl

-- a channel's turn leaves the place among the turns
place-from : (book : Book) (s : ChannelState) (i : ℕ) (queue : List MicroOp) → let after = performed_from book s i queue in (after.schedule ≡ s.schedule) × (after.used ≡ s.used) × (after.round ≡ s.round)
place-from book s i [] = (refl, refl, refl)
place-from book s i (op ∷ rest) = (refl, refl, refl)

pub Place-performed : (book : Book) (s : ChannelState) (i : ℕ) → let after = performed book s i in (after.schedule ≡ s.schedule) × (after.used ≡ s.used) × (after.round ≡ s.round)
unfolding performed
Place-performed book s i = place-from book s i (queue_at s.queues i)

pub Keeps-by : (book : Book) (s : ChannelState) (turn : Turn) → Keeps book s (by_turn book s turn)
Keeps-by book s Control = record { lanes = refl; column = refl; lanes_count = refl; queues_count = refl; schedule = refl; room = refl }
Keeps-by book s (Lane i) = Keeps-performed book s i

pub Keeps-passed : (book : Book) (s : ChannelState) → Keeps book s (passed book s)
Keeps-passed book s =
    let k = Keeps-by book s (next_turn s) in
    record { lanes = k.lanes; column = k.column; lanes_count = k.lanes_count; queues_count = k.queues_count; schedule = k.schedule; room = k.room }

pub Keeps-passes : (book : Book) (k : ℕ) (s : ChannelState) → Keeps book s (passes book k s)
Keeps-passes book zero s = record { lanes = refl; column = refl; lanes_count = refl; queues_count = refl; schedule = refl; room = refl }
Keeps-passes book (suc k) s =
    let before = Keeps-passes book k s in
    let last = Keeps-passed book (passes book k s) in
    record {
      lanes = last.lanes ∙ before.lanes;
      column = last.column ∙ before.column;
      lanes_count = last.lanes_count ∙ before.lanes_count;
      queues_count = last.queues_count ∙ before.queues_count;
      schedule = last.schedule ∙ before.schedule;
      room = last.room ∙ before.room;
    }

pub Place-by : (book : Book) (s : ChannelState) (turn : Turn) → let after = by_turn book s turn in (after.schedule ≡ s.schedule) × (after.used ≡ s.used) × (after.round ≡ s.round)
Place-by book s Control = (refl, refl, refl)
Place-by book s (Lane i) = Place-performed book s i
