-- The channels with what waits for each, and what turns make of them.
use Rattle.std.specs.Prelude.{◌≡◌, ℕ, zero, suc, ◌+◌, ◌-◌, ◌<◌, ◌≤◌, ◌^◌, ◌==◌, nat_lt, Bool, true, false, not, ◌||◌, List, [], ◌∷◌, ◌++◌, All, map, length, replicate, slice_index_or, slice_set, if◌then◌else◌}
use Rattle.std.specs.List.{list_any}
use Rattle.channel_alu.specs.declared.operation.MicroOp.{MicroOp}
use Rattle.fault_book.specs.Book.{Book}
use Rattle.fault_book.specs.Turns.{IsTurnOf}
use Rattle.channel_lane.specs.Meaning.{CanPerform}
use Rattle.channel_lane.specs.Lane.{LaneState, answer_of, lane_after, lane_after_all}
use Rattle.lane_bank.specs.Bank.{lane_at}
use Rattle.fault_book.specs.declared.schedule.Turn.{Turn}
use Rattle.fault_book.specs.declared.schedule.Turn.TheVariants.{Control, Lane}
use Rattle.channel_scheduler.specs.Kept.{KeptJournal, noted}

-- the lanes as they are now, the queue and the last answer of each, the journal, and the place among the turns
pub record ChannelState : Type 0 where
  pub lanes : List LaneState
  pub queues : List (List MicroOp)
  pub column : List ℕ
  pub journal : KeptJournal
  pub schedule : List Turn
  pub used : ℕ
  pub round : ℕ

abbrev pub channel_state : List LaneState → List (List MicroOp) → List ℕ → KeptJournal → List Turn → ℕ → ℕ → ChannelState
channel_state lanes queues column journal schedule used round =
    record { lanes = lanes; queues = queues; column = column; journal = journal; schedule = schedule; used = used; round = round }

abbrev pub no_operations : List MicroOp
no_operations = []

-- what waits for channel i
abbrev pub queue_at : List (List MicroOp) → ℕ → List MicroOp
queue_at queues i = slice_index_or queues i no_operations

-- ---- what is kept true
-- the places of the operation are there in the lane, and so is the channel by whose modulus it divides
abbrev pub IsAble : LaneState → MicroOp → Type 0
IsAble lane op = CanPerform (length lane.words) (length lane.set.moduli) op

-- a lane can perform what waits for it
pub record IsReady (lane : LaneState) (queue : List MicroOp) : Type 0 where
  pub can : All (IsAble lane) queue
  pub few : lane.answers + length queue ≤ 10 ^ 18
  pub short : length queue ≤ 8

pub record IsKept (s : ChannelState) : Type 0 where
  pub at_most_twelve : length s.lanes ≤ 12
  pub queues_count : length s.queues ≡ length s.lanes
  pub column_count : length s.column ≡ length s.lanes
  pub ready : (i : ℕ) → i < length s.lanes → IsReady (lane_at s.lanes i) (queue_at s.queues i)
  pub turns : All (IsTurnOf (length s.lanes)) s.schedule
  pub used_in : s.used ≤ length s.schedule
  pub round_in : s.round ≤ length s.lanes

-- ---- tests
abbrev pub is_behind : ChannelState → Bool
is_behind s = list_any (λ queue. not (length queue == 0)) s.queues

abbrev pub is_blocked : ChannelState → Bool
is_blocked s = list_any (λ queue. length queue == 8) s.queues

-- ---- turns
abbrev pub new_channels : List LaneState → List Turn → Bool → ChannelState
new_channels lanes schedule keep =
    channel_state lanes (replicate (length lanes) []) (replicate (length lanes) 0) (record { room = if keep then 100000 else 0; entries = [] }) schedule 0 0

abbrev pub turn_from : List Turn → ℕ → ℕ → Turn
turn_from schedule used round =
    if nat_lt used (length schedule) then slice_index_or schedule used Control
    else if round == 0 then Control else Lane (round - 1)

-- the next turn
abbrev pub next_turn : ChannelState → Turn
next_turn s = turn_from s.schedule s.used s.round

abbrev pub is_control : Turn → Bool
is_control Control = true
is_control (Lane i) = false

-- no operation can be issued by the next turn
abbrev pub must_wait : ChannelState → Bool
must_wait s = not (is_control (next_turn s)) || is_blocked s

-- with a turn more used
abbrev pub advanced : ChannelState → ChannelState
advanced s = record s {
  used = if nat_lt s.used (length s.schedule) then s.used + 1 else s.used;
  round = if nat_lt s.used (length s.schedule) then s.round else if nat_lt s.round (length s.queues) then s.round + 1 else 0;
}

abbrev pub performed_from : Book → ChannelState → ℕ → List MicroOp → ChannelState
performed_from book s i [] = s
performed_from book s i (op ∷ rest) =
    let lane = lane_at s.lanes i in
    record s {
      lanes = slice_set s.lanes i (lane_after book op lane);
      queues = slice_set s.queues i rest;
      column = slice_set s.column i (answer_of book op lane);
      journal = noted s.journal (record { channel = i; number = lane.answers; answer = answer_of book op lane });
    }

-- channel i has performed the first operation of its queue, where there is one
unfoldable pub performed : Book → ChannelState → ℕ → ChannelState
performed book s i = performed_from book s i (queue_at s.queues i)

abbrev pub by_turn : Book → ChannelState → Turn → ChannelState
by_turn book s Control = s
by_turn book s (Lane i) = performed book s i

-- after a turn that issues nothing
abbrev pub passed : Book → ChannelState → ChannelState
passed book s = advanced (by_turn book s (next_turn s))

-- after k such turns
abbrev pub passes : Book → ℕ → ChannelState → ChannelState
passes book zero s = s
passes book (suc k) s = passed book (passes book k s)

-- after a turn that issues
abbrev pub issued : MicroOp → ChannelState → ChannelState
issued op s = advanced (record s { queues = map (λ queue. queue ++ op ∷ []) s.queues })

-- turns that issue nothing, as long as the test says so
abbrev pub RunsWhile : (ChannelState → Bool) → Book → ChannelState → ChannelState → Type 0
RunsWhile test book before after =
    (k : ℕ) × (after ≡ passes book k before) × ((j : ℕ) → j < k → test (passes book j before) ≡ true)

-- ---- the meaning
-- the lanes, once each has performed what waits for it
abbrev pub caught_up : Book → List LaneState → List (List MicroOp) → List LaneState
caught_up book [] queues = []
caught_up book (lane ∷ lanes) [] = lane ∷ caught_up book lanes []
caught_up book (lane ∷ lanes) (queue ∷ queues) = lane_after_all book queue lane ∷ caught_up book lanes queues

-- the last answer of a lane, once it has performed what waits for it
abbrev pub last_answer : Book → List MicroOp → LaneState → ℕ → ℕ
last_answer book [] lane last = last
last_answer book (op ∷ ops) lane last = last_answer book ops (lane_after book op lane) (answer_of book op lane)

abbrev pub last_answers : Book → List LaneState → List (List MicroOp) → List ℕ → List ℕ
last_answers book [] queues column = []
last_answers book (lane ∷ lanes) [] column = []
last_answers book (lane ∷ lanes) (queue ∷ queues) [] = []
last_answers book (lane ∷ lanes) (queue ∷ queues) (last ∷ column) =
    last_answer book queue lane last ∷ last_answers book lanes queues column
