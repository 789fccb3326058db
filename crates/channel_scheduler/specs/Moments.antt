-- How far a rack with queues has come in a run.
use Rattle.std.specs.Prelude.{◌≡◌, ℕ, ◌+◌, ◌-◌, ◌%◌, ◌<◌, min, List, All, map, length, take, slice_index_or}
use Rattle.channel_alu.specs.declared.operation.MicroOp.{MicroOp}
use Rattle.channel_alu.specs.declared.operation.MicroOp.TheVariants.{Show}
use Rattle.channel_alu.specs.declared.operation.Place.TheVariants.{Reg}
use Rattle.fault_book.specs.Book.{Book}
use Rattle.fault_book.specs.Turns.{IsTurnOf}
use Rattle.channel_lane.specs.Lane.{LaneState, answer_of, lane_after_all}
use Rattle.lane_bank.specs.Bank.{lane_at}
use Rattle.channel_scheduler.specs.declared.entry.Entry.{Entry}
use Rattle.channel_scheduler.specs.Counts.{Standing, performed_by, backlog, after_turns, HasIssued, HasPerformed}
use Rattle.channel_scheduler.specs.Channels.{ChannelState, queue_at, caught_up}
use Rattle.lane_bank.specs.Bank.{lanes_after_all}
use Rattle.fault_book.specs.declared.schedule.Turn.{Turn}

-- operation number n of a list; what stands past its end is of no matter
abbrev pub operation_at : List MicroOp → ℕ → MicroOp
operation_at ops n = slice_index_or ops n (Show (Reg 0))

-- a channel's lane after the first operations of a list
abbrev pub lane_by : Book → List LaneState → List MicroOp → ℕ → ℕ → LaneState
lane_by book start ops channel done = lane_after_all book (take done ops) (lane_at start channel)

-- the journal's entry for what a channel has performed
abbrev pub entry_of : Book → List LaneState → List MicroOp → ℕ × ℕ → Entry
entry_of book start ops e = record {
  channel = e.0;
  number = e.1;
  answer = answer_of book (operation_at ops e.1) (lane_by book start ops e.0 e.1);
}

-- the lanes, the queues and the journal are those of the counts t
pub record Holds (book : Book) (start : List LaneState) (ops : List MicroOp) (t : Standing) (s : ChannelState) : Type 0 where
  pub fresh : All (λ lane. lane.answers ≡ 0) start
  pub turns : All (IsTurnOf (length start)) s.schedule
  pub lanes_count : length s.lanes ≡ length start
  pub queues_count : length s.queues ≡ length start
  pub lanes : (i : ℕ) → i < length start → lane_at s.lanes i ≡ lane_by book start ops i (performed_by t i)
  pub queues : (i : ℕ) → i < length start → queue_at s.queues i ≡ backlog ops t.issued (performed_by t i)
  pub journal : s.journal.entries ≡ take s.journal.room (map (entry_of book start ops) t.journal)

-- n turns of the schedule, and of the rounds after it, are used
pub record HasUsed (schedule : List Turn) (channels n : ℕ) (s : ChannelState) : Type 0 where
  pub schedule_is : s.schedule ≡ schedule
  pub used : s.used ≡ min n (length schedule)
  pub round : s.round ≡ (n - length schedule) % (channels + 1)

-- the channels stand where n turns bring them
pub record StandsAt (book : Book) (schedule : List Turn) (start : List LaneState) (ops : List MicroOp) (n : ℕ) (s : ChannelState) : Type 0 where
  pub holds : Holds book start ops (after_turns ops schedule (length start) n) s
  pub uses : HasUsed schedule (length start) n s

-- n is the first number of turns after which something is so
abbrev pub IsFirst : (Standing → Type 0) → List Turn → ℕ → List MicroOp → ℕ → Type 0
IsFirst P schedule channels ops n =
    P (after_turns ops schedule channels n) × ((k : ℕ) → k < n → P (after_turns ops schedule channels k) → ⊥)

-- the channels stand where something is so for the first time
abbrev pub IsMoment : (Standing → Type 0) → Book → ChannelState → List LaneState → List MicroOp → Type 0
IsMoment P book s start ops =
    (n : ℕ) × StandsAt book s.schedule start ops n s × IsFirst P s.schedule (length start) ops n

pub record IsUnderWay (book : Book) (s : ChannelState) (start : List LaneState) (ops : List MicroOp) : Type 0 where
  pub lanes : caught_up book s.lanes s.queues ≡ lanes_after_all book ops start
  pub moment : IsMoment (HasIssued ops) book s start ops

pub record HasEnded (book : Book) (s : ChannelState) (start : List LaneState) (ops : List MicroOp) : Type 0 where
  pub lanes : caught_up book s.lanes s.queues ≡ lanes_after_all book ops start
  pub moment : IsMoment (HasPerformed ops) book s start ops

-- these are the first entries of the journal, at the moment at which P holds first. The plan is the schedule, and how
-- many entries are kept
abbrev pub JournalIs : (Standing → Type 0) → List Turn × ℕ → Book → List LaneState → List MicroOp → List Entry → Type 0
JournalIs P plan book start ops entries =
    (n : ℕ) × IsFirst P plan.0 (length start) ops n × (entries ≡ take plan.1 (map (entry_of book start ops) (after_turns ops plan.0 (length start) n).journal))

-- each lane is that after the operations that its channel has performed at that moment
abbrev pub LanesAre : (Standing → Type 0) → List Turn × ℕ → Book → List LaneState → List MicroOp → List LaneState → Type 0
LanesAre P plan book start ops lanes =
    (n : ℕ) × IsFirst P plan.0 (length start) ops n
    × ((i : ℕ) → i < length start → lane_at lanes i ≡ lane_by book start ops i (performed_by (after_turns ops plan.0 (length start) n) i))
