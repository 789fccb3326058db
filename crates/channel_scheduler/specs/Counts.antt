-- Turns, as counts alone: how many operations are issued, and how many each channel has performed.
use Rattle.std.specs.Prelude.{◌≡◌, ℕ, zero, suc, ◌+◌, ◌-◌, ◌%◌, ◌==◌, nat_lt, Bool, false, not, ◌&&◌, List, [], ◌∷◌, ◌++◌, All, length, take, drop, replicate, slice_index, slice_index_or, slice_set, if◌then◌else◌}
use Rattle.std.specs.List.{list_any}
use Rattle.channel_alu.specs.declared.operation.MicroOp.{MicroOp}
use Rattle.fault_book.specs.declared.schedule.Turn.{Turn}
use Rattle.fault_book.specs.declared.schedule.Turn.TheVariants.{Control, Lane}
use Rattle.channel_lane.specs.Meaning.{is_show}

-- how many operations are issued, how many each channel has performed, and what was performed, in order: the
-- channel and the number of the operation
pub record Standing : Type 0 where
  pub issued : ℕ
  pub performed : List ℕ
  pub journal : List (ℕ × ℕ)

-- before the first turn
abbrev pub no_turn : ℕ → Standing
no_turn channels = record { issued = 0; performed = replicate channels 0; journal = [] }

-- how many operations a channel has performed
abbrev pub performed_by : Standing → ℕ → ℕ
performed_by t channel = slice_index t.performed channel

-- the operations that are issued and that a channel, which has performed `done`, has not performed
abbrev pub backlog : List MicroOp → ℕ → ℕ → List MicroOp
backlog ops issued done = drop done (take issued ops)

-- some channel's backlog is 8
abbrev pub is_blocked : Standing → Bool
is_blocked t = list_any (λ done. (t.issued - done) == 8) t.performed

-- a Show is issued that some channel has not performed
abbrev pub is_open : List MicroOp → Standing → Bool
is_open ops t = list_any (λ done. list_any is_show (backlog ops t.issued done)) t.performed

abbrev pub can_issue : List MicroOp → Standing → Bool
can_issue ops t = nat_lt t.issued (length ops) && (not (is_blocked t) && not (is_open ops t))

abbrev pub after_issue : Standing → Standing
after_issue t = record t { issued = t.issued + 1 }

abbrev pub after_performing : Standing → ℕ → Standing
after_performing t channel = record t {
  performed = slice_set t.performed channel (performed_by t channel + 1);
  journal = t.journal ++ (channel, performed_by t channel) ∷ [];
}

-- a turn
unfoldable pub after_turn : List MicroOp → Standing → Turn → Standing
after_turn ops t Control = if can_issue ops t then after_issue t else t
after_turn ops t (Lane channel) = if nat_lt (performed_by t channel) t.issued then after_performing t channel else t

-- the turns of a round: control, and then each channel
abbrev pub turn_of_round : ℕ → Turn
turn_of_round place = if place == 0 then Control else Lane (place - 1)

-- turn number n: the schedule's, and after them rounds without end
abbrev pub turn_at : List Turn → ℕ → ℕ → Turn
turn_at schedule channels n =
    if nat_lt n (length schedule) then slice_index_or schedule n Control
    else turn_of_round ((n - length schedule) % (channels + 1))

-- after the first n turns
abbrev pub after_turns : List MicroOp → List Turn → ℕ → ℕ → Standing
after_turns ops schedule channels zero = no_turn channels
after_turns ops schedule channels (suc n) = after_turn ops (after_turns ops schedule channels n) (turn_at schedule channels n)

-- every operation is issued, and no Show is open
abbrev pub HasIssued : List MicroOp → Standing → Type 0
HasIssued ops t = (t.issued ≡ length ops) × (is_open ops t ≡ false)

-- every operation is issued and performed
abbrev pub HasPerformed : List MicroOp → Standing → Type 0
HasPerformed ops t = (t.issued ≡ length ops) × All (λ done. done ≡ length ops) t.performed
