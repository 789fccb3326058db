-- Worked rows: the journals of turns as counts, in the order in which channels perform. They were worked out by hand.
use Rattle.std.specs.Prelude.{◌≡◌, refl, ℕ, pos, List, [], ◌∷◌, ◌++◌, replicate}
use Rattle.channel_alu.specs.declared.operation.MicroOp.{MicroOp}
use Rattle.channel_alu.specs.declared.operation.MicroOp.TheVariants.{Put, Show}
use Rattle.channel_alu.specs.declared.operation.Place.TheVariants.{Reg}
use Rattle.fault_book.specs.declared.schedule.Turn.{Turn}
use Rattle.fault_book.specs.declared.schedule.Turn.TheVariants.{Control, Lane}
use Rattle.channel_scheduler.specs.Counts.{after_turn, after_turns}

-- the channel and the number of what five channels have performed after n turns
abbrev journal : List MicroOp → List Turn → ℕ → List (ℕ × ℕ)
journal ops schedule n = (after_turns ops schedule 5 n).journal

abbrev put_one : MicroOp
put_one = Put (Reg 0) (pos 1)

-- the operations of `print 1;`
abbrev print_one : List MicroOp
print_one = put_one ∷ Show (Reg 0) ∷ []

-- in rounds alone
by_rounds : journal print_one [] 12 ≡ (0, 0) ∷ (1, 0) ∷ (2, 0) ∷ (3, 0) ∷ (4, 0) ∷ (0, 1) ∷ (1, 1) ∷ (2, 1) ∷ (3, 1) ∷ (4, 1) ∷ []
unfolding after_turn
by_rounds = refl

-- the third 4 finds nothing to do, and so does the C of each round
last_channel_first : journal print_one (Control ∷ Control ∷ Lane 4 ∷ Lane 4 ∷ Lane 4 ∷ Lane 0 ∷ []) 17 ≡ (4, 0) ∷ (4, 1) ∷ (0, 0) ∷ (0, 1) ∷ (1, 0) ∷ (2, 0) ∷ (3, 0) ∷ (1, 1) ∷ (2, 1) ∷ (3, 1) ∷ []
unfolding after_turn
last_channel_first = refl

backwards : journal print_one (Control ∷ Control ∷ Lane 4 ∷ Lane 3 ∷ Lane 2 ∷ Lane 1 ∷ Lane 0 ∷ []) 13 ≡ (4, 0) ∷ (3, 0) ∷ (2, 0) ∷ (1, 0) ∷ (0, 0) ∷ (0, 1) ∷ (1, 1) ∷ (2, 1) ∷ (3, 1) ∷ (4, 1) ∷ []
unfolding after_turn
backwards = refl

-- A Show before a Put. The second C finds the Show open and the second 0 nothing to do, and so do both in the first round.
open_show : journal (Show (Reg 0) ∷ put_one ∷ []) (Control ∷ Control ∷ Lane 0 ∷ Lane 0 ∷ []) 16 ≡ (0, 0) ∷ (1, 0) ∷ (2, 0) ∷ (3, 0) ∷ (4, 0) ∷ (0, 1) ∷ (1, 1) ∷ (2, 1) ∷ (3, 1) ∷ (4, 1) ∷ []
unfolding after_turn
open_show = refl

-- Nine puts and a Show, by nine turns of control and nine of channel 0. The ninth C finds every backlog at 8, and the
-- ninth 0 nothing to do. Channels 1 to 4 hold control up in the first round; the second issues operation 8, the third
-- the Show, and the other rounds serve the four channels.
full_queues : journal (replicate 9 put_one ++ Show (Reg 0) ∷ []) (replicate 9 Control ++ replicate 9 (Lane 0)) 78
    ≡ (0, 0) ∷ (0, 1) ∷ (0, 2) ∷ (0, 3) ∷ (0, 4) ∷ (0, 5) ∷ (0, 6) ∷ (0, 7)
    ∷ (1, 0) ∷ (2, 0) ∷ (3, 0) ∷ (4, 0)
    ∷ (0, 8) ∷ (1, 1) ∷ (2, 1) ∷ (3, 1) ∷ (4, 1)
    ∷ (0, 9) ∷ (1, 2) ∷ (2, 2) ∷ (3, 2) ∷ (4, 2)
    ∷ (1, 3) ∷ (2, 3) ∷ (3, 3) ∷ (4, 3)
    ∷ (1, 4) ∷ (2, 4) ∷ (3, 4) ∷ (4, 4)
    ∷ (1, 5) ∷ (2, 5) ∷ (3, 5) ∷ (4, 5)
    ∷ (1, 6) ∷ (2, 6) ∷ (3, 6) ∷ (4, 6)
    ∷ (1, 7) ∷ (2, 7) ∷ (3, 7) ∷ (4, 7)
    ∷ (1, 8) ∷ (2, 8) ∷ (3, 8) ∷ (4, 8)
    ∷ (1, 9) ∷ (2, 9) ∷ (3, 9) ∷ (4, 9) ∷ []
unfolding after_turn
full_queues = refl
