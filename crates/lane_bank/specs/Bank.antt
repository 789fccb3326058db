-- The lanes of a bank, in the order of their channels.
use Rattle.std.specs.Prelude.{◌≡◌, ℕ, ◌-◌, ℤ, List, [], ◌∷◌, All, map, length, slice_index_or}
use Rattle.std.specs.List.{range_with_len}
use Rattle.moduli_sets.specs.Set.{ModuliSet}
use Rattle.channel_alu.specs.declared.operation.Place.{Place}
use Rattle.channel_alu.specs.declared.operation.MicroOp.{MicroOp}
use Rattle.channel_alu.specs.declared.operation.MicroOp.TheVariants.{Show}
use Rattle.fault_book.specs.Book.{Book}
use Rattle.channel_lane.specs.Meaning.{CanPerform, HasPlace}
use Rattle.channel_lane.specs.Lane.{LaneState, answer_of, held_in, lane_after, lane_after_all, lane_at_start}

-- no lane: what stands past the end of the lanes
abbrev pub no_lane : LaneState
no_lane = record { set = record { moduli = []; info = 0 }; channel = 0; registers = []; scratch = []; words = []; answers = 0 }

-- lane number i
abbrev pub lane_at : List LaneState → ℕ → LaneState
lane_at lanes i = slice_index_or lanes i no_lane

-- the lanes of the channels of a set from number `first` on, as they are made
abbrev pub lanes_at_start : ModuliSet → ℕ → List ℤ → List LaneState
lanes_at_start set first start = map (lane_at_start set start) (range_with_len first (length set.moduli - first))

-- ---- lanes side by side
-- each lane can perform the operation
abbrev pub AllCanPerform : List LaneState → MicroOp → Type 0
AllCanPerform lanes op = All (λ lane. CanPerform (length lane.words) (length lane.set.moduli) op) lanes

-- the place is there in each lane
abbrev pub AllHavePlace : List LaneState → Place → Type 0
AllHavePlace lanes place = All (λ lane. HasPlace (length lane.words) place) lanes

-- the lanes after an operation, and after a list of them
abbrev pub lanes_after : Book → MicroOp → List LaneState → List LaneState
lanes_after book op lanes = map (lane_after book op) lanes

abbrev pub lanes_after_all : Book → List MicroOp → List LaneState → List LaneState
lanes_after_all book ops lanes = map (lane_after_all book ops) lanes

-- the answers to an operation, one of each lane
abbrev pub answers_of : Book → MicroOp → List LaneState → List ℕ
answers_of book op lanes = map (answer_of book op) lanes

-- a column: the answers to a Show of a place
abbrev pub column_of : Book → Place → List LaneState → List ℕ
column_of book place lanes = answers_of book (Show place) lanes

-- the residues that are stored in a place, one of each lane
abbrev pub stored_in : Place → List LaneState → List ℕ
stored_in place lanes = map (λ lane. held_in lane place) lanes

-- ---- chains of channels
-- the moduli begin with this one, and the rest is one that fits
abbrev pub BeginsWith : ℕ → (List ℕ → Type 0) → List ℕ → Type 0
BeginsWith modulus Fits [] = ⊥
BeginsWith modulus Fits (m ∷ moduli) = (m ≡ modulus) × Fits moduli
