-- A lane: all that one channel holds, and what operations make of it. No other lane occurs in it.
use Rattle.std.specs.Prelude.{◌≡◌, ℕ, ◌+◌, ◌%◌, ◌<◌, ◌==◌, ℤ, pos, ◌-ℤ◌, ◌*ℤ◌, List, [], ◌∷◌, map, length, slice_index, slice_set, replicate, if◌then◌else◌}
use Rattle.std.specs.Option.{option_map_or}
use Rattle.number_theory.specs.Residue.{residue}
use Rattle.number_theory.specs.Coprime.{inverse_of}
use Rattle.moduli_sets.specs.Set.{ModuliSet, IsModuliSet}
use Rattle.channel_alu.specs.declared.operation.Place.{Place}
use Rattle.channel_alu.specs.declared.operation.Place.TheVariants.{Reg, Scratch, Word}
use Rattle.channel_alu.specs.declared.operation.MicroOp.{MicroOp}
use Rattle.channel_lane.specs.Meaning.{HasPlace, destination, integer_by}
use Rattle.fault_book.specs.Book.{Book, fault_at}

-- a channel of a set, the residues that it holds, and how many answers it has given
pub record LaneState : Type 0 where
  pub set : ModuliSet
  pub channel : ℕ
  pub registers : List ℕ
  pub scratch : List ℕ
  pub words : List ℕ
  pub answers : ℕ

abbrev pub modulus_of : LaneState → ℕ
modulus_of lane = slice_index lane.set.moduli lane.channel

-- ---- places
-- the residue in a place
abbrev pub held_in : LaneState → Place → ℕ
held_in lane (Reg n) = slice_index lane.registers n
held_in lane (Scratch n) = slice_index lane.scratch n
held_in lane (Word n) = slice_index lane.words n

-- the lane, with another residue in a place
abbrev pub with_held : LaneState → Place → ℕ → LaneState
with_held lane (Reg n) x = record lane { registers = slice_set lane.registers n x }
with_held lane (Scratch n) x = record lane { scratch = slice_set lane.scratch n x }
with_held lane (Word n) x = record lane { words = slice_set lane.words n x }

-- ---- operations
-- What an Unscale by channel s makes of a residue x. `take` is the number's residue by the modulus of s, so that the
-- difference is divisible by that modulus, and the quotient is the difference times the inverse. In channel s itself the
-- modulus divided by has no inverse, and the quotient's residue is `give`.
abbrev pub unscaled_value : LaneState → ℤ → ℕ → ℕ → ℕ → ℤ
unscaled_value lane x s take give =
    if s == lane.channel then pos give
    else ((x -ℤ pos take) *ℤ pos (inverse_of (slice_index lane.set.moduli s) (modulus_of lane)))

-- what an operation computes over plain integers, from the residues that the lane holds
abbrev pub plain_value : LaneState → MicroOp → ℤ
plain_value lane op = integer_by (unscaled_value lane) (λ place. pos (held_in lane place)) op

-- the value of an operation in the lane
abbrev pub value_of : LaneState → MicroOp → ℕ
value_of lane op = residue (plain_value lane op) (modulus_of lane)

-- the lane's answer to an operation: its value, or where the book has a fault for it, that modulo the modulus
unfoldable pub answer_of : Book → MicroOp → LaneState → ℕ
answer_of book op lane = option_map_or (λ fault. fault % modulus_of lane) (fault_at book lane.channel lane.answers) (value_of lane op)

-- the lane with an answer written, and counted
abbrev pub with_answer : LaneState → MicroOp → ℕ → LaneState
with_answer lane op answer =
    let written = option_map_or (λ to. with_held lane to answer) (destination op) lane in
    record written { answers = lane.answers + 1 }

-- the lane after an operation
unfoldable pub lane_after : Book → MicroOp → LaneState → LaneState
lane_after book op lane = with_answer lane op (answer_of book op lane)

-- the lane after a whole list of operations
abbrev pub lane_after_all : Book → List MicroOp → LaneState → LaneState
lane_after_all book [] lane = lane
lane_after_all book (op ∷ ops) lane = lane_after_all book ops (lane_after book op lane)

-- a lane as it is made: 0 in registers and scratch places, the residues of the data in the words
abbrev pub lane_at_start : ModuliSet → List ℤ → ℕ → LaneState
lane_at_start set start channel = record {
  set = set;
  channel = channel;
  registers = replicate 16 0;
  scratch = replicate 8 0;
  words = map (λ x. residue x (slice_index set.moduli channel)) start;
  answers = 0;
}

-- each place of the lane holds the residue of the integer there
abbrev pub HoldsResidues : LaneState → (Place → ℤ) → Type 0
HoldsResidues lane at =
    (place : Place) → HasPlace (length lane.words) place → held_in lane place ≡ residue (at place) (modulus_of lane)

-- a lane of a channel of its set, with 16 registers and 8 scratch places
pub record IsLane (lane : LaneState) : Type 0 where
  pub rules : IsModuliSet lane.set
  pub channel_in : lane.channel < length lane.set.moduli
  pub sixteen : length lane.registers ≡ 16
  pub eight : length lane.scratch ≡ 8
