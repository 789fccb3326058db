-- The channels under control: what they are, and how operations and Shows change them.
use Rattle.std.specs.Prelude.{◌≡◌, ℕ, ◌+◌, ◌<◌, ◌≤◌, ℤ, List, [], ◌∷◌, ◌++◌, All, length, replicate, slice_index, Option, Some, None, if◌then◌else◌}
use Rattle.number_theory.specs.Residue.{AreResidues}
use Rattle.moduli_sets.specs.Set.{ModuliSet, IsModuliSet}
use Rattle.channel_alu.specs.declared.operation.Place.{Place}
use Rattle.channel_alu.specs.declared.operation.MicroOp.{MicroOp}
use Rattle.channel_alu.specs.declared.operation.MicroOp.TheVariants.{Show}
use Rattle.channel_lane.specs.Lane.{LaneState}
use Rattle.machine_table.specs.declared.instr.Instr.{Instr}
use Rattle.machine_table.specs.declared.object.Object.{Object}
use Rattle.machine_table.specs.Faults.{IsSound}
use Rattle.machine_table.specs.Objects.{code_of, words_of}
use Rattle.lane_bank.specs.Bank.{column_of, lanes_after_all, lanes_at_start}
use Rattle.channel_scheduler.specs.declared.rack.Rack.{Ghosts as RackGhosts}
use Rattle.redundant_decoder.specs.declared.decoder.Decoder.{Ghosts as DecoderGhosts}
use Rattle.shown_run.specs.Decoded.{nearest}
use Rattle.shown_run.specs.Trace.{is_corrected}
use Rattle.residue_machine.specs.declared.channels.Told.{Told}
use Rattle.residue_machine.specs.declared.channels.Told.TheVariants.{Integer, Bad}

-- A program, that is its set, its instructions and its data words; a rack that was made with these words, and a decoder of the
-- set; how many operations were issued, and how many columns were corrected in each channel.
pub record Bench (R D : Type 0) : Type 0 where
  pub set : ModuliSet
  pub code : List Instr
  pub start : List ℤ
  pub rack : R
  pub decoder : D
  pub issued : ℕ
  pub corrections : List ℕ

-- by the object and what else they are made of
abbrev pub bench_of : {R D : Type 0} → ModuliSet → Object → R → D → ℕ → List ℕ → Bench R D
bench_of set object rack decoder issued corrections = record {
  set = set;
  code = code_of object;
  start = words_of object;
  rack = rack;
  decoder = decoder;
  issued = issued;
  corrections = corrections;
}

-- as they are made
abbrev pub channels_at_start : {R D : Type 0} → ModuliSet → List Instr → List ℤ → R → D → Bench R D
channels_at_start set code start rack decoder = record {
  set = set;
  code = code;
  start = start;
  rack = rack;
  decoder = decoder;
  issued = 0;
  corrections = replicate (length set.moduli) 0;
}

module _ {R D : Type 0} (racks : RackGhosts R) where
  -- the lanes have come by so many operations from those that were made with the data words
  pub record HasCome (bench : Bench R D) : Type 0 where
    pub ops : List MicroOp
    pub count : length ops ≡ bench.issued
    pub lanes : racks.lanes_of bench.rack ≡ lanes_after_all (racks.book_of bench.rack) ops (lanes_at_start bench.set 0 bench.start)

  -- what the channels keep true
  pub record IsBench (decoders : DecoderGhosts D) (bench : Bench R D) : Type 0 where
    pub rules : IsModuliSet bench.set
    pub sound : IsSound bench.set bench.code bench.start
    pub decodes : decoders.set bench.decoder ≡ bench.set
    pub come : HasCome bench
    pub counts : length bench.corrections ≡ length bench.set.moduli
    -- at most one correction in a channel for each operation
    pub few : All (λ n. n ≤ bench.issued) bench.corrections

  -- The channels have performed operations more, in which so many columns were corrected in each channel. A rack that was
  -- under way with operations has come as far as `After` says by these with the new ones behind them.
  pub record Performed (After : R → List LaneState → List MicroOp → Type 0) (ops : List MicroOp) (corrected : ℕ → ℕ) (old new : Bench R D) : Type 0 where
    pub set : new.set ≡ old.set
    pub code : new.code ≡ old.code
    pub start : new.start ≡ old.start
    pub decoder : new.decoder ≡ old.decoder
    pub book : racks.book_of new.rack ≡ racks.book_of old.rack
    pub plan : racks.plan_of new.rack ≡ racks.plan_of old.rack
    pub lanes : racks.lanes_of new.rack ≡ lanes_after_all (racks.book_of old.rack) ops (racks.lanes_of old.rack)
    pub issued : new.issued ≡ old.issued + length ops
    pub counts : length new.corrections ≡ length old.corrections
    pub corrections : (i : ℕ) → i < length old.corrections → slice_index new.corrections i ≡ slice_index old.corrections i + corrected i
    pub run : (start : List LaneState) (before : List MicroOp) → racks.IsUnderWay old.rack start before → After new.rack start (before ++ ops)

  -- the rack has settled, and nothing else has changed; what it was under way with it has ended with
  pub record HasSettled (old new : Bench R D) : Type 0 where
    pub rack : new ≡ record old { rack = new.rack }
    pub book : racks.book_of new.rack ≡ racks.book_of old.rack
    pub plan : racks.plan_of new.rack ≡ racks.plan_of old.rack
    pub lanes : racks.lanes_of new.rack ≡ racks.lanes_of old.rack
    pub settled : racks.IsSettled new.rack
    pub run : (start : List LaneState) (ops : List MicroOp) → racks.IsUnderWay old.rack start ops → racks.HasEnded new.rack start ops

  -- the column that a Show of a place gives
  abbrev pub column_at : Place → Bench R D → List ℕ
  column_at place bench = column_of (racks.book_of bench.rack) place (racks.lanes_of bench.rack)

  -- a place was shown, and this is its column
  pub record HasShown (place : Place) (old : Bench R D) (column : List ℕ) (new : Bench R D) : Type 0 where
    pub is_column : column ≡ column_at place old
    pub residues : AreResidues new.set.moduli column
    -- each count has room for the correction of the column
    pub few : All (λ n. n < new.issued) new.corrections
    pub performed : Performed racks.IsUnderWay (Show place ∷ []) (λ i. 0) old new

  -- By how many residues a column may differ from that of the integer that it tells, by the set, and the channel that is
  -- left out of account, where one is.
  module _ (reach : ModuliSet → ℕ) (gone : Option ℕ) where
    -- the integer that is nearest to it
    abbrev pub decoded_at : Place → Bench R D → Option ℤ
    decoded_at place bench = nearest (reach bench.set) gone bench.set (column_at place bench)

    -- what is told of a place: the nearest integer of its column, which is counted where it is corrected; or its column, where
    -- there is none
    abbrev pub IsTold : Place → Bench R D → Told → Bench R D → Type 0
    IsTold place old (Integer x) new =
        (decoded_at place old ≡ Some x)
        × Performed racks.IsUnderWay (Show place ∷ []) (λ i. if is_corrected gone old.set i (column_at place old) x then 1 else 0) old new
    IsTold place old (Bad column) new =
        (decoded_at place old ≡ None) × (column ≡ column_at place old) × Performed racks.IsUnderWay (Show place ∷ []) (λ i. 0) old new
