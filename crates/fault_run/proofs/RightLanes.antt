-- Lanes of channels that the book doesn't name hold the residues of the integers, whatever the others answer.
use Rattle.std.proofs.Common.{◌≡◌, ℕ, ◌<◌, ℤ, false, List, length, slice_index, refl, sym, ap, ◌∙◌, subst, arith}
use Rattle.std.proofs.lemmas.List.{get_or-map, length-map}
use Rattle.std.proofs.lemmas.List.Elements.{All-get_or}
use Rattle.number_theory.specs.Residue.{residue}
use Rattle.moduli_sets.specs.Set.{ModuliSet, IsModulus, IsModuliSet, IsInRange}
use Rattle.channel_alu.specs.declared.operation.Place.{Place}
use Rattle.channel_alu.specs.declared.operation.MicroOp.{MicroOp}
use Rattle.channel_alu.specs.declared.operation.MicroOp.TheVariants.{Show}
use Rattle.fault_book.specs.Book.{Book, is_faulty}
use Rattle.fault_book.proofs.ColumnLemmas.{fault_at-unnamed}
use Rattle.channel_lane.specs.Lane.{HoldsResidues, IsLane, LaneState, answer_of, lane_after, lane_at_start, modulus_of}
use Rattle.channel_lane.specs.Meaning.{CanPerform, HasPlace, IsExact, integers_after, integers_at_start}
use Rattle.channel_lane.proofs.LaneLemmas.{IsLane-after, IsLane-at_start, answer-below, answer_of-value, channel-after, set-after, words-after}
use Rattle.channel_lane.proofs.MeaningLemmas.{HoldsResidues-after, HoldsResidues-at_start, value-meaning}
use Rattle.lane_bank.specs.Bank.{column_of, lane_at, lanes_after, lanes_at_start, no_lane}
use Rattle.lane_bank.proofs.BankLemmas.{AreResidues-by_place, lane_at-start, length-lanes_at_start}
use Rattle.fault_run.specs.Telling.{IsColumnOf}

-- The lane of a channel of a set, with so many words. Where the book doesn't name the channel, it holds the integers.
pub record IsRightLane (set : ModuliSet) (words : ℕ) (book : Book) (at : Place → ℤ) (channel : ℕ) (lane : LaneState) : Type 0 where
  pub is : IsLane lane
  pub of_set : lane.set ≡ set
  pub of_channel : lane.channel ≡ channel
  pub many : length lane.words ≡ words
  pub holds : is_faulty book channel ≡ false → HoldsResidues lane at

-- one lane for each channel, in their order
pub record AreRightLanes (set : ModuliSet) (words : ℕ) (book : Book) (at : Place → ℤ) (lanes : List LaneState) : Type 0 where
  pub long : length lanes ≡ length set.moduli
  pub each : (channel : ℕ) → channel < length set.moduli → IsRightLane set words book at channel (lane_at lanes channel)

module _ (set : ModuliSet) (words : ℕ) (book : Book) where
  -- ---- one lane
  can_in : (at : Place → ℤ) (channel : ℕ) (op : MicroOp) (lane : LaneState) → CanPerform words (length set.moduli) op → IsRightLane set words book at channel lane → CanPerform (length lane.words) (length lane.set.moduli) op
  can_in at channel op lane can h =
      subst (λ (n : ℕ). CanPerform n (length lane.set.moduli) op) (sym h.many) (subst (λ (s : ModuliSet). CanPerform words (length s.moduli) op) (sym h.of_set) can)

  exact_in : (at : Place → ℤ) (channel : ℕ) (op : MicroOp) (lane : LaneState) → IsExact set.moduli at op → IsRightLane set words book at channel lane → IsExact lane.set.moduli at op
  exact_in at channel op lane exact h = subst (λ (s : ModuliSet). IsExact s.moduli at op) (sym h.of_set) exact

  right-after : (at : Place → ℤ) (channel : ℕ) (op : MicroOp) (lane : LaneState) → CanPerform words (length set.moduli) op → IsExact set.moduli at op
      → IsRightLane set words book at channel lane → IsRightLane set words book (integers_after set.moduli op at) channel (lane_after book op lane)
  right-after at channel op lane can exact h = record {
    is = IsLane-after book op lane h.is;
    of_set = set-after book op lane ∙ h.of_set;
    of_channel = channel-after book op lane ∙ h.of_channel;
    many = words-after book op lane ∙ h.many;
    holds = λ unnamed.
        subst (λ (s : ModuliSet). HoldsResidues (lane_after book op lane) (integers_after s.moduli op at)) h.of_set
        (HoldsResidues-after book op lane at h.is (can_in at channel op lane can h) (h.holds unnamed) (exact_in at channel op lane exact h)
        (fault_at-unnamed book lane.channel lane.answers (ap (is_faulty book) h.of_channel ∙ unnamed)));
  }

  -- its modulus
  modulus-right : (at : Place → ℤ) (channel : ℕ) (lane : LaneState) → IsRightLane set words book at channel lane → modulus_of lane ≡ slice_index set.moduli channel
  modulus-right at channel lane h = ap (λ (s : ModuliSet). slice_index s.moduli lane.channel) h.of_set ∙ ap (slice_index set.moduli) h.of_channel

  -- it shows the residue of the integer, where its channel isn't named
  shows : (at : Place → ℤ) (place : Place) (channel : ℕ) (lane : LaneState) → HasPlace words place → IsRightLane set words book at channel lane → is_faulty book channel ≡ false
      → answer_of book (Show place) lane ≡ residue (at place) (slice_index set.moduli channel)
  shows at place channel lane has h unnamed =
      sym (answer_of-value book (Show place) lane (sym (fault_at-unnamed book lane.channel lane.answers (ap (is_faulty book) h.of_channel ∙ unnamed))))
      ∙ value-meaning lane at (Show place) h.is (can_in at channel (Show place) lane has h) (h.holds unnamed) tt
      ∙ ap (residue (at place)) (modulus-right at channel lane h)

  -- ---- all lanes
  pub lanes-after : (at : Place → ℤ) (op : MicroOp) (lanes : List LaneState) → CanPerform words (length set.moduli) op → IsExact set.moduli at op
      → AreRightLanes set words book at lanes → AreRightLanes set words book (integers_after set.moduli op at) (lanes_after book op lanes)
  lanes-after at op lanes can exact h = record {
    long = length-map lanes (lane_after book op) ∙ h.long;
    each = λ channel inside.
        subst (IsRightLane set words book (integers_after set.moduli op at) channel) (sym (get_or-map (lane_after book op) lanes channel no_lane no_lane (omega (arith, inside, h.long))))
        (right-after at channel op (lane_at lanes channel) can exact (h.each channel inside));
  }

  -- an entry of a column
  entry : (at : Place → ℤ) (place : Place) (lanes : List LaneState) → AreRightLanes set words book at lanes → (channel : ℕ) → channel < length set.moduli
      → slice_index (column_of book place lanes) channel ≡ answer_of book (Show place) (lane_at lanes channel)
  entry at place lanes h channel inside = get_or-map (answer_of book (Show place)) lanes channel no_lane 0 (omega (arith, inside, h.long))

  pub IsColumnOf-shown : (at : Place → ℤ) (place : Place) (lanes : List LaneState) → IsModuliSet set → HasPlace words place → IsInRange set (at place)
      → AreRightLanes set words book at lanes → IsColumnOf set book (column_of book place lanes) (at place)
  IsColumnOf-shown at place lanes rules has fits h = record {
    residues = AreResidues-by_place set.moduli (column_of book place lanes) (length-map lanes (answer_of book (Show place)) ∙ h.long)
        (λ channel inside.
        let lane = lane_at lanes channel in
        let is : IsModulus (slice_index set.moduli channel) = All-get_or IsModulus set.moduli channel 0 inside rules.moduli in
        let modulus = modulus-right at channel lane (h.each channel inside) in
        let below = answer-below book (Show place) lane (omega (arith, modulus, is.at_least_two)) in
        omega (arith, below, modulus, entry at place lanes h channel inside));
    in_range = fits;
    right = λ channel inside unnamed.
        entry at place lanes h channel inside ∙ shows at place channel (lane_at lanes channel) has (h.each channel inside) unnamed
        ∙ sym (get_or-map (residue (at place)) set.moduli channel 0 0 inside);
  }

-- ---- the start
pub AreRightLanes-start : (set : ModuliSet) (book : Book) (words : List ℤ) → IsModuliSet set → AreRightLanes set (length words) book (integers_at_start words) (lanes_at_start set 0 words)
AreRightLanes-start set book words rules = record {
  long = length-lanes_at_start set 0 words ∙ omega arith;
  each = λ channel inside.
      subst (IsRightLane set (length words) book (integers_at_start words) channel)
      (sym (lane_at-start set 0 channel words (omega (arith, inside)) ∙ ap (lane_at_start set words) (omega arith)))
      (record {
        is = IsLane-at_start set words channel rules inside;
        of_set = refl;
        of_channel = refl;
        many = length-map words (λ x. residue x (slice_index set.moduli channel));
        holds = λ unnamed. HoldsResidues-at_start set words channel rules inside;
      });
}
