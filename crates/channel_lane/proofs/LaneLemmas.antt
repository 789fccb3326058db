-- Lanes through operations.
use Rattle.std.proofs.Common.{◌≡◌, ℕ, ◌+◌, ◌%◌, ◌<◌, List, [], ◌∷◌, ◌++◌, length, Option, None, Some, refl, sym, ap, ◌∙◌, subst, arith, ℤ}
use Rattle.std.specs.Option.{option_map_or}
use Rattle.std.proofs.lemmas.List.{length-set, length-replicate}
use Rattle.std.proofs.Math.Nat.{mod-lt}
use Rattle.number_theory.proofs.ResidueLemmas.{residue-below}
use Rattle.moduli_sets.specs.Set.{ModuliSet, IsModuliSet}
use Rattle.channel_alu.specs.declared.operation.Place.{Place}
use Rattle.channel_alu.specs.declared.operation.Place.TheVariants.{Reg, Scratch, Word}
use Rattle.channel_alu.specs.declared.operation.MicroOp.{MicroOp}
use Rattle.fault_book.specs.Book.{Book, fault_at}
use Rattle.channel_lane.specs.Meaning.{CanPerform, destination}
use Rattle.channel_lane.specs.Lane.{LaneState, IsLane, lane_at_start, modulus_of, with_held, plain_value, value_of, answer_of, lane_after, lane_after_all}

-- a lane with one answer more
abbrev pub one_answer_more : LaneState → LaneState
one_answer_more lane = record lane { answers = lane.answers + 1 }

-- what stays where a residue is put into a place
answers-with_held : (lane : LaneState) (to : Place) (x : ℕ) → (with_held lane to x).answers ≡ lane.answers
answers-with_held lane (Reg n) x = refl
answers-with_held lane (Scratch n) x = refl
answers-with_held lane (Word n) x = refl

set-with_held : (lane : LaneState) (to : Place) (x : ℕ) → (with_held lane to x).set ≡ lane.set
set-with_held lane (Reg n) x = refl
set-with_held lane (Scratch n) x = refl
set-with_held lane (Word n) x = refl

channel-with_held : (lane : LaneState) (to : Place) (x : ℕ) → (with_held lane to x).channel ≡ lane.channel
channel-with_held lane (Reg n) x = refl
channel-with_held lane (Scratch n) x = refl
channel-with_held lane (Word n) x = refl

words-with_held : (lane : LaneState) (to : Place) (x : ℕ) → length (with_held lane to x).words ≡ length lane.words
words-with_held lane (Reg n) x = refl
words-with_held lane (Scratch n) x = refl
words-with_held lane (Word n) x = length-set lane.words n x

set-written : (lane : LaneState) (x : ℕ) (to : Option Place) → (option_map_or (λ place. with_held lane place x) to lane).set ≡ lane.set
set-written lane x None = refl
set-written lane x (Some to) = set-with_held lane to x

channel-written : (lane : LaneState) (x : ℕ) (to : Option Place) → (option_map_or (λ place. with_held lane place x) to lane).channel ≡ lane.channel
channel-written lane x None = refl
channel-written lane x (Some to) = channel-with_held lane to x

words-written : (lane : LaneState) (x : ℕ) (to : Option Place) → length (option_map_or (λ place. with_held lane place x) to lane).words ≡ length lane.words
words-written lane x None = refl
words-written lane x (Some to) = words-with_held lane to x

-- one operation, by where it writes
pub lane_after-written : (book : Book) (op : MicroOp) (lane : LaneState) (to : Place) (answer : ℕ) → Some to ≡ destination op → answer ≡ answer_of book op lane → one_answer_more (with_held lane to answer) ≡ lane_after book op lane
unfolding lane_after
lane_after-written book op lane to answer place same =
    ap (λ n. record (with_held lane to answer) { answers = n + 1 }) (answers-with_held lane to answer)
    ∙ ap (λ x. record (with_held lane to x) { answers = lane.answers + 1 }) same
    ∙ ap (λ p. record (option_map_or (λ t. with_held lane t (answer_of book op lane)) p lane) { answers = lane.answers + 1 }) place

pub lane_after-shown : (book : Book) (op : MicroOp) (lane : LaneState) → None ≡ destination op → one_answer_more lane ≡ lane_after book op lane
unfolding lane_after
lane_after-shown book op lane place =
    ap (λ p. record (option_map_or (λ t. with_held lane t (answer_of book op lane)) p lane) { answers = lane.answers + 1 }) place

pub set-after : (book : Book) (op : MicroOp) (lane : LaneState) → (lane_after book op lane).set ≡ lane.set
unfolding lane_after
set-after book op lane = set-written lane (answer_of book op lane) (destination op)

pub channel-after : (book : Book) (op : MicroOp) (lane : LaneState) → (lane_after book op lane).channel ≡ lane.channel
unfolding lane_after
channel-after book op lane = channel-written lane (answer_of book op lane) (destination op)

pub words-after : (book : Book) (op : MicroOp) (lane : LaneState) → length (lane_after book op lane).words ≡ length lane.words
unfolding lane_after
words-after book op lane = words-written lane (answer_of book op lane) (destination op)

answers-after : (book : Book) (op : MicroOp) (lane : LaneState) → (lane_after book op lane).answers ≡ lane.answers + 1
unfolding lane_after
answers-after book op lane = refl

-- ---- lists of operations
pub set-after_all : (book : Book) (ops : List MicroOp) (lane : LaneState) → (lane_after_all book ops lane).set ≡ lane.set
set-after_all book [] lane = refl
set-after_all book (op ∷ ops) lane = set-after_all book ops (lane_after book op lane) ∙ set-after book op lane

pub channel-after_all : (book : Book) (ops : List MicroOp) (lane : LaneState) → (lane_after_all book ops lane).channel ≡ lane.channel
channel-after_all book [] lane = refl
channel-after_all book (op ∷ ops) lane = channel-after_all book ops (lane_after book op lane) ∙ channel-after book op lane

pub words-after_all : (book : Book) (ops : List MicroOp) (lane : LaneState) → length (lane_after_all book ops lane).words ≡ length lane.words
words-after_all book [] lane = refl
words-after_all book (op ∷ ops) lane = words-after_all book ops (lane_after book op lane) ∙ words-after book op lane

pub answers-after_all : (book : Book) (ops : List MicroOp) (lane : LaneState) → (lane_after_all book ops lane).answers ≡ lane.answers + length ops
answers-after_all book [] lane = omega arith
answers-after_all book (op ∷ ops) lane =
    omega (arith, answers-after_all book ops (lane_after book op lane), answers-after book op lane)

pub after_all-parts : (book : Book) (ops more : List MicroOp) (lane : LaneState) → lane_after_all book (ops ++ more) lane ≡ lane_after_all book more (lane_after_all book ops lane)
after_all-parts book [] more lane = refl
after_all-parts book (op ∷ ops) more lane = after_all-parts book ops more (lane_after book op lane)

-- ---- a lane of its set stays one
pub IsLane-at_start : (set : ModuliSet) (start : List ℤ) (channel : ℕ) → IsModuliSet set → channel < length set.moduli → IsLane (lane_at_start set start channel)
IsLane-at_start set start channel rules within = record {
  rules = rules;
  channel_in = within;
  sixteen = length-replicate {A = ℕ} 16 0;
  eight = length-replicate {A = ℕ} 8 0;
}

IsLane-written : (lane : LaneState) (x : ℕ) (to : Option Place) → IsLane lane → IsLane (option_map_or (λ place. with_held lane place x) to lane)
IsLane-written lane x None is = is
IsLane-written lane x (Some (Reg n)) is =
    record { rules = is.rules; channel_in = is.channel_in; sixteen = length-set lane.registers n x ∙ is.sixteen; eight = is.eight }
IsLane-written lane x (Some (Scratch n)) is =
    record { rules = is.rules; channel_in = is.channel_in; sixteen = is.sixteen; eight = length-set lane.scratch n x ∙ is.eight }
IsLane-written lane x (Some (Word n)) is =
    record { rules = is.rules; channel_in = is.channel_in; sixteen = is.sixteen; eight = is.eight }

pub IsLane-after : (book : Book) (op : MicroOp) (lane : LaneState) → IsLane lane → IsLane (lane_after book op lane)
unfolding lane_after
IsLane-after book op lane is =
    let written = IsLane-written lane (answer_of book op lane) (destination op) is in
    record { rules = written.rules; channel_in = written.channel_in; sixteen = written.sixteen; eight = written.eight }

-- ---- answers
option_below : (m value : ℕ) (fault : Option ℕ) → 0 < m → value < m → option_map_or (λ f. f % m) fault value < m
option_below m value None positive below = below
option_below m value (Some fault) positive below = mod-lt fault positive

pub answer-below : (book : Book) (op : MicroOp) (lane : LaneState) → 0 < modulus_of lane → answer_of book op lane < modulus_of lane
unfolding answer_of
answer-below book op lane positive =
    option_below (modulus_of lane) (value_of lane op) (fault_at book lane.channel lane.answers) positive (residue-below (plain_value lane op) (modulus_of lane) positive)

pub answer_of-fault : (book : Book) (op : MicroOp) (lane : LaneState) (fault : ℕ) → Some fault ≡ fault_at book lane.channel lane.answers → fault % modulus_of lane ≡ answer_of book op lane
unfolding answer_of
answer_of-fault book op lane fault found = ap (λ f. option_map_or (λ x. x % modulus_of lane) f (value_of lane op)) found

pub answer_of-value : (book : Book) (op : MicroOp) (lane : LaneState) → None ≡ fault_at book lane.channel lane.answers → value_of lane op ≡ answer_of book op lane
unfolding answer_of
answer_of-value book op lane none = ap (λ f. option_map_or (λ x. x % modulus_of lane) f (value_of lane op)) none

-- ---- what a lane can perform
pub CanPerform-after_all : (book : Book) (ops : List MicroOp) (lane : LaneState) (op : MicroOp) → CanPerform (length lane.words) (length lane.set.moduli) op
    → CanPerform (length (lane_after_all book ops lane).words) (length (lane_after_all book ops lane).set.moduli) op
CanPerform-after_all book ops lane op h =
    let channels = subst (λ s. CanPerform (length lane.words) (length s.moduli) op) (sym (set-after_all book ops lane)) h in
    subst (λ words. CanPerform words (length (lane_after_all book ops lane).set.moduli) op) (sym (words-after_all book ops lane)) channels
