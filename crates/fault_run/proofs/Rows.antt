-- A run of `pocket` with faults, worked out by hand: `LDI r0 5; OUT r0; OUT r0`, which puts 5, and shows and prints it twice.
use Rattle.std.specs.Prelude.{◌≡◌, ℕ, zero, suc, ◌%◌, ◌<◌, ◌==◌, ◌&&◌, pos, true, false, List, [], ◌∷◌, slice_index, Option, Some, None, count_by, if◌then◌else◌, refl}
use Rattle.std.proofs.Common.{sym, ap, ◌∙◌, arith}
use Rattle.std.specs.Option.{option_map_or}
use Rattle.std.specs.List.{range_with_len}
use Rattle.std.specs.FinMap.{from_entries, get-from_entries}
use Rattle.std.specs.FinMap.Entries.{find}
use Rattle.std.specs.Cmp.{IsTotalOrder}
use Rattle.std.proofs.lemmas.Cmp.{nat_cmp_total, on_total, then_total}
use Rattle.moduli_sets.specs.declared.set_name.SetName.TheVariants.{Pocket}
use Rattle.moduli_sets.specs.Name.{set_of_name}
use Rattle.channel_alu.specs.declared.operation.Place.TheVariants.{Reg}
use Rattle.channel_alu.specs.declared.operation.MicroOp.{MicroOp}
use Rattle.channel_alu.specs.declared.operation.MicroOp.TheVariants.{Put, Show}
use Rattle.fault_book.specs.Book.{Book, answer_cmp, fault_at}
use Rattle.channel_lane.specs.Lane.{LaneState, answer_of, lane_after}
use Rattle.lane_bank.specs.Bank.{lanes_at_start}
use Rattle.machine_table.specs.declared.instr.Instr.{Instr}
use Rattle.machine_table.specs.declared.instr.Instr.TheVariants.{Ldi, Out}
use Rattle.shown_run.specs.Trace.{Trace, printed, operations_of, prints_of, is_corrected}
use Rattle.shown_run.specs.Runs.{Decoding}
use Rattle.fault_run.specs.FaultRun.{IsBad, IsFirstBad, column_at, corrected_before, integer_trace, prints_before, shows_at}

-- ---- the integer run
abbrev code : List Instr
code = Ldi 0 (pos 5) ∷ (Out 0 ∷ (Out 0 ∷ []))

abbrev run : Trace
run = integer_trace (set_of_name Pocket) code [] [] 4

abbrev ops : List MicroOp
ops = Put (Reg 0) (pos 5) ∷ (Show (Reg 0) ∷ (Show (Reg 0) ∷ []))

pub operations : operations_of run ≡ ops
operations = refl

pub prints : prints_of run ≡ pos 5 ∷ (pos 5 ∷ [])
prints = refl

-- ---- prints before an operation: the first print comes after operation 1, the second after operation 2
pub none_before_1 : prints_before 1 run ≡ []
none_before_1 = refl

pub one_before_2 : prints_before 2 run ≡ pos 5 ∷ []
one_before_2 = refl

pub both_before_3 : prints_before 3 run ≡ pos 5 ∷ (pos 5 ∷ [])
both_before_3 = refl

-- a print before all operations
pub printed_before_0 : prints_before 0 (printed (pos 7) run) ≡ pos 7 ∷ []
printed_before_0 = refl

-- ---- which operations are columns
pub put_is_none : shows_at run 0 ≡ false
put_is_none = refl

pub show_is_one : shows_at run 1 ≡ true
show_is_one = refl

pub none_past_the_end : shows_at run 3 ≡ false
none_past_the_end = refl

-- ---- a book of some faults
answers_total : IsTotalOrder answer_cmp
answers_total = then_total (on_total (λ a. a.0) nat_cmp_total) (on_total (λ a. a.1) nat_cmp_total)

abbrev lanes : List LaneState
lanes = lanes_at_start (set_of_name Pocket) 0 []

-- a decoder that tells 5 of every column
abbrev always_5 : Decoding
always_5 column = Some (pos 5)

-- the answers of a channel with this modulus, by the faults of its first three
abbrev answers_by : ℕ → Option ℕ → Option ℕ → Option ℕ → List ℕ
answers_by m first second third =
    let put = option_map_or (λ fault. fault % m) first (5 % m) in
    put ∷ (option_map_or (λ fault. fault % m) second (put % m) ∷ (option_map_or (λ fault. fault % m) third (put % m) ∷ []))

module _ (entries : List ((ℕ × ℕ) × ℕ)) where
  abbrev book : Book
  book = from_entries entries

  abbrev told : ℕ → ℕ → Option ℕ
  told channel number = find answer_cmp (channel, number) entries

  is_told : (channel number : ℕ) → fault_at book channel number ≡ told channel number
  is_told channel number = get-from_entries answers_total entries (channel, number)

  abbrev answers : ℕ → ℕ → List ℕ
  answers channel m = answers_by m (told channel 0) (told channel 1) (told channel 2)

  columns : (decode : Decoding) (t : ℕ) → column_at decode book lanes run t ≡ slice_index (answers 0 13) t ∷ (slice_index (answers 1 15) t ∷ (slice_index (answers 2 16) t ∷ (slice_index (answers 3 17) t ∷ (slice_index (answers 4 19) t ∷ []))))
  unfolding answer_of lane_after
  columns decode t = λ i.
      slice_index (answers_by 13 (is_told 0 0 i) (is_told 0 1 i) (is_told 0 2 i)) t
      ∷ (slice_index (answers_by 15 (is_told 1 0 i) (is_told 1 1 i) (is_told 1 2 i)) t
      ∷ (slice_index (answers_by 16 (is_told 2 0 i) (is_told 2 1 i) (is_told 2 2 i)) t
      ∷ (slice_index (answers_by 17 (is_told 3 0 i) (is_told 3 1 i) (is_told 3 2 i)) t
      ∷ (slice_index (answers_by 19 (is_told 4 0 i) (is_told 4 1 i) (is_told 4 2 i)) t ∷ []))))

  corrections : (channel t : ℕ) → corrected_before always_5 book lanes run None (set_of_name Pocket) channel t
      ≡ count_by (λ s. shows_at run s && is_corrected None (set_of_name Pocket) channel
      (slice_index (answers 0 13) s ∷ (slice_index (answers 1 15) s ∷ (slice_index (answers 2 16) s ∷ (slice_index (answers 3 17) s ∷ (slice_index (answers 4 19) s ∷ []))))) (pos 5)) (range_with_len 0 t)
  corrections channel t = λ i. count_by (λ s. shows_at run s && is_corrected None (set_of_name Pocket) channel (columns always_5 s i) (pos 5)) (range_with_len 0 t)

-- ---- one fault: answer 0 of channel 0 is 9, and so are the residues that it shows afterwards
abbrev one_fault : List ((ℕ × ℕ) × ℕ)
one_fault = ((0, 0), 9) ∷ []

pub answers_to_put : column_at always_5 (book one_fault) lanes run 0 ≡ 9 ∷ (5 ∷ (5 ∷ (5 ∷ (5 ∷ []))))
answers_to_put = columns one_fault always_5 0

pub first_column : column_at always_5 (book one_fault) lanes run 1 ≡ 9 ∷ (5 ∷ (5 ∷ (5 ∷ (5 ∷ []))))
first_column = columns one_fault always_5 1

pub second_column : column_at always_5 (book one_fault) lanes run 2 ≡ 9 ∷ (5 ∷ (5 ∷ (5 ∷ (5 ∷ []))))
second_column = columns one_fault always_5 2

pub corrected_in_channel_0 : corrected_before always_5 (book one_fault) lanes run None (set_of_name Pocket) 0 3 ≡ 2
corrected_in_channel_0 = corrections one_fault 0 3

pub corrected_once_before_2 : corrected_before always_5 (book one_fault) lanes run None (set_of_name Pocket) 0 2 ≡ 1
corrected_once_before_2 = corrections one_fault 0 2

pub not_corrected_in_channel_1 : corrected_before always_5 (book one_fault) lanes run None (set_of_name Pocket) 1 3 ≡ 0
not_corrected_in_channel_1 = corrections one_fault 1 3

-- ---- another: answer 2 of channel 1 is 3, and a decoder that goes by channel 1 tells no integer of the second column
abbrev two_faults : List ((ℕ × ℕ) × ℕ)
two_faults = ((0, 0), 9) ∷ (((1, 2), 3) ∷ [])

abbrev by_channel_1 : Decoding
by_channel_1 column = if slice_index column 1 == 5 then Some (pos 5) else None

pub bad_column : column_at by_channel_1 (book two_faults) lanes run 2 ≡ 9 ∷ (3 ∷ (5 ∷ (5 ∷ (5 ∷ []))))
bad_column = columns two_faults by_channel_1 2

is_told_before : by_channel_1 (column_at by_channel_1 (book two_faults) lanes run 1) ≡ Some (pos 5)
is_told_before = ap by_channel_1 (columns two_faults by_channel_1 1)

-- it is the first bad one, so one print comes before the damage
pub first_bad_at_2 : IsFirstBad by_channel_1 (book two_faults) lanes run 2
first_bad_at_2 = record { bad = record { is_column = refl; unexplained = ap by_channel_1 (columns two_faults by_channel_1 2) }; first = first }
  where
    first : (s : ℕ) → s < 2 → ¬ IsBad by_channel_1 (book two_faults) lanes run s
    first zero before bad = let e : false ≡ true = bad.is_column in cc
    first (suc zero) before bad = let e : Some (pos 5) ≡ None = sym is_told_before ∙ bad.unexplained in cc
    first (suc (suc s)) before bad = absurd (omega arith)
