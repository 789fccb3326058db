-- From what a machine leaves to what is printed of its run.
use Rattle.std.proofs.Common.{◌≡◌, Bool, cond, count_by, false, ℕ, zero, suc, ◌+◌, ◌<◌, ◌≤◌, ℤ, List, [], ◌∷◌, ◌++◌, map, length, take, replicate, get_or, None, Some, inl, inr, refl, sym, ap, ◌∙◌, subst, arith}
use Rattle.std.specs.List.{range_with_len}
use Rattle.std.specs.Fmt.{signed_decimal}
use Rattle.std.proofs.lemmas.List.{append_assoc, ext_get_or, get_or-replicate, length-replicate, map-append, take_all}
use Rattle.std.proofs.lemmas.List.FromFn.{get_or-map-range_with_len, length-map-range_with_len}
use Rattle.number_text.specs.Lines.{line, print_lines}
use Rattle.outside.specs.Sink.{SinkState, BrokeOff}
use Rattle.moduli_sets.specs.Set.{ModuliSet, radius}
use Rattle.channel_alu.specs.declared.operation.MicroOp.{MicroOp}
use Rattle.fault_book.specs.Book.{Book, is_faulty}
use Rattle.fault_book.proofs.ColumnLemmas.{count_by-cons}
use Rattle.channel_lane.specs.Lane.{LaneState}
use Rattle.lane_bank.specs.Bank.{lanes_after, lanes_at_start}
use Rattle.channel_alu.specs.declared.operation.MicroOp.TheVariants.{Show}
use Rattle.machine_table.specs.declared.instr.Instr.{Instr}
use Rattle.machine_table.specs.Control.{Control, control_at_start, halts, traps}
use Rattle.machine_table.specs.Integers.{IntegerRun, instruction_at}
use Rattle.machine_table.specs.Integers as integers
use Rattle.micro_plan.specs.Acts.{acts_of, acts_of_run}
use Rattle.channel_scheduler.specs.declared.rack.Rack.{Ghosts as RackGhosts}
use Rattle.shown_run.specs.Trace.{Trace, RunEnding, did, showed, printed, went_on, ended, damaged, corrections_of, ending_of, ends_as, operations_of, prints_of}
use Rattle.shown_run.specs.Runs.{Decoding, run_shown, shown}
use Rattle.shown_run.specs.Decoded.{nearest}
use Rattle.shown_run.specs.Joined.{then_trace}
use Rattle.shown_run.proofs.Joining.{shown-then}
use Rattle.residue_machine.specs.declared.ending.Ending.{Ending as MachineEnding}
use Rattle.residue_machine.specs.declared.ending.Ending.TheVariants as machine
use Rattle.residue_machine.specs.Bench.{Bench, Performed}
use Rattle.fault_run.specs.Moments.{RunsAs}
use Rattle.fault_run.specs.Telling.{named_channels}
use Rattle.residue_machine.specs.Machine.{MachineState, CameOut, FailedAfter, IsEnding, RunsOut, machine_at_start, trace_from}
use Rattle.job_endings.specs.declared.status.Status.{Status}
use Rattle.job_endings.specs.declared.status.Status.TheVariants.{Unwritten}
use Rattle.job_endings.specs.declared.ending.Ending.{Ending}
use Rattle.job_endings.specs.declared.ending.Ending.TheVariants.{End, Trap, Damage, Spent}
use Rattle.job_endings.specs.EndingLines.{corrected_line, ending_line, ending_status}
use Rattle.job_endings.specs.Endings.{EndsPut}
use Rattle.job_endings.proofs.EndingLemmas.{puts_after, fails_before}
use Rattle.fault_book.specs.declared.schedule.Turn.{Turn}
use Rattle.channel_scheduler.specs.declared.entry.Entry.{Entry}
use Rattle.channel_scheduler.specs.Counts.{HasPerformed, after_turns}
use Rattle.channel_scheduler.specs.Moments.{IsFirst, entry_of}
use Rattle.object_runs.specs.RunText.{AreEntries, PutsRun, TellsIntegers, counts_of, journal_line, run_lines, run_status, told_answer, told_ending, told_of_integers, trace_of}

-- ---- endings
-- an answer that is told has the ending of the trace
pub told-is : (e : RunEnding) (answer : MachineEnding) (ending : Ending) → IsEnding e answer → told_answer answer ≡ Some ending → ending ≡ told_ending e
told-is e machine.Halt ending is told = cc
told-is e (machine.Trap kind at) ending is told = cc
told-is e (machine.Damage t column) ending is told = cc
told-is e machine.Spent ending is told = cc
told-is e machine.SinkFailed ending is told = absurd is

told-integers : (trace : Trace) (run : IntegerRun) (t : ℕ) → ends_as trace run → told_of_integers (integers.ending_of run) ≡ Some (told_ending (ending_of t trace))
told-integers (did op more) run t h = told-integers more run (t + 1) h
told-integers (showed place column x more) run t h = told-integers more run (t + 1) h
told-integers (printed x more) run t h = told-integers more run t h
told-integers (went_on control) run t h = ap told_of_integers h
told-integers (ended halts) run t h = ap told_of_integers h
told-integers (ended (traps kind at)) run t h = ap told_of_integers h
told-integers (damaged place column) run t h = absurd h

-- ---- counts
pub counted : (set : ModuliSet) (trace : Trace) (counts : List ℕ) → length counts ≡ length set.moduli
    → ((i : ℕ) → i < length set.moduli → get_or counts i 0 ≡ corrections_of None set trace i) → counts ≡ counts_of set trace
counted set trace counts long each =
    let n = length set.moduli in
    let f : ℕ → ℕ = corrections_of None set trace in
    ext_get_or 0 counts (map f (range_with_len 0 n)) (long ∙ sym (length-map-range_with_len f 0 n))
    (λ i inside. each i (omega (arith, long, inside)) ∙ sym (get_or-map-range_with_len f 0 n i i 0 (omega (arith, long, inside)) (omega arith)))

pub none_counted : (set : ModuliSet) (trace : Trace) → ((i : ℕ) → corrections_of None set trace i ≡ 0) → counts_of set trace ≡ replicate (length set.moduli) 0
none_counted set trace none =
    let n = length set.moduli in
    sym (counted set trace (replicate n 0) (length-replicate n 0) (λ i inside. get_or-replicate n i 0 0 inside ∙ sym (none i)))

pub tells : (set : ModuliSet) (trace : Trace) (run : IntegerRun) → RunsAs trace run → TellsIntegers set trace run
tells set trace run h =
    let last = told_ending (ending_of 0 trace) in
    record {
      ending = last;
      told = told-integers trace run 0 h.ending;
      lines = ap (λ prints. print_lines prints ++ (ending_line last ∷ (corrected_line (counts_of set trace) ∷ []))) h.prints;
      status = refl;
    }

-- where no channel is named, no more are than any number
zero_more : (c : ℕ) → c ≡ 0 → 0 + c ≡ 0
zero_more c none = omega (arith, none)

unnamed : (p : ℕ → Bool) (xs : List ℕ) → ((x : ℕ) → p x ≡ false) → count_by p xs ≡ 0
unnamed p [] none = refl
unnamed p (x ∷ xs) none =
    count_by-cons p x xs ∙ ap (λ (t : Bool). cond t 1 0 + count_by p xs) (none x) ∙ zero_more (count_by p xs) (unnamed p xs none)

pub few_named : (book : Book) (n : ℕ) → ((channel : ℕ) → is_faulty book channel ≡ false) → named_channels None book ≤ n
few_named book n none =
    let zero_named = unnamed (is_faulty book) (range_with_len 0 12) none in
    omega (arith, zero_named)

-- ---- prints
-- A trace, and then others: where each of these prints what another prints and more, so does the whole.
longer_then : (book : Book) (t : Trace) (lanes : List LaneState) (f g : Control → List LaneState → Trace)
    → ((control : Control) (after : List LaneState) → (rest : List ℤ) × (prints_of (g control after) ≡ prints_of (f control after) ++ rest))
    → (rest : List ℤ) × (prints_of (then_trace book t lanes g) ≡ prints_of (then_trace book t lanes f) ++ rest)
longer_then book (did op more) lanes f g each = longer_then book more (lanes_after book op lanes) f g each
longer_then book (showed place column x more) lanes f g each = longer_then book more (lanes_after book (Show place) lanes) f g each
longer_then book (printed x more) lanes f g each =
    let (rest, is) = longer_then book more lanes f g each in
    (rest, ap (λ prints. x ∷ prints) is)
longer_then book (went_on control) lanes f g each = each control lanes
longer_then book (ended end) lanes f g each = ([], refl)
longer_then book (damaged place column) lanes f g each = ([], refl)

module _ (decode : Decoding) (book : Book) (set : ModuliSet) (code : List Instr) where
  -- what some instructions print, more of them print first
  pub longer : (k n : ℕ) → k ≤ n → (control : Control) (lanes : List LaneState)
      → (rest : List ℤ) × (prints_of (run_shown decode book set code n control lanes) ≡ prints_of (run_shown decode book set code k control lanes) ++ rest)
  longer zero n le control lanes = (prints_of (run_shown decode book set code n control lanes), refl)
  longer (suc k) zero le control lanes = absurd (omega arith)
  longer (suc k) (suc n) le control lanes =
      let acts = acts_of set (instruction_at code control.counter) control in
      let first = shown decode book acts lanes in
      let by = λ (m : ℕ). shown-then decode book acts lanes (acts_of_run set code m) in
      let (rest, is) = longer_then book first lanes (run_shown decode book set code k) (run_shown decode book set code n) (longer k n (omega arith)) in
      (rest, ap prints_of (by n) ∙ is ∙ ap (λ prints. prints ++ rest) (sym (ap prints_of (by k))))

-- ---- what is put
lines-append : (xs ys : List ℤ) → print_lines (xs ++ ys) ≡ print_lines xs ++ print_lines ys
lines-append xs ys = map-append (λ z. line (signed_decimal z)) xs ys

-- no ending has the status of a put that failed
written : (e : Ending) → ending_status e ≡ Unwritten → ⊥
written End h = absurd (cc)
written (Trap kind at) h = absurd (cc)
written (Damage t column) h = absurd (cc)
written Spent h = absurd (cc)

module _ {K : Type 0} (puts : K → List ℕ → K → Type 0) (state : K → SinkState) (old : K) (first more : List (List ℕ)) (e : Ending) where
  -- where a put of the first lines failed, none of the others is put
  pub fails_first : (new : K) → EndsPut puts state old first (ending_status e) Unwritten new → EndsPut puts state old (first ++ more) (ending_status e) Unwritten new
  fails_first new ends =
      elim ends [
        | inl (is, wrote) ↦ absurd (written e (sym is))
        | inr (is, failed) ↦ fails_before puts state old first more (ending_status e) new failed
      ]

  -- and else the others follow
  pub follows : (mid : K) (status result : Status) (new : K) → (status ≡ Unwritten → ⊥) → EndsPut puts state old first (ending_status e) status mid
      → EndsPut puts state mid more status result new → EndsPut puts state old (first ++ more) (ending_status e) result new
  follows mid status result new written ends next =
      elim ends [
        | inl (is, wrote) ↦ puts_after puts state old mid first more (ending_status e) result new wrote (subst (λ (s : Status). EndsPut puts state mid more s result new) is next)
        | inr (is, failed) ↦ absurd (written is)
      ]

module _ {R D K : Type 0} (racks : RackGhosts R) (After : R → List LaneState → List MicroOp → Type 0) (puts : K → List ℕ → K → Type 0) (state : K → SinkState)
    (set : ModuliSet) (code : List Instr) (words input : List ℤ) (rack : R) (decoder : D) (steps : ℕ) (before : K) where
  abbrev loaded : MachineState R D
  loaded = machine_at_start set code words rack decoder input

  abbrev trace : Trace
  trace = trace_from racks radius None steps loaded

  abbrev closing : List (List ℕ)
  closing = ending_line (told_ending (ending_of 0 trace)) ∷ (corrected_line (counts_of set trace) ∷ [])

  abbrev Ends : Trace → Status → K → Type 0
  Ends t result after = EndsPut puts state before (run_lines set t) (run_status t) result after

  -- the lanes are those that the rack was made with
  from_start : racks.lanes_of rack ≡ lanes_at_start set 0 words → (result : Status) (after : K) → Ends trace result after → Ends (trace_of (racks.book_of rack) set code words steps input) result after
  from_start lanes result after ends =
      let by : List LaneState → Trace = run_shown (nearest (radius set) None set) (racks.book_of rack) set code steps (control_at_start input) in
      subst (λ (ls : List LaneState). Ends (by ls) result after) lanes ends

  came_of : (answer : MachineEnding) (new : MachineState R D) (after : K) (ending : Ending) → told_answer answer ≡ Some ending
      → RunsOut racks radius None After puts state steps loaded before answer new after → CameOut racks radius None After puts state steps loaded before answer new after
  came_of machine.Halt new after ending told h = h
  came_of (machine.Trap kind at) new after ending told h = h
  came_of (machine.Damage t column) new after ending told h = h
  came_of machine.Spent new after ending told h = h
  came_of machine.SinkFailed new after ending told h = cc

  counts-are : (old new : Bench R D) → old.corrections ≡ replicate (length set.moduli) 0 → Performed racks After (operations_of trace) (corrections_of None set trace) old new → new.corrections ≡ counts_of set trace
  counts-are old new zeros done =
      let n = length set.moduli in
      let long : length old.corrections ≡ n = ap length zeros ∙ length-replicate n 0 in
      counted set trace new.corrections (done.counts ∙ long)
      (λ i inside.
      done.corrections i (omega (arith, long, inside))
      ∙ ap (λ k. k + corrections_of None set trace i) (ap (λ (ks : List ℕ). get_or ks i 0) zeros ∙ get_or-replicate n i 0 0 inside)
      ∙ omega arith)

  -- the run came out, and its ending and its counts were put
  pub ends_put : racks.lanes_of rack ≡ lanes_at_start set 0 words → (answer : MachineEnding) (new : MachineState R D) (mid after : K) (ending : Ending) (result : Status) → told_answer answer ≡ Some ending
      → RunsOut racks radius None After puts state steps loaded before answer new mid
      → EndsPut puts state mid (ending_line ending ∷ (corrected_line new.channels.corrections ∷ [])) (ending_status ending) result after
      → Ends (trace_of (racks.book_of rack) set code words steps input) result after
  ends_put lanes answer new mid after ending result told runs ends =
      let came = came_of answer new mid ending told runs in
      let last : ending ≡ told_ending (ending_of 0 trace) = told-is (ending_of 0 trace) answer ending came.ending told in
      let counts : new.channels.corrections ≡ counts_of set trace = counts-are loaded.channels new.channels refl came.run.channels in
      let by_counts : EndsPut puts state mid (ending_line ending ∷ (corrected_line (counts_of set trace) ∷ [])) (ending_status ending) result after =
      subst (λ (ks : List ℕ). EndsPut puts state mid (ending_line ending ∷ (corrected_line ks ∷ [])) (ending_status ending) result after) counts ends in
      let by_ending : EndsPut puts state mid closing (run_status trace) result after =
      subst (λ (e : Ending). EndsPut puts state mid (ending_line e ∷ (corrected_line (counts_of set trace) ∷ [])) (ending_status e) result after) last by_counts in
      from_start lanes result after (puts_after puts state before mid (print_lines (prints_of trace)) closing (run_status trace) result after came.prints by_ending)

  -- the rack has come by the operations of the run, where no put of a print failed
  pub has_come : racks.lanes_of rack ≡ lanes_at_start set 0 words → racks.IsUnderWay rack (lanes_at_start set 0 words) [] → (answer : MachineEnding) (new : MachineState R D) (mid : K) (ending : Ending)
      → told_answer answer ≡ Some ending → RunsOut racks radius None After puts state steps loaded before answer new mid
      → After new.channels.rack (lanes_at_start set 0 words) (operations_of (trace_of (racks.book_of rack) set code words steps input))
  has_come lanes made answer new mid ending told runs =
      let come = (came_of answer new mid ending told runs).run.channels.run (lanes_at_start set 0 words) [] made in
      let by : List LaneState → Trace = run_shown (nearest (radius set) None set) (racks.book_of rack) set code steps (control_at_start input) in
      subst (λ (ls : List LaneState). After new.channels.rack (lanes_at_start set 0 words) (operations_of (by ls))) lanes come

  failed_of : (answer : MachineEnding) (new : MachineState R D) (after : K) → told_answer answer ≡ None
      → RunsOut racks radius None After puts state steps loaded before answer new after → (k : ℕ) × FailedAfter racks radius None After puts state steps k loaded before new after
  failed_of machine.Halt new after told h = cc
  failed_of (machine.Trap kind at) new after told h = cc
  failed_of (machine.Damage t column) new after told h = cc
  failed_of machine.Spent new after told h = cc
  failed_of machine.SinkFailed new after told h = h

  -- the put of a print failed
  pub breaks_off : racks.lanes_of rack ≡ lanes_at_start set 0 words → (answer : MachineEnding) (new : MachineState R D) (after : K) → told_answer answer ≡ None
      → RunsOut racks radius None After puts state steps loaded before answer new after
      → Ends (trace_of (racks.book_of rack) set code words steps input) Unwritten after
  breaks_off lanes answer new after told runs =
      let (k, failed) = failed_of answer new after told runs in
      let part = trace_from racks radius None k loaded in
      let more = longer (nearest (radius set) None set) (racks.book_of rack) set code k steps failed.limit (control_at_start input) (racks.lanes_of rack) in
      let front = print_lines (prints_of part) in
      let behind = print_lines more.0 ++ closing in
      let whole : front ++ behind ≡ run_lines set trace =
      sym (ap (λ (prints : List ℤ). print_lines prints ++ closing) more.1 ∙ ap (λ (ls : List (List ℕ)). ls ++ closing) (lines-append (prints_of part) more.0) ∙ append_assoc front (print_lines more.0) closing) in
      let all : BrokeOff puts state before (take (length front) front) after =
      subst (λ (ls : List (List ℕ)). BrokeOff puts state before ls after) (sym (take_all (length front) front (omega arith))) failed.prints in
      from_start lanes Unwritten after
      (subst (λ (ls : List (List ℕ)). EndsPut puts state before ls (run_status trace) Unwritten after) whole
      (fails_before puts state before front behind (run_status trace) after (length front, all)))

  -- whatever came of the run, the rack has the plan and the book that it had
  pub same_rack : (answer : MachineEnding) (new : MachineState R D) (after : K) → RunsOut racks radius None After puts state steps loaded before answer new after
      → (racks.plan_of new.channels.rack ≡ racks.plan_of rack) × (racks.book_of new.channels.rack ≡ racks.book_of rack)
  same_rack machine.Halt new after h = (h.run.channels.plan, h.run.channels.book)
  same_rack (machine.Trap kind at) new after h = (h.run.channels.plan, h.run.channels.book)
  same_rack (machine.Damage t column) new after h = (h.run.channels.plan, h.run.channels.book)
  same_rack machine.Spent new after h = (h.run.channels.plan, h.run.channels.book)
  same_rack machine.SinkFailed new after (k, h) = (h.run.channels.plan, h.run.channels.book)

-- ---- the journal
module _ {K : Type 0} (puts : K → List ℕ → K → Type 0) (state : K → SinkState) (plan : List Turn × ℕ) (book : Book) (set : ModuliSet) (words : List ℤ) (trace : Trace) (old : K) where
  abbrev start : List LaneState
  start = lanes_at_start set 0 words

  -- a put of the run failed before its journal
  pub cut : (n : ℕ) × IsFirst (HasPerformed (operations_of trace)) plan.0 (length start) (operations_of trace) n → (new : K)
      → EndsPut puts state old (run_lines set trace) (run_status trace) Unwritten new → PutsRun puts state plan book set words trace old Unwritten new
  cut (n, first) new ends =
      let entries = take plan.1 (map (entry_of book start (operations_of trace)) (after_turns (operations_of trace) plan.0 (length start) n).journal) in
      record {
        entries = entries;
        are = (n, first, refl);
        put = fails_first puts state old (run_lines set trace) (map journal_line entries) (told_ending (ending_of 0 trace)) new ends;
      }

  -- the journal of the rack is put after the run
  pub whole : (entries : List Entry) → AreEntries plan book set words trace entries → (mid : K) (status result : Status) (new : K) → (status ≡ Unwritten → ⊥)
      → EndsPut puts state old (run_lines set trace) (run_status trace) status mid → EndsPut puts state mid (map journal_line entries) status result new
      → PutsRun puts state plan book set words trace old result new
  whole entries are mid status result new written ends next = record {
    entries = entries;
    are = are;
    put = follows puts state old (run_lines set trace) (map journal_line entries) (told_ending (ending_of 0 trace)) mid status result new written ends next;
  }

-- what is put by the plan and the book of a rack is put by those that it was made with
pub same_run : {K : Type 0} (puts : K → List ℕ → K → Type 0) (state : K → SinkState) (set : ModuliSet) (words : List ℤ) (by : Book → Trace) (old : K) (result : Status) (new : K)
    (plan made : List Turn × ℕ) (book given : Book) → plan ≡ made → book ≡ given → PutsRun puts state plan book set words (by book) old result new
    → PutsRun puts state made given set words (by given) old result new
same_run puts state set words by old result new plan made book given same_plan same_book h =
    subst (λ (b : Book). PutsRun puts state made b set words (by b) old result new) same_book
    (subst (λ (p : List Turn × ℕ). PutsRun puts state p book set words (by book) old result new) same_plan h)
