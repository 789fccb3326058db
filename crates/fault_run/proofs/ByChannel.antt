-- The fault run of a finished run, decided column by column, is that which is folded channel by channel.
use Rattle.std.proofs.Common.{◌≡◌, ℕ, zero, suc, ◌+◌, ◌<◌, ◌&&◌, ◌⊎◌, ℤ, Bool, false, cond, List, [], ◌∷◌, map, take, length, slice_index, count_by, Option, None, Some, inl, inr, refl, sym, ap, ◌∙◌, subst, arith}
use Rattle.std.specs.List.{range_with_len}
use Rattle.std.specs.Option.{option_map_or}
use Rattle.std.proofs.lemmas.List.Sums.{sum_by-cons}
use Rattle.moduli_sets.specs.Set.{ModuliSet}
use Rattle.channel_alu.specs.declared.operation.Place.{Place}
use Rattle.channel_alu.specs.declared.operation.MicroOp.{MicroOp}
use Rattle.channel_alu.specs.declared.operation.MicroOp.TheVariants.{Show}
use Rattle.fault_book.specs.Book.{Book}
use Rattle.channel_lane.specs.Lane.{LaneState, lane_after}
use Rattle.lane_bank.specs.Bank.{column_of, lanes_after}
use Rattle.shown_run.specs.Trace.{Trace, did, showed, printed, went_on, ended, damaged, damage, corrections_of, ending_of, is_corrected, operations_of, prints_of}
use Rattle.shown_run.specs.Runs.{Decoding, faulty}
use Rattle.fault_run.specs.FaultRun.{IsBad, IsFaultRun, IsFirstBad, NoneIsBad, answers_to, column_at, corrected_before, prints_before, shows_at}
use Rattle.fault_run.specs.Moments.{IsDamaged}

-- ---- an operation in front
shifted : (book : Book) (op : MicroOp) (ops : List MicroOp) (lanes : List LaneState) (t : ℕ)
    → map (λ lane. slice_index (answers_to book (op ∷ ops) lane) (suc t)) lanes ≡ map (λ lane. slice_index (answers_to book ops lane) t) (lanes_after book op lanes)
shifted book op ops [] t = refl
shifted book op ops (lane ∷ lanes) t = ap (λ rest. slice_index (answers_to book ops (lane_after book op lane)) t ∷ rest) (shifted book op ops lanes t)

counted : (p q : ℕ → Bool) (b a n : ℕ) → ((s : ℕ) → p (b + s) ≡ q (a + s)) → count_by p (range_with_len b n) ≡ count_by q (range_with_len a n)
counted p q b a zero same = refl
counted p q b a (suc n) same =
    let here : p b ≡ q a = ap p (omega arith) ∙ same 0 ∙ ap q (omega arith) in
    let rest = counted p q (b + 1) (a + 1) n (λ s. ap p (omega arith) ∙ same (suc s) ∙ ap q (omega arith)) in
    sum_by-cons (λ y. cond (p y) 1 0) b (range_with_len (b + 1) n) ∙ ap (λ t. cond t 1 0 + count_by p (range_with_len (b + 1) n)) here ∙ ap (λ c. cond (q a) 1 0 + c) rest
    ∙ sym (sum_by-cons (λ y. cond (q y) 1 0) a (range_with_len (a + 1) n))

told_or_not : (o : Option ℤ) → (o ≡ None) ⊎ ((x : ℤ) × (o ≡ Some x))
told_or_not None = inl refl
told_or_not (Some x) = inr (x, refl)

module _ (decode : Decoding) (book : Book) where
  -- a run is an operation, and then another run from the lanes after it
  record Follows (lanes : List LaneState) (run : Trace) (after : List LaneState) (more : Trace) : Type 0 where
    shows : (t : ℕ) → shows_at run (suc t) ≡ shows_at more t
    columns : (t : ℕ) → column_at decode book lanes run (suc t) ≡ column_at decode book after more t

  did_follows : (op : MicroOp) (more : Trace) (lanes : List LaneState) → Follows lanes (did op more) (lanes_after book op lanes) more
  did_follows op more lanes = record { shows = λ t. refl; columns = shifted book op (operations_of more) lanes }

  showed_follows : (place : Place) (column : List ℕ) (x : ℤ) (more : Trace) (lanes : List LaneState) → Follows lanes (showed place column x more) (lanes_after book (Show place) lanes) more
  showed_follows place column x more lanes = record { shows = λ t. refl; columns = shifted book (Show place) (operations_of more) lanes }

  bad_by : (lanes after : List LaneState) (run more : Trace) (t s : ℕ) → shows_at run t ≡ shows_at more s → column_at decode book lanes run t ≡ column_at decode book after more s
      → IsBad decode book lanes run t → IsBad decode book after more s
  bad_by lanes after run more t s shows column h = record { is_column = sym shows ∙ h.is_column; unexplained = ap decode (sym column) ∙ h.unexplained }

  module _ (lanes after : List LaneState) (run more : Trace) (follows : Follows lanes run after more) where
    bad_before : (t : ℕ) → IsBad decode book after more t → IsBad decode book lanes run (suc t)
    bad_before t = bad_by after lanes more run t (suc t) (sym (follows.shows t)) (sym (follows.columns t))

    bad_behind : (t : ℕ) → IsBad decode book lanes run (suc t) → IsBad decode book after more t
    bad_behind t = bad_by lanes after run more (suc t) t (follows.shows t) (follows.columns t)

    none_behind : NoneIsBad decode book lanes run → NoneIsBad decode book after more
    none_behind none t bad = none (suc t) (bad_before t bad)

    first_behind : (t : ℕ) → IsFirstBad decode book lanes run (suc t) → IsFirstBad decode book after more t
    first_behind t h = record { bad = bad_behind t h.bad; first = λ s before bad. h.first (suc s) (omega (arith, before)) (bad_before s bad) }

    -- where the first operation shows no bad column, the first bad one is among those behind
    find_behind : ¬ IsBad decode book lanes run 0 → NoneIsBad decode book after more ⊎ ((t : ℕ) × IsFirstBad decode book after more t)
        → NoneIsBad decode book lanes run ⊎ ((t : ℕ) × IsFirstBad decode book lanes run t)
    find_behind not (inl none) = inl (λ t. each t)
      where
        each : (t : ℕ) → ¬ IsBad decode book lanes run t
        each zero bad = not bad
        each (suc t) bad = none t (bad_behind t bad)
    find_behind not (inr (t, h)) = inr (suc t, record { bad = bad_before t h.bad; first = λ s. each s })
      where
        each : (s : ℕ) → s < suc t → ¬ IsBad decode book lanes run s
        each zero before bad = not bad
        each (suc s) before bad = h.first s (omega (arith, before)) (bad_behind s bad)

    corrected_behind : (erased : Option ℕ) (set : ModuliSet) (channel t : ℕ)
        → corrected_before decode book lanes run erased set channel (suc t)
        ≡ cond (shows_at run 0 && option_map_or (is_corrected erased set channel (column_at decode book lanes run 0)) (decode (column_at decode book lanes run 0)) false) 1 0
        + corrected_before decode book after more erased set channel t
    corrected_behind erased set channel t =
        let is : Bool → List ℕ → Bool = λ shows column. shows && option_map_or (is_corrected erased set channel column) (decode column) false in
        let p : ℕ → Bool = λ s. is (shows_at run s) (column_at decode book lanes run s) in
        let q : ℕ → Bool = λ s. is (shows_at more s) (column_at decode book after more s) in
        sum_by-cons (λ y. cond (p y) 1 0) 0 (range_with_len (0 + 1) t)
        ∙ ap (λ c. cond (p 0) 1 0 + c)
        (counted p q (0 + 1) 0 t (λ s. ap p (omega arith) ∙ ap (λ b. is b (column_at decode book lanes run (suc s))) (follows.shows s) ∙ ap (is (shows_at more s)) (follows.columns s) ∙ ap q (omega arith)))

  -- ---- the first bad column
  pub find : (run : Trace) (lanes : List LaneState) → NoneIsBad decode book lanes run ⊎ ((t : ℕ) × IsFirstBad decode book lanes run t)
  find (did op more) lanes =
      find_behind lanes (lanes_after book op lanes) (did op more) more (did_follows op more lanes) (λ bad. let no = bad.is_column in cc) (find more (lanes_after book op lanes))
  find (showed place v x more) lanes =
      elim (told_or_not (decode (column_of book place lanes))) [
        | inl none ↦ inr (0, record { bad = record { is_column = refl; unexplained = none }; first = λ s before. absurd (omega (arith, before)) })
        | inr (y, told) ↦ find_behind lanes (lanes_after book (Show place) lanes) (showed place v x more) more (showed_follows place v x more lanes)
            (λ bad. let no = sym told ∙ bad.unexplained in cc) (find more (lanes_after book (Show place) lanes))
      ]
  find (printed x more) lanes =
      elim (find more lanes) [
        | inl none ↦ inl (λ t bad. none t (bad_by lanes lanes (printed x more) more t t refl refl bad))
        | inr (t, h) ↦ inr (t, record { bad = bad_by lanes lanes more (printed x more) t t refl refl h.bad; first = λ s before bad. h.first s before (bad_by lanes lanes (printed x more) more s s refl refl bad) })
      ]
  find (went_on control) lanes = inl (λ t bad. let no = bad.is_column in cc)
  find (ended end) lanes = inl (λ t bad. let no = bad.is_column in cc)
  find (damaged place column) lanes = inl (λ t bad. let no = bad.is_column in cc)

  -- ---- the two ways, where the first operation has any number
  module _ (erased : Option ℕ) (set : ModuliSet) where
    record Whole (lanes : List LaneState) (run faulted : Trace) : Type 0 where
      prints : prints_of faulted ≡ prints_of run
      ending : (k : ℕ) → ending_of k faulted ≡ ending_of k run
      operations : operations_of faulted ≡ operations_of run
      corrections : (channel : ℕ) → corrections_of erased set faulted channel ≡ corrected_before decode book lanes run erased set channel (length (operations_of run))

    record CutAt (lanes : List LaneState) (run : Trace) (t : ℕ) (faulted : Trace) : Type 0 where
      prints : prints_of faulted ≡ prints_before t run
      ending : (k : ℕ) → ending_of k faulted ≡ damage (k + t) (column_at decode book lanes run t)
      operations : operations_of faulted ≡ take (suc t) (operations_of run)
      corrections : (channel : ℕ) → corrections_of erased set faulted channel ≡ corrected_before decode book lanes run erased set channel t

    -- a column that is told, in front
    module _ (place : Place) (v : List ℕ) (x : ℤ) (more : Trace) (lanes : List LaneState) (y : ℤ) (told : decode (column_of book place lanes) ≡ Some y) where
      abbrev after : List LaneState
      after = lanes_after book (Show place) lanes

      abbrev run : Trace
      run = showed place v x more

      corrected_more : (channel t c : ℕ) → c ≡ corrected_before decode book after more erased set channel t
          → cond (is_corrected erased set channel (column_of book place lanes) y) 1 0 + c ≡ corrected_before decode book lanes run erased set channel (suc t)
      corrected_more channel t c h =
          ap (λ n. cond (is_corrected erased set channel (column_of book place lanes) y) 1 0 + n) h
          ∙ ap (λ o. cond (option_map_or (is_corrected erased set channel (column_of book place lanes)) o false) 1 0 + corrected_before decode book after more erased set channel t) (sym told)
          ∙ sym (corrected_behind lanes after run more (showed_follows place v x more lanes) erased set channel t)

      whole_told : Whole after more (faulty decode book more after) → Whole lanes run (showed place (column_of book place lanes) y (faulty decode book more after))
      whole_told h = record {
        prints = h.prints;
        ending = λ k. h.ending (k + 1);
        operations = ap (λ ops. Show place ∷ ops) h.operations;
        corrections = λ channel. corrected_more channel (length (operations_of more)) _ (h.corrections channel);
      }

      cut_told : (t : ℕ) → CutAt after more t (faulty decode book more after) → CutAt lanes run (suc t) (showed place (column_of book place lanes) y (faulty decode book more after))
      cut_told t h = record {
        prints = h.prints;
        ending = λ k. h.ending (k + 1) ∙ ap (λ n. damage n (column_at decode book after more t)) (omega arith) ∙ ap (damage (k + suc t)) (sym (shifted book (Show place) (operations_of more) lanes t));
        operations = ap (λ ops. Show place ∷ ops) h.operations;
        corrections = λ channel. corrected_more channel t _ (h.corrections channel);
      }

    whole : (run : Trace) (lanes : List LaneState) → ¬ IsDamaged run → NoneIsBad decode book lanes run → Whole lanes run (faulty decode book run lanes)
    whole (did op more) lanes sound none =
        let after = lanes_after book op lanes in
        let follows = did_follows op more lanes in
        let h = whole more after sound (none_behind lanes after (did op more) more follows none) in
        record {
          prints = h.prints;
          ending = λ k. h.ending (k + 1);
          operations = ap (λ ops. op ∷ ops) h.operations;
          corrections = λ channel. omega (arith, h.corrections channel, corrected_behind lanes after (did op more) more follows erased set channel (length (operations_of more)));
        }
    whole (showed place v x more) lanes sound none =
        let after = lanes_after book (Show place) lanes in
        let column = column_of book place lanes in
        let By : Option ℤ → Type 0 = λ o. Whole lanes (showed place v x more) (option_map_or (λ y. showed place column y (faulty decode book more after)) o (damaged place column)) in
        elim (told_or_not (decode column)) [
          | inl bad ↦ absurd (none 0 (record { is_column = refl; unexplained = bad }))
          | inr (y, told) ↦ subst By (sym told)
              (whole_told place v x more lanes y told (whole more after sound (none_behind lanes after (showed place v x more) more (showed_follows place v x more lanes) none)))
        ]
    whole (printed x more) lanes sound none =
        let h = whole more lanes sound (λ t bad. none t (bad_by lanes lanes more (printed x more) t t refl refl bad)) in
        record { prints = ap (λ xs. x ∷ xs) h.prints; ending = h.ending; operations = h.operations; corrections = h.corrections }
    whole (went_on control) lanes sound none = record { prints = refl; ending = λ k. refl; operations = refl; corrections = λ channel. refl }
    whole (ended end) lanes sound none = record { prints = refl; ending = λ k. refl; operations = refl; corrections = λ channel. refl }
    whole (damaged place column) lanes sound none = absurd (sound tt)

    cut : (run : Trace) (lanes : List LaneState) → ¬ IsDamaged run → (t : ℕ) → IsFirstBad decode book lanes run t → CutAt lanes run t (faulty decode book run lanes)
    cut (did op more) lanes sound zero first = let no = first.bad.is_column in cc
    cut (did op more) lanes sound (suc t) first =
        let after = lanes_after book op lanes in
        let follows = did_follows op more lanes in
        let h = cut more after sound t (first_behind lanes after (did op more) more follows t first) in
        record {
          prints = h.prints;
          ending = λ k. h.ending (k + 1) ∙ ap (λ n. damage n (column_at decode book after more t)) (omega arith) ∙ ap (damage (k + suc t)) (sym (shifted book op (operations_of more) lanes t));
          operations = ap (λ ops. op ∷ ops) h.operations;
          corrections = λ channel. omega (arith, h.corrections channel, corrected_behind lanes after (did op more) more follows erased set channel t);
        }
    cut (showed place v x more) lanes sound zero first =
        let column = column_of book place lanes in
        let told_so : ℤ → Trace = λ y. showed place column y (faulty decode book more (lanes_after book (Show place) lanes)) in
        let By : Option ℤ → Type 0 = λ o. CutAt lanes (showed place v x more) 0 (option_map_or told_so o (damaged place column)) in
        subst By (sym first.bad.unexplained) (record { prints = refl; ending = λ k. ap (λ n. damage n column) (omega arith); operations = refl; corrections = λ channel. refl })
    cut (showed place v x more) lanes sound (suc t) first =
        let after = lanes_after book (Show place) lanes in
        let column = column_of book place lanes in
        let By : Option ℤ → Type 0 = λ o. CutAt lanes (showed place v x more) (suc t) (option_map_or (λ y. showed place column y (faulty decode book more after)) o (damaged place column)) in
        elim (told_or_not (decode column)) [
          | inl bad ↦ absurd (first.first 0 (omega arith) (record { is_column = refl; unexplained = bad }))
          | inr (y, told) ↦ subst By (sym told)
              (cut_told place v x more lanes y told t (cut more after sound t (first_behind lanes after (showed place v x more) more (showed_follows place v x more lanes) t first)))
        ]
    cut (printed x more) lanes sound t first =
        let h = cut more lanes sound t (record {
          bad = bad_by lanes lanes (printed x more) more t t refl refl first.bad;
          first = λ s before bad. first.first s before (bad_by lanes lanes more (printed x more) s s refl refl bad);
        }) in
        record { prints = ap (λ xs. x ∷ xs) h.prints; ending = h.ending; operations = h.operations; corrections = h.corrections }
    cut (went_on control) lanes sound t first = let no = first.bad.is_column in cc
    cut (ended end) lanes sound t first = let no = first.bad.is_column in cc
    cut (damaged place column) lanes sound t first = absurd (sound tt)

    pub IsFaultRun-faulty : (run : Trace) (lanes : List LaneState) → ¬ IsDamaged run → IsFaultRun decode book lanes run erased set (faulty decode book run lanes)
    IsFaultRun-faulty run lanes sound = record {
      whole = λ none. let h = whole run lanes sound none in record { prints = h.prints; ending = h.ending 0; operations = h.operations; corrections = h.corrections };
      cut = λ t first.
          let h = cut run lanes sound t first in
          let from_zero : 0 + t ≡ t = omega arith in
          let one_more : suc t ≡ t + 1 = omega arith in
          record {
            prints = h.prints;
            ending = h.ending 0 ∙ ap (λ n. damage n (column_at decode book lanes run t)) from_zero;
            operations = h.operations ∙ ap (λ n. take n (operations_of run)) one_more;
            corrections = h.corrections;
          };
    }
