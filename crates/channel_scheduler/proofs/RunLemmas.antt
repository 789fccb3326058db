-- Runs of a rack with queues: from one call to the next.
use Rattle.std.proofs.Common.{◌≡◌, ℕ, zero, suc, ◌+◌, ◌-◌, ◌%◌, ◌<◌, ◌≤◌, Bool, true, false, not, ◌&&◌, ◌||◌, eqb, ltb, All, List, [], ◌∷◌, ◌++◌, map, length, take, drop, replicate, get_or, refl, sym, ap, ◌∙◌, subst, inl, inr, arith}
use Rattle.std.specs.List.{list_any}
use Rattle.std.proofs.lemmas.Bool.{cases_lt, or_parts, or_left, or_right, and_from, lt-ltb, not_from_false, not_from_true, not-false, and_left, and_right, or_from, false≢true}
use Rattle.std.proofs.Math.Nat.{zero-mod}
use Rattle.std.proofs.lemmas.List.{length_push, drop-append-le, take_all, get_or_push, length-replicate, get_or-replicate}
use Rattle.std.proofs.lemmas.List.Elements.{All-get_or, All-from_get_or, All-weaker, All-replicate}
use Rattle.std.proofs.lemmas.List.Folds.{list_any_none, list_any_at, list_any-append}
use Rattle.channel_alu.specs.declared.operation.MicroOp.{MicroOp}
use Rattle.fault_book.specs.Book.{Book}
use Rattle.fault_book.specs.Turns.{IsTurnOf}
use Rattle.channel_lane.specs.Lane.{LaneState, lane_after_all}
use Rattle.lane_bank.specs.Bank.{lane_at}
use Rattle.fault_book.specs.declared.schedule.Turn.{Turn}
use Rattle.fault_book.specs.declared.schedule.Turn.TheVariants.{Control, Lane}
use Rattle.channel_lane.specs.Meaning.{is_show}
use Rattle.channel_scheduler.specs.Counts as counts
use Rattle.channel_scheduler.specs.Counts.{Standing, no_turn, performed_by, backlog, is_open, can_issue, after_issue, after_performing, after_turn, after_turns, turn_at, HasIssued, HasPerformed}
use Rattle.channel_scheduler.specs.Channels.{ChannelState, no_operations, is_behind, is_blocked, is_control, next_turn, must_wait, passed, passes, issued, RunsWhile, caught_up, new_channels}
use Rattle.channel_scheduler.specs.Moments.{operation_at, entry_of, Holds, HasUsed, StandsAt, IsFirst, IsMoment, IsUnderWay, HasEnded}
use Rattle.channel_scheduler.proofs.CatchingLemmas.{caught_up-settled}
use Rattle.channel_scheduler.proofs.CountLemmas.{IsSound, sound-turns, after_issue-is, all_issued_gate, same_turns, issued_stays, open-longer}
use Rattle.channel_scheduler.proofs.PlaceLemmas.{next_turn-at, HasUsed-more}
use Rattle.channel_scheduler.proofs.StandingLemmas.{backlog-more, Holds-issued, Holds-longer, Holds-lanes}
use Rattle.channel_scheduler.proofs.QueueLemmas.{none_at}
use Rattle.channel_scheduler.proofs.TurnLemmas.{blocked_agrees, behind_some, settled_all, open_not, issued_from_performed, closed_stays, Holds-advanced, StandsAt-pass}

-- ---- waiting until control can issue
-- on the way to a list whose last operation is not issued yet
record IsWaiting (book : Book) (schedule : List Turn) (start : List LaneState) (ops : List MicroOp) (m : ℕ) (s : ChannelState) : Type 0 where
  stands : StandsAt book schedule start ops m s
  issued_is : (after_turns ops schedule (length start) m).issued + 1 ≡ length ops
  closed : is_open ops (after_turns ops schedule (length start) m) ≡ false
  before : (k : ℕ) → k < m → HasIssued ops (after_turns ops schedule (length start) k) → ⊥

before_more : (P : ℕ → Type 0) (m : ℕ) → (P m → ⊥) → ((k : ℕ) → k < m → P k → ⊥) → (k : ℕ) → k < suc m → P k → ⊥
before_more P m here before k h p =
    elim (cases_lt k m) [
      | inl below ↦ before k below p
      | inr above ↦ let same : k ≡ m = omega arith in here (subst P same p)
    ]

must_wait_blocked : (s : ChannelState) → must_wait s ≡ true → next_turn s ≡ Control → is_blocked s ≡ true
must_wait_blocked s w e = ap (λ turn. not (is_control turn) || is_blocked s) (sym e) ∙ w

blocked_gate : (ops : List MicroOp) (t : Standing) → counts.is_blocked t ≡ true → can_issue ops t ≡ false
blocked_gate ops t e =
    and_right (ltb t.issued (length ops)) (not (counts.is_blocked t) && not (is_open ops t))
    (and_left (not (counts.is_blocked t)) (not (is_open ops t)) (not_from_true (counts.is_blocked t) e))

IsWaiting-more : (book : Book) (schedule : List Turn) (start : List LaneState) (ops : List MicroOp) (m : ℕ) (s : ChannelState) → must_wait s ≡ true → IsWaiting book schedule start ops m s → IsWaiting book schedule start ops (suc m) (passed book s)
IsWaiting-more book schedule start ops m s w at =
    let t = after_turns ops schedule (length start) m in
    let sound = sound-turns ops schedule (length start) m in
    let here = at.stands in
    let same = next_turn-at schedule (length start) m s here.uses in
    let gate : next_turn s ≡ Control → can_issue ops t ≡ false = λ e. blocked_gate ops t (sym (blocked_agrees book start ops t s sound here.holds) ∙ must_wait_blocked s w e) in
    let gate_at : turn_at schedule (length start) m ≡ Control → can_issue ops t ≡ false = λ e. gate (same ∙ e) in
    let count = at.issued_is in
    let stays = issued_stays ops t (turn_at schedule (length start) m) gate_at in
    record {
      stands = StandsAt-pass book schedule start ops m s gate here;
      issued_is = omega arith;
      closed = closed_stays ops t (turn_at schedule (length start) m) gate_at at.closed;
      before = before_more (λ k. HasIssued ops (after_turns ops schedule (length start) k)) m (λ p. let all = p.0 in omega arith) at.before;
    }

waits-run : (book : Book) (schedule : List Turn) (start : List LaneState) (ops : List MicroOp) (m k : ℕ) (s : ChannelState) → ((j : ℕ) → j < k → must_wait (passes book j s) ≡ true) → IsWaiting book schedule start ops m s → (n : ℕ) × IsWaiting book schedule start ops n (passes book k s)
waits-run book schedule start ops m zero s tests at = (m, at)
waits-run book schedule start ops m (suc k) s tests at =
    let r = waits-run book schedule start ops m k s (λ j h. tests j (omega arith)) at in
    (suc r.0, IsWaiting-more book schedule start ops r.0 (passes book k s) (tests k (omega arith)) r.1)

-- from the end of the list so far
IsWaiting-start : (book : Book) (schedule : List Turn) (start : List LaneState) (ops : List MicroOp) (op : MicroOp) (n : ℕ) (s : ChannelState) → StandsAt book schedule start ops n s → IsFirst (HasIssued ops) schedule (length start) ops n → IsWaiting book schedule start (ops ++ op ∷ []) n s
IsWaiting-start book schedule start ops op n s at first =
    let channels = length start in
    let t = after_turns ops schedule channels n in
    let sound = sound-turns ops schedule channels n in
    let same = same_turns ops op schedule channels n first.1 in
    let count = length_push ops op in
    let all = first.0.0 in
    record {
      stands = record {
        holds = subst (λ x. Holds book start (ops ++ op ∷ []) x s) (sym same) (Holds-longer book start ops op t s sound at.holds);
        uses = at.uses;
      };
      issued_is = let e = ap (λ x. x.issued) same in omega arith;
      closed = ap (is_open (ops ++ op ∷ [])) same ∙ (open-longer ops op t sound.issued_in ∙ first.0.1);
      before = λ k h p.
          let earlier = ap (λ x. x.issued) (same_turns ops op schedule channels k (λ j hj. first.1 j (omega arith))) in
          let fits = (sound-turns ops schedule channels k).issued_in in
          let whole = p.0 in
          omega arith;
    }

-- ---- the turn that issues
-- the whole list is issued
record IsIssued (P : Standing → Type 0) (book : Book) (schedule : List Turn) (start : List LaneState) (ops : List MicroOp) (m : ℕ) (s : ChannelState) : Type 0 where
  stands : StandsAt book schedule start ops m s
  all : (after_turns ops schedule (length start) m).issued ≡ length ops
  before : (k : ℕ) → k < m → P (after_turns ops schedule (length start) k) → ⊥

ready_turn : (s : ChannelState) → must_wait s ≡ false → (next_turn s ≡ Control) × (is_blocked s ≡ false)
ready_turn s w =
    let parts = or_parts (not (is_control (next_turn s))) (is_blocked s) w in
    (control (next_turn s) (not-false (is_control (next_turn s)) parts.0), parts.1)
  where
    control : (turn : Turn) → is_control turn ≡ true → turn ≡ Control
    control Control h = refl
    control (Lane i) h = absurd (false≢true h)

free_gate : (ops : List MicroOp) (t : Standing) → t.issued < length ops → counts.is_blocked t ≡ false → is_open ops t ≡ false → can_issue ops t ≡ true
free_gate ops t h free closed =
    and_from (ltb t.issued (length ops)) (not (counts.is_blocked t) && not (is_open ops t)) (lt-ltb t.issued (length ops) h)
    (and_from (not (counts.is_blocked t)) (not (is_open ops t)) (not_from_false (counts.is_blocked t) free) (not_from_false (is_open ops t) closed))

-- what is so after the turn that issues the last operation
record IsJust (book : Book) (schedule : List Turn) (start : List LaneState) (ops : List MicroOp) (op : MicroOp) (m : ℕ) (s : ChannelState) : Type 0 where
  now : IsIssued (HasIssued (ops ++ op ∷ [])) book schedule start (ops ++ op ∷ []) m s
  closed : is_show op ≡ false → is_open (ops ++ op ∷ []) (after_turns (ops ++ op ∷ []) schedule (length start) m) ≡ false

pub closed_issue : (ops : List MicroOp) (channels : ℕ) (t : Standing) (op : MicroOp) → IsSound (ops ++ op ∷ []) channels t → t.issued ≡ length ops → is_show op ≡ false → is_open (ops ++ op ∷ []) t ≡ false → is_open (ops ++ op ∷ []) (after_issue t) ≡ false
closed_issue ops channels t op sound all written closed =
    let whole = ops ++ op ∷ [] in
    let count = length_push ops op in
    let op_is : operation_at whole t.issued ≡ op = get_or_push ops op _ t.issued (sym all) in
    list_any_none (λ done. list_any is_show (backlog whole (t.issued + 1) done)) t.performed
    (All-from_get_or (λ done. list_any is_show (backlog whole (t.issued + 1) done) ≡ false) t.performed 0 (λ i k.
    let done = get_or t.performed i 0 in
    let inside : done ≤ t.issued = All-get_or (λ d. d ≤ t.issued) t.performed i 0 k sound.done_in in
    ap (list_any is_show) (backlog-more whole t.issued done inside (omega arith) ∙ ap (λ o. backlog whole t.issued done ++ o ∷ []) op_is)
    ∙ (list_any-append is_show (backlog whole t.issued done) (op ∷ [])
    ∙ or_from (list_any is_show (backlog whole t.issued done)) (list_any is_show (op ∷ [])) (none_at (λ d. list_any is_show (backlog whole t.issued d)) t.performed i 0 k closed) (or_from (is_show op) false written refl))))

IsJust-from : (book : Book) (schedule : List Turn) (start : List LaneState) (ops : List MicroOp) (op : MicroOp) (m : ℕ) (s : ChannelState) → must_wait s ≡ false → IsWaiting book schedule start (ops ++ op ∷ []) m s → IsJust book schedule start ops op (suc m) (issued op s)
IsJust-from book schedule start ops op m s w at =
    let channels = length start in
    let whole = ops ++ op ∷ [] in
    let t = after_turns whole schedule channels m in
    let sound = sound-turns whole schedule channels m in
    let here = at.stands in
    let length_is = length_push ops op in
    let issued_is = at.issued_is in
    let all : t.issued ≡ length ops = omega arith in
    let below : t.issued < length whole = omega arith in
    let ready = ready_turn s w in
    let control : turn_at schedule channels m ≡ Control = sym (next_turn-at schedule channels m s here.uses) ∙ ready.0 in
    let free = sym (blocked_agrees book start whole t s sound here.holds) ∙ ready.1 in
    let step : after_turn whole t (turn_at schedule channels m) ≡ after_issue t = ap (after_turn whole t) control ∙ after_issue-is whole t (free_gate whole t below free at.closed) in
    let pushed : ChannelState = record s { queues = map (λ queue. queue ++ op ∷ []) s.queues } in
    let held = Holds-issued book start whole t s op below (get_or_push ops op _ t.issued (sym all)) sound here.holds in
    let uses_is : HasUsed schedule channels m pushed = record { schedule_is = here.uses.schedule_is; used = here.uses.used; round = here.uses.round } in
    record {
      now = record {
        stands = record {
          holds = subst (λ x. Holds book start whole x (issued op s)) (sym step) (Holds-advanced book start whole (after_issue t) pushed held);
          uses = HasUsed-more schedule channels m pushed held.queues_count uses_is;
        };
        all = ap (λ x. x.issued) step ∙ issued_is;
        before = before_more (λ k. HasIssued whole (after_turns whole schedule channels k)) m (λ p. let whole_is = p.0 in omega arith) at.before;
      };
      closed = λ written. ap (is_open whole) step ∙ closed_issue ops channels t op sound all written at.closed;
    }

-- ---- turns until nothing waits
IsIssued-more : (P : Standing → Type 0) (book : Book) (schedule : List Turn) (start : List LaneState) (ops : List MicroOp) (m : ℕ) (s : ChannelState) → ((t : Standing) (i : ℕ) → IsSound ops (length start) t → t.issued ≡ length ops → i < length start → performed_by t i < t.issued → P t → ⊥) → is_behind s ≡ true → IsIssued P book schedule start ops m s → IsIssued P book schedule start ops (suc m) (passed book s)
IsIssued-more P book schedule start ops m s not_yet b at =
    let channels = length start in
    let t = after_turns ops schedule channels m in
    let sound = sound-turns ops schedule channels m in
    let gate : can_issue ops t ≡ false = all_issued_gate ops t at.all in
    let some = behind_some book start ops t s sound at.stands.holds b in
    record {
      stands = StandsAt-pass book schedule start ops m s (λ e. gate) at.stands;
      all = issued_stays ops t (turn_at schedule channels m) (λ e. gate) ∙ at.all;
      before = before_more (λ k. P (after_turns ops schedule channels k)) m (not_yet t some.0 sound at.all some.1 some.2) at.before;
    }

drain-run : (P : Standing → Type 0) (book : Book) (schedule : List Turn) (start : List LaneState) (ops : List MicroOp) (m k : ℕ) (s : ChannelState) → ((t : Standing) (i : ℕ) → IsSound ops (length start) t → t.issued ≡ length ops → i < length start → performed_by t i < t.issued → P t → ⊥) → ((j : ℕ) → j < k → is_behind (passes book j s) ≡ true) → IsIssued P book schedule start ops m s → (n : ℕ) × IsIssued P book schedule start ops n (passes book k s)
drain-run P book schedule start ops m zero s not_yet tests at = (m, at)
drain-run P book schedule start ops m (suc k) s not_yet tests at =
    let r = drain-run P book schedule start ops m k s not_yet (λ j h. tests j (omega arith)) at in
    (suc r.0, IsIssued-more P book schedule start ops r.0 (passes book k s) not_yet (tests k (omega arith)) r.1)

-- an open Show: a channel that has not performed all has not performed the last
pub show_not_yet : (channels : ℕ) (ops : List MicroOp) (op : MicroOp) → is_show op ≡ true → (t : Standing) (i : ℕ) → IsSound (ops ++ op ∷ []) channels t → t.issued ≡ length (ops ++ op ∷ []) → i < channels → performed_by t i < t.issued → HasIssued (ops ++ op ∷ []) t → ⊥
show_not_yet channels ops op show t i sound all inside below p =
    let whole = ops ++ op ∷ [] in
    let count = length_push ops op in
    let done = performed_by t i in
    let performed_count = sound.count in
    let last : backlog whole t.issued done ≡ drop done ops ++ op ∷ [] = ap (drop done) (take_all t.issued whole (omega arith)) ∙ drop-append-le done ops (op ∷ []) (omega arith) in
    let shown : list_any is_show (backlog whole t.issued done) ≡ true =
    ap (list_any is_show) last ∙ (list_any-append is_show (drop done ops) (op ∷ []) ∙ or_right (list_any is_show (drop done ops)) (list_any is_show (op ∷ [])) (or_left (is_show op) false show)) in
    false≢true (sym p.1 ∙ list_any_at (λ d. list_any is_show (backlog whole t.issued d)) t.performed i 0 (omega arith) shown)

performed_not_yet : (channels : ℕ) (ops : List MicroOp) (t : Standing) (i : ℕ) → IsSound ops channels t → t.issued ≡ length ops → i < channels → performed_by t i < t.issued → HasPerformed ops t → ⊥
performed_not_yet channels ops t i sound all inside below p =
    let count = sound.count in
    let same = All-get_or (λ done. done ≡ length ops) t.performed i 0 (omega arith) p.1 in
    omega arith

-- ---- the calls of a rack
moment-at : (P : Standing → Type 0) (book : Book) (schedule : List Turn) (start : List LaneState) (ops : List MicroOp) (n : ℕ) (s : ChannelState) → StandsAt book schedule start ops n s → IsFirst P schedule (length start) ops n → IsMoment P book s start ops
moment-at P book schedule start ops n s at first =
    subst (λ sch. (m : ℕ) × StandsAt book sch start ops m s × IsFirst P sch (length start) ops m) (sym at.uses.schedule_is) (n, at, first)

way-at : (book : Book) (s : ChannelState) (start : List LaneState) (ops : List MicroOp) → IsMoment (HasIssued ops) book s start ops → IsUnderWay book s start ops
way-at book s start ops m = record {
  lanes = Holds-lanes book start ops (after_turns ops s.schedule (length start) m.0) s m.2.0.0 m.1.holds;
  moment = m;
}

end-at : (book : Book) (s : ChannelState) (start : List LaneState) (ops : List MicroOp) → IsMoment (HasPerformed ops) book s start ops → HasEnded book s start ops
end-at book s start ops m = record {
  lanes = Holds-lanes book start ops (after_turns ops s.schedule (length start) m.0) s m.2.0.0 m.1.holds;
  moment = m;
}

just_issued : (book : Book) (s mid : ChannelState) (start : List LaneState) (ops : List MicroOp) (op : MicroOp) → RunsWhile must_wait book s mid → must_wait mid ≡ false → IsUnderWay book s start ops → (n : ℕ) × IsJust book s.schedule start ops op n (issued op mid)
just_issued book s mid start ops op run ready way =
    let m = way.moment in
    let waited = waits-run book s.schedule start (ops ++ op ∷ []) m.0 run.0 s run.2 (IsWaiting-start book s.schedule start ops op m.0 s m.1 m.2) in
    (suc waited.0, IsJust-from book s.schedule start ops op waited.0 mid ready (subst (IsWaiting book s.schedule start (ops ++ op ∷ []) waited.0) (sym run.1) waited.1))

pub issue-run : (book : Book) (s mid after : ChannelState) (start : List LaneState) (ops : List MicroOp) (op : MicroOp) → RunsWhile must_wait book s mid → must_wait mid ≡ false → after ≡ issued op mid → is_show op ≡ false → IsUnderWay book s start ops → IsUnderWay book after start (ops ++ op ∷ [])
issue-run book s mid after start ops op run ready after_is written way =
    let just = just_issued book s mid start ops op run ready way in
    let now = just.1.now in
    subst (λ x. IsUnderWay book x start (ops ++ op ∷ [])) (sym after_is)
    (way-at book (issued op mid) start (ops ++ op ∷ []) (moment-at (HasIssued (ops ++ op ∷ [])) book s.schedule start (ops ++ op ∷ []) just.0 (issued op mid) now.stands ((now.all, just.1.closed written), now.before)))

pub show-run : (book : Book) (s mid shown after : ChannelState) (start : List LaneState) (ops : List MicroOp) (op : MicroOp) → RunsWhile must_wait book s mid → must_wait mid ≡ false → shown ≡ issued op mid → is_show op ≡ true → RunsWhile is_behind book shown after → is_behind after ≡ false → IsUnderWay book s start ops → IsUnderWay book after start (ops ++ op ∷ [])
show-run book s mid shown after start ops op run ready shown_is show drained settled way =
    let whole = ops ++ op ∷ [] in
    let just = just_issued book s mid start ops op run ready way in
    let now : IsIssued (HasIssued whole) book s.schedule start whole just.0 shown = subst (IsIssued (HasIssued whole) book s.schedule start whole just.0) (sym shown_is) just.1.now in
    let r = drain-run (HasIssued whole) book s.schedule start whole just.0 drained.0 shown (show_not_yet (length start) ops op show) drained.2 now in
    let done : IsIssued (HasIssued whole) book s.schedule start whole r.0 after = subst (IsIssued (HasIssued whole) book s.schedule start whole r.0) (sym drained.1) r.1 in
    let t = after_turns whole s.schedule (length start) r.0 in
    let sound = sound-turns whole s.schedule (length start) r.0 in
    let performed_all = settled_all book start whole t after sound done.stands.holds settled in
    way-at book after start whole (moment-at (HasIssued whole) book s.schedule start whole r.0 after done.stands ((done.all, open_not whole t sound.issued_in performed_all), done.before))

pub settle-run : (book : Book) (s after : ChannelState) (start : List LaneState) (ops : List MicroOp) → RunsWhile is_behind book s after → is_behind after ≡ false → IsUnderWay book s start ops → HasEnded book after start ops
settle-run book s after start ops drained settled way =
    let m = way.moment in
    let first = m.2 in
    let now : IsIssued (HasPerformed ops) book s.schedule start ops m.0 s = record {
      stands = m.1;
      all = first.0.0;
      before = λ k h p. first.1 k h (issued_from_performed ops (after_turns ops s.schedule (length start) k) p);
    } in
    let r = drain-run (HasPerformed ops) book s.schedule start ops m.0 drained.0 s (performed_not_yet (length start) ops) drained.2 now in
    let done : IsIssued (HasPerformed ops) book s.schedule start ops r.0 after = subst (IsIssued (HasPerformed ops) book s.schedule start ops r.0) (sym drained.1) r.1 in
    let t = after_turns ops s.schedule (length start) r.0 in
    let sound = sound-turns ops s.schedule (length start) r.0 in
    let performed_all = settled_all book start ops t after sound done.stands.holds settled in
    end-at book after start ops (moment-at (HasPerformed ops) book s.schedule start ops r.0 after done.stands
    ((done.all, All-weaker (λ d. d ≡ t.issued) (λ d. d ≡ length ops) (λ d same. same ∙ done.all) t.performed performed_all), done.before))

-- ---- a rack that was just made
none_waits_at_start : (n : ℕ) → list_any (λ queue. not (eqb (length queue) 0)) (replicate n no_operations) ≡ false
none_waits_at_start n =
    list_any_none (λ queue. not (eqb (length queue) 0)) (replicate n no_operations) (All-replicate (λ queue. not (eqb (length queue) 0) ≡ false) n no_operations refl)

pub start_behind : (lanes : List LaneState) (schedule : List Turn) (keep : Bool) → is_behind (new_channels lanes schedule keep) ≡ false
start_behind lanes schedule keep = none_waits_at_start (length lanes)

pub start_lanes : (book : Book) (lanes : List LaneState) (schedule : List Turn) (keep : Bool) → let s = new_channels lanes schedule keep in caught_up book s.lanes s.queues ≡ lanes
start_lanes book lanes schedule keep = caught_up-settled book lanes (replicate (length lanes) no_operations) (none_waits_at_start (length lanes))

start_holds : (book : Book) (lanes : List LaneState) (schedule : List Turn) (keep : Bool) → All (λ lane. lane.answers ≡ 0) lanes → All (IsTurnOf (length lanes)) schedule → Holds book lanes [] (no_turn (length lanes)) (new_channels lanes schedule keep)
start_holds book lanes schedule keep fresh of =
    let n = length lanes in
    record {
      fresh = fresh;
      turns = of;
      lanes_count = refl;
      queues_count = length-replicate n no_operations;
      lanes = λ i h. ap (λ done. lane_after_all book (take done []) (lane_at lanes i)) (sym (get_or-replicate n i 0 0 h));
      queues = λ i h. get_or-replicate n i no_operations no_operations h ∙ ap (λ done. drop done no_operations) (sym (get_or-replicate n i 0 0 h));
      journal = sym (take_all (new_channels lanes schedule keep).journal.room (map (entry_of book lanes []) []) (omega arith));
    }

pub start_way : (book : Book) (lanes : List LaneState) (schedule : List Turn) (keep : Bool) → All (λ lane. lane.answers ≡ 0) lanes → All (IsTurnOf (length lanes)) schedule → IsUnderWay book (new_channels lanes schedule keep) lanes []
start_way book lanes schedule keep fresh of =
    let n = length lanes in
    let none : 0 - length schedule ≡ 0 = omega arith in
    let uses_is : HasUsed schedule n 0 (new_channels lanes schedule keep) = record {
      schedule_is = refl;
      used = omega arith;
      round = sym (ap (λ k. k % (n + 1)) none ∙ zero-mod (n + 1));
    } in
    way-at book (new_channels lanes schedule keep) lanes [] (
      0,
      record { holds = start_holds book lanes schedule keep fresh of; uses = uses_is },
      ((refl, open_not [] (no_turn n) (omega arith) (All-replicate (λ done. done ≡ 0) n 0 refl)), λ k h p. omega arith),
    )
