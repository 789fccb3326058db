-- Turns as counts: what holds of them at every moment, and lists that agree on them.
use Rattle.std.proofs.Common.{◌≡◌, ℕ, zero, suc, ◌+◌, ◌<◌, ◌≤◌, true, false, not, ◌&&◌, cond, ltb, All, List, [], ◌∷◌, ◌++◌, length, take, drop, refl, sym, ap, ◌∙◌, subst, inl, inr, arith}
use Rattle.std.specs.List.{list_any}
use Rattle.std.proofs.lemmas.Bool.{cond-true, cond-false, ltb-true, lt-ltb, le-ltb, and_right, and_left, and_parts, not_from_true, cases_Bool, cases_lt}
use Rattle.std.proofs.lemmas.List.{length-set, length-append, length-replicate, take-append-le}
use Rattle.std.proofs.lemmas.List.Elements.{All-nil, All-weaker, All-push, All-set, All-replicate, All-get_or}
use Rattle.channel_alu.specs.declared.operation.MicroOp.{MicroOp}
use Rattle.fault_book.specs.declared.schedule.Turn.{Turn}
use Rattle.fault_book.specs.declared.schedule.Turn.TheVariants.{Control, Lane}
use Rattle.channel_lane.specs.Meaning.{is_show}
use Rattle.channel_scheduler.specs.Counts.{Standing, no_turn, performed_by, is_blocked, is_open, can_issue, after_issue, after_performing, after_turn, turn_at, after_turns, HasIssued}

-- ---- one turn, by cases
pub after_issue-is : (ops : List MicroOp) (t : Standing) → can_issue ops t ≡ true → after_turn ops t Control ≡ after_issue t
unfolding after_turn
after_issue-is ops t h = cond-true (can_issue ops t) (after_issue t) t h

pub after_wait-is : (ops : List MicroOp) (t : Standing) → can_issue ops t ≡ false → after_turn ops t Control ≡ t
unfolding after_turn
after_wait-is ops t h = cond-false (can_issue ops t) (after_issue t) t h

pub after_performing-is : (ops : List MicroOp) (t : Standing) (i : ℕ) → performed_by t i < t.issued → after_turn ops t (Lane i) ≡ after_performing t i
unfolding after_turn
after_performing-is ops t i h = cond-true (ltb (performed_by t i) t.issued) (after_performing t i) t (lt-ltb (performed_by t i) t.issued h)

pub after_idle-is : (ops : List MicroOp) (t : Standing) (i : ℕ) → t.issued ≤ performed_by t i → after_turn ops t (Lane i) ≡ t
unfolding after_turn
after_idle-is ops t i h = cond-false (ltb (performed_by t i) t.issued) (after_performing t i) t (le-ltb (performed_by t i) t.issued h)

same_lane_turn : (ops more : List MicroOp) (t : Standing) (i : ℕ) → after_turn ops t (Lane i) ≡ after_turn more t (Lane i)
unfolding after_turn
same_lane_turn ops more t i = refl

-- ---- what holds at every moment
pub record IsSound (ops : List MicroOp) (channels : ℕ) (t : Standing) : Type 0 where
  pub issued_in : t.issued ≤ length ops
  pub count : length t.performed ≡ channels
  pub done_in : All (λ done. done ≤ t.issued) t.performed
  pub journal_in : All (λ e. e.1 < t.issued) t.journal

sound-start : (ops : List MicroOp) (channels : ℕ) → IsSound ops channels (no_turn channels)
sound-start ops channels = record {
  issued_in = omega arith;
  count = length-replicate channels 0;
  done_in = All-replicate (λ done. done ≤ 0) channels 0 (omega arith);
  journal_in = All-nil (λ e. e.1 < 0);
}

issue_allowed : (ops : List MicroOp) (t : Standing) → can_issue ops t ≡ true → t.issued < length ops
issue_allowed ops t h =
    ltb-true t.issued (length ops) (and_parts (ltb t.issued (length ops)) (not (is_blocked t) && not (is_open ops t)) h).0

pub sound-issue : (ops : List MicroOp) (channels : ℕ) (t : Standing) → t.issued < length ops → IsSound ops channels t → IsSound ops channels (after_issue t)
sound-issue ops channels t h s = record {
  issued_in = omega arith;
  count = s.count;
  done_in = All-weaker (λ done. done ≤ t.issued) (λ done. done ≤ t.issued + 1) (λ done k. omega arith) t.performed s.done_in;
  journal_in = All-weaker (λ e. e.1 < t.issued) (λ e. e.1 < t.issued + 1) (λ e k. omega arith) t.journal s.journal_in;
}

sound-performing : (ops : List MicroOp) (channels : ℕ) (t : Standing) (i : ℕ) → performed_by t i < t.issued → IsSound ops channels t → IsSound ops channels (after_performing t i)
sound-performing ops channels t i h s = record {
  issued_in = s.issued_in;
  count = length-set t.performed i (performed_by t i + 1) ∙ s.count;
  done_in = All-set (λ done. done ≤ t.issued) t.performed i (performed_by t i + 1) (omega arith) s.done_in;
  journal_in = All-push (λ e. e.1 < t.issued) t.journal (i, performed_by t i) s.journal_in h;
}

sound-turn : (ops : List MicroOp) (channels : ℕ) (t : Standing) (turn : Turn) → IsSound ops channels t → IsSound ops channels (after_turn ops t turn)
sound-turn ops channels t Control s =
    elim (cases_Bool (can_issue ops t)) [
      | inl hit ↦ subst (IsSound ops channels) (sym (after_issue-is ops t hit)) (sound-issue ops channels t (issue_allowed ops t hit) s)
      | inr miss ↦ subst (IsSound ops channels) (sym (after_wait-is ops t miss)) s
    ]
sound-turn ops channels t (Lane i) s =
    elim (cases_lt (performed_by t i) t.issued) [
      | inl below ↦ subst (IsSound ops channels) (sym (after_performing-is ops t i below)) (sound-performing ops channels t i below s)
      | inr above ↦ subst (IsSound ops channels) (sym (after_idle-is ops t i above)) s
    ]

pub sound-turns : (ops : List MicroOp) (schedule : List Turn) (channels n : ℕ) → IsSound ops channels (after_turns ops schedule channels n)
sound-turns ops schedule channels zero = sound-start ops channels
sound-turns ops schedule channels (suc n) =
    sound-turn ops channels (after_turns ops schedule channels n) (turn_at schedule channels n) (sound-turns ops schedule channels n)

pub done-at : (ops : List MicroOp) (channels : ℕ) (t : Standing) (i : ℕ) → IsSound ops channels t → i < channels → performed_by t i ≤ t.issued
done-at ops channels t i s h =
    All-get_or (λ done. done ≤ t.issued) t.performed i 0 (omega (arith, s.count)) s.done_in

-- ---- a longer list
pub take-longer : (ops : List MicroOp) (op : MicroOp) (n : ℕ) → n ≤ length ops → take n (ops ++ op ∷ []) ≡ take n ops
take-longer ops op n h = take-append-le n ops (op ∷ []) h

pub open-longer : (ops : List MicroOp) (op : MicroOp) (t : Standing) → t.issued ≤ length ops → is_open (ops ++ op ∷ []) t ≡ is_open ops t
open-longer ops op t h =
    ap (λ front. list_any (λ done. list_any is_show (drop done front)) t.performed) (take-longer ops op t.issued h)

same_gate : (ops : List MicroOp) (op : MicroOp) (t : Standing) → can_issue (ops ++ op ∷ []) t ≡ can_issue ops t → after_turn (ops ++ op ∷ []) t Control ≡ after_turn ops t Control
unfolding after_turn
same_gate ops op t e = ap (λ b. cond b (after_issue t) t) e

gate-below : (ops : List MicroOp) (op : MicroOp) (t : Standing) → t.issued < length ops → can_issue (ops ++ op ∷ []) t ≡ can_issue ops t
gate-below ops op t h =
    let longer : t.issued < length (ops ++ op ∷ []) = omega (arith, length-append ops (op ∷ [])) in
    let tests : ltb t.issued (length (ops ++ op ∷ [])) ≡ ltb t.issued (length ops) = lt-ltb t.issued (length (ops ++ op ∷ [])) longer ∙ sym (lt-ltb t.issued (length ops) h) in
    ap (λ b. b && (not (is_blocked t) && not (is_open (ops ++ op ∷ []) t))) tests
    ∙ ap (λ b. ltb t.issued (length ops) && (not (is_blocked t) && not b)) (open-longer ops op t (omega arith))

pub closed_gate : (ops : List MicroOp) (t : Standing) → is_open ops t ≡ true → can_issue ops t ≡ false
closed_gate ops t e =
    and_right (ltb t.issued (length ops)) (not (is_blocked t) && not (is_open ops t))
    (and_right (not (is_blocked t)) (not (is_open ops t)) (not_from_true (is_open ops t) e))

gate-open : (ops : List MicroOp) (op : MicroOp) (t : Standing) → t.issued ≤ length ops → is_open ops t ≡ true → can_issue (ops ++ op ∷ []) t ≡ can_issue ops t
gate-open ops op t h e =
    let longer : is_open (ops ++ op ∷ []) t ≡ true = open-longer ops op t h ∙ e in
    closed_gate (ops ++ op ∷ []) t longer ∙ sym (closed_gate ops t e)

pub all_issued_gate : (ops : List MicroOp) (t : Standing) → t.issued ≡ length ops → can_issue ops t ≡ false
all_issued_gate ops t e =
    and_left (ltb t.issued (length ops)) (not (is_blocked t) && not (is_open ops t)) (le-ltb t.issued (length ops) (omega arith))

open_else : (ops : List MicroOp) (t : Standing) → t.issued ≡ length ops → (HasIssued ops t → ⊥) → is_open ops t ≡ true
open_else ops t e before =
    elim (cases_Bool (is_open ops t)) [ inl hit ↦ hit | inr miss ↦ absurd (before (e, miss)) ]

-- a turn is the same for both lists, unless every operation of the shorter one is issued and no Show is open
same_turn : (ops : List MicroOp) (op : MicroOp) (t : Standing) (turn : Turn) → t.issued ≤ length ops → (HasIssued ops t → ⊥) → after_turn (ops ++ op ∷ []) t turn ≡ after_turn ops t turn
same_turn ops op t (Lane i) h before = same_lane_turn (ops ++ op ∷ []) ops t i
same_turn ops op t Control h before =
    elim (cases_lt t.issued (length ops)) [
      | inl below ↦ same_gate ops op t (gate-below ops op t below)
      | inr above ↦ same_gate ops op t (gate-open ops op t h (open_else ops t (omega arith) before))
    ]

-- up to the moment at which the shorter list is issued, the longer one has the same counts
pub same_turns : (ops : List MicroOp) (op : MicroOp) (schedule : List Turn) (channels n : ℕ) → ((k : ℕ) → k < n → HasIssued ops (after_turns ops schedule channels k) → ⊥) → after_turns (ops ++ op ∷ []) schedule channels n ≡ after_turns ops schedule channels n
same_turns ops op schedule channels zero before = refl
same_turns ops op schedule channels (suc n) before =
    let t = after_turns ops schedule channels n in
    let s = sound-turns ops schedule channels n in
    ap (λ x. after_turn (ops ++ op ∷ []) x (turn_at schedule channels n)) (same_turns ops op schedule channels n (λ k h. before k (omega arith)))
    ∙ same_turn ops op t (turn_at schedule channels n) s.issued_in (before n (omega arith))

-- a turn that issues nothing
pub issued_stays : (ops : List MicroOp) (t : Standing) (turn : Turn) → (turn ≡ Control → can_issue ops t ≡ false) → (after_turn ops t turn).issued ≡ t.issued
issued_stays ops t Control h = ap (λ x. x.issued) (after_wait-is ops t (h refl))
issued_stays ops t (Lane i) h =
    elim (cases_lt (performed_by t i) t.issued) [
      | inl below ↦ ap (λ x. x.issued) (after_performing-is ops t i below)
      | inr above ↦ ap (λ x. x.issued) (after_idle-is ops t i above)
    ]
