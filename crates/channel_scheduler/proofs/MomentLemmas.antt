-- The moments at which a run stands.
use Rattle.std.proofs.Common.{◌≡◌, ℕ, zero, suc, ◌+◌, ◌≤◌, true, false, not, ◌&&◌, ltb, List, [], ◌∷◌, ◌++◌, length, get_or, map, take, refl, sym, ap, ◌∙◌, inl, inr, arith}
use Rattle.std.proofs.lemmas.Bool.{cases_lt, cases_Bool, and_parts, not-true}
use Rattle.std.proofs.lemmas.List.{length_push}
use Rattle.std.proofs.lemmas.List.Elements.{All-from_get_or, All-get_or, All-replicate}
use Rattle.channel_alu.specs.declared.operation.MicroOp.{MicroOp}
use Rattle.fault_book.specs.declared.schedule.Turn.{Turn}
use Rattle.fault_book.specs.declared.schedule.Turn.TheVariants.{Control, Lane}
use Rattle.fault_book.specs.Book.{Book}
use Rattle.channel_lane.specs.Meaning.{is_show}
use Rattle.channel_lane.specs.Lane.{LaneState}
use Rattle.channel_scheduler.specs.declared.entry.Entry.{Entry}
use Rattle.channel_scheduler.specs.Counts.{Standing, no_turn, is_blocked, is_open, can_issue, after_turn, turn_at, after_turns, HasIssued, HasPerformed}
use Rattle.channel_scheduler.specs.Moments.{IsFirst, JournalIs, entry_of}
use Rattle.channel_scheduler.proofs.CountLemmas.{sound-turns, after_issue-is, all_issued_gate, issued_stays}
use Rattle.channel_scheduler.proofs.TurnLemmas.{open_not, issued_from_performed, closed_stays}
use Rattle.channel_scheduler.proofs.RunLemmas.{show_not_yet, closed_issue}

pub moment-empty : (schedule : List Turn) (channels n : ℕ) → IsFirst (HasIssued []) schedule channels [] n → n ≡ 0
moment-empty schedule channels zero first = refl
moment-empty schedule channels (suc n) first =
    absurd (first.1 0 (omega arith) (refl, open_not [] (no_turn channels) (omega arith) (All-replicate (λ done. done ≡ 0) channels 0 refl)))

pub moment-show : (ops : List MicroOp) (op : MicroOp) (schedule : List Turn) (channels n : ℕ) → is_show op ≡ true → IsFirst (HasIssued (ops ++ op ∷ [])) schedule channels (ops ++ op ∷ []) n → IsFirst (HasPerformed (ops ++ op ∷ [])) schedule channels (ops ++ op ∷ []) n
moment-show ops op schedule channels n show first =
    let whole = ops ++ op ∷ [] in
    let t = after_turns whole schedule channels n in
    let sound = sound-turns whole schedule channels n in
    let all = first.0.0 in (
      (
        all,
        All-from_get_or (λ done. done ≡ length whole) t.performed 0 (λ i h.
            let count = sound.count in
            let inside : get_or t.performed i 0 ≤ t.issued = All-get_or (λ d. d ≤ t.issued) t.performed i 0 h sound.done_in in
            elim (cases_lt (get_or t.performed i 0) t.issued) [
              | inl below ↦ absurd (show_not_yet channels ops op show t i sound all (omega arith) below first.0)
              | inr above ↦ omega arith
            ]),
      ),
      λ k h p. first.1 k h (issued_from_performed whole (after_turns whole schedule channels k) p),
    )

-- what a turn that issues finds
issued_by : (ops : List MicroOp) (t : Standing) (turn : Turn) → ((after_turn ops t turn).issued ≡ t.issued → ⊥) → (turn ≡ Control) × (can_issue ops t ≡ true)
issued_by ops t (Lane i) h = absurd (h (issued_stays ops t (Lane i) (λ e. cc)))
issued_by ops t Control h =
    elim (cases_Bool (can_issue ops t)) [
      | inl hit ↦ (refl, hit)
      | inr miss ↦ absurd (h (issued_stays ops t Control (λ e. miss)))
    ]

-- where the whole list is issued, and its last operation is no Show, none is open
closed_when_issued : (ops : List MicroOp) (op : MicroOp) (schedule : List Turn) (channels k : ℕ) → is_show op ≡ false → (after_turns (ops ++ op ∷ []) schedule channels k).issued ≡ length (ops ++ op ∷ []) → is_open (ops ++ op ∷ []) (after_turns (ops ++ op ∷ []) schedule channels k) ≡ false
closed_when_issued ops op schedule channels zero written all = let count = length_push ops op in absurd (omega arith)
closed_when_issued ops op schedule channels (suc k) written all =
    let whole = ops ++ op ∷ [] in
    let count = length_push ops op in
    let t = after_turns whole schedule channels k in
    let turn = turn_at schedule channels k in
    let sound = sound-turns whole schedule channels k in
    let fits = sound.issued_in in
    elim (cases_lt t.issued (length whole)) [
      | inl below ↦
          let by = issued_by whole t turn (λ e. absurd (omega (arith, e, all))) in
          let step = ap (after_turn whole t) by.0 ∙ after_issue-is whole t by.1 in
          let issued_is : t.issued + 1 ≡ length whole = sym (ap (λ x. x.issued) step) ∙ all in
          let closed = not-true (is_open whole t) (and_parts (not (is_blocked t)) (not (is_open whole t)) (and_parts (ltb t.issued (length whole)) (not (is_blocked t) && not (is_open whole t)) by.1).1).1 in
          ap (is_open whole) step ∙ closed_issue ops channels t op sound (omega arith) written closed
      | inr above ↦
          let whole_is : t.issued ≡ length whole = omega arith in
          closed_stays whole t turn (λ e. all_issued_gate whole t whole_is) (closed_when_issued ops op schedule channels k written whole_is)
    ]

pub moment-operation : (ops : List MicroOp) (op : MicroOp) (schedule : List Turn) (channels n : ℕ) → is_show op ≡ false → IsFirst (HasIssued (ops ++ op ∷ [])) schedule channels (ops ++ op ∷ []) n → IsFirst (λ t. t.issued ≡ length (ops ++ op ∷ [])) schedule channels (ops ++ op ∷ []) n
moment-operation ops op schedule channels n written first =
    (first.0.0, λ k h p. first.1 k h (p, closed_when_issued ops op schedule channels k written p))

-- ---- one moment, one journal
first-is-one : (P : Standing → Type 0) (schedule : List Turn) (channels : ℕ) (ops : List MicroOp) (m n : ℕ) → IsFirst P schedule channels ops m → IsFirst P schedule channels ops n → m ≡ n
first-is-one P schedule channels ops m n first other =
    elim (cases_lt m n) [
      | inl below ↦ absurd (other.1 m below first.0)
      | inr above ↦ elim (cases_lt n m) [
        | inl below ↦ absurd (first.1 n below other.0)
        | inr same ↦ omega arith
      ]
    ]

pub one_journal : (P : Standing → Type 0) (plan : List Turn × ℕ) (book : Book) (start : List LaneState) (ops : List MicroOp) (one other : List Entry) → JournalIs P plan book start ops one → JournalIs P plan book start ops other → one ≡ other
one_journal P plan book start ops one other j k =
    let same = first-is-one P plan.0 (length start) ops j.0 k.0 j.1 k.1 in
    j.2 ∙ ap (λ n. take plan.1 (map (entry_of book start ops) (after_turns ops plan.0 (length start) n).journal)) same ∙ sym k.2
