-- What turns that issue nothing leave: the channels stand where the turns bring them, and no Show opens.
use Rattle.std.proofs.Common.{◌≡◌, ℕ, suc, ◌+◌, ◌-◌, ◌%◌, ◌<◌, ◌≤◌, Bool, true, false, not, ◌||◌, eqb, ltb, All, List, [], ◌∷◌, length, take, drop, get_or, refl, sym, ap, ◌∙◌, subst, inl, inr, arith}
use Rattle.std.specs.List.{list_any}
use Rattle.std.proofs.Math.ListN.{set}
use Rattle.std.proofs.lemmas.Bool.{cases_lt, or_parts, not_from_true, not-false, eqb-true, eqb-false, eq-eqb, ltb-true, cond_both, false≢true}
use Rattle.std.proofs.lemmas.Nat.{mod_below}
use Rattle.std.proofs.lemmas.List.{get_or_default, set_past, drop-drop}
use Rattle.std.proofs.lemmas.List.Elements.{All-get_or, All-from_get_or, All-set, All-weaker}
use Rattle.std.proofs.lemmas.List.Folds.{list_any_none, Any-from_list_any}
use Rattle.channel_alu.specs.declared.operation.MicroOp.{MicroOp}
use Rattle.fault_book.specs.Book.{Book}
use Rattle.fault_book.specs.Turns.{IsTurnOf}
use Rattle.channel_lane.specs.Lane.{LaneState}
use Rattle.fault_book.specs.declared.schedule.Turn.{Turn}
use Rattle.fault_book.specs.declared.schedule.Turn.TheVariants.{Control, Lane}
use Rattle.channel_lane.specs.Meaning.{is_show}
use Rattle.channel_scheduler.specs.Counts as counts
use Rattle.channel_scheduler.specs.Counts.{Standing, no_turn, performed_by, backlog, is_open, can_issue, after_issue, after_performing, after_turn, after_turns, turn_at, HasIssued, HasPerformed}
use Rattle.channel_scheduler.specs.Channels.{ChannelState, no_operations, queue_at, is_behind, is_blocked, next_turn, by_turn, advanced, passed, issued}
use Rattle.channel_scheduler.specs.Moments.{Holds, HasUsed, StandsAt}
use Rattle.channel_scheduler.proofs.CatchingLemmas.{Place-performed}
use Rattle.channel_scheduler.proofs.CountLemmas.{IsSound, sound-turns, done-at, after_wait-is, after_performing-is, after_idle-is}
use Rattle.channel_scheduler.proofs.PlaceLemmas.{next_turn-at, HasUsed-more}
use Rattle.channel_scheduler.proofs.StandingLemmas.{backlog-none, length-backlog, Holds-performed}
use Rattle.channel_scheduler.proofs.QueueLemmas.{none_at}

-- ---- tests on lists
list_any-agree : {X Y : Type 0} (p : X → Bool) (q : Y → Bool) (xs : List X) (ys : List Y) (d : X) (e : Y) → length xs ≡ length ys → ((i : ℕ) → i < length xs → p (get_or xs i d) ≡ q (get_or ys i e)) → list_any p xs ≡ list_any q ys
list_any-agree p q [] [] d e h each = refl
list_any-agree p q [] (y ∷ ys) d e h each = absurd (omega arith)
list_any-agree p q (x ∷ xs) [] d e h each = absurd (omega arith)
list_any-agree p q (x ∷ xs) (y ∷ ys) d e h each =
    ap (λ b. b || list_any p xs) (each 0 (omega arith))
    ∙ ap (λ b. q y || b) (list_any-agree p q xs ys d e (omega arith) (λ i k. each (suc i) (omega arith)))

-- ---- the tests of the code are those of the counts
module _ (book : Book) (start : List LaneState) (ops : List MicroOp) (t : Standing) (s : ChannelState) (sound : IsSound ops (length start) t) (h : Holds book start ops t s) where
  pub blocked_agrees : is_blocked s ≡ counts.is_blocked t
  blocked_agrees =
      list_any-agree (λ queue. eqb (length queue) 8) (λ done. eqb (t.issued - done) 8) s.queues t.performed no_operations 0 (h.queues_count ∙ sym sound.count)
      (λ i k.
      let count = h.queues_count in
      let inside : i < length start = omega arith in
      ap (λ n. eqb n 8) (ap length (h.queues i inside) ∙ length-backlog ops t.issued (performed_by t i) sound.issued_in))

  -- something waits: some channel has not performed all that is issued
  pub behind_some : is_behind s ≡ true → (i : ℕ) × (i < length start) × (performed_by t i < t.issued)
  behind_some b =
      let any = Any-from_list_any (λ queue. not (eqb (length queue) 0)) s.queues b in
      let i = any.0 in
      let count = h.queues_count in
      let within = any.2 in
      let inside : i < length start = omega arith in
      let same : queue_at s.queues i ≡ any.1 = get_or_default s.queues i no_operations any.1 within ∙ any.3 in (
        i,
        inside,
        elim (cases_lt (performed_by t i) t.issued) [
          | inl below ↦ below
          | inr above ↦
              let none : length any.1 ≡ 0 = ap length (sym same ∙ (h.queues i inside ∙ backlog-none ops t.issued (performed_by t i) above sound.issued_in)) in
              absurd (false≢true (sym (not_from_true (eqb (length any.1) 0) (eq-eqb (length any.1) 0 none)) ∙ any.4))
        ],
      )

  -- nothing waits: each channel has performed all that is issued
  pub settled_all : is_behind s ≡ false → All (λ done. done ≡ t.issued) t.performed
  settled_all b =
      All-from_get_or (λ done. done ≡ t.issued) t.performed 0 (λ i k.
      let count = sound.count in
      let queues_count = h.queues_count in
      let inside : i < length start = omega arith in
      let empty = none_at (λ queue. not (eqb (length queue) 0)) s.queues i no_operations (omega arith) b in
      let zero_is : length (queue_at s.queues i) ≡ 0 = eqb-true (length (queue_at s.queues i)) 0 (not-false (eqb (length (queue_at s.queues i)) 0) empty) in
      let long : length (queue_at s.queues i) ≡ t.issued - performed_by t i = ap length (h.queues i inside) ∙ length-backlog ops t.issued (performed_by t i) sound.issued_in in
      let done = done-at ops (length start) t i sound inside in
      omega arith)

-- where each channel has performed all that is issued, no Show is open
pub open_not : (ops : List MicroOp) (t : Standing) → t.issued ≤ length ops → All (λ done. done ≡ t.issued) t.performed → is_open ops t ≡ false
open_not ops t fits all =
    list_any_none (λ done. list_any is_show (backlog ops t.issued done)) t.performed
    (All-weaker (λ done. done ≡ t.issued) (λ done. list_any is_show (backlog ops t.issued done) ≡ false) (λ done same. ap (list_any is_show) (backlog-none ops t.issued done (omega arith) fits)) t.performed all)

pub issued_from_performed : (ops : List MicroOp) (t : Standing) → HasPerformed ops t → HasIssued ops t
issued_from_performed ops t h =
    (h.0, open_not ops t (omega (arith, h.0)) (All-weaker (λ done. done ≡ length ops) (λ done. done ≡ t.issued) (λ done same. same ∙ sym h.0) t.performed h.1))

-- ---- turns that issue nothing keep a Show closed
tail_closed : (waiting : List MicroOp) → list_any is_show waiting ≡ false → list_any is_show (drop 1 waiting) ≡ false
tail_closed [] h = refl
tail_closed (op ∷ waiting) h = (or_parts (is_show op) (list_any is_show waiting) h).1

rest_closed : (ops : List MicroOp) (issued done : ℕ) → list_any is_show (backlog ops issued done) ≡ false → list_any is_show (backlog ops issued (done + 1)) ≡ false
rest_closed ops issued done h =
    subst (λ rest. list_any is_show rest ≡ false) (drop-drop 1 done (take issued ops)) (tail_closed (backlog ops issued done) h)

pub closed_stays : (ops : List MicroOp) (t : Standing) (turn : Turn) → (turn ≡ Control → can_issue ops t ≡ false) → is_open ops t ≡ false → is_open ops (after_turn ops t turn) ≡ false
closed_stays ops t Control gate closed = ap (is_open ops) (after_wait-is ops t (gate refl)) ∙ closed
closed_stays ops t (Lane i) gate closed =
    elim (cases_lt (performed_by t i) t.issued) [
      | inl below ↦ ap (is_open ops) (after_performing-is ops t i below) ∙ served
      | inr above ↦ ap (is_open ops) (after_idle-is ops t i above) ∙ closed
    ]
  where
    test : ℕ → Bool
    test done = list_any is_show (backlog ops t.issued done)

    served : is_open ops (after_performing t i) ≡ false
    served =
        elim (cases_lt i (length t.performed)) [
          | inl inside ↦
              list_any_none (λ done. list_any is_show (backlog ops t.issued done)) (set t.performed i (performed_by t i + 1))
              (All-set (λ done. list_any is_show (backlog ops t.issued done) ≡ false) t.performed i (performed_by t i + 1)
              (rest_closed ops t.issued (performed_by t i) (none_at (λ done. list_any is_show (backlog ops t.issued done)) t.performed i 0 inside closed))
              (All-from_get_or (λ done. list_any is_show (backlog ops t.issued done) ≡ false) t.performed 0 (λ j k. none_at (λ done. list_any is_show (backlog ops t.issued done)) t.performed j 0 k closed)))
          | inr past ↦ ap (λ done. list_any (λ d. list_any is_show (backlog ops t.issued d)) done) (set_past t.performed i (performed_by t i + 1) past) ∙ closed
        ]

-- ---- one turn that issues nothing
pub Holds-advanced : (book : Book) (start : List LaneState) (ops : List MicroOp) (t : Standing) (s : ChannelState) → Holds book start ops t s → Holds book start ops t (advanced s)
Holds-advanced book start ops t s h = record {
  fresh = h.fresh;
  turns = h.turns;
  lanes_count = h.lanes_count;
  queues_count = h.queues_count;
  lanes = h.lanes;
  queues = h.queues;
  journal = h.journal;
}

Holds-turn : (book : Book) (start : List LaneState) (ops : List MicroOp) (t : Standing) (s : ChannelState) (turn : Turn) → IsTurnOf (length start) turn → (turn ≡ Control → can_issue ops t ≡ false) → IsSound ops (length start) t → Holds book start ops t s → Holds book start ops (after_turn ops t turn) (by_turn book s turn)
Holds-turn book start ops t s Control of gate sound h = subst (λ x. Holds book start ops x s) (sym (after_wait-is ops t (gate refl))) h
Holds-turn book start ops t s (Lane i) of gate sound h = Holds-performed book start ops t s i of sound h

-- the place does not depend on lanes and queues
HasUsed-turn : (book : Book) (schedule : List Turn) (channels n : ℕ) (s : ChannelState) (turn : Turn) → HasUsed schedule channels n s → HasUsed schedule channels n (by_turn book s turn)
HasUsed-turn book schedule channels n s Control u = u
HasUsed-turn book schedule channels n s (Lane i) u =
    let p = Place-performed book s i in
    record { schedule_is = p.0 ∙ u.schedule_is; used = p.1 ∙ u.used; round = p.2 ∙ u.round }

round_of : (schedule : List Turn) (channels n : ℕ) → IsTurnOf channels (counts.turn_of_round ((n - length schedule) % (channels + 1)))
round_of schedule channels n = of ((n - length schedule) % (channels + 1)) (mod_below (n - length schedule) (channels + 1) (omega arith))
  where
    of : (place : ℕ) → place < channels + 1 → IsTurnOf channels (counts.turn_of_round place)
    of place h =
        cond_both (eqb place 0) Control (Lane (place - 1)) (λ turn. IsTurnOf channels turn) (λ e. tt) (λ e. omega (arith, eqb-false place 0 e))

turn_of : (schedule : List Turn) (channels n : ℕ) → All (IsTurnOf channels) schedule → IsTurnOf channels (turn_at schedule channels n)
turn_of schedule channels n all =
    cond_both (ltb n (length schedule)) (get_or schedule n Control) (counts.turn_of_round ((n - length schedule) % (channels + 1))) (λ turn. IsTurnOf channels turn)
    (λ e. All-get_or (IsTurnOf channels) schedule n Control (ltb-true n (length schedule) e) all)
    (λ e. round_of schedule channels n)

pub StandsAt-pass : (book : Book) (schedule : List Turn) (start : List LaneState) (ops : List MicroOp) (n : ℕ) (s : ChannelState) → (next_turn s ≡ Control → can_issue ops (after_turns ops schedule (length start) n) ≡ false) → StandsAt book schedule start ops n s → StandsAt book schedule start ops (suc n) (passed book s)
StandsAt-pass book schedule start ops n s gate at =
    let t = after_turns ops schedule (length start) n in
    let sound = sound-turns ops schedule (length start) n in
    let same = next_turn-at schedule (length start) n s at.uses in
    let of : IsTurnOf (length start) (next_turn s) = subst (IsTurnOf (length start)) (sym same) (turn_of schedule (length start) n (subst (All (IsTurnOf (length start))) at.uses.schedule_is at.holds.turns)) in
    let turned = Holds-turn book start ops t s (next_turn s) of gate sound at.holds in
    record {
      holds = subst (λ turn. Holds book start ops (after_turn ops t turn) (passed book s)) same (Holds-advanced book start ops (after_turn ops t (next_turn s)) (by_turn book s (next_turn s)) turned);
      uses = HasUsed-more schedule (length start) n (by_turn book s (next_turn s)) turned.queues_count (HasUsed-turn book schedule (length start) n s (next_turn s) at.uses);
    }
