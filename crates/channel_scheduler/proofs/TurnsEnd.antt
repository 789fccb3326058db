-- The turns come to an end: after some of them every operation is issued and performed.
use Rattle.std.proofs.Common.{◌≡◌, ℕ, zero, suc, ◌+◌, ◌-◌, ◌*◌, ◌%◌, ◌<◌, ◌≤◌, true, false, not, ◌&&◌, eqb, ltb, All, List, length, take, get_or, sym, ap, ◌∙◌, subst, inl, inr, arith}
use Rattle.std.specs.Prelude.{◌⊎◌}
use Rattle.std.specs.List.{list_any, sum_by}
use Rattle.std.proofs.lemmas.Bool.{cond-false, ltb-true, lt-ltb, le-ltb, ne_eqb, and_parts, and_from, not_from_false, cases_Bool, cases_lt, cases_eq, false≢true}
use Rattle.std.proofs.lemmas.Nat.{mod-mul-add}
use Rattle.std.proofs.lemmas.List.{length-take-le, drop_all, set_past}
use Rattle.std.proofs.lemmas.List.Elements.{All-weaker, All-get_or, All-from_get_or}
use Rattle.std.proofs.lemmas.List.Folds.{list_any_none}
use Rattle.std.proofs.lemmas.List.Sums.{sum_by-set, sum_by-le, get_or-le-sum_by}
use Rattle.channel_alu.specs.declared.operation.MicroOp.{MicroOp}
use Rattle.fault_book.specs.declared.schedule.Turn.{Turn}
use Rattle.fault_book.specs.declared.schedule.Turn.TheVariants.{Control, Lane}
use Rattle.fault_book.specs.Turns.{IsTurnOf}
use Rattle.channel_lane.specs.Meaning.{is_show}
use Rattle.channel_scheduler.specs.Counts.{Standing, performed_by, backlog, is_blocked, is_open, can_issue, after_performing, after_turn, turn_of_round, turn_at, after_turns, HasPerformed}
use Rattle.channel_scheduler.specs.Moments.{IsFirst}
use Rattle.channel_scheduler.proofs.CountLemmas.{IsSound, sound-turns, done-at, after_issue-is, after_wait-is, after_performing-is, after_idle-is}

-- what is left: the operations to issue, and for each channel those to perform
abbrev left : List MicroOp → Standing → ℕ
left ops t = (length ops - t.issued) + sum_by (λ done. length ops - done) t.performed

-- a turn that finds nothing to do
abbrev IsIdle : List MicroOp → Standing → Turn → Type 0
IsIdle ops t Control = can_issue ops t ≡ false
IsIdle ops t (Lane i) = t.issued ≤ performed_by t i

-- ---- one turn
left-performing : (ops : List MicroOp) (channels : ℕ) (t : Standing) (i : ℕ) → i < channels → performed_by t i < t.issued → IsSound ops channels t → left ops (after_performing t i) < left ops t
left-performing ops channels t i inside below s =
    let count = s.count in
    let fits = s.issued_in in
    let sums = sum_by-set (λ done. length ops - done) t.performed i (performed_by t i + 1) 0 (omega arith) in
    omega arith

left-past : (ops : List MicroOp) (channels : ℕ) (t : Standing) (i : ℕ) → channels ≤ i → IsSound ops channels t → left ops (after_performing t i) ≡ left ops t
left-past ops channels t i past s =
    ap (λ done. (length ops - t.issued) + sum_by (λ d. length ops - d) done) (set_past t.performed i (performed_by t i + 1) (omega (arith, s.count)))

-- a turn of control or of a channel does something, and less is left, or it finds nothing to do
one_turn : (ops : List MicroOp) (channels : ℕ) (t : Standing) (turn : Turn) → IsTurnOf channels turn → IsSound ops channels t → (left ops (after_turn ops t turn) < left ops t) ⊎ ((after_turn ops t turn ≡ t) × IsIdle ops t turn)
one_turn ops channels t Control of s =
    elim (cases_Bool (can_issue ops t)) [
      | inl hit ↦
          let below = ltb-true t.issued (length ops) (and_parts (ltb t.issued (length ops)) (not (is_blocked t) && not (is_open ops t)) hit).0 in
          inl (subst (λ x. left ops x < left ops t) (sym (after_issue-is ops t hit)) (omega arith))
      | inr miss ↦ inr (after_wait-is ops t miss, miss)
    ]
one_turn ops channels t (Lane i) of s =
    elim (cases_lt (performed_by t i) t.issued) [
      | inl below ↦ inl (subst (λ x. left ops x < left ops t) (sym (after_performing-is ops t i below)) (left-performing ops channels t i of below s))
      | inr above ↦ inr (after_idle-is ops t i above, above)
    ]

-- no turn makes more to be left, not even that of a channel that there is not
never_more : (ops : List MicroOp) (channels : ℕ) (t : Standing) (turn : Turn) → IsSound ops channels t → left ops (after_turn ops t turn) ≤ left ops t
never_more ops channels t Control s =
    elim (one_turn ops channels t Control tt s) [
      | inl falls ↦ omega arith
      | inr same ↦ omega (arith, ap (left ops) same.0)
    ]
never_more ops channels t (Lane i) s =
    elim (cases_lt i channels) [
      | inl inside ↦
          elim (one_turn ops channels t (Lane i) inside s) [
            | inl falls ↦ omega arith
            | inr same ↦ omega (arith, ap (left ops) same.0)
          ]
      | inr past ↦
          elim (cases_lt (performed_by t i) t.issued) [
            | inl below ↦ omega (arith, ap (left ops) (after_performing-is ops t i below), left-past ops channels t i past s)
            | inr above ↦ omega (arith, ap (left ops) (after_idle-is ops t i above))
          ]
    ]

-- ---- nothing is left where all is performed, and nowhere else
none_left : (ops : List MicroOp) (t : Standing) → HasPerformed ops t → left ops t ≡ 0
none_left ops t h =
    let issued = h.0 in
    let sums = sum_by-le (λ done. length ops - done) 0 t.performed (All-weaker (λ done. done ≡ length ops) (λ done. length ops - done ≤ 0) (λ done same. omega arith) t.performed h.1) in
    omega arith

all_performed : (ops : List MicroOp) (channels : ℕ) (t : Standing) → IsSound ops channels t → left ops t ≡ 0 → HasPerformed ops t
all_performed ops channels t s none =
    let fits = s.issued_in in (
      omega arith,
      All-from_get_or (λ done. done ≡ length ops) t.performed 0 (λ i h.
          let done : get_or t.performed i 0 ≤ t.issued = All-get_or (λ d. d ≤ t.issued) t.performed i 0 h s.done_in in
          let part = get_or-le-sum_by (λ d. length ops - d) t.performed i 0 h in
          omega arith),
    )

-- ---- a round
round_turn : (i : ℕ) → turn_of_round (suc i) ≡ Lane i
round_turn i =
    cond-false (eqb (suc i) 0) Control (Lane (suc i - 1)) (ne_eqb (suc i) 0 (omega arith))
    ∙ ap Lane (omega arith)

round_of : (channels place : ℕ) → place < channels + 1 → IsTurnOf channels (turn_of_round place)
round_of channels zero h = tt
round_of channels (suc i) h = subst (IsTurnOf channels) (sym (round_turn i)) (omega arith)

-- where no turn of a round finds anything to do, all is performed
idle_round : (ops : List MicroOp) (channels : ℕ) (t : Standing) → IsSound ops channels t → ((place : ℕ) → place < channels + 1 → IsIdle ops t (turn_of_round place)) → HasPerformed ops t
idle_round ops channels t s idle =
    let fits = s.issued_in in
    let caught : All (λ done. done ≡ t.issued) t.performed =
    All-from_get_or (λ done. done ≡ t.issued) t.performed 0 (λ i h.
    let count = s.count in
    let inside : i < channels = omega arith in
    let above : t.issued ≤ performed_by t i = subst (IsIdle ops t) (round_turn i) (idle (suc i) (omega arith)) in
    let done = done-at ops channels t i s inside in
    omega arith) in
    let free : is_blocked t ≡ false =
    list_any_none (λ done. eqb (t.issued - done) 8) t.performed
    (All-weaker (λ done. done ≡ t.issued) (λ done. eqb (t.issued - done) 8 ≡ false) (λ done same. ne_eqb (t.issued - done) 8 (omega arith)) t.performed caught) in
    let closed : is_open ops t ≡ false =
    list_any_none (λ done. list_any is_show (backlog ops t.issued done)) t.performed
    (All-weaker (λ done. done ≡ t.issued) (λ done. list_any is_show (backlog ops t.issued done) ≡ false)
    (λ done same. ap (list_any is_show) (drop_all done (take t.issued ops) (omega (arith, length-take-le t.issued ops fits)))) t.performed caught) in
    elim (cases_lt t.issued (length ops)) [
      | inl below ↦
          let goes : can_issue ops t ≡ true =
          and_from (ltb t.issued (length ops)) (not (is_blocked t) && not (is_open ops t)) (lt-ltb t.issued (length ops) below)
          (and_from (not (is_blocked t)) (not (is_open ops t)) (not_from_false (is_blocked t) free) (not_from_false (is_open ops t) closed)) in
          absurd (false≢true (sym (idle 0 (omega arith)) ∙ goes))
      | inr above ↦
          let all : t.issued ≡ length ops = omega arith in
          (all, All-weaker (λ done. done ≡ t.issued) (λ done. done ≡ length ops) (λ done same. same ∙ all) t.performed caught)
    ]

-- ---- the first number at which a count is 0
first_zero : (f : ℕ → ℕ) (n : ℕ) → f n ≡ 0 → (m : ℕ) × (f m ≡ 0) × ((k : ℕ) → k < m → f k ≡ 0 → ⊥)
first_zero f zero h = (zero, h, λ k below. absurd (omega arith))
first_zero f (suc n) h =
    elim (cases_eq (f zero) 0) [
      | inl here ↦ (zero, here, λ k below. absurd (omega arith))
      | inr other ↦
          let later = first_zero (λ k. f (suc k)) n h in
          (suc later.0, later.1, before f later.0 other later.2)
    ]
  where
    before : (f : ℕ → ℕ) (m : ℕ) → (f zero ≡ 0 → ⊥) → ((k : ℕ) → k < m → f (suc k) ≡ 0 → ⊥) → (k : ℕ) → k < suc m → f k ≡ 0 → ⊥
    before f m first rest zero below = first
    before f m first rest (suc k) below = rest k (omega arith)

-- ---- rounds
module _ (ops : List MicroOp) (schedule : List Turn) (channels : ℕ) where
  abbrev at : ℕ → Standing
  at n = after_turns ops schedule channels n

  -- the number of turns up to a round
  abbrev start : ℕ → ℕ
  start round = length schedule + round * (channels + 1)

  turn-at : (round place : ℕ) → place < channels + 1 → turn_at schedule channels (start round + place) ≡ turn_of_round place
  turn-at round place h =
      let n = start round + place in
      let past : n - length schedule ≡ round * (channels + 1) + place = omega arith in
      cond-false (ltb n (length schedule)) (get_or schedule n Control) (turn_of_round ((n - length schedule) % (channels + 1))) (le-ltb n (length schedule) (omega arith))
      ∙ ap turn_of_round (ap (λ k. k % (channels + 1)) past ∙ mod-mul-add round (channels + 1) place h)

  -- one turn more of a round
  at-more : (round place : ℕ) → place < channels + 1 → at (start round + suc place) ≡ after_turn ops (at (start round + place)) (turn_of_round place)
  at-more round place h =
      let next : start round + suc place ≡ suc (start round + place) = omega arith in
      ap at next ∙ ap (after_turn ops (at (start round + place))) (turn-at round place h)

  -- in the first turns of a round less is left, or they find nothing to do
  some_turns : (round places : ℕ) → places ≤ channels + 1 → (left ops (at (start round + places)) < left ops (at (start round))) ⊎ ((at (start round + places) ≡ at (start round)) × ((place : ℕ) → place < places → IsIdle ops (at (start round)) (turn_of_round place)))
  some_turns round zero h = inr (ap at (omega arith), λ place below. absurd (omega arith))
  some_turns round (suc p) h =
      let t = at (start round) in
      let mid = at (start round + p) in
      let turn = turn_of_round p in
      let step = at-more round p (omega arith) in
      let sound = sound-turns ops schedule channels (start round + p) in
      elim (some_turns round p (omega arith)) [
        | inl falls ↦ inl (omega (arith, ap (left ops) step, never_more ops channels mid turn sound))
        | inr same ↦
            elim (one_turn ops channels mid turn (round_of channels p (omega arith)) sound) [
              | inl falls ↦ inl (omega (arith, ap (left ops) step, ap (left ops) same.0))
              | inr stays ↦
                  inr (
                    step ∙ (stays.0 ∙ same.0),
                    λ place below. elim (cases_lt place p) [
                      | inl earlier ↦ same.1 place earlier
                      | inr last ↦
                          let here : p ≡ place = omega arith in
                          subst (λ x. IsIdle ops t (turn_of_round x)) here (subst (λ x. IsIdle ops x turn) same.0 stays.1)
                    ],
                  )
            ]
      ]

  -- each round leaves less, until nothing is left
  after_rounds : (rounds : ℕ) → left ops (at (start rounds)) ≤ left ops (at (start 0)) - rounds
  after_rounds zero = omega arith
  after_rounds (suc k) =
      let before = after_rounds k in
      let next : start (suc k) ≡ start k + (channels + 1) = omega arith in
      let left_is = ap (λ n. left ops (at n)) next in
      elim (some_turns k (channels + 1) (omega arith)) [
        | inl falls ↦ omega arith
        | inr same ↦
            let sound = sound-turns ops schedule channels (start k) in
            let none = none_left ops (at (start k)) (idle_round ops channels (at (start k)) sound same.1) in
            omega (arith, ap (left ops) same.0)
      ]

  -- there is a first moment at which all is performed
  pub turns_end : (n : ℕ) × IsFirst (HasPerformed ops) schedule channels ops n
  turns_end =
      let rounds = left ops (at (start 0)) in
      let end = after_rounds rounds in
      let first = first_zero (λ n. left ops (at n)) (start rounds) (omega arith) in
      let performed = all_performed ops channels (at first.0) (sound-turns ops schedule channels first.0) first.1 in
      (first.0, (performed, λ k below earlier. first.2 k below (none_left ops (at k) earlier)))
