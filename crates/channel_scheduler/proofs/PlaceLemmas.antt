-- The place among the turns.
use Rattle.std.proofs.Common.{◌≡◌, ℕ, suc, ◌+◌, ◌-◌, ◌*◌, ◌/◌, ◌%◌, ◌<◌, ◌≤◌, cond, ltb, List, length, get_or, sym, ap, ◌∙◌, inl, inr, arith}
use Rattle.std.specs.Prelude.{min, ◌⊎◌}
use Rattle.std.proofs.lemmas.Bool.{cond-true, cond-false, lt-ltb, le-ltb, cases_lt}
use Rattle.std.proofs.lemmas.Nat.{mod-mul-add, div-add-mod', mod_below}
use Rattle.fault_book.specs.declared.schedule.Turn.{Turn}
use Rattle.fault_book.specs.declared.schedule.Turn.TheVariants.{Control}
use Rattle.channel_scheduler.specs.Counts.{turn_of_round, turn_at}
use Rattle.channel_scheduler.specs.Channels.{ChannelState, turn_from, next_turn, advanced}
use Rattle.channel_scheduler.specs.Moments.{HasUsed}

-- the remainder of the next number
mod_next : (k n : ℕ) → cond (ltb (k % (n + 1)) n) (k % (n + 1) + 1) 0 ≡ (k + 1) % (n + 1)
mod_next k n =
    let m = n + 1 in
    let split = div-add-mod' k m in
    let below = mod_below k m (omega arith) in
    elim (cases_lt (k % m) n) [
      | inl small ↦
          let whole : k + 1 ≡ (k / m) * m + (k % m + 1) = omega arith in
          cond-true (ltb (k % m) n) (k % m + 1) 0 (lt-ltb (k % m) n small)
          ∙ (sym (mod-mul-add (k / m) m (k % m + 1) (omega arith)) ∙ ap (λ x. x % m) (sym whole))
      | inr last ↦
          let whole : k + 1 ≡ (k / m + 1) * m + 0 = omega arith in
          cond-false (ltb (k % m) n) (k % m + 1) 0 (le-ltb (k % m) n last)
          ∙ (sym (mod-mul-add (k / m + 1) m 0 (omega arith)) ∙ ap (λ x. x % m) (sym whole))
    ]

-- the next turn is turn number n
pub next_turn-at : (schedule : List Turn) (channels n : ℕ) (s : ChannelState) → HasUsed schedule channels n s → next_turn s ≡ turn_at schedule channels n
next_turn-at schedule channels n s u =
    ap (λ turns. turn_from turns s.used s.round) u.schedule_is
    ∙ (ap (λ used. turn_from schedule used s.round) u.used
    ∙ (ap (λ round. turn_from schedule (min n (length schedule)) round) u.round
    ∙ same schedule channels n (cases_lt n (length schedule))))
  where
    same : (schedule : List Turn) (channels n : ℕ) → (n < length schedule) ⊎ (length schedule ≤ n) → turn_from schedule (min n (length schedule)) ((n - length schedule) % (channels + 1)) ≡ turn_at schedule channels n
    same schedule channels n (inl h) =
        let used : min n (length schedule) ≡ n = omega arith in
        ap (λ used. turn_from schedule used ((n - length schedule) % (channels + 1))) used
    same schedule channels n (inr h) =
        let used : min n (length schedule) ≡ length schedule = omega arith in
        let round = turn_of_round ((n - length schedule) % (channels + 1)) in
        ap (λ used. turn_from schedule used ((n - length schedule) % (channels + 1))) used
        ∙ (cond-false (ltb (length schedule) (length schedule)) (get_or schedule (length schedule) Control) round (le-ltb (length schedule) (length schedule) (omega arith))
        ∙ sym (cond-false (ltb n (length schedule)) (get_or schedule n Control) round (le-ltb n (length schedule) h)))

-- one turn more
pub HasUsed-more : (schedule : List Turn) (channels n : ℕ) (s : ChannelState) → length s.queues ≡ channels → HasUsed schedule channels n s → HasUsed schedule channels (suc n) (advanced s)
HasUsed-more schedule channels n s count u =
    let len = length s.schedule in
    let same : len ≡ length schedule = ap length u.schedule_is in
    let is_used = u.used in
    let is_round = u.round in
    let m = channels + 1 in
    elim (cases_lt n (length schedule)) [
      | inl h ↦
          let inside : s.used < len = omega arith in
          let none : n - length schedule ≡ suc n - length schedule = omega arith in
          record {
            schedule_is = u.schedule_is;
            used = cond-true (ltb s.used len) (s.used + 1) s.used (lt-ltb s.used len inside) ∙ omega arith;
            round = cond-true (ltb s.used len) s.round (cond (ltb s.round (length s.queues)) (s.round + 1) 0) (lt-ltb s.used len inside) ∙ (u.round ∙ ap (λ k. k % m) none);
          }
      | inr h ↦
          let past : len ≤ s.used = omega arith in
          let more : (n - length schedule) + 1 ≡ suc n - length schedule = omega arith in
          record {
            schedule_is = u.schedule_is;
            used = cond-false (ltb s.used len) (s.used + 1) s.used (le-ltb s.used len past) ∙ omega arith;
            round = cond-false (ltb s.used len) s.round (cond (ltb s.round (length s.queues)) (s.round + 1) 0) (le-ltb s.used len past)
                ∙ (ap (λ c. cond (ltb s.round c) (s.round + 1) 0) count
                ∙ (ap (λ r. cond (ltb r channels) (r + 1) 0) u.round
                ∙ (mod_next (n - length schedule) channels ∙ ap (λ k. k % m) more)));
          }
    ]
