-- What the channels keep true through turns, and that turns come to an end.
use Rattle.std.proofs.Common.{◌≡◌, ℕ, suc, ◌+◌, ◌-◌, ◌*◌, ◌<◌, ◌≤◌, ◌^◌, true, false, cond, eqb, ltb, All, List, [], ◌∷◌, ◌++◌, map, length, drop, get_or, refl, sym, ap, ◌∙◌, subst, inl, inr, arith}
use Rattle.std.specs.List.{list_any}
use Rattle.std.proofs.Math.ListN.{set}
use Rattle.std.proofs.lemmas.Bool.{cond_both, cond-true, cond-false, ltb-true, ltb-false, lt-ltb, le-ltb, eqb-false, eq-eqb, ne_eqb, cases_eq, cases_lt}
use Rattle.std.proofs.Math.Nat.{mul-le-mul_left}
use Rattle.std.proofs.lemmas.List.{length-set, length-map, get_or-set_same, get_or-set_other, set-get_or, get_or-map, length_push}
use Rattle.std.proofs.lemmas.List.Elements.{All-tail, All-weaker, All-push, All-get_or}
use Rattle.std.proofs.lemmas.List.Folds.{list_any_at}
use Rattle.channel_alu.specs.declared.operation.MicroOp.{MicroOp}
use Rattle.fault_book.specs.Book.{Book}
use Rattle.fault_book.specs.Turns.{IsTurnOf}
use Rattle.channel_lane.specs.Lane.{LaneState, answer_of, lane_after}
use Rattle.channel_lane.proofs.LaneLemmas.{answers-after_all, CanPerform-after_all}
use Rattle.lane_bank.specs.Bank.{no_lane, lane_at}
use Rattle.fault_book.specs.declared.schedule.Turn.{Turn}
use Rattle.fault_book.specs.declared.schedule.Turn.TheVariants.{Control, Lane}
use Rattle.channel_scheduler.specs.Channels.{ChannelState, IsAble, IsReady, IsKept, no_operations, queue_at, is_behind, is_blocked, next_turn, performed, performed_from, by_turn, advanced, passed}
use Rattle.channel_scheduler.proofs.CatchingLemmas.{Keeps-by, Place-by}
use Rattle.channel_scheduler.proofs.TimeLemmas.{IsNext, time_left, served, time_left-falls, time_left-served, time_left-scheduled}

-- a lane that has performed the first operation of its queue can perform the rest
ready_after : (book : Book) (op : MicroOp) (rest : List MicroOp) (lane : LaneState) → IsReady lane (op ∷ rest) → IsReady (lane_after book op lane) rest
ready_after book op rest lane r =
    let count = answers-after_all book (op ∷ []) lane in
    let some = r.few in
    let long = r.short in
    record {
      can = All-weaker (IsAble lane) (IsAble (lane_after book op lane)) (λ o h. CanPerform-after_all book (op ∷ []) lane o h) rest (All-tail (IsAble lane) op rest r.can);
      few = omega arith;
      short = omega arith;
    }

pub ready_push : (op : MicroOp) (queue : List MicroOp) (lane : LaneState) → IsReady lane queue → IsAble lane op → lane.answers + length queue < 10 ^ 18 → length queue < 8 → IsReady lane (queue ++ op ∷ [])
ready_push op queue lane r can few short =
    let count = length_push queue op in
    record {
      can = All-push (IsAble lane) queue op r.can can;
      few = omega arith;
      short = omega arith;
    }

-- readiness at each place, where lane and queue i are changed
ready_set : (lanes : List LaneState) (queues : List (List MicroOp)) (i : ℕ) (lane : LaneState) (queue : List MicroOp) → length queues ≡ length lanes → ((j : ℕ) → j < length lanes → IsReady (lane_at lanes j) (queue_at queues j)) → IsReady lane queue → (j : ℕ) → j < length (set lanes i lane) → IsReady (lane_at (set lanes i lane) j) (queue_at (set queues i queue) j)
ready_set lanes queues i lane queue count each one j h =
    let inside : j < length lanes = omega (arith, length-set lanes i lane) in
    elim (cases_eq j i) [
      | inl same ↦
          let here : i < length lanes = omega arith in
          let lane_is : lane_at (set lanes i lane) j ≡ lane = ap (λ k. lane_at (set lanes i lane) k) same ∙ get_or-set_same lanes i lane no_lane here in
          let queue_is : queue_at (set queues i queue) j ≡ queue = ap (λ k. queue_at (set queues i queue) k) same ∙ get_or-set_same queues i queue no_operations (omega arith) in
          subst (λ l. IsReady l (queue_at (set queues i queue) j)) (sym lane_is) (subst (λ q. IsReady lane q) (sym queue_is) one)
      | inr other ↦
          subst (λ l. IsReady l (queue_at (set queues i queue) j)) (sym (get_or-set_other lanes i j lane no_lane other))
          (subst (λ q. IsReady (lane_at lanes j) q) (sym (get_or-set_other queues i j queue no_operations other)) (each j inside))
    ]

kept_from : (book : Book) (s : ChannelState) (i : ℕ) (queue : List MicroOp) → i < length s.lanes → queue_at s.queues i ≡ queue → IsKept s → IsKept (performed_from book s i queue)
kept_from book s i [] h e k = k
kept_from book s i (op ∷ rest) h e k =
    let lane = lane_at s.lanes i in
    let lanes_same = length-set s.lanes i (lane_after book op lane) in
    record {
      at_most_twelve = omega (arith, k.at_most_twelve);
      queues_count = length-set s.queues i rest ∙ k.queues_count ∙ sym lanes_same;
      column_count = length-set s.column i (answer_of book op lane) ∙ k.column_count ∙ sym lanes_same;
      ready = ready_set s.lanes s.queues i (lane_after book op lane) rest k.queues_count k.ready (ready_after book op rest lane (subst (IsReady lane) e (k.ready i h)));
      turns = subst (λ n. All (IsTurnOf n) s.schedule) (sym lanes_same) k.turns;
      used_in = k.used_in;
      round_in = omega (arith, k.round_in);
    }

pub IsKept-performed : (book : Book) (s : ChannelState) (i : ℕ) → i < length s.lanes → IsKept s → IsKept (performed book s i)
unfolding performed
IsKept-performed book s i h k = kept_from book s i (queue_at s.queues i) h refl k

pub IsKept-advanced : (s : ChannelState) → IsKept s → IsKept (advanced s)
IsKept-advanced s k = record {
  at_most_twelve = k.at_most_twelve;
  queues_count = k.queues_count;
  column_count = k.column_count;
  ready = k.ready;
  turns = k.turns;
  used_in = cond_both (ltb s.used (length s.schedule)) (s.used + 1) s.used (λ n. n ≤ length s.schedule) (λ e. omega (arith, ltb-true s.used (length s.schedule) e)) (λ e. k.used_in);
  round_in =
      let next = cond (ltb s.round (length s.queues)) (s.round + 1) 0 in
      let count = k.queues_count in
      let next_in : next ≤ length s.lanes = cond_both (ltb s.round (length s.queues)) (s.round + 1) 0 (λ n. n ≤ length s.lanes) (λ e. omega (arith, ltb-true s.round (length s.queues) e)) (λ e. omega arith) in
      cond_both (ltb s.used (length s.schedule)) s.round next (λ n. n ≤ length s.lanes) (λ e. k.round_in) (λ e. next_in);
}

-- no queue is full
pub short_queue : (queues : List (List MicroOp)) (i : ℕ) → i < length queues → list_any (λ queue. eqb (length queue) 8) queues ≡ false → length (queue_at queues i) ≤ 8 → length (queue_at queues i) < 8
short_queue queues i h free short =
    elim (cases_eq (length (queue_at queues i)) 8) [
      | inl full ↦
          let any = list_any_at (λ queue. eqb (length queue) 8) queues i no_operations h (eq-eqb (length (queue_at queues i)) 8 full) in
          absurd (cc (any, free))
      | inr other ↦ omega arith
    ]

-- with an operation more at the end of each queue
pub IsKept-pushed : (op : MicroOp) (s : ChannelState) → is_blocked s ≡ false → ((i : ℕ) → i < length s.lanes → IsAble (lane_at s.lanes i) op) → ((i : ℕ) → i < length s.lanes → (lane_at s.lanes i).answers + length (queue_at s.queues i) < 10 ^ 18) → IsKept s → IsKept (record s { queues = map (λ queue. queue ++ op ∷ []) s.queues })
IsKept-pushed op s free can few k = record {
  at_most_twelve = k.at_most_twelve;
  queues_count = length-map s.queues (λ queue. queue ++ op ∷ []) ∙ k.queues_count;
  column_count = k.column_count;
  ready = λ i h.
      let queue = queue_at s.queues i in
      let r = k.ready i h in
      let inside : i < length s.queues = omega (arith, k.queues_count) in
      let short : length queue < 8 = short_queue s.queues i inside free r.short in
      subst (λ q. IsReady (lane_at s.lanes i) q) (sym (get_or-map (λ q. q ++ op ∷ []) s.queues i no_operations no_operations inside))
      (ready_push op queue (lane_at s.lanes i) r (can i h) (few i h) short);
  turns = k.turns;
  used_in = k.used_in;
  round_in = k.round_in;
}

-- ---- turns come to an end
pub queues-performed : (book : Book) (s : ChannelState) (i : ℕ) → (performed book s i).queues ≡ served s.queues i
unfolding performed
queues-performed book s i = by_queue (queue_at s.queues i) refl
  where
    by_queue : (queue : List MicroOp) → queue_at s.queues i ≡ queue → (performed_from book s i queue).queues ≡ served s.queues i
    by_queue [] e = sym (ap (λ q. set s.queues i (drop 1 q)) e ∙ ap (λ q. set s.queues i q) (sym e) ∙ set-get_or s.queues i no_operations)
    by_queue (op ∷ rest) e = sym (ap (λ q. set s.queues i (drop 1 q)) e)

-- at most how many turns there are until nothing waits and control can issue
abbrev pub remaining : ChannelState → ℕ
remaining s =
    let m = length s.queues + 1 in
    (length s.schedule - s.used) + (m * time_left m s.round 1 s.queues + cond (eqb s.round 0) 0 (m - s.round))

-- the place after r in a round of a turn of control and n channels
abbrev pub place_after : ℕ → ℕ → ℕ
place_after r n = cond (ltb r n) (r + 1) 0

IsNext-place : (r n : ℕ) → r ≤ n → IsNext (n + 1) r (place_after r n)
IsNext-place r n h =
    cond_both (ltb r n) (r + 1) 0 (λ next. IsNext (n + 1) r next)
    (λ e. let below = ltb-true r n e in inl (omega arith, refl))
    (λ e. let above = ltb-false r n e in inr (omega arith, refl))

-- a turn of the schedule
remaining-scheduled : (m r used n : ℕ) (queues after : List (List MicroOp)) (rest : ℕ) → used < n → time_left m r 1 after ≤ time_left m r 1 queues → m * time_left m r 1 after ≤ m * time_left m r 1 queues → (n - (used + 1)) + (m * time_left m r 1 after + rest) < (n - used) + (m * time_left m r 1 queues + rest)
remaining-scheduled m r used n queues after rest h times products = omega arith

-- a turn of a round
remaining-round : (m time after dist next : ℕ) → m * after + next < m * time + dist → (used n : ℕ) → (n - used) + (m * after + next) < (n - used) + (m * time + dist)
remaining-round m time after dist next h used n = omega arith

distance-bound : (m r : ℕ) → 0 < m → cond (eqb r 0) 0 (m - r) < m
distance-bound m r h =
    cond_both (eqb r 0) 0 (m - r) (λ d. d < m) (λ e. h) (λ e. let some = eqb-false r 0 e in omega arith)

distance-falls : (n r next : ℕ) → IsNext (n + 1) r next → (r ≡ 0 → ⊥) → cond (eqb next 0) 0 (n + 1 - next) < cond (eqb r 0) 0 (n + 1 - r)
distance-falls n r next (inl step) other =
    let far = cond-false (eqb r 0) 0 (n + 1 - r) (ne_eqb r 0 other) in
    let near = cond-false (eqb next 0) 0 (n + 1 - next) (ne_eqb next 0 (omega arith)) in
    omega arith
distance-falls n r next (inr step) other =
    let far = cond-false (eqb r 0) 0 (n + 1 - r) (ne_eqb r 0 other) in
    let near = cond-true (eqb next 0) 0 (n + 1 - next) (eq-eqb next 0 step.1) in
    omega arith

-- what remains, by the parts of a state
parts-fall : {bound : ℕ} (t : ChannelState) (used round : ℕ) {n m : ℕ} → length t.schedule ≡ n → t.used ≡ used → t.round ≡ round → length t.queues ≡ m → (n - used) + ((m + 1) * time_left (m + 1) round 1 t.queues + cond (eqb round 0) 0 (m + 1 - round)) < bound → remaining t < bound
parts-fall {bound} t used round {n} {m} schedule_is used_is round_is count h =
    subst (λ x. (x - t.used) + ((length t.queues + 1) * time_left (length t.queues + 1) t.round 1 t.queues + cond (eqb t.round 0) 0 (length t.queues + 1 - t.round)) < bound) (sym schedule_is)
    (subst (λ x. (n - x) + ((length t.queues + 1) * time_left (length t.queues + 1) t.round 1 t.queues + cond (eqb t.round 0) 0 (length t.queues + 1 - t.round)) < bound) (sym used_is)
    (subst (λ x. (n - used) + ((length t.queues + 1) * time_left (length t.queues + 1) x 1 t.queues + cond (eqb x 0) 0 (length t.queues + 1 - x)) < bound) (sym round_is)
    (subst (λ x. (n - used) + ((x + 1) * time_left (x + 1) round 1 t.queues + cond (eqb round 0) 0 (x + 1 - round)) < bound) (sym count) h)))

-- the state after a turn, at each kind of turn
module _ (book : Book) (s : ChannelState) (k : IsKept s) where
  turn_in : IsTurnOf (length s.lanes) (next_turn s)
  turn_in =
      cond_both (ltb s.used (length s.schedule)) (get_or s.schedule s.used Control) (cond (eqb s.round 0) Control (Lane (s.round - 1))) (λ turn. IsTurnOf (length s.lanes) turn)
      (λ e. All-get_or (IsTurnOf (length s.lanes)) s.schedule s.used Control (ltb-true s.used (length s.schedule) e) k.turns)
      (λ e. cond_both (eqb s.round 0) Control (Lane (s.round - 1)) (λ turn. IsTurnOf (length s.lanes) turn) (λ z. tt) (λ z. let small = k.round_in in omega (arith, eqb-false s.round 0 z)))

  -- by any turn no queue grows, and their number stays
  times_scheduled : (m r : ℕ) (turn : Turn) → time_left m r 1 (by_turn book s turn).queues ≤ time_left m r 1 s.queues
  times_scheduled m r Control = omega arith
  times_scheduled m r (Lane i) =
      subst (λ queues. time_left m r 1 queues ≤ time_left m r 1 s.queues) (sym (queues-performed book s i)) (time_left-scheduled m r 1 i s.queues)

  scheduled : s.used < length s.schedule → remaining (passed book s) < remaining s
  scheduled h =
      let keeps = Keeps-by book s (next_turn s) in
      let after = (by_turn book s (next_turn s)).queues in
      let place = Place-by book s (next_turn s) in
      let m = length s.queues + 1 in
      let times = times_scheduled m s.round (next_turn s) in
      let products = mul-le-mul_left m times in
      let test : ltb (by_turn book s (next_turn s)).used (length (by_turn book s (next_turn s)).schedule) ≡ true = ap (λ u. ltb u (length (by_turn book s (next_turn s)).schedule)) place.1 ∙ ap (λ turns. ltb s.used (length turns)) place.0 ∙ lt-ltb s.used (length s.schedule) h in
      let used_is : (passed book s).used ≡ s.used + 1 = cond-true (ltb (by_turn book s (next_turn s)).used (length (by_turn book s (next_turn s)).schedule)) ((by_turn book s (next_turn s)).used + 1) (by_turn book s (next_turn s)).used test ∙ ap (λ u. u + 1) place.1 in
      let round_is : (passed book s).round ≡ s.round = cond-true (ltb (by_turn book s (next_turn s)).used (length (by_turn book s (next_turn s)).schedule)) (by_turn book s (next_turn s)).round (cond (ltb (by_turn book s (next_turn s)).round (length after)) ((by_turn book s (next_turn s)).round + 1) 0) test ∙ place.2 in
      parts-fall (passed book s) (s.used + 1) s.round (ap length place.0) used_is round_is keeps.queues_count (remaining-scheduled m s.round s.used (length s.schedule) s.queues after (cond (eqb s.round 0) 0 (m - s.round)) h times products)

  round_turn : length s.schedule ≤ s.used → (next_turn s ≡ Control → is_behind s ≡ true) → remaining (passed book s) < remaining s
  round_turn h behind =
      let turn = next_turn s in
      let keeps = Keeps-by book s turn in
      let after = (by_turn book s turn).queues in
      let place = Place-by book s turn in
      let n = length s.queues in
      let m = n + 1 in
      let next = place_after s.round n in
      let small : s.round ≤ n = let c = k.queues_count in let q = k.round_in in omega arith in
      let step = IsNext-place s.round n small in
      let turn_is : turn ≡ cond (eqb s.round 0) Control (Lane (s.round - 1)) = cond-false (ltb s.used (length s.schedule)) (get_or s.schedule s.used Control) (cond (eqb s.round 0) Control (Lane (s.round - 1))) (le-ltb s.used (length s.schedule) h) in
      let test : ltb (by_turn book s turn).used (length (by_turn book s turn).schedule) ≡ false = ap (λ u. ltb u (length (by_turn book s turn).schedule)) place.1 ∙ ap (λ turns. ltb s.used (length turns)) place.0 ∙ le-ltb s.used (length s.schedule) h in
      let used_is : (passed book s).used ≡ s.used = cond-false (ltb (by_turn book s turn).used (length (by_turn book s turn).schedule)) ((by_turn book s turn).used + 1) (by_turn book s turn).used test ∙ place.1 in
      let round_is : (passed book s).round ≡ next =
      cond-false (ltb (by_turn book s turn).used (length (by_turn book s turn).schedule)) (by_turn book s turn).round (cond (ltb (by_turn book s turn).round (length after)) ((by_turn book s turn).round + 1) 0) test
      ∙ (ap (λ c. cond (ltb (by_turn book s turn).round c) ((by_turn book s turn).round + 1) 0) keeps.queues_count
      ∙ ap (λ r. cond (ltb r n) (r + 1) 0) place.2) in
      let falls : m * time_left m next 1 after + cond (eqb next 0) 0 (m - next) < m * time_left m s.round 1 s.queues + cond (eqb s.round 0) 0 (m - s.round) =
      elim (cases_eq s.round 0) [
        | inl zero_is ↦
            let control : turn ≡ Control = turn_is ∙ cond-true (eqb s.round 0) Control (Lane (s.round - 1)) (eq-eqb s.round 0 zero_is) in
            let same : after ≡ s.queues = ap (λ t. (by_turn book s t).queues) control in
            let less = time_left-falls m s.round next 1 s.queues (omega arith) (omega arith) step (behind control) in
            let less_after : suc (time_left m next 1 after) ≤ time_left m s.round 1 s.queues = subst (λ queues. suc (time_left m next 1 queues) ≤ time_left m s.round 1 s.queues) (sym same) less in
            let product = mul-le-mul_left m less_after in
            let far = distance-bound m next (omega arith) in
            omega arith
        | inr other ↦
            let lane : turn ≡ Lane (s.round - 1) = turn_is ∙ cond-false (eqb s.round 0) Control (Lane (s.round - 1)) (ne_eqb s.round 0 other) in
            let same : after ≡ served s.queues (s.round - 1) = ap (λ t. (by_turn book s t).queues) lane ∙ queues-performed book s (s.round - 1) in
            let less = time_left-served m s.round next 1 (s.round - 1) s.queues (omega arith) (omega arith) (omega arith) step in
            let less_after : time_left m next 1 after ≤ time_left m s.round 1 s.queues = subst (λ queues. time_left m next 1 queues ≤ time_left m s.round 1 s.queues) (sym same) less in
            let product = mul-le-mul_left m less_after in
            let near = distance-falls n s.round next step other in
            omega arith
      ] in
      parts-fall (passed book s) s.used next (ap length place.0) used_is round_is keeps.queues_count (remaining-round m (time_left m s.round 1 s.queues) (time_left m next 1 after) (cond (eqb s.round 0) 0 (m - s.round)) (cond (eqb next 0) 0 (m - next)) falls s.used (length s.schedule))

  -- each turn brings the end nearer
  pub smaller : (next_turn s ≡ Control → is_behind s ≡ true) → remaining (passed book s) < remaining s
  smaller behind =
      elim (cases_lt s.used (length s.schedule)) [
        | inl h ↦ scheduled h
        | inr h ↦ round_turn h behind
      ]
