-- Turns come to an end: after the schedule, each turn of a round brings each waiting channel nearer to having nothing to do.
use Rattle.std.proofs.Common.{◌≡◌, ℕ, zero, suc, ◌+◌, ◌-◌, ◌*◌, ◌<◌, ◌≤◌, true, cond, ltb, List, [], ◌∷◌, length, drop, subst, arith}
use Rattle.std.specs.Prelude.{◌⊎◌}
use Rattle.std.proofs.Common.{inl, inr}
use Rattle.std.proofs.Math.ListN.{set}
use Rattle.std.proofs.lemmas.Bool.{cond-true, cond-false, lt-ltb, le-ltb, cases_lt}
use Rattle.channel_alu.specs.declared.operation.MicroOp.{MicroOp}
use Rattle.channel_scheduler.specs.Channels.{queue_at}
use Rattle.channel_scheduler.proofs.CatchingLemmas.{waits}

-- how many turns ago, in rounds of m turns, place p was passed, at place r
pub late : ℕ → ℕ → ℕ → ℕ
late m r p = cond (ltb p r) (r - p - 1) (m + r - p - 1)

late-below : (m r p : ℕ) → p < r → late m r p ≡ r - p - 1
unfolding late
late-below m r p h = cond-true (ltb p r) (r - p - 1) (m + r - p - 1) (lt-ltb p r h)

late-above : (m r p : ℕ) → r ≤ p → late m r p ≡ m + r - p - 1
unfolding late
late-above m r p h = cond-false (ltb p r) (r - p - 1) (m + r - p - 1) (le-ltb p r h)

-- the place of a round after r
abbrev pub IsNext : ℕ → ℕ → ℕ → Type 0
IsNext m r next = ((r + 1 < m) × (next ≡ r + 1)) ⊎ ((r + 1 ≡ m) × (next ≡ 0))

late-bound : (m r p : ℕ) → r < m → p < m → late m r p < m
late-bound m r p hr hp =
    elim (cases_lt p r) [
      | inl below ↦ omega (arith, late-below m r p below)
      | inr above ↦ omega (arith, late-above m r p above)
    ]

late-other : (m r next p : ℕ) → r < m → p < m → (p ≡ r → ⊥) → IsNext m r next → late m next p ≡ late m r p + 1
late-other m r next p hr hp other (inl step) =
    elim (cases_lt p r) [
      | inl below ↦ omega (arith, late-below m r p below, late-below m next p (omega arith))
      | inr above ↦ omega (arith, late-above m r p above, late-above m next p (omega arith))
    ]
late-other m r next p hr hp other (inr step) =
    elim (cases_lt p r) [
      | inl below ↦ omega (arith, late-below m r p below, late-above m next p (omega arith))
      | inr above ↦ absurd (omega arith)
    ]

late-here : (m r : ℕ) → r < m → late m r r ≡ m - 1
late-here m r h = omega (arith, late-above m r r (omega arith))

late-served : (m r next : ℕ) → r < m → IsNext m r next → late m next r ≡ 0
late-served m r next h (inl step) = omega (arith, late-below m next r (omega arith))
late-served m r next h (inr step) = omega (arith, late-above m next r (omega arith))

-- at place r of a round, how many turns a queue of k operations takes, whose turn is at place p
abbrev lane_time : ℕ → ℕ → ℕ → ℕ → ℕ
lane_time m r p k = k * m - late m r p

lane_time-other : (m r next p k : ℕ) → r < m → p < m → (p ≡ r → ⊥) → IsNext m r next → lane_time m next p k ≤ lane_time m r p k
lane_time-other m r next p k hr hp other step = omega (arith, late-other m r next p hr hp other step)

lane_time-falls : (m r next p k : ℕ) → r < m → p < m → (p ≡ r → ⊥) → IsNext m r next → lane_time m next p (suc k) < lane_time m r p (suc k)
lane_time-falls m r next p k hr hp other step =
    omega (arith, late-other m r next p hr hp other step, late-bound m r p hr hp)

lane_time-served : (m r next k : ℕ) → r < m → IsNext m r next → lane_time m next r k ≤ lane_time m r r (suc k)
lane_time-served m r next k h step = omega (arith, late-here m r h, late-served m r next h step)

-- how many turns the queues take at most, whose turns are at place p and after it
abbrev pub time_left : ℕ → ℕ → ℕ → List (List MicroOp) → ℕ
time_left m r p [] = 0
time_left m r p (queue ∷ queues) = lane_time m r p (length queue) + time_left m r (p + 1) queues

-- a queue without its first operation
abbrev pub served : List (List MicroOp) → ℕ → List (List MicroOp)
served queues i = set queues i (drop 1 (queue_at queues i))

time_left-ahead : (m r next p : ℕ) (queues : List (List MicroOp)) → r < p → p + length queues ≤ m → IsNext m r next → time_left m next p queues ≤ time_left m r p queues
time_left-ahead m r next p [] h fits step = omega arith
time_left-ahead m r next p (queue ∷ queues) h fits step =
    let first = lane_time-other m r next p (length queue) (omega arith) (omega arith) (omega arith) step in
    let rest = time_left-ahead m r next (p + 1) queues (omega arith) (omega arith) step in
    omega arith

-- a turn that serves no queue
pub time_left-falls : (m r next p : ℕ) (queues : List (List MicroOp)) → r < p → p + length queues ≤ m → IsNext m r next → waits queues ≡ true → time_left m next p queues < time_left m r p queues
time_left-falls m r next p [] h fits step w = cc
time_left-falls m r next p ([] ∷ queues) h fits step w =
    let first = lane_time-other m r next p 0 (omega arith) (omega arith) (omega arith) step in
    let rest = time_left-falls m r next (p + 1) queues (omega arith) (omega arith) step w in
    omega arith
time_left-falls m r next p ((op ∷ ops) ∷ queues) h fits step w =
    let first = lane_time-falls m r next p (length ops) (omega arith) (omega arith) (omega arith) step in
    let rest = time_left-ahead m r next (p + 1) queues (omega arith) (omega arith) step in
    omega arith

-- the turn of a queue
pub time_left-served : (m r next p i : ℕ) (queues : List (List MicroOp)) → p + i ≡ r → r < m → p + length queues ≤ m → IsNext m r next → time_left m next p (served queues i) ≤ time_left m r p queues
time_left-served m r next p i [] here hr fits step = omega arith
time_left-served m r next p zero ([] ∷ queues) here hr fits step =
    let rest = time_left-ahead m r next (p + 1) queues (omega arith) (omega arith) step in
    omega arith
time_left-served m r next p zero ((op ∷ ops) ∷ queues) here hr fits step =
    let same : r ≡ p = omega arith in
    let first : lane_time m next p (length ops) ≤ lane_time m r p (suc (length ops)) =
    subst (λ x. lane_time m next x (length ops) ≤ lane_time m r x (suc (length ops))) same (lane_time-served m r next (length ops) hr step) in
    let rest = time_left-ahead m r next (p + 1) queues (omega arith) (omega arith) step in
    omega arith
time_left-served m r next p (suc i) (queue ∷ queues) here hr fits step =
    let first = lane_time-other m r next p (length queue) (omega arith) (omega arith) (omega arith) step in
    let rest = time_left-served m r next (p + 1) i queues (omega arith) hr (omega arith) step in
    omega arith

-- a turn of the schedule
pub time_left-scheduled : (m r p i : ℕ) (queues : List (List MicroOp)) → time_left m r p (served queues i) ≤ time_left m r p queues
time_left-scheduled m r p i [] = omega arith
time_left-scheduled m r p zero ([] ∷ queues) = omega arith
time_left-scheduled m r p zero ((op ∷ ops) ∷ queues) = omega arith
time_left-scheduled m r p (suc i) (queue ∷ queues) =
    let rest = time_left-scheduled m r (p + 1) i queues in
    omega arith
