-- Queues, by the last operations issued and the backlogs.
use Rattle.std.proofs.Common.{◌≡◌, ℕ, zero, suc, zero-add, ◌+◌, ◌-◌, ◌*◌, ◌<◌, ◌≤◌, Bool, true, false, not, ◌||◌, cond, eqb, ltb, All, List, [], ◌∷◌, ◌++◌, map, length, take, drop, replicate, get_or, refl, sym, ap, ◌∙◌, subst, inl, inr, arith}
use Rattle.std.specs.Prelude.{sum, count_by, remove}
use Rattle.std.specs.Int.{from_bool}
use Rattle.std.specs.List.{list_any}
use Rattle.std.proofs.Math.ListN.{set}
use Rattle.std.proofs.lemmas.Bool.{cases_Bool, cases_eq, cond-false, eqb-false, ne_eqb, lt-ltb, not_from_false, false≢true}
use Rattle.std.proofs.lemmas.List.{length-append, length-drop, length-map, length-set, length-replicate, get_or-map, map-set, drop-drop, drop-append-le}
use Rattle.std.proofs.lemmas.List.Elements.{All-head, All-tail, All-get_or, All-from_get_or, All-set, All-map, All-weaker, All-replicate}
use Rattle.std.proofs.lemmas.List.Folds.{list_any_at, sum_by-replicate}
use Rattle.std.proofs.lemmas.List.Sums.{sum_by-cons, sum_by-set, count_by_more_yes, count_by_more_no}
use Rattle.channel_alu.specs.declared.operation.MicroOp.{MicroOp}
use Rattle.channel_scheduler.specs.Channels.{no_operations, queue_at}
use Rattle.channel_scheduler.specs.Queues.{queues_of, AreCounts}

-- whether a number is 8
abbrev pub is_eight : ℕ → Bool
is_eight n = eqb n 8

pub none_at : {X : Type 0} (p : X → Bool) (xs : List X) (i : ℕ) (d : X) → i < length xs → list_any p xs ≡ false → p (get_or xs i d) ≡ false
none_at p xs i d h none =
    elim (cases_Bool (p (get_or xs i d))) [
      | inl hit ↦ absurd (false≢true (sym none ∙ list_any_at p xs i d h hit))
      | inr miss ↦ miss
    ]

-- ---- one queue
pub length-queue : (recent : List MicroOp) (backlog : ℕ) → backlog ≤ length recent → length (drop (length recent - backlog) recent) ≡ backlog
length-queue recent backlog h = omega (arith, length-drop (length recent - backlog) recent)

pub queue-at : (recent : List MicroOp) (backlogs : List ℕ) (i : ℕ) → i < length backlogs → queue_at (queues_of recent backlogs) i ≡ drop (length recent - get_or backlogs i 0) recent
queue-at recent backlogs i h = get_or-map (λ backlog. drop (length recent - backlog) recent) backlogs i 0 no_operations h

pub backlog-at : (recent : List MicroOp) (backlogs : List ℕ) (i : ℕ) → i < length backlogs → All (λ b. b ≤ length recent) backlogs → get_or backlogs i 0 ≡ length (queue_at (queues_of recent backlogs) i)
backlog-at recent backlogs i h each =
    sym (ap length (queue-at recent backlogs i h) ∙ length-queue recent (get_or backlogs i 0) (All-get_or (λ b. b ≤ length recent) backlogs i 0 h each))

-- ---- tests
more_waits : (b n : ℕ) → (not (eqb b 0) || ltb 0 n) ≡ ltb 0 (b + n)
more_waits zero n = ap (ltb 0) (sym (zero-add n))
more_waits (suc b) n =
    ap (λ x. x || ltb 0 n) (not_from_false (eqb (suc b) 0) (ne_eqb (suc b) 0 (omega arith))) ∙ sym (lt-ltb 0 (suc b + n) (omega arith))

one_counted : (test : Bool) (n : ℕ) → (test || ltb 0 n) ≡ ltb 0 (cond test 1 0 + n)
one_counted true n = sym (lt-ltb 0 (1 + n) (omega arith))
one_counted false n = ap (ltb 0) (sym (zero-add n))

pub behind-is : (recent : List MicroOp) (backlogs : List ℕ) → All (λ b. b ≤ length recent) backlogs → ltb 0 (sum backlogs) ≡ list_any (λ queue. not (eqb (length queue) 0)) (queues_of recent backlogs)
behind-is recent [] each = refl
behind-is recent (b ∷ backlogs) each =
    let rest = list_any (λ queue. not (eqb (length queue) 0)) (queues_of recent backlogs) in
    sym (ap (λ n. not (eqb n 0) || rest) (length-queue recent b (All-head (λ x. x ≤ length recent) b backlogs each))
    ∙ (ap (λ r. not (eqb b 0) || r) (sym (behind-is recent backlogs (All-tail (λ x. x ≤ length recent) b backlogs each)))
    ∙ (more_waits b (sum backlogs) ∙ ap (ltb 0) (sym (sum_by-cons (λ x. x) b backlogs)))))

pub blocked-is : (recent : List MicroOp) (backlogs : List ℕ) → All (λ b. b ≤ length recent) backlogs → ltb 0 (count_by is_eight backlogs) ≡ list_any (λ queue. eqb (length queue) 8) (queues_of recent backlogs)
blocked-is recent [] each = refl
blocked-is recent (b ∷ backlogs) each =
    let rest = list_any (λ queue. eqb (length queue) 8) (queues_of recent backlogs) in
    sym (ap (λ n. eqb n 8 || rest) (length-queue recent b (All-head (λ x. x ≤ length recent) b backlogs each))
    ∙ (ap (λ r. eqb b 8 || r) (sym (blocked-is recent backlogs (All-tail (λ x. x ≤ length recent) b backlogs each)))
    ∙ (one_counted (eqb b 8) (count_by is_eight backlogs) ∙ ap (ltb 0) (sym (sum_by-cons (λ x. cond (eqb x 8) 1 0) b backlogs)))))

-- ---- the first operation of a queue
pub queues-dropped : (recent : List MicroOp) (backlogs : List ℕ) (i backlog : ℕ) → i < length backlogs → get_or backlogs i 0 ≡ backlog + 1 → backlog < length recent
    → queues_of recent (set backlogs i backlog) ≡ set (queues_of recent backlogs) i (drop 1 (queue_at (queues_of recent backlogs) i))
queues-dropped recent backlogs i backlog h is within =
    let later : (length recent - get_or backlogs i 0) + 1 ≡ length recent - backlog = omega arith in
    map-set (λ b. drop (length recent - b) recent) backlogs i backlog
    ∙ ap (set (queues_of recent backlogs) i)
    (ap (λ n. drop n recent) (sym later)
    ∙ sym (drop-drop 1 (length recent - get_or backlogs i 0) recent)
    ∙ ap (drop 1) (sym (queue-at recent backlogs i h)))

pub counts-dropped : (recent : List MicroOp) (backlogs : List ℕ) (i backlog waiting full : ℕ) → i < length backlogs → get_or backlogs i 0 ≡ backlog + 1 → AreCounts recent backlogs waiting full
    → AreCounts recent (set backlogs i backlog) (waiting - 1) (full - cond (eqb (backlog + 1) 8) 1 0)
counts-dropped recent backlogs i backlog waiting full h is counts =
    let within : get_or backlogs i 0 ≤ length recent = All-get_or (λ b. b ≤ length recent) backlogs i 0 h counts.backlogs_in in
    let few = counts.recent_in in
    let sums : sum (set backlogs i backlog) + get_or backlogs i 0 ≡ sum backlogs + backlog = sum_by-set (λ b. b) backlogs i backlog 0 h in
    let eights : count_by is_eight (set backlogs i backlog) + cond (eqb (get_or backlogs i 0) 8) 1 0 ≡ count_by is_eight backlogs + cond (eqb backlog 8) 1 0 = sum_by-set (λ b. cond (eqb b 8) 1 0) backlogs i backlog 0 h in
    let not_eight : cond {A = ℕ} (eqb backlog 8) 1 0 ≡ 0 = cond-false (eqb backlog 8) 1 0 (ne_eqb backlog 8 (omega arith)) in
    let before : cond {A = ℕ} (eqb (get_or backlogs i 0) 8) 1 0 ≡ cond (eqb (backlog + 1) 8) 1 0 = ap (λ b. cond (eqb b 8) 1 0) is in
    let all = counts.waiting_is in
    let all_full : full ≡ count_by is_eight backlogs = counts.full_is in
    let full_now : full - cond (eqb (backlog + 1) 8) 1 0 ≡ count_by is_eight (set backlogs i backlog) = omega arith in
    record {
      recent_in = counts.recent_in;
      channels_in = omega (arith, counts.channels_in, length-set backlogs i backlog);
      backlogs_in = All-set (λ b. b ≤ length recent) backlogs i backlog (omega arith) counts.backlogs_in;
      waiting_is = omega arith;
      full_is = full_now;
    }

-- what is taken from the counts is there
pub counts-enough : (recent : List MicroOp) (backlogs : List ℕ) (i backlog waiting full : ℕ) → i < length backlogs → get_or backlogs i 0 ≡ backlog + 1 → AreCounts recent backlogs waiting full
    → (1 ≤ waiting) × (cond (eqb (backlog + 1) 8) 1 0 ≤ full)
counts-enough recent backlogs i backlog waiting full h is counts =
    let sums : sum (set backlogs i 0) + get_or backlogs i 0 ≡ sum backlogs + 0 = sum_by-set (λ b. b) backlogs i 0 0 h in
    let eights : count_by is_eight (set backlogs i 0) + cond (eqb (get_or backlogs i 0) 8) 1 0 ≡ count_by is_eight backlogs + 0 = sum_by-set (λ b. cond (eqb b 8) 1 0) backlogs i 0 0 h in
    let before : cond {A = ℕ} (eqb (get_or backlogs i 0) 8) 1 0 ≡ cond (eqb (backlog + 1) 8) 1 0 = ap (λ b. cond (eqb b 8) 1 0) is in
    let all = counts.waiting_is in
    let all_full : full ≡ count_by is_eight backlogs = counts.full_is in
    (omega arith, omega arith)

from_bool-is : (b : Bool) → cond b 1 0 ≡ from_bool b
from_bool-is true = refl
from_bool-is false = refl

-- what is so where the first operation that waits for channel i waits no longer
pub record IsDropped (recent : List MicroOp) (after : List ℕ) (i backlog waiting full : ℕ) (queues : List (List MicroOp)) : Type 0 where
  pub queues_are : queues_of recent after ≡ set queues i (drop 1 (queue_at queues i))
  pub counts : AreCounts recent after (waiting - 1) (full - from_bool (eqb backlog 8))
  pub some : 1 ≤ backlog
  pub some_waiting : 1 ≤ waiting
  pub full_enough : from_bool (eqb backlog 8) ≤ full

pub dropped : (recent : List MicroOp) (backlogs after : List ℕ) (i backlog waiting full : ℕ) (queues : List (List MicroOp)) → queues_of recent backlogs ≡ queues → AreCounts recent backlogs waiting full
    → i < length queues → 0 < length (queue_at queues i) → backlog ≡ get_or backlogs i 0 → after ≡ set backlogs i (backlog - 1) → IsDropped recent after i backlog waiting full queues
dropped recent backlogs after i backlog waiting full queues view counts channel waits is after_is =
    let count = length-map backlogs (λ b. drop (length recent - b) recent) in
    let inside : i < length backlogs = omega (arith, ap length view) in
    let some : 1 ≤ backlog = omega (arith, is, backlog-at recent backlogs i inside counts.backlogs_in, ap (λ qs. length (queue_at qs i)) view) in
    let one_more : (backlog - 1) + 1 ≡ backlog = omega arith in
    let at : get_or backlogs i 0 ≡ (backlog - 1) + 1 = omega (arith, is) in
    let within : get_or backlogs i 0 ≤ length recent = All-get_or (λ b. b ≤ length recent) backlogs i 0 inside counts.backlogs_in in
    let eight : cond {A = ℕ} (eqb ((backlog - 1) + 1) 8) 1 0 ≡ from_bool (eqb backlog 8) = ap (λ n. cond (eqb n 8) 1 0) one_more ∙ from_bool-is (eqb backlog 8) in
    let enough = counts-enough recent backlogs i (backlog - 1) waiting full inside at counts in
    record {
      queues_are =
          ap (queues_of recent) after_is
          ∙ (queues-dropped recent backlogs i (backlog - 1) inside at (omega arith)
          ∙ ap (λ qs. set qs i (drop 1 (queue_at qs i))) view);
      counts =
          subst (λ xs. AreCounts recent xs (waiting - 1) (full - from_bool (eqb backlog 8))) (sym after_is)
          (subst (λ n. AreCounts recent (set backlogs i (backlog - 1)) (waiting - 1) (full - n)) eight
          (counts-dropped recent backlogs i (backlog - 1) waiting full inside at counts));
      some = some;
      some_waiting = enough.0;
      full_enough = subst (λ n. n ≤ full) eight enough.1;
    }

-- ---- an operation more in each queue
pub short_each : (recent : List MicroOp) (backlogs : List ℕ) → length recent ≤ 8 → All (λ b. b ≤ length recent) backlogs → list_any (λ queue. eqb (length queue) 8) (queues_of recent backlogs) ≡ false → All (λ b. b < 8) backlogs
short_each recent backlogs few each free =
    All-from_get_or (λ b. b < 8) backlogs 0 (λ i h.
    let within : get_or backlogs i 0 ≤ length recent = All-get_or (λ b. b ≤ length recent) backlogs i 0 h each in
    let count = length-map backlogs (λ backlog. drop (length recent - backlog) recent) in
    let miss = none_at (λ queue. eqb (length queue) 8) (queues_of recent backlogs) i no_operations (omega arith) free in
    let other : length (queue_at (queues_of recent backlogs) i) ≡ 8 → ⊥ = eqb-false (length (queue_at (queues_of recent backlogs) i)) 8 miss in
    let same = backlog-at recent backlogs i h each in
    elim (cases_eq (get_or backlogs i 0) 8) [
      | inl eight ↦ absurd (other (sym same ∙ eight))
      | inr less ↦ omega arith
    ])

pub zero_each : (backlogs : List ℕ) → sum backlogs ≡ 0 → All (λ b. b ≡ 0) backlogs
zero_each backlogs none =
    All-from_get_or (λ b. b ≡ 0) backlogs 0 (λ i h. omega (arith, none, sum_by-set (λ b. b) backlogs i 0 0 h))

pub sum-more : (backlogs : List ℕ) → sum (map (λ b. b + 1) backlogs) ≡ sum backlogs + length backlogs
sum-more [] = refl
sum-more (b ∷ backlogs) =
    omega (arith, sum-more backlogs, sum_by-cons (λ x. x) (b + 1) (map (λ x. x + 1) backlogs), sum_by-cons (λ x. x) b backlogs)

-- what is known of each backlog where the last operations are made fewer
abbrev pub KeepsEnd : List MicroOp → List MicroOp → ℕ → Type 0
KeepsEnd old new backlog = (backlog ≤ length new) × (drop (length new - backlog) new ≡ drop (length old - backlog) old)

pub queues-pushed : (old new : List MicroOp) (op : MicroOp) (backlogs : List ℕ) → All (KeepsEnd old new) backlogs → queues_of (new ++ op ∷ []) (map (λ b. b + 1) backlogs) ≡ map (λ queue. queue ++ op ∷ []) (queues_of old backlogs)
queues-pushed old new op [] each = refl
queues-pushed old new op (b ∷ backlogs) each =
    let first = All-head (KeepsEnd old new) b backlogs each in
    let count = length-append new (op ∷ []) in
    let within = first.0 in
    let place : length (new ++ op ∷ []) - (b + 1) ≡ length new - b = omega arith in
    let one : drop (length (new ++ op ∷ []) - (b + 1)) (new ++ op ∷ []) ≡ drop (length old - b) old ++ op ∷ [] =
    ap (λ n. drop n (new ++ op ∷ [])) place
    ∙ drop-append-le (length new - b) new (op ∷ []) (omega arith)
    ∙ ap (λ queue. queue ++ op ∷ []) first.1 in
    ap (λ queue. queue ∷ queues_of (new ++ op ∷ []) (map (λ x. x + 1) backlogs)) one
    ∙ ap (λ queues. (drop (length old - b) old ++ op ∷ []) ∷ queues) (queues-pushed old new op backlogs (All-tail (KeepsEnd old new) b backlogs each))

-- ---- no queue has anything
queues-none : (n : ℕ) → queues_of [] (replicate n 0) ≡ replicate n no_operations
queues-none zero = refl
queues-none (suc n) = ap (λ queues. no_operations ∷ queues) (queues-none n)

pub queues-new : (recent : List MicroOp) (backlogs : List ℕ) (n : ℕ) → recent ≡ [] → backlogs ≡ replicate n 0 → queues_of recent backlogs ≡ replicate n no_operations
queues-new recent backlogs n none zeros = ap (λ ops. queues_of ops backlogs) none ∙ (ap (queues_of []) zeros ∙ queues-none n)

pub counts-none : (n : ℕ) → n ≤ 12 → AreCounts [] (replicate n 0) 0 0
counts-none n few = record {
  recent_in = omega arith;
  channels_in = omega (arith, length-replicate {A = ℕ} n 0);
  backlogs_in = All-replicate (λ b. b ≤ 0) n 0 (omega arith);
  waiting_is = omega (arith, sum_by-replicate (λ b. b) n 0);
  full_is = omega (arith, sum_by-replicate (λ b. cond (eqb b 8) 1 0) n 0);
}

-- ---- room for an operation more
pub remove-first : (recent : List MicroOp) → remove recent 0 ≡ drop 1 recent
remove-first [] = refl
remove-first (op ∷ recent) = refl

pub kept-without-first : (old new : List MicroOp) (backlog : ℕ) → new ≡ remove old 0 → backlog < length old → KeepsEnd old new backlog
kept-without-first old new backlog e h =
    let new_is : new ≡ drop 1 old = e ∙ remove-first old in
    let count = length-drop 1 old in
    let place : 1 + (length (drop 1 old) - backlog) ≡ length old - backlog = omega arith in (
      omega (arith, ap length new_is),
      ap (λ xs. drop (length xs - backlog) xs) new_is
          ∙ (drop-drop (length (drop 1 old) - backlog) 1 old ∙ ap (λ n. drop n old) place),
    )

-- one backlog more is counted
pub count-more : (p : ℕ → Bool) (xs : List ℕ) (i : ℕ) → i < length xs → count_by p (take (i + 1) xs) ≡ count_by p (take i xs) + from_bool (p (get_or xs i 0))
count-more p xs i h =
    elim (cases_Bool (p (get_or xs i 0))) [
      | inl hit ↦ count_by_more_yes p xs i 0 h hit ∙ ap (λ b. count_by p (take i xs) + from_bool b) (sym hit)
      | inr miss ↦ omega (arith, count_by_more_no p xs i 0 h miss, ap from_bool miss)
    ]

-- what is known of the backlogs before an operation more is put to each queue
pub kept_each : (old new : List MicroOp) (backlogs : List ℕ) (waiting full : ℕ) (queues : List (List MicroOp)) → queues_of old backlogs ≡ queues → AreCounts old backlogs waiting full
    → list_any (λ queue. eqb (length queue) 8) queues ≡ false
    → ((backlog : ℕ) → backlog ≤ length old → backlog < 8 → (waiting ≡ 0 → backlog ≡ 0) → KeepsEnd old new backlog)
    → All (KeepsEnd old new) backlogs
kept_each old new backlogs waiting full queues view counts free kept =
    let short = short_each old backlogs counts.recent_in counts.backlogs_in (ap (list_any (λ queue. eqb (length queue) 8)) view ∙ free) in
    All-from_get_or (KeepsEnd old new) backlogs 0 (λ i h.
    kept (get_or backlogs i 0)
    (All-get_or (λ b. b ≤ length old) backlogs i 0 h counts.backlogs_in)
    (All-get_or (λ b. b < 8) backlogs i 0 h short)
    (λ none. All-get_or (λ b. b ≡ 0) backlogs i 0 h (zero_each backlogs (sym counts.waiting_is ∙ none))))

pub backlogs-pushed : (old new : List MicroOp) (op : MicroOp) (backlogs after : List ℕ) → All (KeepsEnd old new) backlogs → after ≡ map (λ b. b + 1) backlogs → All (λ b. b ≤ length (new ++ op ∷ [])) after
backlogs-pushed old new op backlogs after each after_is =
    let longer = length-append new (op ∷ []) in
    subst (All (λ b. b ≤ length (new ++ op ∷ []))) (sym after_is)
    (All-map (λ b. b ≤ length (new ++ op ∷ [])) (λ b. b + 1) backlogs
    (All-weaker (KeepsEnd old new) (λ b. b + 1 ≤ length (new ++ op ∷ [])) (λ b k. let within = k.0 in omega arith) backlogs each))

pub counts-pushed : (old new : List MicroOp) (op : MicroOp) (backlogs after : List ℕ) (waiting full full_now : ℕ) → AreCounts old backlogs waiting full → length new < 8 → All (KeepsEnd old new) backlogs → after ≡ map (λ b. b + 1) backlogs → full_now ≡ count_by is_eight after
    → AreCounts (new ++ op ∷ []) after (waiting + length after) full_now
counts-pushed old new op backlogs after waiting full full_now counts room each after_is full_is =
    let count : length after ≡ length backlogs = ap length after_is ∙ length-map backlogs (λ b. b + 1) in
    let longer = length-append new (op ∷ []) in
    let few = counts.channels_in in
    let all = counts.waiting_is in
    record {
      recent_in = omega arith;
      channels_in = omega arith;
      backlogs_in = backlogs-pushed old new op backlogs after each after_is;
      waiting_is = omega (arith, sum-more backlogs, ap sum after_is);
      full_is = full_is;
    }

-- ---- how many backlogs are 8
pub one_at_most : (b : Bool) → from_bool b ≤ 1
one_at_most true = omega arith
one_at_most false = omega arith

pub no_eights : (backlogs : List ℕ) → All (λ b. b < 8) backlogs → count_by is_eight backlogs ≡ 0
no_eights [] short = refl
no_eights (b ∷ backlogs) short =
    let first = All-head (λ x. x < 8) b backlogs short in
    let miss : cond {A = ℕ} (eqb b 8) 1 0 ≡ 0 = cond-false (eqb b 8) 1 0 (ne_eqb b 8 (omega arith)) in
    let count : count_by is_eight (b ∷ backlogs) ≡ cond (eqb b 8) 1 0 + count_by is_eight backlogs = sum_by-cons (λ x. cond (eqb x 8) 1 0) b backlogs in
    omega (arith, no_eights backlogs (All-tail (λ x. x < 8) b backlogs short))

-- at most 8 operations wait for each of 12 channels
sum_most : (most : ℕ) (backlogs : List ℕ) → All (λ b. b ≤ most) backlogs → sum backlogs ≤ length backlogs * most
sum_most most [] each = omega arith
sum_most most (b ∷ backlogs) each =
    let first = All-head (λ x. x ≤ most) b backlogs each in
    omega (arith, sum_by-cons (λ x. x) b backlogs, sum_most most backlogs (All-tail (λ x. x ≤ most) b backlogs each))

pub waiting_most : (recent : List MicroOp) (backlogs : List ℕ) (waiting full : ℕ) → AreCounts recent backlogs waiting full → waiting ≤ 96
waiting_most recent backlogs waiting full counts =
    let few = counts.recent_in in
    let channels = counts.channels_in in
    let all = counts.waiting_is in
    let most : sum backlogs ≤ length backlogs * 8 = sum_most 8 backlogs (All-weaker (λ b. b ≤ length recent) (λ b. b ≤ 8) (λ b h. omega arith) backlogs counts.backlogs_in) in
    omega arith
