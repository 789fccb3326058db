-- Runs of puts: none, one, and one run after another.
use Rattle.std.specs.Prelude.{◌≡◌, ℕ, ◌+◌, ◌==◌, ◌||◌, not, List, [], ◌∷◌, ◌++◌, length, take, Option, Some, None, IfSome, IsSomeAnd, refl}
use Rattle.std.specs.List.{concat}
use Rattle.std.proofs.Common.{sym, ◌∙◌, ap, subst, append_assoc}
use Rattle.std.proofs.lemmas.List.{append-nil}
use Rattle.std.proofs.lemmas.List.Folds.{concat-append}
use Rattle.std.proofs.Math.Seq.{take-append-add}
use Rattle.outside.specs.Sink.{SinkState, Appended, AppendedPrefix, PutLeaves, NoPutAfterFault, PutsEach, WroteAll, BrokeOff}
use Rattle.outside.specs.declared.sink.Put.TheVariants.{Done, Failed}

told_joins : (old mid new : Option (List ℕ)) (a b : List ℕ) → IfSome mid (λ after. IsSomeAnd old (λ before. after ≡ before ++ a)) → IfSome new (λ after. IsSomeAnd mid (λ before. after ≡ before ++ b)) → IfSome new (λ after. IsSomeAnd old (λ before. after ≡ before ++ (a ++ b)))
told_joins old mid None a b p q = tt
told_joins old None (Some after) a b p q = absurd q
told_joins None (Some between) (Some after) a b p q = absurd p
told_joins (Some before) (Some between) (Some after) a b p q =
    q ∙ ap (λ l. l ++ b) p ∙ append_assoc before a b

-- what was appended first, and then more
pub Appended-append : (old mid new : SinkState) (a b : List ℕ) → Appended old a mid → Appended mid b new → Appended old (a ++ b) new
Appended-append old mid new a b p q = told_joins old.told mid.told new.told a b p q

pub AppendedPrefix-append : (old mid new : SinkState) (a b : List ℕ) → Appended old a mid → AppendedPrefix mid b new → AppendedPrefix old (a ++ b) new
AppendedPrefix-append old mid new a b p (n, q) =
    (length a + n, subst (λ l. Appended old l new) (sym (take-append-add a b n)) (Appended-append old mid new a (take n b) p q))

told_itself : (told : Option (List ℕ)) → IfSome told (λ after. IsSomeAnd told (λ before. after ≡ before ++ []))
told_itself None = tt
told_itself (Some bytes) = sym (append-nil bytes)

pub PutsEach-append : {K : Type 0} (puts : K → List ℕ → K → Type 0) (old : K) (a : List (List ℕ)) (mid : K) (b : List (List ℕ)) (new : K) → PutsEach puts old a mid → PutsEach puts mid b new → PutsEach puts old (a ++ b) new
PutsEach-append puts old [] mid b new p q = subst (λ k. PutsEach puts k b new) p q
PutsEach-append puts old (piece ∷ a) mid b new (between, one, p) q =
    (between, one, PutsEach-append puts between a mid b new p q)

stays_timely : (old new : SinkState) → new.late ≡ (old.late || not (old.faults == 0)) → NoPutAfterFault old new
stays_timely old new late no_faults timely = simp (late, no_faults, timely)

module _ {K : Type 0} {puts : K → List ℕ → K → Type 0} {state : K → SinkState} where
  pub WroteAll-none : (old : K) → WroteAll puts state old [] old
  WroteAll-none old = record {
    each = refl;
    count = refl;
    bytes = told_itself (state old).told;
    timely = λ _ timely. timely;
  }

  -- one put that answered Done
  pub WroteAll-one : (old : K) (piece : List ℕ) (new : K) → PutLeaves (state old) piece Done (state new) → (state new).late ≡ ((state old).late || not ((state old).faults == 0)) → puts old piece new → WroteAll puts state old (piece ∷ []) new
  WroteAll-one old piece new (count, bytes) late one = record {
    each = (new, one, refl);
    count = count;
    bytes = rw append-nil bytes;
    timely = stays_timely (state old) (state new) late;
  }

  -- one put that answered Failed
  pub BrokeOff-one : (old : K) (piece : List ℕ) (new : K) → PutLeaves (state old) piece Failed (state new) → (state new).late ≡ ((state old).late || not ((state old).faults == 0)) → puts old piece new → BrokeOff puts state old (piece ∷ []) new
  BrokeOff-one old piece new (rose, bytes) late one = record {
    each = (new, one, refl);
    rose = rose;
    bytes = rw append-nil bytes;
    timely = stays_timely (state old) (state new) late;
  }

  -- two runs, one after the other
  pub WroteAll-append : {old mid new : K} {a b : List (List ℕ)} → WroteAll puts state old a mid → WroteAll puts state mid b new → WroteAll puts state old (a ++ b) new
  WroteAll-append {old} {mid} {new} {a} {b} p q = record {
    each = PutsEach-append puts old a mid b new p.each q.each;
    count = q.count ∙ p.count;
    bytes = rw (concat-append a b) (Appended-append (state old) (state mid) (state new) (concat a) (concat b) p.bytes q.bytes);
    timely = λ no_faults timely. q.timely (p.count ∙ no_faults) (p.timely no_faults timely);
  }

  pub BrokeOff-append : {old mid new : K} {a b : List (List ℕ)} → WroteAll puts state old a mid → BrokeOff puts state mid b new → BrokeOff puts state old (a ++ b) new
  BrokeOff-append {old} {mid} {new} {a} {b} p q = record {
    each = PutsEach-append puts old a mid b new p.each q.each;
    rose = rw (sym p.count) q.rose;
    bytes = rw (concat-append a b) (AppendedPrefix-append (state old) (state mid) (state new) (concat a) (concat b) p.bytes q.bytes);
    timely = λ no_faults timely. q.timely (p.count ∙ no_faults) (p.timely no_faults timely);
  }

  -- a run, and one put more
  pub WroteAll-push : {old mid : K} {pieces : List (List ℕ)} (piece : List ℕ) (new : K) → WroteAll puts state old pieces mid → PutLeaves (state mid) piece Done (state new) → (state new).late ≡ ((state mid).late || not ((state mid).faults == 0)) → puts mid piece new → WroteAll puts state old (pieces ++ piece ∷ []) new
  WroteAll-push {old} {mid} {pieces} piece new p leaves late one =
      WroteAll-append p (WroteAll-one mid piece new leaves late one)

  pub BrokeOff-push : {old mid : K} {pieces : List (List ℕ)} (piece : List ℕ) (new : K) → WroteAll puts state old pieces mid → PutLeaves (state mid) piece Failed (state new) → (state new).late ≡ ((state mid).late || not ((state mid).faults == 0)) → puts mid piece new → BrokeOff puts state old (pieces ++ piece ∷ []) new
  BrokeOff-push {old} {mid} {pieces} piece new p leaves late one =
      BrokeOff-append p (BrokeOff-one mid piece new leaves late one)

  -- one put, and then a run
  pub WroteAll-cons : {mid new : K} {pieces : List (List ℕ)} (old : K) (piece : List ℕ) → PutLeaves (state old) piece Done (state mid) → (state mid).late ≡ ((state old).late || not ((state old).faults == 0)) → puts old piece mid → WroteAll puts state mid pieces new → WroteAll puts state old (piece ∷ pieces) new
  WroteAll-cons {mid} {new} {pieces} old piece leaves late one p =
      WroteAll-append (WroteAll-one old piece mid leaves late one) p

  pub BrokeOff-cons : {mid new : K} {pieces : List (List ℕ)} (old : K) (piece : List ℕ) → PutLeaves (state old) piece Done (state mid) → (state mid).late ≡ ((state old).late || not ((state old).faults == 0)) → puts old piece mid → BrokeOff puts state mid pieces new → BrokeOff puts state old (piece ∷ pieces) new
  BrokeOff-cons {mid} {new} {pieces} old piece leaves late one p =
      BrokeOff-append (WroteAll-one old piece mid leaves late one) p
