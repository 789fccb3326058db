-- A machine in two parts follows a run in two parts.
use Rattle.std.proofs.Common.{◌≡◌, ℕ, zero, suc, ◌+◌, ℤ, List, [], ◌∷◌, ◌++◌, length, take, Option, Some, None, Result, Ok, Err, refl, sym, ap, ◌∙◌, subst}
use Rattle.std.proofs.lemmas.List.{append-nil, map-append}
use Rattle.std.proofs.Math.Seq.{take-append-add}
use Rattle.std.specs.Prelude.{IsErr}
use Rattle.std.specs.Result.{IsErrAnd}
use Rattle.std.specs.Fmt.{signed_decimal}
use Rattle.number_text.specs.Lines.{line, print_lines}
use Rattle.outside.specs.Sink.{SinkState, WroteAll, BrokeOff}
use Rattle.outside.proofs.Runs.{WroteAll-none, WroteAll-append, BrokeOff-append}
use Rattle.source_tree.specs.State.{State}
use Rattle.source_tree.specs.Run.{Run, and_then, Ending, returned, trapped, spent, Limited, printing, limited, from_ending}
use Rattle.source_tree.proofs.RunLaws.{limited-and_then}
use Rattle.source_meaning.specs.declared.machine.Machine.{Machine}
use Rattle.source_meaning.specs.declared.machine.Stop.{Stop}
use Rattle.source_meaning.specs.declared.machine.Stop.TheVariants.{Trap, Spent, SinkFailed}
use Rattle.source_meaning.specs.Follows.{state_of, told, SameSizes, Computes, PutsTold, Follows}

-- ---- runs
-- what comes after a run that returns
then_goes : {A B : Type 0} (left : ℕ) (r : Run A) (f : A → State → Run B) (a : A) (s : State) (rest : ℕ)
    → (limited left r).ending ≡ returned a s rest → limited left (and_then r f) ≡ printing (limited left r).prints (limited rest (f a s))
then_goes left r f a s rest h =
    limited-and_then left r f ∙ ap (λ e. printing (limited left r).prints (from_ending e (λ x t n. limited n (f x t)))) h

-- how a run ends that doesn't return
abbrev Ended : {A B : Type 0} → Ending A → Ending B → Type 0
Ended e (trapped kind line) = e ≡ trapped kind line
Ended e spent = e ≡ spent
Ended e (returned a s n) = ⊥

then_ends : {A B : Type 0} (left : ℕ) (r : Run A) (f : A → State → Run B) (e : Ending B)
    → Ended (limited left r).ending e → limited left (and_then r f) ≡ record { prints = (limited left r).prints; ending = e }
then_ends left r f (trapped kind line) h =
    limited-and_then left r f ∙ ap (λ e. printing (limited left r).prints (from_ending e (λ x t n. limited n (f x t)))) h
    ∙ ap (λ ns. record { prints = ns; ending = trapped kind line }) (append-nil (limited left r).prints)
then_ends left r f spent h =
    limited-and_then left r f ∙ ap (λ e. printing (limited left r).prints (from_ending e (λ x t n. limited n (f x t)))) h
    ∙ ap (λ ns. record { prints = ns; ending = spent }) (append-nil (limited left r).prints)
then_ends left r f (returned a s n) h = absurd h

some_once : {A : Type 0} (x y : A) → Some x ≡ Some y → x ≡ y
some_once x y h = cc

-- ---- sizes
pub same_sizes : (w : Machine) → SameSizes w w
same_sizes w = record { integers = refl; held = refl }

sizes_then : (w v u : Machine) → SameSizes w v → SameSizes v u → SameSizes w u
sizes_then w v u a b = record { integers = b.integers ∙ a.integers; held = b.held ∙ a.held }

-- ---- machines that print nothing
module _ {A B : Type 0} (r : ℕ → Run A) (f : ℕ → A → State → Run B) (w v : Machine) where
  fits_on : SameSizes w v → length w.held ≡ length w.integers → length v.held ≡ length v.integers
  fits_on sizes fits = sizes.held ∙ fits ∙ sym sizes.integers

  -- it returns, and then what comes next
  pub computes_then : (u : Machine) (a : A) (o : Result B Stop) → Computes r w (Ok a) v → Computes (λ n. f n a (state_of v)) v o u
      → Computes (λ n. and_then (r n) (f n)) w o u
  computes_then u a o m c =
      let size = length w.integers in
      let second = λ (n : ℕ). limited v.left (f n a (state_of v)) in
      record {
        sizes = sizes_then w v u m.sizes c.sizes;
        silent = λ fits.
            let whole = then_goes w.left (r size) (f size) a (state_of v) v.left (some_once _ _ (m.ends fits)) in
            ap (λ (l : Limited B). l.prints) whole ∙ ap (λ ns. ns ++ (second size).prints) (m.silent fits)
            ∙ subst (λ n. (second n).prints ≡ []) m.sizes.integers (c.silent (fits_on m.sizes fits));
        ends = λ fits.
            let whole = then_goes w.left (r size) (f size) a (state_of v) v.left (some_once _ _ (m.ends fits)) in
            ap (λ (l : Limited B). Some l.ending) whole
            ∙ subst (λ n. Some (second n).ending ≡ told u o) m.sizes.integers (c.ends (fits_on m.sizes fits));
      }

  -- it stops, whatever would come next
  pub computes_stops : (e : Stop) → Computes r w (Err e) v → Computes (λ n. and_then (r n) (f n)) w (Err e) v
  computes_stops e m = record {
    sizes = m.sizes;
    silent = λ fits. ap (λ (l : Limited B). l.prints) (whole e (m.ends fits)).1 ∙ m.silent fits;
    ends = λ fits. ap (λ (l : Limited B). Some l.ending) (whole e (m.ends fits)).1 ∙ (whole e (m.ends fits)).2;
  }
    where
      whole : (e : Stop) → Some (limited w.left (r (length w.integers))).ending ≡ told v (Err e)
          → (b : Ending B) × (limited w.left (and_then (r (length w.integers)) (f (length w.integers))) ≡ record { prints = (limited w.left (r (length w.integers))).prints; ending = b }) × (Some b ≡ told v (Err e))
      whole (Trap kind line) h = (trapped kind line, then_ends w.left (r (length w.integers)) (f (length w.integers)) (trapped kind line) (some_once _ _ h), refl)
      whole Spent h = (spent, then_ends w.left (r (length w.integers)) (f (length w.integers)) spent (some_once _ _ h), refl)
      whole SinkFailed h = absurd cc

-- ---- machines that print
module _ {K : Type 0} (puts : K → List ℕ → K → Type 0) (state : K → SinkState) where
  print_lines-append : (a b : List ℤ) → print_lines (a ++ b) ≡ print_lines a ++ print_lines b
  print_lines-append a b = map-append (λ z. line (signed_decimal z)) a b

  -- what is put first, and then more
  puts_more : {A : Type 0} (prints : List ℤ) (l : Limited A) (old mid : K) (ending : Option (Ending A)) (new : K)
      → WroteAll puts state old (print_lines prints) mid → PutsTold puts state l mid ending new → PutsTold puts state (printing prints l) old ending new
  puts_more prints l old mid (Some ending) new first more =
      (subst (λ ps. WroteAll puts state old ps new) (sym (print_lines-append prints l.prints)) (WroteAll-append first more.0), more.1)
  puts_more prints l old mid None new first (n, more) = (
    length (print_lines prints) + n,
    subst (λ ps. BrokeOff puts state old ps new)
        (sym (ap (take (length (print_lines prints) + n)) (print_lines-append prints l.prints) ∙ take-append-add (print_lines prints) (print_lines l.prints) n))
        (BrokeOff-append first more),
  )

  -- what prints nothing puts nothing
  pub quietly : {A : Type 0} (r : ℕ → Run A) (w : Machine) (o : Result A Stop) (u : Machine) (s : K) → Computes r w o u → Follows puts state r w s o u s
  quietly {A} r w o u s m = record {
    sizes = m.sizes;
    does = λ fits. of (told u o) (m.ends fits) (m.silent fits);
  }
    where
      of : (t : Option (Ending A)) → Some (limited w.left (r (length w.integers))).ending ≡ t → (limited w.left (r (length w.integers))).prints ≡ []
          → PutsTold puts state (limited w.left (r (length w.integers))) s t s
      of (Some e) h k = (subst (λ ns. WroteAll puts state s (print_lines ns) s) (sym k) (WroteAll-none s), some_once _ _ h)
      of None h k = absurd cc

  -- a front of the first is a front of both
  front_of : (n : ℕ) (a b : List (List ℕ)) → (k : ℕ) × (take k (a ++ b) ≡ take n a)
  front_of zero a b = (0, refl)
  front_of (suc n) [] b = (0, refl)
  front_of (suc n) (x ∷ a) b = let h = front_of n a b in (suc h.0, ap (λ l. x ∷ l) h.1)

  module _ {A B : Type 0} (r : ℕ → Run A) (f : ℕ → A → State → Run B) (w v : Machine) (old mid : K) where
    pub follows_then : (u : Machine) (new : K) (a : A) (o : Result B Stop) → Follows puts state r w old (Ok a) v mid → Follows puts state (λ n. f n a (state_of v)) v mid o u new
        → Follows puts state (λ n. and_then (r n) (f n)) w old o u new
    follows_then u new a o m c =
        let size = length w.integers in
        record {
          sizes = sizes_then w v u m.sizes c.sizes;
          does = λ fits.
              let first = m.does fits in
              let on : length v.held ≡ length v.integers = m.sizes.held ∙ fits ∙ sym m.sizes.integers in
              let whole = then_goes w.left (r size) (f size) a (state_of v) v.left first.1 in
              let second = subst (λ n. PutsTold puts state (limited v.left (f n a (state_of v))) mid (told u o) new) m.sizes.integers (c.does on) in
              subst (λ l. PutsTold puts state l old (told u o) new) (sym whole)
              (puts_more (limited w.left (r size)).prints (limited v.left (f size a (state_of v))) old mid (told u o) new first.0 second);
        }

    pub follows_stops : (e : Stop) → Follows puts state r w old (Err e) v mid → Follows puts state (λ n. and_then (r n) (f n)) w old (Err e) v mid
    follows_stops e m = record { sizes = m.sizes; does = λ fits. of e (m.does fits) }
      where
        of : (e : Stop) → PutsTold puts state (limited w.left (r (length w.integers))) old (told {A = A} v (Err e)) mid
            → PutsTold puts state (limited w.left (and_then (r (length w.integers)) (f (length w.integers)))) old (told {A = B} v (Err e)) mid
        of (Trap kind line) h =
            subst (λ l. PutsTold puts state l old (Some (trapped kind line)) mid) (sym (then_ends w.left (r (length w.integers)) (f (length w.integers)) (trapped kind line) h.1)) (h.0, refl)
        of Spent h =
            subst (λ l. PutsTold puts state l old (Some spent) mid) (sym (then_ends w.left (r (length w.integers)) (f (length w.integers)) spent h.1)) (h.0, refl)
        of SinkFailed (n, h) =
            let size = length w.integers in
            let first = limited w.left (r size) in
            let rest = (from_ending first.ending (λ x t k. limited k (f size x t))).prints in
            let k = front_of n (print_lines first.prints) (print_lines rest) in
            let both : print_lines (limited w.left (and_then (r size) (f size))).prints ≡ print_lines first.prints ++ print_lines rest =
            ap (λ (l : Limited B). print_lines l.prints) (limited-and_then w.left (r size) (f size)) ∙ print_lines-append first.prints rest in
            (k.0, subst (λ ps. BrokeOff puts state old ps mid) (sym (ap (take k.0) both ∙ k.1)) h)

-- ---- an error that `?` hands on
pub err_computes : {A : Type 0} (r : ℕ → Run A) (w u : Machine) (o : Result A Stop) (k : Stop) → IsErr o × IsErrAnd o (λ x. x ≡ k) → Computes r w (Err k) u → Computes r w o u
err_computes r w u (Ok a) k h f = absurd h.1
err_computes r w u (Err x) k h f = subst (λ y. Computes r w (Err y) u) (sym h.1) f

pub err_follows : {A K : Type 0} (puts : K → List ℕ → K → Type 0) (state : K → SinkState) (r : ℕ → Run A) (w u : Machine) (old new : K) (o : Result A Stop) (k : Stop)
    → IsErr o × IsErrAnd o (λ x. x ≡ k) → Follows puts state r w old (Err k) u new → Follows puts state r w old o u new
err_follows puts state r w u old new (Ok a) k h f = absurd h.1
err_follows puts state r w u old new (Err x) k h f = subst (λ y. Follows puts state r w old (Err y) u new) (sym h.1) f
