-- Integers that are held, put at their numbers one after another.
use Rattle.std.proofs.Common.{◌≡◌, ℕ, zero, suc, ◌+◌, ◌-◌, ◌<◌, ◌≤◌, ℤ, List, [], ◌∷◌, take, drop, Some, None, Result, Ok, Err, refl, sym, ap, ◌∙◌, subst, arith}
use Rattle.std.proofs.lemmas.List.{drop_more}
use Rattle.std.proofs.lemmas.Option.{slice_get_within, get_or_from_slice_get}
use Rattle.std.proofs.Math.Seq.{take-nil}
use Rattle.std.specs.Prelude.{⊤, slice_get}
use Rattle.resolved_tree.specs.Meaning.{put_at, put_from}
use Rattle.source_meaning.specs.declared.machine.Machine.{Machine}
use Rattle.source_meaning.specs.declared.machine.Stop.{Stop}
use Rattle.source_meaning.specs.Follows.{state_of, Computes}
use Rattle.source_meaning.proofs.Following.{same_sizes, computes_then, computes_stops}

some_first : (l : List ℤ) (k : ℕ) (x : ℤ) → slice_get l k ≡ Some x → drop k l ≡ x ∷ drop (k + 1) l
some_first l k x h = drop_more l k x (slice_get_within l k x h) ∙ ap (λ y. y ∷ drop (k + 1) l) (get_or_from_slice_get l k x x h)

none_left : (l : List ℤ) (k : ℕ) → slice_get l k ≡ None → drop k l ≡ []
none_left [] zero h = refl
none_left [] (suc k) h = refl
none_left (y ∷ l) zero h = absurd cc
none_left (y ∷ l) (suc k) h = none_left l k h

-- so many of what is held, of which so many are put already
abbrev pub left_of : ℕ → ℕ → ℕ → List ℤ → List ℤ
left_of count done k held = take (count - done) (drop k held)

first_left : (count done k : ℕ) (held : List ℤ) (x : ℤ) → done < count → slice_get held k ≡ Some x → left_of count done k held ≡ x ∷ left_of count (done + 1) (k + 1) held
first_left count done k held x lt h =
    let more : count - done ≡ suc (count - (done + 1)) = omega arith in
    ap (λ n. take n (drop k held)) more ∙ ap (λ l. take (suc (count - (done + 1))) l) (some_first held k x h)

pub nothing_put : (k : ℕ) (xs : List ℤ) (w : Machine) (a : ⊤) → xs ≡ [] → Computes (λ n. put_from n k xs (state_of w)) w (Ok a) w
nothing_put k xs w a h =
    subst (λ ys. Computes (λ n. put_from n k ys (state_of w)) w (Ok a) w) (sym h) (record { sizes = same_sizes w; silent = λ fits. refl; ends = λ fits. refl })

pub past_held : (count done k : ℕ) (held : List ℤ) → slice_get held k ≡ None → left_of count done k held ≡ []
past_held count done k held h = ap (λ l. take (count - done) l) (none_left held k h) ∙ take-nil (count - done)

pub all_put : (count done k : ℕ) (held : List ℤ) → count ≤ done → left_of count done k held ≡ []
all_put count done k held h = let none : count - done ≡ 0 = omega arith in ap (λ n. take n (drop k held)) none

module _ (count done k : ℕ) (held : List ℤ) (x : ℤ) (lt : done < count) (is : slice_get held k ≡ Some x) (w : Machine) where
  at_first : (o : Result ⊤ Stop) (u : Machine) → Computes (λ n. put_from n k (x ∷ left_of count (done + 1) (k + 1) held) (state_of w)) w o u → Computes (λ n. put_from n k (left_of count done k held) (state_of w)) w o u
  at_first o u f = subst (λ xs. Computes (λ n. put_from n k xs (state_of w)) w o u) (sym (first_left count done k held x lt is)) f

  pub put_stops : (u : Machine) (e : Stop) → Computes (λ n. put_at n k x (state_of w)) w (Err e) u → Computes (λ n. put_from n k (left_of count done k held) (state_of w)) w (Err e) u
  put_stops u e f = at_first (Err e) u (computes_stops (λ n. put_at n k x (state_of w)) (λ n a. put_from n (k + 1) (left_of count (done + 1) (k + 1) held)) w u e f)

  pub put_goes : (q u : Machine) (a : ⊤) (o : Result ⊤ Stop) → Computes (λ n. put_at n k x (state_of w)) w (Ok a) q
      → Computes (λ n. put_from n (k + 1) (left_of count (done + 1) (k + 1) held) (state_of q)) q o u → Computes (λ n. put_from n k (left_of count done k held) (state_of w)) w o u
  put_goes q u a o f g = at_first o u (computes_then (λ n. put_at n k x (state_of w)) (λ n a. put_from n (k + 1) (left_of count (done + 1) (k + 1) held)) w q u a o f g)
