-- The form of a call's arguments: each value is computed, tested by its range, and held, before the next.
use Rattle.std.proofs.Common.{◌≡◌, ℕ, ◌+◌, ◌-◌, ◌<◌, ◌≤◌, ℤ, Bool, true, false, List, [], ◌∷◌, ◌++◌, length, take, drop, get_or, nat_lt, Result, Ok, Err, refl, sym, ap, ◌∙◌, subst, arith}
use Rattle.std.proofs.lemmas.List.{append_assoc, take_more_set, drop-set-add, length-drop, append-nil, drop_all, drop_more}
use Rattle.std.specs.Prelude.{if◌then◌else◌, ⊤, IsErr, slice_set}
use Rattle.std.specs.Result.{IsErrAnd}
use Rattle.moduli_sets.specs.declared.kind.Kind.TheVariants as kind
use Rattle.source_tree.specs.State.{State}
use Rattle.source_tree.specs.Run.{Run, returns, traps, and_then}
use Rattle.source_tree.specs.Scope.{is_within}
use Rattle.source_tree.specs.Statement.{nothing_done}
use Rattle.resolved_tree.specs.Meaning.{elsewhere, value_of, argument_values}
use Rattle.resolved_tree.specs.declared.tree.Argument.{Argument}
use Rattle.source_meaning.specs.declared.machine.Machine.{Machine}
use Rattle.source_meaning.specs.declared.machine.Stop.{Stop}
use Rattle.source_meaning.specs.declared.machine.Stop.TheVariants.{Trap}
use Rattle.source_meaning.specs.Follows.{state_of, Computes, with_held}
use Rattle.source_meaning.proofs.Following.{same_sizes, computes_then, computes_stops}
use Rattle.source_meaning.proofs.PlaceForms.{by_true, by_false, trapped_here}

-- integers, and then those of an answer
abbrev pub after_those : List ℤ → Result (List ℤ) Stop → Result (List ℤ) Stop
after_those xs (Ok ys) = Ok (xs ++ ys)
after_those xs (Err stop) = Err stop

after_none : (o : Result (List ℤ) Stop) → after_those [] o ≡ o
after_none (Ok ys) = refl
after_none (Err e) = refl

after_both : (xs ys : List ℤ) (o : Result (List ℤ) Stop) → after_those xs (after_those ys o) ≡ after_those (xs ++ ys) o
after_both xs ys (Ok zs) = ap (λ l. Ok l) (sym (append_assoc xs ys zs))
after_both xs ys (Err e) = refl

-- what is held, with one integer more
one_more : (first i : ℕ) (held : List ℤ) (x : ℤ) → first + i < length held → take (i + 1) (drop first (slice_set held (first + i) x)) ≡ take i (drop first held) ++ x ∷ []
one_more first i held x h =
    let long : length (drop first held) ≡ length held - first = length-drop first held in
    let within : i < length (drop first held) = omega (arith, long, h) in
    ap (λ l. take (i + 1) l) (drop-set-add first held i x) ∙ take_more_set (drop first held) i x within

module _ (r : ℕ → Run (List ℤ)) (w u : Machine) where
  pub none_before : (o : Result (List ℤ) Stop) → Computes r w o u → Computes r w (after_those [] o) u
  none_before o f = subst (λ p. Computes r w p u) (sym (after_none o)) f

  pub held_before : (first i at : ℕ) (held held' : List ℤ) (x : ℤ) (o : Result (List ℤ) Stop) → at ≡ first + i → at < length held → held' ≡ slice_set held at x
      → Computes r w (after_those (take i (drop first held)) (after_those (x ∷ []) o)) u → Computes r w (after_those (take (i + 1) (drop first held')) o) u
  held_before first i at held held' x o is lt more f =
      let within : first + i < length held = omega (arith, is, lt) in
      let now : take (i + 1) (drop first held') ≡ take i (drop first held) ++ x ∷ [] = ap (λ l. take (i + 1) (drop first l)) (more ∙ ap (λ k. slice_set held k x) is) ∙ one_more first i held x within in
      subst (λ p. Computes r w p u) (after_both (take i (drop first held)) (x ∷ []) o ∙ ap (λ l. after_those l o) (sym now)) f

  pub arguments_end : (first i count : ℕ) (held : List ℤ) → i ≡ count → Computes r w (after_those (take i (drop first held)) (Ok [])) u → Computes r w (Ok (take count (drop first held))) u
  arguments_end first i count held is f =
      subst (λ xs. Computes r w (Ok xs) u) (append-nil (take i (drop first held)) ∙ ap (λ n. take n (drop first held)) is) f

  -- an error that `?` hands on
  pub err_held : (first count : ℕ) (o : Result ⊤ Stop) (e : Stop) → IsErr o × IsErrAnd o (λ x. x ≡ e) → Computes r w (Err e) u → Computes r w (with_held first count u o) u
  err_held first count (Ok a) e h f = absurd h.1
  err_held first count (Err x) e h f = subst (λ y. Computes r w (Err y) u) (sym h.1) f

-- the end of arguments
pub arguments_done : (k : ℕ) (l : List Argument) (i line : ℕ) (w : Machine) → length l ≤ i → Computes (λ n. argument_values n k (drop i l) line (state_of w)) w (Ok []) w
arguments_done k l i line w h =
    subst (λ xs. Computes (λ n. argument_values n k xs line (state_of w)) w (Ok []) w) (sym (drop_all i l h)) (record { sizes = same_sizes w; silent = λ fits. refl; ends = λ fits. refl })

-- an argument, and those after it
pub at_argument : (k : ℕ) (l : List Argument) (i line : ℕ) (w : Machine) (a : Argument) → i < length l → a ≡ get_or l i a → (o : Result (List ℤ) Stop) (u : Machine)
    → Computes (λ n. argument_values n k (a ∷ drop (i + 1) l) line (state_of w)) w o u → Computes (λ n. argument_values n k (drop i l) line (state_of w)) w o u
at_argument k l i line w a lt is o u f =
    subst (λ xs. Computes (λ n. argument_values n k xs line (state_of w)) w o u) (ap (λ b. b ∷ drop (i + 1) l) is ∙ sym (drop_more l i a lt)) f

-- one run or another by a test, and then what comes next
then_by : {A B : Type 0} (b : Bool) (a : A) (s : State) (f : A → State → Run B) → and_then (if b then returns a s else elsewhere) f ≡ (if b then f a s else elsewhere)
then_by true a s f = refl
then_by false a s f = refl

module _ (k : ℕ) (argument : Argument) (more : List Argument) (line : ℕ) (w : Machine) where
  -- a value that is in range
  taken : ℕ → ℤ → State → Run (List ℤ)
  taken n x st = if nat_lt k n then and_then (argument_values n (k + 1) more line st) (λ xs. returns (x ∷ xs)) else elsewhere

  pub argument_stops : (u : Machine) (e : Stop) → Computes (λ n. value_of argument.value (state_of w)) w (Err e) u → Computes (λ n. argument_values n k (argument ∷ more) line (state_of w)) w (Err e) u
  unfolding taken
  argument_stops u e f = computes_stops (λ n. value_of argument.value (state_of w)) (λ n x st. if is_within x argument.range then taken n x st else traps kind.Range line) w u e f

  module _ (v : Machine) (x : ℤ) (f : Computes (λ n. value_of argument.value (state_of w)) w (Ok x) v) where
    goes : (o : Result (List ℤ) Stop) (u : Machine) → Computes (λ n. if is_within x argument.range then taken n x (state_of v) else traps kind.Range line) v o u
        → Computes (λ n. argument_values n k (argument ∷ more) line (state_of w)) w o u
    unfolding taken
    goes o u g = computes_then (λ n. value_of argument.value (state_of w)) (λ n x st. if is_within x argument.range then taken n x st else traps kind.Range line) w v u x o f g

    pub argument_refused : is_within x argument.range ≡ false → Computes (λ n. argument_values n k (argument ∷ more) line (state_of w)) w (Err (Trap kind.Range line)) v
    argument_refused h =
        goes (Err (Trap kind.Range line)) v
        (by_false (is_within x argument.range) (λ n. taken n x (state_of v)) (λ n. traps kind.Range line) v (Err (Trap kind.Range line)) v h (trapped_here v kind.Range line))

    held_then : (o : Result (List ℤ) Stop) (u : Machine) → is_within x argument.range ≡ true
        → Computes (λ n. and_then (if nat_lt k n then nothing_done (state_of v) else elsewhere) (λ a st. and_then (argument_values n (k + 1) more line st) (λ xs. returns (x ∷ xs)))) v o u
        → Computes (λ n. argument_values n k (argument ∷ more) line (state_of w)) w o u
    unfolding taken
    held_then o u h g =
        goes o u
        (by_true (is_within x argument.range) (λ n. taken n x (state_of v)) (λ n. traps kind.Range line) v o u h
        (subst (λ (run : ℕ → Run (List ℤ)). Computes run v o u) (λ i n. then_by (nat_lt k n) tt (state_of v) (λ a st. and_then (argument_values n (k + 1) more line st) (λ xs. returns (x ∷ xs))) i) g))

    pub argument_not_held : (u : Machine) (e : Stop) → is_within x argument.range ≡ true → Computes (λ n. if nat_lt k n then nothing_done (state_of v) else elsewhere) v (Err e) u
        → Computes (λ n. argument_values n k (argument ∷ more) line (state_of w)) w (Err e) u
    argument_not_held u e h g =
        held_then (Err e) u h
        (computes_stops (λ n. if nat_lt k n then nothing_done (state_of v) else elsewhere) (λ n a st. and_then (argument_values n (k + 1) more line st) (λ xs. returns (x ∷ xs))) v u e g)

    pub argument_held : (q u : Machine) (a : ⊤) (o : Result (List ℤ) Stop) → is_within x argument.range ≡ true → Computes (λ n. if nat_lt k n then nothing_done (state_of v) else elsewhere) v (Ok a) q
        → Computes (λ n. argument_values n (k + 1) more line (state_of q)) q o u → Computes (λ n. argument_values n k (argument ∷ more) line (state_of w)) w (after_those (x ∷ []) o) u
    argument_held q u a o h g m =
        held_then (after_those (x ∷ []) o) u h
        (computes_then (λ n. if nat_lt k n then nothing_done (state_of v) else elsewhere) (λ n a st. and_then (argument_values n (k + 1) more line st) (λ xs. returns (x ∷ xs))) v q u a (after_those (x ∷ []) o) g
        (of o m))
      where
        of : (o : Result (List ℤ) Stop) → Computes (λ n. argument_values n (k + 1) more line (state_of q)) q o u
            → Computes (λ n. and_then (argument_values n (k + 1) more line (state_of q)) (λ xs. returns (x ∷ xs))) q (after_those (x ∷ []) o) u
        of (Ok xs) m =
            computes_then (λ n. argument_values n (k + 1) more line (state_of q)) (λ n xs. returns (x ∷ xs)) q u u xs (Ok (x ∷ xs)) m (record { sizes = same_sizes u; silent = λ fits. refl; ends = λ fits. refl })
        of (Err e) m = computes_stops (λ n. argument_values n (k + 1) more line (state_of q)) (λ n xs. returns (x ∷ xs)) q u e m
