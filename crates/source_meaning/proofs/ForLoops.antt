-- A turn of a `for`, and those that are left.
use Rattle.std.proofs.Common.{◌≡◌, ℕ, suc, ℤ, pos, ◌+ℤ◌, Bool, true, false, List, Result, Ok, Err, refl, sym, ap, ◌∙◌, subst}
use Rattle.std.specs.Prelude.{if◌then◌else◌, ⊤}
use Rattle.moduli_sets.specs.declared.kind.Kind.{Kind}
use Rattle.moduli_sets.specs.declared.kind.Kind.TheVariants.{Range}
use Rattle.outside.specs.Sink.{SinkState}
use Rattle.source_tree.specs.State.{State}
use Rattle.source_tree.specs.Run.{Run, visit, happens, traps, and_then}
use Rattle.source_tree.specs.Scope.{is_within, range_of}
use Rattle.source_tree.specs.Expression.{Calls}
use Rattle.source_tree.specs.Statement.{nothing_done, turns_of}
use Rattle.resolved_tree.specs.Meaning.{put_in_slot, for_turns, steps_of}
use Rattle.resolved_tree.specs.Slots.{declared_of}
use Rattle.resolved_tree.specs.declared.slot.Slot.{Slot}
use Rattle.resolved_tree.specs.declared.tree.Step.{Step}
use Rattle.source_meaning.specs.declared.machine.Machine.{Machine}
use Rattle.source_meaning.specs.declared.machine.Stop.{Stop}
use Rattle.source_meaning.specs.Follows.{state_of, Computes, Follows}
use Rattle.source_meaning.proofs.Following.{same_sizes, quietly, follows_then, follows_stops}

-- what comes after a test goes into its branch
spread : (b : Bool) (r : Run ⊤) (k : Kind) (line : ℕ) (f : ⊤ → State → Run ⊤) → and_then (if b then r else traps k line) f ≡ if b then and_then r f else traps k line
spread true r k line f = refl
spread false r k line f = refl

abbrev pub turn : Slot → ℤ → ℕ → ℕ → State → Run ⊤
turn s next line n st = happens visit (if is_within next (range_of (declared_of s)) then put_in_slot n s next st else traps Range line)

module _ {K : Type 0} (puts : K → List ℕ → K → Type 0) (state : K → SinkState) (calls : ℕ → Calls) (s : Slot) (next last : ℤ) (line : ℕ) (body : List Step) (k : ℕ) (more : turns_of next last ≡ suc k) (w : Machine) (old : K) where
  turn_first : (n : ℕ) (st : State) → for_turns n (turns_of next last) next s line (steps_of n body) (calls n) st
      ≡ and_then (turn s next line n st) (λ u after. and_then (steps_of n body (calls n) after) (λ v. for_turns n k (next +ℤ pos 1) s line (steps_of n body) (calls n)))
  turn_first n st =
      ap (λ t. for_turns n t next s line (steps_of n body) (calls n) st) more
      ∙ ap (λ r. happens visit r) (sym (spread (is_within next (range_of (declared_of s))) (put_in_slot n s next st) Range line (λ u after. and_then (steps_of n body (calls n) after) (λ v. for_turns n k (next +ℤ pos 1) s line (steps_of n body) (calls n)))))

  by_turn : (o : Result ⊤ Stop) (u : Machine) (new : K)
      → Follows puts state (λ n. and_then (turn s next line n (state_of w)) (λ u after. and_then (steps_of n body (calls n) after) (λ v. for_turns n k (next +ℤ pos 1) s line (steps_of n body) (calls n)))) w old o u new
      → Follows puts state (λ n. for_turns n (turns_of next last) next s line (steps_of n body) (calls n) (state_of w)) w old o u new
  by_turn o u new f = subst (λ (run : ℕ → Run ⊤). Follows puts state run w old o u new) (λ i n. sym (turn_first n (state_of w)) i) f

  pub turn_stops : (u : Machine) (e : Stop) → Computes (λ n. turn s next line n (state_of w)) w (Err e) u
      → Follows puts state (λ n. for_turns n (turns_of next last) next s line (steps_of n body) (calls n) (state_of w)) w old (Err e) u old
  turn_stops u e f =
      by_turn (Err e) u old
      (follows_stops puts state (λ n. turn s next line n (state_of w)) (λ n a after. and_then (steps_of n body (calls n) after) (λ v. for_turns n k (next +ℤ pos 1) s line (steps_of n body) (calls n))) w u old old e
      (quietly puts state (λ n. turn s next line n (state_of w)) w (Err e) u old f))

  module _ (v : Machine) (t : ⊤) (began : Computes (λ n. turn s next line n (state_of w)) w (Ok t) v) where
    turned : (o : Result ⊤ Stop) (u : Machine) (new : K)
        → Follows puts state (λ n. and_then (steps_of n body (calls n) (state_of v)) (λ x. for_turns n k (next +ℤ pos 1) s line (steps_of n body) (calls n))) v old o u new
        → Follows puts state (λ n. for_turns n (turns_of next last) next s line (steps_of n body) (calls n) (state_of w)) w old o u new
    turned o u new f =
        by_turn o u new
        (follows_then puts state (λ n. turn s next line n (state_of w)) (λ n a after. and_then (steps_of n body (calls n) after) (λ x. for_turns n k (next +ℤ pos 1) s line (steps_of n body) (calls n))) w v old old u new t o
        (quietly puts state (λ n. turn s next line n (state_of w)) w (Ok t) v old began) f)

    pub body_stops : (u : Machine) (new : K) (e : Stop) → Follows puts state (λ n. steps_of n body (calls n) (state_of v)) v old (Err e) u new
        → Follows puts state (λ n. for_turns n (turns_of next last) next s line (steps_of n body) (calls n) (state_of w)) w old (Err e) u new
    body_stops u new e f =
        turned (Err e) u new (follows_stops puts state (λ n. steps_of n body (calls n) (state_of v)) (λ n x. for_turns n k (next +ℤ pos 1) s line (steps_of n body) (calls n)) v u old new e f)

    pub turn_goes : (q u : Machine) (mid new : K) (a : ⊤) (o : Result ⊤ Stop) → Follows puts state (λ n. steps_of n body (calls n) (state_of v)) v old (Ok a) q mid
        → Follows puts state (λ n. for_turns n k (next +ℤ pos 1) s line (steps_of n body) (calls n) (state_of q)) q mid o u new
        → Follows puts state (λ n. for_turns n (turns_of next last) next s line (steps_of n body) (calls n) (state_of w)) w old o u new
    turn_goes q u mid new a o f g =
        turned o u new (follows_then puts state (λ n. steps_of n body (calls n) (state_of v)) (λ n x. for_turns n k (next +ℤ pos 1) s line (steps_of n body) (calls n)) v q old mid u new a o f g)

-- none is left
pub turns_done : {K : Type 0} (puts : K → List ℕ → K → Type 0) (state : K → SinkState) (calls : ℕ → Calls) (s : Slot) (next : ℤ) (turns : ℕ) (line : ℕ) (body : List Step) (w : Machine) (old : K) (a : ⊤) → turns ≡ 0
    → Follows puts state (λ n. for_turns n turns next s line (steps_of n body) (calls n) (state_of w)) w old (Ok a) w old
turns_done puts state calls s next turns line body w old a none =
    subst (λ k. Follows puts state (λ n. for_turns n k next s line (steps_of n body) (calls n) (state_of w)) w old (Ok a) w old) (sym none)
    (quietly puts state (λ n. nothing_done (state_of w)) w (Ok a) w old (record { sizes = same_sizes w; silent = λ fits. refl; ends = λ fits. refl }))

-- the same between ends that are equal
pub same_ends : {K : Type 0} (puts : K → List ℕ → K → Type 0) (state : K → SinkState) (calls : ℕ → Calls) (s : Slot) (line : ℕ) (body : List Step) (w u : Machine) (old new : K) (o : Result ⊤ Stop) (a b first last : ℤ) → a ≡ first → b ≡ last
    → Follows puts state (λ n. for_turns n (turns_of a b) a s line (steps_of n body) (calls n) (state_of w)) w old o u new
    → Follows puts state (λ n. for_turns n (turns_of first last) first s line (steps_of n body) (calls n) (state_of w)) w old o u new
same_ends puts state calls s line body w u old new o a b first last e e' f =
    subst (λ x. Follows puts state (λ n. for_turns n (turns_of x last) x s line (steps_of n body) (calls n) (state_of w)) w old o u new) e
    (subst (λ x. Follows puts state (λ n. for_turns n (turns_of a x) a s line (steps_of n body) (calls n) (state_of w)) w old o u new) e' f)
