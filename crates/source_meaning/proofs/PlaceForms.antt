-- The forms of a place that a value is put into.
use Rattle.std.proofs.Common.{◌≡◌, ℕ, ℤ, Bool, true, false, List, ◌∷◌, length, Some, Result, Ok, Err, refl, sym, ap, ◌∙◌, subst}
use Rattle.std.specs.Prelude.{if◌then◌else◌, ⊤}
use Rattle.moduli_sets.specs.declared.kind.Kind.{Kind}
use Rattle.moduli_sets.specs.declared.kind.Kind.TheVariants as kind
use Rattle.source_tree.specs.Run.{Run, traps, and_then, limited}
use Rattle.source_tree.specs.Scope.{is_within, range_of, has_element}
use Rattle.resolved_tree.specs.Meaning.{value_of, put_in_slot, put_in_element, put_into, read_into, line_of}
use Rattle.resolved_tree.specs.Slots.{declared_of}
use Rattle.resolved_tree.specs.declared.slot.Slot.{Slot}
use Rattle.resolved_tree.specs.declared.tree.Target.{Target}
use Rattle.resolved_tree.specs.declared.tree.Target.TheVariants as target
use Rattle.resolved_tree.specs.declared.tree.Value.{Value}
use Rattle.source_meaning.specs.declared.machine.Machine.{Machine}
use Rattle.source_meaning.specs.declared.machine.Stop.{Stop}
use Rattle.source_meaning.specs.declared.machine.Stop.TheVariants.{Trap}
use Rattle.source_meaning.specs.Follows.{state_of, Computes}
use Rattle.source_meaning.proofs.Following.{same_sizes, computes_then, computes_stops}

-- a trap
pub trapped_here : {A : Type 0} (w : Machine) (k : Kind) (line : ℕ) → Computes {A = A} (λ n. traps k line) w (Err (Trap k line)) w
trapped_here w k line = record { sizes = same_sizes w; silent = λ fits. refl; ends = λ fits. refl }

-- one run or another, by a test
pub by_true : {A : Type 0} (b : Bool) (r q : ℕ → Run A) (w : Machine) (o : Result A Stop) (u : Machine) → b ≡ true → Computes r w o u → Computes (λ n. if b then r n else q n) w o u
by_true b r q w o u h f = subst (λ c. Computes (λ n. if c then r n else q n) w o u) (sym h) f

pub by_false : {A : Type 0} (b : Bool) (r q : ℕ → Run A) (w : Machine) (o : Result A Stop) (u : Machine) → b ≡ false → Computes q w o u → Computes (λ n. if b then r n else q n) w o u
by_false b r q w o u h f = subst (λ c. Computes (λ n. if c then r n else q n) w o u) (sym h) f

module _ (place : Target) (x : ℤ) (k : Kind) (line index_line : ℕ) (w : Machine) where
  at_place : (form : Target) (o : Result ⊤ Stop) (u : Machine) → place ≡ form → Computes (λ n. put_into n form x k line index_line (state_of w)) w o u → Computes (λ n. put_into n place x k line index_line (state_of w)) w o u
  at_place form o u is f = subst (λ (p : Target). Computes (λ n. put_into n p x k line index_line (state_of w)) w o u) (sym is) f

  module _ (s : Slot) (is : place ≡ target.Integer s) where
    pub integer_put : (o : Result ⊤ Stop) (u : Machine) → is_within x (range_of (declared_of s)) ≡ true → Computes (λ n. put_in_slot n s x (state_of w)) w o u
        → Computes (λ n. put_into n place x k line index_line (state_of w)) w o u
    integer_put o u h f =
        at_place (target.Integer s) o u is (by_true (is_within x (range_of (declared_of s))) (λ n. put_in_slot n s x (state_of w)) (λ n. traps k line) w o u h f)

    pub integer_refused : is_within x (range_of (declared_of s)) ≡ false → Computes (λ n. put_into n place x k line index_line (state_of w)) w (Err (Trap k line)) w
    integer_refused h =
        at_place (target.Integer s) (Err (Trap k line)) w is
        (by_false (is_within x (range_of (declared_of s))) (λ n. put_in_slot n s x (state_of w)) (λ n. traps k line) w (Err (Trap k line)) w h (trapped_here w k line))

  module _ (s : Slot) (index : Value) (name_line : ℕ) (is : place ≡ target.Element s index name_line) where
    element_by : (o : Result ⊤ Stop) (u : Machine) → is_within x (range_of (declared_of s)) ≡ true
        → Computes (λ n. and_then (value_of index (state_of w)) (λ i after. if has_element (declared_of s) i then put_in_element n s i x after else traps kind.Index index_line)) w o u
        → Computes (λ n. put_into n place x k line index_line (state_of w)) w o u
    element_by o u h f =
        at_place (target.Element s index name_line) o u is
        (by_true (is_within x (range_of (declared_of s)))
        (λ n. and_then (value_of index (state_of w)) (λ i after. if has_element (declared_of s) i then put_in_element n s i x after else traps kind.Index index_line))
        (λ n. traps k line) w o u h f)

    pub place_index_stops : (u : Machine) (e : Stop) → is_within x (range_of (declared_of s)) ≡ true → Computes (λ n. value_of index (state_of w)) w (Err e) u
        → Computes (λ n. put_into n place x k line index_line (state_of w)) w (Err e) u
    place_index_stops u e h f =
        element_by (Err e) u h
        (computes_stops (λ n. value_of index (state_of w)) (λ n i after. if has_element (declared_of s) i then put_in_element n s i x after else traps kind.Index index_line) w u e f)

    pub element_put : (u q : Machine) (i : ℤ) (o : Result ⊤ Stop) → is_within x (range_of (declared_of s)) ≡ true → Computes (λ n. value_of index (state_of w)) w (Ok i) u
        → Computes (λ n. if has_element (declared_of s) i then put_in_element n s i x (state_of u) else traps kind.Index index_line) u o q
        → Computes (λ n. put_into n place x k line index_line (state_of w)) w o q
    element_put u q i o h f g =
        element_by o q h
        (computes_then (λ n. value_of index (state_of w)) (λ n i after. if has_element (declared_of s) i then put_in_element n s i x after else traps kind.Index index_line) w u q i o f g)

    pub element_refused : is_within x (range_of (declared_of s)) ≡ false → Computes (λ n. put_into n place x k line index_line (state_of w)) w (Err (Trap k line)) w
    element_refused h =
        at_place (target.Element s index name_line) (Err (Trap k line)) w is
        (by_false (is_within x (range_of (declared_of s)))
        (λ n. and_then (value_of index (state_of w)) (λ i after. if has_element (declared_of s) i then put_in_element n s i x after else traps kind.Index index_line))
        (λ n. traps k line) w (Err (Trap k line)) w h (trapped_here w k line))

-- ---- the next number of the input
-- what a machine computes that another starts as
starts_as : (run : ℕ → Run ⊤) (w m u : Machine) (o : Result ⊤ Stop) → m.left ≡ w.left → length m.integers ≡ length w.integers → length m.held ≡ length w.held → Computes run m o u → Computes run w o u
starts_as run w m u o left integers held f = record {
  sizes = record { integers = f.sizes.integers ∙ integers; held = f.sizes.held ∙ held };
  silent = λ fits.
      ap (λ k. (limited k (run (length w.integers))).prints) (sym left) ∙ ap (λ k. (limited m.left (run k)).prints) (sym integers) ∙ f.silent (held ∙ fits ∙ sym integers);
  ends = λ fits.
      ap (λ k. Some (limited k (run (length w.integers))).ending) (sym left) ∙ ap (λ k. Some (limited m.left (run k)).ending) (sym integers) ∙ f.ends (held ∙ fits ∙ sym integers);
}

pub read_goes : (place : Target) (line l : ℕ) (w m u : Machine) (x : ℤ) (rest : List ℤ) (o : Result ⊤ Stop)
    → Computes (λ n. put_into n place x kind.InputRange line l (state_of m)) m o u → w.input.now ≡ x ∷ rest → ((n : ℕ) → l ≡ line_of n place line)
    → state_of m ≡ record (state_of w) { input = rest } → m.left ≡ w.left → length m.integers ≡ length w.integers → length m.held ≡ length w.held
    → Computes (λ n. read_into n place line w.input.now (state_of w)) w o u
read_goes place line l w m u x rest o f is at same left integers held =
    subst (λ (run : ℕ → Run ⊤). Computes run w o u)
    (λ i n. sym (ap (λ xs. read_into n place line xs (state_of w)) is ∙ (λ j. put_into n place x kind.InputRange line (sym (at n) j) (sym same j))) i)
    (starts_as (λ n. put_into n place x kind.InputRange line l (state_of m)) w m u o left integers held f)
