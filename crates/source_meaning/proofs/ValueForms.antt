-- The forms of a value: a visit, its parts, and then its own.
use Rattle.std.proofs.Common.{◌≡◌, ℕ, ℤ, neg_ℤ, Bool, true, false, Option, Some, None, Result, Ok, Err, refl, sym, ap, ◌∙◌, subst, arith}
use Rattle.std.specs.Prelude.{if◌then◌else◌, ⊤}
use Rattle.std.specs.Option.{ok_or, SomeIff}
use Rattle.std.proofs.lemmas.Int.{ints}
use Rattle.std.proofs.lemmas.Bool.Decides.{nat_tests}
use mir.Syntax.{w128}
use mir.Val.{SFits}
use Rattle.moduli_sets.specs.declared.kind.Kind.TheVariants.{Stack}
use Rattle.source_tree.specs.State.{State}
use Rattle.source_tree.specs.Run.{Run, visit, happens, returns, and_then}
use Rattle.source_tree.specs.Scope.{integer_of}
use Rattle.source_tree.specs.Expression.{element_or_trap, operator_result}
use Rattle.source_tree.specs.Statement.{nothing_done}
use Rattle.source_tree.specs.declared.expression.Operator.{Operator}
use Rattle.resolved_tree.specs.Meaning.{elsewhere, kept, Evaluation, value_of}
use Rattle.resolved_tree.specs.Slots.{declared_of, is_word}
use Rattle.resolved_tree.specs.declared.slot.Slot.{Slot}
use Rattle.resolved_tree.specs.declared.tree.Value.{Value, Number, Integer, Element, Neg, Binary, ind-Value, roll-Value, map-Value}
use Rattle.resolved_tree.specs.declared.tree.Value.TheOpen as value
use Rattle.resolved_tree.proofs.Equations.{value-Number, value-Integer, value-Element, value-Neg, value-Binary}
use Rattle.source_meaning.specs.declared.machine.Machine.{Machine}
use Rattle.source_meaning.specs.declared.machine.Stop.{Stop}
use Rattle.source_meaning.specs.declared.machine.Stop.TheVariants.{Trap}
use Rattle.source_meaning.specs.Follows.{state_of, Computes}
use Rattle.source_meaning.specs.Words.{word_of}
use Rattle.source_meaning.proofs.Following.{same_sizes, computes_then, computes_stops}

-- ---- visits
-- a visit, and then the rest
pub visited : {A : Type 0} (r : ℕ → State → Run A) (w v u : Machine) (a : ⊤) (o : Result A Stop) → Computes (λ n. happens visit (nothing_done (state_of w))) w (Ok a) v
    → Computes (λ n. r n (state_of v)) v o u → Computes (λ n. happens visit (r n (state_of w))) w o u
visited r w v u a o m c = computes_then (λ n. happens visit (nothing_done (state_of w))) (λ n x s. r n s) w v u a o m c

pub not_visited : {A : Type 0} (r : ℕ → State → Run A) (w u : Machine) (e : Stop) → Computes (λ n. happens visit (nothing_done (state_of w))) w (Err e) u
    → Computes (λ n. happens visit (r n (state_of w))) w (Err e) u
not_visited r w u e m = computes_stops (λ n. happens visit (nothing_done (state_of w))) (λ n x s. r n s) w u e m

-- ---- words
-- an integer goes on where 128 bits hold it
pub kept_word : (z : ℤ) (m : Machine) → is_word z ≡ true → Computes (λ n. kept z (state_of m)) m (Ok z) m
kept_word z m h = subst (λ b. Computes (λ n. if b then returns z (state_of m) else elsewhere) m (Ok z) m) (sym h) (record { sizes = same_sizes m; silent = λ fits. refl; ends = λ fits. refl })

pub kept_elsewhere : (z : ℤ) (m : Machine) → is_word z ≡ false → Computes (λ n. kept z (state_of m)) m (Err (Trap Stack 0)) m
kept_elsewhere z m h = subst (λ b. Computes (λ n. if b then returns z (state_of m) else elsewhere) m (Err (Trap Stack 0)) m) (sym h) (record { sizes = same_sizes m; silent = λ fits. refl; ends = λ fits. refl })

pub kept_tells : (z : ℤ) (m : Machine) (o : Option ℤ) (r : Result ℤ Stop) → o ≡ word_of z → r ≡ ok_or o (Trap Stack 0) → Computes (λ n. kept z (state_of m)) m r m
kept_tells z m o r h k = of (is_word z) refl
  where
    of : (b : Bool) → is_word z ≡ b → Computes (λ n. kept z (state_of m)) m r m
    of true is =
        let e : r ≡ Ok z = k ∙ ap (λ p. ok_or p (Trap Stack 0)) (h ∙ ap (λ b. if b then Some z else None) is) in
        subst (λ q. Computes (λ n. kept z (state_of m)) m q m) (sym e) (kept_word z m is)
    of false is =
        let e : r ≡ Err (Trap Stack 0) = k ∙ ap (λ p. ok_or p (Trap Stack 0)) (h ∙ ap (λ b. if b then Some z else None) is) in
        subst (λ q. Computes (λ n. kept z (state_of m)) m q m) (sym e) (kept_elsewhere z m is)

pub is_word_of : (x : ℤ) → SFits w128 x → is_word x ≡ true
is_word_of x h = grind (arith, ints, nat_tests)

word_fits : (x : ℤ) → is_word x ≡ true → SFits w128 x
word_fits x h = grind (arith, ints, nat_tests)

no_word : (x : ℤ) → ¬ (SFits w128 x) → is_word x ≡ false
no_word x h = of (is_word x) refl
  where
    of : (b : Bool) → is_word x ≡ b → is_word x ≡ false
    of true is = absurd (h (word_fits x is))
    of false is = is

-- what is computed where it fits
pub word_by : (z : ℤ) (o : Option ℤ) → SomeIff o (SFits w128 z) z → o ≡ word_of z
word_by z (Some x) h = ap (λ y. Some y) h.1 ∙ sym (ap (λ b. if b then Some z else None) (is_word_of z h.0))
word_by z None h = sym (ap (λ b. if b then Some z else None) (no_word z h))

pub computed_tells : (z : ℤ) (m : Machine) (o : Option ℤ) (r : Result ℤ Stop) → SomeIff o (SFits w128 z) z → r ≡ ok_or o (Trap Stack 0) → Computes (λ n. kept z (state_of m)) m r m
computed_tells z m o r h k = kept_tells z m o r (word_by z o h) k

-- ---- values
-- each begins with a visit
abbrev Begins : Value → Type 0
Begins v = (r : State → Run ℤ) × ((s : State) → value_of v s ≡ happens visit (r s))

begins_node : (y : value.Value-F ((v : Value) × Begins v)) → Begins (roll-Value (map-Value ((v : Value) × Begins v) Value (λ e. e.0) y))
unfolding roll-Value denote.Hole.Carrier.roll
begins_node (value.Number n) = (kept n, λ s. ap (λ (d : Evaluation). d s) (value-Number n))
begins_node (value.Integer x) = (λ s. kept (integer_of (declared_of x) s) s, λ s. ap (λ (d : Evaluation). d s) (value-Integer x))
begins_node (value.Element x i line) =
    (λ s. and_then (value_of i.0 s) (λ z after. and_then (element_or_trap (declared_of x) z line after) kept), λ s. ap (λ (d : Evaluation). d s) (value-Element x i.0 line))
begins_node (value.Neg a) = (λ s. and_then (value_of a.0 s) (λ x. kept (neg_ℤ x)), λ s. ap (λ (d : Evaluation). d s) (value-Neg a.0))
begins_node (value.Binary a o b line) = (
  λ s. and_then (value_of a.0 s) (λ x after. and_then (value_of b.0 after) (λ y later. and_then (operator_result o x y line later) kept)),
  λ s. ap (λ (d : Evaluation). d s) (value-Binary a.0 o b.0 line),
)

begins : (v : Value) → Begins v
begins = ind-Value Begins (λ x y is. subst (λ z. Begins (roll-Value z)) is (begins_node y))

pub value_not_begun : (v : Value) (w u : Machine) (e : Stop) → Computes (λ n. happens visit (nothing_done (state_of w))) w (Err e) u → Computes (λ n. value_of v (state_of w)) w (Err e) u
value_not_begun v w u e m =
    subst (λ k. Computes (λ n. k) w (Err e) u) (sym ((begins v).1 (state_of w))) (not_visited (λ n. (begins v).0) w u e m)

module _ (v : Value) (w m : Machine) (t : ⊤) (began : Computes (λ n. happens visit (nothing_done (state_of w))) w (Ok t) m) where
  formed : (r : State → Run ℤ) (u : Machine) (o : Result ℤ Stop) → ((s : State) → value_of v s ≡ happens visit (r s)) → Computes (λ n. r (state_of m)) m o u → Computes (λ n. value_of v (state_of w)) w o u
  formed r u o q f = subst (λ k. Computes (λ n. k) w o u) (sym (q (state_of w))) (visited (λ n. r) w m u t o began f)

  pub number_goes : (x : ℤ) → v ≡ Number x → is_word x ≡ true → Computes (λ n. value_of v (state_of w)) w (Ok x) m
  number_goes x is fits = formed (kept x) m (Ok x) (λ s. ap (λ y. value_of y s) is ∙ ap (λ (d : Evaluation). d s) (value-Number x)) (kept_word x m fits)

  pub integer_goes : (s : Slot) (x : ℤ) → v ≡ Integer s → x ≡ integer_of (declared_of s) (state_of m) → is_word x ≡ true → Computes (λ n. value_of v (state_of w)) w (Ok x) m
  integer_goes s x is e fits =
      formed (λ q. kept (integer_of (declared_of s) q) q) m (Ok x) (λ q. ap (λ y. value_of y q) is ∙ ap (λ (d : Evaluation). d q) (value-Integer s))
      (subst (λ z. Computes (λ n. kept z (state_of m)) m (Ok x) m) e (kept_word x m fits))

  module _ (s : Slot) (i : Value) (line : ℕ) (is : v ≡ Element s i line) where
    element_is : (q : State) → value_of v q ≡ happens visit (and_then (value_of i q) (λ z after. and_then (element_or_trap (declared_of s) z line after) kept))
    element_is q = ap (λ y. value_of y q) is ∙ ap (λ (d : Evaluation). d q) (value-Element s i line)

    pub index_stops : (u : Machine) (e : Stop) → Computes (λ n. value_of i (state_of m)) m (Err e) u → Computes (λ n. value_of v (state_of w)) w (Err e) u
    index_stops u e f =
        formed _ u (Err e) element_is (computes_stops (λ n. value_of i (state_of m)) (λ n z after. and_then (element_or_trap (declared_of s) z line after) kept) m u e f)

    pub element_goes : (u p : Machine) (z : ℤ) (o : Result ℤ Stop) → Computes (λ n. value_of i (state_of m)) m (Ok z) u → Computes (λ n. and_then (element_or_trap (declared_of s) z line (state_of u)) kept) u o p
        → Computes (λ n. value_of v (state_of w)) w o p
    element_goes u p z o f g =
        formed _ p o element_is (computes_then (λ n. value_of i (state_of m)) (λ n z after. and_then (element_or_trap (declared_of s) z line after) kept) m u p z o f g)

  module _ (a : Value) (is : v ≡ Neg a) where
    neg_is : (q : State) → value_of v q ≡ happens visit (and_then (value_of a q) (λ x. kept (neg_ℤ x)))
    neg_is q = ap (λ y. value_of y q) is ∙ ap (λ (d : Evaluation). d q) (value-Neg a)

    pub neg_stops : (u : Machine) (e : Stop) → Computes (λ n. value_of a (state_of m)) m (Err e) u → Computes (λ n. value_of v (state_of w)) w (Err e) u
    neg_stops u e f = formed _ u (Err e) neg_is (computes_stops (λ n. value_of a (state_of m)) (λ n x. kept (neg_ℤ x)) m u e f)

    pub neg_goes : (u p : Machine) (x : ℤ) (o : Result ℤ Stop) → Computes (λ n. value_of a (state_of m)) m (Ok x) u → Computes (λ n. kept (neg_ℤ x) (state_of u)) u o p → Computes (λ n. value_of v (state_of w)) w o p
    neg_goes u p x o f g = formed _ p o neg_is (computes_then (λ n. value_of a (state_of m)) (λ n x. kept (neg_ℤ x)) m u p x o f g)

  module _ (a : Value) (op : Operator) (b : Value) (line : ℕ) (is : v ≡ Binary a op b line) where
    binary_is : (q : State) → value_of v q ≡ happens visit (and_then (value_of a q) (λ x after. and_then (value_of b after) (λ y later. and_then (operator_result op x y line later) kept)))
    binary_is q = ap (λ y. value_of y q) is ∙ ap (λ (d : Evaluation). d q) (value-Binary a op b line)

    pub left_stops : (u : Machine) (e : Stop) → Computes (λ n. value_of a (state_of m)) m (Err e) u → Computes (λ n. value_of v (state_of w)) w (Err e) u
    left_stops u e f =
        formed _ u (Err e) binary_is
        (computes_stops (λ n. value_of a (state_of m)) (λ n x after. and_then (value_of b after) (λ y later. and_then (operator_result op x y line later) kept)) m u e f)

    right_goes : (u p : Machine) (x : ℤ) (o : Result ℤ Stop) → Computes (λ n. value_of a (state_of m)) m (Ok x) u
        → Computes (λ n. and_then (value_of b (state_of u)) (λ y later. and_then (operator_result op x y line later) kept)) u o p → Computes (λ n. value_of v (state_of w)) w o p
    right_goes u p x o f g =
        formed _ p o binary_is
        (computes_then (λ n. value_of a (state_of m)) (λ n x after. and_then (value_of b after) (λ y later. and_then (operator_result op x y line later) kept)) m u p x o f g)

    pub right_stops : (u p : Machine) (x : ℤ) (e : Stop) → Computes (λ n. value_of a (state_of m)) m (Ok x) u → Computes (λ n. value_of b (state_of u)) u (Err e) p → Computes (λ n. value_of v (state_of w)) w (Err e) p
    right_stops u p x e f g = right_goes u p x (Err e) f (computes_stops (λ n. value_of b (state_of u)) (λ n y later. and_then (operator_result op x y line later) kept) u p e g)

    pub binary_goes : (u p q : Machine) (x y : ℤ) (o : Result ℤ Stop) → Computes (λ n. value_of a (state_of m)) m (Ok x) u → Computes (λ n. value_of b (state_of u)) u (Ok y) p
        → Computes (λ n. and_then (operator_result op x y line (state_of p)) kept) p o q → Computes (λ n. value_of v (state_of w)) w o q
    binary_goes u p q x y o f g h = right_goes u q x o f (computes_then (λ n. value_of b (state_of u)) (λ n y later. and_then (operator_result op x y line later) kept) u p q y o g h)
