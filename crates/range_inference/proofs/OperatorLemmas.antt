-- Results of operators lie in the intervals that are told from those of their operands.
use Rattle.std.proofs.Common.{◌≡◌, ℕ, zero, suc, ◌+◌, ◌*◌, ◌/◌, ◌%◌, ◌≤◌, ◌<◌, ℤ, pos, negsuc, neg_ℤ, ◌+ℤ◌, ◌-ℤ◌, ◌*ℤ◌, ◌≤ℤ◌, refl, sym, ap, ◌∙◌, subst, arith, Bool, true, false}
use Rattle.std.specs.Prelude.{if◌then◌else◌, int_lt, unsigned_abs}
use Rattle.std.specs.Ordering.{int_eq}
use Rattle.std.specs.Int.{int_min, int_max}
use Rattle.std.proofs.lemmas.Int.{ints, clamps}
use Rattle.std.proofs.lemmas.Bool.Decides.{nat_tests}
use Rattle.std.proofs.Math.Nat.{div-le_self, mul-div-le}
use Rattle.std.proofs.lemmas.Nat.{le-div}
use Rattle.std.proofs.Math.IntN.{*ℤ_comm, *ℤ-negsuc, pos-*ℤ-pos}
use Rattle.moduli_sets.specs.declared.kind.Kind.TheVariants.{Zero}
use Rattle.number_theory.specs.Residue.{quotient}
use Rattle.number_theory.proofs.IntervalLemmas.{product_between}
use Rattle.number_theory.specs.Division.{floor_div, floor_mod}
use Rattle.source_tree.specs.State.{State}
use Rattle.source_tree.specs.Run.{returns, traps, Leads}
use Rattle.source_tree.specs.Expression.{operator_result}
use Rattle.source_tree.specs.declared.expression.Operator.{Operator}
use Rattle.source_tree.specs.declared.expression.Operator.TheVariants.{Add, Sub, Mul, Div, Mod}
use Rattle.range_inference.specs.Interval.{from_to, contains, size_of, is_one_divisor, negated, interval_by}
use Rattle.range_inference.specs.declared.interval.Interval.{Interval}

-- x lies in the interval i
abbrev pub Lies : ℤ → Interval → Type 0
Lies x i = contains i x ≡ true

-- as far from 0 as an interval goes, on both sides
abbrev up_to_size : Interval → Interval
up_to_size a = from_to (neg_ℤ (size_of a)) (size_of a)

pub low_of : (x : ℤ) (r : Interval) → Lies x r → r.low ≤ℤ x
low_of x r h = grind (arith, ints, nat_tests)

pub high_of : (x : ℤ) (r : Interval) → Lies x r → x ≤ℤ r.high
high_of x r h = grind (arith, ints, nat_tests)

pub within : (x : ℤ) (r : Interval) → r.low ≤ℤ x → x ≤ℤ r.high → Lies x r
within x r h k = grind (arith, ints, nat_tests)

pub within_self : (x : ℤ) → Lies x (from_to x x)
within_self x = grind (arith, ints, nat_tests)

pub within_neg : (x : ℤ) (i : Interval) → Lies x i → Lies (neg_ℤ x) (negated i)
within_neg x i h = grind (arith, ints, nat_tests)

-- ---- quotients
quotient_size : (x : ℤ) (n : ℕ) → (int_min (pos 0) x ≤ℤ quotient x (suc n)) × (quotient x (suc n) ≤ℤ int_max (pos 0) x)
quotient_size (pos m) n = let h = div-le_self m (suc n) in (omega (arith, ints, clamps), omega (arith, ints, clamps))
quotient_size (negsuc m) n = let h = div-le_self m (suc n) in (omega (arith, ints, clamps), omega (arith, ints, clamps))

div_up : (m k n : ℕ) → m ≤ k → m / suc n ≤ k / suc n
div_up m k n h =
    let d : suc n * (m / suc n) ≤ m = mul-div-le m (suc n) in
    le-div (m / suc n) k (suc n) (omega arith) (omega arith)

quotient_up : (x y : ℤ) (n : ℕ) → x ≤ℤ y → quotient x (suc n) ≤ℤ quotient y (suc n)
quotient_up (pos m) (pos k) n h = let le : m ≤ k = omega (arith, ints) in omega (arith, ints, div_up m k n le)
quotient_up (pos m) (negsuc k) n h = absurd (omega (arith, ints))
quotient_up (negsuc m) (pos k) n h = omega (arith, ints)
quotient_up (negsuc m) (negsuc k) n h = let le : k ≤ m = omega (arith, ints) in omega (arith, ints, div_up k m n le)

-- what a quotient leaves
left_is : (x : ℤ) (n : ℕ) → (pos 0 ≤ℤ (x -ℤ (pos (suc n) *ℤ quotient x (suc n)))) × ((x -ℤ (pos (suc n) *ℤ quotient x (suc n))) ≤ℤ pos n)
left_is (pos m) n =
    let e = pos-*ℤ-pos (suc n) (m / suc n) in
    let k : suc n * (m / suc n) + m % suc n ≡ m = omega arith in
    let l : m % suc n < suc n = omega arith in
    rw e (omega (arith, ints), omega (arith, ints))
left_is (negsuc m) n =
    let e = *ℤ-negsuc (pos (suc n)) (m / suc n) ∙ ap neg_ℤ (pos-*ℤ-pos (suc n) (suc (m / suc n))) in
    let k : suc n * (m / suc n) + m % suc n ≡ m = omega arith in
    let l : m % suc n < suc n = omega arith in
    let s : suc n * suc (m / suc n) ≡ suc n * (m / suc n) + suc n = omega arith in
    rw e (rw s (omega (arith, ints), omega (arith, ints)))

floor_pos : (x : ℤ) (n : ℕ) → quotient x (suc n) ≡ floor_div x (pos (suc n))
floor_pos x n =
    let t : int_lt (pos (suc n)) (pos 0) ≡ false = grind (arith, ints, nat_tests) in
    ap (λ c. if c then quotient (neg_ℤ x) (suc n) else quotient x (suc n)) (sym t)

abs_around : (x : ℤ) → (neg_ℤ (pos (unsigned_abs x)) ≤ℤ x) × (x ≤ℤ pos (unsigned_abs x)) × (pos 0 ≤ℤ pos (unsigned_abs x))
abs_around (pos n) = (omega (arith, ints), omega (arith, ints), omega (arith, ints))
abs_around (negsuc n) = (omega (arith, ints), omega (arith, ints), omega (arith, ints))

size_around : (l h p q x z : ℤ) → l ≤ℤ x → x ≤ℤ h → neg_ℤ p ≤ℤ l → h ≤ℤ q → pos 0 ≤ℤ p → pos 0 ≤ℤ q → int_min (pos 0) x ≤ℤ z → z ≤ℤ int_max (pos 0) x → (neg_ℤ (int_max p q) ≤ℤ z) × (z ≤ℤ int_max p q)
size_around l h p q x z a b c d e f g i = (omega (arith, ints, clamps), omega (arith, ints, clamps))

size_around_neg : (l h p q x z : ℤ) → l ≤ℤ x → x ≤ℤ h → neg_ℤ p ≤ℤ l → h ≤ℤ q → pos 0 ≤ℤ p → pos 0 ≤ℤ q → int_min (pos 0) (neg_ℤ x) ≤ℤ z → z ≤ℤ int_max (pos 0) (neg_ℤ x) → (neg_ℤ (int_max p q) ≤ℤ z) × (z ≤ℤ int_max p q)
size_around_neg l h p q x z a b c d e f g i = (omega (arith, ints, clamps), omega (arith, ints, clamps))

in_size : (a : Interval) (x y : ℤ) → (y ≡ pos 0 → ⊥) → Lies x a → Lies (floor_div x y) (up_to_size a)
in_size a x (pos zero) n h = absurd (n refl)
in_size a x (pos (suc n)) _ h =
    let l = abs_around a.low in let u = abs_around a.high in let q = quotient_size x n in
    let s = size_around a.low a.high (pos (unsigned_abs a.low)) (pos (unsigned_abs a.high)) x (quotient x (suc n)) (low_of x a h) (high_of x a h) l.0 u.1 l.2 u.2 q.0 q.1 in
    subst (λ z. Lies z (up_to_size a)) (floor_pos x n) (within (quotient x (suc n)) (up_to_size a) s.0 s.1)
in_size a x (negsuc n) _ h =
    let l = abs_around a.low in let u = abs_around a.high in let q = quotient_size (neg_ℤ x) n in
    let s = size_around_neg a.low a.high (pos (unsigned_abs a.low)) (pos (unsigned_abs a.high)) x (quotient (neg_ℤ x) (suc n)) (low_of x a h) (high_of x a h) l.0 u.1 l.2 u.2 q.0 q.1 in
    within (quotient (neg_ℤ x) (suc n)) (up_to_size a) s.0 s.1

middle : (l x h : ℤ) → l ≤ℤ x → x ≤ℤ h → (int_min l h ≤ℤ x) × (x ≤ℤ int_max l h)
middle l x h a b = (omega (arith, ints, clamps), omega (arith, ints, clamps))

floor_between : (c l x h : ℤ) → (c ≡ pos 0 → ⊥) → l ≤ℤ x → x ≤ℤ h → (int_min (floor_div l c) (floor_div h c) ≤ℤ floor_div x c) × (floor_div x c ≤ℤ int_max (floor_div l c) (floor_div h c))
floor_between (pos zero) l x h n a b = absurd (n refl)
floor_between (pos (suc n)) l x h _ a b =
    let p = quotient_up l x n a in let q = quotient_up x h n b in
    middle _ _ _ (subst (λ z. z ≤ℤ floor_div x (pos (suc n))) (floor_pos l n) (subst (λ z. quotient l (suc n) ≤ℤ z) (floor_pos x n) p))
    (subst (λ z. floor_div x (pos (suc n)) ≤ℤ z) (floor_pos h n) (subst (λ z. z ≤ℤ quotient h (suc n)) (floor_pos x n) q))
floor_between (negsuc n) l x h _ a b =
    let p = quotient_up (neg_ℤ x) (neg_ℤ l) n (omega (arith, ints)) in let q = quotient_up (neg_ℤ h) (neg_ℤ x) n (omega (arith, ints)) in
    (omega (arith, ints, clamps), omega (arith, ints, clamps))

same_ends : (b : Interval) (y : ℤ) → (is_one_divisor b) ≡ true → Lies y b → b.low ≡ y
same_ends b y t h =
    let low = low_of y b h in let high = high_of y b h in
    let e : b.low ≡ b.high = grind (arith, ints, nat_tests) in omega (arith, ints)

in_quotients : (t : Bool) (a b : Interval) (x y : ℤ) → (is_one_divisor b) ≡ t → (y ≡ pos 0 → ⊥) → Lies x a → Lies y b → Lies (floor_div x y) (if t then from_to (int_min (floor_div a.low b.low) (floor_div a.high b.low)) (int_max (floor_div a.low b.low) (floor_div a.high b.low)) else up_to_size a)
in_quotients true a b x y t n h k =
    let e = same_ends b y t k in
    let f = floor_between y a.low x a.high n (low_of x a h) (high_of x a h) in
    subst (λ c. Lies (floor_div x y) (from_to (int_min (floor_div a.low c) (floor_div a.high c)) (int_max (floor_div a.low c) (floor_div a.high c)))) (sym e)
    (within (floor_div x y) (from_to (int_min (floor_div a.low y) (floor_div a.high y)) (int_max (floor_div a.low y) (floor_div a.high y))) f.0 f.1)
in_quotients false a b x y t n h k = in_size a x y n h

below_sign : (n : ℕ) (b : Interval) (r : ℤ) → pos (suc n) ≤ℤ b.high → b.low ≤ℤ pos (suc n) → pos 0 ≤ℤ r → r ≤ℤ pos n → (int_min (pos 0) (b.low +ℤ pos 1) ≤ℤ r) × (r ≤ℤ int_max (pos 0) (b.high -ℤ pos 1))
below_sign n b r h l p q = (omega (arith, ints, clamps), omega (arith, ints, clamps))

in_remainders : (a b : Interval) (x y : ℤ) → (y ≡ pos 0 → ⊥) → Lies y b → Lies (floor_mod x y) (interval_by Mod a b)
in_remainders a b x (pos zero) n k = absurd (n refl)
in_remainders a b x (pos (suc n)) _ k =
    let l = left_is x n in let low = low_of (pos (suc n)) b k in let high = high_of (pos (suc n)) b k in
    let r = x -ℤ (pos (suc n) *ℤ quotient x (suc n)) in
    subst (λ z. Lies (x -ℤ (pos (suc n) *ℤ z)) (interval_by Mod a b)) (floor_pos x n)
    (within r (interval_by Mod a b) (below_sign n b r high low l.0 l.1).0 (below_sign n b r high low l.0 l.1).1)
in_remainders a b x (negsuc n) _ k =
    let q = quotient (neg_ℤ x) (suc n) in
    let e : negsuc n *ℤ q ≡ neg_ℤ (pos (suc n) *ℤ q) = *ℤ_comm (negsuc n) q ∙ *ℤ-negsuc q n ∙ ap neg_ℤ (*ℤ_comm q (pos (suc n))) in
    let l = left_is (neg_ℤ x) n in let low = low_of (negsuc n) b k in let high = high_of (negsuc n) b k in
    within (floor_mod x (negsuc n)) (interval_by Mod a b) (omega (arith, ints, clamps, l.0, l.1, e)) (omega (arith, ints, clamps, l.0, l.1, e))

-- ---- an operator
quotient_lands : (t : Bool) (f : ℤ → ℤ → ℤ) (interval : Interval) (x y : ℤ) (line : ℕ) (state : State) → int_eq y (pos 0) ≡ t → ((y ≡ pos 0 → ⊥) → Lies (f x y) interval) → Leads (if t then traps Zero line else returns (f x y) state) (λ z after. (Lies z interval) × (after ≡ state))
quotient_lands true f interval x y line state e h = tt
quotient_lands false f interval x y line state e h = (h (λ z. zero_no y e z), refl)
  where
    zero_no : (y : ℤ) → int_eq y (pos 0) ≡ false → y ≡ pos 0 → ⊥
    zero_no y e z = grind (arith, ints, nat_tests)

pub operator_lands : (o : Operator) (a b : Interval) (x y : ℤ) (line : ℕ) (state : State) → Lies x a → Lies y b → Leads (operator_result o x y line state) (λ z after. (Lies z (interval_by o a b)) × (after ≡ state))
operator_lands Add a b x y line state h k = (grind (arith, ints, nat_tests), refl)
operator_lands Sub a b x y line state h k = (grind (arith, ints, nat_tests), refl)
operator_lands Mul a b x y line state h k =
    let p = product_between a.low a.high b.low b.high x y (low_of x a h) (high_of x a h) (low_of y b k) (high_of y b k) in
    (within _ (interval_by Mul a b) p.0 p.1, refl)
operator_lands Div a b x y line state h k =
    quotient_lands (int_eq y (pos 0)) floor_div (interval_by Div a b) x y line state refl (λ n. in_quotients (is_one_divisor b) a b x y refl n h k)
operator_lands Mod a b x y line state h k =
    quotient_lands (int_eq y (pos 0)) floor_mod (interval_by Mod a b) x y line state refl (λ n. in_remainders a b x y n k)
