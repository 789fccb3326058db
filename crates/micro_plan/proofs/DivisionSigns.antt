-- DIV and MOD: the signs, the counting between them, and the last operations.
use Rattle.std.proofs.Common.{◌≡◌, ℕ, zero, suc, ◌+◌, ◌-◌, ◌*◌, ◌/◌, ◌^◌, ◌<◌, ◌≤◌, Bool, true, false, Option, refl, sym, ap, ◌∙◌, subst, arith, ℤ, pos, negsuc, neg_ℤ, ◌-ℤ◌, ◌*ℤ◌}
use Rattle.std.specs.Prelude.{unsigned_abs, if◌then◌else◌}
use Rattle.std.proofs.lemmas.Bool.{le-ltb}
use Rattle.std.proofs.lemmas.Int.{ints}
use Rattle.std.proofs.lemmas.Nat.{div-mul-add}
use Rattle.number_theory.specs.Residue.{quotient}
use Rattle.number_theory.specs.Division.{floor_div, floor_mod}
use Rattle.moduli_sets.specs.Set.{ModuliSet, IsInRange, range_bound}
use Rattle.channel_alu.specs.declared.operation.Place.{Place}
use Rattle.channel_alu.specs.declared.operation.Place.TheVariants.{Reg, Scratch}
use Rattle.channel_lane.specs.Meaning.{with_integer}
use Rattle.machine_table.specs.Control.{Control, is_negative, is_zero}
use Rattle.machine_table.specs.Integers.{Memory, IntegerRun, stands, with_register}
use Rattle.micro_plan.specs.ActTree.{Acts, go_on}
use Rattle.micro_plan.specs.Division.{sign_acts, is_turned, turning_acts, counting_acts, quotient_acts, signed_acts, remainder_acts}
use Rattle.micro_plan.specs.Told.{memory_of, AreInRange}
use Rattle.micro_plan.proofs.ToldLemmas.{ComesTo, issued, same_difference, AreInRange-with, IsInRange-natural, IsInRange-difference, IsInRange-neg, IsInRange-quotient}
use Rattle.micro_plan.proofs.DivisionLoops.{IsCounting, counting-comes}

-- ---- signs
-- negated where the divisor is negative
abbrev pub signed : Bool → ℤ → ℤ
signed true x = neg_ℤ x
signed false x = x

-- turned, where it is negative; to turn twice changes nothing
abbrev pub turned : Bool → ℤ → ℤ
turned true x = negsuc 0 -ℤ x
turned false x = x

-- what is left, turned
abbrev pub left_of : Bool → ℤ → ℤ → ℤ
left_of true y r = (y -ℤ r) -ℤ pos 1
left_of false y r = r

-- the number that is divided
abbrev pub dividend : ℤ → ℕ
dividend (pos n) = n
dividend (negsuc n) = n

divisor_is : (y : ℤ) → signed (is_negative y) y ≡ pos (unsigned_abs y)
divisor_is (pos n) = refl
divisor_is (negsuc n) = refl

divisor_positive : (y : ℤ) → is_zero y ≡ false → 1 ≤ unsigned_abs y
divisor_positive (pos zero) h = cc
divisor_positive (pos (suc n)) h = omega arith
divisor_positive (negsuc n) h = omega arith

pub divisor_fits : (set : ModuliSet) (y : ℤ) → IsInRange set y → unsigned_abs y ≤ range_bound set
divisor_fits set (pos n) h = let high = h.high in omega (arith, ints)
divisor_fits set (negsuc n) h = let low = h.low in omega (arith, ints)

dividend_fits : (set : ModuliSet) (z : ℤ) → IsInRange set z → dividend z ≤ range_bound set
dividend_fits set (pos n) h = let high = h.high in omega (arith, ints)
dividend_fits set (negsuc n) h = let low = h.low in omega (arith, ints)

IsInRange-signed : (set : ModuliSet) (negative : Bool) (x : ℤ) → IsInRange set x → IsInRange set (signed negative x)
IsInRange-signed set true x h = IsInRange-neg set x h
IsInRange-signed set false x h = h

minus_one : (set : ModuliSet) → 1 ≤ range_bound set → IsInRange set (negsuc 0)
minus_one set some = IsInRange-neg set (pos 1) (IsInRange-natural set (pos 1) 1 refl some)

back_from : (n : ℕ) → negsuc 0 -ℤ negsuc n ≡ pos n
back_from n = omega (arith, ints)

back_to : (n : ℕ) → negsuc 0 -ℤ pos n ≡ negsuc n
back_to n = omega (arith, ints)

-- the plan is turned where the dividend with its sign is negative
is_turned-signed : (x y : ℤ) → is_zero y ≡ false → is_turned x y ≡ is_negative (signed (is_negative y) x)
is_turned-signed x (pos zero) h = cc
is_turned-signed (pos m) (pos (suc n)) h = refl
is_turned-signed (negsuc m) (pos (suc n)) h = refl
is_turned-signed (pos zero) (negsuc n) h = refl
is_turned-signed (pos (suc m)) (negsuc n) h = refl
is_turned-signed (negsuc m) (negsuc n) h = refl

-- ---- what the counting finds
floor_div-signed : (x y : ℤ) → floor_div x y ≡ quotient (signed (is_negative y) x) (unsigned_abs y)
floor_div-signed x (pos n) = ap (λ t. if t then quotient (neg_ℤ x) n else quotient x n) (le-ltb n 0 (omega arith))
floor_div-signed x (negsuc n) = refl

times_and_rest : (r q n y : ℕ) → r < y → r + q * y ≡ n → q ≡ n / y
times_and_rest r q n y below whole =
    let turned_round : q * y + r ≡ n = omega arith in
    sym (div-mul-add q y r below) ∙ ap (λ m. m / y) turned_round

turned-quotient : (z : ℤ) (y r q : ℕ) → r < y → r + q * y ≡ dividend z → turned (is_negative z) (pos q) ≡ quotient z y
turned-quotient (pos n) y r q below whole = ap pos (times_and_rest r q n y below whole)
turned-quotient (negsuc n) y r q below whole = back_to q ∙ ap negsuc (times_and_rest r q n y below whole)

pub quotient_is : (x y : ℤ) (r q : ℕ) → r < unsigned_abs y → r + q * unsigned_abs y ≡ dividend (signed (is_negative y) x) → turned (is_negative (signed (is_negative y) x)) (pos q) ≡ floor_div x y
quotient_is x y r q below whole =
    turned-quotient (signed (is_negative y) x) (unsigned_abs y) r q below whole ∙ sym (floor_div-signed x y)

-- the remainder by the quotient that was counted
remainder_by : (x y : ℤ) (r q : ℕ) → is_zero y ≡ false → r < unsigned_abs y → r + q * unsigned_abs y ≡ dividend (signed (is_negative y) x)
    → signed (is_negative y) (left_of (is_negative (signed (is_negative y) x)) (pos (unsigned_abs y)) (pos r)) ≡ x -ℤ (y *ℤ turned (is_negative (signed (is_negative y) x)) (pos q))
remainder_by x (pos zero) r q h below whole = cc
remainder_by (pos m) (pos (suc n)) r q h below whole = omega (arith, ints)
remainder_by (negsuc m) (pos (suc n)) r q h below whole =
    let e : r + q * suc n ≡ m = whole in
    let l : r < suc n = below in
    let back : (pos (suc n) -ℤ pos r) -ℤ pos 1 ≡ negsuc m -ℤ (pos (suc n) *ℤ negsuc q) = omega (arith, ints) in
    back ∙ ap (λ z. negsuc m -ℤ (pos (suc n) *ℤ z)) (sym (back_to q))
remainder_by (pos zero) (negsuc n) r q h below whole = omega (arith, ints)
remainder_by (pos (suc m)) (negsuc n) r q h below whole =
    let e : r + q * suc n ≡ m = whole in
    let l : r < suc n = below in
    let back : neg_ℤ ((pos (suc n) -ℤ pos r) -ℤ pos 1) ≡ pos (suc m) -ℤ (negsuc n *ℤ negsuc q) = omega (arith, ints) in
    back ∙ ap (λ z. pos (suc m) -ℤ (negsuc n *ℤ z)) (sym (back_to q))
remainder_by (negsuc m) (negsuc n) r q h below whole = omega (arith, ints)

pub remainder_is : (x y : ℤ) (r q : ℕ) → is_zero y ≡ false → r < unsigned_abs y → r + q * unsigned_abs y ≡ dividend (signed (is_negative y) x)
    → signed (is_negative y) (left_of (is_negative (signed (is_negative y) x)) (pos (unsigned_abs y)) (pos r)) ≡ floor_mod x y
remainder_is x y r q h below whole =
    remainder_by x y r q h below whole ∙ ap (λ z. x -ℤ (y *ℤ z)) (quotient_is x y r q below whole)

-- ---- from the signs to the counting
-- s0 is x and s1 is y, and the registers and words are what they were
pub record HoldsOperands (set : ModuliSet) (memory : Memory) (x y : ℤ) (at : Place → ℤ) : Type 0 where
  pub in_range : AreInRange set at
  pub kept : memory_of at ≡ memory
  pub dividend_is : at (Scratch 0) ≡ x
  pub divisor_is : at (Scratch 1) ≡ y

module _ (set : ModuliSet) (run : IntegerRun) (some : 1 ≤ range_bound set) where
  signs-come : (negative : Bool) (b c : ℕ) (at : Place → ℤ) (rest : Acts) → AreInRange set at
      → ((at' : Place → ℤ) → HoldsOperands set (memory_of at) (signed negative (at (Reg b))) (signed negative (at (Reg c))) at' → ComesTo set rest at' run)
      → ComesTo set (sign_acts negative b c rest) at run
  signs-come true b c at rest in_range follow =
      let x = neg_ℤ (at (Reg b)) in
      let y = neg_ℤ (at (Reg c)) in
      let at_1 = with_integer at (Scratch 0) x in
      let at_2 = with_integer at_1 (Scratch 1) y in
      let in_1 = AreInRange-with set at (Scratch 0) x in_range (IsInRange-neg set (at (Reg b)) (in_range (Reg b))) in
      let in_2 = AreInRange-with set at_1 (Scratch 1) y in_1 (IsInRange-neg set (at (Reg c)) (in_range (Reg c))) in
      issued tt in_1 (issued tt in_2 (follow at_2 (record { in_range = in_2; kept = refl; dividend_is = refl; divisor_is = refl })))
  signs-come false b c at rest in_range follow =
      let at_1 = with_integer at (Scratch 0) (at (Reg b)) in
      let at_2 = with_integer at_1 (Scratch 1) (at (Reg c)) in
      let in_1 = AreInRange-with set at (Scratch 0) (at (Reg b)) in_range (in_range (Reg b)) in
      let in_2 = AreInRange-with set at_1 (Scratch 1) (at (Reg c)) in_1 (in_range (Reg c)) in
      issued tt in_1 (issued tt in_2 (follow at_2 (record { in_range = in_2; kept = refl; dividend_is = refl; divisor_is = refl })))

  turning-comes : (z y : ℤ) (memory : Memory) (at : Place → ℤ) (rest : Acts) → IsInRange set z → HoldsOperands set memory z y at
      → ((at' : Place → ℤ) → HoldsOperands set memory (pos (dividend z)) y at' → ComesTo set rest at' run)
      → ComesTo set (turning_acts (is_negative z) rest) at run
  turning-comes (pos n) y memory at rest in_z h follow = follow at h
  turning-comes (negsuc n) y memory at rest in_z h follow =
      let x = negsuc 0 -ℤ at (Scratch 0) in
      let x_is = same_difference (negsuc 0) (negsuc 0) (at (Scratch 0)) (negsuc n) refl h.dividend_is ∙ back_from n in
      let at_1 = with_integer at (Scratch 4) (negsuc 0) in
      let at_2 = with_integer at_1 (Scratch 0) x in
      let in_1 = AreInRange-with set at (Scratch 4) (negsuc 0) h.in_range (minus_one set some) in
      let in_2 = AreInRange-with set at_1 (Scratch 0) x in_1 (IsInRange-natural set x n x_is (dividend_fits set (negsuc n) in_z)) in
      issued tt in_1 (issued tt in_2 (follow at_2 (record { in_range = in_2; kept = h.kept; dividend_is = x_is; divisor_is = h.divisor_is })))

  -- the plan up to its last operations
  pub division-comes : (instead : Option Acts) (b c : ℕ) (at : Place → ℤ) (finish : Bool → Bool → Acts) → range_bound set < 2 ^ 126 → AreInRange set at → is_zero (at (Reg c)) ≡ false
      → ((at' : Place → ℤ) (r q : ℕ) → IsCounting set (memory_of at) (unsigned_abs (at (Reg c))) (dividend (signed (is_negative (at (Reg c))) (at (Reg b)))) r q at' → r < unsigned_abs (at (Reg c))
      → ComesTo set (finish (is_negative (at (Reg c))) (is_negative (signed (is_negative (at (Reg c))) (at (Reg b))))) at' run)
      → ComesTo set (sign_acts (is_negative (at (Reg c))) b c (turning_acts (is_turned (at (Reg b)) (at (Reg c))) (counting_acts instead (finish (is_negative (at (Reg c))) (is_turned (at (Reg b)) (at (Reg c))))))) at run
  division-comes instead b c at finish small in_range apart follow =
      let x = at (Reg b) in
      let y = at (Reg c) in
      let negative = is_negative y in
      let z = signed negative x in
      let last = finish negative (is_negative z) in
      let in_z = IsInRange-signed set negative x (in_range (Reg b)) in
      subst (λ t. ComesTo set (sign_acts negative b c (turning_acts t (counting_acts instead (finish negative t)))) at run) (sym (is_turned-signed x y apart))
      (signs-come negative b c at (turning_acts (is_negative z) (counting_acts instead last)) in_range
      (λ at_1 h. turning-comes z (signed negative y) (memory_of at) at_1 (counting_acts instead last) in_z h
      (λ at_2 k. counting-comes instead set run (memory_of at) (unsigned_abs y) (dividend z) (divisor_positive y apart) (divisor_fits set y (in_range (Reg c))) (dividend_fits set z in_z)
      at_2 last small k.in_range k.kept k.dividend_is (k.divisor_is ∙ divisor_is y) follow)))

-- ---- the last operations
-- register a becomes x, which is v
last : {Exact : Type 0} (set : ModuliSet) (a : ℕ) (control : Control) (at : Place → ℤ) (memory : Memory) (x v : ℤ) → Exact → AreInRange set at → memory_of at ≡ memory → x ≡ v → IsInRange set v
    → (stands control (memory_of (with_integer at (Reg a) x)) ≡ stands control (with_register a v memory)) × (Exact × AreInRange set (with_integer at (Reg a) x) × Unit {0})
last set a control at memory x v exact in_range kept e in_v = (
  ap (λ z. stands control (with_register a z (memory_of at))) e ∙ ap (λ m. stands control (with_register a v m)) kept,
  (exact, AreInRange-with set at (Reg a) x in_range (subst (IsInRange set) (sym e) in_v), tt),
)

module _ (set : ModuliSet) (a : ℕ) (control : Control) (memory : Memory) (some : 1 ≤ range_bound set) where
  pub quotient-comes : (z v : ℤ) (y r q : ℕ) (at : Place → ℤ) → IsCounting set memory y (dividend z) r q at → turned (is_negative z) (pos q) ≡ v → IsInRange set v
      → ComesTo set (quotient_acts a (is_negative z) (go_on control)) at (stands control (with_register a v memory))
  quotient-comes (pos n) v y r q at h e in_v =
      last set a control at memory (at (Scratch 5)) v tt h.in_range h.kept (h.count_is ∙ e) in_v
  quotient-comes (negsuc n) v y r q at h e in_v =
      let at_1 = with_integer at (Scratch 4) (negsuc 0) in
      let in_1 = AreInRange-with set at (Scratch 4) (negsuc 0) h.in_range (minus_one set some) in
      issued tt in_1
      (last set a control at_1 memory (negsuc 0 -ℤ at (Scratch 5)) v tt in_1 h.kept (same_difference (negsuc 0) (negsuc 0) (at (Scratch 5)) (pos q) refl h.count_is ∙ e) in_v)

  signed-comes : (negative : Bool) (x v : ℤ) (at : Place → ℤ) → AreInRange set at → memory_of at ≡ memory → at (Scratch 0) ≡ x → signed negative x ≡ v → IsInRange set x
      → ComesTo set (signed_acts a negative (go_on control)) at (stands control (with_register a v memory))
  signed-comes true x v at in_range kept rest_is e in_x =
      last set a control at memory (neg_ℤ (at (Scratch 0))) v tt in_range kept (ap neg_ℤ rest_is ∙ e) (subst (IsInRange set) e (IsInRange-neg set x in_x))
  signed-comes false x v at in_range kept rest_is e in_x =
      last set a control at memory (at (Scratch 0)) v tt in_range kept (rest_is ∙ e) (subst (IsInRange set) e in_x)

  pub remainder-comes : (negative : Bool) (z v : ℤ) (y r q : ℕ) (at : Place → ℤ) → IsCounting set memory y (dividend z) r q at → r < y → y ≤ range_bound set → signed negative (left_of (is_negative z) (pos y) (pos r)) ≡ v
      → ComesTo set (remainder_acts a negative (is_negative z) (go_on control)) at (stands control (with_register a v memory))
  remainder-comes negative (pos n) v y r q at h below fits e =
      signed-comes negative (pos r) v at h.in_range h.kept h.rest_is e (IsInRange-natural set (pos r) r refl (omega arith))
  remainder-comes negative (negsuc n) v y r q at h below fits e =
      let d = at (Scratch 1) -ℤ at (Scratch 0) in
      let x = d -ℤ pos 1 in
      let d_is = same_difference (at (Scratch 1)) (pos y) (at (Scratch 0)) (pos r) h.divisor_is h.rest_is in
      let x_is = same_difference d (pos y -ℤ pos r) (pos 1) (pos 1) d_is refl in
      let natural : (pos y -ℤ pos r) -ℤ pos 1 ≡ pos (y - r - 1) = omega (arith, ints) in
      let in_x = IsInRange-natural set x (y - r - 1) (x_is ∙ natural) (omega arith) in
      let at_1 = with_integer at (Scratch 1) d in
      let at_2 = with_integer at_1 (Scratch 4) (pos 1) in
      let at_3 = with_integer at_2 (Scratch 0) x in
      let in_1 = AreInRange-with set at (Scratch 1) d h.in_range (IsInRange-difference set (at (Scratch 1)) (at (Scratch 0)) y r h.divisor_is h.rest_is fits (omega arith)) in
      let in_2 = AreInRange-with set at_1 (Scratch 4) (pos 1) in_1 (IsInRange-natural set (pos 1) 1 refl some) in
      let in_3 = AreInRange-with set at_2 (Scratch 0) x in_2 in_x in
      issued tt in_1 (issued tt in_2 (issued tt in_3
      (signed-comes negative x v at_3 in_3 h.kept refl (ap (λ w. signed negative w) x_is ∙ e) in_x)))

-- ---- in range
pub IsInRange-floor_div : (set : ModuliSet) (x y : ℤ) → is_zero y ≡ false → IsInRange set x → IsInRange set (floor_div x y)
IsInRange-floor_div set x y apart h =
    let z = signed (is_negative y) x in
    let positive = divisor_positive y apart in
    subst (IsInRange set) (sym (floor_div-signed x y)) (IsInRange-quotient set z (unsigned_abs y) (omega arith) (IsInRange-signed set (is_negative y) x h))
