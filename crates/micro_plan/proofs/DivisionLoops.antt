-- The loops of a division find how often the divisor goes into the dividend, and keep in range.
use Rattle.std.proofs.Common.{◌≡◌, ℕ, zero, suc, ◌+◌, ◌-◌, ◌*◌, ◌^◌, ◌<◌, ◌≤◌, ◌==◌, Bool, true, false, ◌||◌, Option, None, Some, refl, ap, ◌∙◌, arith, inl, inr, ℤ, pos, negsuc, ◌+ℤ◌, ◌-ℤ◌}
use Rattle.std.specs.Prelude.{if◌then◌else◌}
use Rattle.std.proofs.lemmas.Bool.{cases_lt, ne_eqb}
use Rattle.std.proofs.lemmas.Int.{ints}
use Rattle.std.proofs.Math.Nat.{pow-succ', mul-le-mul_left, mul-one}
use Rattle.moduli_sets.specs.Set.{ModuliSet, range_bound}
use Rattle.channel_alu.specs.declared.operation.Place.{Place}
use Rattle.channel_alu.specs.declared.operation.Place.TheVariants.{Scratch}
use Rattle.channel_alu.specs.declared.operation.MicroOp.TheVariants.{Copy, Add, Sub}
use Rattle.channel_lane.specs.Meaning.{with_integer}
use Rattle.machine_table.specs.Control.{is_negative}
use Rattle.machine_table.specs.Integers.{Memory, IntegerRun}
use Rattle.micro_plan.specs.ActTree.{Acts, issue, ask}
use Rattle.micro_plan.specs.Division.{counting_acts, doing_or, doubling_acts, subtracting_acts}
use Rattle.micro_plan.specs.Told.{memory_of, AreInRange}
use Rattle.micro_plan.proofs.ToldLemmas.{ComesTo, issued, ComesTo-test, same_sum, same_difference, AreInRange-with, IsInRange-natural, IsInRange-difference}

-- s1 is the divisor, s0 is r, which is left of the dividend n, and s5 is q, how often the divisor was taken off
pub record IsCounting (set : ModuliSet) (memory : Memory) (y n r q : ℕ) (at : Place → ℤ) : Type 0 where
  pub in_range : AreInRange set at
  pub kept : memory_of at ≡ memory
  pub rest_is : at (Scratch 0) ≡ pos r
  pub divisor_is : at (Scratch 1) ≡ pos y
  pub count_is : at (Scratch 5) ≡ pos q
  pub whole : r + q * y ≡ n

-- s2 is p, the divisor times the power s3, and s4 is u, which p leaves of r
pub record IsDoubling (set : ModuliSet) (memory : Memory) (y n r q u p power : ℕ) (at : Place → ℤ) : Type 0 where
  pub in_range : AreInRange set at
  pub kept : memory_of at ≡ memory
  pub divisor_is : at (Scratch 1) ≡ pos y
  pub multiple_is : at (Scratch 2) ≡ pos p
  pub power_is : at (Scratch 3) ≡ pos power
  pub left_is : at (Scratch 4) ≡ pos u
  pub count_is : at (Scratch 5) ≡ pos q
  pub whole : r + q * y ≡ n
  pub left : u + p ≡ r
  pub times : p ≡ power * y

-- ---- the test of a loop
is_left : (d : ℤ) (u p : ℕ) (last : Bool) → d ≡ pos u -ℤ pos p → u < p → (is_negative d || last) ≡ true
is_left d u p last e below =
    let negative : pos u -ℤ pos p ≡ negsuc (p - u - 1) = omega (arith, ints) in
    ap (λ z. is_negative z || last) (e ∙ negative)

minus_is : (u p : ℕ) → p ≤ u → pos u -ℤ pos p ≡ pos (u - p)
minus_is u p above = omega (arith, ints)

goes_on : (d : ℤ) (u p k : ℕ) → d ≡ pos u -ℤ pos p → p ≤ u → (is_negative d || (suc k == 0)) ≡ false
goes_on d u p k e above =
    ap (λ z. is_negative z || (suc k == 0)) (e ∙ minus_is u p above) ∙ ne_eqb (suc k) 0 (λ same. omega arith)

-- ---- numbers on the way
pub le_times : (n y : ℕ) → 1 ≤ y → n ≤ n * y
le_times n y h = omega (arith, mul-le-mul_left n h, mul-one n)

power_below : (power y p : ℕ) → 1 ≤ y → p ≡ power * y → power ≤ p
power_below power y p positive e = omega (arith, le_times power y positive)

count_below : (q power y n r u p : ℕ) → 1 ≤ y → r + q * y ≡ n → u + p ≡ r → p ≡ power * y → q + power ≤ n
count_below q power y n r u p positive whole left times = omega (arith, le_times (q + power) y positive)

room_doubled : (k r p : ℕ) → r < 2 ^ suc (suc k) * p → r < 2 ^ suc k * (p + p)
room_doubled k r p h =
    let e : 2 ^ suc (suc k) * p ≡ 2 * 2 ^ suc k * p = ap (λ n. n * p) (pow-succ' 2 (suc k)) in
    omega arith

room_halved : (k r y left : ℕ) → r < 2 ^ suc k * y → left + left < r → left < 2 ^ k * y
room_halved k r y left h half =
    let e : 2 ^ suc k * y ≡ 2 * 2 ^ k * y = ap (λ n. n * y) (pow-succ' 2 k) in
    omega arith

-- ---- a division of n by y, after which the registers and words are what they were
-- a doing that isn't the last stands as it is
doing-stands : (instead : Option Acts) (set : ModuliSet) (k : ℕ) (doing : Acts) (at : Place → ℤ) (run : IntegerRun) → ComesTo set doing at run → ComesTo set (doing_or instead (suc k) doing) at run
doing-stands None set k doing at run h = h
doing-stands (Some other) set k doing at run h = h

module _ (instead : Option Acts) (set : ModuliSet) (run : IntegerRun) (memory : Memory) (y n : ℕ) (positive : 1 ≤ y) (y_fits : y ≤ range_bound set) (n_fits : n ≤ range_bound set) where
  -- it takes p off u, and goes by whether p goes into u
  doing-comes : (k u p : ℕ) (to from off : Place) (at : Place → ℤ) (last more : Acts) → AreInRange set at → at from ≡ pos u → at off ≡ pos p → u ≤ range_bound set → p ≤ range_bound set
      → with_integer at to (at from -ℤ at off) to ≡ at from -ℤ at off
      → (u < p → AreInRange set (with_integer at to (at from -ℤ at off)) → ComesTo set last (with_integer at to (at from -ℤ at off)) run)
      → (p ≤ u → AreInRange set (with_integer at to (at from -ℤ at off)) → ComesTo set more (with_integer at to (at from -ℤ at off)) run)
      → ComesTo set (doing_or instead (suc k) (issue (Sub to from off) (ask to (λ d. if is_negative d || suc k == 0 then last else more)))) at run
  doing-comes k u p to from off at last more fits u_is p_is u_fits p_fits told if_less if_not =
      let at_1 = with_integer at to (at from -ℤ at off) in
      let in_1 = AreInRange-with set at to (at from -ℤ at off) fits (IsInRange-difference set (at from) (at off) u p u_is p_is u_fits p_fits) in
      let difference = told ∙ same_difference (at from) (pos u) (at off) (pos p) u_is p_is in
      doing-stands instead set k _ at run (issued tt in_1 (elim (cases_lt u p) [
        | inl below ↦ ComesTo-test set _ true last more at_1 run (is_left (at_1 to) u p (suc k == 0) difference below) (if_less below in_1)
        | inr above ↦ ComesTo-test set _ false last more at_1 run (goes_on (at_1 to) u p k difference above) (if_not above in_1)
      ]))

  -- acts that follow a doubling loop: it leaves less than half
  abbrev pub FollowDoubling : ℕ → Acts → Type 0
  FollowDoubling r acts = (at : Place → ℤ) (left q : ℕ) → IsCounting set memory y n left q at → left + left < r → ComesTo set acts at run

  doubling-last : (r q u p power : ℕ) (at : Place → ℤ) (d : ℤ) (rest : Acts) → IsDoubling set memory y n r q u p power at → u < p → FollowDoubling r rest → AreInRange set (with_integer at (Scratch 6) d)
      → ComesTo set (issue (Copy (Scratch 0) (Scratch 4)) (issue (Add (Scratch 5) (Scratch 5) (Scratch 3)) rest)) (with_integer at (Scratch 6) d) run
  doubling-last r q u p power at d rest h below follow in_1 =
      let left = h.left in
      let whole = h.whole in
      let times = h.times in
      let count = at (Scratch 5) +ℤ at (Scratch 3) in
      let count_is = same_sum (at (Scratch 5)) (pos q) (at (Scratch 3)) (pos power) h.count_is h.power_is in
      let count_fits = count_below q power y n r u p positive whole left times in
      let at_1 = with_integer at (Scratch 6) d in
      let at_2 = with_integer at_1 (Scratch 0) (at (Scratch 4)) in
      let at_3 = with_integer at_2 (Scratch 5) count in
      let in_2 = AreInRange-with set at_1 (Scratch 0) (at (Scratch 4)) in_1 (h.in_range (Scratch 4)) in
      let in_3 = AreInRange-with set at_2 (Scratch 5) count in_2 (IsInRange-natural set count (q + power) count_is (omega arith)) in
      let counting : IsCounting set memory y n u (q + power) at_3 = record {
        in_range = in_3;
        kept = h.kept;
        rest_is = h.left_is;
        divisor_is = h.divisor_is;
        count_is = count_is;
        whole = omega arith;
      } in
      issued tt in_2 (issued tt in_3 (follow at_3 u (q + power) counting (omega arith)))

  doubling-comes : (k r q u p power : ℕ) (at : Place → ℤ) (rest : Acts) → IsDoubling set memory y n r q u p power at → r < 2 ^ suc k * p → FollowDoubling r rest → ComesTo set (doubling_acts instead (suc (suc k)) rest) at run
  doubling-comes zero r q u p power at rest h room follow =
      let twice : r < 2 * p = room in
      let left = h.left in
      let whole = h.whole in
      doing-comes 0 u p (Scratch 6) (Scratch 4) (Scratch 2) at _ _ h.in_range h.left_is h.multiple_is (omega arith) (omega arith) refl
      (λ below. doubling-last r q u p power at (at (Scratch 4) -ℤ at (Scratch 2)) rest h below follow)
      (λ above in_1. absurd (omega arith))
  doubling-comes (suc k) r q u p power at rest h room follow =
      let left = h.left in
      let whole = h.whole in
      doing-comes (suc k) u p (Scratch 6) (Scratch 4) (Scratch 2) at _ _ h.in_range h.left_is h.multiple_is (omega arith) (omega arith) refl
      (λ below. doubling-last r q u p power at (at (Scratch 4) -ℤ at (Scratch 2)) rest h below follow)
      (λ above in_1.
      let times = h.times in
      let power_fits = power_below power y p positive times in
      let d = at (Scratch 4) -ℤ at (Scratch 2) in
      let multiple = at (Scratch 2) +ℤ at (Scratch 2) in
      let twice = at (Scratch 3) +ℤ at (Scratch 3) in
      let multiple_is = same_sum (at (Scratch 2)) (pos p) (at (Scratch 2)) (pos p) h.multiple_is h.multiple_is in
      let twice_is = same_sum (at (Scratch 3)) (pos power) (at (Scratch 3)) (pos power) h.power_is h.power_is in
      let at_1 = with_integer at (Scratch 6) d in
      let at_2 = with_integer at_1 (Scratch 2) multiple in
      let at_3 = with_integer at_2 (Scratch 3) twice in
      let at_4 = with_integer at_3 (Scratch 4) d in
      let in_2 = AreInRange-with set at_1 (Scratch 2) multiple in_1 (IsInRange-natural set multiple (p + p) multiple_is (omega arith)) in
      let in_3 = AreInRange-with set at_2 (Scratch 3) twice in_2 (IsInRange-natural set twice (power + power) twice_is (omega arith)) in
      let in_4 = AreInRange-with set at_3 (Scratch 4) d in_3 (in_1 (Scratch 6)) in
      let doubling : IsDoubling set memory y n r q (u - p) (p + p) (power + power) at_4 = record {
        in_range = in_4;
        kept = h.kept;
        divisor_is = h.divisor_is;
        multiple_is = multiple_is;
        power_is = twice_is;
        left_is = same_difference (at (Scratch 4)) (pos u) (at (Scratch 2)) (pos p) h.left_is h.multiple_is ∙ minus_is u p above;
        count_is = h.count_is;
        whole = whole;
        left = omega arith;
        times = omega arith;
      } in
      issued tt in_2 (issued tt in_3 (issued tt in_4
      (doubling-comes k r q (u - p) (p + p) (power + power) at_4 rest doubling (room_doubled k r p room) follow))))

  -- acts that follow the counting: the divisor no longer goes into what is left
  abbrev pub FollowCounting : Acts → Type 0
  FollowCounting acts = (at : Place → ℤ) (r q : ℕ) → IsCounting set memory y n r q at → r < y → ComesTo set acts at run

  subtracting-last : (r q : ℕ) (at : Place → ℤ) (d : ℤ) (finish : Acts) → IsCounting set memory y n r q at → r < y → FollowCounting finish → AreInRange set (with_integer at (Scratch 4) d) → ComesTo set finish (with_integer at (Scratch 4) d) run
  subtracting-last r q at d finish h below follow in_1 =
      let counting : IsCounting set memory y n r q (with_integer at (Scratch 4) d) = record {
        in_range = in_1;
        kept = h.kept;
        rest_is = h.rest_is;
        divisor_is = h.divisor_is;
        count_is = h.count_is;
        whole = h.whole;
      } in
      follow (with_integer at (Scratch 4) d) r q counting below

  subtracting-comes : (k r q : ℕ) (at : Place → ℤ) (finish : Acts) → IsCounting set memory y n r q at → r < 2 ^ k * y → range_bound set < 2 ^ 126 → FollowCounting finish → ComesTo set (subtracting_acts instead (suc (suc k)) finish) at run
  subtracting-comes zero r q at finish h room small follow =
      let once : r < 1 * y = room in
      let whole = h.whole in
      doing-comes 0 r y (Scratch 4) (Scratch 0) (Scratch 1) at _ _ h.in_range h.rest_is h.divisor_is (omega arith) y_fits refl
      (λ below. subtracting-last r q at (at (Scratch 0) -ℤ at (Scratch 1)) finish h below follow)
      (λ above in_1. absurd (omega arith))
  subtracting-comes (suc k) r q at finish h room small follow =
      let whole = h.whole in
      doing-comes (suc k) r y (Scratch 4) (Scratch 0) (Scratch 1) at _ _ h.in_range h.rest_is h.divisor_is (omega arith) y_fits refl
      (λ below. subtracting-last r q at (at (Scratch 0) -ℤ at (Scratch 1)) finish h below follow)
      (λ above in_1.
      let at_1 = with_integer at (Scratch 4) (at (Scratch 0) -ℤ at (Scratch 1)) in
      let at_2 = with_integer at_1 (Scratch 2) (at (Scratch 1)) in
      let at_3 = with_integer at_2 (Scratch 3) (pos 1) in
      let in_2 = AreInRange-with set at_1 (Scratch 2) (at (Scratch 1)) in_1 (h.in_range (Scratch 1)) in
      let in_3 = AreInRange-with set at_2 (Scratch 3) (pos 1) in_2 (IsInRange-natural set (pos 1) 1 refl (omega arith)) in
      let doubling : IsDoubling set memory y n r q (r - y) y 1 at_3 = record {
        in_range = in_3;
        kept = h.kept;
        divisor_is = h.divisor_is;
        multiple_is = h.divisor_is;
        power_is = refl;
        left_is = same_difference (at (Scratch 0)) (pos r) (at (Scratch 1)) (pos y) h.rest_is h.divisor_is ∙ minus_is r y above;
        count_is = h.count_is;
        whole = whole;
        left = omega arith;
        times = omega arith;
      } in
      let wide : r < 2 ^ 127 * y = omega (arith, le_times (2 ^ 127) y positive) in
      issued tt in_2 (issued tt in_3
      (doubling-comes 126 r q (r - y) y 1 at_3 (subtracting_acts instead (suc (suc k)) finish) doubling wide
      (λ at' left q' counting half. subtracting-comes k left q' at' finish counting (room_halved k r y left room half) small follow))))

  -- from the dividend and the divisor
  pub counting-comes : (at : Place → ℤ) (finish : Acts) → range_bound set < 2 ^ 126 → AreInRange set at → memory_of at ≡ memory → at (Scratch 0) ≡ pos n → at (Scratch 1) ≡ pos y → FollowCounting finish → ComesTo set (counting_acts instead finish) at run
  counting-comes at finish small in_range kept dividend_is divisor_is follow =
      let at_1 = with_integer at (Scratch 5) (pos 0) in
      let in_1 = AreInRange-with set at (Scratch 5) (pos 0) in_range (IsInRange-natural set (pos 0) 0 refl (omega arith)) in
      let counting : IsCounting set memory y n n 0 at_1 = record {
        in_range = in_1;
        kept = kept;
        rest_is = dividend_is;
        divisor_is = divisor_is;
        count_is = refl;
        whole = omega arith;
      } in
      let wide : n < 2 ^ 126 * y = omega (arith, le_times (2 ^ 126) y positive) in
      issued tt in_1 (subtracting-comes 126 n 0 at_1 finish counting wide small follow)
