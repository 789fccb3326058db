-- Acts that come to a run of the integer machine.
use Rattle.std.proofs.Common.{◌≡◌, ℕ, ◌<◌, ◌≤◌, Bool, true, false, refl, sym, ap, ◌∙◌, subst, arith, ℤ, pos, negsuc, neg_ℤ, ◌+ℤ◌, ◌-ℤ◌, ◌≤ℤ◌, div-le_self}
use Rattle.std.specs.Prelude.{if◌then◌else◌}
use Rattle.std.proofs.lemmas.Int.{ints}
use Rattle.number_theory.specs.Residue.{quotient}
use Rattle.moduli_sets.specs.Set.{ModuliSet, IsInRange, range_bound}
use Rattle.channel_alu.specs.declared.operation.Place.{Place}
use Rattle.channel_lane.specs.Meaning.{same_place, with_integer}
use Rattle.machine_table.specs.Control.{End}
use Rattle.machine_table.specs.Integers.{IntegerRun, stops}
use Rattle.micro_plan.specs.ActTree.{Acts, end_by}
use Rattle.micro_plan.specs.Told.{integers_by, AreInRange, StayTrue}

-- the acts come to the run, and stay true to the integers
abbrev pub ComesTo : ModuliSet → Acts → (Place → ℤ) → IntegerRun → Type 0
ComesTo set acts at run = (integers_by set.moduli acts at ≡ run) × StayTrue set acts at

-- an operation is exact and leaves what fits, and the acts after it come to the run
pub issued : {A B C D : Type 0} → C → D → A × B → A × (C × D × B)
issued exact fits m = (m.0, (exact, fits, m.1))

-- acts by what a test says
pub ComesTo-test : (set : ModuliSet) (t u : Bool) (if_so if_not : Acts) (at : Place → ℤ) (run : IntegerRun) → t ≡ u → ComesTo set (if u then if_so else if_not) at run → ComesTo set (if t then if_so else if_not) at run
ComesTo-test set t u if_so if_not at run e m = subst (λ (b : Bool). ComesTo set (if b then if_so else if_not) at run) (sym e) m

-- acts where a test passes, and else an end; and the other way round
pub ComesTo-or_end : (set : ModuliSet) (t : Bool) (acts : Acts) (end : End) (at : Place → ℤ) (run : IntegerRun) → (t ≡ true → ComesTo set acts at run) → ComesTo set (if t then acts else end_by end) at (if t then run else stops end)
ComesTo-or_end set true acts end at run m = m refl
ComesTo-or_end set false acts end at run m = (refl, tt)

pub ComesTo-end_or : (set : ModuliSet) (t : Bool) (acts : Acts) (end : End) (at : Place → ℤ) (run : IntegerRun) → (t ≡ false → ComesTo set acts at run) → ComesTo set (if t then end_by end else acts) at (if t then stops end else run)
ComesTo-end_or set true acts end at run m = (refl, tt)
ComesTo-end_or set false acts end at run m = m refl

-- ---- equal sums and differences
pub same_sum : (x a y b : ℤ) → x ≡ a → y ≡ b → x +ℤ y ≡ a +ℤ b
same_sum x a y b e f = ap (λ z. z +ℤ y) e ∙ ap (λ z. a +ℤ z) f

pub same_difference : (x a y b : ℤ) → x ≡ a → y ≡ b → x -ℤ y ≡ a -ℤ b
same_difference x a y b e f = ap (λ z. z -ℤ y) e ∙ ap (λ z. a -ℤ z) f

-- ---- ranges
either_in_range : (set : ModuliSet) (t : Bool) (x y : ℤ) → IsInRange set x → IsInRange set y → IsInRange set (if t then x else y)
either_in_range set true x y h k = h
either_in_range set false x y h k = k

pub AreInRange-with : (set : ModuliSet) (at : Place → ℤ) (to : Place) (x : ℤ) → AreInRange set at → IsInRange set x → AreInRange set (with_integer at to x)
AreInRange-with set at to x fits in_x place = either_in_range set (same_place to place) x (at place) in_x (fits place)

natural : (set : ModuliSet) (n : ℕ) → n ≤ range_bound set → IsInRange set (pos n)
natural set n h = record { low = omega (arith, ints); high = omega (arith, ints) }

difference : (set : ModuliSet) (m n : ℕ) → m ≤ range_bound set → n ≤ range_bound set → IsInRange set (pos m -ℤ pos n)
difference set m n h k = record { low = omega (arith, ints); high = omega (arith, ints) }

pub IsInRange-natural : (set : ModuliSet) (x : ℤ) (n : ℕ) → x ≡ pos n → n ≤ range_bound set → IsInRange set x
IsInRange-natural set x n e h = subst (IsInRange set) (sym e) (natural set n h)

pub IsInRange-difference : (set : ModuliSet) (x y : ℤ) (m n : ℕ) → x ≡ pos m → y ≡ pos n → m ≤ range_bound set → n ≤ range_bound set → IsInRange set (x -ℤ y)
IsInRange-difference set x y m n e f h k =
    subst (IsInRange set) (sym (same_difference x (pos m) y (pos n) e f)) (difference set m n h k)

pub IsInRange-neg : (set : ModuliSet) (x : ℤ) → IsInRange set x → IsInRange set (neg_ℤ x)
IsInRange-neg set x h =
    let low = h.low in
    let high = h.high in
    record { low = omega (arith, ints); high = omega (arith, ints) }

pub IsInRange-between : (set : ModuliSet) (low high x : ℤ) → IsInRange set low → IsInRange set high → low ≤ℤ x → x ≤ℤ high → IsInRange set x
IsInRange-between set low high x l h above below =
    let from = l.low in
    let to = h.high in
    record { low = omega (arith, ints); high = omega (arith, ints) }

pub IsInRange-quotient : (set : ModuliSet) (x : ℤ) (m : ℕ) → 0 < m → IsInRange set x → IsInRange set (quotient x m)
IsInRange-quotient set (pos n) m p h =
    let high = h.high in
    record { low = omega (arith, ints); high = omega (arith, ints, div-le_self n m) }
IsInRange-quotient set (negsuc n) m p h =
    let low = h.low in
    record { low = omega (arith, ints, div-le_self n m); high = omega (arith, ints) }
