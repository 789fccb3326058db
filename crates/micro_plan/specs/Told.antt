-- Acts over plain integers, one at each place: what they leave where they are told the integers that are held.
use Rattle.std.specs.Prelude.{ℕ, ℤ, List}
use Rattle.moduli_sets.specs.Set.{ModuliSet, IsInRange}
use Rattle.channel_alu.specs.declared.operation.Place.{Place}
use Rattle.channel_alu.specs.declared.operation.Place.TheVariants.{Reg, Word}
use Rattle.channel_lane.specs.Meaning.{IsExact, integers_after}
use Rattle.machine_table.specs.Integers.{Memory, IntegerRun, prints, stands, stops}
use Rattle.micro_plan.specs.ActTree.{Acts, issue, ask, print, go_on, end_by}

-- what the integer machine knows of the integers at places
abbrev pub memory_of : (Place → ℤ) → Memory
memory_of at = record { registers = λ a. at (Reg a); words = λ p. at (Word p) }

-- the run of the integer machine that acts come to
abbrev pub integers_by : List ℕ → Acts → (Place → ℤ) → IntegerRun
integers_by moduli (issue op acts) at = integers_by moduli acts (integers_after moduli op at)
integers_by moduli (ask place acts) at = integers_by moduli (acts (at place)) at
integers_by moduli (print x acts) at = prints x (integers_by moduli acts at)
integers_by moduli (go_on control) at = stands control (memory_of at)
integers_by moduli (end_by end) at = stops end

abbrev pub AreInRange : ModuliSet → (Place → ℤ) → Type 0
AreInRange set at = (place : Place) → IsInRange set (at place)

-- acts that stay true to the integers: each operation is exact, and what it leaves is in range
abbrev pub StayTrue : ModuliSet → Acts → (Place → ℤ) → Type 0
StayTrue set (issue op acts) at =
    let after = integers_after set.moduli op at in IsExact set.moduli at op × AreInRange set after × StayTrue set acts after
StayTrue set (ask place acts) at = StayTrue set (acts (at place)) at
StayTrue set (print x acts) at = StayTrue set acts at
StayTrue set (go_on control) at = Unit {0}
StayTrue set (end_by end) at = Unit {0}
