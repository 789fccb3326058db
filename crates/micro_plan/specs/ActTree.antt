-- What is asked of the channels, as a tree by the integers that are told.
use Rattle.std.specs.Prelude.{ℤ}
use Rattle.channel_alu.specs.declared.operation.Place.{Place}
use Rattle.channel_alu.specs.declared.operation.MicroOp.{MicroOp}
use Rattle.channel_alu.specs.declared.operation.MicroOp.TheVariants.{Show}
use Rattle.machine_table.specs.Control.{Control, End}

-- An operation is issued; or a place is shown, and what follows depends on the integer that is told; or an integer is
-- printed. In the end control goes on, or the program ends.
pub data Acts : Type 0 where
  issue : MicroOp → Acts → Acts
  ask : Place → (ℤ → Acts) → Acts
  print : ℤ → Acts → Acts
  go_on : Control → Acts
  end_by : End → Acts

-- acts, and then others from where control goes on
abbrev pub then_acts : Acts → (Control → Acts) → Acts
then_acts (issue op acts) next = issue op (then_acts acts next)
then_acts (ask place acts) next = ask place (λ x. then_acts (acts x) next)
then_acts (print x acts) next = print x (then_acts acts next)
then_acts (go_on control) next = next control
then_acts (end_by end) next = end_by end

-- each operation is such a one, whatever is told
abbrev pub AllOperations : (MicroOp → Type 0) → Acts → Type 0
AllOperations Is (issue op acts) = Is op × AllOperations Is acts
AllOperations Is (ask place acts) = Is (Show place) × ((x : ℤ) → AllOperations Is (acts x))
AllOperations Is (print x acts) = AllOperations Is acts
AllOperations Is (go_on control) = Unit {0}
AllOperations Is (end_by end) = Unit {0}
