-- Turns of control and of channels.
use Rattle.std.specs.Prelude.{ℕ, ◌<◌, List, [], Option, Some, None}
use Rattle.std.specs.Global.{Vec}
use Rattle.fault_book.specs.declared.schedule.Turn.{Turn}
use Rattle.fault_book.specs.declared.schedule.Turn.TheVariants.{Control, Lane}

-- a turn of control, or of one of so many channels
abbrev pub IsTurnOf : ℕ → Turn → Type 0
IsTurnOf channels Control = Unit {0}
IsTurnOf channels (Lane channel) = channel < channels

-- the turns of a schedule, by what it keeps
abbrev pub turns_kept : Option (Vec Turn) → List Turn
turns_kept None = []
turns_kept (Some turns) = turns.items
