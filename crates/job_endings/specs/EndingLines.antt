-- The table of endings: the line and the status of each.
use Rattle.std.specs.Prelude.{ℕ, List, ◌++◌, codes}
use Rattle.std.specs.Fmt.{decimal}
use Rattle.moduli_sets.specs.declared.kind.Kind.{Kind}
use Rattle.moduli_sets.specs.declared.kind.Kind.TheVariants.{Zero, Range, Index, InputEnd, InputRange, Turns, Stack}
use Rattle.number_text.specs.Lines.{line}
use Rattle.job_endings.specs.declared.ending.Ending.{Ending}
use Rattle.job_endings.specs.declared.ending.Ending.TheVariants.{End, Trap, Damage, Spent}
use Rattle.job_endings.specs.declared.status.Status.{Status}
use Rattle.job_endings.specs.declared.status.Status.TheVariants as status
use Rattle.job_endings.specs.Numbers.{numbers_text}

-- the kind of a trap, as it is printed
abbrev pub trap_text : Kind → List ℕ
trap_text Zero = codes "zero"
trap_text Range = codes "range"
trap_text Index = codes "index"
trap_text InputEnd = codes "input-end"
trap_text InputRange = codes "input-range"
trap_text Turns = codes "turns"
trap_text Stack = codes "stack"

abbrev pub ending_line : Ending → List ℕ
ending_line End = line (codes "end")
ending_line (Trap kind at) = line (codes "trap " ++ trap_text kind ++ codes " " ++ decimal at)
ending_line (Damage number column) = line (codes "damage " ++ decimal number ++ codes " " ++ numbers_text column)
ending_line Spent = line (codes "spent")

abbrev pub ending_status : Ending → Status
ending_status End = status.Ok
ending_status (Trap kind at) = status.Trap
ending_status (Damage number column) = status.Damage
ending_status Spent = status.Spent

-- how many columns were corrected in each channel
abbrev pub corrected_line : List ℕ → List ℕ
corrected_line corrected = line (codes "corrected " ++ numbers_text corrected)
