-- The exit status of each way in which a job ends.
use Rattle.std.specs.Prelude.{ℕ}
use Rattle.job_endings.specs.declared.status.Status.{Status}
use Rattle.job_endings.specs.declared.status.Status.TheVariants.{Ok, NoMemory, Usage, Unread, Unwritten, SourceRefused, InputRefused, PlanRefused, Trap, Damage, Spent, ObjectRefused, ScriptRefused, TooLong}

abbrev pub number_of : Status → ℕ
number_of Ok = 0
number_of NoMemory = 1
number_of Usage = 2
number_of Unread = 3
number_of Unwritten = 4
number_of SourceRefused = 5
number_of InputRefused = 6
number_of PlanRefused = 7
number_of Trap = 8
number_of Damage = 9
number_of Spent = 10
number_of ObjectRefused = 11
number_of ScriptRefused = 12
number_of TooLong = 13
