use Rattle.machine_table.specs.Integers.{instruction_at}
use Rattle.micro_plan.specs.Acts.{acts_of, acts_of_run}
use Rattle.shown_run.proofs.Joining.{shown-then}
use Rattle.shown_run.proofs.laws.runs_in_parts.Goals as goal

pub returns : goal.returns
returns c = record {
  acts = shown-then;
  instructions = λ decode book set code n control lanes.
      shown-then decode book (acts_of set (instruction_at code control.counter) control) lanes (acts_of_run set code n);
}
