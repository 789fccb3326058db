use Rattle.range_inference.specs.Demands.{demands_of}
use Rattle.range_inference.specs.Interval.{contains}
use Rattle.range_inference.proofs.Passing.{pass_always}
use Rattle.range_inference.proofs.WatchedPrograms.{tests_pass}
use Rattle.range_inference.proofs.laws.intervals_hold.Goals as goal

pub returns : goal.returns
returns c = λ program input elsewhere none.
    tests_pass program input contains elsewhere none (pass_always contains (demands_of program) (λ i x h. h))
