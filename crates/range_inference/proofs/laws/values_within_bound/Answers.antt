use Rattle.range_inference.specs.Demands.{demands_of}
use Rattle.range_inference.specs.Interval.{is_bounded}
use Rattle.range_inference.proofs.Passing.{pass_bounded}
use Rattle.range_inference.proofs.WatchedPrograms.{tests_pass}
use Rattle.range_inference.proofs.laws.values_within_bound.Goals as goal

pub returns : goal.returns
returns c = λ program input bound elsewhere none narrow.
    tests_pass program input (λ interval x. is_bounded bound x) elsewhere none (pass_bounded bound (demands_of program) narrow)
