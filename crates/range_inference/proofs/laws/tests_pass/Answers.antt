use Rattle.range_inference.specs.Demands.{demands_of}
use Rattle.range_inference.proofs.Passing.{pass_from_all}
use Rattle.range_inference.proofs.WatchedPrograms.{tests_pass}
use Rattle.range_inference.proofs.laws.tests_pass.Goals as goal

pub returns : goal.returns
returns c = λ program input test elsewhere none passes.
    tests_pass program input test elsewhere none (pass_from_all test (demands_of program) passes)
