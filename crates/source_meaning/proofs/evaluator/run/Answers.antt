use Rattle.source_meaning.specs.Follows.{state_of}
use Rattle.source_meaning.proofs.evaluator.run.Goals as goal

pub returns-in-Ok : goal.returns-in-Ok
returns-in-Ok g c =
    let f = rw c.as_slice-2.ensures at (rw c.as_slice.ensures at c.in-Ok.ensures) in
    (state_of c.steps.new.self, c.steps.new.self.left, f.does c.requires)
