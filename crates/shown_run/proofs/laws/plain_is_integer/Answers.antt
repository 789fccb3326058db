use Rattle.shown_run.proofs.PlainLemmas.{prints-plain, ending-plain}
use Rattle.shown_run.proofs.laws.plain_is_integer.Goals as goal

pub returns : goal.returns
returns c = record { prints = prints-plain; ending = ending-plain }
