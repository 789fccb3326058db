use Rattle.selector.proofs.StatementLengths.{code_lengths_stand}
use Rattle.selector.proofs.laws.code_lengths_stand.Goals as goal

pub returns : goal.returns
returns c = code_lengths_stand
