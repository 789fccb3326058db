use Rattle.redundant_decoder.proofs.VerdictLemmas.{same_verdict}
use Rattle.redundant_decoder.proofs.decoder.one_verdict.Goals as goal

pub returns : goal.returns
returns c = same_verdict
