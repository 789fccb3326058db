use Rattle.std.proofs.Common.{Some, None}
use Rattle.redundant_decoder.proofs.VerdictLemmas.{verdict_corrected, verdict_detected}
use Rattle.redundant_decoder.proofs.distance.wrong_residues.Goals as goal

pub returns : goal.returns
returns c = record {
  corrected = λ set t. verdict_corrected set t None;
  erased = λ set t i. verdict_corrected set t (Some i);
  detected = verdict_detected;
}
