use Rattle.channel_scheduler.specs.Counts.{HasIssued, HasPerformed}
use Rattle.channel_scheduler.proofs.MomentLemmas.{one_journal}
use Rattle.channel_scheduler.proofs.laws.law_of_journals.Goals as goal

pub returns-clause-under_way : goal.returns-clause-under_way
returns-clause-under_way c = λ plan book start ops. one_journal (HasIssued ops) plan book start ops

pub returns-clause-ended : goal.returns-clause-ended
returns-clause-ended c = λ plan book start ops. one_journal (HasPerformed ops) plan book start ops
