use Rattle.assembler.specs.Words.{said_in}
use Rattle.assembler.proofs.RefusalLemmas.{refusal_one, refused_spelled}
use Rattle.assembler.proofs.laws.refusals_have_one_reason.Goals as goal

pub returns-clause-one_reason : goal.returns-clause-one_reason
returns-clause-one_reason c text = refusal_one (said_in text)

pub returns-clause-refused : goal.returns-clause-refused
returns-clause-refused c = refused_spelled
