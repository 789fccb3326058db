use Rattle.assembler.proofs.ProgramLemmas.{spells_one}
use Rattle.assembler.proofs.laws.texts_spell_one_program.Goals as goal

pub returns : goal.returns
returns c = spells_one
