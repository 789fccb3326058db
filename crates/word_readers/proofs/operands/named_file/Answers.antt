use Rattle.word_readers.proofs.FileNames.{IsFileWord-whole_word}
use Rattle.word_readers.proofs.operands.named_file.Goals as goal

pub returns-clause-within : goal.returns-clause-within
returns-clause-within c = IsFileWord-whole_word c.args.words.now c.args.word c.requires
