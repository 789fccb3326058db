use Rattle.std.proofs.Common.{ap, take}
use Rattle.assembler.specs.Readers.{words_after}
use Rattle.assembler.proofs.words.Words.of.Goals as goal

pub returns : goal.returns
returns c = ap (λ n. words_after 0 (take n c.args.line.now)) c.comment_start.ensures.count
