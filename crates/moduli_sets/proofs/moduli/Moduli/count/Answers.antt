use Rattle.std.proofs.Common.{sym}
use Rattle.moduli_sets.proofs.SetLemmas.{count-of}
use Rattle.moduli_sets.proofs.moduli.Moduli.count.Goals as goal

pub returns : goal.returns
returns c = sym (count-of c.args.self.now)
