use Rattle.moduli_sets.proofs.SetLemmas.{IsModuliSet-of, radius-of}
use Rattle.moduli_sets.proofs.moduli.Moduli.rules.Goals as goal

pub returns : goal.returns
returns c = record {
  set = IsModuliSet-of c.args.self.now;
  radius = radius-of c.args.self.now;
}
