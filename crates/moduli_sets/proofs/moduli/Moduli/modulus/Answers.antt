use Rattle.std.proofs.Common.{sym}
use Rattle.moduli_sets.proofs.SetLemmas.{modulus-of, IsModulus-of}
use Rattle.moduli_sets.proofs.moduli.Moduli.modulus.Goals as goal

pub returns : goal.returns
returns c = record {
  value = sym (modulus-of c.args.self.now c.args.i c.requires);
  modulus = IsModulus-of c.args.self.now c.args.i c.requires;
}
