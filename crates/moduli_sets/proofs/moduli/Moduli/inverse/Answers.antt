use Rattle.moduli_sets.proofs.SetLemmas.{IsInverse-of, inverse_of-table}
use Rattle.moduli_sets.proofs.moduli.Moduli.inverse.Goals as goal

pub returns : goal.returns
returns c = record {
  inverse = IsInverse-of c.args.self.now c.args.s c.args.i c.requires.differ c.requires.s_in c.requires.i_in;
  value = inverse_of-table c.args.self.now c.args.s c.args.i c.requires.differ c.requires.s_in c.requires.i_in;
}
