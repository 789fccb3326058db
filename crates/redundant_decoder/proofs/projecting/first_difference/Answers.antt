use Rattle.std.proofs.Common.{arith}
use Rattle.moduli_sets.specs.Moduli.{set_of}
use Rattle.mixed_radix.proofs.DigitLemmas.{length-residues}
use Rattle.redundant_decoder.proofs.projecting.first_difference.Goals as goal

pub at-requires : goal.at-requires
at-requires c = omega (arith, length-residues (set_of c.args.set.now).moduli c.args.v.now c.requires.residues)
