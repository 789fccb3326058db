use Rattle.std.proofs.Common.{sym, subst}
use Rattle.number_theory.specs.Residue.{AreResidues}
use Rattle.moduli_sets.specs.Moduli.{set_of}
use Rattle.mixed_radix.proofs.SignLemmas.{AreResidues-vector_of}
use Rattle.residue_tests.proofs.digits.digits_and_value.Goals as goal

pub digits_of-digits-requires-clause-residues : goal.digits_of-digits-requires-clause-residues
digits_of-digits-requires-clause-residues c =
    let ms = (set_of c.args.set.now).moduli in
    subst (AreResidues ms) (sym c.residues_of.ensures) (AreResidues-vector_of ms _ c.rules.ensures.set.moduli)
