use Rattle.std.proofs.Common.{length, sym, subst, arith}
use Rattle.number_theory.specs.Residue.{AreResidues}
use Rattle.moduli_sets.specs.Moduli.{set_of}
use Rattle.mixed_radix.specs.Chosen.{AreBelow}
use Rattle.mixed_radix.proofs.ChosenLemmas.{AreBelow-range}
use Rattle.mixed_radix.proofs.SignLemmas.{AreResidues-vector_of}
use Rattle.residue_tests.proofs.extension.extended_residue.Goals as goal

pub digits_of-requires-clause-residues : goal.digits_of-requires-clause-residues
digits_of-requires-clause-residues c =
    let ms = (set_of c.args.set.now).moduli in
    subst (AreResidues ms) (sym c.residues_of.ensures) (AreResidues-vector_of ms _ c.rules.ensures.set.moduli)

pub digits_of-requires-clause-channels : goal.digits_of-requires-clause-channels
digits_of-requires-clause-channels c =
    let count = length (set_of c.args.set.now).moduli in
    subst (AreBelow count) (sym c.all-which.ensures) (AreBelow-range count count (omega arith))

pub extend-requires-clause-channels : goal.extend-requires-clause-channels
extend-requires-clause-channels c =
    let count = length (set_of c.args.set.now).moduli in
    subst (AreBelow count) (sym c.all-which.ensures) (AreBelow-range count count (omega arith))
