use Rattle.moduli_sets.specs.Moduli.{set_of}
use Rattle.moduli_sets.proofs.SetLemmas.{IsModuliSet-of}
use Rattle.moduli_sets.proofs.VectorLemmas.{same_from_information, same_from_vectors}
use Rattle.moduli_sets.proofs.moduli.Moduli.tells_apart.Goals as goal

pub returns : goal.returns
returns c =
    let value = c.args.self.now in
    record {
      information = λ x y. same_from_information (set_of value) x y (IsModuliSet-of value);
      all = λ x y. same_from_vectors (set_of value) x y (IsModuliSet-of value);
    }
