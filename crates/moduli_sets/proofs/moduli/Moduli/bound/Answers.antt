use Rattle.std.proofs.Common.{◌∙◌, rules}
use Rattle.std.specs.Int.{w128}
use Rattle.std.specs.Int.RustNames.{FitsSigned}
use Rattle.std.proofs.lemmas.Int.{to_z-of_z}
use Rattle.moduli_sets.proofs.SetLemmas.{bound-of}
use Rattle.moduli_sets.proofs.moduli.Moduli.bound.Goals as goal

pub returns : goal.returns
returns c =
    let value = c.args.self.now in
    let fits : FitsSigned w128 value.bound = search rules in
    to_z-of_z w128 value.bound fits ∙ bound-of value
