use Rattle.std.proofs.Common.{pos, get_or, refl, rules}
use Rattle.std.proofs.lemmas.Int.{to_z-of_z}
use mir.Syntax.{w128}
use mir.Val.{SFits}
use Rattle.source_meaning.proofs.ListPlaces.{front_is}
use Rattle.source_meaning.proofs.PlaceForms.{read_goes}
use Rattle.source_meaning.proofs.machine.Machine.read_into.Goals as goal

pub returns-in-len1-up : goal.returns-in-len1-up
returns-in-len1-up c =
    let fits : SFits w128 (get_or c.args.self.now.input.now 0 (pos 0)) = search rules in
    read_goes c.args.target.now c.args.line c.line_of.result c.args.self.now _ _ _ _ _ (simp to_z-of_z at c.put_into.ensures)
    (front_is c.args.self.now.input.now c.in-len1-up.len_at_least) c.line_of.ensures refl refl refl refl
