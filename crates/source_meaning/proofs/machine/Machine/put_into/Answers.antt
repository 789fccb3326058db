use Rattle.std.proofs.Common.{rules, sym, ◌∙◌}
use Rattle.std.proofs.lemmas.Int.{to_z-of_z}
use mir.Syntax.{w128}
use mir.Val.{SFits}
use Rattle.source_meaning.proofs.Following.{err_computes}
use Rattle.source_meaning.proofs.PlaceForms.{place_index_stops, element_put}
use Rattle.source_meaning.proofs.machine.Machine.put_into.Goals as goal

pub returns-in_err-at-in-Element : goal.returns-in_err-at-in-Element
returns-in_err-at-in-Element c =
    let fits : SFits w128 c.args.value = c.ranges.value in
    let within = simp to_z-of_z at c.is_in_range-in-Element.ensures in
    err_computes _ _ _ _ _ c.from_residual.ensures
    (place_index_stops c.args.target.now c.args.value c.args.kind c.args.line c.args.index_line c.args.self.now c.in-Element.slot c.in-Element.index c.in-Element.line c.in-Element.is _ _
    (sym within ∙ c.if-is_in_range-2.true) c.in_err-at-in-Element.ensures.does)

pub returns-in_ok-at-in-Element : goal.returns-in_ok-at-in-Element
returns-in_ok-at-in-Element c =
    let fits : SFits w128 c.args.value = c.ranges.value in
    let fits' : SFits w128 c.in_ok-at-in-Element.at = search rules in
    let within = simp to_z-of_z at c.is_in_range-in-Element.ensures in
    element_put c.args.target.now c.args.value c.args.kind c.args.line c.args.index_line c.args.self.now c.in-Element.slot c.in-Element.index c.in-Element.line c.in-Element.is _ _ _ _
    (sym within ∙ c.if-is_in_range-2.true) c.in_ok-at-in-Element.ensures.does (simp to_z-of_z at c.put_in_element.ensures)
