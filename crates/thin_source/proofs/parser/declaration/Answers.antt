use Rattle.std.proofs.Common.{rules}
use Rattle.std.specs.Int.{w128}
use Rattle.std.proofs.lemmas.Int.{to_z-of_z}
use mir.Val.{SFits}
use Rattle.thin_source.proofs.ThinDeclarations.{declaration_parts, declaration_of, declaration_made, behind_var, behind_name, behind_colon, behind_low, behind_dots}
use Rattle.thin_source.proofs.parser.declaration.Goals as goal

pub returns-in_err-low : goal.returns-in_err-low
returns-in_err-low c =
    let text = c.args.text.now in
    let e1 = c.in_ok-rest.ensures text c.requires in
    let e2 = c.in_ok-name.ensures in
    let e3 = c.in_ok-rest-2.ensures text e2.1 in
    rw c.from_residual-in_err-low.ensures
    (λ d r h. let low = behind_colon d _ _ r e3.0 (behind_name d _ _ _ r e2.0 (behind_var d _ _ r e1.0 (declaration_parts d _ r h))) in
    c.in_err-low.ensures d.low low.0 low.1)

pub returns-in_err-high : goal.returns-in_err-high
returns-in_err-high c =
    let text = c.args.text.now in
    let e1 = c.in_ok-rest.ensures text c.requires in
    let e2 = c.in_ok-name.ensures in
    let e3 = c.in_ok-rest-2.ensures text e2.1 in
    let e4 = c.in_ok-low.ensures in
    let e5 = c.in_ok-rest-3.ensures text e4.1 in
    rw c.from_residual-in_err-high.ensures
    (λ d r h. let low = behind_colon d _ _ r e3.0 (behind_name d _ _ _ r e2.0 (behind_var d _ _ r e1.0 (declaration_parts d _ r h))) in
    c.in_err-high.ensures d.high _ (behind_dots d _ _ r e5.0 (behind_low d _ _ _ r e4.0 low)))

pub returns : goal.returns
returns c =
    let text = c.args.text.now in
    let e1 = c.in_ok-rest.ensures text c.requires in
    let e2 = c.in_ok-name.ensures in
    let e3 = c.in_ok-rest-2.ensures text e2.1 in
    let e4 = c.in_ok-low.ensures in
    let e5 = c.in_ok-rest-3.ensures text e4.1 in
    let e6 = c.in_ok-high.ensures in
    let e7 = c.in_ok-rest-4.ensures text e6.1 in
    let low_fits : SFits w128 c.in_ok-low.low = search rules in
    let high_fits : SFits w128 c.in_ok-high.high = search rules in
    let made = declaration_made (declaration_of c.in_ok-name.name.now c.in_ok-low.low c.in_ok-high.high) _ _ (_, e1.0, (_, e2.0, (_, e3.0, (_, e4.0, (_, e5.0, rw e7.0 at e6.0))))) in
    (rw (to_z-of_z w128 c.in_ok-low.low low_fits, to_z-of_z w128 c.in_ok-high.high high_fits) made, e7.1)
