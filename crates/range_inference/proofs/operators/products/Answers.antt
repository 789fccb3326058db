use Rattle.std.proofs.Common.{rules, FitsSigned}
use Rattle.std.specs.Int.{w128}
use Rattle.range_inference.proofs.Corners.{corners_fit, corner_refused, product_is, same_corners}
use Rattle.range_inference.proofs.operators.products.Goals as goal

pub returns-in_err-low_low-clause-none : goal.returns-in_err-low_low-clause-none
returns-in_err-low_low-clause-none c =
    let a = c.args.a in
    let b = c.args.b in
    corner_refused a.low b.low _ _ (search rules) (search rules) c.from_residual.ensures c.in_err-low_low.ensures (λ f. (corners_fit a.low a.high b.low b.high f).0)

pub returns-in_err-low_high-clause-none : goal.returns-in_err-low_high-clause-none
returns-in_err-low_high-clause-none c =
    let a = c.args.a in
    let b = c.args.b in
    corner_refused a.low b.high _ _ (search rules) (search rules) c.from_residual-in_err-low_high.ensures c.in_err-low_high.ensures (λ f. (corners_fit a.low a.high b.low b.high f).1)

pub returns-in_err-high_low-clause-none : goal.returns-in_err-high_low-clause-none
returns-in_err-high_low-clause-none c =
    let a = c.args.a in
    let b = c.args.b in
    corner_refused a.high b.low _ _ (search rules) (search rules) c.from_residual-in_err-high_low.ensures c.in_err-high_low.ensures (λ f. (corners_fit a.low a.high b.low b.high f).2)

pub returns-in_err-high_high-clause-none : goal.returns-in_err-high_high-clause-none
returns-in_err-high_high-clause-none c =
    let a = c.args.a in
    let b = c.args.b in
    corner_refused a.high b.high _ _ (search rules) (search rules) c.from_residual-in_err-high_high.ensures c.in_err-high_high.ensures (λ f. (corners_fit a.low a.high b.low b.high f).3)

pub returns-clause-value : goal.returns-clause-value
returns-clause-value c =
    let al : FitsSigned w128 c.args.a.low = search rules in
    let ah : FitsSigned w128 c.args.a.high = search rules in
    let bl : FitsSigned w128 c.args.b.low = search rules in
    let bh : FitsSigned w128 c.args.b.high = search rules in
    same_corners c.args.a.low c.args.a.high c.args.b.low c.args.b.high _ _ _ _ c.between.result c.between-2.result c.joined.result
    c.between.ensures c.between-2.ensures c.joined.ensures
    (product_is c.in_ok-low_low.low_low c.args.a.low c.args.b.low al bl c.in_ok-low_low.ensures)
    (product_is c.in_ok-low_high.low_high c.args.a.low c.args.b.high al bh c.in_ok-low_high.ensures)
    (product_is c.in_ok-high_low.high_low c.args.a.high c.args.b.low ah bl c.in_ok-high_low.ensures)
    (product_is c.in_ok-high_high.high_high c.args.a.high c.args.b.high ah bh c.in_ok-high_high.ensures)
