use Rattle.std.proofs.Common.{◌+◌, map, drop, IsSome, refl, sym, ap, subst, ◌∙◌}
use Rattle.thin_source.specs.declared.tree.Product.{Product}
use Rattle.thin_source.specs.declared.tree.Sign.{Sign}
use Rattle.thin_source.specs.ThinTree as tree
use Rattle.thin_source.specs.ThinView.{sign_view, product_view, sum_view, declaration_view}
use Rattle.thin_source.specs.ThinRules.{terms_interval}
use Rattle.thin_source.specs.ThinMeaning.{with_terms, joined, product_value}
use Rattle.thin_source.proofs.ThinParts.{IsSome-sum, IsSome-terms}
use Rattle.thin_source.proofs.ThinLoops.{map-drop-step}
use Rattle.thin_source.proofs.expressions.sum_of.Goals as goal

pub loop-sign-init : goal.loop-sign-init
loop-sign-init c =
    let ds = map declaration_view c.args.declarations.now in
    record {
      fits = (IsSome-sum ds (sum_view c.args.sum.now) c.requires.fits).1;
      value = λ state held. (product_value state (product_view c.args.sum.now.first), c.product_of-value.ensures state held, refl);
    }

pub loop-sign-preserved : goal.loop-sign-preserved
loop-sign-preserved c =
    let ds = map declaration_view c.args.declarations.now in
    let view : Sign × Product → tree.Sign × tree.Product = λ term. (sign_view term.0, product_view term.1) in
    let terms = c.args.sum.now.more.items in
    let at = c.loop-sign.sign-index in
    let term = c.loop-sign-item.result in
    let before = c.loop-sign.invariant in
    let step = map-drop-step view terms c.deref-sign-items.result.now at term c.deref-sign-items.ensures.value c.loop-sign-test.true c.loop-sign-item.is in
    record {
      fits = (IsSome-terms ds before.fits.0 (view term) (map view (drop (at + 1) terms)) (subst (λ left. IsSome (terms_interval ds before.fits.0 left)) step before.fits.1)).1;
      value = λ state held.
          let so_far = before.value state held in
          let next = product_value state (product_view term.1) in
          (joined (sign_view term.0) so_far.0 next, c.joined-value.ensures so_far.0 next so_far.1 (c.product_of.ensures state held), ap (with_terms state so_far.0) (sym step) ∙ so_far.2);
    }
