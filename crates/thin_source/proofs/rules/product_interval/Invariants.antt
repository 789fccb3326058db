use Rattle.std.proofs.Common.{◌≡◌, true, map, drop}
use Rattle.thin_source.specs.Interval.{is_within}
use Rattle.thin_source.specs.ThinRules as rules
use Rattle.thin_source.specs.ThinView.{atom_view, product_view, declaration_view}
use Rattle.thin_source.proofs.rules.product_interval.Given as goal

-- the interval so far goes on with the factors that are left as the whole product's does
abbrev pub invariant-loop-atom : goal.invariant-loop-atom
invariant-loop-atom l = record {
  fits : is_within l.interval rules.pocket_range ≡ true;
  rest : rules.factors_interval (map declaration_view l.declarations) l.interval (map atom_view (drop l.atom-index l.product.more.items)) ≡ rules.product_interval (map declaration_view l.declarations) (product_view l.product);
}
