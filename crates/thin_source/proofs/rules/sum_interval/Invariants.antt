use Rattle.std.proofs.Common.{◌≡◌, true, map, drop}
use Rattle.thin_source.specs.Interval.{is_within}
use Rattle.thin_source.specs.ThinRules as rules
use Rattle.thin_source.specs.ThinView.{sign_view, product_view, sum_view, declaration_view}
use Rattle.thin_source.proofs.rules.sum_interval.Given as goal

-- the interval so far goes on with the terms that are left as the whole sum's does
abbrev pub invariant-loop-sign : goal.invariant-loop-sign
invariant-loop-sign l = record {
  fits : is_within l.interval rules.pocket_range ≡ true;
  rest : rules.terms_interval (map declaration_view l.declarations) l.interval (map (λ term. (sign_view term.0, product_view term.1)) (drop l.sign-index l.sum.more.items)) ≡ rules.sum_interval (map declaration_view l.declarations) (sum_view l.sum);
}
