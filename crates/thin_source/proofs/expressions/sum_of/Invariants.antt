use Rattle.std.proofs.Common.{◌≡◌, ℤ, IsSome, map, drop}
use Rattle.thin_source.specs.declared.interval.Interval.{Interval}
use Rattle.thin_source.specs.ThinView.{sign_view, product_view, sum_view, declaration_view}
use Rattle.thin_source.specs.ThinRules.{terms_interval}
use Rattle.thin_source.specs.ThinMeaning.{State, with_terms, sum_value}
use Rattle.thin_source.specs.ThinVectors.{pocket_vector}
use Rattle.thin_source.specs.ThinStates.{Holds}
use Rattle.thin_source.proofs.expressions.sum_of.Given as goal

-- the terms left fit, and with them the value so far is the sum's
abbrev pub invariant-loop-sign : goal.invariant-loop-sign
invariant-loop-sign l =
    let ds = map declaration_view l.declarations in
    let left = map (λ term. (sign_view term.0, product_view term.1)) (drop l.sign-index l.sum.more.items) in
    record {
      fits : (i : Interval) × IsSome (terms_interval ds i left);
      value : (state : State) → Holds ds l.variables state → (x : ℤ) × (l.value ≡ pocket_vector x) × (with_terms state x left ≡ sum_value state (sum_view l.sum));
    }
