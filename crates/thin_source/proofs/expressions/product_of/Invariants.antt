use Rattle.std.proofs.Common.{◌≡◌, ℤ, IsSome, map, drop}
use Rattle.thin_source.specs.declared.interval.Interval.{Interval}
use Rattle.thin_source.specs.ThinView.{atom_view, product_view, declaration_view}
use Rattle.thin_source.specs.ThinRules.{factors_interval}
use Rattle.thin_source.specs.ThinMeaning.{State, times_factors, product_value}
use Rattle.thin_source.specs.ThinVectors.{pocket_vector}
use Rattle.thin_source.specs.ThinStates.{Holds}
use Rattle.thin_source.proofs.expressions.product_of.Given as goal

-- the factors left fit, and times them the value so far is the product's
abbrev pub invariant-loop-atom : goal.invariant-loop-atom
invariant-loop-atom l =
    let ds = map declaration_view l.declarations in
    let left = map atom_view (drop l.atom-index l.product.more.items) in
    record {
      fits : (i : Interval) × IsSome (factors_interval ds i left);
      value : (state : State) → Holds ds l.variables state → (x : ℤ) × (l.value ≡ pocket_vector x) × (times_factors state x left ≡ product_value state (product_view l.product));
    }
