-- Where an expression has an interval, its parts have one.
use Rattle.std.proofs.Common.{◌≡◌, ℕ, Option, Some, None, IsSome, List, ◌∷◌, refl}
use Rattle.std.specs.Option.{option_and_then}
use Rattle.thin_source.specs.declared.interval.Interval.{Interval}
use Rattle.thin_source.specs.Interval.{interval_product}
use Rattle.thin_source.specs.ThinTree.{Atom, name, Product, Sign, Sum, Declaration}
use Rattle.thin_source.specs.ThinRules.{fitting, range_of, atom_interval, factors_interval, product_interval, joined_interval, terms_interval, sum_interval}

IsSome-and_then : {A B : Type 0} (f : A → Option B) (o : Option A) → IsSome (option_and_then f o) → IsSome o × ((x : A) × IsSome (f x))
IsSome-and_then f None h = cc
IsSome-and_then f (Some x) h = (refl, (x, h))

pub IsSome-range_of : (ds : List Declaration) (atom : Atom) (x : List ℕ) → atom ≡ name x → IsSome (atom_interval ds atom) → IsSome (range_of ds x)
IsSome-range_of ds atom x e h = (IsSome-and_then fitting (range_of ds x) (rw e at h)).0

pub IsSome-product : (ds : List Declaration) (product : Product) → IsSome (product_interval ds product) → IsSome (atom_interval ds product.first) × ((i : Interval) × IsSome (factors_interval ds i product.more))
IsSome-product ds product h =
    IsSome-and_then (λ i. factors_interval ds i product.more) (atom_interval ds product.first) h

pub IsSome-factors : (ds : List Declaration) (i : Interval) (atom : Atom) (more : List Atom) → IsSome (factors_interval ds i (atom ∷ more)) → IsSome (atom_interval ds atom) × ((k : Interval) × IsSome (factors_interval ds k more))
IsSome-factors ds i atom more h =
    let rest = λ (k : Interval). factors_interval ds k more in
    let a = IsSome-and_then (λ j. option_and_then rest (fitting (interval_product i j))) (atom_interval ds atom) h in
    let b = IsSome-and_then rest (fitting (interval_product i a.1.0)) a.1.1 in
    (a.0, b.1)

pub IsSome-sum : (ds : List Declaration) (sum : Sum) → IsSome (sum_interval ds sum) → IsSome (product_interval ds sum.first) × ((i : Interval) × IsSome (terms_interval ds i sum.more))
IsSome-sum ds sum h =
    IsSome-and_then (λ i. terms_interval ds i sum.more) (product_interval ds sum.first) h

pub IsSome-terms : (ds : List Declaration) (i : Interval) (term : Sign × Product) (more : List (Sign × Product)) → IsSome (terms_interval ds i (term ∷ more)) → IsSome (product_interval ds term.1) × ((k : Interval) × IsSome (terms_interval ds k more))
IsSome-terms ds i term more h =
    let rest = λ (k : Interval). terms_interval ds k more in
    let a = IsSome-and_then (λ j. option_and_then rest (fitting (joined_interval term.0 i j))) (product_interval ds term.1) h in
    let b = IsSome-and_then rest (fitting (joined_interval term.0 i a.1.0)) a.1.1 in
    (a.0, b.1)
