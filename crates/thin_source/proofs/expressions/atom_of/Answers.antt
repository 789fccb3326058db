use Rattle.std.proofs.Common.{◌<◌, ◌∙◌, sym, ap, map, length, get_or, rules}
use Rattle.thin_source.specs.ThinView.{atom_view, declaration_view}
use Rattle.thin_source.specs.ThinVectors.{pocket_vector}
use Rattle.thin_source.specs.ThinMeaning.{atom_value}
use Rattle.thin_source.proofs.ThinParts.{IsSome-range_of}
use Rattle.thin_source.proofs.ThinPlaces.{Holds-below, Holds-place}
use Rattle.thin_source.proofs.expressions.atom_of.Goals as goal

pub bounds-variables-place_of : goal.bounds-variables-place_of
bounds-variables-place_of c =
    let ds = map declaration_view c.args.declarations.now in
    let x = c.in-Name.name.now in
    let found = IsSome-range_of ds (atom_view c.args.atom.now) x (ap atom_view c.in-Name.is) c.requires.fits in
    rw c.place_of.ensures (Holds-below ds c.args.variables.now c.requires.held.0 x c.requires.held.1 found)

pub offset_bounds-variables-place_of : goal.offset_bounds-variables-place_of
offset_bounds-variables-place_of c =
    let ds = map declaration_view c.args.declarations.now in
    let x = c.in-Name.name.now in
    let found = IsSome-range_of ds (atom_view c.args.atom.now) x (ap atom_view c.in-Name.is) c.requires.fits in
    let below : c.place_of.result < length c.args.variables.now = rw c.place_of.ensures (Holds-below ds c.args.variables.now c.requires.held.0 x c.requires.held.1 found) in
    search rules

pub returns-in-Name : goal.returns-in-Name
returns-in-Name c = λ state held.
    let ds = map declaration_view c.args.declarations.now in
    let variables = c.args.variables.now in
    let x = c.in-Name.name.now in
    let found = IsSome-range_of ds (atom_view c.args.atom.now) x (ap atom_view c.in-Name.is) c.requires.fits in
    let other = c.index-variables-place_of.result in
    let place = Holds-place ds variables state x other held found in
    c.copy_of.ensures ∙ c.index-variables-place_of.is ∙ ap (λ n. get_or variables n other) c.place_of.ensures ∙ place ∙ ap (λ atom. pocket_vector (atom_value state (atom_view atom))) (sym c.in-Name.is)
