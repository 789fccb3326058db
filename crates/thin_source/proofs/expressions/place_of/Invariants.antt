use Rattle.std.proofs.Common.{◌≡◌, ◌+◌, IsSome, map, drop}
use Rattle.thin_source.specs.ThinView.{declaration_view}
use Rattle.thin_source.specs.ThinRules.{range_of}
use Rattle.thin_source.specs.ThinStates.{place_in}
use Rattle.thin_source.proofs.expressions.place_of.Given as goal

-- the name is declared in what is left, and its place there is the place among all
abbrev pub invariant-loop-i : goal.invariant-loop-i
invariant-loop-i l =
    let all = map declaration_view l.declarations in
    let left = map declaration_view (drop l.i l.declarations) in
    record {
      place : place_in all l.name ≡ l.i + place_in left l.name;
      declared : IsSome (range_of left l.name);
    }
