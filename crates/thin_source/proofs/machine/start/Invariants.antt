use Rattle.std.proofs.Common.{◌≡◌, true, map, take, drop}
use Rattle.std.specs.List.{list_all}
use Rattle.thin_source.specs.ThinView.{declaration_view}
use Rattle.thin_source.specs.ThinRules.{is_range}
use Rattle.thin_source.specs.ThinMeaning.{start_of}
use Rattle.thin_source.specs.ThinVectors.{vectors_of}
use Rattle.thin_source.proofs.machine.start.Given as goal

abbrev pub invariant-loop-declaration : goal.invariant-loop-declaration
invariant-loop-declaration l =
    let ds = l.program.declarations.items in
    record {
      made : l.variables.items ≡ vectors_of (start_of (map declaration_view (take l.declaration-index ds)));
      left : list_all is_range (map declaration_view (drop l.declaration-index ds)) ≡ true;
    }
