use Rattle.std.proofs.Common.{◌≡◌, map, drop}
use Rattle.thin_source.specs.ThinRules as rules
use Rattle.thin_source.specs.ThinView.{declaration_view}
use Rattle.thin_source.proofs.rules.range_of.Given as goal

-- the name is not declared before
abbrev pub invariant-loop-declaration : goal.invariant-loop-declaration
invariant-loop-declaration l = rules.range_of (map declaration_view (drop l.declaration-index l.declarations)) l.name ≡ rules.range_of (map declaration_view l.declarations) l.name
