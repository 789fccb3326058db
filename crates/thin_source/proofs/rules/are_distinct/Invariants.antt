use Rattle.std.proofs.Common.{◌≡◌, map, length}
use Rattle.thin_source.specs.ThinRules as rules
use Rattle.thin_source.specs.ThinView.{declaration_view}
use Rattle.thin_source.proofs.rules.are_distinct.Given as goal

abbrev pub invariant-loop-rest : goal.invariant-loop-rest
invariant-loop-rest l = rules.are_distinct (map declaration_view l.rest) ≡ rules.are_distinct (map declaration_view l.declarations)

abbrev pub decreases-loop-rest : goal.decreases-loop-rest
decreases-loop-rest l = length l.rest
