use Rattle.std.proofs.Common.{map, length}
use Rattle.std.specs.List.{All}
use Rattle.thin_source.specs.ThinGrammar.{IsTokenOf, symbols_of}
use Rattle.thin_source.specs.ThinView.{declaration_view}
use Rattle.thin_source.proofs.ThinDeclarations.{SoFar}
use Rattle.thin_source.proofs.parser.declarations.Given as goal

abbrev pub invariant-loop-rest : goal.invariant-loop-rest
invariant-loop-rest l = record {
  so_far : SoFar (map declaration_view l.found.items) (symbols_of l.text l.tokens) (symbols_of l.text l.rest);
  each : All (IsTokenOf l.text) l.rest;
}

abbrev pub decreases-loop-rest : goal.decreases-loop-rest
decreases-loop-rest l = length l.rest
