use Rattle.std.proofs.Common.{◌≡◌, ◌++◌, map, length}
use Rattle.std.specs.List.{All, flat_map}
use Rattle.thin_source.specs.ThinGrammar.{IsTokenOf, symbols_of, statement_symbols}
use Rattle.thin_source.specs.ThinView.{statement_view}
use Rattle.thin_source.proofs.parser.statements.Given as goal

abbrev pub invariant-loop-rest : goal.invariant-loop-rest
invariant-loop-rest l = record {
  so_far : symbols_of l.text l.tokens ≡ flat_map statement_symbols (map statement_view l.found.items) ++ symbols_of l.text l.rest;
  each : All (IsTokenOf l.text) l.rest;
}

abbrev pub decreases-loop-rest : goal.decreases-loop-rest
decreases-loop-rest l = length l.rest
