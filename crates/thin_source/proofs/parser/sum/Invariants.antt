use Rattle.std.proofs.Common.{◌≡◌, ◌++◌, map, length}
use Rattle.std.specs.List.{All}
use Rattle.source_lexer.specs.declared.token.TokenKind.TheVariants.{Star}
use Rattle.thin_source.specs.ThinGrammar.{IsTokenOf, symbols_of, sum_symbols}
use Rattle.thin_source.specs.ThinView.{product_view, term_view}
use Rattle.thin_source.specs.ThinFronts.{NotMark}
use Rattle.thin_source.proofs.ThinOnce.{sum_of}
use Rattle.thin_source.proofs.parser.sum.Given as goal

abbrev pub invariant-loop-sign : goal.invariant-loop-sign
invariant-loop-sign l = record {
  so_far : symbols_of l.text l.tokens ≡ sum_symbols (sum_of (product_view l.first) (map term_view l.more.items)) ++ symbols_of l.text l.rest;
  stops : NotMark Star (symbols_of l.text l.rest);
  each : All (IsTokenOf l.text) l.rest;
}

abbrev pub decreases-loop-sign : goal.decreases-loop-sign
decreases-loop-sign l = length l.rest
