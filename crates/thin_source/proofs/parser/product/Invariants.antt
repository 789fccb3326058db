use Rattle.std.proofs.Common.{◌≡◌, ◌++◌, map, length}
use Rattle.std.specs.List.{All}
use Rattle.thin_source.specs.ThinGrammar.{IsTokenOf, symbols_of, product_symbols}
use Rattle.thin_source.specs.ThinView.{atom_view}
use Rattle.thin_source.proofs.ThinOnce.{product_of}
use Rattle.thin_source.proofs.parser.product.Given as goal

abbrev pub invariant-loop-behind : goal.invariant-loop-behind
invariant-loop-behind l =
    (symbols_of l.text l.tokens ≡ product_symbols (product_of (atom_view l.first) (map atom_view l.more.items)) ++ symbols_of l.text l.rest)
    × All (IsTokenOf l.text) l.rest

abbrev pub decreases-loop-behind : goal.decreases-loop-behind
decreases-loop-behind l = length l.rest
