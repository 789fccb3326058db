use Rattle.name_check.proofs.SymbolLemmas.{declares}
use Rattle.name_check.proofs.symbols.Symbols.declare.Goals as goal

pub returns : goal.returns
returns c = declares c.declare.result c.self.inside.table c.declare.new.self c.args.self.now c.args.name.now c.args.symbol c.self.view_is c.requires c.declare.ensures
