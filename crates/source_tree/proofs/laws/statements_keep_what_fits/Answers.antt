use Rattle.source_tree.specs.Expression.{evaluation}
use Rattle.source_tree.proofs.FitsStatements.{evaluation_keeps, execution_keeps}
use Rattle.source_tree.proofs.laws.statements_keep_what_fits.Goals as goal

pub returns : goal.returns
returns c = λ declared. execution_keeps declared evaluation (evaluation_keeps declared)
