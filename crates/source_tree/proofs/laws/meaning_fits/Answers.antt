use Rattle.source_tree.specs.Expression.{evaluation}
use Rattle.source_tree.specs.Fits.{declared_by}
use Rattle.source_tree.proofs.FitsStatements.{evaluation_keeps}
use Rattle.source_tree.proofs.FitsPrograms as programs
use Rattle.source_tree.proofs.laws.meaning_fits.Goals as goal

pub returns : goal.returns
returns c = λ program input ranges. (
  programs.start_fits program input ranges,
  programs.meaning_fits program input ranges evaluation (evaluation_keeps (declared_by program)),
)
