use Rattle.std.proofs.Common.{Some, None}
use Rattle.range_inference.proofs.TableLemmas.{range_is}
use Rattle.range_inference.proofs.ranges.range_of.Goals as goal

pub returns-in-Some : goal.returns-in-Some
returns-in-Some c = range_is c.args.table.now c.args.name.now (Some c.in-Some.range.now) c.in-Some.ensures

pub returns-in-None : goal.returns-in-None
returns-in-None c = range_is c.args.table.now c.args.name.now None c.in-None.ensures
