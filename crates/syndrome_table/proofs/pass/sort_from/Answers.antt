use Rattle.std.proofs.Common.{rules}
use Rattle.syndrome_table.proofs.BuildLemmas.{sorted_end}
use Rattle.syndrome_table.proofs.pass.sort_from.Goals as goal

pub returns : goal.returns
returns c = sorted_end c.args.table.now.items c.deref_mut.result.now c.sort_unstable_by_key.new.self c.args.from c.args.table.now.len c.deref_mut.ensures.value c.requires (search rules) c.sort_unstable_by_key.ensures.permutation
