use Rattle.std.proofs.Common.{◌<◌, ◌^◌, List, length, sym, subst}
use Rattle.syndrome_table.specs.declared.table.Entry.{Entry}
use Rattle.syndrome_table.specs.Table.{Ascends}
use Rattle.syndrome_table.proofs.ShiftLemmas.{few_steps}
use Rattle.syndrome_table.proofs.syndromes.Syndromes.entry_of.Goals as goal

pub place_of-requires : goal.place_of-requires
place_of-requires g c = subst Ascends (sym c.as_slice.ensures.value) c.args.self.now.ascends

pub returns-in-Some-clause-cost : goal.returns-in-Some-clause-cost
returns-in-Some-clause-cost g c =
    few_steps c.args.steps.now c.place_of.new.steps (length c.as_slice.result.now) c.in-Some.ensures.cost (subst (λ (xs : List Entry). length xs < 2 ^ 21) (sym c.as_slice.ensures.value) c.args.self.now.small) c.in-Some.ensures.more

pub returns-in-None-clause-cost : goal.returns-in-None-clause-cost
returns-in-None-clause-cost g c =
    few_steps c.args.steps.now c.place_of.new.steps (length c.as_slice.result.now) c.in-None.ensures.cost (subst (λ (xs : List Entry). length xs < 2 ^ 21) (sym c.as_slice.ensures.value) c.args.self.now.small) c.in-None.ensures.more
