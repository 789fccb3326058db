use Rattle.std.proofs.Common.{◌≡◌, ◌*◌, subst, arith}
use Rattle.moduli_sets.specs.Moduli.{set_of}
use Rattle.syndrome_table.specs.Filling.{IsFilled}
use Rattle.syndrome_table.proofs.FilledLemmas.{filled_permuted, next_first}
use Rattle.syndrome_table.proofs.VerdictLemmas.{count_is}
use Rattle.syndrome_table.proofs.pass.Pass.add_first.Goals as goal

pub loop-i-preserved : goal.loop-i-preserved
loop-i-preserved c = (c.in_ok-add_channel.ensures.filled, omega (arith, c.in_ok-add_channel.ensures.more, c.loop-i.invariant.1))

pub returns : goal.returns
returns c =
    let self = c.args.self.now in
    let set = set_of self.set in
    let first = c.args.first in
    let all = c.rules.ensures.set in
    let end : c.loop-i.i ≡ set.info = omega (arith, c.loop-i-test.false, c.loop-i.auto.i-end, c.info-i-end.ensures) in
    let filled = subst (λ i. IsFilled set self.cofactors c.loop-i.table.items first (2 * i)) end c.loop-i.invariant.0 in
    next_first set self.cofactors c.sort_from.new.table.items first (omega (arith, count_is set all c.rules.ensures.radius, all.at_most_twelve)) (filled_permuted set self.cofactors c.loop-i.table.items c.sort_from.new.table.items first (2 * set.info) c.sort_from.ensures filled)
