use Rattle.std.proofs.Common.{◌+◌, length, ap, ◌∙◌, arith}
use Rattle.moduli_sets.specs.Moduli.{set_of}
use Rattle.lane_bank.proofs.BankLemmas.{length-lanes_at_start}
use Rattle.lane_bank.proofs.banks.ConsBank.make.Goals as goal

pub invariant_of-result : goal.invariant_of-result
invariant_of-result g c =
    let count = ap length c.in_ok-make-2.ensures ∙ length-lanes_at_start (set_of c.args.set.now) (c.args.first + 1) c.args.start.now in
    record { few = omega (arith, count, c.rules.ensures.set.at_most_twelve) }
