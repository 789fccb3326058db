use Rattle.std.proofs.Common.{◌≡◌, All, [], sym, ap, ◌∙◌, subst}
use Rattle.moduli_sets.specs.Name.{set_of_name}
use Rattle.lane_bank.specs.Bank.{lanes_at_start}
use Rattle.lane_bank.proofs.BankLemmas.{fresh-lanes_at_start}
use Rattle.channel_tests.proofs.racks.shows.Goals as goal

pub make-rack-requires : goal.make-rack-requires
make-rack-requires g c =
    let lanes = c.in_ok-bank.ensures ∙ ap (λ set. lanes_at_start set 0 []) c.of.ensures in
    subst (All (λ lane. lane.answers ≡ 0)) (sym lanes) (fresh-lanes_at_start (set_of_name c.args.name) 0 [])
