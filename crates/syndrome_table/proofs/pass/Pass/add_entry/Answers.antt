use Rattle.std.proofs.Common.{◌≡◌, ◌+◌, ◌*◌, List, if◌then◌else◌, sym, ap, subst, ◌∙◌, arith}
use Rattle.moduli_sets.specs.Moduli.{set_of}
use Rattle.syndrome_table.specs.declared.table.Entry.{Entry}
use Rattle.syndrome_table.specs.Entry.{signed, times_of}
use Rattle.syndrome_table.specs.Filling.{IsFilled, IsReal, first_of, turn_of}
use Rattle.syndrome_table.proofs.FilledLemmas.{push_entry, skip_turn}
use Rattle.syndrome_table.proofs.RealLemmas.{only_one, right_entry, turn_channel, turn_signed}
use Rattle.syndrome_table.proofs.BuildLemmas.{info_smaller, real_small}
use Rattle.syndrome_table.proofs.pass.Pass.add_entry.Goals as goal

pub entry_for-requires-clause-times : goal.entry_for-requires-clause-times
entry_for-requires-clause-times c =
    let self = c.args.self.now in
    let set = set_of self.set in
    let real = c.is_case.ensures.yes c.if-is_case.true in
    omega (arith, real_small set c.args.i c.args.times c.args.below real, info_smaller set c.args.i c.rules.ensures.set c.rules.ensures.radius c.requires.channel)

pub returns-in_ok-push-clause-filled : goal.returns-in_ok-push-clause-filled
returns-in_ok-push-clause-filled c =
    let self = c.args.self.now in
    let set = set_of self.set in
    let rules = c.rules.ensures.set in
    let i = c.args.i in
    let below = c.args.below in
    let times = signed c.args.times below in
    let real = c.is_case.ensures.yes c.if-is_case.true in
    let e = c.entry_for.result in
    let stride = self.strides_are i (record { second = 0; third = 0; inverse = 0 }) c.requires.channel in
    let wide = info_smaller set i rules c.rules.ensures.radius c.requires.channel in
    let times_is : times_of e ≡ times = ap (λ n. signed n e.below) c.entry_for.ensures.times ∙ ap (signed c.args.times) c.entry_for.ensures.below in
    let right = right_entry set self.cofactors e i times rules self.cofactors_are c.requires.channel real c.entry_for.ensures.channel times_is c.entry_for.ensures.triple in
    let turn = turn_signed set i c.args.times below real in
    let pushed = push_entry set self.cofactors c.args.table.now.items c.args.first (2 * i + (if below then 1 else 0)) i times e rules c.rules.ensures.radius self.cofactors_are c.requires.channel c.requires.filled right c.entry_for.ensures.channel times_is c.requires.first turn (λ s s_real at_first at_turn. only_one set i c.args.first c.args.times _ below s stride.inverse (omega (arith, wide)) c.requires.times s_real at_first at_turn c.requires.first) in
    subst (λ (ys : List Entry). IsFilled set self.cofactors ys c.args.first (2 * i + (if below then 1 else 0) + 1)) (sym c.in_ok-push.ensures.items) pushed

pub returns-else-is_case-clause-filled : goal.returns-else-is_case-clause-filled
returns-else-is_case-clause-filled c =
    let self = c.args.self.now in
    let set = set_of self.set in
    let rules = c.rules.ensures.set in
    let i = c.args.i in
    let below = c.args.below in
    let stride = self.strides_are i (record { second = 0; third = 0; inverse = 0 }) c.requires.channel in
    let wide = info_smaller set i rules c.rules.ensures.radius c.requires.channel in
    skip_turn set self.cofactors c.args.table.now.items c.args.first (2 * i + (if below then 1 else 0)) c.requires.filled (λ j s j_in real at_first at_turn.
    let j_is : j ≡ i = turn_channel j i s below at_turn in
    let here = subst (λ n. IsReal set n s) j_is real in
    let s_is = only_one set i c.args.first c.args.times _ below s stride.inverse (omega (arith, wide)) c.requires.times here (ap (λ n. first_of set n s) (sym j_is) ∙ at_first) (ap (λ n. turn_of n s) (sym j_is) ∙ at_turn) c.requires.first in
    c.is_case.ensures.no c.if-is_case.false (subst (IsReal set i) s_is here))
