use Rattle.std.proofs.Common.{◌≡◌, ◌≢◌, ◌+◌, ◌-◌, ◌/◌, ◌<◌, ◌≤◌, length, get_or, ap, subst, ◌∙◌, arith, inl, inr}
use Rattle.std.proofs.lemmas.Bool.{cases_lt}
use Rattle.std.proofs.lemmas.List.{get_or_default}
use Rattle.syndrome_table.specs.declared.table.Entry.{Entry}
use Rattle.syndrome_table.specs.Entry.{entry_key}
use Rattle.syndrome_table.proofs.SearchLemmas.{halved, once_more, below_mid, above_mid}
use Rattle.syndrome_table.proofs.table.place_of.Goals as goal

pub loop-low-preserved-then-key : goal.loop-low-preserved-then-key
loop-low-preserved-then-key g c =
    let inv = c.loop-low.invariant in
    let low = c.loop-low.low in
    let high = c.loop-low.high in
    let mid = low + (high - low) / 2 in
    let mid_in : mid < length c.args.table.now = omega arith in
    let at : (d : Entry) → entry_key (get_or c.args.table.now mid d) < c.args.key = λ d. subst (λ (e : Entry). entry_key e < c.args.key) (get_or_default c.args.table.now mid _ d mid_in) (subst (λ n. n < c.args.key) c.key.ensures c.if-key.true) in
    let t = c.loop-low.steps - c.args.steps.now in
    let u = c.tick.new.self - c.args.steps.now in
    let cost = halved t u (high - low) (high - (mid + 1)) (length c.args.table.now) (omega arith) (omega arith) (omega arith) inv.5 in
    (omega arith, omega arith, below_mid c.args.table.now c.args.key mid c.requires mid_in at, inv.3, omega arith, cost.0, cost.1)

pub loop-low-preserved : goal.loop-low-preserved
loop-low-preserved g c =
    let inv = c.loop-low.invariant in
    let low = c.loop-low.low in
    let high = c.loop-low.high in
    let mid = low + (high - low) / 2 in
    let mid_in : mid < length c.args.table.now = omega arith in
    let at : (d : Entry) → c.args.key ≤ entry_key (get_or c.args.table.now mid d) = λ d. subst (λ (e : Entry). c.args.key ≤ entry_key e) (get_or_default c.args.table.now mid _ d mid_in) (subst (λ n. c.args.key ≤ n) c.key.ensures c.if-key.false) in
    let t = c.loop-low.steps - c.args.steps.now in
    let u = c.tick.new.self - c.args.steps.now in
    let cost = halved t u (high - low) (mid - low) (length c.args.table.now) (omega arith) (omega arith) (omega arith) inv.5 in
    (omega arith, omega arith, inv.2, above_mid c.args.table.now c.args.key mid c.requires at, omega arith, cost.0, cost.1)

pub returns-then-key-2-clause-cost : goal.returns-then-key-2-clause-cost
returns-then-key-2-clause-cost g c =
    once_more (c.loop-low.steps - c.args.steps.now) (c.tick-then-low-table.new.self - c.args.steps.now) (length c.args.table.now) (omega arith) c.loop-low.invariant.6

pub returns-else-key-2-clause-cost : goal.returns-else-key-2-clause-cost
returns-else-key-2-clause-cost g c =
    once_more (c.loop-low.steps - c.args.steps.now) (c.tick-then-low-table.new.self - c.args.steps.now) (length c.args.table.now) (omega arith) c.loop-low.invariant.6

pub returns-else-key-2-clause-none : goal.returns-else-key-2-clause-none
returns-else-key-2-clause-none g c = λ i d h is.
    let inv = c.loop-low.invariant in
    let low = c.loop-low.low in
    elim (cases_lt i low) [
      | inl below ↦ omega (arith, inv.2 i d below, is)
      | inr from ↦
          let least : c.args.key < entry_key (get_or c.args.table.now low d) =
          let other : entry_key (get_or c.args.table.now low d) ≢ c.args.key = λ e. c.if-key-2.false (c.key-then-low-table.ensures ∙ ap (λ (x : Entry). entry_key x) (get_or_default c.args.table.now low _ d (omega arith)) ∙ e) in
          let up = inv.3 low d (omega arith) (omega arith) in omega (arith, other, up) in
          elim (cases_lt low i) [
            | inl more ↦ omega (arith, c.requires low i d more h, least, is)
            | inr at ↦ let e : low ≡ i = omega arith in omega (arith, ap (λ n. entry_key (get_or c.args.table.now n d)) e, least, is)
          ]
    ]
