use Rattle.std.proofs.Common.{rules, ◌≡◌, ◌+◌, ◌-ℤ◌, None, to_z, of_z, sym, ap, subst, ◌∙◌, arith}
use Rattle.std.specs.Int.{w128}
use Rattle.std.proofs.lemmas.Int.{ints, to_z-of_z}
use Rattle.moduli_sets.specs.Moduli.{set_of}
use Rattle.moduli_sets.specs.Set.{IsInRange, radius}
use Rattle.redundant_decoder.specs.Verdict.{IsCorrection}
use Rattle.syndrome_table.specs.Entry.{key_of, entry_key, error_of}
use Rattle.syndrome_table.specs.Table.{shift_of}
use Rattle.syndrome_table.specs.Syndrome.{triple_of}
use Rattle.syndrome_table.specs.Reading.{IsInformation}
use Rattle.syndrome_table.proofs.ReadingLemmas.{product_small}
use Rattle.syndrome_table.proofs.ShiftLemmas.{case_of_entry, same_from_key, three_of, small_of}
use Rattle.syndrome_table.proofs.VerdictLemmas.{count_is, alone-whole, alone-corrected, alone-damaged, found-corrected, found-damaged, missing-damaged, small_triple}
use Rattle.syndrome_table.proofs.syndromes.Syndromes.decode_counted.Goals as goal
use Rattle.syndrome_table.proofs.syndromes.Syndromes.decode_counted.Goals.{else-bound-x-via-then-bound-x+else-x-bound, else-bound-x-via-else-bound-x}

pub returns-then-y-bound-clause-verdict : goal.returns-then-y-bound-clause-verdict
returns-then-y-bound-clause-verdict g c =
    let set = set_of c.args.self.now.set in
    let y = c.information_of-y.result in
    let yy = to_z w128 (of_z w128 y) in
    let kept : yy ≡ y = to_z-of_z w128 y (search rules) in
    let info = subst (IsInformation set c.args.v.now) (sym kept) c.information_of-y.ensures in
    alone-damaged set c.args.v.now c.triple_of_vector-triple.result yy c.in-Some.k c.rules.ensures.set c.rules.ensures.radius c.requires info c.triple_of_vector-triple.ensures c.in-Some.ensures.found (λ in_y. let high = in_y.high in omega (arith, ints, kept, c.if-y-bound.true, c.bound-bound.ensures))

pub returns-then-triple-k-eq0-clause-verdict : goal.returns-then-triple-k-eq0-clause-verdict
returns-then-triple-k-eq0-clause-verdict g c =
    let set = set_of c.args.self.now.set in
    let y = c.information_of-y.result in
    let yy = to_z w128 (of_z w128 y) in
    let kept : yy ≡ y = to_z-of_z w128 y (search rules) in
    let info = subst (IsInformation set c.args.v.now) (sym kept) c.information_of-y.ensures in
    let in_y : IsInRange set yy = record { low = info.window.low; high = omega (arith, ints, kept, c.if-y-bound.false, c.bound-bound.ensures) } in
    (in_y, alone-whole set c.args.v.now c.triple_of_vector-triple.result yy c.in-Some.k c.rules.ensures.set c.rules.ensures.radius c.requires info c.triple_of_vector-triple.ensures c.in-Some.ensures.found c.if-triple-k-eq0.true)

pub returns-else-triple-k-eq0-clause-verdict : goal.returns-else-triple-k-eq0-clause-verdict
returns-else-triple-k-eq0-clause-verdict g c =
    let set = set_of c.args.self.now.set in
    let y = c.information_of-y.result in
    let yy = to_z w128 (of_z w128 y) in
    let kept : yy ≡ y = to_z-of_z w128 y (search rules) in
    let info = subst (IsInformation set c.args.v.now) (sym kept) c.information_of-y.ensures in
    let in_y : IsInRange set yy = record { low = info.window.low; high = omega (arith, ints, kept, c.if-y-bound.false, c.bound-bound.ensures) } in
    let channel : set.info + c.in-Some.k ≡ c.info.result + c.in-Some.k = omega (arith, c.info.ensures) in
    subst (IsCorrection (radius set) None set c.args.v.now yy) channel (alone-corrected set c.args.v.now c.triple_of_vector-triple.result yy c.in-Some.k c.rules.ensures.set c.rules.ensures.radius c.requires info c.triple_of_vector-triple.ensures c.in-Some.ensures.found c.if-triple-k-eq0.false in_y)

pub returns-in_default-entry_of-clause-verdict : goal.returns-in_default-entry_of-clause-verdict
returns-in_default-entry_of-clause-verdict g c =
    let set = set_of c.args.self.now.set in
    let y = c.information_of-y.result in
    let yy = to_z w128 (of_z w128 y) in
    let t = c.triple_of_vector-triple.result in
    let kept : yy ≡ y = to_z-of_z w128 y (search rules) in
    let info = subst (IsInformation set c.args.v.now) (sym kept) c.information_of-y.ensures in
    missing-damaged set c.args.v.now t yy c.rules.ensures.set c.rules.ensures.radius c.requires info c.triple_of_vector-triple.ensures c.in_default.ensures.none
    (λ i e syndrome. c.args.self.now.complete t i e syndrome (λ k d h same. c.in_default-entry_of.ensures.none k d h (same ∙ sym c.key_of_triple.ensures)))

pub overflow_sub-x : goal.overflow_sub-x
overflow_sub-x g c =
    let set = set_of c.args.self.now.set in
    let y = c.information_of-y.result in
    let yy = to_z w128 (of_z w128 y) in
    let d = c.shift.result in
    let kept : yy ≡ y = to_z-of_z w128 y (search rules) in
    let kept_d : to_z w128 (of_z w128 d) ≡ d = to_z-of_z w128 d (search rules) in
    let window = c.information_of-y.ensures.window in
    let y_low = window.low in
    let y_high = window.high in
    let entry = c.in-Some-entry_of.ensures.found.0 in
    let low = entry.shift.low in
    let high = entry.shift.high in
    omega (arith, ints, kept, kept_d, c.shift.ensures, product_small set c.rules.ensures.set)

pub returns-then-x-bound-clause-verdict : goal.returns-then-x-bound-clause-verdict
returns-then-x-bound-clause-verdict g c =
    let set = set_of c.args.self.now.set in
    let y = c.information_of-y.result in
    let yy = to_z w128 (of_z w128 y) in
    let t = c.triple_of_vector-triple.result in
    let d = c.shift.result in
    let kept : yy ≡ y = to_z-of_z w128 y (search rules) in
    let kept_d : to_z w128 (of_z w128 d) ≡ d = to_z-of_z w128 d (search rules) in
    let info = subst (IsInformation set c.args.v.now) (sym kept) c.information_of-y.ensures in
    let y_low = info.window.low in
    let y_high = info.window.high in
    let entry = c.in-Some-entry_of.ensures.found.0 in
    let low = entry.shift.low in
    let high = entry.shift.high in
    let x = yy -ℤ to_z w128 (of_z w128 d) in
    let xx = to_z w128 (of_z w128 x) in
    let kept_x : xx ≡ x = omega (arith, ints, kept_d, c.shift.ensures, product_small set c.rules.ensures.set) in
    let e = c.in-Some-entry_of.entry in
    let case = case_of_entry set e.channel (error_of set e) (entry_key e) (shift_of c.args.self.now.cofactors e) c.rules.ensures.set entry.shift (ap key_of entry.triple) in
    let count = count_is set c.rules.ensures.set c.rules.ensures.radius in
    let key : key_of t ≡ key_of (triple_of set case.x case.y) = sym c.key_of_triple.ensures ∙ sym c.in-Some-entry_of.ensures.found.1 ∙ case.key in
    let is : t ≡ triple_of set case.x case.y = same_from_key t (triple_of set case.x case.y) c.triple_of_vector-triple.ensures.three (three_of set (case.x -ℤ case.y) count) (small_triple set c.args.v.now t yy c.rules.ensures.set c.rules.ensures.radius c.triple_of_vector-triple.ensures) (small_of set (case.x -ℤ case.y) c.rules.ensures.set count) key in
    let apart : xx -ℤ yy ≡ case.x -ℤ case.y = omega (arith, ints, kept_x, kept_d, c.shift.ensures, case.apart) in
    let bound_low = c.if-bound-x.true in
    let bound_high = c.if-x-bound.true in
    let in_x : IsInRange set xx = record { low = omega (arith, ints, c.bound-bound.ensures); high = omega (arith, ints, c.bound-bound.ensures) } in
    found-corrected set c.args.v.now t e.channel (error_of set e) yy case.x case.y xx c.rules.ensures.set c.rules.ensures.radius c.requires info c.triple_of_vector-triple.ensures case.case is apart in_x

pub returns-else-bound-x-clause-verdict : goal.returns-else-bound-x-clause-verdict
returns-else-bound-x-clause-verdict g c =
    let set = set_of c.args.self.now.set in
    let y = c.information_of-y.result in
    let yy = to_z w128 (of_z w128 y) in
    let t = c.triple_of_vector-triple.result in
    let d = c.shift.result in
    let kept : yy ≡ y = to_z-of_z w128 y (search rules) in
    let kept_d : to_z w128 (of_z w128 d) ≡ d = to_z-of_z w128 d (search rules) in
    let info = subst (IsInformation set c.args.v.now) (sym kept) c.information_of-y.ensures in
    let y_low = info.window.low in
    let y_high = info.window.high in
    let entry = c.in-Some-entry_of.ensures.found.0 in
    let low = entry.shift.low in
    let high = entry.shift.high in
    let x = yy -ℤ to_z w128 (of_z w128 d) in
    let xx = to_z w128 (of_z w128 x) in
    let kept_x : xx ≡ x = omega (arith, ints, kept_d, c.shift.ensures, product_small set c.rules.ensures.set) in
    let e = c.in-Some-entry_of.entry in
    let case = case_of_entry set e.channel (error_of set e) (entry_key e) (shift_of c.args.self.now.cofactors e) c.rules.ensures.set entry.shift (ap key_of entry.triple) in
    let count = count_is set c.rules.ensures.set c.rules.ensures.radius in
    let key : key_of t ≡ key_of (triple_of set case.x case.y) = sym c.key_of_triple.ensures ∙ sym c.in-Some-entry_of.ensures.found.1 ∙ case.key in
    let is : t ≡ triple_of set case.x case.y = same_from_key t (triple_of set case.x case.y) c.triple_of_vector-triple.ensures.three (three_of set (case.x -ℤ case.y) count) (small_triple set c.args.v.now t yy c.rules.ensures.set c.rules.ensures.radius c.triple_of_vector-triple.ensures) (small_of set (case.x -ℤ case.y) c.rules.ensures.set count) key in
    let apart : xx -ℤ yy ≡ case.x -ℤ case.y = omega (arith, ints, kept_x, kept_d, c.shift.ensures, case.apart) in
    found-damaged set c.args.v.now t e.channel (error_of set e) yy case.x case.y xx c.rules.ensures.set c.rules.ensures.radius c.requires info c.triple_of_vector-triple.ensures c.in_default.ensures.none case.case is apart (λ in_x.
    let x_low = in_x.low in
    let x_high = in_x.high in
    elim c.else-bound-x.branch [
      | else-bound-x-via-then-bound-x+else-x-bound w ↦ omega (arith, ints, c.bound-bound.ensures, w.if-x-bound.false)
      | else-bound-x-via-else-bound-x w ↦ omega (arith, ints, c.bound-bound.ensures, w.if-bound-x.false)
    ])
