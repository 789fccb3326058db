use Rattle.std.proofs.Common.{◌≡◌, ◌+◌, ◌-◌, ◌<◌, length, take, sym, ap, ◌∙◌, arith}
use Rattle.std.proofs.lemmas.List.{get_or_default}
use Rattle.resolved_tree.specs.Meaning.{calls_of}
use Rattle.resolved_tree.specs.declared.tree.Procedure.{Procedure}
use Rattle.source_meaning.proofs.Calling.{call_found, call_passed}
use Rattle.source_meaning.proofs.calls.latest.Goals as goal

pub returns-then-procedures-at-clause-calls : goal.returns-then-procedures-at-clause-calls
returns-then-procedures-at-clause-calls c = λ p is size.
    let within : c.loop-at.at - 1 < length c.args.procedures.now = omega (arith, c.loop-at.invariant.within, c.loop-at-test.true) in
    let same : c.loop-at.at ≡ c.loop-at.at - 1 + 1 = omega (arith, c.loop-at-test.true) in
    let found : p ≡ c.index-procedures-at.result = is ∙ get_or_default c.args.procedures.now (c.loop-at.at - 1) p c.index-procedures-at.result within ∙ sym c.index-procedures-at.is in
    call_found size c.args.procedures.now (c.loop-at.at - 1) p c.args.number within is (ap (λ (q : Procedure). q.number) found ∙ (ap (λ (q : Procedure). q.number) c.index-procedures-at.is ∙ c.if-procedures-at.true))
    (c.loop-at.invariant.passed size ∙ ap (λ n. calls_of size (take n c.args.procedures.now) c.args.number) same)

pub loop-at-preserved : goal.loop-at-preserved
loop-at-preserved c =
    let within : c.loop-at.at - 1 < length c.args.procedures.now = omega (arith, c.loop-at.invariant.within, c.loop-at-test.true) in
    let same : c.loop-at.at ≡ c.loop-at.at - 1 + 1 = omega (arith, c.loop-at-test.true) in
    record {
      within = omega (arith, within);
      passed = λ size.
          call_passed size c.args.procedures.now (c.loop-at.at - 1) c.index-procedures-at.result c.args.number within c.index-procedures-at.is
          (λ n. c.if-procedures-at.false (sym (ap (λ (q : Procedure). q.number) c.index-procedures-at.is) ∙ n))
          (c.loop-at.invariant.passed size ∙ ap (λ n. calls_of size (take n c.args.procedures.now) c.args.number) same);
    }
