use Rattle.std.proofs.Common.{◌+◌, length, true, ◌==◌, slice_set, refl, sym, ap, subst, ◌∙◌, tests, rules, arith}
use Rattle.std.specs.FinMap.{from_entries}
use Rattle.std.proofs.lemmas.Iterator.{YieldsList}
use Rattle.std.proofs.lemmas.Iterator.Consumers.{YieldsList-at, YieldsList-end, YieldsList-turn}
use Rattle.std.proofs.lemmas.Iterator.Splits.{YieldsList-from_slice_split}
use Rattle.std.proofs.lemmas.List.{length_push}
use Rattle.moduli_sets.specs.Moduli.{set_of}
use Rattle.fault_book.proofs.ReadLemmas.{IsReadUpTo, IsReadUpTo-end, Says, Says-part, is_bad, is_twice, is_unknown, one_more, parts_of, passed}
use Rattle.fault_book.proofs.faults.Faults.read.Given as given
use Rattle.fault_book.proofs.faults.Faults.read.Goals as goal
use Rattle.fault_book.proofs.faults.Faults.read.Goals.{After-line_of}

-- what the line says that was read
says : (c : After-line_of) → Says c.args.text.now (length c.loop-line.yielded) c.line_of.result
says c =
    let split = c.split-line-items.ensures in
    let parts : YieldsList (given.iterator-loop-line).next_gives (λ x. x.now) c.into_iter-line-iterator.result (parts_of c.args.text.now) =
    YieldsList-at {t = c.split-line-items.result} (cc) (YieldsList-from_slice_split _ (λ b. b == 10) c.args.text.now split.rest split.done split.closure (λ x b q k. search (rules, tests))) in
    let turn = YieldsList-turn parts c.loop-line.yielded _ c.loop-line.yielded_by _ _ c.in-Some.line c.in-Some.is c.next.ensures.steps in
    Says-part c.args.text.now (length c.loop-line.yielded) c.in-Some.line.now c.without_return.result.now c.line_of.result turn c.without_return.ensures c.line_of.ensures

pub loop-line-preserved-in-Nothing : goal.loop-line-preserved-in-Nothing
loop-line-preserved-in-Nothing c =
    let text = c.args.text.now in
    let i = length c.loop-line.yielded in
    let more = length_push c.loop-line.yielded c.in-Some.line in
    let channels = length (set_of c.args.set.now).moduli in
    let line = subst (Says text i) c.in-Nothing.is (says (goal.at.loop-line-preserved-in-Nothing c).After-line_of) in
    record {
      counted = omega arith;
      read = subst (λ n. IsReadUpTo channels text n c.loop-line.named c.loop-line.made) (sym more) (passed channels text i c.loop-line.named c.loop-line.made c.loop-line.invariant.read line);
    }

pub returns-in-Bad : goal.returns-in-Bad
returns-in-Bad c =
    let text = c.args.text.now in
    let i = length c.loop-line.yielded in
    let line = subst (Says text i) c.in-Bad.is (says (goal.at.returns-in-Bad c).After-line_of) in
    is_bad (length (set_of c.args.set.now).moduli) text i c.loop-line.named c.loop-line.made c.loop-line.invariant.read (c.loop-line.line_number + 1) (omega arith) line

pub returns-then-channel-count : goal.returns-then-channel-count
returns-then-channel-count c =
    let text = c.args.text.now in
    let i = length c.loop-line.yielded in
    let line = subst (Says text i) c.in-Entry.is (says (goal.at.returns-then-channel-count c).After-line_of) in
    is_unknown (length (set_of c.args.set.now).moduli) text i c.loop-line.named c.loop-line.made c.loop-line.invariant.read
    c.in-Entry.channel c.in-Entry.number c.in-Entry.value line (c.loop-line.line_number + 1) (omega arith) (omega arith)

pub returns-then-is_some : goal.returns-then-is_some
returns-then-is_some c =
    let text = c.args.text.now in
    let i = length c.loop-line.yielded in
    let line = subst (Says text i) c.in-Entry.is (says (goal.at.returns-then-is_some c).After-line_of) in
    is_twice (length (set_of c.args.set.now).moduli) text i c.loop-line.named c.loop-line.made c.loop-line.invariant.read
    c.in-Entry.channel c.in-Entry.number c.in-Entry.value line (c.loop-line.line_number + 1) c.in_ok-old-in-Entry.old (omega arith) (omega arith)
    c.in_ok-old-in-Entry.ensures.old (sym c.is_some.ensures ∙ c.if-is_some.true)

pub loop-line-preserved : goal.loop-line-preserved
loop-line-preserved c =
    let text = c.args.text.now in
    let i = length c.loop-line.yielded in
    let more = length_push c.loop-line.yielded c.in-Some.line in
    let channels = length (set_of c.args.set.now).moduli in
    let line = subst (Says text i) c.in-Entry.is (says (goal.at.loop-line-preserved c).After-line_of) in
    let flags = slice_set c.loop-line.named c.in-Entry.channel true in
    record {
      counted = omega arith;
      read = subst (λ n. IsReadUpTo channels text n flags c.insert.new.self) (sym more)
          (one_more channels text i c.loop-line.named c.loop-line.made c.loop-line.invariant.read
          c.in-Entry.channel c.in-Entry.number c.in-Entry.value line c.insert.new.self flags c.in_ok-old-in-Entry.old (omega arith) c.rules.ensures.set.at_most_twelve
          c.in_ok-old-in-Entry.ensures.old (sym c.is_some.ensures ∙ c.if-is_some.false) c.in_ok-old-in-Entry.ensures.entries refl);
    }

pub returns : goal.returns
returns c =
    let split = c.split-line-items.ensures in
    let parts : YieldsList (given.iterator-loop-line).next_gives (λ x. x.now) c.into_iter-line-iterator.result (parts_of c.args.text.now) =
    YieldsList-at {t = c.split-line-items.result} (cc) (YieldsList-from_slice_split _ (λ b. b == 10) c.args.text.now split.rest split.done split.closure (λ x b q k. search (rules, tests))) in
    let over = YieldsList-end parts c.loop-line.yielded _ c.loop-line.yielded_by _ _ c.in-None.is c.next.ensures.steps in
    let all = IsReadUpTo-end (length (set_of c.args.set.now).moduli) c.args.text.now (length c.loop-line.yielded) c.loop-line.named c.loop-line.made over.1 c.loop-line.invariant.read in
    (all.0, ap from_entries all.1)
