use Rattle.std.proofs.Common.{length, subst}
use Rattle.plain_text.specs.Words.{white_space, words_of}
use Rattle.moduli_sets.specs.Moduli.{set_of}
use Rattle.fault_book.proofs.ScheduleLemmas.{AreTurnsUpTo, all_done, turns-set}
use Rattle.fault_book.proofs.schedule.Schedule.read.Goals as goal

pub returns-clause-turns : goal.returns-clause-turns
returns-clause-turns c =
    let read = subst (λ rest. AreTurnsUpTo (length (set_of c.args.set.now).moduli) c.args.text.now rest c.loop-word.turns.items) c.in_default.ensures c.loop-word.invariant.read in
    turns-set (length (set_of c.args.set.now).moduli) (words_of white_space c.args.text.now) c.loop-word.turns.items (all_done (length (set_of c.args.set.now).moduli) c.args.text.now c.loop-word.turns.items read)
