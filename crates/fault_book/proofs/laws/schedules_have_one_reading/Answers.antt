use Rattle.std.proofs.Common.{◌+◌, sym, ap, ◌∙◌}
use Rattle.fault_book.proofs.ScheduleLemmas.{all_or_none, same_front, same_turns}
use Rattle.fault_book.proofs.laws.schedules_have_one_reading.Goals as goal

pub returns-clause-turns : goal.returns-clause-turns
returns-clause-turns c = λ channels text xs ys are_xs are_ys. same_turns xs ys (sym are_xs ∙ are_ys)

pub returns-clause-number : goal.returns-clause-number
returns-clause-number c = λ channels text m n at_m at_n.
    at_m.counted ∙ ap (λ k. k + 1) (same_front at_m.before at_n.before at_m.after at_n.after (sym at_m.said ∙ at_n.said)) ∙ sym at_n.counted

pub returns-clause-apart : goal.returns-clause-apart
returns-clause-apart c = λ channels text turns n are first. all_or_none turns first.before first.after (sym are ∙ first.said)
