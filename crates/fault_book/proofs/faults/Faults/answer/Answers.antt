use Rattle.std.proofs.Common.{◌≡◌, [], Some, false, slice_index_or, ◌∙◌, sym, ap, subst, rules, tests, arith}
use Rattle.std.proofs.lemmas.List.{get_or_past}
use Rattle.std.specs.Option.{option_copied}
use Rattle.fault_book.specs.Book.{fault_at}
use Rattle.fault_book.specs.Invariant.{book_of_entries, AreNamed}
use Rattle.fault_book.proofs.BookLemmas.{fault_at-from_entries, fault_at-unflagged}
use Rattle.fault_book.proofs.faults.Faults.answer.Goals as goal
use Rattle.fault_book.proofs.faults.Faults.answer.Goals.{then-channel-ge12-via-then-channel-ge12, then-channel-ge12-via-else-channel-ge12+then-not-self-channel}

pub returns-in_err-entries : goal.returns-in_err-entries
returns-in_err-entries c =
    let entries = sym c.as_ref.ensures.value ∙ ap option_copied c.in_err-entries.was in
    c.from_residual.ensures ∙ sym (fault_at-from_entries [] c.args.channel c.args.number)
    ∙ ap (λ book. fault_at book c.args.channel c.args.number) (sym (ap book_of_entries entries) ∙ c.self.view_is)

pub returns-then-channel-ge12 : goal.returns-then-channel-ge12
returns-then-channel-ge12 c =
    let named = c.self.inside.named in
    let entries : c.self.inside.entries ≡ Some c.in_ok-entries.entries.now = sym c.as_ref.ensures.value ∙ ap option_copied c.in_ok-entries.was in
    let unnamed : slice_index_or named c.args.channel false ≡ false = elim c.then-channel-ge12.branch [
      | then-channel-ge12-via-then-channel-ge12 w ↦ get_or_past named c.args.channel false (omega (arith, c.self.invariant.twelve))
      | then-channel-ge12-via-else-channel-ge12+then-not-self-channel w ↦ search (rules, tests)
    ] in
    sym (fault_at-unflagged named c.in_ok-entries.entries.now.entries c.args.channel c.args.number (subst (AreNamed named) entries c.self.invariant.flags) unnamed)
    ∙ ap (λ book. fault_at book c.args.channel c.args.number) (sym (ap book_of_entries entries) ∙ c.self.view_is)

pub returns : goal.returns
returns c =
    let entries : c.self.inside.entries ≡ Some c.in_ok-entries.entries.now = sym c.as_ref.ensures.value ∙ ap option_copied c.in_ok-entries.was in
    c.copied.ensures ∙ c.get.ensures.value
    ∙ sym (fault_at-from_entries c.in_ok-entries.entries.now.entries c.args.channel c.args.number)
    ∙ ap (λ book. fault_at book c.args.channel c.args.number) (sym (ap book_of_entries entries) ∙ c.self.view_is)
