use Rattle.std.proofs.Common.{◌∙◌, sym, ap, nat_eq, [], rules, tests}
use Rattle.std.specs.Map.{keys_of}
use Rattle.std.proofs.lemmas.Iterator.Consumers.{YieldsList-from_rest}
use Rattle.std.proofs.lemmas.Iterator.Search.{any_from_yields_List}
use Rattle.fault_book.specs.Book.{is_faulty}
use Rattle.fault_book.specs.Invariant.{book_of_entries}
use Rattle.fault_book.proofs.BookLemmas.{is_faulty-from_entries}
use Rattle.fault_book.proofs.faults.Faults.is_faulty.Goals as goal

pub returns-in-Some : goal.returns-in-Some
returns-in-Some c =
    any_from_yields_List (λ a. nat_eq a.0 c.args.channel) _ _ _ c.any.ensures.ran (YieldsList-from_rest (keys_of c.in-Some.entries.entries) c.keys.ensures.rest) (λ x b q k. search (rules, tests))
    ∙ sym (is_faulty-from_entries c.in-Some.entries.entries c.args.channel)
    ∙ ap (λ book. is_faulty book c.args.channel) (sym (ap book_of_entries c.in-Some.is) ∙ c.self.view_is)

pub returns-in-None : goal.returns-in-None
returns-in-None c =
    sym (is_faulty-from_entries [] c.args.channel) ∙ ap (λ book. is_faulty book c.args.channel) (sym (ap book_of_entries c.in-None.is) ∙ c.self.view_is)
