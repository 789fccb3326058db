-- From what an evaluation leaves to the answer of `mean`.
use Rattle.std.proofs.Common.{◌≡◌, ℕ, ℤ, true, List, [], ◌∷◌, Ok, inr, refl, sym, subst}
use Rattle.std.specs.Prelude.{⊤}
use Rattle.outside.specs.Sink.{SinkState, WroteAll, PutsPieces}
use Rattle.outside.specs.declared.sink.Put.TheVariants.{Failed}
use Rattle.number_text.specs.Input.{AreNumbers, input_words}
use Rattle.number_text.specs.Lines.{print_lines}
use Rattle.source_tree.specs.Meaning.{meaning}
use Rattle.source_tree.specs.Run.{Limited, Ending, returned, trapped, spent, limited}
use Rattle.source_tree.specs.declared.declaration.Program.{Program}
use Rattle.job_endings.specs.declared.status.Status.{Status}
use Rattle.job_endings.specs.declared.status.Status.TheVariants.{Unwritten}
use Rattle.job_endings.specs.EndingLines.{ending_line, ending_status}
use Rattle.job_endings.specs.Endings.{EndsPut}
use Rattle.job_endings.proofs.EndingLemmas.{puts_after, fails_before}
use Rattle.rnm_engine.specs.Jobs.{lines, is_own, ending_of, mean_lines, IsInputAnswer, IsMeaningAnswer, IsOwn, Does}

own_ending : (pieces : List (List ℕ)) (ending : Ending ⊤) → is_own (lines pieces (ending_status (ending_of ending))) ≡ true
own_ending pieces (returned value after left) = refl
own_ending pieces (trapped kind line) = refl
own_ending pieces spent = refl

module _ {K : Type 0} (puts : K → List ℕ → K → Type 0) (state : K → SinkState) (old : K) (steps : ℕ) (program : Program)
    (input : List ℕ) (numbers : List ℤ) (are : AreNumbers (input_words input) numbers) where
  abbrev meant : Limited ⊤
  meant = limited steps (meaning program numbers)

  -- all was put that it prints, and then how it ended
  pub ended : (ending : Ending ⊤) (mid : K) → WroteAll puts state old (print_lines meant.prints) mid → meant.ending ≡ ending
      → (result : Status) (new : K) → EndsPut puts state mid (ending_line (ending_of ending) ∷ []) (ending_status (ending_of ending)) result new
      → Does puts state old (IsOwn (IsInputAnswer input (IsMeaningAnswer steps program))) (Ok result) new
  ended ending mid wrote is result new ends =
      let last = subst (λ (e : Ending ⊤). EndsPut puts state mid (ending_line (ending_of e) ∷ []) (ending_status (ending_of e)) result new) (sym is) ends in (
        mean_lines meant,
        ending_status (ending_of meant.ending),
        (inr (numbers, are, refl), own_ending (mean_lines meant) meant.ending),
        puts_after puts state old mid (print_lines meant.prints) (ending_line (ending_of meant.ending) ∷ []) (ending_status (ending_of meant.ending)) result new wrote last,
      )

  -- a put failed before that
  pub broke_off : (new : K) → PutsPieces puts state old (print_lines meant.prints) Failed new
      → Does puts state old (IsOwn (IsInputAnswer input (IsMeaningAnswer steps program))) (Ok Unwritten) new
  broke_off new broke = (
    mean_lines meant,
    ending_status (ending_of meant.ending),
    (inr (numbers, are, refl), own_ending (mean_lines meant) meant.ending),
    fails_before puts state old (print_lines meant.prints) (ending_line (ending_of meant.ending) ∷ []) (ending_status (ending_of meant.ending)) new broke,
  )
