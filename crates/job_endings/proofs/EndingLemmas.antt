-- Puts one after another, and how they end.
use Rattle.std.proofs.Common.{◌≡◌, ℕ, ◌+◌, ◌<◌, List, [], ◌∷◌, length, take, get_or, ◌++◌, min, refl, sym, subst, ◌∙◌, inl, inr, arith, add-one}
use Rattle.std.proofs.lemmas.List.{take-append-le, take_min}
use Rattle.std.proofs.Math.Seq.{take-append-add}
use Rattle.outside.specs.Sink.{SinkState, WroteAll, BrokeOff, PutsPieces}
use Rattle.outside.specs.declared.sink.Put.TheVariants.{Failed}
use Rattle.outside.proofs.Runs.{WroteAll-append, BrokeOff-append}
use Rattle.job_endings.specs.declared.status.Status.{Status}
use Rattle.job_endings.specs.declared.status.Status.TheVariants.{Unwritten}
use Rattle.job_endings.specs.Endings.{EndsPut}

take_prefix : (n : ℕ) (lines more : List (List ℕ)) → take (min n (length lines)) (lines ++ more) ≡ take n lines
take_prefix n lines more = take-append-le (min n (length lines)) lines more (omega arith) ∙ take_min n lines

module _ {K : Type 0} (puts : K → List ℕ → K → Type 0) (state : K → SinkState) (old : K) where
  -- lines, and what is put after them
  pub puts_after : (mid : K) (lines more : List (List ℕ)) (status result : Status) (new : K) → WroteAll puts state old lines mid
      → EndsPut puts state mid more status result new → EndsPut puts state old (lines ++ more) status result new
  puts_after mid lines more status result new first ends =
      let P : List (List ℕ) → Type 0 = λ all. BrokeOff puts state old all new in
      elim ends [
        | inl (is, wrote) ↦ inl (is, WroteAll-append first wrote)
        | inr (is, (n, broke)) ↦ inr (is, (length lines + n, subst P (sym (take-append-add lines more n)) (BrokeOff-append first broke)))
      ]

  -- a put that failed, before others
  pub fails_before : (lines more : List (List ℕ)) (status : Status) (new : K) → PutsPieces puts state old lines Failed new
      → EndsPut puts state old (lines ++ more) status Unwritten new
  fails_before lines more status new (n, broke) =
      let P : List (List ℕ) → Type 0 = λ all. BrokeOff puts state old all new in
      inr (refl, (min n (length lines), subst P (sym (take_prefix n lines more)) broke))
