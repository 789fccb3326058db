-- A book made of entries, read as a list of them.
use Rattle.std.proofs.Common.{◌≡◌, ℕ, Bool, true, false, cond, nat_eq, ◌&&◌, ◌||◌, List, [], ◌∷◌, slice_index_or, inl, inr, All, None, Some, refl, sym, ap, ◌∙◌, arith}
use Rattle.std.specs.Cmp.{IsTotalOrder, both_tied}
use Rattle.std.specs.declared.cmp.Ordering.{Ordering}
use Rattle.std.specs.declared.cmp.Ordering.TheVariants.{Less, Equal, Greater}
use Rattle.std.specs.FinMap.{empty, entries, from_entries, keys, entries-insert, get-from_entries, len-empty, len-entries}
use Rattle.std.specs.FinMap.Entries.{find, put, by_order}
use Rattle.std.specs.List.{list_any, AllByRecursion}
use Rattle.std.specs.Map.{keys_of, lookup}
use Rattle.std.specs.Ordering.{is_eq, nat_cmp}
use Rattle.std.proofs.lemmas.Bool.{cases_eq, ne_eqb, false≢true}
use Rattle.std.proofs.lemmas.Bool.Decides.{nat_tests}
use Rattle.std.proofs.lemmas.Cmp.{nat_cmp_total, on_total, then_total}
use Rattle.std.proofs.lemmas.List.{nil_from_length}
use Rattle.std.proofs.lemmas.List.Elements.{recursion_from_All}
use Rattle.std.proofs.lemmas.Map.Lookups.{exact_pairs, exact_unsigned}
use Rattle.fault_book.specs.Book.{answer_cmp, fault_at, is_faulty}
use Rattle.fault_book.proofs.EntryLemmas.{same_answer}

-- the order of answers is total
pub answers_total : IsTotalOrder answer_cmp
answers_total = then_total (on_total (λ a. a.0) nat_cmp_total) (on_total (λ a. a.1) nat_cmp_total)

-- numbers are one exactly if they tie
tied : (m n : ℕ) → nat_eq m n ≡ is_eq (nat_cmp m n)
tied m n = grind (arith, nat_tests)

-- the order finds the entry that the comparison of keys finds
find_answer : (es : List ((ℕ × ℕ) × ℕ)) (q : ℕ × ℕ) → find answer_cmp q es ≡ lookup (same_answer q) es
find_answer [] q = refl
find_answer (e ∷ es) q = λ i. cond (sym (both_tied _ _ (nat_cmp q.0 e.0.0) (nat_cmp q.1 e.0.1) (tied q.0 e.0.0) (tied q.1 e.0.1)) i) (Some e.1) (find_answer es q i)

-- the value of an answer is that of the first entry with its channel and number
pub fault_at-from_entries : (es : List ((ℕ × ℕ) × ℕ)) (channel number : ℕ) → fault_at (from_entries es) channel number ≡ lookup (same_answer (channel, number)) es
fault_at-from_entries es channel number = get-from_entries answers_total es (channel, number) ∙ find_answer es (channel, number)

-- channels with unlike flags are two
unlike_flags : (named : List Bool) (m n : ℕ) → slice_index_or named m false ≡ false → slice_index_or named n false ≡ true → nat_eq m n ≡ false
unlike_flags named m n h k =
    elim (cases_eq m n) [
      | inl same ↦ absurd (false≢true (sym h ∙ ap (λ i. slice_index_or named i false) same ∙ k))
      | inr other ↦ ne_eqb m n other
    ]

-- no key is of a channel whose flag isn't set
lookup_unnamed : (named : List Bool) (es : List ((ℕ × ℕ) × ℕ)) (channel number : ℕ) → AllByRecursion (λ k. slice_index_or named k.0 false ≡ true) (keys_of es) → slice_index_or named channel false ≡ false → lookup (same_answer (channel, number)) es ≡ None
lookup_unnamed named [] channel number h unnamed = refl
lookup_unnamed named (e ∷ es) channel number h unnamed =
    let apart : nat_eq channel e.0.0 ≡ false = unlike_flags named channel e.0.0 unnamed h.0 in
    ap (λ b. cond (b && nat_eq number e.0.1) (Some e.1) (lookup (same_answer (channel, number)) es)) apart ∙ lookup_unnamed named es channel number h.1 unnamed

-- where each entry is of a channel whose flag is set, no answer of another has one
pub fault_at-unflagged : (named : List Bool) (es : List ((ℕ × ℕ) × ℕ)) (channel number : ℕ) → All (λ k. slice_index_or named k.0 false ≡ true) (keys_of es) → slice_index_or named channel false ≡ false → fault_at (from_entries es) channel number ≡ None
fault_at-unflagged named es channel number h unnamed =
    fault_at-from_entries es channel number ∙ lookup_unnamed named es channel number (recursion_from_All (λ k. slice_index_or named k.0 false ≡ true) (keys_of es) h) unnamed

-- one test twice, and two tests in turn
repeated : (a b : Bool) → (a || b) ≡ (a || (a || b))
repeated true b = refl
repeated false b = refl

swapped : (a b c : Bool) → (a || (b || c)) ≡ (b || (a || c))
swapped true true c = refl
swapped true false c = refl
swapped false b c = refl

module _ {K X : Type 0} {R : K → K → Ordering} (o : IsTotalOrder R) (test : K → Bool) (alike : (x y : K) → R x y ≡ Equal → test x ≡ test y) where
  -- an entry put in its place adds its key
  list_any-put : (k : K) (v : X) (es : List (K × X)) → list_any test (keys_of (put R k v es)) ≡ (test k || list_any test (keys_of es))
  list_any-put k v [] = refl
  list_any-put k v (e ∷ es) =
      elim (R k e.0) as (λ r. R k e.0 ≡ r → list_any test (keys_of (by_order r ((k, v) ∷ e ∷ es) ((e.0, v) ∷ es) (e ∷ put R k v es))) ≡ (test k || (test e.0 || list_any test (keys_of es)))) [
        | Less ↦ λ _. refl
        | Equal ↦ λ h. repeated (test e.0) (list_any test (keys_of es)) ∙ ap (λ b. b || (test e.0 || list_any test (keys_of es))) (sym (alike k e.0 h))
        | Greater ↦ λ _. ap (λ b. test e.0 || b) (list_any-put k v es) ∙ swapped (test e.0) (test k) (list_any test (keys_of es))
      ] refl

  -- a test that holds alike of keys that tie holds of a key of the map exactly if it holds of a key of its entries
  pub list_any-keys-from_entries : (es : List (K × X)) → list_any test (keys (from_entries {R = R} es)) ≡ list_any test (keys_of es)
  list_any-keys-from_entries [] = ap (λ es. list_any test (keys_of es)) (nil_from_length (entries empty) (sym (len-entries (empty {X = X} {R = R})) ∙ len-empty R X))
  list_any-keys-from_entries (e ∷ es) =
      ap (λ fs. list_any test (keys_of fs)) (entries-insert o (from_entries es) e.0 e.1) ∙ list_any-put e.0 e.1 (entries (from_entries es)) ∙ ap (λ b. test e.0 || b) (list_any-keys-from_entries es)

-- the channels with an entry are those of the entries
pub is_faulty-from_entries : (es : List ((ℕ × ℕ) × ℕ)) (channel : ℕ) → is_faulty (from_entries es) channel ≡ list_any (λ answer. nat_eq answer.0 channel) (keys_of es)
is_faulty-from_entries es channel = list_any-keys-from_entries answers_total (λ answer. nat_eq answer.0 channel) (λ x y h. ap (λ (a : ℕ × ℕ). nat_eq a.0 channel) (exact_pairs nat_cmp nat_cmp exact_unsigned exact_unsigned x y h)) es
