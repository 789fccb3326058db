-- The entries that a book is made of, put into a map one after another.
use Rattle.std.proofs.Common.{◌≡◌, ℕ, ◌+◌, ◌<◌, Bool, false, cond, nat_eq, ◌&&◌, List, [], ◌∷◌, ◌++◌, length, get_or, slice_index_or, slice_set, take, map, true, inl, inr, All, AllPairs, None, Some, refl, sym, ap, subst, ◌∙◌, arith}
use Rattle.std.specs.List.{AllByRecursion}
use Rattle.std.specs.Map.{keys_of, lookup}
use Rattle.std.proofs.lemmas.Bool.Decides.{nat_tests}
use Rattle.std.proofs.lemmas.Bool.{cases_eq}
use Rattle.std.proofs.lemmas.Grind.{get_or-set_at}
use Rattle.std.proofs.lemmas.List.{get_or-set_other, get_or-take, length-set, length-take-le, map_more}
use Rattle.std.proofs.lemmas.List.Elements.{All-from_get_or, All-from_recursion, All-weaker, recursion_from_All}
use Rattle.indexmap.specs.IndexMap.{IndexMap, insert_entry}
use Rattle.indexmap.proofs.CallerLemmas.{insert_entry-new}
use Rattle.fault_book.specs.Invariant.{IsConsistent}

-- whether two keys are one, as the map compares them
abbrev pub same_answer : ℕ × ℕ → ℕ × ℕ → Bool
same_answer a b = nat_eq a.0 b.0 && nat_eq a.1 b.1

-- an entry of the list as one of the map: the channel and the number lead to the value
abbrev pub entry : ℕ × ℕ × ℕ → (ℕ × ℕ) × ℕ
entry e = ((e.0, e.1), e.2)

-- two entries have the channel or the number apart
abbrev pub AreApart : ℕ × ℕ × ℕ → ℕ × ℕ × ℕ → Type 0
AreApart d e = ¬ ((d.0 ≡ e.0) × (d.1 ≡ e.1))

-- entries apart have different keys
other : (d e : ℕ × ℕ × ℕ) → AreApart d e → same_answer (e.0, e.1) (d.0, d.1) ≡ false
other d e h = grind (arith, nat_tests)

-- a key is not among those of entries apart from it
lookup_apart : (es : List (ℕ × ℕ × ℕ)) (e : ℕ × ℕ × ℕ) → AllByRecursion (λ d. AreApart d e) es → lookup (same_answer (e.0, e.1)) (map entry es) ≡ None
lookup_apart [] e h = refl
lookup_apart (d ∷ es) e h =
    ap (λ b. cond b (Some d.2) (lookup (same_answer (e.0, e.1)) (map entry es))) (other d e h.0) ∙ lookup_apart es e h.1

-- an entry is apart from each before it
before : (es : List (ℕ × ℕ × ℕ)) (i : ℕ) (d : ℕ × ℕ × ℕ) → i < length es → AllPairs AreApart es → All (λ e. AreApart e (get_or es i d)) (take i es)
before es i d lt apart =
    All-from_get_or (λ e. AreApart e (get_or es i d)) (take i es) d (λ k h.
    let early : k < i = omega (arith, length-take-le i es) in
    subst (λ e. AreApart e (get_or es i d)) (sym (get_or-take i es k d early)) (apart k i d early lt))

-- where the entries are apart, the next one goes last
pub insert_entry-next : {S : Type 0} (made : IndexMap (ℕ × ℕ) ℕ S) (es : List (ℕ × ℕ × ℕ)) (i : ℕ) (d : ℕ × ℕ × ℕ) → i < length es → AllPairs AreApart es → made.entries ≡ map entry (take i es)
    → insert_entry same_answer made.entries ((get_or es i d).0, (get_or es i d).1) (get_or es i d).2 ≡ map entry (take (i + 1) es)
insert_entry-next made es i d lt apart so_far =
    let e = get_or es i d in
    let new = ap (lookup (same_answer (e.0, e.1))) so_far ∙ lookup_apart (take i es) e (recursion_from_All (λ f. AreApart f e) (take i es) (before es i d lt apart)) in
    insert_entry-new same_answer made (e.0, e.1) e.2 new ∙ ap (λ fs. fs ++ entry e ∷ []) so_far ∙ sym (map_more entry es i d lt)

-- a flag stays set where one more is
flag_kept : (named : List Bool) (c k : ℕ) → c < length named → slice_index_or named k false ≡ true → slice_index_or (slice_set named c true) k false ≡ true
flag_kept named c k h e =
    elim (cases_eq k c) [
      | inl same ↦ get_or-set_at named c k true false same h
      | inr other ↦ get_or-set_other named c k true false other ∙ e
    ]

-- what holds of the keys and of the answer that is put in holds of the keys then
keys-insert_entry : (P : ℕ × ℕ → Type 0) (es : List ((ℕ × ℕ) × ℕ)) (answer : ℕ × ℕ) (value : ℕ) → P answer → AllByRecursion P (keys_of es) → AllByRecursion P (keys_of (insert_entry same_answer es answer value))
keys-insert_entry P [] answer value here h = (here, tt)
keys-insert_entry P (e ∷ es) answer value here h = by (same_answer answer e.0) (keys-insert_entry P es answer value here h.1)
  where
    by : (b : Bool) → AllByRecursion P (keys_of (insert_entry same_answer es answer value)) → AllByRecursion P (keys_of (cond b ((e.0, value) ∷ es) (e ∷ insert_entry same_answer es answer value)))
    by true rest = h
    by false rest = (h.0, rest)

-- one more entry, and its flag
pub IsConsistent-insert : {S : Type 0} (made new : IndexMap (ℕ × ℕ) ℕ S) (named flags : List Bool) (channel number value : ℕ) → channel < 12 → new.entries ≡ insert_entry same_answer made.entries (channel, number) value
    → flags ≡ slice_set named channel true → IsConsistent named (Some made) → IsConsistent flags (Some new)
IsConsistent-insert made new named flags channel number value small put set before =
    let is_set : ℕ × ℕ → Type 0 = λ k. slice_index_or (slice_set named channel true) k.0 false ≡ true in
    let within : channel < length named = omega (arith, before.twelve) in
    let kept : All is_set (keys_of made.entries) =
    All-weaker (λ k. slice_index_or named k.0 false ≡ true) is_set (λ k h. flag_kept named channel k.0 within h) (keys_of made.entries) before.flags in
    let all : AllByRecursion is_set (keys_of (insert_entry same_answer made.entries (channel, number) value)) =
    keys-insert_entry is_set made.entries (channel, number) value (get_or-set_at named channel channel true false refl within) (recursion_from_All is_set (keys_of made.entries) kept) in
    let flagged : All is_set (keys_of new.entries) = subst (λ es. All is_set (keys_of es)) (sym put) (All-from_recursion is_set _ all) in
    record {
      twelve = ap length set ∙ length-set named channel true ∙ before.twelve;
      flags = subst (λ ns. All (λ k. slice_index_or ns k.0 false ≡ true) (keys_of new.entries)) (sym set) flagged;
    }
