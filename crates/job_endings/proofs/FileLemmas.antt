-- What fetching files in order leaves, and what it gives where the shelf tells what it holds.
use Rattle.std.proofs.Common.{◌≡◌, ℕ, ◌<◌, ◌≤◌, ◌⊎◌, Bool, true, false, List, [], ◌∷◌, ◌++◌, length, Option, Some, None, Ok, Err, nat_lt, cond, inl, inr, refl, sym, subst, ap, ◌∙◌, arith}
use Rattle.std.specs.Prelude.{IfSome, IsSomeAnd}
use Rattle.std.proofs.lemmas.Grind.{common_steps}
use Rattle.outside.specs.Faults.{Rose}
use Rattle.outside.specs.declared.shelf.Fetch.{Fetch}
use Rattle.outside.specs.declared.shelf.Fetch.TheVariants as fetch
use Rattle.outside.specs.Shelf.{IsFetch, ShelfFiles, ShelfState, TellsMissing, file_of}
use Rattle.word_readers.specs.declared.operands.FileWord.{FileWord}
use Rattle.word_readers.specs.Operands.{file_name}
use Rattle.job_endings.specs.declared.refusal.Refusal.TheVariants.{Unread, TooLong}
use Rattle.job_endings.specs.declared.refusal.Stop.{Stop}
use Rattle.job_endings.specs.declared.refusal.Stop.TheVariants.{Refused, NoMemory}
use Rattle.job_endings.specs.Files.{FetchesFiles, Given, IsExplained, IsReached, SomeFile, file_limit, given_by, given_by_file, stop_at, with_text}

-- ---- texts before what the rest gives
abbrev pub with_texts : List (List ℕ) → Given → Given
with_texts [] given = given
with_texts (text ∷ texts) given = with_text text (with_texts texts given)

pub with_texts-Ok : (texts : List (List ℕ)) → with_texts texts (Ok []) ≡ Ok texts
with_texts-Ok [] = refl
with_texts-Ok (text ∷ texts) = ap (with_text text) (with_texts-Ok texts)

pub with_texts-Err : (texts : List (List ℕ)) (stop : Stop) → with_texts texts (Err stop) ≡ Err stop
with_texts-Err [] stop = refl
with_texts-Err (text ∷ texts) stop = ap (with_text text) (with_texts-Err texts stop)

pub with_texts-push : (texts : List (List ℕ)) (text : List ℕ) (given : Given) → with_texts (texts ++ text ∷ []) given ≡ with_texts texts (with_text text given)
with_texts-push [] text given = refl
with_texts-push (first ∷ texts) text given = ap (with_text first) (with_texts-push texts text given)

-- what stops after a text stops without it
stops_without : (text : List ℕ) (given : Given) (stop : Stop) → with_text text given ≡ Err stop → given ≡ Err stop
stops_without text (Ok texts) stop e = cc
stops_without text (Err other) stop e = e

-- ---- one of the files
SomeFile-as : (P Q : List ℕ → Type 0) (words : List (List ℕ)) → ((name : List ℕ) → P name → Q name) → (files : List (Option FileWord)) → SomeFile P words files → SomeFile Q words files
SomeFile-as P Q words f [] h = h
SomeFile-as P Q words f (None ∷ files) h = SomeFile-as P Q words f files h
SomeFile-as P Q words f (Some file ∷ files) h = elim h [ inl p ↦ inl (f (file_name words file) p) | inr more ↦ inr (SomeFile-as P Q words f files more) ]

-- ---- what a file gives, by what the shelf holds of it
given_missing : (file : FileWord) (found : Option (List ℕ)) (rest : Given) → found ≡ None → given_by_file file found rest ≡ Err (Refused (Unread file))
given_missing file found rest e = ap (λ o. given_by_file file o rest) e

given_longer : (file : FileWord) (found : Option (List ℕ)) (rest : Given) → IsSomeAnd found (λ text. file_limit < length text) → given_by_file file found rest ≡ Err (Refused (TooLong file))
given_longer file None rest h = absurd h
given_longer file (Some text) rest h =
    let longer : nat_lt file_limit (length text) ≡ true = grind (arith, common_steps) in
    ap (λ b. cond b (Err (Refused (TooLong file))) (with_text text rest)) longer

given_whole : (file : FileWord) (found : Option (List ℕ)) (text : List ℕ) (rest : Given) → found ≡ Some text → length text ≤ file_limit → given_by_file file found rest ≡ with_text text rest
given_whole file found text rest e fits =
    let longer : nat_lt file_limit (length text) ≡ false = grind (arith, common_steps) in
    ap (λ o. given_by_file file o rest) e ∙ ap (λ b. cond b (Err (Refused (TooLong file))) (with_text text rest)) longer

some_whole : (found : Option (List ℕ)) (text : List ℕ) → found ≡ Some text → length text ≤ file_limit → IsSomeAnd found (λ bytes. length bytes ≤ file_limit)
some_whole found text e fits = subst (λ o. IsSomeAnd o (λ bytes. length bytes ≤ file_limit)) (sym e) fits

module _ {S : Type 0} (fetches : S → List ℕ → ℕ → Fetch → List ℕ → S → Type 0) (state : S → ShelfState) (words : List (List ℕ)) where
  -- ---- what the shelf holds stays
  pub stays_told : (old : S) (files : List (Option FileWord)) (given : Given) (new : S) → FetchesFiles fetches state words old files given new → (state new).told ≡ (state old).told
  stays_told old [] given new (is, same) = ap (λ shelf. (state shelf).told) same
  stays_told old (None ∷ files) given new h =
      elim h [
        | inl (mid, text, rest, skipped, more, is) ↦ stays_told mid files rest new more ∙ ap (λ shelf. (state shelf).told) skipped.1
        | inr (stop, stops, is) ↦ absurd stops
      ]
  stays_told old (Some file ∷ files) given new h =
      elim h [
        | inl (mid, text, rest, fetched, more, is) ↦ stays_told mid files rest new more ∙ fetched.told
        | inr (stop, stops, is) ↦ stops.fetch.told
      ]

  -- ---- why a file is unread
  unread_by_answer : (old : S) (file : FileWord) (answer : Fetch) (bytes : List ℕ) (stop : Stop) (new : S) (unread : FileWord) → IsFetch fetches state old (file_name words file) file_limit answer bytes new
      → stop_at file answer ≡ Some stop → stop ≡ Refused (Unread unread)
      → Rose (state old).faults (state new).faults ⊎ TellsMissing (state old) (file_name words file)
  unread_by_answer old file fetch.Whole bytes stop new unread fetched at is = absurd (cc)
  unread_by_answer old file fetch.TooLong bytes stop new unread fetched at is = absurd (cc)
  unread_by_answer old file fetch.Failed bytes stop new unread fetched at is =
      elim fetched.leaves.1 [ inl missing ↦ inr missing.0 | inr rose ↦ inl rose.1 ]
  unread_by_answer old file fetch.NoMemory bytes stop new unread fetched at is = absurd (cc)

  -- the shelf's count of faults rose, or it tells that there is no such file
  pub unread_cause : (old : S) (files : List (Option FileWord)) (given : Given) (new : S) (unread : FileWord) → given ≡ Err (Refused (Unread unread)) → FetchesFiles fetches state words old files given new
      → Rose (state old).faults (state new).faults ⊎ SomeFile (TellsMissing (state old)) words files
  unread_cause old [] given new unread e (is, same) = absurd (cc)
  unread_cause old (None ∷ files) given new unread e h =
      elim h [
        | inl (mid, text, rest, skipped, more, is) ↦
            subst (λ (shelf : S). Rose (state shelf).faults (state new).faults ⊎ SomeFile (TellsMissing (state shelf)) words files) skipped.1
            (unread_cause mid files rest new unread (stops_without text rest (Refused (Unread unread)) (sym is ∙ e)) more)
        | inr (stop, stops, is) ↦ absurd stops
      ]
  unread_cause old (Some file ∷ files) given new unread e h =
      elim h [
        | inl (mid, text, rest, fetched, more, is) ↦
            elim (unread_cause mid files rest new unread (stops_without text rest (Refused (Unread unread)) (sym is ∙ e)) more) [
              | inl rose ↦ inl (subst (λ n. Rose n (state new).faults) fetched.leaves.2 rose)
              | inr missing ↦ inr (inr (SomeFile-as (TellsMissing (state mid)) (TellsMissing (state old)) words
                  (λ name. subst (λ told. IsSomeAnd told (λ held. file_of held name ≡ None)) fetched.told) files missing))
            ]
        | inr (stop, stops, is) ↦
            let same : stop ≡ Refused (Unread unread) = cc in
            elim (unread_by_answer old file stops.answer stops.bytes stop new unread stops.fetch stops.stops same) [ inl rose ↦ inl rose | inr missing ↦ inr (inl missing) ]
      ]

  -- ---- what the files give where the shelf tells what it holds
  module _ (held : ShelfFiles) where
    explained_by_answer : (old : S) (file : FileWord) (files : List (Option FileWord)) (given : Given) (answer : Fetch) (bytes : List ℕ) (stop : Stop) (new : S) → (state old).told ≡ Some held
        → IsFetch fetches state old (file_name words file) file_limit answer bytes new → stop_at file answer ≡ Some stop → given ≡ Err stop
        → IsExplained words held (Rose (state old).faults (state new).faults) (Some file ∷ files) given
    explained_by_answer old file files given fetch.Whole bytes stop new told fetched at is = absurd (cc)
    explained_by_answer old file files given fetch.TooLong bytes stop new told fetched at is =
        let found = subst (λ t. IfSome t (λ h. IsSomeAnd (file_of h (file_name words file)) (λ text. file_limit < length text))) told fetched.leaves.1 in
        let same : stop ≡ Refused (TooLong file) = cc in
        inl (is ∙ ap (λ s. Err s) same ∙ sym (given_longer file (file_of held (file_name words file)) (given_by words held files) found))
    explained_by_answer old file files given fetch.Failed bytes stop new told fetched at is =
        let same : stop ≡ Refused (Unread file) = cc in
        let unread : given ≡ Err (Refused (Unread file)) = is ∙ ap (λ s. Err s) same in
        elim fetched.leaves.1 [
          | inl (missing, counts) ↦
              let found = subst (λ t. IsSomeAnd t (λ h. file_of h (file_name words file) ≡ None)) told missing in
              inl (unread ∙ sym (given_missing file (file_of held (file_name words file)) (given_by words held files) found))
          | inr (there, rose) ↦ inr (inr (rose, (file, inl refl, unread)))
        ]
    explained_by_answer old file files given fetch.NoMemory bytes stop new told fetched at is =
        let same : stop ≡ NoMemory = cc in
        inr (inl (is ∙ ap (λ s. Err s) same))

    -- a text before what the rest gives
    explained_after : (fault : Type 0) (text : List ℕ) (files : List (Option FileWord)) (all : List (Option FileWord)) (given rest : Given) → given ≡ with_text text rest
        → given_by words held all ≡ with_text text (given_by words held files) → ((file : FileWord) → IsReached words held files file → IsReached words held all file)
        → IsExplained words held fault files rest → IsExplained words held fault all given
    explained_after fault text files all given rest is gives reaches h =
        elim h [
          | inl whole ↦ inl (is ∙ ap (with_text text) whole ∙ sym gives)
          | inr others ↦ elim others [
            | inl memory ↦ inr (inl (is ∙ ap (with_text text) memory))
            | inr (rose, (file, reached, unread)) ↦ inr (inr (rose, (file, reaches file reached, is ∙ ap (with_text text) unread)))
          ]
        ]

    pub explained : (old : S) (files : List (Option FileWord)) (given : Given) (new : S) → (state old).told ≡ Some held → FetchesFiles fetches state words old files given new
        → IsExplained words held (Rose (state old).faults (state new).faults) files given
    explained old [] given new told (is, same) = inl is
    explained old (None ∷ files) given new told h =
        elim h [
          | inl (mid, text, rest, skipped, more, is) ↦
              let counts : Type 0 = Rose (state old).faults (state new).faults in
              let same = subst (λ (shelf : S). FetchesFiles fetches state words shelf files rest new) skipped.1 more in
              explained_after counts [] files (None ∷ files) given rest (is ∙ ap (λ t. with_text t rest) skipped.0) refl (λ file reached. reached)
              (explained old files rest new told same)
          | inr (stop, stops, is) ↦ absurd stops
        ]
    explained old (Some file ∷ files) given new told h =
        elim h [
          | inl (mid, text, rest, fetched, more, is) ↦
              let found = subst (λ t. IfSome t (λ h. file_of h (file_name words file) ≡ Some text)) told fetched.leaves.1 in
              let counts : Type 0 = Rose (state old).faults (state new).faults in
              let rest_is = subst (λ n. IsExplained words held (Rose n (state new).faults) files rest) fetched.leaves.2 (explained mid files rest new (fetched.told ∙ told) more) in
              explained_after counts text files (Some file ∷ files) given rest is
              (given_whole file (file_of held (file_name words file)) text (given_by words held files) found fetched.leaves.0)
              (λ other reached. inr (some_whole (file_of held (file_name words file)) text found fetched.leaves.0, reached)) rest_is
          | inr (stop, stops, is) ↦ explained_by_answer old file files given stops.answer stops.bytes stop new told stops.fetch stops.stops is
        ]
