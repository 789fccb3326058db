-- The value of an option in one word, and among words.
use Rattle.std.proofs.Common.{◌≡◌, ℕ, ◌+◌, ◌<◌, ◌≤◌, List, [], ◌∷◌, ◌++◌, ◌&&◌, ◌||◌, Bool, true, false, not, cond, suc, Bor, length, get_or, drop, Option, Some, None, refl, sym, ap, ◌∙◌, add-one, append-nil, drop-cons, ltb, arith}
use Rattle.std.specs.List.{after_first, before_first, cons_option, filter_map, list_any, position_or_len}
use Rattle.std.specs.Option.{is_some, option_map, option_map_or}
use Rattle.std.specs.Str.{bytes_eq}
use Rattle.std.proofs.lemmas.Bool.Decides.{nat_tests}
use Rattle.std.proofs.lemmas.List.{drop_all}
use Rattle.word_readers.specs.Options.{is_equals, value_in}

-- ---- in one word
-- an element passes where the first that passes has a place
place_more : (b any : Bool) (n m : ℕ) → any ≡ ltb n m → (b || any) ≡ ltb (cond (not b) (1 + n) 0) (suc m)
place_more true any n m is = grind (arith, nat_tests)
place_more false any n m is = grind (arith, nat_tests)

list_any-place : {X : Type 0} (p : X → Bool) (xs : List X) → list_any p xs ≡ ltb (position_or_len p xs) (length xs)
list_any-place p [] = refl
list_any-place p (x ∷ xs) = place_more (p x) (list_any p xs) (position_or_len p xs) (length xs) (list_any-place p xs)

-- a word without `=` gives no value
pub value_in-none : (name word : List ℕ) → position_or_len is_equals word ≡ length word → value_in name word ≡ None
value_in-none name word over =
    let past : ltb (position_or_len is_equals word) (length word) ≡ false = grind (arith, nat_tests) in
    let none = list_any-place is_equals word ∙ past in
    ap (λ t. cond (t && bytes_eq (before_first is_equals word) name) (Some (after_first is_equals word)) None) none

-- ---- word by word
-- none or one value
abbrev pub value_list : Option (Bor (List ℕ)) → List (List ℕ)
value_list read = option_map_or (λ value. value.now ∷ []) read []

abbrev pub value_read : Option (Bor (List ℕ)) → Option (List ℕ)
value_read read = option_map (λ value. value.now) read

cons_option-read : (read : Option (Bor (List ℕ))) (values : List (List ℕ))
    → cons_option (value_read read) values ≡ value_list read ++ values
cons_option-read None values = refl
cons_option-read (Some value) values = refl

-- the values in all words are what was found and the values in the words from number i on
abbrev pub HasFound : List ℕ → List (List ℕ) → ℕ → Option (Bor (List ℕ)) → Type 0
HasFound name words i found = filter_map (value_in name) words ≡ value_list found ++ filter_map (value_in name) (drop i words)

step : (name : List ℕ) (words : List (List ℕ)) (i : ℕ) (found read : Option (Bor (List ℕ))) → i < length words
    → HasFound name words i found → value_read read ≡ value_in name (get_or words i [])
    → filter_map (value_in name) words ≡ value_list found ++ (value_list read ++ filter_map (value_in name) (drop (i + 1) words))
step name words i found read some before is =
    let rest = filter_map (value_in name) (drop (i + 1) words) in
    let at : drop i words ≡ get_or words i [] ∷ drop (i + 1) words = rw (add-one, drop-cons words i []) in
    let front = ap (λ o. cons_option o rest) (sym is) ∙ cons_option-read read rest in
    before ∙ ap (λ ws. value_list found ++ filter_map (value_in name) ws) at ∙ ap (λ values. value_list found ++ values) front

-- a word that isn't the option is passed
pub HasFound-passed : (name : List ℕ) (words : List (List ℕ)) (i : ℕ) (found : Option (Bor (List ℕ))) → i < length words
    → HasFound name words i found → None ≡ value_in name (get_or words i []) → HasFound name words (i + 1) found
HasFound-passed name words i found some before is = step name words i found None some before is

-- the first option is found
pub HasFound-first : (name : List ℕ) (words : List (List ℕ)) (i : ℕ) (found : Option (Bor (List ℕ))) (value : Bor (List ℕ))
    → i < length words → is_some found ≡ false → HasFound name words i found
    → Some value.now ≡ value_in name (get_or words i []) → HasFound name words (i + 1) (Some value)
HasFound-first name words i None value some is before read = step name words i None (Some value) some before read
HasFound-first name words i (Some first) value some is before read = cc

-- a second option makes two values
pub HasFound-second : (name : List ℕ) (words : List (List ℕ)) (i : ℕ) (found : Option (Bor (List ℕ))) (value : Bor (List ℕ))
    → i < length words → is_some found ≡ true → HasFound name words i found
    → Some value.now ≡ value_in name (get_or words i []) → 2 ≤ length (filter_map (value_in name) words)
HasFound-second name words i None value some is before read = cc
HasFound-second name words i (Some first) value some is before read =
    let both = step name words i (Some first) (Some value) some before read in
    omega (arith, ap length both)

-- no word is left
pub HasFound-end : (name : List ℕ) (words : List (List ℕ)) (i : ℕ) (found : Option (Bor (List ℕ))) → length words ≤ i
    → HasFound name words i found → filter_map (value_in name) words ≡ value_list found
HasFound-end name words i found over before = before ∙ ap (λ rest. value_list found ++ filter_map (value_in name) rest)
    (drop_all i words over) ∙ append-nil (value_list found)
