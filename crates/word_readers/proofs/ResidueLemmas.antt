-- Residues among the words: few enough digits, each below its modulus, one for each modulus.
use Rattle.std.proofs.Common.{◌≡◌, ◌≢◌, ℕ, ◌+◌, ◌<◌, ◌≤◌, List, [], ◌∷◌, ◌++◌, Bool, true, false, cond, ◌&&◌, nat_lt, length, get_or, drop, Option, Some, None, IfSome, option_and_then, refl, subst, sym, ap, ◌∙◌, suc, append_assoc, append-nil, add-one, drop-cons, arith}
use Rattle.std.specs.Option.{option_map}
use Rattle.std.proofs.lemmas.Bool.Decides.{nat_tests}
use Rattle.std.proofs.lemmas.Bool.{and_parts}
use Rattle.plain_text.specs.Digits.{IsWholeNumber, value_of_digits}
use Rattle.number_theory.specs.Residue.{AreResidues}
use Rattle.word_readers.specs.Numbers.{is_short_number, residue_in, residues_in}
use Rattle.word_readers.proofs.ShortNumbers.{is_short_number-true, IsWholeNumber-from_short}
use Rattle.std.proofs.lemmas.List.{drop_all}
use borrow.Author.Tests.{ltb-true}

-- ---- one residue
residue_in-by : (modulus : ℕ) (word : List ℕ) (b : Bool) → (is_short_number 10 word && nat_lt (value_of_digits word) modulus)
    ≡ b → residue_in modulus word ≡ cond b (Some (value_of_digits word)) None
residue_in-by modulus word b e = ap (λ t. cond t (Some (value_of_digits word)) None) e

none_by : (modulus : ℕ) (word : List ℕ) (short : Bool) → is_short_number 10 word ≡ short
    → (IsWholeNumber word → length word ≤ 10 → ⊥) → residue_in modulus word ≡ None
none_by modulus word true e h = let parts = IsWholeNumber-from_short 10 word e in absurd (h parts.0 parts.1)
none_by modulus word false e h = residue_in-by modulus word false (ap (λ b. b && nat_lt (value_of_digits word) modulus) e)

-- a word that is no number, or has more digits, writes none
pub residue_in-none : (modulus : ℕ) (word : List ℕ) → (IsWholeNumber word → length word ≤ 10 → ⊥) → residue_in modulus word ≡ None
residue_in-none modulus word h = none_by modulus word _ refl h

-- a number of few digits below the modulus is the residue
pub residue_in-some : (modulus : ℕ) (word : List ℕ) (n : ℕ) → IsWholeNumber word → length word ≤ 10 → n ≡ value_of_digits word
    → n < modulus → Some n ≡ residue_in modulus word
residue_in-some modulus word n whole short is below =
    let digits = is_short_number-true 10 word whole short in
    let small : nat_lt (value_of_digits word) modulus ≡ true = grind (arith, nat_tests) in
    ap Some is ∙ sym (residue_in-by modulus word true (ap (λ b. b && nat_lt (value_of_digits word) modulus) digits ∙ small))

below_by : (modulus : ℕ) (word : List ℕ) (b : Bool) → (is_short_number 10 word && nat_lt (value_of_digits word) modulus) ≡ b
    → IfSome (cond b (Some (value_of_digits word)) None) (λ r. r < modulus)
below_by modulus word true e = ltb-true _ _ (and_parts (is_short_number 10 word) _ e).1
below_by modulus word false e = tt

residue_in-below : (modulus : ℕ) (word : List ℕ) → IfSome (residue_in modulus word) (λ r. r < modulus)
residue_in-below modulus word = below_by modulus word _ refl

-- ---- one for each modulus
-- a residue in front of the rest
abbrev more : Option ℕ → Option (List ℕ) → Option (List ℕ)
more first rest = option_and_then (λ residue. option_map (λ residues. residue ∷ residues) rest) first

more-none : (first : Option ℕ) (rest : Option (List ℕ)) → rest ≡ None → more first rest ≡ None
more-none None rest e = refl
more-none (Some residue) rest e = ap (option_map (λ residues. residue ∷ residues)) e

-- more words than moduli, or fewer, write none
pub residues_in-unequal : (moduli : List ℕ) (words : List (List ℕ)) → length words ≢ length moduli
    → residues_in moduli words ≡ None
residues_in-unequal [] [] apart = absurd (apart refl)
residues_in-unequal [] (word ∷ words) apart = refl
residues_in-unequal (modulus ∷ moduli) [] apart = refl
residues_in-unequal (modulus ∷ moduli) (word ∷ words) apart =
    more-none (residue_in modulus word) (residues_in moduli words) (residues_in-unequal moduli words
    (λ same. apart (ap (λ n. suc n) same)))

more-below : (modulus : ℕ) (moduli : List ℕ) (first : Option ℕ) (rest : Option (List ℕ)) → IfSome first (λ r. r < modulus)
    → IfSome rest (AreResidues moduli) → IfSome (more first rest) (AreResidues (modulus ∷ moduli))
more-below modulus moduli None rest h k = tt
more-below modulus moduli (Some residue) None h k = tt
more-below modulus moduli (Some residue) (Some residues) h k = (h, k)

below : (moduli : List ℕ) (words : List (List ℕ)) → IfSome (residues_in moduli words) (AreResidues moduli)
below [] [] = tt
below [] (word ∷ words) = tt
below (modulus ∷ moduli) [] = tt
below (modulus ∷ moduli) (word ∷ words) =
    more-below modulus moduli (residue_in modulus word) (residues_in moduli words) (residue_in-below modulus word)
    (below moduli words)

-- those that are found are below their moduli
pub residues_in-below : (moduli : List ℕ) (words : List (List ℕ)) (read : Option (List ℕ)) → read ≡ residues_in moduli words
    → IfSome read (AreResidues moduli)
residues_in-below moduli words read is = subst (λ r. IfSome r (AreResidues moduli)) (sym is) (below moduli words)

-- ---- word by word
-- the outcome of the words from number i on, put after what was found, is the outcome of all
abbrev pub GoesOn : List ℕ → List (List ℕ) → ℕ → List ℕ → Type 0
GoesOn moduli words i found = residues_in moduli words ≡ option_map (λ rest. found ++ rest)
    (residues_in (drop i moduli) (drop i words))

after_more : (found : List ℕ) (residue : ℕ) (rest : Option (List ℕ)) → option_map (λ residues. found ++ residues)
    (more (Some residue) rest) ≡ option_map (λ residues. (found ++ residue ∷ []) ++ residues) rest
after_more found residue None = refl
after_more found residue (Some residues) = ap Some (sym (append_assoc found (residue ∷ []) residues))

at_word : (moduli : List ℕ) (words : List (List ℕ)) (i : ℕ) → i < length moduli → i < length words
    → residues_in (drop i moduli) (drop i words) ≡ more (residue_in (get_or moduli i 0) (get_or words i []))
    (residues_in (drop (i + 1) moduli) (drop (i + 1) words))
at_word moduli words i some_modulus some_word = rw (add-one, drop-cons moduli i 0, drop-cons words i [])

step : (moduli : List ℕ) (words : List (List ℕ)) (i : ℕ) (found : List ℕ) (first : Option ℕ) → i < length moduli
    → i < length words → GoesOn moduli words i found → first ≡ residue_in (get_or moduli i 0) (get_or words i [])
    → residues_in moduli words ≡ option_map (λ rest. found ++ rest) (more first
    (residues_in (drop (i + 1) moduli) (drop (i + 1) words)))
step moduli words i found first some_modulus some_word before is =
    let after = λ (rest : Option (List ℕ)). option_map (λ residues. found ++ residues) rest in
    let rest = residues_in (drop (i + 1) moduli) (drop (i + 1) words) in
    before ∙ ap after (at_word moduli words i some_modulus some_word) ∙ ap (λ f. after (more f rest)) (sym is)

-- one residue more is found
pub GoesOn-more : (moduli : List ℕ) (words : List (List ℕ)) (i : ℕ) (found : List ℕ) (residue : ℕ) → i < length moduli
    → i < length words → GoesOn moduli words i found → Some residue ≡ residue_in (get_or moduli i 0) (get_or words i [])
    → GoesOn moduli words (i + 1) (found ++ residue ∷ [])
GoesOn-more moduli words i found residue some_modulus some_word before is =
    step moduli words i found (Some residue) some_modulus some_word before is ∙ after_more found residue _

-- a word that writes none ends all
pub GoesOn-none : (moduli : List ℕ) (words : List (List ℕ)) (i : ℕ) (found : List ℕ) → i < length moduli → i < length words
    → GoesOn moduli words i found → None ≡ residue_in (get_or moduli i 0) (get_or words i []) → None ≡ residues_in moduli words
GoesOn-none moduli words i found some_modulus some_word before is = sym
    (step moduli words i found None some_modulus some_word before is)

-- no word is left
pub GoesOn-end : (moduli : List ℕ) (words : List (List ℕ)) (i : ℕ) (found : List ℕ) → length moduli ≤ i → length words ≤ i
    → GoesOn moduli words i found → Some found ≡ residues_in moduli words
GoesOn-end moduli words i found no_modulus no_word before =
    let e : Some found ≡ option_map (λ rest. found ++ rest) (residues_in (drop i moduli) (drop i words)) = rw
    (drop_all i moduli no_modulus, drop_all i words no_word) (ap Some (sym (append-nil found))) in
    e ∙ sym before
