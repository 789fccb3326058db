-- What loops over records and data words keep, one step on and at the end; and what is put in four pieces.
use Rattle.std.proofs.Common.{◌≡◌, ℕ, suc, ◌+◌, ◌-◌, ◌*◌, ◌<◌, ◌≤◌, ℤ, List, [], ◌∷◌, ◌++◌, length, get_or, take, drop, Option, Some, None, sym, ap, subst, ◌∙◌, append_assoc, arith}
use Rattle.std.specs.Prelude.{slice_range, unwrap_or}
use Rattle.std.specs.Int.{w128, from_be_bytes, cast_signed}
use Rattle.std.specs.List.{flat_map}
use Rattle.std.proofs.lemmas.List.{append-nil, drop-drop, take_more}
use Rattle.std.proofs.lemmas.List.Concat.{flat_map-append, flat_map-cons}
use Rattle.machine_table.specs.declared.instr.Instr.{Instr}
use Rattle.machine_table.specs.declared.instr.Instr.TheVariants.{Halt}
use Rattle.object_bytes.specs.Layout.{or_place, record_fault}
use Rattle.object_bytes.specs.Loading.{code_from, records_fault, words_from}
use Rattle.object_bytes.specs.Record.{instr_in, integer_at, integer_bytes}

-- the front of what is left after n pieces of k bytes, as the code takes it, and what is behind it
pub front_is : (k n : ℕ) (bytes : List ℕ) → slice_range bytes (k * n) (k * n + k) ≡ take k (drop (k * n) bytes)
front_is k n bytes = let same : k * n + k - k * n ≡ k = omega arith in ap (λ i. take i (drop (k * n) bytes)) same

behind_is : (k n : ℕ) (bytes : List ℕ) → drop k (drop (k * n) bytes) ≡ drop (k * (n + 1)) bytes
behind_is k n bytes = drop-drop k (k * n) bytes ∙ ap (λ i. drop i bytes) (let same : k * n + k ≡ k * (n + 1) = omega arith in same)

one_less : (count n : ℕ) → n < count → count - n ≡ suc (count - (n + 1))
one_less count n h = omega arith

pub code_from-next : (count n : ℕ) (bytes : List ℕ) (code total : List Instr) (instr : Instr) → n < count → instr_in (take 40 (drop (40 * n) bytes)) ≡ Some instr
    → code ++ code_from (count - n) (drop (40 * n) bytes) ≡ total → (code ++ instr ∷ []) ++ code_from (count - (n + 1)) (drop (40 * (n + 1)) bytes) ≡ total
unfolding code_from
code_from-next count n bytes code total instr h e so_far =
    let left = drop (40 * n) bytes in
    append_assoc code (instr ∷ []) (code_from (count - (n + 1)) (drop (40 * (n + 1)) bytes))
    ∙ ap (λ bs. code ++ instr ∷ code_from (count - (n + 1)) bs) (sym (behind_is 40 n bytes))
    ∙ ap (λ o. code ++ unwrap_or o Halt ∷ code_from (count - (n + 1)) (drop 40 left)) (sym e)
    ∙ ap (λ i. code ++ code_from i left) (sym (one_less count n h)) ∙ so_far

pub records_fault-next : (count n : ℕ) (bytes : List ℕ) (total : Option ℕ) → n < count → record_fault (16 + 40 * n) (take 40 (drop (40 * n) bytes)) ≡ None
    → records_fault (count - n) (16 + 40 * n) (drop (40 * n) bytes) ≡ total → records_fault (count - (n + 1)) (16 + 40 * (n + 1)) (drop (40 * (n + 1)) bytes) ≡ total
unfolding records_fault
records_fault-next count n bytes total h e so_far =
    let left = drop (40 * n) bytes in
    let place : 16 + 40 * (n + 1) ≡ 16 + 40 * n + 40 = omega arith in
    ap (λ i. records_fault (count - (n + 1)) i (drop (40 * (n + 1)) bytes)) place
    ∙ ap (records_fault (count - (n + 1)) (16 + 40 * n + 40)) (sym (behind_is 40 n bytes))
    ∙ ap (λ o. or_place o (records_fault (count - (n + 1)) (16 + 40 * n + 40) (drop 40 left))) (sym e)
    ∙ ap (λ i. records_fault i (16 + 40 * n) left) (sym (one_less count n h)) ∙ so_far

pub records_fault-at : (count n : ℕ) (bytes : List ℕ) (total : Option ℕ) (place : ℕ) → n < count → record_fault (16 + 40 * n) (take 40 (drop (40 * n) bytes)) ≡ Some place
    → records_fault (count - n) (16 + 40 * n) (drop (40 * n) bytes) ≡ total → total ≡ Some place
unfolding records_fault
records_fault-at count n bytes total place h e so_far =
    let left = drop (40 * n) bytes in
    sym so_far ∙ ap (λ i. records_fault i (16 + 40 * n) left) (one_less count n h)
    ∙ ap (λ o. or_place o (records_fault (count - (n + 1)) (16 + 40 * n + 40) (drop 40 left))) e

pub code_from-end : (count n : ℕ) (bytes : List ℕ) (code total : List Instr) → count ≤ n → code ++ code_from (count - n) bytes ≡ total → code ≡ total
unfolding code_from
code_from-end count n bytes code total h e =
    let none : count - n ≡ 0 = omega arith in
    sym (append-nil code) ∙ ap (λ i. code ++ code_from i bytes) (sym none) ∙ e

pub records_fault-end : (count n place : ℕ) (bytes : List ℕ) (total : Option ℕ) → count ≤ n → records_fault (count - n) place bytes ≡ total → total ≡ None
unfolding records_fault
records_fault-end count n place bytes total h e =
    let none : count - n ≡ 0 = omega arith in
    sym e ∙ ap (λ i. records_fault i place bytes) none

-- the integer of a place is the first of what is left there
pub integer_is : (n : ℕ) (bytes : List ℕ) → integer_at (16 * n) bytes ≡ integer_at 0 (drop (16 * n) bytes)
integer_is n bytes = ap (λ bs. cast_signed w128 (from_be_bytes w128 bs)) (front_is 16 n bytes)

pub words_from-next : (count n : ℕ) (bytes : List ℕ) (words total : List ℤ) → n < count → words ++ words_from (count - n) (drop (16 * n) bytes) ≡ total
    → (words ++ integer_at (16 * n) bytes ∷ []) ++ words_from (count - (n + 1)) (drop (16 * (n + 1)) bytes) ≡ total
unfolding words_from
words_from-next count n bytes words total h so_far =
    let left = drop (16 * n) bytes in
    append_assoc words (integer_at (16 * n) bytes ∷ []) (words_from (count - (n + 1)) (drop (16 * (n + 1)) bytes))
    ∙ ap (λ bs. words ++ integer_at (16 * n) bytes ∷ words_from (count - (n + 1)) bs) (sym (behind_is 16 n bytes))
    ∙ ap (λ x. words ++ x ∷ words_from (count - (n + 1)) (drop 16 left)) (integer_is n bytes)
    ∙ ap (λ i. words ++ words_from i left) (sym (one_less count n h)) ∙ so_far

pub words_from-end : (count n : ℕ) (bytes : List ℕ) (words total : List ℤ) → count ≤ n → words ++ words_from (count - n) bytes ≡ total → words ≡ total
unfolding words_from
words_from-end count n bytes words total h e =
    let none : count - n ≡ 0 = omega arith in
    sym (append-nil words) ∙ ap (λ i. words ++ words_from i bytes) (sym none) ∙ e

grouped : (old a b c d e f g : List ℕ) → b ≡ e → c ≡ f → d ≡ g → ((old ++ a) ++ b) ++ c ++ d ≡ old ++ (a ++ e ++ f ++ g)
grouped old a b c d e f g eb ec ed =
    ap (λ p. (p ++ c) ++ d) (append_assoc old a b) ∙ ap (λ p. p ++ d) (append_assoc old (a ++ b) c) ∙ append_assoc old (a ++ b ++ c) d
    ∙ ap (λ p. old ++ (a ++ p ++ c ++ d)) eb ∙ ap (λ p. old ++ (a ++ e ++ p ++ d)) ec ∙ ap (λ p. old ++ (a ++ e ++ f ++ p)) ed

-- what stands at the end after four pieces
pub appended : (old a b c d e f g w x y z : List ℕ) → w ≡ old ++ a → x ≡ w ++ b → y ≡ x ++ c → z ≡ y ++ d → b ≡ e → c ≡ f → d ≡ g → z ≡ old ++ (a ++ e ++ f ++ g)
appended old a b c d e f g w x y z ew ex ey ez eb ec ed =
    ez ∙ ap (λ p. p ++ d) (ey ∙ ap (λ p. p ++ c) (ex ∙ ap (λ p. p ++ b) ew)) ∙ grouped old a b c d e f g eb ec ed

-- one more piece
pub flat_map-more : {A : Type 0} (f : A → List ℕ) (xs : List A) (i : ℕ) (d : A) → i < length xs → flat_map f (take (i + 1) xs) ≡ flat_map f (take i xs) ++ f (get_or xs i d)
flat_map-more f xs i d h =
    ap (flat_map f) (take_more xs i d h) ∙ flat_map-append f (take i xs) (get_or xs i d ∷ [])
    ∙ ap (λ bs. flat_map f (take i xs) ++ bs) (flat_map-cons f (get_or xs i d) [] ∙ append-nil (f (get_or xs i d)))

pub integers-more : (front out : List ℕ) (ws words : List ℤ) (i : ℕ) (d : ℤ) → ws ≡ words → i < length ws → out ≡ front ++ flat_map integer_bytes (take i words)
    → out ++ integer_bytes (get_or ws i d) ≡ front ++ flat_map integer_bytes (take (i + 1) words)
integers-more front out ws words i d same h so_far =
    let far = flat_map integer_bytes (take i words) in
    ap (λ o. o ++ integer_bytes (get_or ws i d)) so_far ∙ append_assoc front far (integer_bytes (get_or ws i d))
    ∙ ap (λ v. front ++ (far ++ integer_bytes (get_or v i d))) same
    ∙ ap (λ bs. front ++ bs) (sym (flat_map-more integer_bytes words i d (subst (λ v. i < length v) same h)))
