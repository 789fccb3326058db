-- Headers: what a header without a fault is, and that of a program.
use Rattle.std.proofs.Common.{◌≡◌, ℕ, zero, suc, ◌≤◌, Bool, true, false, not, cond, List, [], ◌∷◌, ◌++◌, length, take, drop, Option, Some, None, refl, sym, ap, ◌∙◌, arith}
use Rattle.std.specs.Prelude.{codes, nat_lt, slice_index, unwrap_or, ◌==◌}
use Rattle.std.specs.Option.{option_map}
use Rattle.std.specs.Str.{bytes_eq}
use Rattle.std.specs.Int.{w32, to_be_bytes, from_be_bytes}
use Rattle.std.proofs.lemmas.Bool.{ltb-false, le-ltb, eqb-true, not-false}
use Rattle.std.proofs.lemmas.List.{take-append-drop, drop-drop, length-drop, length-take}
use Rattle.std.proofs.lemmas.Slice.Eq.{bytes_eq-Decides}
use Rattle.moduli_sets.specs.declared.set_name.SetName.{SetName}
use Rattle.moduli_sets.specs.declared.set_name.SetName.TheVariants.{Pocket, Desk, Hall}
use Rattle.object_bytes.specs.declared.fault.LoadFault.{LoadFault}
use Rattle.object_bytes.specs.Loading.{AreBytes, counts_fault, instructions_in, is_no_set, length_by, or_load_fault, prefix_fault, set_in, set_numbered, words_in}
use Rattle.object_bytes.specs.Spelling.{header_bytes, number_of_set}
use Rattle.object_bytes.proofs.NumberLemmas.{natural_back}
use Rattle.object_bytes.proofs.RecordLemmas.{AreBytes-drop, AreBytes-take}

-- ---- choices of nothing
pub none_parts : {A : Type 0} (b : Bool) (x : A) (next : Option A) → cond b (Some x) next ≡ None → (b ≡ false) × (next ≡ None)
none_parts true x next e = absurd cc
none_parts false x next e = (refl, e)

pub none_from : {A : Type 0} (b : Bool) (x : A) (next : Option A) → b ≡ false → next ≡ None → cond b (Some x) next ≡ None
none_from true x next e h = absurd cc
none_from false x next e h = h

pub or_load-parts : (a b : Option LoadFault) → or_load_fault a b ≡ None → (a ≡ None) × (b ≡ None)
or_load-parts (Some fault) b e = absurd cc
or_load-parts None b e = (refl, e)

pub or_load-none : (a b : Option LoadFault) → a ≡ None → b ≡ None → or_load_fault a b ≡ None
or_load-none (Some fault) b e h = absurd cc
or_load-none None b e h = h

pub map_none : {A : Type 0} (f : A → LoadFault) (o : Option A) → option_map f o ≡ None → o ≡ None
map_none f None e = refl
map_none f (Some x) e = absurd cc

-- ---- the header
set_back : (n : ℕ) → is_no_set (set_numbered n) ≡ false → number_of_set (unwrap_or (set_numbered n) Pocket) ≡ n
set_back zero e = absurd cc
set_back (suc zero) e = refl
set_back (suc (suc zero)) e = refl
set_back (suc (suc (suc zero))) e = refl
set_back (suc (suc (suc (suc n)))) e = absurd cc

-- the counts are lawful, and the length is theirs
pub counts_parts : (n m k : ℕ) → counts_fault n m k ≡ None → (n ≤ 65536) × (m ≤ 65536) × (k ≡ length_by n m)
unfolding counts_fault
counts_parts n m k e =
    let long = none_parts (nat_lt 65536 n) _ _ e in
    let wide = none_parts (nat_lt 65536 m) _ _ long.1 in
    let short = none_parts (nat_lt k (length_by n m)) _ _ wide.1 in
    let more = none_parts (nat_lt (length_by n m) k) _ _ short.1 in
    let least = ltb-false k (length_by n m) short.0 in
    let most = ltb-false (length_by n m) k more.0 in
    (ltb-false 65536 n long.0, ltb-false 65536 m wide.0, omega arith)

pub counts_fine : (n m k : ℕ) → n ≤ 65536 → m ≤ 65536 → k ≡ length_by n m → counts_fault n m k ≡ None
unfolding counts_fault
counts_fine n m k few_n few_m e =
    none_from (nat_lt 65536 n) _ _ (le-ltb 65536 n few_n)
    (none_from (nat_lt 65536 m) _ _ (le-ltb 65536 m few_m)
    (none_from (nat_lt k (length_by n m)) _ _ (le-ltb k (length_by n m) (omega arith))
    (none_from (nat_lt (length_by n m) k) _ _ (le-ltb (length_by n m) k (omega arith)) refl)))

pub record IsPrefix (bytes : List ℕ) : Type 0 where
  pub long : 16 ≤ length bytes
  pub magic : bytes_eq (take 4 bytes) (codes "RNMO") ≡ true
  pub version : slice_index bytes 4 ≡ 1
  pub set : is_no_set (set_numbered (slice_index bytes 5)) ≡ false
  pub six : slice_index bytes 6 ≡ 0
  pub seven : slice_index bytes 7 ≡ 0

pub prefix_parts : (bytes : List ℕ) → prefix_fault bytes ≡ None → IsPrefix bytes
unfolding prefix_fault
prefix_parts bytes e =
    let long = none_parts (nat_lt (length bytes) 16) _ _ e in
    let magic = none_parts (not (bytes_eq (take 4 bytes) (codes "RNMO"))) _ _ long.1 in
    let version = none_parts (not (slice_index bytes 4 == 1)) _ _ magic.1 in
    let set = none_parts (is_no_set (set_numbered (slice_index bytes 5))) _ _ version.1 in
    let six = none_parts (not (slice_index bytes 6 == 0)) _ _ set.1 in
    let seven = none_parts (not (slice_index bytes 7 == 0)) _ _ six.1 in
    record {
      long = ltb-false (length bytes) 16 long.0;
      magic = not-false _ magic.0;
      version = eqb-true _ _ (not-false _ version.0);
      set = set.0;
      six = eqb-true _ _ (not-false _ six.0);
      seven = eqb-true _ _ (not-false _ seven.0);
    }

pub prefix_fine : (set : SetName) (n m : ℕ) (rest : List ℕ) → prefix_fault (header_bytes set n m ++ rest) ≡ None
unfolding prefix_fault
prefix_fine Pocket n m rest = none_from _ _ _ (le-ltb _ 16 (omega arith)) refl
prefix_fine Desk n m rest = none_from _ _ _ (le-ltb _ 16 (omega arith)) refl
prefix_fine Hall n m rest = none_from _ _ _ (le-ltb _ 16 (omega arith)) refl

pub set_again : (set : SetName) (n m : ℕ) (rest : List ℕ) → set_in (header_bytes set n m ++ rest) ≡ set
set_again Pocket n m rest = refl
set_again Desk n m rest = refl
set_again Hall n m rest = refl

-- ---- the bytes of a header
four : (g h i j v s x y : ℕ) → g ≡ v → h ≡ s → i ≡ x → j ≡ y → g ∷ h ∷ i ∷ j ∷ [] ≡ v ∷ s ∷ x ∷ y ∷ []
four g h i j v s x y eg eh ei ej = cc

-- the first 16 bytes of an object, and those after them
headed : (c d e f g h i j v s x y : ℕ) (magic line word rest : List ℕ) → c ∷ d ∷ e ∷ f ∷ [] ≡ magic → g ≡ v → h ≡ s → i ≡ x → j ≡ y
    → c ∷ d ∷ e ∷ f ∷ g ∷ h ∷ i ∷ j ∷ (line ++ (word ++ rest)) ≡ magic ++ (v ∷ s ∷ x ∷ y ∷ (line ++ (word ++ rest)))
headed c d e f g h i j v s x y magic line word rest m eg eh ei ej =
    ap (λ bs. bs ++ (g ∷ h ∷ i ∷ j ∷ (line ++ (word ++ rest)))) m ∙ ap (λ bs. magic ++ (bs ++ (line ++ (word ++ rest)))) (four g h i j v s x y eg eh ei ej)

pub header_back : (bytes : List ℕ) → AreBytes bytes → IsPrefix bytes → bytes ≡ header_bytes (set_in bytes) (instructions_in bytes) (words_in bytes) ++ drop 16 bytes
header_back [] h prefix = absurd (omega (arith, prefix.long))
header_back (c ∷ []) h prefix = absurd (omega (arith, prefix.long))
header_back (c ∷ d ∷ []) h prefix = absurd (omega (arith, prefix.long))
header_back (c ∷ d ∷ e ∷ []) h prefix = absurd (omega (arith, prefix.long))
header_back (c ∷ d ∷ e ∷ f ∷ []) h prefix = absurd (omega (arith, prefix.long))
header_back (c ∷ d ∷ e ∷ f ∷ g ∷ []) h prefix = absurd (omega (arith, prefix.long))
header_back (c ∷ d ∷ e ∷ f ∷ g ∷ s ∷ []) h prefix = absurd (omega (arith, prefix.long))
header_back (c ∷ d ∷ e ∷ f ∷ g ∷ s ∷ i ∷ []) h prefix = absurd (omega (arith, prefix.long))
header_back (c ∷ d ∷ e ∷ f ∷ g ∷ s ∷ i ∷ j ∷ rest) h prefix =
    let long : 8 ≤ length rest = omega (arith, prefix.long) in
    let are : AreBytes rest = λ k. h (suc (suc (suc (suc (suc (suc (suc (suc k)))))))) in
    let line = take 4 rest in
    let word = take 4 (drop 4 rest) in
    let line_is : to_be_bytes w32 (from_be_bytes w32 line) ≡ line = natural_back line (length-take 4 rest ∙ omega arith) (AreBytes-take 4 rest are) in
    let word_is : to_be_bytes w32 (from_be_bytes w32 word) ≡ word =
    natural_back word (length-take 4 (drop 4 rest) ∙ omega (arith, length-drop 4 rest)) (AreBytes-take 4 (drop 4 rest) (AreBytes-drop 4 rest are)) in
    let tail : word ++ drop 8 rest ≡ drop 4 rest = ap (λ bs. word ++ bs) (sym (drop-drop 4 4 rest)) ∙ take-append-drop 4 (drop 4 rest) in
    let split : rest ≡ to_be_bytes w32 (from_be_bytes w32 line) ++ (to_be_bytes w32 (from_be_bytes w32 word) ++ drop 8 rest) =
    sym (ap (λ bs. bs ++ (to_be_bytes w32 (from_be_bytes w32 word) ++ drop 8 rest)) line_is ∙ ap (λ bs. line ++ (bs ++ drop 8 rest)) word_is
    ∙ ap (λ bs. line ++ bs) tail ∙ take-append-drop 4 rest) in
    ap (λ bs. c ∷ d ∷ e ∷ f ∷ g ∷ s ∷ i ∷ j ∷ bs) split
    ∙ headed c d e f g s i j 1 (number_of_set (unwrap_or (set_numbered s) Pocket)) 0 0 (codes "RNMO") (to_be_bytes w32 (from_be_bytes w32 line)) (to_be_bytes w32 (from_be_bytes w32 word)) (drop 8 rest)
    ((bytes_eq-Decides (c ∷ d ∷ e ∷ f ∷ []) (codes "RNMO")).0 prefix.magic) prefix.version (sym (set_back s prefix.set)) prefix.six prefix.seven
