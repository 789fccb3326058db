-- What the nearest integer of a column is, where few channels are named.
use Rattle.std.proofs.Common.{◌≡◌, ℕ, zero, suc, ◌+◌, ◌<◌, ◌≤◌, ◌==◌, ◌&&◌, ◌⊎◌, ℤ, Bool, true, false, not, List, [], ◌∷◌, length, slice_index, count_by, Option, None, Some, inl, inr, refl, sym, ap, subst, arith}
use Rattle.std.specs.List.{range_with_len, remove}
use Rattle.std.proofs.lemmas.List.{length-map}
use Rattle.std.proofs.lemmas.Bool.Decides.{nat_tests}
use Rattle.number_theory.specs.Distance.{distance}
use Rattle.number_theory.specs.Residue.{residue}
use Rattle.moduli_sets.specs.Set.{ModuliSet, IsModuliSet, radius}
use Rattle.moduli_sets.specs.Vector.{vector_of}
use Rattle.redundant_decoder.specs.Nearest.{IsNearest, without}
use Rattle.redundant_decoder.proofs.DistanceLemmas.{remove-past}
use Rattle.redundant_decoder.proofs.VerdictLemmas.{same_from_third, same_nearest}
use Rattle.fault_book.specs.Book.{Book, is_faulty}
use Rattle.fault_book.proofs.ColumnLemmas.{count_by-cons, count_more, distance-le_faulty, distance-le_named, place-le}
use Rattle.shown_run.specs.Decoded.{nearest}
use Rattle.shown_run.proofs.NearestLemmas.{IsNearest-nearest}
use Rattle.fault_run.specs.Telling.{IsColumnOf, TellsEach, TellsNoOther, named_channels}

-- ---- distances
distance-nil : (xs : List ℕ) → distance xs [] ≡ 0
distance-nil [] = refl
distance-nil (x ∷ xs) = refl

-- lists that agree in the channels from `first` on that aren't named differ in no more other places than place g than are named
distance-le_others : (named : ℕ → Bool) (first g : ℕ) (xs ys : List ℕ) → ((i : ℕ) → i < length xs → ¬ (i ≡ g) → named (first + i) ≡ false → slice_index xs i ≡ slice_index ys i)
    → distance (remove xs g) (remove ys g) ≤ count_by named (range_with_len first (length xs))
distance-le_others named first g [] ys agree = omega (arith, ap (λ r. distance r (remove ys g)) (remove-past [] g (omega arith)))
distance-le_others named first g (x ∷ xs) [] agree =
    omega (arith, ap (λ r. distance (remove (x ∷ xs) g) r) (remove-past [] g (omega arith)), distance-nil (remove (x ∷ xs) g))
distance-le_others named first zero (x ∷ xs) (y ∷ ys) agree =
    let rest = distance-le_named named (first + 1) xs ys (λ i l e. agree (suc i) (omega (arith, l)) (λ same. omega (arith, same)) (subst (λ n. named n ≡ false) (omega arith) e)) in
    omega (arith, rest, count_by-cons named first (range_with_len (first + 1) (length xs)))
distance-le_others named first (suc g) (x ∷ xs) (y ∷ ys) agree =
    let here = place-le (named first) x y (λ e. agree 0 (omega arith) (λ same. omega (arith, same)) (subst (λ n. named n ≡ false) (omega arith) e)) in
    let rest = distance-le_others named (first + 1) g xs ys (λ i l other e. agree (suc i) (omega (arith, l)) (λ same. other (omega (arith, same))) (subst (λ n. named n ≡ false) (omega arith) e)) in
    omega (arith, here, rest, count_by-cons named first (range_with_len (first + 1) (length xs)))

both : (b : Bool) (g i : ℕ) → b && not (g == i) ≡ false → ¬ (i ≡ g) → b ≡ false
both true g i h other = grind (arith, nat_tests)
both false g i h other = refl

-- a column that is right where no channel is named is no further from its vector than there are named channels
pub named_distance : (set : ModuliSet) (erased : Option ℕ) (book : Book) (column : List ℕ) (x : ℤ) → IsModuliSet set → IsColumnOf set book column x
    → distance (without erased (vector_of set.moduli x)) (without erased column) ≤ named_channels erased book
named_distance set None book column x rules is =
    let long = length-map set.moduli (residue x) in
    distance-le_faulty book (vector_of set.moduli x) column (omega (arith, long, rules.at_most_twelve))
    (λ channel inside unnamed. sym (is.right channel (omega (arith, inside, long)) unnamed))
named_distance set (Some g) book column x rules is =
    let long = length-map set.moduli (residue x) in
    let named : ℕ → Bool = λ channel. is_faulty book channel && not (g == channel) in
    let others = distance-le_others named 0 g (vector_of set.moduli x) column
    (λ i inside other e. sym (is.right i (omega (arith, inside, long)) (subst (λ n. is_faulty book n ≡ false) (omega arith) (both (is_faulty book (0 + i)) g (0 + i) e (λ same. other (omega (arith, same))))))) in
    omega (arith, others, count_more named 0 (length (vector_of set.moduli x)) 12 (omega (arith, long, rules.at_most_twelve)))

-- ---- decoders
told : (set : ModuliSet) (erased : Option ℕ) (v : List ℕ) (x : ℤ) (book : Book) (o : Option ℤ) → IsModuliSet set → IsColumnOf set book v x → named_channels erased book ≤ radius set → IsNearest (radius set) erased set v o → o ≡ Some x
told set erased v x book None rules is few near =
    let far = named_distance set erased book v x rules is in
    absurd (near x (record { in_range = is.in_range; close = omega (arith, far, few) }))
told set erased v x book (Some y) rules is few near =
    let far = named_distance set erased book v x rules is in
    ap Some (sym (same_nearest set (radius set) erased v x y rules is.residues (omega arith) (record { in_range = is.in_range; close = omega (arith, far, few) }) near))

pub TellsEach-nearest : (set : ModuliSet) (erased : Option ℕ) (book : Book) → IsModuliSet set → named_channels erased book ≤ radius set → TellsEach (nearest (radius set) erased set) set book
TellsEach-nearest set erased book rules few column x is =
    told set erased column x book (nearest (radius set) erased set column) rules is few (IsNearest-nearest (radius set) erased set column)

not_other : (set : ModuliSet) (v : List ℕ) (x : ℤ) (book : Book) (o : Option ℤ) → IsModuliSet set → IsColumnOf set book v x → named_channels None book ≤ radius set + 1 → IsNearest (radius set) None set v o → (o ≡ None) ⊎ (o ≡ Some x)
not_other set v x book None rules is few near = inl refl
not_other set v x book (Some y) rules is few near =
    let far = named_distance set None book v x rules is in
    inr (ap Some (sym (same_from_third set v x y (radius set + 1) (radius set) rules is.residues is.in_range near.in_range (omega (arith, far, few)) near.close (omega arith))))

pub TellsNoOther-nearest : (set : ModuliSet) (book : Book) → IsModuliSet set → named_channels None book ≤ radius set + 1 → TellsNoOther (nearest (radius set) None set) set book
TellsNoOther-nearest set book rules few column x is =
    not_other set column x book (nearest (radius set) None set column) rules is few (IsNearest-nearest (radius set) None set column)
