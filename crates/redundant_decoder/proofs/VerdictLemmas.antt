-- One vector has one nearest integer and one verdict, and wrong residues lead to these verdicts.
use Rattle.std.proofs.Common.{◌≡◌, ◌≢◌, ℕ, suc, ◌+◌, ◌*◌, ◌<◌, ◌≤◌, List, [], ◌∷◌, Option, Some, None, length, refl, sym, ap, ◌∙◌, subst, arith, ℤ}
use Rattle.std.specs.List.{remove}
use Rattle.std.proofs.lemmas.List.{length-map}
use Rattle.number_theory.specs.Residue.{residue, AreResidues}
use Rattle.moduli_sets.specs.Set.{ModuliSet, IsInRange, IsModuliSet, radius}
use Rattle.moduli_sets.specs.Vector.{vector_of}
use Rattle.number_theory.specs.Distance.{distance}
use Rattle.redundant_decoder.specs.Nearest.{without, different_places, IsNearest}
use Rattle.redundant_decoder.specs.Verdict.{IsCorrection, IsVerdict, HasInteger}
use Rattle.redundant_decoder.specs.declared.decoder.Verdict.{Verdict}
use Rattle.redundant_decoder.specs.declared.decoder.Verdict.TheVariants.{Clean, Corrected, Damaged}
use Rattle.redundant_decoder.proofs.DistanceLemmas.{distance-self, distance-by_third, distance_from_remove, same_from_remove, remove_from_distance, length-without_same, length-different_places, different_places-remove}
use Rattle.redundant_decoder.proofs.LawLemmas.{same_from_distance_of_whole, same_from_distance_without}

-- ---- nearest integers
-- a vector has one residue for each modulus
length-residues : (ms rs : List ℕ) → AreResidues ms rs → length rs ≡ length ms
length-residues [] [] h = refl
length-residues [] (r ∷ rs) h = absurd h
length-residues (m ∷ ms) [] h = absurd h
length-residues (m ∷ ms) (r ∷ rs) h = ap suc (length-residues ms rs h.1)

-- the vector of an integer is as long as one of the set
pub length-vector : (ms v : List ℕ) (x : ℤ) → AreResidues ms v → length (vector_of ms x) ≡ length v
length-vector ms v x h = length-map ms (residue x) ∙ sym (length-residues ms v h)

-- integers in range near one vector are equal; t and u are at most the radius, or one of them is one more
pub same_from_third : (set : ModuliSet) (v : List ℕ) (x y : ℤ) (t u : ℕ) → IsModuliSet set → AreResidues set.moduli v → IsInRange set x → IsInRange set y → distance (vector_of set.moduli x) v ≤ t → distance (vector_of set.moduli y) v ≤ u → t + u ≤ 2 * radius set + 1 → x ≡ y
same_from_third set v x y t u rules residues in_x in_y near_x near_y sum =
    let near = distance-by_third (vector_of set.moduli x) (vector_of set.moduli y) v t u (length-vector set.moduli v x residues) near_x near_y in
    same_from_distance_of_whole set x y rules in_x in_y (omega (arith, near))

-- one nearest integer
pub same_nearest : (set : ModuliSet) (t : ℕ) (erased : Option ℕ) (v : List ℕ) (x y : ℤ) → IsModuliSet set → AreResidues set.moduli v → t ≤ radius set → IsNearest t erased set v (Some x) → IsNearest t erased set v (Some y) → x ≡ y
same_nearest set t erased v x y rules residues few at_x at_y =
    let vx = vector_of set.moduli x in
    let vy = vector_of set.moduli y in
    let even = length-without_same erased vx v (length-vector set.moduli v x residues) in
    let near = distance-by_third (without erased vx) (without erased vy) (without erased v) t t even at_x.close at_y.close in
    same_from_distance_without set erased x y rules at_x.in_range at_y.in_range (omega (arith, near))

-- ---- verdicts
-- an integer in range is nearest to its vector
pub IsNearest-clean : (set : ModuliSet) (t : ℕ) (erased : Option ℕ) (v : List ℕ) (x : ℤ) → IsInRange set x → without erased v ≡ without erased (vector_of set.moduli x) → IsNearest t erased set v (Some x)
IsNearest-clean set t erased v x in_x e =
    let vx = vector_of set.moduli x in
    let none : distance (without erased vx) (without erased v) ≡ 0 = ap (distance (without erased vx)) e ∙ distance-self (without erased vx) in
    record { in_range = in_x; close = omega (arith, none) }

-- as many wrong residues as are corrected lead to the integer
pub verdict_corrected : (set : ModuliSet) (t : ℕ) (erased : Option ℕ) (v : List ℕ) (x : ℤ) (verdict : Verdict) → IsModuliSet set → AreResidues set.moduli v → IsInRange set x → t ≤ radius set → distance (without erased (vector_of set.moduli x)) (without erased v) ≤ t → IsVerdict t erased set v verdict → HasInteger verdict x
verdict_corrected set t erased v x (Clean y) rules residues in_x few near h =
    same_nearest set t erased v y x rules residues few (IsNearest-clean set t erased v y h.0 h.1) (record { in_range = in_x; close = near })
verdict_corrected set t erased v x (Corrected y i) rules residues in_x few near h =
    same_nearest set t erased v y x rules residues few h.nearest (record { in_range = in_x; close = near })
verdict_corrected set t erased v x Damaged rules residues in_x few near h = h x (record { in_range = in_x; close = near })

-- one more leaves no integer near
none_near : (set : ModuliSet) (t : ℕ) (v : List ℕ) (x y : ℤ) → IsModuliSet set → AreResidues set.moduli v → IsInRange set x → t ≤ radius set → distance (vector_of set.moduli x) v ≡ t + 1 → IsNearest t None set v (Some y) → ⊥
none_near set t v x y rules residues in_x few far at_y =
    let same : x ≡ y = same_from_third set v x y (t + 1) t rules residues in_x at_y.in_range (omega (arith, far)) at_y.close (omega arith) in
    let moved : distance (vector_of set.moduli y) v ≡ t + 1 = subst (λ z. distance (vector_of set.moduli z) v ≡ t + 1) same far in
    omega (arith, moved, at_y.close)

-- and is detected
pub verdict_detected : (set : ModuliSet) (t : ℕ) (v : List ℕ) (x : ℤ) (verdict : Verdict) → IsModuliSet set → AreResidues set.moduli v → IsInRange set x → t ≤ radius set → distance (vector_of set.moduli x) v ≡ t + 1 → IsVerdict t None set v verdict → verdict ≡ Damaged
verdict_detected set t v x (Clean y) rules residues in_x few far h =
    absurd (none_near set t v x y rules residues in_x few far (IsNearest-clean set t None v y h.0 h.1))
verdict_detected set t v x (Corrected y i) rules residues in_x few far h =
    absurd (none_near set t v x y rules residues in_x few far h.nearest)
verdict_detected set t v x Damaged rules residues in_x few far h = refl

-- a vector is not both clean and corrected
clean_or_corrected : (set : ModuliSet) (t : ℕ) (erased : Option ℕ) (v : List ℕ) (x y : ℤ) (i : ℕ) → IsModuliSet set → AreResidues set.moduli v → t ≤ radius set → IsVerdict t erased set v (Clean x) → IsVerdict t erased set v (Corrected y i) → ⊥
clean_or_corrected set t erased v x y i rules residues few clean corrected =
    let vy = vector_of set.moduli y in
    let same : x ≡ y = same_nearest set t erased v x y rules residues few (IsNearest-clean set t erased v x clean.0 clean.1) corrected.nearest in
    let agrees : without erased v ≡ without erased vy = clean.1 ∙ ap (λ z. without erased (vector_of set.moduli z)) same in
    let none : distance (without erased vy) (without erased v) ≡ 0 = ap (distance (without erased vy)) agrees ∙ distance-self (without erased vy) in
    omega (arith, none, length-different_places erased vy v, ap length corrected.places)

-- what is corrected is one integer, and one channel
same_correction : (set : ModuliSet) (t : ℕ) (erased : Option ℕ) (v : List ℕ) (x y : ℤ) (i j : ℕ) → IsModuliSet set → AreResidues set.moduli v → t ≤ radius set → IsCorrection t erased set v x i → IsCorrection t erased set v y j → Corrected x i ≡ Corrected y j
same_correction set t erased v x y i j rules residues few at_i at_j =
    let same : x ≡ y = same_nearest set t erased v x y rules residues few at_i.nearest at_j.nearest in
    let places : different_places erased (vector_of set.moduli x) v ≡ j ∷ [] = subst (λ z. different_places erased (vector_of set.moduli z) v ≡ j ∷ []) (sym same) at_j.places in
    let place : i ≡ j = cc (at_i.places, places) in
    cc

-- one verdict
pub same_verdict : (set : ModuliSet) (t : ℕ) (erased : Option ℕ) (v : List ℕ) (a b : Verdict) → IsModuliSet set → AreResidues set.moduli v → t ≤ radius set → IsVerdict t erased set v a → IsVerdict t erased set v b → a ≡ b
same_verdict set t erased v (Clean x) (Clean y) rules residues few h k =
    ap Clean (same_nearest set t erased v x y rules residues few (IsNearest-clean set t erased v x h.0 h.1) (IsNearest-clean set t erased v y k.0 k.1))
same_verdict set t erased v (Clean x) (Corrected y j) rules residues few h k = absurd (clean_or_corrected set t erased v x y j rules residues few h k)
same_verdict set t erased v (Clean x) Damaged rules residues few h k = absurd (k x (IsNearest-clean set t erased v x h.0 h.1))
same_verdict set t erased v (Corrected x i) (Clean y) rules residues few h k = absurd (clean_or_corrected set t erased v y x i rules residues few k h)
same_verdict set t erased v (Corrected x i) (Corrected y j) rules residues few h k = same_correction set t erased v x y i j rules residues few h k
same_verdict set t erased v (Corrected x i) Damaged rules residues few h k = absurd (k x h.nearest)
same_verdict set t erased v Damaged (Clean y) rules residues few h k = absurd (h y (IsNearest-clean set t erased v y k.0 k.1))
same_verdict set t erased v Damaged (Corrected y j) rules residues few h k = absurd (h y k.nearest)
same_verdict set t erased v Damaged Damaged rules residues few h k = refl

-- ---- verdicts by leaving out one channel after another
-- the residues of an integer in range but for channel i, and not all of its residues: that channel is wrong
pub IsCorrection-from_remove : (set : ModuliSet) (v : List ℕ) (x : ℤ) (i : ℕ) → IsModuliSet set → AreResidues set.moduli v → IsInRange set x → i < length set.moduli → remove (vector_of set.moduli x) i ≡ remove v i → v ≢ vector_of set.moduli x → IsCorrection (radius set) None set v x i
IsCorrection-from_remove set v x i rules residues in_x h same other =
    let vx = vector_of set.moduli x in
    let even = length-vector set.moduli v x residues in
    let long : length vx ≡ length set.moduli = length-map set.moduli (residue x) in
    let close : distance vx v ≤ radius set = omega (arith, distance_from_remove vx v i even same, rules.radius_at_least_one) in
    record {
      nearest = record { in_range = in_x; close = close };
      places = different_places-remove vx v i even (omega (arith, long)) same (λ e. other (sym (same_from_remove vx v i even (omega (arith, long)) same e)));
    }

-- where no integer in range has the residues but for one channel, none is near
pub IsNearest-none_from_remove : (set : ModuliSet) (v : List ℕ) → IsModuliSet set → radius set ≡ 1 → AreResidues set.moduli v → ((x : ℤ) (i : ℕ) → IsInRange set x → i < length set.moduli → remove (vector_of set.moduli x) i ≢ remove v i) → IsNearest (radius set) None set v None
IsNearest-none_from_remove set v rules one residues none x within =
    let vx = vector_of set.moduli x in
    let long : length vx ≡ length set.moduli = length-map set.moduli (residue x) in
    let some : 0 < length vx = omega (arith, long, rules.at_least_four) in
    let close : distance vx v ≤ 1 = omega (arith, one, within.close) in
    let place = remove_from_distance vx v (length-vector set.moduli v x residues) some close in
    none x place.0 within.in_range (omega (arith, long, place.1)) place.2
