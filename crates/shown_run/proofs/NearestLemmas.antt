-- The function `nearest` gives the nearest integer.
use Rattle.std.proofs.Common.{◌≡◌, ℕ, zero, suc, ◌≤◌, true, false, cond, nat_le, List, Option, None, Some, ◌⊎◌, refl, ap, subst, arith, inl, inr, ℤ, pos, negsuc, neg_ℤ, ◌≤ℤ◌}
use Rattle.std.proofs.lemmas.Bool.{cases_lt}
use Rattle.std.proofs.lemmas.Bool.Decides.{nat_tests}
use Rattle.std.proofs.lemmas.Int.{ints}
use Rattle.moduli_sets.specs.Set.{ModuliSet, range_bound}
use Rattle.moduli_sets.specs.Vector.{vector_of}
use Rattle.number_theory.specs.Distance.{distance}
use Rattle.redundant_decoder.specs.Nearest.{without, IsNearest}
use Rattle.shown_run.specs.Decoded.{first_within, nearest}

-- what the search finds among -n to n
IsFound : ℕ → Option ℕ → List ℕ → List ℕ → ℕ → Option ℤ → Type 0
IsFound t erased ms v n (Some x) = (neg_ℤ (pos n) ≤ℤ x) × (x ≤ℤ pos n) × (distance (without erased (vector_of ms x)) (without erased v) ≤ t)
IsFound t erased ms v n None = (x : ℤ) → neg_ℤ (pos n) ≤ℤ x → x ≤ℤ pos n → distance (without erased (vector_of ms x)) (without erased v) ≤ t → ⊥

-- the integers of -(n + 1) to n + 1
ends : (n : ℕ) (x : ℤ) → neg_ℤ (pos (suc n)) ≤ℤ x → x ≤ℤ pos (suc n) → (x ≡ pos (suc n)) ⊎ ((x ≡ negsuc n) ⊎ ((neg_ℤ (pos n) ≤ℤ x) × (x ≤ℤ pos n)))
ends n (pos k) low high =
    elim (cases_lt k (suc n)) [
      | inl h ↦ inr (inr (omega (arith, ints), omega (arith, ints)))
      | inr h ↦ inl (ap pos (omega (arith, ints)))
    ]
ends n (negsuc k) low high =
    elim (cases_lt k n) [
      | inl h ↦ inr (inr (omega (arith, ints), omega (arith, ints)))
      | inr h ↦ inr (inl (ap negsuc (omega (arith, ints))))
    ]

only_zero : (x : ℤ) → neg_ℤ (pos 0) ≤ℤ x → x ≤ℤ pos 0 → x ≡ pos 0
only_zero x low high = omega (arith, ints)

far : (d t : ℕ) → nat_le d t ≡ false → d ≤ t → ⊥
far d t e h = grind (arith, nat_tests)

close : (d t : ℕ) → nat_le d t ≡ true → d ≤ t
close d t e = grind (arith, nat_tests)

IsFound-wider : (t : ℕ) (erased : Option ℕ) (ms v : List ℕ) (n : ℕ) (o : Option ℤ) → nat_le (distance (without erased (vector_of ms (pos (suc n)))) (without erased v)) t ≡ false → nat_le (distance (without erased (vector_of ms (negsuc n))) (without erased v)) t ≡ false → IsFound t erased ms v n o → IsFound t erased ms v (suc n) o
unfolding IsFound
IsFound-wider t erased ms v n (Some x) above below h =
    let low = h.0 in
    let high = h.1 in
    (omega (arith, ints), omega (arith, ints), h.2)
IsFound-wider t erased ms v n None above below h =
    λ x low high near. elim (ends n x low high) [
      | inl e ↦ far (distance (without erased (vector_of ms (pos (suc n)))) (without erased v)) t above (subst (λ z. distance (without erased (vector_of ms z)) (without erased v) ≤ t) e near)
      | inr rest ↦ elim rest [
        | inl e ↦ far (distance (without erased (vector_of ms (negsuc n))) (without erased v)) t below (subst (λ z. distance (without erased (vector_of ms z)) (without erased v) ≤ t) e near)
        | inr inside ↦ h x inside.0 inside.1 near
      ]
    ]

found : (t : ℕ) (erased : Option ℕ) (ms v : List ℕ) (n : ℕ) → IsFound t erased ms v n (first_within t erased ms v n)
unfolding IsFound first_within
found t erased ms v zero =
    let d : ℤ → ℕ = λ x. distance (without erased (vector_of ms x)) (without erased v) in
    elim (nat_le (d (pos 0)) t) as (λ b. nat_le (d (pos 0)) t ≡ b → IsFound t erased ms v 0 (cond b (Some (pos 0)) None)) [
      | true ↦ λ e. (omega (arith, ints), omega (arith, ints), close (d (pos 0)) t e)
      | false ↦ λ e x low high near. far (d (pos 0)) t e (subst (λ z. d z ≤ t) (only_zero x low high) near)
    ] refl
found t erased ms v (suc n) =
    let d : ℤ → ℕ = λ x. distance (without erased (vector_of ms x)) (without erased v) in
    elim (nat_le (d (pos (suc n))) t) as (λ b. nat_le (d (pos (suc n))) t ≡ b → IsFound t erased ms v (suc n) (cond b (Some (pos (suc n))) (cond (nat_le (d (negsuc n)) t) (Some (negsuc n)) (first_within t erased ms v n)))) [
      | true ↦ λ e. (omega (arith, ints), omega (arith, ints), close (d (pos (suc n))) t e)
      | false ↦ λ above. elim (nat_le (d (negsuc n)) t) as (λ b. nat_le (d (negsuc n)) t ≡ b → IsFound t erased ms v (suc n) (cond b (Some (negsuc n)) (first_within t erased ms v n))) [
        | true ↦ λ e. (omega (arith, ints), omega (arith, ints), close (d (negsuc n)) t e)
        | false ↦ λ below. IsFound-wider t erased ms v n (first_within t erased ms v n) above below (found t erased ms v n)
      ] refl
    ] refl

IsNearest-found : (t : ℕ) (erased : Option ℕ) (set : ModuliSet) (v : List ℕ) (o : Option ℤ) → IsFound t erased set.moduli v (range_bound set) o → IsNearest t erased set v o
unfolding IsFound
IsNearest-found t erased set v (Some x) h = record { in_range = record { low = h.0; high = h.1 }; close = h.2 }
IsNearest-found t erased set v None h = λ x within. h x within.in_range.low within.in_range.high within.close

pub IsNearest-nearest : (t : ℕ) (erased : Option ℕ) (set : ModuliSet) (v : List ℕ) → IsNearest t erased set v (nearest t erased set v)
IsNearest-nearest t erased set v = IsNearest-found t erased set v (nearest t erased set v) (found t erased set.moduli v (range_bound set))
