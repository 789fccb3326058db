-- The entries of a finished table are the triples of all cases.
use Rattle.std.proofs.Common.{◌≡◌, ◌≢◌, ℕ, zero, suc, ◌<◌, List, [], ◌∷◌, length, get_or, refl, sym, ap, ◌∙◌, subst, arith, inl, inr, ◌⊎◌, ℤ, neg_ℤ, ◌-ℤ◌}
use Rattle.std.proofs.lemmas.Bool.{cases_lt, cases_eq}
use Rattle.moduli_sets.specs.Set.{ModuliSet, IsModuliSet, redundant, radius}
use Rattle.moduli_sets.specs.Vector.{vector_of}
use Rattle.std.proofs.lemmas.Int.{ints}
use Rattle.syndrome_table.specs.declared.table.Entry.{Entry}
use Rattle.syndrome_table.specs.Syndrome.{IsSyndrome}
use Rattle.syndrome_table.specs.Entry.{entry_triple, entry_key, key_of, error_of}
use Rattle.syndrome_table.specs.Table.{IsEntry, IsComplete, Ascends, shift_of}
use Rattle.syndrome_table.specs.Entries.{Precedes, HasEntry, AreSyndromes}
use Rattle.syndrome_table.proofs.CaseLemmas.{one_case}
use Rattle.syndrome_table.proofs.ShiftLemmas.{case_from_shift, same_from_key, three_of, small_of}
use Rattle.syndrome_table.proofs.VerdictLemmas.{count_is}

record Found (table : List Entry) (key : ℕ) : Type 0 where
  place : ℕ
  in_table : place < length table
  key_is : (d : Entry) → entry_key (get_or table place d) ≡ key

-- a key is that of an entry, or of none
find_key : (table : List Entry) (key : ℕ) → (Found table key) ⊎ ((k : ℕ) (d : Entry) → k < length table → entry_key (get_or table k d) ≢ key)
find_key [] key = inr (λ k d h. absurd (omega (arith, h)))
find_key (e ∷ es) key =
    elim (cases_eq (entry_key e) key) [
      | inl here ↦ inl (record { place = 0; in_table = omega arith; key_is = λ d. here })
      | inr off ↦ elim (find_key es key) [
        | inl found ↦ inl (record { place = suc found.place; in_table = omega (arith, found.in_table); key_is = found.key_is })
        | inr none ↦ inr (later e es key off none)
      ]
    ]
  where
    later : (e : Entry) (es : List Entry) (key : ℕ) → entry_key e ≢ key → ((k : ℕ) (d : Entry) → k < length es → entry_key (get_or es k d) ≢ key) → (k : ℕ) (d : Entry) → k < length (e ∷ es) → entry_key (get_or (e ∷ es) k d) ≢ key
    later e es key off none zero d h = off
    later e es key off none (suc k) d h = none k d (omega arith)

-- an entry is that of a case
entry_case : (set : ModuliSet) (cofactors : List ℤ) (entry : Entry) → IsModuliSet set → IsEntry set cofactors entry → IsSyndrome set (entry_triple entry) entry.channel (error_of set entry)
entry_case set cofactors entry rules h =
    let d = shift_of cofactors entry in
    let c = case_from_shift set entry.channel (error_of set entry) d rules h.shift in
    let turned : neg_ℤ d ≡ c.0 -ℤ c.1 = omega (arith, ints, c.3) in
    record { x = c.0; y = c.1; case = c.2; is = h.triple ∙ ap (vector_of (redundant set)) turned }

-- each of its residues has 16 bits
entry_small : (set : ModuliSet) (cofactors : List ℤ) (entry : Entry) → IsModuliSet set → radius set ≡ 1 → IsEntry set cofactors entry → (k : ℕ) → k < 3 → get_or (entry_triple entry) k 0 < 65536
entry_small set cofactors entry rules one h =
    subst (λ (t : List ℕ). (k : ℕ) → k < 3 → get_or t k 0 < 65536) (sym h.triple) (small_of set (neg_ℤ (shift_of cofactors entry)) rules (count_is set rules one))

-- where the keys ascend, so do the triples
precedes : (t u : List ℕ) → key_of t < key_of u → ((k : ℕ) → k < 3 → get_or t k 0 < 65536) → ((k : ℕ) → k < 3 → get_or u k 0 < 65536) → Precedes t u
precedes t u keys small_t small_u =
    let t0 = small_t 0 (omega arith) in
    let t1 = small_t 1 (omega arith) in
    let t2 = small_t 2 (omega arith) in
    let u0 = small_u 0 (omega arith) in
    let u1 = small_u 1 (omega arith) in
    let u2 = small_u 2 (omega arith) in
    elim (cases_lt (get_or t 0 0) (get_or u 0 0)) [
      | inl low ↦ inl low
      | inr first ↦
          let same0 : get_or t 0 0 ≡ get_or u 0 0 = omega (arith, keys, first) in
          elim (cases_lt (get_or t 1 0) (get_or u 1 0)) [
            | inl low ↦ inr (same0, inl low)
            | inr second ↦
                let same1 : get_or t 1 0 ≡ get_or u 1 0 = omega (arith, keys, second, same0) in
                inr (same0, inr (same1, omega (arith, keys, same0, same1)))
          ]
    ]

syndrome_small : (set : ModuliSet) (t : List ℕ) (i e : ℕ) → IsModuliSet set → radius set ≡ 1 → IsSyndrome set t i e → (length t ≡ 3) × ((k : ℕ) → k < 3 → get_or t k 0 < 65536)
syndrome_small set t i e rules one h =
    let count = count_is set rules one in
    let z = h.x -ℤ h.y in
    subst (λ (u : List ℕ). (length u ≡ 3) × ((k : ℕ) → k < 3 → get_or u k 0 < 65536)) (sym h.is) (three_of set z count, small_of set z rules count)

-- a case that the table does not lack has its entry
has_entry : (set : ModuliSet) (cofactors : List ℤ) (table : List Entry) (t : List ℕ) (i e : ℕ) → IsModuliSet set → radius set ≡ 1 → ((k : ℕ) (d : Entry) → k < length table → IsEntry set cofactors (get_or table k d)) → IsComplete set table → IsSyndrome set t i e → HasEntry set table t i e
has_entry set cofactors table t i e rules one right complete syndrome =
    let size = syndrome_small set t i e rules one syndrome in
    elim (find_key table (key_of t)) [
      | inr none ↦ absurd (complete t i e syndrome none)
      | inl found ↦
          let entry = λ (d : Entry). get_or table found.place d in
          let holds = λ (d : Entry). right found.place d found.in_table in
          let same : (d : Entry) → entry_triple (entry d) ≡ t = λ d. same_from_key (entry_triple (entry d)) t refl size.0 (entry_small set cofactors (entry d) rules one (holds d)) size.1 (found.key_is d) in
          let told = λ (d : Entry). one_case set t (entry d).channel i (error_of set (entry d)) e rules one (subst (λ (u : List ℕ). IsSyndrome set u (entry d).channel (error_of set (entry d))) (same d) (entry_case set cofactors (entry d) rules (holds d))) syndrome in
          record {
            place = found.place;
            in_table = found.in_table;
            triple = same;
            channel = λ d. (told d).0;
            error = λ d. (told d).1;
          }
    ]

pub are_syndromes : (set : ModuliSet) (cofactors : List ℤ) (table : List Entry) → IsModuliSet set → radius set ≡ 1 → ((k : ℕ) (d : Entry) → k < length table → IsEntry set cofactors (get_or table k d)) → IsComplete set table → Ascends table → AreSyndromes set table
are_syndromes set cofactors table rules one right complete ascends = record {
  each = λ k d h. entry_case set cofactors (get_or table k d) rules (right k d h);
  all = λ t i e syndrome. has_entry set cofactors table t i e rules one right complete syndrome;
  ascending = λ a b d order h.
      let a_in : a < length table = omega arith in
      precedes (entry_triple (get_or table a d)) (entry_triple (get_or table b d)) (ascends a b d order h) (entry_small set cofactors (get_or table a d) rules one (right a d a_in)) (entry_small set cofactors (get_or table b d) rules one (right b d h));
}
