-- A filled and sorted table is complete and ascends.
use Rattle.std.proofs.Common.{◌≡◌, ◌≢◌, ℕ, zero, suc, ◌+◌, ◌*◌, ◌/◌, ◌<◌, ◌≤◌, false, List, [], ◌∷◌, length, get_or, map, ◌==◌, AllPairs, refl, sym, ap, ◌∙◌, subst, arith, inl, inr, ℤ, pos, negsuc, neg_ℤ, ◌-ℤ◌, ◌*ℤ◌, ◌++◌}
use Rattle.std.specs.List.Sorted.{IsPermutation, IsNonDecreasingBy}
use Rattle.std.proofs.lemmas.Int.{ints}
use Rattle.std.proofs.lemmas.Bool.{cases_lt}
use Rattle.std.proofs.lemmas.List.Sorted.{All-permutation, IsPermutation-sym, IsPermutation-map, length_permutation}
use Rattle.std.proofs.lemmas.List.{length-map, get_or-map}
use Rattle.std.proofs.lemmas.Bool.Decides.{Decides-eqb, nat_tests}
use Rattle.std.proofs.lemmas.Map.Keys.{IsDistinct-IsPermutation}
use Rattle.std.proofs.lemmas.Map.Made.{AllPairs-from_IsDistinct, IsDistinct-from_AllPairs}
use Rattle.std.proofs.Math.Nat.{mul-pos, mul-div_cancel}
use borrow.Author.Differences.{up, down}
use Rattle.number_theory.proofs.ResidueLemmas.{residue-below}
use Rattle.moduli_sets.specs.Set.{ModuliSet, IsModuliSet, redundant, information_product, range_bound, radius}
use Rattle.moduli_sets.specs.Vector.{vector_of}
use Rattle.syndrome_table.specs.declared.table.Entry.{Entry}
use Rattle.syndrome_table.specs.Syndrome.{triple_of}
use Rattle.syndrome_table.specs.Entry.{entry_key, key_of, times_of, error_of, cofactor as cofactor_of}
use Rattle.syndrome_table.specs.Table.{IsEntry, IsComplete, Ascends, shift_of}
use Rattle.syndrome_table.specs.Filling.{AreCofactors, IsReal, IsPassed, IsFilled, Lacks, first_of, turn_of}
use Rattle.syndrome_table.proofs.CaseLemmas.{info_in, modulus_positive, one_difference, one_case}
use Rattle.syndrome_table.proofs.CofactorLemmas.{IsCofactor, case_is_multiple, cancel, positive_factor}
use Rattle.syndrome_table.proofs.ShiftLemmas.{case_of_entry, same_from_key, three_of, small_of}
use Rattle.syndrome_table.proofs.VerdictLemmas.{count_is}

-- the key of an entry of so many times a cofactor
key_is : (set : ModuliSet) (cofactors : List ℤ) (entry : Entry) (i : ℕ) (times d : ℤ) → IsEntry set cofactors entry → entry.channel ≡ i → times_of entry ≡ times → times *ℤ get_or cofactors i (pos 0) ≡ d → entry_key entry ≡ key_of (vector_of (redundant set) (neg_ℤ d))
key_is set cofactors entry i times d right channel times_is is =
    let shift : shift_of cofactors entry ≡ d = ap (λ t. t *ℤ get_or cofactors entry.channel (pos 0)) times_is ∙ ap (λ j. times *ℤ get_or cofactors j (pos 0)) channel ∙ is in
    ap key_of right.triple ∙ ap (λ z. key_of (vector_of (redundant set) (neg_ℤ z))) shift

negative : (p m n : ℕ) → 0 < m → negsuc p *ℤ pos m ≡ pos n → ⊥
negative p m n some is =
    let more : 0 < (p + 1) * m = mul-pos (omega arith) some in
    omega (arith, ints, is, more)

pub turned : (k p : ℕ) → neg_ℤ (pos k) *ℤ pos p ≡ neg_ℤ (pos (k * p))
turned k p =
    let u : up (neg_ℤ (pos k)) ≡ 0 = omega (arith, ints) in
    let v : down (neg_ℤ (pos k)) ≡ k = omega (arith, ints) in
    let by_up : up (neg_ℤ (pos k)) * p ≡ 0 * p = ap (λ a. a * p) u in
    let by_down : down (neg_ℤ (pos k)) * p ≡ k * p = ap (λ a. a * p) v in
    omega (arith, ints, by_up, by_down)

natural_factor : (c : ℤ) (m n : ℕ) → 0 < m → c *ℤ pos m ≡ pos n → (p : ℕ) × (c ≡ pos p) × (p * m ≡ n)
natural_factor (pos p) m n some is = (p, refl, omega (arith, ints, is))
natural_factor (negsuc p) m n some is = absurd (negative p m n some is)

-- a cofactor is a natural number
pub natural : (set : ModuliSet) (cofactors : List ℤ) (i : ℕ) → IsModuliSet set → AreCofactors set cofactors → i < set.info → (p : ℕ) × (get_or cofactors i (pos 0) ≡ pos p) × IsCofactor set i p
natural set cofactors i rules cofactor h = natural_factor (get_or cofactors i (pos 0)) (get_or set.moduli i 0) (information_product set) (modulus_positive set i rules (omega (arith, info_in set rules))) (cofactor i h)

-- and it is M by the modulus
pub cofactor_is : (set : ModuliSet) (i p : ℕ) → IsModuliSet set → i < set.info → IsCofactor set i p → cofactor_of set i ≡ p
cofactor_is set i p rules h is =
    let m = get_or set.moduli i 0 in
    ap (λ n. n / m) (sym is) ∙ mul-div_cancel p (modulus_positive set i rules (omega (arith, info_in set rules)))

pub record IsNatural (set : ModuliSet) (cofactors : List ℤ) (i : ℕ) : Type 0 where
  pub is : get_or cofactors i (pos 0) ≡ pos (cofactor_of set i)
  pub cofactor : IsCofactor set i (cofactor_of set i)
  pub some : 0 < cofactor_of set i

pub natural_cofactor : (set : ModuliSet) (cofactors : List ℤ) (i : ℕ) → IsModuliSet set → AreCofactors set cofactors → i < set.info → IsNatural set cofactors i
natural_cofactor set cofactors i rules cofactor h =
    let found = natural set cofactors i rules cofactor h in
    let p = found.0 in
    let same = cofactor_is set i p rules h found.2 in
    let m = get_or set.moduli i 0 in
    let whole : IsCofactor set i (cofactor_of set i) = subst (IsCofactor set i) (sym same) found.2 in
    let turn : m * cofactor_of set i ≡ cofactor_of set i * m = omega arith in
    record {
      is = found.1 ∙ ap pos (sym same);
      cofactor = whole;
      some = positive_factor m (cofactor_of set i) (information_product set) (turn ∙ whole) (omega (arith, rules.wide));
    }

-- ---- a table past the last first residue
pub real_down : (set : ModuliSet) (i k : ℕ) → 0 < k → k < get_or set.moduli i 0 → k * cofactor_of set i ≤ 2 * range_bound set → IsReal set i (neg_ℤ (pos k))
real_down set i zero some less real = absurd (omega (arith, some))
real_down set i (suc k) some less real =
    let e : k + 1 ≡ suc k = omega arith in
    (omega (arith, less), subst (λ n. n * cofactor_of set i ≤ 2 * range_bound set) (sym e) real)

-- no triple of a case lacks its entry
pub complete_from_filled : (set : ModuliSet) (cofactors : List ℤ) (table : List Entry) → IsModuliSet set → radius set ≡ 1 → AreCofactors set cofactors → IsFilled set cofactors table (get_or set.moduli set.info 0) 0 → IsComplete set table
complete_from_filled set cofactors table rules one cofactor filled t i e syndrome none =
    let case = syndrome.case in
    let x = syndrome.x in
    let y = syndrome.y in
    let channel = case.channel in
    let natural = natural_cofactor set cofactors i rules cofactor channel in
    let p = cofactor_of set i in
    let multiple = case_is_multiple set i e p x y rules natural.cofactor case in
    let k = multiple.k in
    let back : neg_ℤ (y -ℤ x) ≡ x -ℤ y = omega (arith, ints) in
    let below = λ (times : ℤ). residue-below (neg_ℤ (times *ℤ pos p)) (get_or set.moduli set.info 0) (modulus_positive set set.info rules (omega (arith, count_is set rules one))) in
    let lacks : (times : ℤ) → times *ℤ get_or cofactors i (pos 0) ≡ y -ℤ x → Lacks table i times = λ times is n d h at same.
    none n d h (key_is set cofactors (get_or table n d) i times (y -ℤ x) (filled.right n d h) at same is ∙ ap (λ z. key_of (vector_of (redundant set) z)) back ∙ ap key_of (sym syndrome.is)) in
    elim multiple.is [
      | inl up ↦
          let d_is : pos k *ℤ get_or cofactors i (pos 0) ≡ y -ℤ x = ap (λ c. pos k *ℤ c) natural.is ∙ sym up in
          filled.all i (pos k) channel (multiple.some, multiple.below) (inl (below (pos k))) (lacks (pos k) d_is)
      | inr down ↦
          let d_is : neg_ℤ (pos k) *ℤ get_or cofactors i (pos 0) ≡ y -ℤ x = ap (λ c. neg_ℤ (pos k) *ℤ c) natural.is ∙ turned k p ∙ sym down.0 in
          filled.all i (neg_ℤ (pos k)) channel (real_down set i k multiple.some multiple.below down.1) (inl (below (neg_ℤ (pos k)))) (lacks (neg_ℤ (pos k)) d_is)
    ]

-- and a sort keeps that
pub complete_sorted : (set : ModuliSet) (xs ys : List Entry) → IsPermutation xs ys → IsComplete set xs → IsComplete set ys
complete_sorted set xs ys moved complete t i e syndrome none =
    complete t i e syndrome (λ k d h. All-permutation (λ (a : Entry). entry_key a ≢ key_of t) ys xs (IsPermutation-sym xs ys moved) (λ k d h. none k d h) k d h)

-- ---- entries with one key
-- are of one channel and one shift
pub one_entry : (set : ModuliSet) (cofactors : List ℤ) (a b : Entry) → IsModuliSet set → radius set ≡ 1 → IsEntry set cofactors a → IsEntry set cofactors b → entry_key a ≡ entry_key b → (a.channel ≡ b.channel) × (shift_of cofactors a ≡ shift_of cofactors b)
one_entry set cofactors a b rules one h k same =
    let count = count_is set rules one in
    let c = case_of_entry set a.channel (error_of set a) (entry_key a) (shift_of cofactors a) rules h.shift (ap key_of h.triple) in
    let d = case_of_entry set b.channel (error_of set b) (entry_key b) (shift_of cofactors b) rules k.shift (ap key_of k.triple) in
    let triple : triple_of set c.x c.y ≡ triple_of set d.x d.y =
    same_from_key (triple_of set c.x c.y) (triple_of set d.x d.y) (three_of set (c.x -ℤ c.y) count) (three_of set (d.x -ℤ d.y) count) (small_of set (c.x -ℤ c.y) rules count) (small_of set (d.x -ℤ d.y) rules count) (sym c.key ∙ same ∙ d.key) in
    let apart = one_difference set a.channel b.channel (error_of set a) (error_of set b) c.x c.y d.x d.y rules one c.case d.case triple in
    let shifts : shift_of cofactors a ≡ shift_of cofactors b = omega (arith, ints, apart, c.apart, d.apart) in
    let cases = one_case set (triple_of set c.x c.y) a.channel b.channel (error_of set a) (error_of set b) rules one (record { x = c.x; y = c.y; case = c.case; is = refl }) (record { x = d.x; y = d.y; case = d.case; is = triple }) in
    (cases.0, shifts)

flips : (a b : ℕ) → (a == b) ≡ (b == a)
flips a b = grind (arith, nat_tests)

-- ---- a sort of entries whose keys differ
pub apart_permuted : (xs ys : List Entry) → IsPermutation xs ys → AllPairs (λ (a b : ℕ). a ≢ b) (map (λ (e : Entry). entry_key e) xs) → (i j : ℕ) (d : Entry) → i < j → j < length ys → entry_key (get_or ys i d) ≢ entry_key (get_or ys j d)
apart_permuted xs ys moved differ i j d order h e =
    let keys = λ (e : Entry). entry_key e in
    let start = IsDistinct-from_AllPairs Decides-eqb (map keys xs) differ in
    let turned = IsDistinct-IsPermutation (λ a b. a == b) flips (map keys xs) (map keys ys) (IsPermutation-map keys xs ys moved) start in
    let pairs = AllPairs-from_IsDistinct Decides-eqb (map keys ys) turned in
    let long = length-map ys keys in
    let at_i = get_or-map keys ys i d 0 (omega arith) in
    let at_j = get_or-map keys ys j d 0 h in
    pairs i j 0 order (omega arith) (at_i ∙ e ∙ sym at_j)

pub ascends_sorted : (xs ys : List Entry) → IsPermutation xs ys → AllPairs (λ (a b : ℕ). a ≢ b) (map (λ (e : Entry). entry_key e) xs) → IsNonDecreasingBy (λ (e : Entry). entry_key e) ys → Ascends ys
ascends_sorted xs ys moved differ up' i j d order h =
    let most = up' i j d (omega arith) h in
    let apart = apart_permuted xs ys moved differ i j d order h in
    omega (arith, most, apart)

pub keys_apart : (xs : List Entry) → ((a b : ℕ) (d : Entry) → a < b → b < length xs → entry_key (get_or xs a d) ≢ entry_key (get_or xs b d)) → AllPairs (λ (a b : ℕ). a ≢ b) (map (λ (e : Entry). entry_key e) xs)
keys_apart xs apart i j d order h same =
    let keys = λ (e : Entry). entry_key e in
    let some : Entry = record { first = 0; second = 0; third = 0; times = 0; channel = 0; below = false } in
    let long = length-map xs keys in
    let at_i = get_or-map keys xs i some d (omega arith) in
    let at_j = get_or-map keys xs j some d (omega arith) in
    apart i j some order (omega arith) (sym at_i ∙ same ∙ at_j)

-- ---- one entry more
-- integers with one multiple
same_times : (s t : ℤ) (p : ℕ) → 0 < p → s *ℤ pos p ≡ t *ℤ pos p → s ≡ t
same_times s t p some same =
    let scaled : (up s + down t) * p ≡ (up t + down s) * p = omega (arith, ints, same) in
    let is = cancel (up s + down t) (up t + down s) p some scaled in
    omega (arith, ints, is)

at_front : (xs : List Entry) (e : Entry) (k : ℕ) (d : Entry) → k < length xs → get_or (xs ++ e ∷ []) k d ≡ get_or xs k d
at_front [] e k d h = absurd (omega arith)
at_front (x ∷ xs) e zero d h = refl
at_front (x ∷ xs) e (suc k) d h = at_front xs e k d (omega arith)

at_end : (xs : List Entry) (e : Entry) (k : ℕ) (d : Entry) → k ≡ length xs → get_or (xs ++ e ∷ []) k d ≡ e
at_end [] e zero d h = refl
at_end [] e (suc k) d h = absurd (omega arith)
at_end (x ∷ xs) e zero d h = absurd (omega arith)
at_end (x ∷ xs) e (suc k) d h = at_end xs e k d (omega arith)

pub long_more : (xs : List Entry) (e : Entry) → length (xs ++ e ∷ []) ≡ length xs + 1
long_more [] e = omega arith
long_more (x ∷ xs) e = omega (arith, long_more xs e)

-- what holds of each entry and of the new one
each_more : (P : Entry → Type 0) (xs : List Entry) (e : Entry) → ((k : ℕ) (d : Entry) → k < length xs → P (get_or xs k d)) → P e → (k : ℕ) (d : Entry) → k < length (xs ++ e ∷ []) → P (get_or (xs ++ e ∷ []) k d)
each_more P xs e all new k d h =
    elim (cases_lt k (length xs)) [
      | inl old ↦ subst P (sym (at_front xs e k d old)) (all k d old)
      | inr last ↦ subst P (sym (at_end xs e k d (omega (arith, long_more xs e)))) new
    ]

-- a new multiple has a new key
new_key : (set : ModuliSet) (cofactors : List ℤ) (x e : Entry) (p : ℕ) → IsModuliSet set → radius set ≡ 1 → IsEntry set cofactors x → IsEntry set cofactors e → get_or cofactors e.channel (pos 0) ≡ pos p → 0 < p → (x.channel ≡ e.channel → times_of x ≢ times_of e) → entry_key x ≢ entry_key e
new_key set cofactors x e p rules one right_x right_e cofactor some new same =
    let both = one_entry set cofactors x e rules one right_x right_e same in
    let c = pos p in
    let at_x : get_or cofactors x.channel (pos 0) ≡ c = ap (λ j. get_or cofactors j (pos 0)) both.0 ∙ cofactor in
    let scaled : times_of x *ℤ c ≡ times_of e *ℤ c = ap (λ z. times_of x *ℤ z) (sym at_x) ∙ both.1 ∙ ap (λ z. times_of e *ℤ z) cofactor in
    new both.0 (same_times (times_of x) (times_of e) p some scaled)

apart_more : (xs : List Entry) (e : Entry) → ((a b : ℕ) (d : Entry) → a < b → b < length xs → entry_key (get_or xs a d) ≢ entry_key (get_or xs b d)) → ((k : ℕ) (d : Entry) → k < length xs → entry_key (get_or xs k d) ≢ entry_key e) → (a b : ℕ) (d : Entry) → a < b → b < length (xs ++ e ∷ []) → entry_key (get_or (xs ++ e ∷ []) a d) ≢ entry_key (get_or (xs ++ e ∷ []) b d)
apart_more xs e old new a b d order h same =
    let key = λ (x : Entry). entry_key x in
    let a_in : a < length xs = omega (arith, long_more xs e) in
    elim (cases_lt b (length xs)) [
      | inl b_in ↦ old a b d order b_in (sym (ap key (at_front xs e a d a_in)) ∙ same ∙ ap key (at_front xs e b d b_in))
      | inr last ↦ new a d a_in (sym (ap key (at_front xs e a d a_in)) ∙ same ∙ ap key (at_end xs e b d (omega (arith, long_more xs e))))
    ]

-- an entry that lacks in a longer table lacks in its front
lacks_front : (xs : List Entry) (e : Entry) (j : ℕ) (times : ℤ) → Lacks (xs ++ e ∷ []) j times → Lacks xs j times
lacks_front xs e j times none k d h at same =
    let front = at_front xs e k d h in
    none k d (omega (arith, h, long_more xs e)) (ap (λ (a : Entry). a.channel) front ∙ at) (ap (λ (a : Entry). times_of a) front ∙ same)

lacks_last : (xs : List Entry) (e : Entry) (j : ℕ) (times : ℤ) → Lacks (xs ++ e ∷ []) j times → e.channel ≡ j → times_of e ≡ times → ⊥
lacks_last xs e j times none at same =
    let last = at_end xs e (length xs) e refl in
    none (length xs) e (omega (arith, long_more xs e)) (ap (λ (a : Entry). a.channel) last ∙ at) (ap (λ (a : Entry). times_of a) last ∙ same)

passed_more : (set : ModuliSet) (first turn i : ℕ) (times : ℤ) → IsPassed set first turn i times → IsPassed set first (turn + 1) i times
passed_more set first turn i times h = elim h [
  | inl low ↦ inl low
  | inr at ↦ inr (at.0, omega (arith, at.1))
]

-- a turn is one channel's
same_turn : (i j : ℕ) (s t : ℤ) → turn_of i s ≡ turn_of j t → i ≡ j
same_turn i j (pos k) (pos n) same = omega (arith, same)
same_turn i j (pos k) (negsuc n) same = absurd (omega (arith, same))
same_turn i j (negsuc k) (pos n) same = absurd (omega (arith, same))
same_turn i j (negsuc k) (negsuc n) same = omega (arith, same)

-- the entry of a turn
pub push_entry : (set : ModuliSet) (cofactors : List ℤ) (xs : List Entry) (first turn i : ℕ) (times : ℤ) (e : Entry) → IsModuliSet set → radius set ≡ 1 → AreCofactors set cofactors → i < set.info → IsFilled set cofactors xs first turn → IsEntry set cofactors e → e.channel ≡ i → times_of e ≡ times → first_of set i times ≡ first → turn_of i times ≡ turn → ((s : ℤ) → IsReal set i s → first_of set i s ≡ first → turn_of i s ≡ turn → s ≡ times) → IsFilled set cofactors (xs ++ e ∷ []) first (turn + 1)
push_entry set cofactors xs first turn i times e rules one cofactor h filled right channel times_is at_first at_turn only =
    let natural = natural_cofactor set cofactors i rules cofactor h in
    let cofactor_e : get_or cofactors e.channel (pos 0) ≡ pos (cofactor_of set i) = ap (λ j. get_or cofactors j (pos 0)) channel ∙ natural.is in
    let here : first_of set e.channel (times_of e) ≡ first = ap (λ j. first_of set j (times_of e)) channel ∙ ap (first_of set i) times_is ∙ at_first in
    let turn_here : turn_of e.channel (times_of e) ≡ turn = ap (λ j. turn_of j (times_of e)) channel ∙ ap (turn_of i) times_is ∙ at_turn in
    let Passed = λ (x : Entry). IsPassed set first (turn + 1) x.channel (times_of x) in
    record {
      right = each_more (IsEntry set cofactors) xs e filled.right right;
      passed = each_more Passed xs e (λ k d in'. passed_more set first turn _ _ (filled.passed k d in')) (inr (here, omega (arith, turn_here)));
      apart = apart_more xs e filled.apart (λ k d in'. new_key set cofactors (get_or xs k d) e (cofactor_of set i) rules one (filled.right k d in') right cofactor_e natural.some (λ same is.
          let x = get_or xs k d in
          let first_x : first_of set x.channel (times_of x) ≡ first = ap (λ j. first_of set j (times_of x)) same ∙ ap (first_of set e.channel) is ∙ here in
          let turn_x : turn_of x.channel (times_of x) ≡ turn = ap (λ j. turn_of j (times_of x)) same ∙ ap (turn_of e.channel) is ∙ turn_here in
          elim (filled.passed k d in') [
            | inl low ↦ absurd (omega (arith, low, first_x))
            | inr at ↦ absurd (omega (arith, at.1, turn_x))
          ]));
      all = λ j s j_in real passed none. elim passed [
        | inl low ↦ filled.all j s j_in real (inl low) (lacks_front xs e j s none)
        | inr at ↦ elim (cases_lt (turn_of j s) turn) [
          | inl old ↦ filled.all j s j_in real (inr (at.0, old)) (lacks_front xs e j s none)
          | inr new ↦
              let same : turn_of j s ≡ turn = omega (arith, at.1, new) in
              let j_is : j ≡ i = same_turn j i s times (same ∙ sym at_turn) in
              let s_is : s ≡ times = only s (subst (λ n. IsReal set n s) j_is real) (ap (λ n. first_of set n s) (sym j_is) ∙ at.0) (ap (λ n. turn_of n s) (sym j_is) ∙ same) in
              lacks_last xs e j s none (channel ∙ sym j_is) (times_is ∙ sym s_is)
        ]
      ];
      small = omega (arith, filled.small, long_more xs e);
    }

-- and a turn without one
pub skip_turn : (set : ModuliSet) (cofactors : List ℤ) (xs : List Entry) (first turn : ℕ) → IsFilled set cofactors xs first turn → ((j : ℕ) (s : ℤ) → j < set.info → IsReal set j s → first_of set j s ≡ first → turn_of j s ≡ turn → ⊥) → IsFilled set cofactors xs first (turn + 1)
skip_turn set cofactors xs first turn filled none = record {
  right = filled.right;
  passed = λ k d h. passed_more set first turn _ _ (filled.passed k d h);
  apart = filled.apart;
  all = λ j s j_in real passed lacks. elim passed [
    | inl low ↦ filled.all j s j_in real (inl low) lacks
    | inr at ↦ elim (cases_lt (turn_of j s) turn) [
      | inl old ↦ filled.all j s j_in real (inr (at.0, old)) lacks
      | inr new ↦ none j s j_in real at.0 (omega (arith, at.1, new))
    ]
  ];
  small = omega (arith, filled.small);
}

turns_below : (info j : ℕ) (s : ℤ) → j < info → turn_of j s < 2 * info
turns_below info j (pos k) h = omega arith
turns_below info j (negsuc k) h = omega arith

-- after the turns of all channels comes the next first residue
pub next_first : (set : ModuliSet) (cofactors : List ℤ) (xs : List Entry) (first : ℕ) → set.info ≤ 12 → IsFilled set cofactors xs first (2 * set.info) → IsFilled set cofactors xs (first + 1) 0
next_first set cofactors xs first few filled = record {
  right = filled.right;
  passed = λ k d h. elim (filled.passed k d h) [
    | inl low ↦ inl (omega (arith, low))
    | inr at ↦ inl (omega (arith, at.0))
  ];
  apart = filled.apart;
  all = λ j s j_in real passed lacks. elim passed [
    | inr at ↦ absurd (omega (arith, at.1))
    | inl low ↦ elim (cases_lt (first_of set j s) first) [
      | inl before ↦ filled.all j s j_in real (inl before) lacks
      | inr here ↦ filled.all j s j_in real (inr (omega (arith, low, here), turns_below set.info j s j_in)) lacks
    ]
  ];
  small = omega (arith, filled.small);
}

none_passed : (set : ModuliSet) (i : ℕ) (times : ℤ) → IsPassed set 0 0 i times → ⊥
none_passed set i times h = elim h [
  | inl low ↦ omega (arith, low)
  | inr at ↦ omega (arith, at.1)
]

-- the empty table
pub filled_none : (set : ModuliSet) (cofactors : List ℤ) → IsFilled set cofactors [] 0 0
filled_none set cofactors = record {
  right = λ k d h. absurd (omega arith);
  passed = λ k d h. absurd (omega arith);
  apart = λ a b d order h. absurd (omega arith);
  all = λ i times i_in real passed lacks. none_passed set i times passed;
  small = omega arith;
}

-- another order
pub filled_permuted : (set : ModuliSet) (cofactors : List ℤ) (xs ys : List Entry) (first turn : ℕ) → IsPermutation xs ys → IsFilled set cofactors xs first turn → IsFilled set cofactors ys first turn
filled_permuted set cofactors xs ys first turn moved filled = record {
  right = All-permutation (IsEntry set cofactors) xs ys moved filled.right;
  passed = All-permutation (λ (x : Entry). IsPassed set first turn x.channel (times_of x)) xs ys moved filled.passed;
  apart = apart_permuted xs ys moved (keys_apart xs filled.apart);
  all = λ i times i_in real passed lacks. filled.all i times i_in real passed (All-permutation (λ (x : Entry). x.channel ≡ i → times_of x ≢ times) ys xs (IsPermutation-sym xs ys moved) lacks);
  small = omega (arith, filled.small, length_permutation xs ys moved);
}
