-- Multiples of a cofactor: their first residues, and their entries.
use Rattle.std.proofs.Common.{◌≡◌, ℕ, zero, suc, ◌+◌, ◌-◌, ◌*◌, ◌/◌, ◌%◌, ◌<◌, ◌≤◌, Bool, true, false, if◌then◌else◌, List, get_or, refl, sym, ap, ◌∙◌, subst, arith, inl, inr, ℤ, pos, negsuc, neg_ℤ, ◌*ℤ◌}
use Rattle.std.proofs.lemmas.Int.{ints}
use Rattle.std.proofs.lemmas.Bool.{cases_lt}
use Rattle.std.proofs.Math.Nat.{mod-eq_of_lt, mod-lt, div-add-mod'}
use Rattle.number_theory.specs.Coprime.{IsInverse}
use Rattle.number_theory.specs.Residue.{residue}
use Rattle.number_theory.proofs.ResidueLemmas.{residue-mul, residue-neg, residue_is, residue_same}
use Rattle.moduli_sets.specs.Set.{ModuliSet, IsModuliSet, redundant, range_bound}
use Rattle.moduli_sets.specs.Vector.{vector_of}
use Rattle.syndrome_table.specs.declared.table.Entry.{Entry}
use Rattle.syndrome_table.specs.Entry.{entry_triple, signed, times_of, error_of, cofactor as cofactor_of}
use Rattle.syndrome_table.specs.Table.{IsEntry, IsShift, shift_of}
use Rattle.syndrome_table.specs.Filling.{AreCofactors, IsReal, first_of, turn_of}
use Rattle.syndrome_table.proofs.CofactorLemmas.{IsCofactor, shift_up, shift_down}
use Rattle.syndrome_table.proofs.FilledLemmas.{turned, cofactor_is, natural_cofactor}

-- ---- multiples by a modulus
-- what leaves 1 is no factor
pub mod_times : (a x m : ℕ) → 0 < m → x % m ≡ 1 → (a * x) % m ≡ a % m
mod_times a x m some one =
    let factor : (a % m) * 1 ≡ a % m = omega arith in
    residue-mul (pos a) (pos x) m some ∙ ap (λ n. ((a % m) * n) % m) one ∙ ap (λ n. n % m) factor ∙ mod-eq_of_lt (mod-lt a some)

-- a number and its residue have the same multiples
pub times_residue : (a b m : ℕ) → 0 < m → (a * (b % m)) % m ≡ (a * b) % m
times_residue a b m some =
    residue-mul (pos a) (pos (b % m)) m some ∙ ap (λ n. ((a % m) * n) % m) (mod-eq_of_lt (mod-lt b some)) ∙ sym (residue-mul (pos a) (pos b) m some)

-- so many times a number that has an inverse tell how many
same_multiple : (a b p w m : ℕ) → 0 < m → (p * w) % m ≡ 1 → (a * p) % m ≡ (b * p) % m → a % m ≡ b % m
same_multiple a b p w m some one same =
    let by_w = λ (n : ℕ). let turn : n * (p * w) ≡ w * (n * p) = omega arith in
    sym (mod_times n (p * w) m some one) ∙ ap (λ k. k % m) turn ∙ sym (times_residue w (n * p) m some) in
    by_w a ∙ ap (λ n. (w * n) % m) same ∙ sym (by_w b)

neg_same : (x y : ℤ) (m : ℕ) → 0 < m → residue (neg_ℤ x) m ≡ residue (neg_ℤ y) m → residue x m ≡ residue y m
neg_same x y m some same =
    let back = λ (z : ℤ). let twice : neg_ℤ (neg_ℤ z) ≡ z = omega (arith, ints) in
    ap (λ a. residue a m) (sym twice) ∙ residue-neg (neg_ℤ z) m some in
    back x ∙ ap (λ n. residue (neg_ℤ (pos n)) m) same ∙ sym (back y)

one_below : (k n m : ℕ) → 0 < k → k < m → n ≤ m → k % m ≡ n % m → k ≡ n
one_below k n m some less most same =
    let at : k % m ≡ k = mod-eq_of_lt less in
    elim (cases_lt n m) [
      | inl low ↦ sym at ∙ same ∙ mod-eq_of_lt low
      | inr high ↦
          let is : n ≡ 1 * m = omega arith in
          let turns : n % m ≡ 0 = residue_same (pos n) (pos 0) m 0 1 (omega arith) (omega (arith, ints, is)) ∙ mod-eq_of_lt (omega arith) in
          absurd (omega (arith, at, same, turns))
    ]

-- ---- residues of entries
pub residue_of_down : (t q m : ℕ) → residue (neg_ℤ (neg_ℤ (pos t) *ℤ pos q)) m ≡ (t * q) % m
residue_of_down t q m =
    let back : neg_ℤ (neg_ℤ (pos (t * q))) ≡ pos (t * q) = omega (arith, ints) in
    ap (λ z. residue (neg_ℤ z) m) (turned t q) ∙ ap (λ z. residue z m) back

pub residue_of_none : (n m : ℕ) → 0 < m → n % m ≡ 0 → residue (neg_ℤ (pos n)) m ≡ n % m
residue_of_none n m some none =
    let q = n / m in
    let parts : q * m + n % m ≡ n = div-add-mod' n m in
    residue_is (neg_ℤ (pos n)) m q 0 some (omega (arith, ints, parts, none)) ∙ mod-eq_of_lt some ∙ sym none

pub residue_of_up : (n m : ℕ) → 0 < m → 0 < n % m → residue (neg_ℤ (pos n)) m ≡ m - n % m
residue_of_up n m some more =
    let q = n / m in
    let parts : q * m + n % m ≡ n = div-add-mod' n m in
    let below = mod-lt n some in
    let turns : (q + 1) * m ≡ q * m + m = omega arith in
    residue_is (neg_ℤ (pos n)) m (q + 1) (m - n % m) some (omega (arith, ints, parts, turns, below)) ∙ mod-eq_of_lt (omega (arith, more, below))

-- a number in place of which its residue stands
pub residue_of_part : (times : ℤ) (q m : ℕ) → 0 < m → residue (neg_ℤ (times *ℤ pos (q % m))) m ≡ residue (neg_ℤ (times *ℤ pos q)) m
residue_of_part times q m some =
    let inside : residue (times *ℤ pos (q % m)) m ≡ residue (times *ℤ pos q) m = residue-mul times (pos (q % m)) m some ∙ ap (λ n. (residue times m * n) % m) (mod-eq_of_lt (mod-lt q some)) ∙ sym (residue-mul times (pos q) m some) in
    residue-neg (times *ℤ pos (q % m)) m some ∙ ap (λ n. residue (neg_ℤ (pos n)) m) inside ∙ sym (residue-neg (times *ℤ pos q) m some)

-- ---- first residues
-- each turn of a first residue has one number of cofactors
pub only_one : (set : ModuliSet) (i first times w : ℕ) (below : Bool) (s : ℤ) → IsInverse (cofactor_of set i) (get_or set.moduli set.info 0) w → get_or set.moduli i 0 ≤ get_or set.moduli set.info 0 → times ≤ get_or set.moduli set.info 0 → IsReal set i s → first_of set i s ≡ first → turn_of i s ≡ 2 * i + (if below then 1 else 0) → first_of set i (signed times below) ≡ first → s ≡ signed times below
only_one set i first times w false (negsuc k) inverse wide most real at turn here = absurd (omega (arith, turn))
only_one set i first times w true (pos k) inverse wide most real at turn here = absurd (omega (arith, turn))
only_one set i first times w false (pos k) inverse wide most real at turn here =
    let r = get_or set.moduli set.info 0 in
    let p = cofactor_of set i in
    let some : 0 < r = omega (arith, inverse.small) in
    let same = neg_same (pos (k * p)) (pos (times * p)) r some (at ∙ sym here) in
    ap pos (one_below k times r real.0 (omega (arith, real.1)) most (same_multiple k times p w r some inverse.leaves_one same))
only_one set i first times w true (negsuc k) inverse wide most real at turn here =
    let r = get_or set.moduli set.info 0 in
    let p = cofactor_of set i in
    let some : 0 < r = omega (arith, inverse.small) in
    let same = neg_same (neg_ℤ (pos (suc k * p))) (neg_ℤ (pos (times * p))) r some (ap (λ z. residue (neg_ℤ z) r) (sym (turned (suc k) p)) ∙ at ∙ sym here ∙ ap (λ z. residue (neg_ℤ z) r) (turned times p)) in
    let both = neg_same (pos (suc k * p)) (pos (times * p)) r some same in
    ap (λ n. neg_ℤ (pos n)) (one_below (suc k) times r (omega arith) (omega (arith, real.0)) most (same_multiple (suc k) times p w r some inverse.leaves_one both))

-- the number of cofactors below that has a first residue
down_residue : (first p w r : ℕ) → IsInverse p r w → first < r → (((first * w) % r) * p) % r ≡ first
down_residue first p w r inverse less =
    let some : 0 < r = omega (arith, inverse.small) in
    let t = (first * w) % r in
    let turn : t * p ≡ p * t = omega arith in
    let whole : p * (first * w) ≡ first * (p * w) = omega arith in
    ap (λ n. n % r) turn ∙ times_residue p (first * w) r some ∙ ap (λ n. n % r) whole ∙ mod_times first (p * w) r some inverse.leaves_one ∙ mod-eq_of_lt less

pub first_down : (set : ModuliSet) (i first w : ℕ) → IsInverse (cofactor_of set i) (get_or set.moduli set.info 0) w → first < get_or set.moduli set.info 0 → first_of set i (neg_ℤ (pos ((first * w) % get_or set.moduli set.info 0))) ≡ first
first_down set i first w inverse less =
    let r = get_or set.moduli set.info 0 in
    let p = cofactor_of set i in
    let t = (first * w) % r in
    let back : neg_ℤ (neg_ℤ (pos (t * p))) ≡ pos (t * p) = omega (arith, ints) in
    ap (λ z. residue (neg_ℤ z) r) (turned t p) ∙ ap (λ z. residue z r) back ∙ down_residue first p w r inverse less

-- and the number above
pub first_up : (set : ModuliSet) (i first w n : ℕ) → IsInverse (cofactor_of set i) (get_or set.moduli set.info 0) w → first < get_or set.moduli set.info 0 → n + (first * w) % get_or set.moduli set.info 0 ≡ get_or set.moduli set.info 0 → first_of set i (pos n) ≡ first
first_up set i first w n inverse less whole =
    let r = get_or set.moduli set.info 0 in
    let p = cofactor_of set i in
    let t = (first * w) % r in
    let scaled : (n + t) * p ≡ r * p = ap (λ a. a * p) whole in
    residue_same (neg_ℤ (pos (n * p))) (pos (t * p)) r p 0 (omega (arith, inverse.small)) (omega (arith, ints, scaled)) ∙ down_residue first p w r inverse less

-- the turn of a real one
pub turn_signed : (set : ModuliSet) (i times : ℕ) (below : Bool) → IsReal set i (signed times below) → turn_of i (signed times below) ≡ 2 * i + (if below then 1 else 0)
turn_signed set i times false real = omega arith
turn_signed set i zero true real = absurd (omega (arith, real.0))
turn_signed set i (suc k) true real = refl

-- a turn is one channel's
pub turn_channel : (j i : ℕ) (s : ℤ) (below : Bool) → turn_of j s ≡ 2 * i + (if below then 1 else 0) → j ≡ i
turn_channel j i (pos k) false turn = omega (arith, turn)
turn_channel j i (pos k) true turn = absurd (omega (arith, turn))
turn_channel j i (negsuc k) false turn = absurd (omega (arith, turn))
turn_channel j i (negsuc k) true turn = omega (arith, turn)

-- ---- entries of multiples
-- the error of an entry: its shift is so many cofactors
error_is : (set : ModuliSet) (e : Entry) (i p : ℕ) (times : ℤ) → IsModuliSet set → i < set.info → IsCofactor set i p → e.channel ≡ i → times_of e ≡ times → error_of set e ≡ residue (times *ℤ pos p) (get_or set.moduli i 0)
error_is set e i p times rules channel_in is channel times_is =
    let m = get_or set.moduli i 0 in
    let quotient = cofactor_is set i p rules channel_in is in
    ap (λ t. residue (t *ℤ pos (cofactor_of set e.channel)) (get_or set.moduli e.channel 0)) times_is ∙ ap (λ j. residue (times *ℤ pos (cofactor_of set j)) (get_or set.moduli j 0)) channel ∙ ap (λ q. residue (times *ℤ pos q) m) quotient

right_up : (set : ModuliSet) (cofactors : List ℤ) (e : Entry) (i k p : ℕ) → IsModuliSet set → i < set.info → get_or cofactors i (pos 0) ≡ pos p → IsCofactor set i p → 0 < k → k < get_or set.moduli i 0 → e.channel ≡ i → times_of e ≡ pos k → entry_triple e ≡ vector_of (redundant set) (neg_ℤ (pos (k * p))) → IsEntry set cofactors e
right_up set cofactors e i k p rules channel_in is cofactor some less channel times triple =
    let d_is : shift_of cofactors e ≡ pos (k * p) = ap (λ t. t *ℤ get_or cofactors e.channel (pos 0)) times ∙ ap (λ j. pos k *ℤ get_or cofactors j (pos 0)) channel ∙ ap (λ c. pos k *ℤ c) is in
    let error = error_is set e i p (pos k) rules channel_in cofactor channel times in
    let shift = shift_up set i p k (error_of set e) rules channel_in cofactor some less error in
    record {
      shift = subst (λ d. IsShift set e.channel (error_of set e) d) (sym d_is) (subst (λ j. IsShift set j (error_of set e) (pos (k * p))) (sym channel) shift);
      triple = triple ∙ ap (λ d. vector_of (redundant set) (neg_ℤ d)) (sym d_is);
    }

right_down : (set : ModuliSet) (cofactors : List ℤ) (e : Entry) (i k p : ℕ) → IsModuliSet set → i < set.info → get_or cofactors i (pos 0) ≡ pos p → IsCofactor set i p → 0 < k → k < get_or set.moduli i 0 → k * p ≤ 2 * range_bound set → e.channel ≡ i → times_of e ≡ neg_ℤ (pos k) → entry_triple e ≡ vector_of (redundant set) (neg_ℤ (neg_ℤ (pos (k * p)))) → IsEntry set cofactors e
right_down set cofactors e i k p rules channel_in is cofactor some less real channel times triple =
    let d_is : shift_of cofactors e ≡ neg_ℤ (pos (k * p)) = ap (λ t. t *ℤ get_or cofactors e.channel (pos 0)) times ∙ ap (λ j. neg_ℤ (pos k) *ℤ get_or cofactors j (pos 0)) channel ∙ ap (λ c. neg_ℤ (pos k) *ℤ c) is ∙ turned k p in
    let error = error_is set e i p (neg_ℤ (pos k)) rules channel_in cofactor channel times ∙ ap (λ d. residue d (get_or set.moduli i 0)) (turned k p) in
    let shift = shift_down set i p k (error_of set e) rules channel_in cofactor some less real error in
    record {
      shift = subst (λ d. IsShift set e.channel (error_of set e) d) (sym d_is) (subst (λ j. IsShift set j (error_of set e) (neg_ℤ (pos (k * p)))) (sym channel) shift);
      triple = triple ∙ ap (λ d. vector_of (redundant set) (neg_ℤ d)) (sym d_is);
    }

-- the entry of a wrong residue
pub right_entry : (set : ModuliSet) (cofactors : List ℤ) (e : Entry) (i : ℕ) (times : ℤ) → IsModuliSet set → AreCofactors set cofactors → i < set.info → IsReal set i times → e.channel ≡ i → times_of e ≡ times → entry_triple e ≡ vector_of (redundant set) (neg_ℤ (times *ℤ pos (cofactor_of set i))) → IsEntry set cofactors e
right_entry set cofactors e i (pos k) rules cofactor h real channel times triple =
    let natural = natural_cofactor set cofactors i rules cofactor h in
    right_up set cofactors e i k (cofactor_of set i) rules h natural.is natural.cofactor real.0 real.1 channel times triple
right_entry set cofactors e i (negsuc k) rules cofactor h real channel times triple =
    let natural = natural_cofactor set cofactors i rules cofactor h in
    let p = cofactor_of set i in
    let e' : k + 1 ≡ suc k = omega arith in
    let most = subst (λ n. n * p ≤ 2 * range_bound set) e' real.1 in
    right_down set cofactors e i (suc k) p rules h natural.is natural.cofactor (omega arith) (omega (arith, real.0)) most channel times (triple ∙ ap (λ z. vector_of (redundant set) (neg_ℤ z)) (turned (suc k) p))
