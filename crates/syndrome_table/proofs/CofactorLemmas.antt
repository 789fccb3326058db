-- Shifts of a channel: the multiples of the product of the other information moduli.
use Rattle.std.proofs.Common.{◌≡◌, ◌≢◌, ℕ, zero, suc, ◌+◌, ◌-◌, ◌*◌, ◌/◌, ◌<◌, ◌≤◌, List, [], ◌∷◌, length, get_or, sym, ap, ◌∙◌, subst, arith, inl, inr, ◌⊎◌, ℤ, pos, neg_ℤ, ◌-ℤ◌}
use Rattle.std.specs.Int.{◌∣◌}
use Rattle.std.proofs.lemmas.Int.{ints, by_lt_z}
use Rattle.std.proofs.lemmas.Bool.{cases_lt, cases_eq}
use Rattle.std.proofs.lemmas.List.{length-take-le, get_or-take, get_or_default}
use Rattle.std.proofs.lemmas.Nat.Gcd.{le_of_dvd}
use Rattle.std.proofs.Math.Nat.{mod-eq_of_lt, dvd-mul_left, dvd-mul_right, dvd-mul_right_of_dvd, dvd-mul_left_of_dvd, mul-div_cancel', mul_comm, mul-lt-mul_of_pos_right, lt_of_mul-lt-mul_right}
use borrow.Author.Differences.{up, down}
use Rattle.number_theory.specs.Residue.{residue}
use Rattle.number_theory.specs.Coprime.{IsCoprime, product}
use Rattle.number_theory.proofs.CoprimeLemmas.{dvd_other_factor, ArePairwiseCoprime-take, product-dvd, dvd_difference, IsCoprime-swap}
use Rattle.number_theory.proofs.ResidueLemmas.{residue_same}
use Rattle.moduli_sets.specs.Set.{ModuliSet, IsModuliSet, information, information_product, range_bound}
use Rattle.syndrome_table.specs.Syndrome.{IsCase}
use Rattle.syndrome_table.specs.Table.{IsShift}
use Rattle.syndrome_table.proofs.CaseLemmas.{info_in, modulus_positive, case-same, case-wrong, error_of}

-- p is the product of the information moduli but that of channel i
abbrev pub IsCofactor : ModuliSet → ℕ → ℕ → Type 0
IsCofactor set i p = p * get_or set.moduli i 0 ≡ information_product set

-- what every information modulus divides, the product divides
product_dvd_all : (set : ModuliSet) (n : ℕ) → IsModuliSet set → ((j : ℕ) → j < set.info → get_or set.moduli j 0 ∣ n) → information_product set ∣ n
product_dvd_all set n rules each =
    let within = info_in set rules in
    let size : length (information set) ≡ set.info = length-take-le set.info set.moduli (omega arith) in
    product-dvd (information set) n (ArePairwiseCoprime-take set.info set.moduli rules.coprime)
    (λ j d h. let j_in : j < set.info = omega (arith, size) in
    let at : get_or (information set) j d ≡ get_or set.moduli j 0 = get_or-take set.info set.moduli j d j_in ∙ get_or_default set.moduli j d 0 (omega arith) in
    subst (λ m. m ∣ n) (sym at) (each j j_in))

pub cancel : (a b m : ℕ) → 0 < m → a * m ≡ b * m → a ≡ b
cancel a b m some same =
    elim (cases_lt a b) [
      | inl low ↦ let less = mul-lt-mul_of_pos_right low some in absurd (omega (arith, less, same))
      | inr up' ↦ elim (cases_lt b a) [
        | inl high ↦ let less = mul-lt-mul_of_pos_right high some in absurd (omega (arith, less, same))
        | inr here ↦ omega arith
      ]
    ]

pub positive_factor : (p q n : ℕ) → p * q ≡ n → 0 < n → 0 < q
positive_factor p zero n is some = absurd (omega (arith, is))
positive_factor p (suc q) n is some = omega arith

-- a multiple of the others' moduli that is below M is a multiple of the cofactor by less than the modulus
pub multiple_of_cofactor : (set : ModuliSet) (i p n : ℕ) → IsModuliSet set → i < set.info → IsCofactor set i p → 0 < n → n < information_product set → ((j : ℕ) → j < set.info → j ≢ i → get_or set.moduli j 0 ∣ n) → (k : ℕ) × (0 < k) × (k < get_or set.moduli i 0) × (n ≡ k * p)
multiple_of_cofactor set i p n rules channel cofactor some small each =
    let m = get_or set.moduli i 0 in
    let whole : information_product set ∣ n * m =
    product_dvd_all set (n * m) rules (λ j h. elim (cases_eq j i) [
      | inl at ↦ subst (λ a. get_or set.moduli a 0 ∣ n * m) (sym at) (dvd-mul_left m n)
      | inr off ↦ dvd-mul_right_of_dvd (get_or set.moduli j 0) (each j h off) m
    ]) in
    let q = (n * m) / information_product set in
    let parts : information_product set * q ≡ n * m = mul-div_cancel' (information_product set) whole in
    let positive = modulus_positive set i rules (omega (arith, info_in set rules)) in
    let turn : (p * q) * m ≡ (p * m) * q = omega arith in
    let turned : (p * q) * m ≡ n * m = turn ∙ ap (λ a. a * q) cofactor ∙ parts in
    let is : p * q ≡ n = cancel (p * q) n m positive turned in
    let more : 0 < q = positive_factor p q n is some in
    let back : q * p ≡ n = mul_comm q p ∙ is in
    let front : m * p ≡ information_product set = mul_comm m p ∙ cofactor in
    let less : q * p < m * p = omega (arith, back, front) in
    (q, more, lt_of_mul-lt-mul_right p less, sym back)

dvd_of_member : (ms : List ℕ) (j : ℕ) → j < length ms → get_or ms j 0 ∣ product ms
dvd_of_member [] j h = absurd (omega arith)
dvd_of_member (m ∷ ms) zero h = dvd-mul_right m (product ms)
dvd_of_member (m ∷ ms) (suc j) h = dvd-mul_left_of_dvd (get_or ms j 0) (dvd_of_member ms j (omega arith)) m

pub dvd_information : (set : ModuliSet) (j : ℕ) → IsModuliSet set → j < set.info → get_or set.moduli j 0 ∣ information_product set
dvd_information set j rules h =
    let size : length (information set) ≡ set.info = length-take-le set.info set.moduli (omega (arith, info_in set rules)) in
    subst (λ a. a ∣ information_product set) (get_or-take set.info set.moduli j 0 h) (dvd_of_member (information set) j (omega (arith, size)))

-- and those multiples leave nothing in the other channels, and something in channel i
pub cofactor_divided : (set : ModuliSet) (i p k j : ℕ) → IsModuliSet set → i < set.info → IsCofactor set i p → j < set.info → j ≢ i → get_or set.moduli j 0 ∣ k * p
cofactor_divided set i p k j rules channel cofactor h off =
    let m = get_or set.moduli i 0 in
    let a = get_or set.moduli j 0 in
    let within = info_in set rules in
    let coprime : IsCoprime a m =
    elim (cases_lt j i) [
      | inl low ↦ rules.coprime j i 0 low (omega arith)
      | inr high ↦ IsCoprime-swap m a (rules.coprime i j 0 (omega (arith, off)) (omega arith))
    ] in
    let in' : a ∣ m * p = subst (λ n. a ∣ n) (sym (mul_comm m p ∙ cofactor)) (dvd_information set j rules h) in
    dvd-mul_left_of_dvd a (dvd_other_factor a m p coprime in') k

pub cofactor_left : (set : ModuliSet) (i p k : ℕ) → IsModuliSet set → i < set.info → IsCofactor set i p → 0 < k → k < get_or set.moduli i 0 → get_or set.moduli i 0 ∣ k * p → ⊥
cofactor_left set i p k rules channel cofactor some small divides =
    let m = get_or set.moduli i 0 in
    let whole : information_product set ∣ k * p =
    product_dvd_all set (k * p) rules (λ j h. elim (cases_eq j i) [
      | inl at ↦ subst (λ a. get_or set.moduli a 0 ∣ k * p) (sym at) divides
      | inr off ↦ cofactor_divided set i p k j rules channel cofactor h off
    ]) in
    let positive : 0 < p = positive_factor m p (information_product set) (mul_comm m p ∙ cofactor) (omega (arith, rules.wide)) in
    let less : k * p < m * p = mul-lt-mul_of_pos_right small positive in
    let more : 0 < k * p = omega (arith, mul-lt-mul_of_pos_right some positive) in
    let most = le_of_dvd more whole in
    omega (arith, less, most, mul_comm m p ∙ cofactor)

-- ---- each case is that of a multiple of the cofactor
pub record IsMultiple (set : ModuliSet) (i p : ℕ) (d : ℤ) : Type 0 where
  pub k : ℕ
  pub some : 0 < k
  pub below : k < get_or set.moduli i 0
  pub is : (d ≡ pos (k * p)) ⊎ ((d ≡ neg_ℤ (pos (k * p))) × (k * p ≤ 2 * range_bound set))

pub case_is_multiple : (set : ModuliSet) (i e p : ℕ) (x y : ℤ) → IsModuliSet set → IsCofactor set i p → IsCase set i e x y → IsMultiple set i p (y -ℤ x)
case_is_multiple set i e p x y rules cofactor case =
    let ms = set.moduli in
    let x_low = case.in_range.low in
    let x_high = case.in_range.high in
    let y_low = case.window.low in
    let y_high = case.window.high in
    let within = info_in set rules in
    let channel = case.channel in
    let error = error_of x y (get_or ms i 0) e case.below (case-wrong set i e x y rules case) in
    by_lt_z y x
    (λ below.
    let n = up x + down y - (up y + down x) in
    let apart : up x + down y ≡ up y + down x + n = omega (arith, ints) in
    let d_is : y -ℤ x ≡ neg_ℤ (pos n) = omega (arith, ints) in
    let found = multiple_of_cofactor set i p n rules channel cofactor (omega (arith, ints)) (omega (arith, ints, rules.wide)) (λ j h off. dvd_difference y x (get_or ms j 0) n (modulus_positive set j rules (omega arith)) (case-same set i e x y rules case j h off) apart) in
    record { k = found.0; some = found.1; below = found.2; is = inr (d_is ∙ ap (λ a. neg_ℤ (pos a)) found.3, omega (arith, ints, found.3)) })
    (λ above.
    let n = up y + down x - (up x + down y) in
    let apart : up y + down x ≡ up x + down y + n = omega (arith, ints) in
    let d_is : y -ℤ x ≡ pos n = omega (arith, ints) in
    let positive = modulus_positive set i rules (omega arith) in
    let some : 0 < n =
    elim (cases_lt 0 n) [
      | inl h ↦ h
      | inr none ↦
          let same : y -ℤ x ≡ pos 0 = omega (arith, ints, d_is) in
          let left : e ≡ 0 = sym error ∙ ap (λ z. residue z (get_or ms i 0)) same ∙ mod-eq_of_lt positive in
          absurd (omega (arith, left, case.error))
    ] in
    let found = multiple_of_cofactor set i p n rules channel cofactor some (omega (arith, ints, rules.wide)) (λ j h off. dvd_difference x y (get_or ms j 0) n (modulus_positive set j rules (omega arith)) (sym (case-same set i e x y rules case j h off)) apart) in
    record { k = found.0; some = found.1; below = found.2; is = inl (d_is ∙ ap pos found.3) })

-- ---- multiples of the cofactor are shifts
zero_up : (n m : ℕ) → 0 < m → m ∣ n → residue (pos n) m ≡ 0
zero_up n m some h =
    let q = n / m in
    let parts : m * q ≡ n = mul-div_cancel' m h in
    residue_same (pos n) (pos 0) m 0 q some (omega (arith, ints, parts)) ∙ mod-eq_of_lt some

zero_down : (n m : ℕ) → 0 < m → m ∣ n → residue (neg_ℤ (pos n)) m ≡ 0
zero_down n m some h =
    let q = n / m in
    let parts : m * q ≡ n = mul-div_cancel' m h in
    residue_same (neg_ℤ (pos n)) (pos 0) m q 0 some (omega (arith, ints, parts)) ∙ mod-eq_of_lt some

pub below_product : (set : ModuliSet) (i p k : ℕ) → IsModuliSet set → IsCofactor set i p → k < get_or set.moduli i 0 → k * p < information_product set
below_product set i p k rules cofactor small =
    let m = get_or set.moduli i 0 in
    let positive : 0 < p = positive_factor m p (information_product set) (mul_comm m p ∙ cofactor) (omega (arith, rules.wide)) in
    let less : k * p < m * p = mul-lt-mul_of_pos_right small positive in
    omega (arith, less, mul_comm m p ∙ cofactor)

pub shift_up : (set : ModuliSet) (i p k e : ℕ) → IsModuliSet set → i < set.info → IsCofactor set i p → 0 < k → k < get_or set.moduli i 0 → e ≡ residue (pos (k * p)) (get_or set.moduli i 0) → IsShift set i e (pos (k * p))
shift_up set i p k e rules channel cofactor some small is =
    let m = get_or set.moduli i 0 in
    let n = k * p in
    let within = info_in set rules in
    let high = below_product set i p k rules cofactor small in
    let left : 0 < e =
    elim (cases_lt 0 e) [
      | inl h ↦ h
      | inr none ↦
          let zero_e : residue (pos 0) m ≡ residue (pos n) m = mod-eq_of_lt (modulus_positive set i rules (omega arith)) ∙ (omega (arith, none)) ∙ is in
          absurd (cofactor_left set i p k rules channel cofactor some small (dvd_difference (pos 0) (pos n) m n (modulus_positive set i rules (omega arith)) zero_e (omega (arith, ints))))
    ] in
    record {
      channel = channel;
      some = left;
      error = is;
      others = λ j h off. zero_up n (get_or set.moduli j 0) (modulus_positive set j rules (omega arith)) (cofactor_divided set i p k j rules channel cofactor h off);
      low = omega (arith, ints);
      high = omega (arith, ints);
    }

pub shift_down : (set : ModuliSet) (i p k e : ℕ) → IsModuliSet set → i < set.info → IsCofactor set i p → 0 < k → k < get_or set.moduli i 0 → k * p ≤ 2 * range_bound set → e ≡ residue (neg_ℤ (pos (k * p))) (get_or set.moduli i 0) → IsShift set i e (neg_ℤ (pos (k * p)))
shift_down set i p k e rules channel cofactor some small real is =
    let m = get_or set.moduli i 0 in
    let n = k * p in
    let within = info_in set rules in
    let left : 0 < e =
    elim (cases_lt 0 e) [
      | inl h ↦ h
      | inr none ↦
          let zero_e : residue (pos 0) m ≡ residue (neg_ℤ (pos n)) m = mod-eq_of_lt (modulus_positive set i rules (omega arith)) ∙ (omega (arith, none)) ∙ is in
          absurd (cofactor_left set i p k rules channel cofactor some small (dvd_difference (neg_ℤ (pos n)) (pos 0) m n (modulus_positive set i rules (omega arith)) (sym zero_e) (omega (arith, ints))))
    ] in
    record {
      channel = channel;
      some = left;
      error = is;
      others = λ j h off. zero_down n (get_or set.moduli j 0) (modulus_positive set j rules (omega arith)) (cofactor_divided set i p k j rules channel cofactor h off);
      low = omega (arith, ints);
      high = omega (arith, ints, rules.wide);
    }
