-- Laws of coprime numbers, and of the product of pairwise coprime moduli.
use Rattle.std.proofs.Common.{◌≡◌, ℕ, zero, suc, ◌+◌, ◌-◌, ◌*◌, ◌/◌, ◌%◌, ◌<◌, ◌≤◌, ◌≢◌, cond, eq-eqb, inl, inr, List, [], ◌∷◌, map, All, refl, sym, ap, ◌∙◌, subst, arith, ℤ, pos, neg_ℤ, ◌+ℤ◌, ◌≤ℤ◌, ◌<ℤ◌, take, drop, get_or}
use Rattle.std.specs.Int.{◌∣◌, IsGcd}
use Rattle.std.specs.List.{AllByRecursion as ByRecursion}
use Rattle.std.proofs.lemmas.Int.{ints, by_lt_z}
use Rattle.std.proofs.lemmas.Bool.{ne_eqb, cases_eq}
use Rattle.std.proofs.lemmas.List.{length-take, length-drop, get_or-take, get_or-drop}
use Rattle.std.proofs.lemmas.List.Elements.{recursion_from_All}
use Rattle.std.proofs.lemmas.Nat.{mod-mul-add, mul-mod_second}
use Rattle.std.proofs.lemmas.Nat.Gcd.{dvd-zero, dvd_trans, le_of_dvd, IsGcd-from_zero, IsGcd-from_mod, same_from_IsGcd}
use Rattle.std.proofs.Math.Nat.{dvd-mul_left, dvd-mul_right, one-dvd, mul-dvd-mul_left, mul-div_cancel', one-mul, zero-mul, mul-zero, mul_comm, dvd-add_iff_right, mod-lt, div-add-mod', mul-lt-mul_of_pos_right, dvd-mod_iff, mod-eq_of_lt, mul-one, dvd-mul_right_of_dvd}
use borrow.Author.Differences.{up, down}
use Rattle.number_theory.specs.Residue.{residue}
use Rattle.number_theory.specs.Coprime.{IsCoprime, IsInverse, ArePairwiseCoprime, product, inverse_below, inverse_of}
use Rattle.number_theory.proofs.ResidueLemmas.{residue_turns}

-- ---- coprime numbers
remainder_scaled : (a b c : ℕ) → 0 < b → 0 < c → (a % b) * c ≡ (a * c) % (b * c)
remainder_scaled a b c p q =
    let parts : a * c ≡ a / b * (b * c) + (a % b) * c = omega (arith, ap (λ n. n * c) (div-add-mod' a b)) in
    let small : (a % b) * c < b * c = mul-lt-mul_of_pos_right (mod-lt a p) q in
    sym (ap (λ n. n % (b * c)) parts ∙ mod-mul-add (a / b) (b * c) ((a % b) * c) small)

-- Euclid's steps on a and b are those on c times each; n bounds their count
gcd_scaled : (n a b c : ℕ) → b ≤ n → 0 < c → (g : ℕ) × IsGcd a b g × IsGcd (a * c) (b * c) (g * c)
gcd_scaled n a zero c h p = (a, IsGcd-from_zero a 0 refl, IsGcd-from_zero (a * c) (zero * c) (zero-mul c))
gcd_scaled zero a (suc b) c h p = absurd (omega arith)
gcd_scaled (suc n) a (suc b) c h p =
    let positive : 0 < suc b = omega arith in
    let s = gcd_scaled n (suc b) (a % suc b) c (omega (arith, mod-lt a positive)) p in
    let scaled = subst (λ r. IsGcd (suc b * c) r (s.0 * c)) (remainder_scaled a (suc b) c positive p) s.2 in
    (s.0, IsGcd-from_mod a (suc b) s.0 s.1, IsGcd-from_mod (a * c) (suc b * c) (s.0 * c) scaled)

-- a number that divides a product and is coprime to one factor divides the other (Euclid)
pub dvd_other_factor : (m a b : ℕ) → IsCoprime m a → m ∣ a * b → m ∣ b
dvd_other_factor m a zero h d = dvd-zero m
dvd_other_factor m a (suc c) h d =
    let b = suc c in
    let s = gcd_scaled a m a b (omega arith) (omega arith) in
    let is_one : s.0 ≡ 1 = same_from_IsGcd m a s.0 1 s.1 h in
    let b_is : s.0 * b ≡ b = ap (λ g. g * b) is_one ∙ one-mul b in
    subst (λ n. m ∣ n) b_is (s.2.2 m (dvd-mul_right m b) d)

-- what divides a coprime number is coprime
pub IsCoprime-from_dvd : (m a d : ℕ) → IsCoprime m a → d ∣ m → IsCoprime d a
IsCoprime-from_dvd m a d h p = (one-dvd d, one-dvd a, λ e q r. h.2 e (dvd_trans e q p) r)

pub IsCoprime-swap : (a b : ℕ) → IsCoprime a b → IsCoprime b a
IsCoprime-swap a b h = (h.1, h.0, λ d p q. h.2 d q p)

-- a number with an inverse modulo m is coprime to m
pub IsCoprime-from_inverse : (a m y : ℕ) → IsInverse a m y → IsCoprime a m
IsCoprime-from_inverse a m y h =
    let leaves : (d : ℕ) → d ∣ a → d ∣ m → d ∣ 1 = λ d p q. subst (λ n. d ∣ n) h.leaves_one ((dvd-mod_iff d q).1 (dvd-mul_right_of_dvd d p y)) in
    (one-dvd a, one-dvd m, leaves)

times_one : (a m y z : ℕ) → y < m → (a * z) % m ≡ 1 → y ≡ (y * (a * z)) % m
times_one a m y z small one =
    sym (mod-eq_of_lt small) ∙ ap (λ n. n % m) (sym (mul-one y)) ∙ ap (λ n. (y * n) % m) (sym one) ∙ mul-mod_second y (a * z) m

-- a number has one inverse modulo m at most
pub same_inverse : (a m y z : ℕ) → IsInverse a m y → IsInverse a m z → y ≡ z
same_inverse a m y z h k =
    let turned : y * (a * z) ≡ z * (a * y) = omega arith in
    times_one a m y z h.small k.leaves_one ∙ ap (λ n. n % m) turned ∙ sym (times_one a m z y k.small h.leaves_one)

-- the search stops at a number that leaves 1, and else goes on below
inverse_below-here : (a m n : ℕ) → (a * n) % m ≡ 1 → inverse_below a m (suc n) ≡ n
unfolding inverse_below
inverse_below-here a m n one = ap (λ b. cond b n (inverse_below a m n)) (eq-eqb _ _ one)

inverse_below-past : (a m n : ℕ) → (a * n) % m ≢ 1 → inverse_below a m (suc n) ≡ inverse_below a m n
unfolding inverse_below
inverse_below-past a m n other = ap (λ b. cond b n (inverse_below a m n)) (ne_eqb _ _ other)

-- the search finds it, once it has come that far
inverse_below-is : (a m y n : ℕ) → IsInverse a m y → y < n → n ≤ m → inverse_below a m n ≡ y
unfolding inverse_below
inverse_below-is a m y zero h below within = absurd (omega arith)
inverse_below-is a m y (suc n) h below within =
    elim (cases_eq y n) [
      | inl here ↦ inverse_below-here a m n (ap (λ k. (a * k) % m) (sym here) ∙ h.leaves_one) ∙ sym here
      | inr other ↦ inverse_below-past a m n (λ one. other (same_inverse a m y n h (record { small = omega arith; leaves_one = one }))) ∙ inverse_below-is a m y n h (omega arith) (omega arith)
    ]

pub inverse_of-is : (a m y : ℕ) → IsInverse a m y → inverse_of a m ≡ y
inverse_of-is a m y h = inverse_below-is a m y m h h.small (omega arith)

pub IsCoprime-one : (m : ℕ) → IsCoprime m 1
IsCoprime-one m = (one-dvd m, one-dvd 1, λ d p q. q)

pub IsCoprime-mul : (m a b : ℕ) → IsCoprime m a → IsCoprime m b → IsCoprime m (a * b)
IsCoprime-mul m a b h k =
    (one-dvd m, one-dvd (a * b), λ d p q. k.2 d p (dvd_other_factor d a b (IsCoprime-from_dvd m a d h p) q))

-- ---- pairwise coprime moduli
pub ArePairwiseCoprime-tail : (m : ℕ) (ms : List ℕ) → ArePairwiseCoprime (m ∷ ms) → ArePairwiseCoprime ms
ArePairwiseCoprime-tail m ms h = λ i j d p q. h (suc i) (suc j) d (omega arith) (omega arith)

pub ArePairwiseCoprime-head : (m : ℕ) (ms : List ℕ) → ArePairwiseCoprime (m ∷ ms) → All (IsCoprime m) ms
ArePairwiseCoprime-head m ms h = λ k d p. h 0 (suc k) d (omega arith) (omega arith)

coprime_product : (m : ℕ) (ms : List ℕ) → ByRecursion (IsCoprime m) ms → IsCoprime m (product ms)
coprime_product m [] h = IsCoprime-one m
coprime_product m (a ∷ ms) h = IsCoprime-mul m a (product ms) h.0 (coprime_product m ms h.1)

pub IsCoprime-product : (m : ℕ) (ms : List ℕ) → All (IsCoprime m) ms → IsCoprime m (product ms)
IsCoprime-product m ms h = coprime_product m ms (recursion_from_All (IsCoprime m) ms h)

product_dvd : (ms : List ℕ) (n : ℕ) → ArePairwiseCoprime ms → ByRecursion (λ m. m ∣ n) ms → product ms ∣ n
product_dvd [] n c h = one-dvd n
product_dvd (m ∷ ms) n c h =
    let q = n / product ms in
    let whole : product ms * q ≡ n = mul-div_cancel' (product ms) (product_dvd ms n (ArePairwiseCoprime-tail m ms c) h.1) in
    let coprime = IsCoprime-product m ms (ArePairwiseCoprime-head m ms c) in
    let rest : m ∣ q = dvd_other_factor m (product ms) q coprime (subst (λ k. m ∣ k) (sym whole) h.0) in
    let turned : product ms * m ∣ product ms * q = mul-dvd-mul_left m (product ms) rest in
    subst (λ k. k ∣ n) (mul_comm (product ms) m) (subst (λ k. product ms * m ∣ k) whole turned)

-- pairwise coprime moduli that all divide a number have a product that divides it
pub product-dvd : (ms : List ℕ) (n : ℕ) → ArePairwiseCoprime ms → All (λ m. m ∣ n) ms → product ms ∣ n
product-dvd ms n c h = product_dvd ms n c (recursion_from_All (λ m. m ∣ n) ms h)

-- ---- integers with equal residues
pos_of_mul : (a b : ℕ) → 0 < a * b → (0 < a) × (0 < b)
pos_of_mul zero b h = absurd (omega (arith, zero-mul b))
pos_of_mul (suc a) zero h = absurd (omega (arith, mul-zero (suc a)))
pos_of_mul (suc a) (suc b) h = (omega arith, omega arith)

-- y is d above x, and both have one residue
pub dvd_difference : (x y : ℤ) (m d : ℕ) → 0 < m → residue x m ≡ residue y m → up y + down x ≡ up x + down y + d → m ∣ d
dvd_difference x y m d h e apart =
    let s = residue_turns x m h in
    let t = residue_turns y m h in
    let turns : (t.1 + s.0) * m ≡ (s.1 + t.0) * m + d = omega (arith, s.2, t.2) in
    let whole : m ∣ (s.1 + t.0) * m + d = subst (λ n. m ∣ n) turns (dvd-mul_left m (t.1 + s.0)) in
    (dvd-add_iff_right m (dvd-mul_left m (s.1 + t.0))).1 whole

dvd_differences : (ms : List ℕ) (x y : ℤ) (d : ℕ) → 0 < product ms → map (residue x) ms ≡ map (residue y) ms → up y + down x ≡ up x + down y + d → ByRecursion (λ m. m ∣ d) ms
dvd_differences [] x y d p e apart = tt
dvd_differences (m ∷ ms) x y d p e apart =
    let positive = pos_of_mul m (product ms) p in
    (dvd_difference x y m d positive.0 (cc) apart, dvd_differences ms x y d positive.1 (cc) apart)

-- a number that is divided by a larger one is 0
zero_of_dvd : (m d : ℕ) → d < m → m ∣ d → d ≡ 0
zero_of_dvd m zero h p = refl
zero_of_dvd m (suc d) h p = absurd (omega (arith, le_of_dvd (omega arith) p))

-- equal residues for pairwise coprime moduli, and a difference below their product
pub same_from_residues : (ms : List ℕ) (x y : ℤ) → ArePairwiseCoprime ms → map (residue x) ms ≡ map (residue y) ms → x ≤ℤ y → y <ℤ (x +ℤ pos (product ms)) → x ≡ y
same_from_residues ms x y c e low high =
    let d = up y + down x - (up x + down y) in
    let apart : up y + down x ≡ up x + down y + d = omega (arith, ints) in
    let small : d < product ms = omega (arith, ints) in
    let divides : product ms ∣ d = product_dvd ms d c (dvd_differences ms x y d (omega arith) e apart) in
    let none : d ≡ 0 = zero_of_dvd (product ms) d small divides in
    omega (arith, ints)

-- the same of two integers from -b to b
pub same_from_residues_within : (ms : List ℕ) (b : ℕ) (x y : ℤ) → ArePairwiseCoprime ms → map (residue x) ms ≡ map (residue y) ms → 2 * b < product ms → neg_ℤ (pos b) ≤ℤ x → x ≤ℤ pos b → neg_ℤ (pos b) ≤ℤ y → y ≤ℤ pos b → x ≡ y
same_from_residues_within ms b x y c e wide x_low x_high y_low y_high =
    by_lt_z y x
    (λ below. sym (same_from_residues ms y x c (sym e) (omega (arith, ints)) (omega (arith, ints))))
    (λ above. same_from_residues ms x y c e above (omega (arith, ints)))

-- ---- parts of a list of moduli
pub ArePairwiseCoprime-take : (n : ℕ) (ms : List ℕ) → ArePairwiseCoprime ms → ArePairwiseCoprime (take n ms)
ArePairwiseCoprime-take n ms h i j d below j_in =
    let size = length-take n ms in
    let i_below : i < n = omega (arith, size) in
    let j_below : j < n = omega (arith, size) in
    subst (λ a. IsCoprime a (get_or (take n ms) j d)) (sym (get_or-take n ms i d i_below))
    (subst (λ b. IsCoprime (get_or ms i d) b) (sym (get_or-take n ms j d j_below)) (h i j d below (omega (arith, size))))

pub ArePairwiseCoprime-drop : (n : ℕ) (ms : List ℕ) → ArePairwiseCoprime ms → ArePairwiseCoprime (drop n ms)
ArePairwiseCoprime-drop n ms h i j d below j_in =
    let size = length-drop n ms in
    subst (λ a. IsCoprime a (get_or (drop n ms) j d)) (sym (get_or-drop n ms i d))
    (subst (λ b. IsCoprime (get_or ms (n + i) d) b) (sym (get_or-drop n ms j d)) (h (n + i) (n + j) d (omega arith) (omega (arith, size))))
