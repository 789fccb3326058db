-- Digits from residues, one after another (Garner 1959).
use Rattle.std.proofs.Common.{◌≡◌, ℕ, ◌+◌, ◌-◌, ◌*◌, ◌/◌, ◌%◌, ◌<◌, List, length, take, get_or, sym, ap, ◌∙◌, arith, pos, ◌-ℤ◌, ◌*ℤ◌}
use Rattle.std.proofs.lemmas.Int.{ints}
use Rattle.std.proofs.lemmas.List.{get_or-map, get_or-take}
use Rattle.std.proofs.lemmas.Nat.{mul-mod_first}
use Rattle.std.proofs.Math.Nat.{mod-lt, div-add-mod', div-one}
use Rattle.number_theory.specs.Coprime.{IsInverse, product}
use Rattle.number_theory.specs.Residue.{residue, IsNumberOf}
use Rattle.number_theory.proofs.QuotientLemmas.{times_difference, residue-quotient}
use Rattle.number_theory.proofs.ResidueLemmas.{residue_same}
use Rattle.mixed_radix.specs.Digits.{digits}
use Rattle.mixed_radix.specs.Chosen.{entries_at}
use Rattle.mixed_radix.proofs.ChosenLemmas.{get_or-entries_at, length-entries_at}
use Rattle.mixed_radix.proofs.DigitLemmas.{get_or-digits, div-product_more}

-- a difference that k turns of m made a natural number
mod-difference : (s a d y m k : ℕ) → 0 < m → s + d ≡ a + k * m → (s * y) % m ≡ residue ((pos a -ℤ pos d) *ℤ pos y) m
mod-difference s a d y m k h e =
    let scaled : (s + d) * y ≡ (a + k * m) * y = ap (λ n. n * y) e in
    residue_same (pos (s * y)) ((pos a -ℤ pos d) *ℤ pos y) m 0 (k * y) h (omega (arith, ints, scaled, times_difference a d y))

pub mod-unscaled : (a d y m : ℕ) → 0 < m → (((a + (m - d % m)) % m) * y) % m ≡ residue ((pos a -ℤ pos d) *ℤ pos y) m
mod-unscaled a d y m h =
    let s = a + (m - d % m) in
    let turns : s + d ≡ a + (1 + d / m) * m = omega (arith, div-add-mod' d m, mod-lt d h) in
    mul-mod_first s y m ∙ mod-difference s a d y m (1 + d / m) h turns

-- ---- what is left of a number at channel m, once the first digits are taken away
-- before any digit
pub left_none : (which ms rs : List ℕ) (n k : ℕ) → IsNumberOf (entries_at which ms) (entries_at which rs) n → k < length which → get_or rs (get_or which k 0) 0 ≡ (n / product (take 0 (entries_at which ms))) % get_or ms (get_or which k 0) 0
left_none which ms rs n k number h =
    let m = get_or ms (get_or which k 0) 0 in
    let k_in : k < length (entries_at which ms) = omega (arith, length-entries_at which ms) in
    let at_k : n % get_or (entries_at which ms) k 0 ≡ get_or (entries_at which rs) k 0 = sym (get_or-map (λ m. n % m) (entries_at which ms) k 0 0 k_in) ∙ ap (λ xs. get_or xs k 0) number.residues in
    sym (get_or-entries_at which rs k h) ∙ sym at_k ∙ ap (λ a. n % a) (get_or-entries_at which ms k h) ∙ ap (λ q. q % m) (sym (div-one n))

-- one digit more
pub left_more : (which ms found : List ℕ) (n k m y rest : ℕ) → k < length which → k < length found → found ≡ take (length found) (digits (entries_at which ms) n) → 0 < m → IsInverse (get_or ms (get_or which k 0) 0) m y → rest ≡ (n / product (take k (entries_at which ms))) % m → residue ((pos rest -ℤ pos (get_or found k 0)) *ℤ pos y) m ≡ (n / product (take (k + 1) (entries_at which ms))) % m
left_more which ms found n k m y rest h in' is positive inverse e =
    let cs = entries_at which ms in
    let a = get_or ms (get_or which k 0) 0 in
    let q = n / product (take k cs) in
    let k_in : k < length cs = omega (arith, length-entries_at which ms) in
    let modulus = get_or-entries_at which ms k h in
    let digit : get_or found k 0 ≡ q % a =
    ap (λ xs. get_or xs k 0) is ∙ get_or-take (length found) (digits cs n) k 0 in' ∙ get_or-digits cs n k k_in ∙ ap (λ b. q % b) modulus in
    let next : q / a ≡ n / product (take (k + 1) cs) = ap (λ b. q / b) (sym modulus) ∙ div-product_more cs n k k_in in
    ap (λ r. residue ((pos r -ℤ pos (get_or found k 0)) *ℤ pos y) m) e
    ∙ ap (λ d. residue ((pos (q % m) -ℤ pos d) *ℤ pos y) m) digit
    ∙ sym (residue-quotient (pos q) m a y inverse)
    ∙ ap (λ r. r % m) next

-- all earlier digits: what is left is the digit
pub left_all : (which ms : List ℕ) (n k rest : ℕ) → k < length which → rest ≡ (n / product (take k (entries_at which ms))) % get_or ms (get_or which k 0) 0 → rest ≡ get_or (digits (entries_at which ms) n) k 0
left_all which ms n k rest h e =
    let cs = entries_at which ms in
    let k_in : k < length cs = omega (arith, length-entries_at which ms) in
    e ∙ ap (λ a. (n / product (take k cs)) % a) (sym (get_or-entries_at which ms k h)) ∙ sym (get_or-digits cs n k k_in)
