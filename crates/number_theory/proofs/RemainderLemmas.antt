-- The Chinese remainder theorem over a list of pairwise coprime moduli.
use Rattle.std.proofs.Common.{◌≡◌, ℕ, ◌+◌, ◌-◌, ◌*◌, ◌/◌, ◌%◌, ◌<◌, ◌≤◌, List, [], ◌∷◌, map, refl, sym, ap, ◌∙◌, arith, pos}
use Rattle.std.proofs.lemmas.Int.{ints, by_lt_z}
use Rattle.std.proofs.Math.Nat.{mod-lt, mod-eq_of_lt, div-add-mod', mul-le-mul_left}
use borrow.Author.Differences.{up}
use Rattle.number_theory.specs.Residue.{residue, AreResidues, IsNumberOf}
use Rattle.number_theory.specs.Coprime.{IsCoprime, ArePairwiseCoprime, product}
use Rattle.number_theory.proofs.CoprimeLemmas.{IsCoprime-swap, IsCoprime-product, ArePairwiseCoprime-tail, ArePairwiseCoprime-head, same_from_residues}
use Rattle.number_theory.proofs.InverseLemmas.{mod-from_turns, turns_to_one}

-- a number and a multiple of the moduli's product above it have the same residues
pub residues-add_product : (ms : List ℕ) (n k : ℕ) → map (λ m. (n + product ms * k) % m) ms ≡ map (λ m. n % m) ms
residues-add_product [] n k = refl
residues-add_product (m ∷ ms) n k =
    let p = product ms in
    let turns : n + (m * p) * k + 0 * m ≡ n + (p * k) * m = omega arith in
    let regroup : (m * p) * k ≡ p * (m * k) = omega arith in
    let head : (n + (m * p) * k) % m ≡ n % m = mod-from_turns (n + (m * p) * k) n m 0 (p * k) turns in
    let tail : map (λ a. (n + (m * p) * k) % a) ms ≡ map (λ a. n % a) ms =
    ap (λ e. map (λ a. (n + e) % a) ms) regroup ∙ residues-add_product ms n (m * k) in
    cc

-- to n is added a multiple of p, coprime to m, so that the sum leaves r for m
lift : (n p m r : ℕ) → n < p → r < m → IsCoprime p m → (k : ℕ) × (k < m) × ((n + p * k) % m ≡ r)
lift n p m r low small c =
    let positive : 0 < m = omega arith in
    let t = turns_to_one p m positive c in
    let missing = r + (m - n % m) in
    let k = (missing * t.0) % m in
    let q = (missing * t.0) / m in
    let n_parts : (n / m) * m + n % m ≡ n = div-add-mod' n m in
    let n_small : n % m < m = mod-lt n positive in
    let k_parts : p * (q * m + k) ≡ p * (missing * t.0) = ap (λ j. p * j) (div-add-mod' (missing * t.0) m) in
    let scaled : (p * t.0 + t.1 * m) * missing ≡ (1 + t.2 * m) * missing = ap (λ j. j * missing) t.3 in
    let missing_is : n + missing ≡ r + (n / m + 1) * m = omega arith in
    let turns : n + p * k + (p * q + t.1 * missing) * m ≡ r + (n / m + 1 + t.2 * missing) * m = omega (arith, k_parts, scaled, missing_is) in
    (k, mod-lt (missing * t.0) positive, mod-from_turns (n + p * k) r m (p * q + t.1 * missing) (n / m + 1 + t.2 * missing) turns ∙ mod-eq_of_lt small)

below_product : (n p k m : ℕ) → n < p → k < m → n + p * k < m * p
below_product n p k m h l =
    let whole : p * (k + 1) ≤ p * m = mul-le-mul_left p (omega arith) in
    omega (arith, whole)

-- residues for pairwise coprime moduli are those of a number
pub number_of_residues : (ms rs : List ℕ) → ArePairwiseCoprime ms → AreResidues ms rs → (n : ℕ) × IsNumberOf ms rs n
number_of_residues [] [] c h = (0, record { small = omega arith; residues = refl })
number_of_residues [] (r ∷ rs) c h = absurd h
number_of_residues (m ∷ ms) [] c h = absurd h
number_of_residues (m ∷ ms) (r ∷ rs) c h =
    let p = product ms in
    let rest = number_of_residues ms rs (ArePairwiseCoprime-tail m ms c) h.1 in
    let coprime = IsCoprime-swap m p (IsCoprime-product m ms (ArePairwiseCoprime-head m ms c)) in
    let s = lift rest.0 p m r rest.1.small h.0 coprime in
    let tail = residues-add_product ms rest.0 s.0 ∙ rest.1.residues in (
      rest.0 + p * s.0,
      record {
        small = below_product rest.0 p s.0 m rest.1.small s.1;
        residues = (cc (s.2, tail));
      },
    )

-- and of no other
pub same_number_of_residues : (ms rs : List ℕ) (n k : ℕ) → ArePairwiseCoprime ms → IsNumberOf ms rs n → IsNumberOf ms rs k → n ≡ k
same_number_of_residues ms rs n k c h l =
    let same : map (residue (pos n)) ms ≡ map (residue (pos k)) ms = h.residues ∙ sym l.residues in
    ap up (by_lt_z (pos k) (pos n)
    (λ below. sym (same_from_residues ms (pos k) (pos n) c (sym same) (omega (arith, ints)) (omega (arith, ints, h.small))))
    (λ above. same_from_residues ms (pos n) (pos k) c same above (omega (arith, ints, l.small))))
