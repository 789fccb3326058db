-- Sets of moduli.
use Rattle.std.specs.Prelude.{◌≡◌, ℕ, ℤ, pos, neg_ℤ, ◌+◌, ◌-◌, ◌*◌, ◌/◌, ◌^◌, ◌<◌, ◌≤◌, ◌≤ℤ◌, List, length, take, drop, All}
use Rattle.number_theory.specs.Coprime.{ArePairwiseCoprime, product}

-- information moduli, `info` of them, and then redundant ones; channels are numbered from 0 in this order
pub record ModuliSet : Type 0 where
  pub moduli : List ℕ
  pub info : ℕ

-- the moduli whose residues tell an integer in range
abbrev pub information : ModuliSet → List ℕ
information set = take set.info set.moduli

-- the moduli by which wrong residues are found
abbrev pub redundant : ModuliSet → List ℕ
redundant set = drop set.info set.moduli

-- how many wrong residues are corrected: half the number of redundant moduli
abbrev pub radius : ModuliSet → ℕ
radius set = length (redundant set) / 2

-- how many integers the information moduli tell apart
abbrev pub information_product : ModuliSet → ℕ
information_product set = product (information set)

-- B: words stand for the integers from -B to B
abbrev pub range_bound : ModuliSet → ℕ
range_bound set = (information_product set - 1) / 2

-- an integer that a word of the set stands for
pub record IsInRange (set : ModuliSet) (x : ℤ) : Type 0 where
  pub low : neg_ℤ (pos (range_bound set)) ≤ℤ x
  pub high : x ≤ℤ pos (range_bound set)

-- a modulus fits 16 bits
pub record IsModulus (m : ℕ) : Type 0 where
  pub at_least_two : 2 ≤ m
  pub fits : m ≤ 65535

-- the rules that a list of moduli meets to be a set
pub record IsModuliSet (set : ModuliSet) : Type 0 where
  pub at_least_four : 4 ≤ length set.moduli
  pub at_most_twelve : length set.moduli ≤ 12
  -- three redundant moduli, or five
  pub odd : length (redundant set) ≡ 2 * radius set + 1
  pub radius_at_least_one : 1 ≤ radius set
  pub radius_at_most_two : radius set ≤ 2
  pub moduli : All IsModulus set.moduli
  pub coprime : ArePairwiseCoprime set.moduli
  -- each redundant modulus is larger than each information modulus
  pub larger : All (λ r. All (λ m. m < r) (information set)) (redundant set)
  pub fits : product set.moduli < 2 ^ 127
  pub wide : 3 ≤ information_product set
