-- Shifts and cases, keys and triples.
use Rattle.std.proofs.Common.{◌≡◌, ℕ, ◌+◌, ◌-◌, ◌*◌, ◌%◌, ◌^◌, ◌<◌, ◌≤◌, List, length, get_or, sym, ap, ◌∙◌, arith, inl, inr, ℤ, pos, neg_ℤ, ◌+ℤ◌, ◌-ℤ◌, length-drop}
use Rattle.std.proofs.Math.ListN.{set as put}
use Rattle.std.proofs.lemmas.Int.{ints, by_lt_z}
use Rattle.std.proofs.lemmas.Bool.{cases_lt, cases_eq}
use Rattle.std.proofs.lemmas.List.{length-map, get_or-set_same, get_or-set_other, length-set, length-take-le}
use Rattle.std.proofs.Math.Nat.{mod-eq_of_lt, pow-le-pow_right}
use Rattle.number_theory.specs.Residue.{residue}
use Rattle.number_theory.proofs.ResidueLemmas.{residue-add, residue-below}
use Rattle.moduli_sets.specs.Set.{ModuliSet, IsInRange, IsModuliSet, information, redundant, range_bound}
use Rattle.moduli_sets.specs.Vector.{vector_of}
use Rattle.syndrome_table.specs.Syndrome.{IsInWindow, IsCase, triple_of}
use Rattle.syndrome_table.specs.Entry.{key_of}
use Rattle.syndrome_table.specs.Table.{IsShift}
use Rattle.syndrome_table.proofs.WideLemmas.{lists_from_places}
use Rattle.syndrome_table.proofs.CaseLemmas.{modulus_positive, info_in, at_information, at_redundant}

-- ---- a shift is that of a case
shifted : (set : ModuliSet) (i e : ℕ) (d x : ℤ) → IsModuliSet set → IsShift set i e d → IsInRange set x → IsInWindow set (x +ℤ d) → IsCase set i e x (x +ℤ d)
shifted set i e d x rules h in_x window =
    let ms = set.moduli in
    let y = x +ℤ d in
    let within = info_in set rules in
    let channel = h.channel in
    let positive = λ (j : ℕ) (j_in : j < set.info). modulus_positive set j rules (omega arith) in
    let vi = vector_of (information set) x in
    let w = (residue x (get_or ms i 0) + e) % get_or ms i 0 in
    let size : length (information set) ≡ set.info = length-take-le set.info ms (omega arith) in
    record {
      channel = h.channel;
      error = h.some;
      below = omega (arith, h.error, residue-below d (get_or ms i 0) (positive i channel));
      in_range = in_x;
      window = window;
      residues = lists_from_places (vector_of (information set) y) (put vi i w) (length-map (information set) (residue y) ∙ sym (length-set vi i w ∙ length-map (information set) (residue x))) (λ j j_long.
          let j_in : j < set.info = omega (arith, length-map (information set) (residue y)) in
          at_information set y j j_in (omega arith) ∙ residue-add x d _ (positive j j_in) ∙ elim (cases_eq j i) [
            | inl at ↦
                let there : get_or (put vi i w) i 0 ≡ w = get_or-set_same vi i w 0 (omega (arith, length-map (information set) (residue x))) in
                ap (λ n. (residue x (get_or ms n 0) + residue d (get_or ms n 0)) % get_or ms n 0) at ∙ ap (λ k. (residue x (get_or ms i 0) + k) % get_or ms i 0) (sym h.error) ∙ sym there ∙ ap (λ n. get_or (put vi i w) n 0) (sym at)
            | inr off ↦
                let m = get_or ms j 0 in
                let none : residue x m + residue d m ≡ residue x m = omega (arith, h.others j j_in off) in
                ap (λ k. k % m) none ∙ mod-eq_of_lt (residue-below x m (positive j j_in)) ∙ sym (get_or-set_other vi i j w 0 off ∙ at_information set x j j_in (omega arith))
          ]);
    }

pub case_from_shift : (set : ModuliSet) (i e : ℕ) (d : ℤ) → IsModuliSet set → IsShift set i e d → (x : ℤ) × (y : ℤ) × IsCase set i e x y × (y -ℤ x ≡ d)
case_from_shift set i e d rules h =
    let low = h.low in
    let high = h.high in
    let b = range_bound set in
    by_lt_z d (pos 0)
    (λ below.
    let x = pos b in
    let back : (x +ℤ d) -ℤ x ≡ d = omega (arith, ints) in
    (x, x +ℤ d, shifted set i e d x rules h (record { low = omega (arith, ints); high = omega (arith, ints) }) (record { low = omega (arith, ints); high = omega (arith, ints, rules.wide) }), back))
    (λ above.
    let x = neg_ℤ (pos b) in
    let back : (x +ℤ d) -ℤ x ≡ d = omega (arith, ints) in
    (x, x +ℤ d, shifted set i e d x rules h (record { low = omega (arith, ints); high = omega (arith, ints) }) (record { low = omega (arith, ints); high = omega (arith, ints) }), back))

-- ---- keys tell triples apart
pub three_places : (t u : List ℕ) → length t ≡ 3 → length u ≡ 3 → get_or t 0 0 ≡ get_or u 0 0 → get_or t 1 0 ≡ get_or u 1 0 → get_or t 2 0 ≡ get_or u 2 0 → t ≡ u
three_places t u long_t long_u at0 at1 at2 =
    lists_from_places t u (long_t ∙ sym long_u) (λ k h.
    elim (cases_lt k 1) [
      | inl a ↦ let e : k ≡ 0 = omega arith in ap (λ n. get_or t n 0) e ∙ at0 ∙ ap (λ n. get_or u n 0) (sym e)
      | inr a ↦ elim (cases_lt k 2) [
        | inl b ↦ let e : k ≡ 1 = omega arith in ap (λ n. get_or t n 0) e ∙ at1 ∙ ap (λ n. get_or u n 0) (sym e)
        | inr b ↦ let e : k ≡ 2 = omega (arith, long_t) in ap (λ n. get_or t n 0) e ∙ at2 ∙ ap (λ n. get_or u n 0) (sym e)
      ]
    ])

pub same_from_key : (t u : List ℕ) → length t ≡ 3 → length u ≡ 3 → ((k : ℕ) → k < 3 → get_or t k 0 < 65536) → ((k : ℕ) → k < 3 → get_or u k 0 < 65536) → key_of t ≡ key_of u → t ≡ u
same_from_key t u long_t long_u small_t small_u same =
    let t0 = small_t 0 (omega arith) in
    let t1 = small_t 1 (omega arith) in
    let t2 = small_t 2 (omega arith) in
    let u0 = small_u 0 (omega arith) in
    let u1 = small_u 1 (omega arith) in
    let u2 = small_u 2 (omega arith) in
    let at0 : get_or t 0 0 ≡ get_or u 0 0 = omega arith in
    let at1 : get_or t 1 0 ≡ get_or u 1 0 = omega arith in
    let at2 : get_or t 2 0 ≡ get_or u 2 0 = omega arith in
    three_places t u long_t long_u at0 at1 at2

-- the triple of an integer has three residues, each of 16 bits
pub three_of : (set : ModuliSet) (z : ℤ) → length set.moduli ≡ set.info + 3 → length (vector_of (redundant set) z) ≡ 3
three_of set z count = omega (arith, length-map (redundant set) (residue z), length-drop set.info set.moduli)

pub small_of : (set : ModuliSet) (z : ℤ) → IsModuliSet set → length set.moduli ≡ set.info + 3 → (k : ℕ) → k < 3 → get_or (vector_of (redundant set) z) k 0 < 65536
small_of set z rules count k h =
    let in' : set.info + k < length set.moduli = omega arith in
    let m = rules.moduli (set.info + k) 0 in' in
    omega (arith, at_redundant set z k in', residue-below z (get_or set.moduli (set.info + k) 0) (modulus_positive set (set.info + k) rules in'), m.fits)

-- ---- entries
-- an entry is that of a case
pub record HasCase (set : ModuliSet) (i e n : ℕ) (d : ℤ) : Type 0 where
  pub x : ℤ
  pub y : ℤ
  pub case : IsCase set i e x y
  pub key : n ≡ key_of (triple_of set x y)
  pub apart : y -ℤ x ≡ d

pub case_of_entry : (set : ModuliSet) (i e key : ℕ) (d : ℤ) → IsModuliSet set → IsShift set i e d → key ≡ key_of (vector_of (redundant set) (neg_ℤ d)) → HasCase set i e key d
case_of_entry set i e key d rules shift is =
    let found = case_from_shift set i e d rules shift in
    let turned : neg_ℤ d ≡ found.0 -ℤ found.1 = omega (arith, ints, found.3) in
    record {
      x = found.0;
      y = found.1;
      case = found.2;
      key = is ∙ ap (λ z. key_of (vector_of (redundant set) z)) turned;
      apart = found.3;
    }

power_le : (i j : ℕ) → i ≤ j → 2 ^ i ≤ 2 ^ j
power_le i j h = let p : 0 < 2 = omega arith in pow-le-pow_right p h

-- few steps
pub few_steps : (t u n : ℕ) → 2 ^ (u - t) ≤ 4 * n + 2 → n < 2 ^ 21 → t ≤ u → u ≤ t + 22
few_steps t u n cost small more =
    elim (cases_lt 22 (u - t)) [
      | inl far ↦
          let many : 2 ^ 23 ≤ 2 ^ (u - t) = power_le 23 (u - t) (omega arith) in
          absurd (omega (arith, many))
      | inr near ↦ omega arith
    ]
