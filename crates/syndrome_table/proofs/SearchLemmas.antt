-- A search by halves: its places and its cost.
use Rattle.std.proofs.Common.{◌≡◌, ℕ, ◌+◌, ◌*◌, ◌^◌, ◌<◌, ◌≤◌, List, length, get_or, ap, ◌∙◌, subst, arith, inl, inr, add-one}
use Rattle.std.proofs.lemmas.Bool.{cases_lt}
use Rattle.std.proofs.Math.Nat.{pow-succ', mul-le-mul_left}
use Rattle.syndrome_table.specs.declared.table.Entry.{Entry}
use Rattle.syndrome_table.specs.Entry.{entry_key}
use Rattle.syndrome_table.specs.Table.{Ascends}

-- one step more over at most half as much
pub halved : (t u s r n : ℕ) → u ≡ t + 1 → 2 * r ≤ s → 0 < s → 2 ^ t * s ≤ n → (2 ^ u * r ≤ n) × (2 ^ u ≤ 2 * n + 1)
halved t u s r n is half some cost =
    let p = 2 ^ t in
    let double : 2 ^ u ≡ 2 * p = ap (λ k. 2 ^ k) (is ∙ add-one t) ∙ pow-succ' 2 t in
    let first : p * (2 * r) ≤ p * s = mul-le-mul_left p half in
    let turn : 2 * p * r ≡ p * (2 * r) = omega arith in
    let whole : 2 ^ u * r ≡ p * (2 * r) = ap (λ k. k * r) double ∙ turn in
    let one : p * 1 ≤ p * s = mul-le-mul_left p some in
    (omega (arith, whole), omega (arith, double))

-- ascending keys up to a place
pub below_mid : (table : List Entry) (key mid : ℕ) → Ascends table → mid < length table → ((d : Entry) → entry_key (get_or table mid d) < key) → (k : ℕ) (d : Entry) → k < mid + 1 → entry_key (get_or table k d) < key
below_mid table key mid up in' here k d h =
    elim (cases_lt k mid) [
      | inl low ↦ omega (arith, up k mid d low in', here d)
      | inr at ↦ let e : mid ≡ k = omega arith in subst (λ n. entry_key (get_or table n d) < key) e (here d)
    ]

pub above_mid : (table : List Entry) (key mid : ℕ) → Ascends table → ((d : Entry) → key ≤ entry_key (get_or table mid d)) → (k : ℕ) (d : Entry) → mid ≤ k → k < length table → key ≤ entry_key (get_or table k d)
above_mid table key mid up here k d h in' =
    elim (cases_lt mid k) [
      | inl low ↦ omega (arith, up mid k d low in', here d)
      | inr at ↦ let e : mid ≡ k = omega arith in subst (λ n. key ≤ entry_key (get_or table n d)) e (here d)
    ]

-- the last look
pub once_more : (t u n : ℕ) → u ≡ t + 1 → 2 ^ t ≤ 2 * n + 1 → 2 ^ u ≤ 4 * n + 2
once_more t u n is cost =
    let double : 2 ^ u ≡ 2 * 2 ^ t = ap (λ k. 2 ^ k) (is ∙ add-one t) ∙ pow-succ' 2 t in
    omega (arith, double)
