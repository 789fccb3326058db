-- Channels that aren't named, and columns that differ in named channels alone.
use Rattle.std.proofs.Common.{◌≡◌, ℕ, nat_lt, zero, suc, ◌+◌, ◌<◌, ◌≤◌, ◌==◌, ◌||◌, Bool, true, false, cond, if◌then◌else◌, List, [], ◌∷◌, length, slice_index, Option, None, Some, is_some, inl, inr, refl, sym, ap, ◌∙◌, subst, eq-eqb, arith}
use Rattle.std.specs.List.{list_any, range_with_len, count_by}
use Rattle.std.specs.Ordering.{eq_by_cmp, ordering_then, is_eq, nat_cmp}
use Rattle.std.specs.declared.cmp.Ordering.{Ordering}
use Rattle.std.specs.declared.cmp.Ordering.TheVariants.{Less, Equal, Greater}
use Rattle.std.specs.FinMap.{keys, contains_key-keys}
use Rattle.std.proofs.lemmas.Bool.{cases_Bool, false_from_ne_true, false≢true, or_from, or_left, or_parts, or_right}
use Rattle.std.proofs.lemmas.Bool.Decides.{nat_tests}
use Rattle.std.proofs.lemmas.List.Sums.{sum_by-cons}
use Rattle.number_theory.specs.Distance.{distance}
use Rattle.fault_book.specs.Book.{Book, answer_cmp, fault_at, is_faulty, faulty_channels}

apart_first : (b : Bool) (o : Ordering) → is_eq (ordering_then (cond b Less (cond false Equal Greater)) o) ≡ false
apart_first true o = refl
apart_first false o = refl

apart_keys : (channel number : ℕ) (a : ℕ × ℕ) → (a.0 == channel) ≡ false → eq_by_cmp answer_cmp (channel, number) a ≡ false
apart_keys channel number a h =
    let turned : (channel == a.0) ≡ false = grind (arith, nat_tests) in
    ap (λ t. is_eq (ordering_then (cond (nat_lt channel a.0) Less (cond t Equal Greater)) (nat_cmp number a.1))) turned
    ∙ apart_first (nat_lt channel a.0) (nat_cmp number a.1)

no_key : (channel number : ℕ) (ks : List (ℕ × ℕ)) → list_any (λ a. a.0 == channel) ks ≡ false → list_any (eq_by_cmp answer_cmp (channel, number)) ks ≡ false
no_key channel number [] h = refl
no_key channel number (a ∷ ks) h =
    let both = or_parts (a.0 == channel) (list_any (λ k. k.0 == channel) ks) h in
    or_from (eq_by_cmp answer_cmp (channel, number) a) (list_any (eq_by_cmp answer_cmp (channel, number)) ks) (apart_keys channel number a both.0) (no_key channel number ks both.1)

none_from_test : (o : Option ℕ) → is_some o ≡ false → o ≡ None
none_from_test None h = refl
none_from_test (Some x) h = cc

pub fault_at-unnamed : (book : Book) (channel number : ℕ) → is_faulty book channel ≡ false → fault_at book channel number ≡ None
fault_at-unnamed book channel number h =
    none_from_test (fault_at book channel number) (contains_key-keys book (channel, number) ∙ no_key channel number (keys book) h)

same_first : (b : ℕ) (a : ℕ × ℕ) → (a.0 == b) ≡ true → eq_by_cmp answer_cmp (b, a.1) a ≡ true
same_first b a h = grind (arith, nat_tests)

-- a named channel has a key
some_key : (channel : ℕ) (ks : List (ℕ × ℕ)) → list_any (λ a. a.0 == channel) ks ≡ true → (number : ℕ) × (list_any (eq_by_cmp answer_cmp (channel, number)) ks ≡ true)
some_key channel [] h = cc
some_key channel (a ∷ ks) h =
    elim (cases_Bool (a.0 == channel)) [
      | inl here ↦ (a.1, or_left (eq_by_cmp answer_cmp (channel, a.1) a) (list_any (eq_by_cmp answer_cmp (channel, a.1)) ks) (same_first channel a here))
      | inr elsewhere ↦
          let (number, found) = some_key channel ks (sym (ap (λ t. t || list_any (λ k. k.0 == channel) ks) elsewhere) ∙ h) in
          (number, or_right (eq_by_cmp answer_cmp (channel, number) a) (list_any (eq_by_cmp answer_cmp (channel, number)) ks) found)
    ]

-- so a channel that has no fault isn't named
pub faultless-unnamed : (book : Book) (channel : ℕ) → ((number : ℕ) → fault_at book channel number ≡ None) → is_faulty book channel ≡ false
faultless-unnamed book channel none =
    false_from_ne_true (is_faulty book channel) (λ named.
    let (number, found) = some_key channel (keys book) named in
    false≢true (sym (ap is_some (none number)) ∙ contains_key-keys book (channel, number) ∙ found))

-- ---- columns
pub count_by-cons : (p : ℕ → Bool) (x : ℕ) (xs : List ℕ) → count_by p (x ∷ xs) ≡ cond (p x) 1 0 + count_by p xs
count_by-cons p x xs = sum_by-cons (λ y. cond (p y) 1 0) x xs

pub count_more : (p : ℕ → Bool) (first n k : ℕ) → n ≤ k → count_by p (range_with_len first n) ≤ count_by p (range_with_len first k)
count_more p first zero k h = omega arith
count_more p first (suc n) zero h = absurd (omega arith)
count_more p first (suc n) (suc k) h =
    omega (arith, count_more p (first + 1) n k (omega arith), count_by-cons p first (range_with_len (first + 1) n), count_by-cons p first (range_with_len (first + 1) k))

-- one place where the entries differ has a named channel
pub place-le : (named : Bool) (x y : ℕ) → (named ≡ false → x ≡ y) → (if x == y then 0 else 1) ≤ cond named 1 0
place-le named x y agree =
    elim named as (λ b. (b ≡ false → x ≡ y) → (if x == y then 0 else 1) ≤ cond b 1 0) [
      | true ↦ λ _. most (x == y)
      | false ↦ λ same. equal (x == y) (eq-eqb x y (same refl))
    ] agree
  where
    most : (b : Bool) → (if b then 0 else 1) ≤ 1
    most true = omega arith
    most false = omega arith

    equal : (b : Bool) → b ≡ true → (if b then 0 else 1) ≤ 0
    equal true e = omega arith
    equal false e = cc

-- columns that agree in the channels from `first` on that aren't named differ in no more places than are named of these
pub distance-le_named : (named : ℕ → Bool) (first : ℕ) (xs ys : List ℕ) → ((i : ℕ) → i < length xs → named (first + i) ≡ false → slice_index xs i ≡ slice_index ys i)
    → distance xs ys ≤ count_by named (range_with_len first (length xs))
distance-le_named named first [] ys agree = omega arith
distance-le_named named first (x ∷ xs) [] agree = omega arith
distance-le_named named first (x ∷ xs) (y ∷ ys) agree =
    let here = place-le (named first) x y (λ e. agree 0 (omega arith) (subst (λ n. named n ≡ false) (omega arith) e)) in
    let rest = distance-le_named named (first + 1) xs ys (λ i l e. agree (suc i) (omega arith) (subst (λ n. named n ≡ false) (omega arith) e)) in
    omega (arith, here, rest, count_by-cons named first (range_with_len (first + 1) (length xs)))

-- columns that agree outside the channels with a fault differ in no more places than there are such channels
pub distance-le_faulty : (book : Book) (xs ys : List ℕ) → length xs ≤ 12 → ((channel : ℕ) → channel < length xs → is_faulty book channel ≡ false → slice_index xs channel ≡ slice_index ys channel)
    → distance xs ys ≤ faulty_channels book
distance-le_faulty book xs ys short agree =
    let named = distance-le_named (is_faulty book) 0 xs ys (λ i l e. agree i l (subst (λ n. is_faulty book n ≡ false) (omega arith) e)) in
    omega (arith, named, count_more (is_faulty book) 0 (length xs) 12 short)
