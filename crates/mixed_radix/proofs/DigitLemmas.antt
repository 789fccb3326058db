-- Mixed-radix digits and the number that they write.
use Rattle.std.proofs.Common.{◌≡◌, ℕ, zero, suc, ◌+◌, ◌*◌, ◌/◌, ◌%◌, ◌<◌, ◌≤◌, ◌≢◌, Ordering, Less, Equal, Greater, List, [], ◌∷◌, length, take, drop, get_or, refl, sym, ap, ◌∙◌, subst, arith, add-one}
use Rattle.std.specs.Ordering.{MatchOrdering, nat_cmp}
use Rattle.std.specs.Cmp.{nat_cmp_is}
use Rattle.std.proofs.lemmas.Cmp.{ranked}
use Rattle.std.proofs.lemmas.Nat.{mod-mul-add, div-mul-add, mul-add-lt, div_below}
use Rattle.std.proofs.Math.Nat.{mul_comm, mul_assoc, zero-mul, div-one, mod-lt, div-add-mod', div-div-eq-div-mul, le-mul_of_pos_right, mul-le-mul_left}
use Rattle.number_theory.specs.Coprime.{product}
use Rattle.number_theory.specs.Residue.{AreResidues}
use Rattle.mixed_radix.specs.Digits.{digits, digits_value}

-- ---- residues by their places
pub length-residues : (ms rs : List ℕ) → AreResidues ms rs → length rs ≡ length ms
length-residues [] [] h = refl
length-residues [] (r ∷ rs) h = absurd h
length-residues (m ∷ ms) [] h = absurd h
length-residues (m ∷ ms) (r ∷ rs) h = ap suc (length-residues ms rs h.1)

pub AreResidues-at : (ms rs : List ℕ) (k : ℕ) → AreResidues ms rs → k < length ms → get_or rs k 0 < get_or ms k 0
AreResidues-at [] rs k h in' = absurd (omega arith)
AreResidues-at (m ∷ ms) [] k h in' = absurd h
AreResidues-at (m ∷ ms) (r ∷ rs) zero h in' = h.0
AreResidues-at (m ∷ ms) (r ∷ rs) (suc k) h in' = AreResidues-at ms rs k h.1 (omega arith)

pub AreResidues-from_places : (ms rs : List ℕ) → length rs ≡ length ms → ((k : ℕ) → k < length ms → get_or rs k 0 < get_or ms k 0) → AreResidues ms rs
AreResidues-from_places [] [] e h = tt
AreResidues-from_places [] (r ∷ rs) e h = absurd (omega arith)
AreResidues-from_places (m ∷ ms) [] e h = absurd (omega arith)
AreResidues-from_places (m ∷ ms) (r ∷ rs) e h = (h 0 (omega arith), AreResidues-from_places ms rs (omega arith) (λ k in'. h (suc k) (omega arith)))

pub AreResidues-drop : (n : ℕ) (ms rs : List ℕ) → AreResidues ms rs → AreResidues (drop n ms) (drop n rs)
AreResidues-drop zero ms rs h = h
AreResidues-drop (suc n) [] [] h = h
AreResidues-drop (suc n) [] (r ∷ rs) h = absurd h
AreResidues-drop (suc n) (m ∷ ms) [] h = absurd h
AreResidues-drop (suc n) (m ∷ ms) (r ∷ rs) h = AreResidues-drop n ms rs h.1

-- ---- digits write one number
positive_factor : (a b n : ℕ) → n < a * b → 0 < a
positive_factor zero b n h = absurd (omega (arith, zero-mul b))
positive_factor (suc a) b n h = omega arith

-- what is left of a number below the product, once the first digit is taken
div-lt_product : (m p n : ℕ) → n < m * p → n / m < p
div-lt_product m p n h = div_below n m p (positive_factor m p n h) (subst (λ k. n < k) (mul_comm m p) h)

pub digits_value-digits : (ms : List ℕ) (n : ℕ) → n < product ms → digits_value ms (digits ms n) ≡ n
digits_value-digits [] n h = omega arith
digits_value-digits (m ∷ ms) n h =
    let rest = digits_value-digits ms (n / m) (div-lt_product m (product ms) n h) in
    let scaled : m * digits_value ms (digits ms (n / m)) ≡ m * (n / m) = ap (λ k. m * k) rest in
    omega (arith, scaled, div-add-mod' n m)

pub digits-digits_value : (ms ds : List ℕ) → AreResidues ms ds → digits ms (digits_value ms ds) ≡ ds
digits-digits_value [] [] h = refl
digits-digits_value [] (d ∷ ds) h = absurd h
digits-digits_value (m ∷ ms) [] h = absurd h
digits-digits_value (m ∷ ms) (d ∷ ds) h =
    let v = digits_value ms ds in
    let turned : d + m * v ≡ v * m + d = omega arith in
    let low : (d + m * v) % m ≡ d = ap (λ n. n % m) turned ∙ mod-mul-add v m d h.0 in
    let high : (d + m * v) / m ≡ v = ap (λ n. n / m) turned ∙ div-mul-add v m d h.0 in
    let rest : digits ms ((d + m * v) / m) ≡ ds = ap (digits ms) high ∙ digits-digits_value ms ds h.1 in
    cc

pub digits_value-lt : (ms ds : List ℕ) → AreResidues ms ds → digits_value ms ds < product ms
digits_value-lt [] [] h = omega arith
digits_value-lt [] (d ∷ ds) h = absurd h
digits_value-lt (m ∷ ms) [] h = absurd h
digits_value-lt (m ∷ ms) (d ∷ ds) h =
    omega (arith, mul-add-lt (digits_value ms ds) m d (product ms) (digits_value-lt ms ds h.1) h.0)

pub AreResidues-digits : (ms : List ℕ) (n : ℕ) → n < product ms → AreResidues ms (digits ms n)
AreResidues-digits [] n h = tt
AreResidues-digits (m ∷ ms) n h =
    (mod-lt n (positive_factor m (product ms) n h), AreResidues-digits ms (n / m) (div-lt_product m (product ms) n h))

-- ---- digits by their places
pub length-digits : (ms : List ℕ) (n : ℕ) → length (digits ms n) ≡ length ms
length-digits [] n = refl
length-digits (m ∷ ms) n = ap suc (length-digits ms (n / m))

-- digit k is taken from what is left once the moduli before it are divided out
pub get_or-digits : (ms : List ℕ) (n k : ℕ) → k < length ms → get_or (digits ms n) k 0 ≡ (n / product (take k ms)) % get_or ms k 0
get_or-digits [] n k h = absurd (omega arith)
get_or-digits (m ∷ ms) n zero h = ap (λ q. q % m) (sym (div-one n))
get_or-digits (m ∷ ms) n (suc k) h =
    get_or-digits ms (n / m) k (omega arith) ∙ ap (λ q. q % get_or ms k 0) (div-div-eq-div-mul n m (product (take k ms)))

product-take_suc : (ms : List ℕ) (k : ℕ) → k < length ms → product (take (suc k) ms) ≡ product (take k ms) * get_or ms k 0
product-take_suc [] k h = absurd (omega arith)
product-take_suc (m ∷ ms) zero h = omega arith
product-take_suc (m ∷ ms) (suc k) h =
    ap (λ p. m * p) (product-take_suc ms k (omega arith)) ∙ sym (mul_assoc m (product (take k ms)) (get_or ms k 0))

product-take_more : (ms : List ℕ) (k : ℕ) → k < length ms → product (take (k + 1) ms) ≡ product (take k ms) * get_or ms k 0
product-take_more ms k h = ap (λ n. product (take n ms)) (add-one k) ∙ product-take_suc ms k h

-- what is left of n at place k + 1 is what is left at k, divided by modulus k
pub div-product_more : (ms : List ℕ) (n k : ℕ) → k < length ms → n / product (take k ms) / get_or ms k 0 ≡ n / product (take (k + 1) ms)
div-product_more ms n k h =
    div-div-eq-div-mul n (product (take k ms)) (get_or ms k 0) ∙ ap (λ p. n / p) (sym (product-take_more ms k h))

-- the number that all but the first k digits write
digits_value-drop_suc : (ms ds : List ℕ) (k : ℕ) → k < length ms → k < length ds → digits_value (drop k ms) (drop k ds) ≡ get_or ds k 0 + get_or ms k 0 * digits_value (drop (suc k) ms) (drop (suc k) ds)
digits_value-drop_suc [] ds k h i = absurd (omega arith)
digits_value-drop_suc (m ∷ ms) [] k h i = absurd (omega arith)
digits_value-drop_suc (m ∷ ms) (d ∷ ds) zero h i = refl
digits_value-drop_suc (m ∷ ms) (d ∷ ds) (suc k) h i = digits_value-drop_suc ms ds k (omega arith) (omega arith)

pub digits_value-drop : (ms ds : List ℕ) (k : ℕ) → k < length ms → k < length ds → digits_value (drop k ms) (drop k ds) ≡ get_or ds k 0 + get_or ms k 0 * digits_value (drop (k + 1) ms) (drop (k + 1) ds)
digits_value-drop ms ds k h i =
    digits_value-drop_suc ms ds k h i ∙ ap (λ n. get_or ds k 0 + get_or ms k 0 * digits_value (drop n ms) (drop n ds)) (sym (add-one k))

-- is at most the whole number
pub digits_value-drop_le : (ms ds : List ℕ) (k : ℕ) → AreResidues ms ds → digits_value (drop k ms) (drop k ds) ≤ digits_value ms ds
digits_value-drop_le ms ds zero h = omega arith
digits_value-drop_le [] [] (suc k) h = omega arith
digits_value-drop_le [] (d ∷ ds) (suc k) h = absurd h
digits_value-drop_le (m ∷ ms) [] (suc k) h = absurd h
digits_value-drop_le (m ∷ ms) (d ∷ ds) (suc k) h =
    let positive : 0 < m = omega (arith, h.0) in
    omega (arith, digits_value-drop_le ms ds k h.1, le-mul_of_pos_right (digits_value ms ds) positive)

-- ---- the order of numbers by their digits
-- the highest digit in which two lists differ tells their order
pub digits_value-lt_at : (ms xs ys : List ℕ) (k : ℕ) → AreResidues ms xs → AreResidues ms ys → k < length xs → drop (suc k) xs ≡ drop (suc k) ys → get_or xs k 0 < get_or ys k 0 → digits_value ms xs < digits_value ms ys
digits_value-lt_at [] [] ys k h i in' same lt = absurd (omega arith)
digits_value-lt_at [] (x ∷ xs) ys k h i in' same lt = absurd h
digits_value-lt_at (m ∷ ms) [] ys k h i in' same lt = absurd h
digits_value-lt_at (m ∷ ms) (x ∷ xs) [] k h i in' same lt = absurd i
digits_value-lt_at (m ∷ ms) (x ∷ xs) (y ∷ ys) zero h i in' same lt =
    let rest : m * digits_value ms xs ≡ m * digits_value ms ys = ap (λ ds. m * digits_value ms ds) same in
    omega (arith, rest, lt)
digits_value-lt_at (m ∷ ms) (x ∷ xs) (y ∷ ys) (suc k) h i in' same lt =
    let rest = digits_value-lt_at ms xs ys k h.1 i.1 (omega arith) same lt in
    let next : digits_value ms xs + 1 ≤ digits_value ms ys = omega (arith, rest) in
    omega (arith, h.0, mul-le-mul_left m next)

order_by_digit : (ms xs ys : List ℕ) (k : ℕ) (r : Ordering) → AreResidues ms xs → AreResidues ms ys → k < length xs → drop (suc k) xs ≡ drop (suc k) ys → r ≢ Equal → MatchOrdering r (get_or xs k 0 < get_or ys k 0) (get_or xs k 0 ≡ get_or ys k 0) (get_or ys k 0 < get_or xs k 0) → MatchOrdering r (digits_value ms xs < digits_value ms ys) (digits_value ms xs ≡ digits_value ms ys) (digits_value ms ys < digits_value ms xs)
order_by_digit ms xs ys k Less h i in' same differ m = digits_value-lt_at ms xs ys k h i in' same m
order_by_digit ms xs ys k Equal h i in' same differ m = absurd (differ refl)
order_by_digit ms xs ys k Greater h i in' same differ m =
    digits_value-lt_at ms ys xs k i h (omega (arith, length-residues ms xs h, length-residues ms ys i)) (sym same) m

pub nat_cmp-digits_value : (ms xs ys : List ℕ) (k : ℕ) (r : Ordering) → AreResidues ms xs → AreResidues ms ys → k < length xs → drop (k + 1) xs ≡ drop (k + 1) ys → r ≢ Equal → r ≡ nat_cmp (get_or xs k 0) (get_or ys k 0) → r ≡ nat_cmp (digits_value ms xs) (digits_value ms ys)
nat_cmp-digits_value ms xs ys k r h i in' same differ e =
    let after : drop (suc k) xs ≡ drop (suc k) ys = ap (λ n. drop n xs) (sym (add-one k)) ∙ same ∙ ap (λ n. drop n ys) (add-one k) in
    nat_cmp_is _ _ r (order_by_digit ms xs ys k r h i in' after differ (ranked _ _ r e))
