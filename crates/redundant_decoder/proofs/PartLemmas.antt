-- Parts of a list of moduli: coprime numbers, products, and the places at which two integers agree.
use Rattle.std.proofs.Common.{◌≡◌, ℕ, zero, suc, ◌+◌, ◌-◌, ◌*◌, ◌^◌, ◌<◌, ◌≤◌, ◌==◌, Bool, true, false, ◌&&◌, if◌then◌else◌, List, [], ◌∷◌, length, map, take, drop, All, refl, ap, ◌∙◌, subst, arith}
use Rattle.std.specs.List.{remove, AllByRecursion as ByRecursion}
use Rattle.std.proofs.lemmas.Bool.{eqb-true}
use Rattle.std.proofs.lemmas.List.Elements.{recursion_from_All, All-from_recursion}
use Rattle.std.proofs.lemmas.List.Kept.{AllPairs-cons}
use Rattle.std.proofs.Math.Nat.{pow-zero, pow-succ', mul-one, mul_assoc, mul_left_comm, mul-le-mul, mul-le-mul_left, mul-le-mul_right}
use Rattle.number_theory.specs.Coprime.{IsCoprime, ArePairwiseCoprime, product}
use Rattle.number_theory.proofs.CoprimeLemmas.{ArePairwiseCoprime-head, ArePairwiseCoprime-tail}
use Rattle.number_theory.specs.Distance.{distance}
use Rattle.redundant_decoder.specs.Nearest.{part}

-- ---- coprime numbers
-- what holds of each element holds of each in a part
All-part : (P : ℕ → Type 0) (keeps : List Bool) (ms : List ℕ) → ByRecursion P ms → ByRecursion P (part keeps ms)
All-part P [] ms h = tt
All-part P (keep ∷ keeps) [] h = tt
All-part P (true ∷ keeps) (m ∷ ms) h = (h.0, All-part P keeps ms h.1)
All-part P (false ∷ keeps) (m ∷ ms) h = All-part P keeps ms h.1

ArePairwiseCoprime-none : ArePairwiseCoprime []
ArePairwiseCoprime-none i j d below j_in = absurd (omega arith)

-- a part of pairwise coprime moduli is pairwise coprime
pub ArePairwiseCoprime-part : (keeps : List Bool) (ms : List ℕ) → ArePairwiseCoprime ms → ArePairwiseCoprime (part keeps ms)
ArePairwiseCoprime-part [] ms h = ArePairwiseCoprime-none
ArePairwiseCoprime-part (keep ∷ keeps) [] h = ArePairwiseCoprime-none
ArePairwiseCoprime-part (true ∷ keeps) (m ∷ ms) h =
    let head = recursion_from_All (IsCoprime m) ms (ArePairwiseCoprime-head m ms h) in
    let kept = All-from_recursion (IsCoprime m) (part keeps ms) (All-part (IsCoprime m) keeps ms head) in
    AllPairs-cons IsCoprime m (part keeps ms) kept (ArePairwiseCoprime-part keeps ms (ArePairwiseCoprime-tail m ms h))
ArePairwiseCoprime-part (false ∷ keeps) (m ∷ ms) h = ArePairwiseCoprime-part keeps ms (ArePairwiseCoprime-tail m ms h)

-- ---- products
-- the greatest number of a list, and 1 for none
greatest : List ℕ → ℕ
greatest [] = 1
greatest (m ∷ ms) = m + (greatest ms - m)

-- no number is above it
greatest-above : (ms : List ℕ) (b : ℕ) → greatest ms ≤ b → ByRecursion (λ m. m ≤ b) ms
unfolding greatest
greatest-above [] b h = tt
greatest-above (m ∷ ms) b h = (omega arith, greatest-above ms b (omega arith))

-- and it is below what they all are
greatest-below : (ms : List ℕ) (r : ℕ) → 1 ≤ r → ByRecursion (λ m. m < r) ms → greatest ms ≤ r
unfolding greatest
greatest-below [] r p h = p
greatest-below (m ∷ ms) r p h = omega (arith, h.0, greatest-below ms r p h.1)

greatest-positive : (ms : List ℕ) → 1 ≤ greatest ms
unfolding greatest
greatest-positive [] = omega arith
greatest-positive (m ∷ ms) = omega (arith, greatest-positive ms)

-- d members of a part, each b at the least
power_below : (b d : ℕ) (keeps : List Bool) (ms : List ℕ) → 1 ≤ b → ByRecursion (λ m. b ≤ m) ms → d ≤ length (part keeps ms) → b ^ d ≤ product (part keeps ms)
power_below b zero [] ms p h many = omega (arith, pow-zero b)
power_below b (suc d) [] ms p h many = absurd (omega arith)
power_below b zero (keep ∷ keeps) [] p h many = omega (arith, pow-zero b)
power_below b (suc d) (keep ∷ keeps) [] p h many = absurd (omega arith)
power_below b zero (true ∷ keeps) (m ∷ ms) p h many =
    let rest = power_below b zero keeps ms p h.1 (omega arith) in
    let positive : 1 ≤ m = omega (arith, h.0) in
    omega (arith, pow-zero b, mul-le-mul positive rest)
power_below b (suc d) (true ∷ keeps) (m ∷ ms) p h many =
    omega (arith, pow-succ' b d, mul-le-mul h.0 (power_below b d keeps ms p h.1 (omega arith)))
power_below b d (false ∷ keeps) (m ∷ ms) p h many = power_below b d keeps ms p h.1 many

-- one number more of the first n, kept or skipped
kept_more : (m p w q : ℕ) → p * w ≤ q → m * p * w ≤ m * q
kept_more m p w q h = omega (arith, mul_assoc m p w, mul-le-mul_left m h)

skipped_more : (m b p w q : ℕ) → m ≤ b → p * (b * w) ≤ q → m * p * w ≤ q
skipped_more m b p w q le h =
    let turned : b * (p * w) ≡ p * (b * w) = mul_left_comm b p w in
    omega (arith, mul_assoc m p w, mul-le-mul_right (p * w) le)

-- the first n numbers are b at the most, the others b at the least: a part with n members and d more has a product of
-- at least that of the first n, times b for each of the d
product_below : (b d n : ℕ) (keeps : List Bool) (ms : List ℕ) → 1 ≤ b → ByRecursion (λ m. m ≤ b) (take n ms) → ByRecursion (λ m. b ≤ m) (drop n ms) → n + d ≤ length (part keeps ms) → product (take n ms) * b ^ d ≤ product (part keeps ms)
product_below b d zero keeps ms p low high many = omega (arith, power_below b d keeps ms p high (omega arith))
product_below b d (suc n) [] ms p low high many = absurd (omega arith)
product_below b d (suc n) (keep ∷ keeps) [] p low high many = absurd (omega arith)
product_below b d (suc n) (true ∷ keeps) (m ∷ ms) p low high many =
    kept_more m (product (take n ms)) (b ^ d) _ (product_below b d n keeps ms p low.1 high (omega arith))
product_below b d (suc n) (false ∷ keeps) (m ∷ ms) p low high many =
    let rest = subst (λ q. product (take n ms) * q ≤ product (part keeps ms)) (pow-succ' b d) (product_below b (suc d) n keeps ms p low.1 high (omega arith)) in
    skipped_more m b (product (take n ms)) (b ^ d) _ low.0 rest

-- where each number from n on is larger than each before, a part with n members has a product of at least that of
-- the first n
pub product-part : (n : ℕ) (keeps : List Bool) (ms : List ℕ) → ByRecursion (λ r. 1 ≤ r) (drop n ms) → ByRecursion (λ r. All (λ m. m < r) (take n ms)) (drop n ms) → n ≤ length (part keeps ms) → product (take n ms) ≤ product (part keeps ms)
product-part n keeps ms positive larger many =
    let b = greatest (take n ms) in
    let low = greatest-above (take n ms) b (omega arith) in
    let high = least_above (take n ms) (drop n ms) positive larger in
    let all = product_below b 0 n keeps ms (greatest-positive (take n ms)) low high (omega arith) in
    subst (λ p. p ≤ product (part keeps ms)) (ap (λ q. product (take n ms) * q) (pow-zero b) ∙ mul-one (product (take n ms))) all
  where
    least_above : (is rs : List ℕ) → ByRecursion (λ r. 1 ≤ r) rs → ByRecursion (λ r. All (λ m. m < r) is) rs → ByRecursion (λ r. greatest is ≤ r) rs
    least_above is [] p h = tt
    least_above is (r ∷ rs) p h = (greatest-below is r p.0 (recursion_from_All (λ m. m < r) is h.0), least_above is rs p.1 h.1)

-- ---- agreeing_places places
-- the places of a part at which f and g agree
pub agreeing_places : List Bool → (ℕ → ℕ) → (ℕ → ℕ) → List ℕ → List Bool
agreeing_places [] f g ms = []
agreeing_places (keep ∷ keeps) f g [] = []
agreeing_places (keep ∷ keeps) f g (m ∷ ms) = (keep && (f m == g m)) ∷ agreeing_places keeps f g ms

-- one place more, at which they agree or not
length_more : (b : Bool) (keeps : List Bool) (m d : ℕ) (ms : List ℕ) → length (part (b ∷ keeps) (m ∷ ms)) + ((if b then 0 else 1) + d) ≡ suc (length (part keeps ms) + d)
length_more true keeps m d ms = omega arith
length_more false keeps m d ms = omega arith

-- there are as many as the part has members, less the distance
pub length-agreeing : (keeps : List Bool) (f g : ℕ → ℕ) (ms : List ℕ) → length (part (agreeing_places keeps f g ms) ms) + distance (map f (part keeps ms)) (map g (part keeps ms)) ≡ length (part keeps ms)
unfolding agreeing_places
length-agreeing [] f g ms = refl
length-agreeing (keep ∷ keeps) f g [] = refl
length-agreeing (true ∷ keeps) f g (m ∷ ms) =
    length_more (f m == g m) (agreeing_places keeps f g ms) m (distance (map f (part keeps ms)) (map g (part keeps ms))) ms
    ∙ ap suc (length-agreeing keeps f g ms)
length-agreeing (false ∷ keeps) f g (m ∷ ms) = length-agreeing keeps f g ms

map_more_agreeing : (b : Bool) (keeps : List Bool) (f g : ℕ → ℕ) (m : ℕ) (ms : List ℕ) → (b ≡ true → f m ≡ g m) → map f (part keeps ms) ≡ map g (part keeps ms) → map f (part (b ∷ keeps) (m ∷ ms)) ≡ map g (part (b ∷ keeps) (m ∷ ms))
map_more_agreeing true keeps f g m ms same tail = let head = same refl in cc
map_more_agreeing false keeps f g m ms same tail = tail

-- there f and g agree
pub map-agreeing : (keeps : List Bool) (f g : ℕ → ℕ) (ms : List ℕ) → map f (part (agreeing_places keeps f g ms) ms) ≡ map g (part (agreeing_places keeps f g ms) ms)
unfolding agreeing_places
map-agreeing [] f g ms = refl
map-agreeing (keep ∷ keeps) f g [] = refl
map-agreeing (true ∷ keeps) f g (m ∷ ms) =
    map_more_agreeing (f m == g m) (agreeing_places keeps f g ms) f g m ms (eqb-true (f m) (g m)) (map-agreeing keeps f g ms)
map-agreeing (false ∷ keeps) f g (m ∷ ms) = map-agreeing keeps f g ms

-- ---- the whole list, and all of it but one
-- every place is kept
pub all_kept : List ℕ → List Bool
all_kept [] = []
all_kept (m ∷ ms) = true ∷ all_kept ms

-- and every place but i
pub all_but : List ℕ → ℕ → List Bool
all_but [] i = []
all_but (m ∷ ms) zero = false ∷ all_kept ms
all_but (m ∷ ms) (suc i) = true ∷ all_but ms i

-- these parts are the list, and the list without what stands at i
pub part-all_kept : (ms : List ℕ) → part (all_kept ms) ms ≡ ms
unfolding all_kept
part-all_kept [] = refl
part-all_kept (m ∷ ms) = ap (λ rest. m ∷ rest) (part-all_kept ms)

pub part-all_but : (ms : List ℕ) (i : ℕ) → part (all_but ms i) ms ≡ remove ms i
unfolding all_but
part-all_but [] zero = refl
part-all_but [] (suc i) = refl
part-all_but (m ∷ ms) zero = part-all_kept ms
part-all_but (m ∷ ms) (suc i) = ap (λ rest. m ∷ rest) (part-all_but ms i)

-- what stands at i may be left out before a map or after it
pub remove-map : (f : ℕ → ℕ) (ms : List ℕ) (i : ℕ) → remove (map f ms) i ≡ map f (remove ms i)
remove-map f [] zero = refl
remove-map f [] (suc i) = refl
remove-map f (m ∷ ms) zero = refl
remove-map f (m ∷ ms) (suc i) = ap (λ rest. f m ∷ rest) (remove-map f ms i)
