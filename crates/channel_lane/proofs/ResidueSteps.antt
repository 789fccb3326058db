-- Residues of what operations compute, where each part is known by an equation.
use Rattle.std.proofs.Common.{◌≡◌, ◌≢◌, ℕ, ◌+◌, ◌*◌, ◌%◌, ◌<◌, ◌==◌, cond, List, map, All, sym, ap, ◌∙◌, ℤ, pos, neg_ℤ, ◌-ℤ◌, ◌*ℤ◌}
use Rattle.std.proofs.lemmas.Bool.{ne_eqb}
use Rattle.std.proofs.lemmas.List.Elements.{All-map, All-from_get_or}
use Rattle.number_theory.specs.Residue.{residue}
use Rattle.number_theory.proofs.ResidueLemmas.{residue-below, residue-sub, residue-mul, residue-residue}

-- the operands are x and y, and the modulus m is k
pub add_same : (r a b x y m k : ℕ) → r ≡ (a + b) % m → a ≡ x → b ≡ y → m ≡ k → r ≡ (x + y) % k
add_same r a b x y m k value left right same = cc

pub sub_same : (r a b x y m k : ℕ) → r ≡ residue (pos a -ℤ pos b) m → a ≡ x → b ≡ y → m ≡ k → r ≡ residue (pos x -ℤ pos y) k
sub_same r a b x y m k value left right same = cc

pub mul_same : (r a b x y m k : ℕ) → r ≡ (a * b) % m → a ≡ x → b ≡ y → m ≡ k → r ≡ (x * y) % k
mul_same r a b x y m k value left right same = cc

pub mul_add_same : (r a b c x y z m k : ℕ) → r ≡ (a * b + c) % m → a ≡ x → b ≡ y → c ≡ z → m ≡ k → r ≡ (x * y + z) % k
mul_add_same r a b c x y z m k value left right plus same = cc

pub neg_same : (r a x m k : ℕ) → r ≡ residue (neg_ℤ (pos a)) m → a ≡ x → m ≡ k → r ≡ residue (neg_ℤ (pos x)) k
neg_same r a x m k value from same = cc

pub put_same : (r n m k : ℕ) (z value : ℤ) → r ≡ residue z n → z ≡ value → n ≡ m → m ≡ k → r ≡ residue value k
put_same r n m k z value e same arithmetic set = cc

-- what is taken may be reduced before
sub-reduced : (x take m : ℕ) → 0 < m → residue (pos x -ℤ pos (take % m)) m ≡ residue (pos x -ℤ pos take) m
sub-reduced x take m positive =
    residue-sub (pos x) (pos (take % m)) m positive
    ∙ ap (λ t. residue (pos (x % m) -ℤ pos t) m) (residue-residue (pos take) m positive)
    ∙ sym (residue-sub (pos x) (pos take) m positive)

unscale-reduced : (x take m : ℕ) (y : ℤ) → 0 < m → residue ((pos x -ℤ pos (take % m)) *ℤ y) m ≡ residue ((pos x -ℤ pos take) *ℤ y) m
unscale-reduced x take m y positive =
    residue-mul (pos x -ℤ pos (take % m)) y m positive
    ∙ ap (λ r. (r * residue y m) % m) (sub-reduced x take m positive)
    ∙ sym (residue-mul (pos x -ℤ pos take) y m positive)

pub unscale_same : (r x take give inverse same m n k s channel : ℕ) → r ≡ residue ((pos x -ℤ pos (take % n)) *ℤ pos inverse) m → inverse ≡ same → n ≡ m → k ≡ m → 0 < m → s ≢ channel → r ≡ residue (cond (s == channel) (pos give) ((pos x -ℤ pos take) *ℤ pos same)) k
unscale_same r x take give inverse same m n k s channel value is type set positive apart =
    value
    ∙ ap (λ d. residue ((pos x -ℤ pos (take % d)) *ℤ pos inverse) m) type
    ∙ unscale-reduced x take m (pos inverse) positive
    ∙ ap (λ y. residue ((pos x -ℤ pos take) *ℤ pos y) m) is
    ∙ ap (λ d. residue ((pos x -ℤ pos take) *ℤ pos same) d) (sym set)
    ∙ ap (λ b. residue (cond b (pos give) ((pos x -ℤ pos take) *ℤ pos same)) k) (sym (ne_eqb s channel apart))

-- residues are below the modulus
pub residues-below : (m : ℕ) (xs : List ℤ) → 0 < m → All (λ r. r < m) (map (λ x. residue x m) xs)
residues-below m xs positive =
    All-map (λ r. r < m) (λ x. residue x m) xs (All-from_get_or (λ x. residue x m < m) xs (pos 0) (λ i h. residue-below _ m positive))
