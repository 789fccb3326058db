-- Numbers and their bytes, the highest first.
use Rattle.std.proofs.Common.{◌≡◌, ℕ, zero, suc, ◌+◌, ◌*◌, ◌/◌, ◌%◌, ◌^◌, ◌<◌, ◌≤◌, ℤ, pos, negsuc, List, [], ◌∷◌, length, take, drop, None, refl, sym, ap, subst, ◌∙◌, lit<, arith}
use Rattle.std.specs.Int.{w32, w128, byte_at, bytes_high_first, to_be_bytes, from_be_bytes, cast_signed, cast_unsigned}
use Rattle.std.specs.Int.RustNames.{FitsSigned}
use Rattle.std.proofs.Math.Nat.{mod-eq_of_lt, div-eq_of_lt, add-mul-mod_self_right, div-add-mod, mul-le-mul_right, pow-suc}
use Rattle.std.proofs.lemmas.Nat.{same_from_place, mod_below, from_be_bytes-to_be_bytes_4}
use Rattle.std.proofs.lemmas.Int.{to_z-of_z, of_z-to_z}
use Rattle.std.proofs.lemmas.List.{length-drop}
use Rattle.object_bytes.specs.Layout.{first_nonzero}
use Rattle.object_bytes.specs.Loading.{AreBytes}
use Rattle.object_bytes.specs.Record.{integer_bytes}

-- ---- the value of bytes
abbrev value_of : List ℕ → ℕ
value_of [] = 0
value_of (b ∷ bytes) = b * 256 ^ length bytes + value_of bytes

rest_are_bytes : (b : ℕ) (bytes : List ℕ) → AreBytes (b ∷ bytes) → AreBytes bytes
rest_are_bytes b bytes h i = h (suc i)

le_below : (b : ℕ) → b < 256 → b ≤ 255
le_below b h = omega arith

-- a row below 256 and a place in it
place_below : (b v w : ℕ) → b < 256 → v < w → b * w + v < w * 256
place_below b v w small rest = let rows : b * w ≤ 255 * w = mul-le-mul_right w (le_below b small) in omega arith

power_pos : (k : ℕ) → 0 < 256 ^ k
power_pos zero = lit< tt
power_pos (suc k) = let h = power_pos k in omega (arith, pow-suc 256 k)

power-suc : (k : ℕ) → 256 ^ k * 256 ≡ 256 ^ suc k
power-suc k = sym (pow-suc 256 k)

value_of-lt : (bytes : List ℕ) → AreBytes bytes → value_of bytes < 256 ^ length bytes
value_of-lt [] h = lit< tt
value_of-lt (b ∷ bytes) h =
    let small : b < 256 = h 0 in
    let rest = value_of-lt bytes (rest_are_bytes b bytes h) in
    subst (λ n. b * 256 ^ length bytes + value_of bytes < n) (power-suc (length bytes)) (place_below b (value_of bytes) (256 ^ length bytes) small rest)

-- bytes of one number and one length are one
value_of-injective : (xs ys : List ℕ) → AreBytes xs → AreBytes ys → length xs ≡ length ys → value_of xs ≡ value_of ys → xs ≡ ys
value_of-injective [] [] hx hy l e = refl
value_of-injective [] (y ∷ ys) hx hy l e = absurd (omega arith)
value_of-injective (x ∷ xs) [] hx hy l e = absurd (omega arith)
value_of-injective (x ∷ xs) (y ∷ ys) hx hy l e =
    let same : length xs ≡ length ys = omega arith in
    let low : value_of ys < 256 ^ length xs = subst (λ n. value_of ys < 256 ^ n) (sym same) (value_of-lt ys (rest_are_bytes y ys hy)) in
    let equal : x * 256 ^ length xs + value_of xs ≡ y * 256 ^ length xs + value_of ys = e ∙ ap (λ n. y * 256 ^ n + value_of ys) (sym same) in
    let parts = same_from_place x (value_of xs) y (value_of ys) (256 ^ length xs) (value_of-lt xs (rest_are_bytes x xs hx)) low equal in
    ap (λ b. b ∷ xs) parts.0 ∙ ap (λ bytes. y ∷ bytes) (value_of-injective xs ys (rest_are_bytes x xs hx) (rest_are_bytes y ys hy) same parts.1)

-- ---- the bytes of a number
byte_at-is : (k n : ℕ) → byte_at k n ≡ n / 256 ^ k % 256
byte_at-is zero n = omega arith
byte_at-is (suc k) n = refl

pub length-bytes : (k n : ℕ) → length (bytes_high_first k n) ≡ k
length-bytes zero n = refl
length-bytes (suc k) n = ap suc (length-bytes k n)

are_bytes-high : (k n : ℕ) → AreBytes (bytes_high_first k n)
are_bytes-high zero n i = lit< tt
are_bytes-high (suc k) n zero = subst (λ b. b < 256) (sym (byte_at-is k n)) (mod_below (n / 256 ^ k) 256 (lit< tt))
are_bytes-high (suc k) n (suc i) = are_bytes-high k n i

places : (n m q r b c : ℕ) → n ≡ m * q + r → q ≡ b + c * 256 → n ≡ (b * m + r) + c * (m * 256)
places n m q r b c e h = omega (arith, ap (λ x. m * x) h)

-- the lowest k bytes and the one above them
mod-byte : (n m : ℕ) → 0 < m → n / m % 256 * m + n % m ≡ n % (m * 256)
mod-byte n m some =
    let q = n / m in
    let r = n % m in
    let low : r < m = mod_below n m some in
    let top : q % 256 < 256 = mod_below q 256 (lit< tt) in
    let small : q % 256 * m + r < m * 256 = place_below (q % 256) r m top low in
    let whole : n ≡ (q % 256 * m + r) + (q / 256) * (m * 256) = places n m q r (q % 256) (q / 256) (sym (div-add-mod n m)) (omega arith) in
    sym (ap (λ x. x % (m * 256)) whole ∙ add-mul-mod_self_right (q % 256 * m + r) (q / 256) (m * 256) ∙ mod-eq_of_lt small)

value_of-bytes : (k n : ℕ) → value_of (bytes_high_first k n) ≡ n % 256 ^ k
value_of-bytes zero n = omega arith
value_of-bytes (suc k) n =
    let high : byte_at k n * 256 ^ length (bytes_high_first k n) ≡ n / 256 ^ k % 256 * 256 ^ k = ap (λ i. byte_at k n * 256 ^ i) (length-bytes k n) ∙ ap (λ b. b * 256 ^ k) (byte_at-is k n) in
    ap (λ x. x + value_of (bytes_high_first k n)) high ∙ ap (λ x. n / 256 ^ k % 256 * 256 ^ k + x) (value_of-bytes k n) ∙ mod-byte n (256 ^ k) (power_pos k) ∙ ap (λ m. n % m) (power-suc k)

-- bytes of a length are those of their value
bytes_of-value : (k : ℕ) (bytes : List ℕ) → length bytes ≡ k → AreBytes bytes → bytes_high_first k (value_of bytes) ≡ bytes
bytes_of-value k bytes long h =
    let small : value_of bytes < 256 ^ k = subst (λ n. value_of bytes < 256 ^ n) long (value_of-lt bytes h) in
    value_of-injective (bytes_high_first k (value_of bytes)) bytes (are_bytes-high k (value_of bytes)) h (length-bytes k (value_of bytes) ∙ sym long)
    (value_of-bytes k (value_of bytes) ∙ mod-eq_of_lt small)

-- ---- numbers of 4 and of 16 bytes
value_of-4 : (bytes : List ℕ) → length bytes ≡ 4 → from_be_bytes w32 bytes ≡ value_of bytes
value_of-4 [] long = absurd (omega arith)
value_of-4 (b0 ∷ []) long = absurd (omega arith)
value_of-4 (b0 ∷ b1 ∷ []) long = absurd (omega arith)
value_of-4 (b0 ∷ b1 ∷ b2 ∷ []) long = absurd (omega arith)
value_of-4 (b0 ∷ b1 ∷ b2 ∷ b3 ∷ []) long = omega arith
value_of-4 (b0 ∷ b1 ∷ b2 ∷ b3 ∷ b ∷ bs) long = absurd (omega arith)

value_of-16 : (bytes : List ℕ) → length bytes ≡ 16 → from_be_bytes w128 bytes ≡ value_of bytes
value_of-16 [] long = absurd (omega arith)
value_of-16 (b0 ∷ []) long = absurd (omega arith)
value_of-16 (b0 ∷ b1 ∷ []) long = absurd (omega arith)
value_of-16 (b0 ∷ b1 ∷ b2 ∷ []) long = absurd (omega arith)
value_of-16 (b0 ∷ b1 ∷ b2 ∷ b3 ∷ []) long = absurd (omega arith)
value_of-16 (b0 ∷ b1 ∷ b2 ∷ b3 ∷ b4 ∷ []) long = absurd (omega arith)
value_of-16 (b0 ∷ b1 ∷ b2 ∷ b3 ∷ b4 ∷ b5 ∷ []) long = absurd (omega arith)
value_of-16 (b0 ∷ b1 ∷ b2 ∷ b3 ∷ b4 ∷ b5 ∷ b6 ∷ []) long = absurd (omega arith)
value_of-16 (b0 ∷ b1 ∷ b2 ∷ b3 ∷ b4 ∷ b5 ∷ b6 ∷ b7 ∷ []) long = absurd (omega arith)
value_of-16 (b0 ∷ b1 ∷ b2 ∷ b3 ∷ b4 ∷ b5 ∷ b6 ∷ b7 ∷ b8 ∷ []) long = absurd (omega arith)
value_of-16 (b0 ∷ b1 ∷ b2 ∷ b3 ∷ b4 ∷ b5 ∷ b6 ∷ b7 ∷ b8 ∷ b9 ∷ []) long = absurd (omega arith)
value_of-16 (b0 ∷ b1 ∷ b2 ∷ b3 ∷ b4 ∷ b5 ∷ b6 ∷ b7 ∷ b8 ∷ b9 ∷ b10 ∷ []) long = absurd (omega arith)
value_of-16 (b0 ∷ b1 ∷ b2 ∷ b3 ∷ b4 ∷ b5 ∷ b6 ∷ b7 ∷ b8 ∷ b9 ∷ b10 ∷ b11 ∷ []) long = absurd (omega arith)
value_of-16 (b0 ∷ b1 ∷ b2 ∷ b3 ∷ b4 ∷ b5 ∷ b6 ∷ b7 ∷ b8 ∷ b9 ∷ b10 ∷ b11 ∷ b12 ∷ []) long = absurd (omega arith)
value_of-16 (b0 ∷ b1 ∷ b2 ∷ b3 ∷ b4 ∷ b5 ∷ b6 ∷ b7 ∷ b8 ∷ b9 ∷ b10 ∷ b11 ∷ b12 ∷ b13 ∷ []) long = absurd (omega arith)
value_of-16 (b0 ∷ b1 ∷ b2 ∷ b3 ∷ b4 ∷ b5 ∷ b6 ∷ b7 ∷ b8 ∷ b9 ∷ b10 ∷ b11 ∷ b12 ∷ b13 ∷ b14 ∷ []) long = absurd (omega arith)
value_of-16 (b0 ∷ b1 ∷ b2 ∷ b3 ∷ b4 ∷ b5 ∷ b6 ∷ b7 ∷ b8 ∷ b9 ∷ b10 ∷ b11 ∷ b12 ∷ b13 ∷ b14 ∷ b15 ∷ []) long = omega arith
value_of-16 (b0 ∷ b1 ∷ b2 ∷ b3 ∷ b4 ∷ b5 ∷ b6 ∷ b7 ∷ b8 ∷ b9 ∷ b10 ∷ b11 ∷ b12 ∷ b13 ∷ b14 ∷ b15 ∷ b ∷ bs) long = absurd (omega arith)

pub natural_back : (bytes : List ℕ) → length bytes ≡ 4 → AreBytes bytes → to_be_bytes w32 (from_be_bytes w32 bytes) ≡ bytes
natural_back bytes long h = ap (bytes_high_first 4) (value_of-4 bytes long) ∙ bytes_of-value 4 bytes long h

pub natural_again : (n : ℕ) → n < 2 ^ 32 → from_be_bytes w32 (to_be_bytes w32 n) ≡ n
natural_again n h = from_be_bytes-to_be_bytes_4 n h

natural_below : (bytes : List ℕ) → length bytes ≡ 4 → AreBytes bytes → from_be_bytes w32 bytes < 2 ^ 32
natural_below bytes long h = subst (λ n. n < 2 ^ 32) (sym (value_of-4 bytes long)) (subst (λ k. value_of bytes < 256 ^ k) long (value_of-lt bytes h))

pub integer_back : (bytes : List ℕ) → length bytes ≡ 16 → AreBytes bytes → integer_bytes (cast_signed w128 (from_be_bytes w128 bytes)) ≡ bytes
integer_back bytes long h =
    let value = value_of-16 bytes long in
    let small : value_of bytes < 2 ^ 128 = subst (λ k. value_of bytes < 256 ^ k) long (value_of-lt bytes h) in
    let fits : from_be_bytes w128 bytes < 2 ^ 128 = subst (λ n. n < 2 ^ 128) (sym value) small in
    ap (bytes_high_first 16) (of_z-to_z w128 (from_be_bytes w128 bytes) fits ∙ value) ∙ bytes_of-value 16 bytes long h

-- the bits of an integer of 128 bits
bits_below : (x : ℤ) → FitsSigned w128 x → cast_unsigned w128 x < 2 ^ 128
bits_below (pos n) h = let fits = h.sfits in omega arith
bits_below (negsuc n) h = let fits = h.sfits in omega arith

pub integer_again : (x : ℤ) → FitsSigned w128 x → cast_signed w128 (from_be_bytes w128 (integer_bytes x)) ≡ x
integer_again x h =
    let n = cast_unsigned w128 x in
    let value : from_be_bytes w128 (bytes_high_first 16 n) ≡ n = value_of-16 (bytes_high_first 16 n) (length-bytes 16 n) ∙ value_of-bytes 16 n ∙ mod-eq_of_lt (bits_below x h) in
    ap (cast_signed w128) value ∙ to_z-of_z w128 x h

-- ---- a natural number in 16 bytes
-- bytes of 0 count nothing
zero_first : (w v : ℕ) → 0 * w + v ≡ v
zero_first w v = omega arith

value_of-zeros : (k n : ℕ) (bytes : List ℕ) → k ≤ length bytes → first_nonzero n (take k bytes) ≡ None → value_of bytes ≡ value_of (drop k bytes)
value_of-zeros zero n bytes h e = refl
value_of-zeros (suc k) n [] h e = absurd (omega arith)
value_of-zeros (suc k) n (zero ∷ bytes) h e = zero_first (256 ^ length bytes) (value_of bytes) ∙ value_of-zeros k (n + 1) bytes (omega arith) e
value_of-zeros (suc k) n (suc b ∷ bytes) h e = absurd cc

pub value_of-nothing : (n : ℕ) (bytes : List ℕ) → first_nonzero n bytes ≡ None → value_of bytes ≡ 0
value_of-nothing n [] e = refl
value_of-nothing n (zero ∷ bytes) e = zero_first (256 ^ length bytes) (value_of bytes) ∙ value_of-nothing (n + 1) bytes e
value_of-nothing n (suc b ∷ bytes) e = absurd cc

pub nothing_back : (k n : ℕ) (bytes : List ℕ) → length bytes ≡ k → AreBytes bytes → first_nonzero n bytes ≡ None → bytes_high_first k 0 ≡ bytes
nothing_back k n bytes long h e = ap (bytes_high_first k) (sym (value_of-nothing n bytes e)) ∙ bytes_of-value k bytes long h

pub wide_back : (n : ℕ) (bytes : List ℕ) → length bytes ≡ 16 → AreBytes bytes → first_nonzero n (take 12 bytes) ≡ None
    → integer_bytes (pos (from_be_bytes w32 (drop 12 bytes))) ≡ bytes
wide_back n bytes long h e =
    let value = value_of-4 (drop 12 bytes) (length-drop 12 bytes ∙ omega arith) ∙ sym (value_of-zeros 12 n bytes (omega arith) e) in
    ap (bytes_high_first 16) value ∙ bytes_of-value 16 bytes long h

pub wide_again : (m : ℕ) → m < 2 ^ 32 → from_be_bytes w32 (drop 12 (integer_bytes (pos m))) ≡ m
wide_again m h = from_be_bytes-to_be_bytes_4 m h

-- a byte of a number that is below its worth
high_byte : (m w : ℕ) → m < w → m / w % 256 ≡ 0
high_byte m w h = ap (λ x. x % 256) (div-eq_of_lt h)

abbrev zeros : List ℕ → Type 0
zeros [] = Unit {0}
zeros (b ∷ bytes) = (b ≡ 0) × zeros bytes

none_of_zeros : (n : ℕ) (bytes : List ℕ) → zeros bytes → first_nonzero n bytes ≡ None
none_of_zeros n [] h = refl
none_of_zeros n (zero ∷ bytes) h = none_of_zeros (n + 1) bytes h.1
none_of_zeros n (suc b ∷ bytes) h = absurd (omega (arith, h.0))

pub wide_zeros : (n m : ℕ) → m < 2 ^ 32 → first_nonzero n (take 12 (integer_bytes (pos m))) ≡ None
wide_zeros n m h =
    none_of_zeros n (take 12 (integer_bytes (pos m)))
    (high_byte m (256 ^ 15) (omega arith), (high_byte m (256 ^ 14) (omega arith), (high_byte m (256 ^ 13) (omega arith), (high_byte m (256 ^ 12) (omega arith), (high_byte m (256 ^ 11) (omega arith), (high_byte m (256 ^ 10) (omega arith), (high_byte m (256 ^ 9) (omega arith), (high_byte m (256 ^ 8) (omega arith), (high_byte m (256 ^ 7) (omega arith), (high_byte m (256 ^ 6) (omega arith), (high_byte m (256 ^ 5) (omega arith), (high_byte m (256 ^ 4) (omega arith), tt))))))))))))
