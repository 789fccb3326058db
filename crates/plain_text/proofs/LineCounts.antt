-- Lines of a text that is a prefix and a rest.
use Rattle.std.proofs.Common.{◌≡◌, ℕ, ◌+◌, ◌-◌, ◌≤◌, ◌==◌, List, [], ◌∷◌, ◌++◌, true, cond, not, length, take, drop, arith, ◌∙◌, ap, refl}
use Rattle.std.specs.List.{list_all, slice_range}
use Rattle.std.proofs.lemmas.Bool.Decides.{nat_tests}
use Rattle.std.proofs.lemmas.List.{take-append-le}
use Rattle.std.proofs.lemmas.List.Sums.{sum_by-append, sum_by-cons}
use Rattle.std.proofs.Math.Seq.{take-add, take-append-add}
use Rattle.plain_text.specs.Lines.{line_feeds, line_at}

-- the LF bytes of a prefix and of the rest after it
pub line_feeds-append : (xs ys : List ℕ) → line_feeds (xs ++ ys) ≡ line_feeds xs + line_feeds ys
line_feeds-append xs ys = sum_by-append _ xs ys

pub line_feeds-cons : (b : ℕ) (bytes : List ℕ) → line_feeds (b ∷ bytes) ≡ cond (b == 10) 1 0 + line_feeds bytes
line_feeds-cons b bytes = sum_by-cons _ b bytes

-- a text without LF has none
pub line_feeds-none : (bytes : List ℕ) → list_all (λ b. not (b == 10)) bytes ≡ true → line_feeds bytes ≡ 0
line_feeds-none [] h = refl
line_feeds-none (b ∷ bytes) h = grind (arith, nat_tests, line_feeds-cons b bytes, line_feeds-none bytes)

-- further on, the line is higher by the LF bytes between
pub line_at-more : (text : List ℕ) (i n : ℕ) → line_at text (i + n) ≡ line_at text i + line_feeds (take n (drop i text))
line_at-more text i n = rw (take-add i n text, line_feeds-append) (omega arith)

pub line_at-between : (text : List ℕ) (i j : ℕ) → i ≤ j → line_at text j ≡ line_at text i + line_feeds (slice_range text i j)
line_at-between text i j le =
    let e : j ≡ i + (j - i) = omega arith in ap (line_at text) e ∙ line_at-more text i (j - i)

-- a place within a prefix has the same line in the prefix alone
pub line_at-prefix : (xs ys : List ℕ) (i : ℕ) → i ≤ length xs → line_at (xs ++ ys) i ≡ line_at xs i
line_at-prefix xs ys i le = ap (λ prefix. 1 + line_feeds prefix) (take-append-le i xs ys le)

-- a place after a prefix is as many lines further as the prefix has LF bytes
pub line_at-behind : (xs ys : List ℕ) (i : ℕ) → line_at (xs ++ ys) (length xs + i) ≡ line_feeds xs + line_at ys i
line_at-behind xs ys i = rw (take-append-add xs ys i, line_feeds-append) (omega arith)

-- lines are numbered from 1
pub line_at-positive : (text : List ℕ) (i : ℕ) → 1 ≤ line_at text i
line_at-positive text i = omega arith
