-- What is wanted next doesn't depend on the limits, and wider limits go further.
use Rattle.std.proofs.Common.{◌≡◌, ℕ, zero, suc, List, [], ◌∷◌, Option, Some, None, Bool, true, false, refl}
use Rattle.source_lexer.specs.declared.token.TokenKind.{TokenKind}
use Rattle.source_parser.specs.Wants.{Want, inner, sum, sum_tail, Move, stuck, deep, on, step, expand, may_end, price, left, moved, pay, Price, free, weighs, opens, closes}

abbrev pub Alike : Move → Move → Type 0
Alike stuck stuck = Unit {0}
Alike stuck deep = ⊥
Alike stuck (on s d w) = ⊥
Alike deep stuck = ⊥
Alike deep deep = Unit {0}
Alike deep (on s d w) = Unit {0}
Alike (on s d w) stuck = ⊥
Alike (on s d w) deep = Unit {0}
Alike (on s d w) (on s' d' w') = s ≡ s'

pay_alike : (p : Price) (s : List Want) (d w d' w' : ℕ) → Alike (pay p s d w) (pay p s d' w')
pay_alike free s d w d' w' = refl
pay_alike weighs s d zero d' zero = tt
pay_alike weighs s d zero d' (suc w') = tt
pay_alike weighs s d (suc w) d' zero = tt
pay_alike weighs s d (suc w) d' (suc w') = refl
pay_alike opens s zero w zero w' = tt
pay_alike opens s zero w (suc d') w' = tt
pay_alike opens s (suc d) w zero w' = tt
pay_alike opens s (suc d) w (suc d') w' = refl
pay_alike closes s d w d' w' = refl

moved_alike : (o : Option (List Want)) (may : Bool) (p : Price) (m m' : Move) (d w d' w' : ℕ) → Alike m m' → Alike (moved o may p m d w) (moved o may p m' d' w')
moved_alike (Some s) may p m m' d w d' w' h = pay_alike p s d w d' w'
moved_alike None true p m m' d w d' w' h = h
moved_alike None false p m m' d w d' w' h = tt

pub alike : (k : TokenKind) (s : List Want) (width d w width' d' w' : ℕ) → Alike (step width k s d w) (step width' k s d' w')
alike k [] width d w width' d' w' = tt
alike k (want ∷ s) width d w width' d' w' =
    moved_alike (expand want k s) (may_end want) (price want k) (step width k s d (left width want w)) (step width' k s d' (left width' want w'))
    d (left width want w) d' (left width' want w') (alike k s width d (left width want w) width' d' (left width' want w'))

-- with each limit one more
abbrev pub Grown : Move → Move → Type 0
Grown stuck m = m ≡ stuck
Grown deep m = (s : List Want) × (d : ℕ) × (w : ℕ) × (m ≡ on s d w)
Grown (on s d w) m = m ≡ on s (suc d) (suc w)

pay_grown : (p : Price) (s : List Want) (d w : ℕ) → Grown (pay p s d w) (pay p s (suc d) (suc w))
pay_grown free s d w = refl
pay_grown weighs s d zero = (s, suc d, zero, refl)
pay_grown weighs s d (suc w) = refl
pay_grown opens s zero w = (s, zero, suc w, refl)
pay_grown opens s (suc d) w = refl
pay_grown closes s d w = refl

moved_grown : (o : Option (List Want)) (may : Bool) (p : Price) (m m' : Move) (d w : ℕ) → Grown m m' → Grown (moved o may p m d w) (moved o may p m' (suc d) (suc w))
moved_grown (Some s) may p m m' d w h = pay_grown p s d w
moved_grown None true p m m' d w h = h
moved_grown None false p m m' d w h = refl

left_grown : (width : ℕ) (want : Want) (w : ℕ) → left (suc width) want (suc w) ≡ suc (left width want w)
left_grown width (inner k) w = refl
left_grown width sum w = refl
left_grown width sum_tail w = refl
left_grown width want w = refl

pub grown : (k : TokenKind) (s : List Want) (width d w : ℕ) → Grown (step width k s d w) (step (suc width) k s (suc d) (suc w))
grown k [] width d w = refl
grown k (want ∷ s) width d w =
    rw (left_grown width want w) (
    moved_grown (expand want k s) (may_end want) (price want k) (step width k s d (left width want w)) (step (suc width) k s (suc d) (suc (left width want w)))
    d (left width want w) (grown k s width d (left width want w))
    )
