-- A lane that holds the residues of integers, through an operation without a fault.
use Rattle.std.proofs.Common.{◌≡◌, ◌≢◌, ℕ, ◌+◌, ◌*◌, ◌%◌, ◌<◌, ◌==◌, Bool, true, false, cond, List, length, replicate, slice_index, slice_set, Option, None, Some, refl, sym, ap, ◌∙◌, subst, arith, inl, inr, ℤ, pos, neg_ℤ, ◌-ℤ◌, ◌*ℤ◌}
use Rattle.std.specs.Option.{option_map_or}
use Rattle.std.proofs.lemmas.Bool.{cases_eq, cases_lt, ne_eqb}
use Rattle.std.proofs.lemmas.Bool.Decides.{nat_tests}
use Rattle.std.proofs.lemmas.Grind.{get_or-set_at}
use Rattle.std.proofs.lemmas.List.{get_or-map, get_or-replicate, get_or-set_other, length-map}
use Rattle.std.proofs.lemmas.List.Elements.{All-get_or}
use Rattle.std.proofs.Math.Nat.{mod-eq_of_lt}
use Rattle.number_theory.specs.Residue.{residue, quotient}
use Rattle.number_theory.specs.Coprime.{IsCoprime, ArePairwiseCoprime, inverse_of}
use Rattle.number_theory.proofs.CoprimeLemmas.{IsCoprime-swap}
use Rattle.number_theory.proofs.QuotientLemmas.{residue-quotient_coprime}
use Rattle.number_theory.proofs.ResidueLemmas.{residue-residue, residue-add, residue-sub, residue-mul, residue-neg}
use Rattle.moduli_sets.specs.Set.{ModuliSet, IsModuliSet, IsModulus}
use Rattle.channel_alu.specs.declared.operation.Place.{Place}
use Rattle.channel_alu.specs.declared.operation.Place.TheVariants.{Reg, Scratch, Word}
use Rattle.channel_alu.specs.declared.operation.MicroOp.{MicroOp}
use Rattle.channel_alu.specs.declared.operation.MicroOp.TheVariants.{Put, Copy, Add, Sub, Mul, MulAdd, Neg, Unscale, Show}
use Rattle.fault_book.specs.Book.{Book, fault_at}
use Rattle.channel_lane.specs.Meaning.{HasPlace, CanPerform, IsExact, destination, meaning_of, same_place, with_integer, integers_at_start, integers_after}
use Rattle.channel_lane.specs.Lane.{LaneState, IsLane, HoldsResidues, lane_at_start, modulus_of, held_in, with_held, unscaled_value, value_of, answer_of, lane_after}
use Rattle.channel_lane.proofs.LaneLemmas.{answer_of-value, set-after, channel-after, words-after}

-- ---- a new lane
-- 0 is its own residue
residue-zero : (m : ℕ) → 0 < m → residue (pos 0) m ≡ 0
residue-zero m p = mod-eq_of_lt p

pub HoldsResidues-at_start : (set : ModuliSet) (start : List ℤ) (channel : ℕ) → IsModuliSet set → channel < length set.moduli → HoldsResidues (lane_at_start set start channel) (integers_at_start start)
HoldsResidues-at_start set start channel rules within place inside = holds place inside
  where
    m : ℕ
    m = slice_index set.moduli channel

    zero_holds : (n i : ℕ) → i < n → slice_index (replicate n 0) i ≡ residue (pos 0) m
    zero_holds n i h =
        let at_m : IsModulus m = All-get_or IsModulus set.moduli channel 0 within rules.moduli in
        get_or-replicate n i 0 0 h ∙ sym (residue-zero m (omega (arith, at_m.at_least_two)))

    holds : (place : Place) → HasPlace (length (lane_at_start set start channel).words) place → held_in (lane_at_start set start channel) place ≡ residue (integers_at_start start place) m
    holds (Reg n) h = zero_holds 16 n h
    holds (Scratch n) h = zero_holds 8 n h
    holds (Word n) h = get_or-map (λ x. residue x m) start n (pos 0) 0 (omega (arith, length-map start (λ x. residue x m)))

-- ---- an Unscale
coprime_moduli : (ms : List ℕ) (i j : ℕ) → ArePairwiseCoprime ms → i ≢ j → i < length ms → j < length ms → IsCoprime (slice_index ms i) (slice_index ms j)
coprime_moduli ms i j all apart i_in j_in =
    elim (cases_lt i j) [
      | inl h ↦ all i j 0 h j_in
      | inr h ↦ IsCoprime-swap (slice_index ms j) (slice_index ms i) (all j i 0 (omega arith) i_in)
    ]

residue-unscaled : (lane : LaneState) (x : ℤ) (r s take give : ℕ) → IsLane lane → s < length lane.set.moduli → r ≡ residue x (modulus_of lane)
    → take ≡ residue x (slice_index lane.set.moduli s) → give ≡ residue (quotient x (slice_index lane.set.moduli s)) (slice_index lane.set.moduli s)
    → residue (unscaled_value lane (pos r) s take give) (modulus_of lane) ≡ residue (quotient x (slice_index lane.set.moduli s)) (modulus_of lane)
residue-unscaled lane x r s take give is s_in held take_is give_is =
    let ms = lane.set.moduli in
    let m = modulus_of lane in
    let d = slice_index ms s in
    let at_m : IsModulus m = All-get_or IsModulus ms lane.channel 0 is.channel_in is.rules.moduli in
    let at_d : IsModulus d = All-get_or IsModulus ms s 0 s_in is.rules.moduli in
    let p : 0 < m = omega (arith, at_m.at_least_two) in
    elim (cases_eq s lane.channel) [
      | inl same ↦
          let test : (s == lane.channel) ≡ true = grind (arith, nat_tests) in
          let place : d ≡ m = ap (slice_index ms) same in
          ap (λ b. residue (cond b (pos give) ((pos r -ℤ pos take) *ℤ pos (inverse_of d m))) m) test
          ∙ ap (λ n. n % m) (give_is ∙ ap (residue (quotient x d)) place)
          ∙ residue-residue (quotient x d) m p
      | inr other ↦
          let coprime = coprime_moduli ms lane.channel s is.rules.coprime (λ e. other (sym e)) is.channel_in s_in in
          ap (λ b. residue (cond b (pos give) ((pos r -ℤ pos take) *ℤ pos (inverse_of d m))) m) (ne_eqb s lane.channel other)
          ∙ ap (λ n. residue ((pos n -ℤ pos take) *ℤ pos (inverse_of d m)) m) held
          ∙ ap (λ n. residue ((pos (residue x m) -ℤ pos n) *ℤ pos (inverse_of d m)) m) take_is
          ∙ sym (residue-quotient_coprime x m d p (omega (arith, at_d.at_least_two)) coprime)
    ]

-- ---- the value of an operation
pub value-meaning : (lane : LaneState) (at : Place → ℤ) (op : MicroOp) → IsLane lane → CanPerform (length lane.words) (length lane.set.moduli) op → HoldsResidues lane at → IsExact lane.set.moduli at op
    → value_of lane op ≡ residue (meaning_of lane.set.moduli at op) (modulus_of lane)
value-meaning lane at op is can h exact = value_by lane at op is (positive lane is) can h exact
  where
    positive : (lane : LaneState) → IsLane lane → 0 < modulus_of lane
    positive lane is =
        let at_m : IsModulus (modulus_of lane) = All-get_or IsModulus lane.set.moduli lane.channel 0 is.channel_in is.rules.moduli in
        omega (arith, at_m.at_least_two)

    value_by : (lane : LaneState) (at : Place → ℤ) (op : MicroOp) → IsLane lane → 0 < modulus_of lane → CanPerform (length lane.words) (length lane.set.moduli) op → HoldsResidues lane at → IsExact lane.set.moduli at op
        → value_of lane op ≡ residue (meaning_of lane.set.moduli at op) (modulus_of lane)
    value_by lane at (Put to value) is p can h exact = refl
    value_by lane at (Copy to from) is p can h exact =
        ap (λ r. r % modulus_of lane) (h from can.1) ∙ residue-residue (at from) (modulus_of lane) p
    value_by lane at (Add to left right) is p can h exact =
        ap (λ r. (r + held_in lane right) % modulus_of lane) (h left can.1)
        ∙ ap (λ r. (residue (at left) (modulus_of lane) + r) % modulus_of lane) (h right can.2)
        ∙ sym (residue-add (at left) (at right) (modulus_of lane) p)
    value_by lane at (Sub to left right) is p can h exact =
        ap (λ r. residue (pos r -ℤ pos (held_in lane right)) (modulus_of lane)) (h left can.1)
        ∙ ap (λ r. residue (pos (residue (at left) (modulus_of lane)) -ℤ pos r) (modulus_of lane)) (h right can.2)
        ∙ sym (residue-sub (at left) (at right) (modulus_of lane) p)
    value_by lane at (Mul to left right) is p can h exact =
        ap (λ r. (r * held_in lane right) % modulus_of lane) (h left can.1)
        ∙ ap (λ r. (residue (at left) (modulus_of lane) * r) % modulus_of lane) (h right can.2)
        ∙ sym (residue-mul (at left) (at right) (modulus_of lane) p)
    value_by lane at (MulAdd to left right plus) is p can h exact =
        let m = modulus_of lane in
        let x = at left in
        let y = at right in
        let z = at plus in
        ap (λ r. (r * held_in lane right + held_in lane plus) % m) (h left can.1)
        ∙ ap (λ r. (residue x m * r + held_in lane plus) % m) (h right can.2)
        ∙ ap (λ r. (residue x m * residue y m + r) % m) (h plus can.3)
        ∙ residue-add (pos (residue x m * residue y m)) (pos (residue z m)) m p
        ∙ ap (λ r. (r + residue z m % m) % m) (sym (residue-mul x y m p))
        ∙ ap (λ r. (residue (x *ℤ y) m + r) % m) (residue-residue z m p)
        ∙ sym (residue-add (x *ℤ y) z m p)
    value_by lane at (Neg to from) is p can h exact =
        ap (λ r. residue (neg_ℤ (pos r)) (modulus_of lane)) (h from can.1) ∙ sym (residue-neg (at from) (modulus_of lane) p)
    value_by lane at (Unscale to from channel take give) is p can h exact =
        residue-unscaled lane (at from) (held_in lane from) channel take give is can.2 (h from can.1) exact.0 exact.1
    value_by lane at (Show from) is p can h exact =
        ap (λ r. r % modulus_of lane) (h from can) ∙ residue-residue (at from) (modulus_of lane) p

-- ---- the places after an operation
index_set : (xs : List ℕ) (m n x : ℕ) → m < length xs → slice_index (slice_set xs m x) n ≡ cond (m == n) x (slice_index xs n)
index_set xs m n x h =
    elim (cases_eq m n) [
      | inl same ↦
          let test : (m == n) ≡ true = grind (arith, nat_tests) in
          get_or-set_at xs m n x 0 (sym same) h ∙ sym (ap (λ b. cond b x (slice_index xs n)) test)
      | inr other ↦ get_or-set_other xs m n x 0 (λ e. other (sym e)) ∙ sym (ap (λ b. cond b x (slice_index xs n)) (ne_eqb m n other))
    ]

held_in-with_held : (lane : LaneState) (to place : Place) (x : ℕ) → IsLane lane → HasPlace (length lane.words) to → held_in (with_held lane to x) place ≡ cond (same_place to place) x (held_in lane place)
held_in-with_held lane (Reg m) (Reg n) x is h = index_set lane.registers m n x (omega (arith, is.sixteen))
held_in-with_held lane (Reg m) (Scratch n) x is h = refl
held_in-with_held lane (Reg m) (Word n) x is h = refl
held_in-with_held lane (Scratch m) (Reg n) x is h = refl
held_in-with_held lane (Scratch m) (Scratch n) x is h = index_set lane.scratch m n x (omega (arith, is.eight))
held_in-with_held lane (Scratch m) (Word n) x is h = refl
held_in-with_held lane (Word m) (Reg n) x is h = refl
held_in-with_held lane (Word m) (Scratch n) x is h = refl
held_in-with_held lane (Word m) (Word n) x is h = index_set lane.words m n x h

held_in-answers : (lane : LaneState) (n : ℕ) (place : Place) → held_in (record lane { answers = n }) place ≡ held_in lane place
held_in-answers lane n (Reg k) = refl
held_in-answers lane n (Scratch k) = refl
held_in-answers lane n (Word k) = refl

destination_in : (words channels : ℕ) (op : MicroOp) (place : Place) → destination op ≡ Some place → CanPerform words channels op → HasPlace words place
destination_in words channels (Put to value) place e h = let same : to ≡ place = cc in subst (HasPlace words) same h
destination_in words channels (Copy to from) place e h = let same : to ≡ place = cc in subst (HasPlace words) same h.0
destination_in words channels (Add to left right) place e h = let same : to ≡ place = cc in subst (HasPlace words) same h.0
destination_in words channels (Sub to left right) place e h = let same : to ≡ place = cc in subst (HasPlace words) same h.0
destination_in words channels (Mul to left right) place e h = let same : to ≡ place = cc in subst (HasPlace words) same h.0
destination_in words channels (MulAdd to left right plus) place e h = let same : to ≡ place = cc in subst (HasPlace words) same h.0
destination_in words channels (Neg to from) place e h = let same : to ≡ place = cc in subst (HasPlace words) same h.0
destination_in words channels (Unscale to from channel take give) place e h = let same : to ≡ place = cc in subst (HasPlace words) same h.0
destination_in words channels (Show from) place e h = cc

choose : (m : ℕ) (b : Bool) (x r : ℕ) (z y : ℤ) → x ≡ residue z m → r ≡ residue y m → cond b x r ≡ residue (cond b z y) m
choose m true x r z y h k = h
choose m false x r z y h k = k

written : (lane : LaneState) (to : Option Place) (x : ℕ) (z : ℤ) (at : Place → ℤ) (place : Place) → IsLane lane → ((p : Place) → to ≡ Some p → HasPlace (length lane.words) p)
    → x ≡ residue z (modulus_of lane) → held_in lane place ≡ residue (at place) (modulus_of lane)
    → held_in (option_map_or (λ p. with_held lane p x) to lane) place ≡ residue (option_map_or (λ p. with_integer at p z place) to (at place)) (modulus_of lane)
written lane None x z at place is inside value held = held
written lane (Some to) x z at place is inside value held =
    held_in-with_held lane to place x is (inside to refl) ∙ choose (modulus_of lane) (same_place to place) x (held_in lane place) z (at place) value held

modulus-after : (book : Book) (op : MicroOp) (lane : LaneState) → modulus_of (lane_after book op lane) ≡ modulus_of lane
modulus-after book op lane =
    ap (λ s. slice_index s.moduli (lane_after book op lane).channel) (set-after book op lane) ∙ ap (slice_index lane.set.moduli) (channel-after book op lane)

held-after : (book : Book) (op : MicroOp) (lane : LaneState) (at : Place → ℤ) (place : Place) → IsLane lane → CanPerform (length lane.words) (length lane.set.moduli) op → HoldsResidues lane at → IsExact lane.set.moduli at op
    → fault_at book lane.channel lane.answers ≡ None → HasPlace (length lane.words) place
    → held_in (lane_after book op lane) place ≡ residue (integers_after lane.set.moduli op at place) (modulus_of lane)
unfolding lane_after
held-after book op lane at place is can h exact none inside =
    let answer = sym (answer_of-value book op lane (sym none)) ∙ value-meaning lane at op is can h exact in
    held_in-answers (option_map_or (λ to. with_held lane to (answer_of book op lane)) (destination op) lane) (lane.answers + 1) place
    ∙ written lane (destination op) (answer_of book op lane) (meaning_of lane.set.moduli at op) at place is
    (λ p e. destination_in (length lane.words) (length lane.set.moduli) op p e can) answer (h place inside)

pub HoldsResidues-after : (book : Book) (op : MicroOp) (lane : LaneState) (at : Place → ℤ) → IsLane lane → CanPerform (length lane.words) (length lane.set.moduli) op → HoldsResidues lane at → IsExact lane.set.moduli at op
    → fault_at book lane.channel lane.answers ≡ None → HoldsResidues (lane_after book op lane) (integers_after lane.set.moduli op at)
HoldsResidues-after book op lane at is can h exact none place inside =
    held-after book op lane at place is can h exact none (subst (λ words. HasPlace words place) (words-after book op lane) inside)
    ∙ ap (residue (integers_after lane.set.moduli op at place)) (sym (modulus-after book op lane))
