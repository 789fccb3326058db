-- Lanes of a bank, one after another.
use Rattle.std.proofs.Common.{◌≡◌, ℕ, zero, suc, slice_index, ◌+◌, ◌-◌, ◌<◌, ◌≤◌, All, List, [], ◌∷◌, ◌++◌, map, take, drop, length, get_or, refl, sym, ap, ◌∙◌, subst, arith, ℤ}
use Rattle.std.specs.List.{range_with_len}
use Rattle.std.proofs.lemmas.List.{get_or-map, length-map, map-append, length-take-le, length-drop, length-append, get_or_default, map_more}
use Rattle.std.proofs.lemmas.List.Edits.{map_over_more}
use Rattle.std.proofs.lemmas.List.Elements.{All-from_get_or, All-get_or, All-map}
use Rattle.std.proofs.Math.ListN.{set}
use Rattle.std.proofs.lemmas.List.FromFn.{length-map-range_with_len, get_or-map-range_with_len}
use Rattle.std.proofs.Math.Seq.{drop-cons, get_or-append_seam}
use Rattle.moduli_sets.specs.Set.{ModuliSet, IsModulus, IsModuliSet}
use Rattle.number_theory.specs.Residue.{AreResidues, residue}
use Rattle.channel_alu.specs.declared.operation.MicroOp.{MicroOp}
use Rattle.fault_book.specs.Book.{Book}
use Rattle.channel_lane.specs.Meaning.{CanPerform}
use Rattle.channel_lane.specs.Lane.{LaneState, modulus_of, answer_of, lane_at_start, lane_after_all}
use Rattle.channel_lane.proofs.LaneLemmas.{CanPerform-after_all, set-after_all, channel-after_all, answers-after_all, after_all-parts, answer-below}
use Rattle.lane_bank.specs.Bank.{AllCanPerform, no_lane, lane_at, lanes_at_start, lanes_after, lanes_after_all, answers_of}

-- where the elements before place i are mapped, that at i is still the old one
pub get_or-mapped : {X : Type 0} (f : X → X) (xs ys : List X) (i : ℕ) (d : X) → i < length xs → ys ≡ map f (take i xs) ++ drop i xs → get_or ys i d ≡ get_or xs i d
get_or-mapped f xs ys i d h e =
    let done = map f (take i xs) in
    let count : length done ≡ i = length-map (take i xs) f ∙ length-take-le i xs (omega arith) in
    ap (λ zs. get_or zs i d) (e ∙ ap (λ rest. done ++ rest) (drop-cons xs i d h))
    ∙ ap (λ k. get_or (done ++ get_or xs i d ∷ drop (suc i) xs) k d) (sym count)
    ∙ get_or-append_seam done (get_or xs i d) (drop (suc i) xs) d

-- and so what holds of each old element holds of it
pub All-get_or-mapped : {X : Type 0} (P : X → Type 0) (f : X → X) (xs ys : List X) (i : ℕ) (d : X) → i < length xs → All P xs → ys ≡ map f (take i xs) ++ drop i xs → P (get_or ys i d)
All-get_or-mapped P f xs ys i d h each e = subst P (sym (get_or-mapped f xs ys i d h e)) (All-get_or P xs i d h each)

length-mapped : {X : Type 0} (f : X → X) (xs ys : List X) (i : ℕ) → i < length xs → ys ≡ map f (take i xs) ++ drop i xs → length ys ≡ length xs
length-mapped f xs ys i h e =
    ap length e
    ∙ omega (arith, length-append (map f (take i xs)) (drop i xs), length-map (take i xs) f, length-take-le i xs (omega arith), length-drop i xs)

-- one more is mapped
pub mapped_more : {X : Type 0} (f : X → X) (xs ys zs : List X) (i : ℕ) (d : X) → i < length xs → ys ≡ map f (take i xs) ++ drop i xs → zs ≡ set ys i (f (get_or ys i d)) → zs ≡ map f (take (i + 1) xs) ++ drop (i + 1) xs
mapped_more f xs ys zs i d h e step =
    let within : i < length ys = omega (arith, length-mapped f xs ys i h e) in
    step ∙ map_over_more f xs ys i (get_or ys i d) h e (get_or_default ys i d (get_or ys i d) within)

-- one more answer at the end of the column
pub column_more : {X : Type 0} (f : X → ℕ) (xs : List X) (i : ℕ) (d : X) (column longer : List ℕ) (answer : ℕ) → i < length xs → column ≡ map f (take i xs) → longer ≡ column ++ answer ∷ [] → answer ≡ f (get_or xs i d) → longer ≡ map f (take (i + 1) xs)
column_more f xs i d column longer answer h e push same =
    push ∙ ap (λ front. front ++ answer ∷ []) e ∙ ap (λ r. map f (take i xs) ++ r ∷ []) same ∙ sym (map_more f xs i d h)

pub length-lanes_at_start : (set : ModuliSet) (first : ℕ) (start : List ℤ) → length (lanes_at_start set first start) ≡ length set.moduli - first
length-lanes_at_start set first start = length-map-range_with_len (lane_at_start set start) first (length set.moduli - first)

first_of : (set : ModuliSet) (first n : ℕ) (start : List ℤ) → n ≡ suc (length set.moduli - (first + 1)) → map (lane_at_start set start) (range_with_len first n) ≡ lane_at_start set start first ∷ lanes_at_start set (first + 1) start
first_of set first n start e = ap (λ k. map (lane_at_start set start) (range_with_len first k)) e

-- the first lane, and the lanes of the channels after it
pub lanes_at_start-cons : (set : ModuliSet) (first : ℕ) (start : List ℤ) → first < length set.moduli → lanes_at_start set first start ≡ lane_at_start set start first ∷ lanes_at_start set (first + 1) start
lanes_at_start-cons set first start h = first_of set first (length set.moduli - first) start (omega arith)

-- lane i of a new bank
pub lane_at-start : (set : ModuliSet) (first i : ℕ) (start : List ℤ) → first + i < length set.moduli → lane_at (lanes_at_start set first start) i ≡ lane_at_start set start (first + i)
lane_at-start set first i start h =
    get_or-map-range_with_len (lane_at_start set start) first (length set.moduli - first) i (first + i) no_lane (omega arith) refl

-- what holds of each new lane holds of each lane of a new bank
pub All-lanes_at_start : (P : LaneState → Type 0) (s : ModuliSet) (first : ℕ) (start : List ℤ) → ((channel : ℕ) → channel < length s.moduli → P (lane_at_start s start channel)) → All P (lanes_at_start s first start)
All-lanes_at_start P s first start each =
    All-from_get_or P (lanes_at_start s first start) no_lane (λ i h.
    let within : first + i < length s.moduli = omega (arith, length-lanes_at_start s first start) in
    subst P (sym (lane_at-start s first i start within)) (each (first + i) within))

-- no new lane has answered, and a lane has answered each operation once
pub fresh-lanes_at_start : (s : ModuliSet) (first : ℕ) (start : List ℤ) → All (λ lane. lane.answers ≡ 0) (lanes_at_start s first start)
fresh-lanes_at_start s first start = All-lanes_at_start (λ lane. lane.answers ≡ 0) s first start (λ channel _. refl)

pub answers-lanes : (book : Book) (s : ModuliSet) (first : ℕ) (start : List ℤ) (ops : List MicroOp) → All (λ lane. lane.answers ≡ length ops) (lanes_after_all book ops (lanes_at_start s first start))
answers-lanes book s first start ops =
    All-map (λ lane. lane.answers ≡ length ops) (lane_after_all book ops) (lanes_at_start s first start)
    (All-lanes_at_start (λ lane. (lane_after_all book ops lane).answers ≡ length ops) s first start
    (λ channel _. omega (arith, answers-after_all book ops (lane_at_start s start channel))))

-- one condition for all lanes of a new bank
can_at_start : (s : ModuliSet) (start : List ℤ) (op : MicroOp) (channel : ℕ) → CanPerform (length start) (length s.moduli) op
    → CanPerform (length (lane_at_start s start channel).words) (length s.moduli) op
can_at_start s start op channel =
    subst (λ words. CanPerform words (length s.moduli) op) (sym (length-map start (λ x. residue x (slice_index s.moduli channel))))

pub CanPerform-at_start : (s : ModuliSet) (first : ℕ) (start : List ℤ) (op : MicroOp) → CanPerform (length start) (length s.moduli) op
    → AllCanPerform (lanes_at_start s first start) op
CanPerform-at_start s first start op h =
    All-lanes_at_start (λ lane. CanPerform (length lane.words) (length lane.set.moduli) op) s first start (λ channel _. can_at_start s start op channel h)

-- and of a bank after any operations
pub CanPerform-lanes : (book : Book) (s : ModuliSet) (first : ℕ) (start : List ℤ) (ops : List MicroOp) (op : MicroOp) → CanPerform (length start) (length s.moduli) op
    → AllCanPerform (lanes_after_all book ops (lanes_at_start s first start)) op
CanPerform-lanes book s first start ops op h =
    let can : LaneState → Type 0 = λ lane. CanPerform (length lane.words) (length lane.set.moduli) op in
    All-map can (lane_after_all book ops) (lanes_at_start s first start)
    (All-lanes_at_start (λ lane. can (lane_after_all book ops lane)) s first start (λ channel _. CanPerform-after_all book ops (lane_at_start s start channel) op (can_at_start s start op channel h)))

-- ---- lanes in parts
pub lanes_after_all-none : (book : Book) (lanes : List LaneState) → lanes_after_all book [] lanes ≡ lanes
lanes_after_all-none book [] = refl
lanes_after_all-none book (lane ∷ lanes) = ap (λ rest. lane ∷ rest) (lanes_after_all-none book lanes)

pub lanes_after_all-parts : (book : Book) (ops more : List MicroOp) (lanes : List LaneState) → lanes_after_all book (ops ++ more) lanes ≡ lanes_after_all book more (lanes_after_all book ops lanes)
lanes_after_all-parts book ops more [] = refl
lanes_after_all-parts book ops more (lane ∷ lanes) =
    ap (λ l. l ∷ lanes_after_all book (ops ++ more) lanes) (after_all-parts book ops more lane)
    ∙ ap (λ rest. lane_after_all book more (lane_after_all book ops lane) ∷ rest) (lanes_after_all-parts book ops more lanes)

-- with one operation more
pub lanes_after_all-more : (book : Book) (ops : List MicroOp) (op : MicroOp) (start lanes after : List LaneState) → lanes ≡ lanes_after_all book ops start → after ≡ lanes_after book op lanes → after ≡ lanes_after_all book (ops ++ op ∷ []) start
lanes_after_all-more book ops op start lanes after e step =
    step ∙ ap (lanes_after book op) e ∙ sym (lanes_after_all-parts book ops (op ∷ []) start)

-- ---- columns
-- one residue for each modulus
pub AreResidues-by_place : (ms rs : List ℕ) → length rs ≡ length ms → ((i : ℕ) → i < length ms → get_or rs i 0 < get_or ms i 0) → AreResidues ms rs
AreResidues-by_place [] [] e below = tt
AreResidues-by_place [] (r ∷ rs) e below = absurd (omega arith)
AreResidues-by_place (m ∷ ms) [] e below = absurd (omega arith)
AreResidues-by_place (m ∷ ms) (r ∷ rs) e below = (below 0 (omega arith), AreResidues-by_place ms rs (omega arith) (λ i h. below (suc i) (omega arith)))

-- the modulus of a lane that began at a start
modulus-run : (book : Book) (s : ModuliSet) (start : List ℤ) (ops : List MicroOp) (channel : ℕ) → modulus_of (lane_after_all book ops (lane_at_start s start channel)) ≡ slice_index s.moduli channel
modulus-run book s start ops channel =
    ap (λ t. slice_index t.moduli (lane_after_all book ops (lane_at_start s start channel)).channel) (set-after_all book ops (lane_at_start s start channel))
    ∙ ap (slice_index s.moduli) (channel-after_all book ops (lane_at_start s start channel))

-- the column of an operation is residues of the moduli
pub AreResidues-column : (book : Book) (s : ModuliSet) (start : List ℤ) (ops : List MicroOp) (op : MicroOp) → IsModuliSet s
    → AreResidues s.moduli (answers_of book op (lanes_after_all book ops (lanes_at_start s 0 start)))
AreResidues-column book s start ops op rules =
    let lanes = lanes_at_start s 0 start in
    let run = lane_after_all book ops in
    let count : length lanes ≡ length s.moduli = length-lanes_at_start s 0 start ∙ omega arith in
    let many : length (map run lanes) ≡ length s.moduli = length-map lanes run ∙ count in
    AreResidues-by_place s.moduli (map (answer_of book op) (map run lanes)) (length-map (map run lanes) (answer_of book op) ∙ many)
    (λ i h.
    let lane = lane_at_start s start i in
    let is : IsModulus (get_or s.moduli i 0) = All-get_or IsModulus s.moduli i 0 h rules.moduli in
    let modulus : modulus_of (run lane) ≡ get_or s.moduli i 0 = modulus-run book s start ops i in
    let below : answer_of book op (run lane) < modulus_of (run lane) = answer-below book op (run lane) (omega (arith, modulus, is.at_least_two)) in
    let here : lane_at lanes i ≡ lane = lane_at-start s 0 i start (omega arith) ∙ ap (lane_at_start s start) (omega arith) in
    let answer : get_or (map (answer_of book op) (map run lanes)) i 0 ≡ answer_of book op (run lane) =
    get_or-map (answer_of book op) (map run lanes) i (run no_lane) 0 (omega (arith, many))
    ∙ ap (answer_of book op) (get_or-map run lanes i no_lane (run no_lane) (omega (arith, count)) ∙ ap run here) in
    omega (arith, below, modulus, answer))

-- one lane more at the end of new lanes
range_with_len-more : (a n : ℕ) → range_with_len a (suc n) ≡ range_with_len a n ++ (a + n) ∷ []
range_with_len-more a zero = ap (λ x. x ∷ []) (omega arith)
range_with_len-more a (suc n) = ap (λ rest. a ∷ rest) (range_with_len-more (a + 1) n ∙ ap (λ x. range_with_len (a + 1) n ++ x ∷ []) (omega arith))

pub new_lane_more : (s : ModuliSet) (start : List ℤ) (first channel : ℕ) (lanes longer : List LaneState) (lane : LaneState) → first ≤ channel
    → lanes ≡ map (lane_at_start s start) (range_with_len first (channel - first)) → longer ≡ lanes ++ lane ∷ [] → lane ≡ lane_at_start s start channel
    → longer ≡ map (lane_at_start s start) (range_with_len first (channel + 1 - first))
new_lane_more s start first channel lanes longer lane h are push is =
    let new = lane_at_start s start in
    let n = channel - first in
    let one_more : suc n ≡ channel + 1 - first = omega arith in
    let last : channel ≡ first + n = omega arith in
    push ∙ ap (λ front. front ++ lane ∷ []) are
    ∙ ap (λ l. map new (range_with_len first n) ++ l ∷ []) (is ∙ ap new last)
    ∙ sym (map-append new (range_with_len first n) ((first + n) ∷ []))
    ∙ ap (map new) (sym (range_with_len-more first n))
    ∙ ap (λ k. map new (range_with_len first k)) one_more

-- and with those of all channels they are the new lanes
pub new_lanes : (s : ModuliSet) (start : List ℤ) (first channel : ℕ) → channel - first ≡ length s.moduli - first
    → map (lane_at_start s start) (range_with_len first (channel - first)) ≡ lanes_at_start s first start
new_lanes s start first channel e = ap (λ n. map (lane_at_start s start) (range_with_len first n)) e
