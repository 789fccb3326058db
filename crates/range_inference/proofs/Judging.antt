-- What walks over parts of a source make of the whole: the first that is too wide, and the intervals.
use Rattle.std.proofs.Common.{◌≡◌, ℕ, zero, suc, ◌+◌, ◌≤◌, ◌<◌, ℤ, List, [], ◌∷◌, ◌++◌, length, take, get_or, refl, sym, ap, ◌∙◌, subst, arith, append_assoc, append-nil, add-one, Result, Ok, Err}
use Rattle.std.specs.Prelude.{if◌then◌else◌, ⊤, OnOk, IfOk}
use Rattle.std.specs.List.{flat_map}
use Rattle.std.specs.Result.{IsErrAnd}
use Rattle.std.proofs.Math.Seq.{take-suc}
use Rattle.std.proofs.lemmas.List.{take_all}
use Rattle.range_inference.specs.Demands.{Demand, wide_lines, interval_in, node_intervals, demanded, line_of}
use Rattle.range_inference.specs.Interval.{is_within_bound}
use Rattle.range_inference.specs.Outcome.{IsFirst, IsJudged, IsPassed, IsRequired, Walks}
use Rattle.range_inference.specs.declared.fault.RangeFault.{RangeFault}
use Rattle.range_inference.specs.declared.fault.RangeFault.TheVariants.{TooWide, NoMemory}
use Rattle.range_inference.specs.declared.interval.Interval.{Interval}

flat-append : {X Y : Type 0} (f : X → List Y) (a b : List X) → flat_map f (a ++ b) ≡ flat_map f a ++ flat_map f b
flat-append f [] b = refl
flat-append f (x ∷ a) b = ap (λ l. f x ++ l) (flat-append f a b) ∙ sym (append_assoc (f x) (flat_map f a) (flat_map f b))

nodes-append : (a b : List Demand) → node_intervals (a ++ b) ≡ node_intervals a ++ node_intervals b
nodes-append a b = flat-append interval_in a b

pub taken : {X : Type 0} (xs : List X) (x : X) (i : ℕ) → i < length xs → x ≡ get_or xs i x → take (i + 1) xs ≡ take i xs ++ x ∷ []
taken xs x i h is = ap (λ k. take k xs) (add-one i) ∙ take-suc xs i x h ∙ ap (λ y. take i xs ++ y ∷ []) (sym is)

first-append : (a b : List ℕ) (fault : RangeFault) → IsFirst a fault → IsFirst (a ++ b) fault
first-append a b (TooWide line) h = (h.0 ++ b, ap (λ l. l ++ b) h.1)
first-append a b NoMemory h = tt

-- ---- a whole in parts, one after another
pub record Two (whole : List Demand) : Type 0 where
  pub one : List Demand
  pub two : List Demand
  pub is : whole ≡ one ++ two

pub record Three (whole : List Demand) : Type 0 where
  pub one : List Demand
  pub two : List Demand
  pub three : List Demand
  pub is : whole ≡ one ++ (two ++ three)

abbrev pub parted_first : {whole : List Demand} → Three whole → Two whole
parted_first p = record { one = p.one; two = p.two ++ p.three; is = p.is }

abbrev pub parted_rest : {whole : List Demand} (p : Three whole) → Two (p.two ++ p.three)
parted_rest p = record { one = p.two; two = p.three; is = refl }

module _ (bound : ℤ) where
  wide-append : (a b : List Demand) → wide_lines bound (a ++ b) ≡ wide_lines bound a ++ wide_lines bound b
  wide-append a b = flat-append (λ d. if is_within_bound bound (demanded d) then [] else line_of d ∷ []) a b

  none_then : (a b : List Demand) → wide_lines bound a ≡ [] → wide_lines bound (a ++ b) ≡ wide_lines bound b
  none_then a b h = wide-append a b ∙ ap (λ l. l ++ wide_lines bound b) h

  none_both : (a b : List Demand) → wide_lines bound a ≡ [] → wide_lines bound b ≡ [] → wide_lines bound (a ++ b) ≡ []
  none_both a b h k = none_then a b h ∙ k

  -- ---- what is reported of a part
  pub told : {A : Type 0} (demands : List Demand) (fault : RangeFault) (result : Result A RangeFault)
      → IsFirst (wide_lines bound demands) fault → IsErrAnd result (λ own. own ≡ fault) → IsJudged bound demands result
  told demands fault (Ok x) first same = absurd same
  told demands fault (Err own) first same = subst (λ f. IsFirst (wide_lines bound demands) f) (sym same) first

  pub reports : {A : Type 0} (demands : List Demand) (before after : List Interval) (fault : RangeFault) (result : Result A RangeFault)
      → IsErrAnd result (λ own. own ≡ fault) → IsFirst (wide_lines bound demands) fault → Walks bound demands before result after
  reports demands before after fault (Ok x) same first = absurd same
  reports demands before after fault (Err own) same first = subst (λ f. IsFirst (wide_lines bound demands) f) (sym same) first

  -- of the first of two parts
  pub stops : {whole : List Demand} (p : Two whole) (fault : RangeFault) → IsFirst (wide_lines bound p.one) fault → IsFirst (wide_lines bound whole) fault
  stops p fault first =
      subst (λ l. IsFirst l fault) (sym (ap (wide_lines bound) p.is ∙ wide-append p.one p.two)) (first-append (wide_lines bound p.one) (wide_lines bound p.two) fault first)

  -- of the second, where nothing of the first is too wide
  pub stops_later : {whole : List Demand} (p : Two whole) (fault : RangeFault) → wide_lines bound p.one ≡ [] → IsFirst (wide_lines bound p.two) fault → IsFirst (wide_lines bound whole) fault
  stops_later p fault none first = subst (λ l. IsFirst l fault) (sym (ap (wide_lines bound) p.is ∙ none_then p.one p.two none)) first

  -- of the second of three
  pub stops_next : {whole : List Demand} (p : Three whole) (fault : RangeFault) → wide_lines bound p.one ≡ [] → IsFirst (wide_lines bound p.two) fault → IsFirst (wide_lines bound whole) fault
  stops_next p fault none first = stops_later (parted_first p) fault none (stops (parted_rest p) fault first)

  -- a demand that is required
  pub required : (d : Demand) (i : Interval) (line : ℕ) (result : Result ⊤ RangeFault) → i ≡ demanded d → line_of d ≡ line
      → IsRequired bound i line result → IsJudged bound (d ∷ []) result
  required d i line (Ok x) same is h =
      ap (λ j. (if is_within_bound bound j then [] else line_of d ∷ []) ++ []) (sym same)
      ∙ ap (λ b. (if b then [] else line_of d ∷ []) ++ []) h
  required d i line (Err fault) same is h =
      subst (λ f. IsFirst (wide_lines bound (d ∷ [])) f) (sym h.1) (
        [],
        ap (λ j. (if is_within_bound bound j then [] else line_of d ∷ []) ++ []) (sym same)
            ∙ ap (λ b. (if b then [] else line_of d ∷ []) ++ []) h.0 ∙ ap (λ n. n ∷ []) is,
      )

  -- ---- parts, one after another
  pub nothing_passed : (start : List Interval) → IsPassed bound [] start start
  nothing_passed start = (refl, sym (append-nil start))

  pub passed_then : {whole : List Demand} (p : Two whole) (before middle after : List Interval)
      → IsPassed bound p.one before middle → IsPassed bound p.two middle after → IsPassed bound whole before after
  passed_then p before middle after one two = (
    ap (wide_lines bound) p.is ∙ none_both p.one p.two one.0 two.0,
    two.1 ∙ ap (λ l. l ++ node_intervals p.two) one.1 ∙ append_assoc before (node_intervals p.one) (node_intervals p.two)
        ∙ ap (λ l. before ++ l) (sym (nodes-append p.one p.two)) ∙ ap (λ l. before ++ node_intervals l) (sym p.is),
  )

  pub passed_third : {whole : List Demand} (p : Three whole) (before middle later after : List Interval)
      → IsPassed bound p.one before middle → IsPassed bound p.two middle later → IsPassed bound p.three later after → IsPassed bound whole before after
  passed_third p before middle later after one two three = passed_then (parted_first p) before middle after one (passed_then (parted_rest p) middle later after two three)

  -- a walk over the last of two parts, and over the last of three
  pub walks_on : {A : Type 0} {whole : List Demand} (p : Two whole) (before middle after : List Interval) (result : Result A RangeFault)
      → IsPassed bound p.one before middle → Walks bound p.two middle result after → Walks bound whole before result after
  walks_on p before middle after (Ok x) one two = passed_then p before middle after one two
  walks_on p before middle after (Err fault) one two = stops_later p fault one.0 two

  pub walks_third : {A : Type 0} {whole : List Demand} (p : Three whole) (before middle later after : List Interval) (result : Result A RangeFault)
      → IsPassed bound p.one before middle → IsPassed bound p.two middle later → Walks bound p.three later result after → Walks bound whole before result after
  walks_third p before middle later after result one two three =
      walks_on (parted_first p) before middle after result one (walks_on (parted_rest p) middle later after result two three)

  -- a part that has no nodes
  pub passed_without : (demands : List Demand) (start : List Interval) → node_intervals demands ≡ [] → wide_lines bound demands ≡ [] → IsPassed bound demands start start
  passed_without demands start no_nodes none = (none, sym (ap (λ l. start ++ l) no_nodes ∙ append-nil start))

  pub walks_without : {A : Type 0} (demands : List Demand) (start : List Interval) (result : Result A RangeFault) → node_intervals demands ≡ []
      → IsJudged bound demands result → Walks bound demands start result start
  walks_without demands start (Ok x) no_nodes h = passed_without demands start no_nodes h
  walks_without demands start (Err fault) no_nodes h = h

  -- ---- over a list
  module _ {X : Type 0} (f : X → List Demand) (xs : List X) (x : X) (i : ℕ) (h : i < length xs) (is : x ≡ get_or xs i x) where
    pub more : flat_map f (take (i + 1) xs) ≡ flat_map f (take i xs) ++ f x
    more = ap (flat_map f) (taken xs x i h is) ∙ flat-append f (take i xs) (x ∷ []) ∙ ap (λ l. flat_map f (take i xs) ++ l) (append-nil (f x))

  parted : {X : Type 0} (f : X → List Demand) (xs : List X) (x : X) (i : ℕ) → i < length xs → x ≡ get_or xs i x
      → (rest : List Demand) × (flat_map f xs ≡ flat_map f (take i xs) ++ (f x ++ rest))
  parted f [] x i h is = absurd (omega arith)
  parted f (y ∷ xs) x zero h is = (flat_map f xs, ap (λ z. f z ++ flat_map f xs) (sym is))
  parted f (y ∷ xs) x (suc i) h is =
      let r = parted f xs x i (omega arith) is in
      (r.0, ap (λ l. f y ++ l) r.1 ∙ sym (append_assoc (f y) (flat_map f (take i xs)) (f x ++ r.0)))

  -- what is reported of member i
  pub member_stops : {X : Type 0} (f : X → List Demand) (xs : List X) (x : X) (i : ℕ) (fault : RangeFault) → i < length xs → x ≡ get_or xs i x
      → wide_lines bound (flat_map f (take i xs)) ≡ [] → IsFirst (wide_lines bound (f x)) fault → IsFirst (wide_lines bound (flat_map f xs)) fault
  member_stops f xs x i fault h is none first =
      let r = parted f xs x i h is in
      let p : Three (flat_map f xs) = record { one = flat_map f (take i xs); two = f x; three = r.0; is = r.1 } in
      stops_next p fault none first

  pub member_passed : {X : Type 0} (f : X → List Demand) (xs : List X) (x : X) (i : ℕ) (start now next : List Interval)
      → i < length xs → x ≡ get_or xs i x → IsPassed bound (flat_map f (take i xs)) start now
      → IsPassed bound (f x) now next → IsPassed bound (flat_map f (take (i + 1) xs)) start next
  member_passed f xs x i start now next h is before own =
      let p : Two (flat_map f (take (i + 1) xs)) = record { one = flat_map f (take i xs); two = f x; is = more f xs x i h is } in
      passed_then p start now next before own

  pub all_passed : {X : Type 0} (f : X → List Demand) (xs all : List X) (i : ℕ) (start now : List Interval)
      → length xs ≤ i → xs ≡ all → IsPassed bound (flat_map f (take i xs)) start now → IsPassed bound (flat_map f all) start now
  all_passed f xs all i start now h same passed = subst (λ l. IsPassed bound (flat_map f l) start now) (take_all i xs h ∙ same) passed

  -- the same without nodes
  pub member_none : {X : Type 0} (f : X → List Demand) (xs : List X) (x : X) (i : ℕ)
      → i < length xs → x ≡ get_or xs i x → wide_lines bound (flat_map f (take i xs)) ≡ [] → wide_lines bound (f x) ≡ []
      → wide_lines bound (flat_map f (take (i + 1) xs)) ≡ []
  member_none f xs x i h is before none =
      ap (wide_lines bound) (more f xs x i h is) ∙ none_both (flat_map f (take i xs)) (f x) before none

  pub all_none : {X : Type 0} (f : X → List Demand) (xs : List X) (i : ℕ)
      → length xs ≤ i → wide_lines bound (flat_map f (take i xs)) ≡ [] → wide_lines bound (flat_map f xs) ≡ []
  all_none f xs i h none = ap (λ l. wide_lines bound (flat_map f l)) (sym (take_all i xs h)) ∙ none

pub if_ok_more : {A E : Type 0} (result : Result A E) (P Q : A → Type 0) → IfOk result P → ((x : A) → P x → Q x) → IfOk result Q
if_ok_more (Ok x) P Q h k = k x h
if_ok_more (Err e) P Q h k = tt

pub on_ok_more : {A E : Type 0} (result : Result A E) (P Q : Type 0) → OnOk result P → (P → Q) → OnOk result Q
on_ok_more (Ok x) P Q h k = k h
on_ok_more (Err e) P Q h k = tt
