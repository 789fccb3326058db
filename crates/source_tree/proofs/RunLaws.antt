-- Laws of runs.
use Rattle.std.proofs.Common.{◌≡◌, ℕ, zero, suc, ◌+◌, ◌≤◌, ℤ, List, [], ◌∷◌, ◌++◌, refl, ap, ◌∙◌, arith, Bool, true, false}
use Rattle.std.specs.Prelude.{if◌then◌else◌}
use Rattle.source_tree.specs.State.{State}
use Rattle.source_tree.specs.Run.{Run, Event, visit, print, happens, returns, traps, and_then, printed, visits, trap_of, at_return, Leads, Ending, returned, trapped, spent, printing, limited, printed_within, limited_then}

-- ---- and_then is associative and has `returns` as its unit
pub and_then_assoc : {A B C : Type 0} (r : Run A) (f : A → State → Run B) (g : B → State → Run C)
    → and_then (and_then r f) g ≡ and_then r (λ x s. and_then (f x s) g)
and_then_assoc (happens event r) f g = ap (λ q. happens event q) (and_then_assoc r f g)
and_then_assoc (returns value state) f g = refl
and_then_assoc (traps kind line) f g = refl

pub and_then_returns : {A : Type 0} (r : Run A) → and_then r (λ x s. returns x s) ≡ r
and_then_returns (happens event r) = ap (λ q. happens event q) (and_then_returns r)
and_then_returns (returns value state) = refl
and_then_returns (traps kind line) = refl

pub returns_and_then : {A B : Type 0} (value : A) (state : State) (f : A → State → Run B)
    → and_then (returns value state) f ≡ f value state
returns_and_then value state f = refl

-- ---- what a run leads to
pub leads_and_then : {A B : Type 0} (r : Run A) (f : A → State → Run B) (P : A → State → Type 0) (Q : B → State → Type 0)
    → Leads r P → ((x : A) (s : State) → P x s → Leads (f x s) Q) → Leads (and_then r f) Q
leads_and_then (happens event r) f P Q h k = leads_and_then r f P Q h k
leads_and_then (returns value state) f P Q h k = k value state h
leads_and_then (traps kind line) f P Q h k = tt

pub leads_weaker : {A : Type 0} (r : Run A) (P Q : A → State → Type 0)
    → Leads r P → ((x : A) (s : State) → P x s → Q x s) → Leads r Q
leads_weaker (happens event r) P Q h k = leads_weaker r P Q h k
leads_weaker (returns value state) P Q h k = k value state h
leads_weaker (traps kind line) P Q h k = tt

pub leads_always : {A : Type 0} (r : Run A) (P : A → State → Type 0) → ((x : A) (s : State) → P x s) → Leads r P
leads_always (happens event r) P h = leads_always r P h
leads_always (returns value state) P h = h value state
leads_always (traps kind line) P h = tt

pub leads_both : {A : Type 0} (r : Run A) (P Q : A → State → Type 0) → Leads r P → Leads r Q → Leads r (λ x s. P x s × Q x s)
leads_both (happens event r) P Q h k = leads_both r P Q h k
leads_both (returns value state) P Q h k = (h, k)
leads_both (traps kind line) P Q h k = tt

pub leads_if : {A : Type 0} (b : Bool) (r q : Run A) (P : A → State → Type 0)
    → (b ≡ true → Leads r P) → (b ≡ false → Leads q P) → Leads (if b then r else q) P
leads_if true r q P h k = h refl
leads_if false r q P h k = k refl

-- what comes next may be changed where the run doesn't lead
pub and_then_agrees : {A B : Type 0} (r : Run A) (f g : A → State → Run B) (P : A → State → Type 0)
    → Leads r P → ((x : A) (s : State) → P x s → f x s ≡ g x s) → and_then r f ≡ and_then r g
and_then_agrees (happens event r) f g P h k = ap (λ q. happens event q) (and_then_agrees r f g P h k)
and_then_agrees (returns value state) f g P h k = k value state h
and_then_agrees (traps kind line) f g P h k = refl

-- ---- prints, visits and traps, over an event in front and over and_then
abbrev pub prints_of : Event → List ℤ
prints_of visit = []
prints_of (print n) = n ∷ []

abbrev pub visits_of : Event → ℕ
visits_of visit = 1
visits_of (print n) = 0

pub printed-happens : {A : Type 0} (event : Event) (r : Run A) → printed (happens event r) ≡ prints_of event ++ printed r
printed-happens visit r = refl
printed-happens (print n) r = refl

pub visits-happens : {A : Type 0} (event : Event) (r : Run A) → visits (happens event r) ≡ visits_of event + visits r
visits-happens visit r = omega arith
visits-happens (print n) r = omega arith

pub trap_of-happens : {A : Type 0} (event : Event) (r : Run A) → trap_of (happens event r) ≡ trap_of r
trap_of-happens event r = refl

pub printed-and_then : {A B : Type 0} (r : Run A) (f : A → State → Run B)
    → printed (and_then r f) ≡ printed r ++ at_return r (λ x s. printed (f x s)) []
printed-and_then (happens visit r) f = printed-and_then r f
printed-and_then (happens (print n) r) f = ap (λ ns. n ∷ ns) (printed-and_then r f)
printed-and_then (returns value state) f = refl
printed-and_then (traps kind line) f = refl

pub visits-and_then : {A B : Type 0} (r : Run A) (f : A → State → Run B)
    → visits (and_then r f) ≡ visits r + at_return r (λ x s. visits (f x s)) 0
visits-and_then (happens visit r) f =
    let h : visits (and_then r f) ≡ visits r + at_return r (λ x s. visits (f x s)) 0 = visits-and_then r f in omega arith
visits-and_then (happens (print n) r) f = visits-and_then r f
visits-and_then (returns value state) f = omega arith
visits-and_then (traps kind line) f = refl

pub trap_of-and_then : {A B : Type 0} (r : Run A) (f : A → State → Run B)
    → trap_of (and_then r f) ≡ at_return r (λ x s. trap_of (f x s)) (trap_of r)
trap_of-and_then (happens event r) f = trap_of-and_then r f
trap_of-and_then (returns value state) f = refl
trap_of-and_then (traps kind line) f = refl

pub at_return-and_then : {A B C : Type 0} (r : Run A) (f : A → State → Run B) (g : B → State → C) (other : C)
    → at_return (and_then r f) g other ≡ at_return r (λ x s. at_return (f x s) g other) other
at_return-and_then (happens event r) f g other = at_return-and_then r f g other
at_return-and_then (returns value state) f g other = refl
at_return-and_then (traps kind line) f g other = refl

-- ---- limits
pub limited-print : {A : Type 0} (limit : ℕ) (n : ℤ) (r : Run A)
    → limited limit (happens (print n) r) ≡ printing (n ∷ []) (limited limit r)
limited-print limit n r = refl

pub limited-visit : {A : Type 0} (limit : ℕ) (r : Run A) → limited (suc limit) (happens visit r) ≡ limited limit r
limited-visit limit r = refl

pub limited-no_visit : {A : Type 0} (r : Run A) → limited 0 (happens visit r) ≡ record { prints = []; ending = spent }
limited-no_visit r = refl

-- a run up to a limit, and then another up to what is left
pub limited-and_then : {A B : Type 0} (limit : ℕ) (r : Run A) (f : A → State → Run B)
    → limited limit (and_then r f) ≡ limited_then (limited limit r) (λ x s left. limited left (f x s))
limited-and_then limit (happens (print n) r) f = ap (λ q. printing (n ∷ []) q) (limited-and_then limit r f)
limited-and_then zero (happens visit r) f = refl
limited-and_then (suc limit) (happens visit r) f = limited-and_then limit r f
limited-and_then limit (returns value state) f = refl
limited-and_then limit (traps kind line) f = refl

-- how a run ends that has so many visits left at its end
abbrev pub ending_of : {A : Type 0} → ℕ → Run A → Ending A
ending_of left (happens event r) = ending_of left r
ending_of left (returns value state) = returned value state left
ending_of left (traps kind line) = trapped kind line

-- within its visits a run is whole
pub limited_whole : {A : Type 0} (r : Run A) (left : ℕ)
    → limited (visits r + left) r ≡ record { prints = printed r; ending = ending_of left r }
limited_whole (happens (print n) r) left = ap (λ q. printing (n ∷ []) q) (limited_whole r left)
limited_whole (happens visit r) left =
    let e : visits r + 1 + left ≡ suc (visits r + left) = omega arith in
    ap (λ n. limited n (happens visit r)) e ∙ limited_whole r left
limited_whole (returns value state) left = let e : 0 + left ≡ left = omega arith in ap (λ n. limited n (returns value state)) e
limited_whole (traps kind line) left = refl

-- with fewer it is cut
pub limited_cut : {A : Type 0} (r : Run A) (limit : ℕ) → suc limit ≤ visits r → (limited limit r).ending ≡ spent
limited_cut (happens (print n) r) limit h = limited_cut r limit h
limited_cut (happens visit r) zero h = refl
limited_cut (happens visit r) (suc limit) h = limited_cut r limit (omega arith)
limited_cut (returns value state) limit h = absurd (omega arith)
limited_cut (traps kind line) limit h = absurd (omega arith)

-- and its prints are the first of those of the whole
pub limited_prefix : {A : Type 0} (limit : ℕ) (r : Run A) → (rest : List ℤ) × (printed r ≡ printed_within limit r ++ rest)
limited_prefix limit (happens (print n) r) = let h = limited_prefix limit r in (h.0, ap (λ ns. n ∷ ns) h.1)
limited_prefix zero (happens visit r) = (printed r, refl)
limited_prefix (suc limit) (happens visit r) = limited_prefix limit r
limited_prefix limit (returns value state) = ([], refl)
limited_prefix limit (traps kind line) = ([], refl)
