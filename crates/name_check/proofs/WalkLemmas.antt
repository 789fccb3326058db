-- Walks over parts of a source, one after another, and over a list of them.
use Rattle.std.proofs.Common.{◌≡◌, ℕ, ◌+◌, ◌<◌, ◌≤◌, List, [], ◌∷◌, ◌++◌, length, map, take, drop, get_or, Result, Ok, Err, inr, refl, sym, ap, subst, ◌∙◌, append_assoc}
use Rattle.std.specs.Prelude.{⊤, IfErr}
use Rattle.std.specs.List.{flat_map}
use Rattle.std.specs.Result.{IsErrAnd}
use Rattle.std.proofs.lemmas.List.{append-nil, drop_more, flat_map_more, take-append-drop, take_more, take_all}
use Rattle.std.proofs.lemmas.List.Folds.{flat_map-map}
use Rattle.std.proofs.lemmas.Grind.{flat_map-append}
use Rattle.source_tree.specs.Scope.{Scope}
use Rattle.source_tree.specs.declared.expression.Expr.{Expr}
use Rattle.name_check.specs.declared.fault.NameFault.{NameFault}
use Rattle.name_check.specs.declared.fault.NameFault.TheVariants.{NoMemory}
use Rattle.name_check.specs.Names.{Faults, Loops, all_faults, expr_faults, exprs_faults}
use Rattle.name_check.specs.Reported.{IsFirst, IsReported, IsTie, Walks}
use Rattle.name_check.specs.Ties.{Ties, all_ties}

-- ---- one part after another
-- what is reported of the first is reported of both
pub stops : (a b : List NameFault) (fault : NameFault) → IsReported a fault → IsReported (a ++ b) fault
stops [] [] fault h = h
stops [] (first ∷ more) fault h = inr h
stops (first ∷ more) b fault h = h

-- where the first has no fault, what is reported of the second is reported of both
pub stops_later : (a b : List NameFault) (fault : NameFault) → a ≡ [] → IsReported b fault → IsReported (a ++ b) fault
stops_later [] b fault none h = h
stops_later (first ∷ more) b fault none h = cc

-- a fault of a part that is reported of the whole
pub reports : (faults : List NameFault) (ties before after : List ℕ) (fault : NameFault) (result : Result ⊤ NameFault)
    → IsErrAnd result (λ own. own ≡ fault) → IsReported faults fault → Walks faults ties before result after
reports faults ties before after fault (Ok done) same h = absurd same
reports faults ties before after fault (Err own) same h = subst (IsReported faults) (sym same) h

-- the same of what has no ties
pub reported : {A : Type 0} (faults : List NameFault) (fault : NameFault) (result : Result A NameFault)
    → IsErrAnd result (λ own. own ≡ fault) → IsReported faults fault → IsFirst faults result
reported faults fault (Ok value) same h = absurd same
reported faults fault (Err own) same h = subst (IsReported faults) (sym same) h

-- a walk over a part without a fault, and then over another
pub walks_on : (a b : List NameFault) (first second before middle after : List ℕ) (result : Result ⊤ NameFault)
    → Walks a first before (Ok tt) middle → Walks b second middle result after → Walks (a ++ b) (first ++ second) before result after
walks_on a b first second before middle after (Ok done) walked walk =
    (ap (λ faults. faults ++ b) walked.0 ∙ walk.0, walk.1 ∙ ap (λ ties. ties ++ second) walked.1 ∙ append_assoc before first second)
walks_on a b first second before middle after (Err fault) walked walk = stops_later a b fault walked.0 walk

-- the same of what has no ties
pub later_first : {A : Type 0} (a b : List NameFault) (result : Result A NameFault) → a ≡ [] → IsFirst b result → IsFirst (a ++ b) result
later_first a b (Ok value) none h = ap (λ faults. faults ++ b) none ∙ h
later_first a b (Err fault) none h = stops_later a b fault none h

-- a name that is used as what it is
pub used : (faults : List NameFault) (ties before after : List ℕ) (number : ℕ) → IsTie faults ties (Ok number) → after ≡ before ++ number ∷ [] → Walks faults ties before (Ok tt) after
used faults ties before after number found put = (found.0, put ∙ ap (λ tied. before ++ tied) (sym found.1))

-- a walk that wants memory at its end
pub ends : (faults : List NameFault) (ties before after : List ℕ) (result : Result ⊤ NameFault) → faults ≡ [] → after ≡ before ++ ties → IfErr result (λ fault. fault ≡ NoMemory)
    → Walks faults ties before result after
ends faults ties before after (Ok done) none tied err = (none, tied)
ends faults ties before after (Err fault) none tied err = subst (λ fs. IsReported fs fault) (sym none) err

-- ---- a list of parts
module _ {A : Type 0} (faults : A → List NameFault) (ties : A → List ℕ) where
  -- the parts before number i have no fault, and their ties are there
  pub record HasWalked (parts : List A) (i : ℕ) (before after : List ℕ) : Type 0 where
    pub none : flat_map faults (take i parts) ≡ []
    pub tied : after ≡ before ++ flat_map ties (take i parts)

  pub walked_first : (parts : List A) (before : List ℕ) → HasWalked parts 0 before before
  walked_first parts before = record { none = refl; tied = sym (append-nil before) }

  module _ (parts : List A) (i : ℕ) (before so_far : List ℕ) (part : A) (within : i < length parts) (is : part ≡ get_or parts i part)
      (walked : HasWalked parts i before so_far) where
    one_more : take (i + 1) parts ≡ take i parts ++ part ∷ []
    one_more = take_more parts i part within ∙ ap (λ p. take i parts ++ p ∷ []) (sym is)

    pub walked_next : (after : List ℕ) → Walks (faults part) (ties part) so_far (Ok tt) after → HasWalked parts (i + 1) before after
    walked_next after walk = record {
      none =
          ap (flat_map faults) one_more ∙ sym (flat_map_more faults [] (take i parts) part) ∙ ap (λ a. a ++ faults part) walked.none ∙ walk.0;
      tied =
          walk.1 ∙ ap (λ a. a ++ ties part) walked.tied ∙ flat_map_more ties before (take i parts) part
          ∙ ap (λ ps. before ++ flat_map ties ps) (sym one_more);
    }

    pub walked_stops : (fault : NameFault) → IsReported (faults part) fault → IsReported (flat_map faults parts) fault
    walked_stops fault h =
        let cut = ap (λ ps. take i parts ++ ps) (drop_more parts i part within ∙ ap (λ p. p ∷ drop (i + 1) parts) (sym is)) in
        let whole : flat_map faults (take i parts) ++ (faults part ++ flat_map faults (drop (i + 1) parts)) ≡ flat_map faults parts =
        sym (flat_map-append faults (take i parts) (part ∷ drop (i + 1) parts)) ∙ ap (flat_map faults) (sym cut ∙ take-append-drop i parts) in
        subst (λ all. IsReported all fault) whole
        (stops_later (flat_map faults (take i parts)) _ fault walked.none (stops (faults part) (flat_map faults (drop (i + 1) parts)) fault h))

  pub walked_all : (parts : List A) (i : ℕ) (before after : List ℕ) → length parts ≤ i → HasWalked parts i before after
      → Walks (flat_map faults parts) (flat_map ties parts) before (Ok tt) after
  walked_all parts i before after end walked =
      let all : take i parts ≡ parts = take_all i parts end in
      (ap (flat_map faults) (sym all) ∙ walked.none, walked.tied ∙ ap (λ ps. before ++ flat_map ties ps) all)

-- ---- lists of expressions and statements are such lists
pub exprs_faults-flat_map : (es : List Expr) (scope : Scope) → exprs_faults es scope ≡ flat_map (λ e. expr_faults e scope) es
exprs_faults-flat_map [] scope = refl
exprs_faults-flat_map (e ∷ es) scope = ap (λ faults. expr_faults e scope ++ faults) (exprs_faults-flat_map es scope)

pub all_faults-flat_map : {A : Type 0} (of : A → Faults) (parts : List A) (scope : Scope) (loops : Loops)
    → all_faults (map of parts) scope loops ≡ flat_map (λ part. of part scope loops) parts
all_faults-flat_map of [] scope loops = refl
all_faults-flat_map of (part ∷ parts) scope loops = ap (λ faults. of part scope loops ++ faults) (all_faults-flat_map of parts scope loops)

pub all_ties-flat_map : {A : Type 0} (of : A → Ties) (parts : List A) (scope : Scope) → all_ties (map of parts) scope ≡ flat_map (λ part. of part scope) parts
all_ties-flat_map of parts scope = flat_map-map (λ ties. ties scope) of parts
