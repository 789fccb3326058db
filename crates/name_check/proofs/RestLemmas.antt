-- What is left of a source after some of its declarations.
use Rattle.std.proofs.Common.{◌≡◌, ℕ, ◌+◌, ◌<◌, ◌≤◌, List, [], ◌∷◌, ◌++◌, length, map, drop, get_or, Result, Ok, Err, refl, sym, ap, subst, ◌∙◌, arith, append_assoc}
use Rattle.std.specs.Prelude.{sum_by, ⊤}
use Rattle.std.proofs.lemmas.List.{drop_more, drop_all}
use Rattle.std.proofs.lemmas.List.Sums.{sum_by-drop_more}
use Rattle.source_tree.specs.Scope.{Scope, names_in, with_declared}
use Rattle.source_tree.specs.declared.declaration.Declaration.{Declaration}
use Rattle.source_tree.specs.declared.declaration.Declaration.TheVariants.{Var, Array, Proc}
use Rattle.source_tree.specs.declared.statement.Statement.{Statement}
use Rattle.name_check.specs.declared.fault.NameFault.{NameFault}
use Rattle.name_check.specs.Names.{all_faults, declaration_faults, faults_of_rest, procedures_in, statement_faults}
use Rattle.name_check.specs.Reported.{IsReported, Walks}
use Rattle.name_check.specs.Ties.{all_ties, declaration_ties, statement_ties, ties_of_rest}
use Rattle.name_check.proofs.WalkLemmas.{stops}

few_procedures : (d : Declaration) → procedures_in d ≤ names_in d
few_procedures (Var name range line) = omega arith
few_procedures (Array name len range line) = omega arith
few_procedures (Proc name params locals body line) = omega arith

-- The declarations before number i have no fault, and their ties are there. What is left says what is left of the whole.
pub record HasPassed (declarations : List Declaration) (statements : List Statement) (i number procedures : ℕ) (scope : Scope) (before after : List ℕ) : Type 0 where
  pub faults : faults_of_rest 0 0 declarations statements [] ≡ faults_of_rest number procedures (drop i declarations) statements scope
  pub ties : before ++ ties_of_rest 0 declarations statements [] ≡ after ++ ties_of_rest number (drop i declarations) statements scope
  pub names : sum_by names_in declarations ≡ number + sum_by names_in (drop i declarations)
  pub few : procedures ≤ number

pub passed_first : (declarations : List Declaration) (statements : List Statement) (before : List ℕ) → HasPassed declarations statements 0 0 0 [] before before
passed_first declarations statements before = record { faults = refl; ties = refl; names = omega arith; few = omega arith }

module _ (declarations : List Declaration) (statements : List Statement) (i number procedures : ℕ) (scope : Scope) (before so_far : List ℕ) (d : Declaration) (within : i < length declarations)
    (is : d ≡ get_or declarations i d) (passed : HasPassed declarations statements i number procedures scope before so_far) where
  left : drop i declarations ≡ d ∷ drop (i + 1) declarations
  left = drop_more declarations i d within ∙ ap (λ e. e ∷ drop (i + 1) declarations) (sym is)

  names_left : sum_by names_in declarations ≡ number + (names_in d + sum_by names_in (drop (i + 1) declarations))
  names_left =
      passed.names ∙ ap (λ n. number + n) (sum_by-drop_more names_in declarations i d within)
      ∙ ap (λ n. number + (n + sum_by names_in (drop (i + 1) declarations))) (ap names_in (sym is))

  pub names_fit : sum_by names_in declarations < 4294967295 → number + names_in d < 4294967295
  names_fit few = let left = names_left in omega arith

  pub procedures_fit : procedures + procedures_in d ≤ number + names_in d
  procedures_fit = let few = passed.few in let own = few_procedures d in omega arith

  faults_left : faults_of_rest 0 0 declarations statements []
      ≡ declaration_faults number procedures d scope
      ++ faults_of_rest (number + names_in d) (procedures + procedures_in d) (drop (i + 1) declarations) statements (with_declared number d scope)
  faults_left = passed.faults ∙ ap (λ l. faults_of_rest number procedures l statements scope) left

  pub passed_next : (after : List ℕ) → Walks (declaration_faults number procedures d scope) (declaration_ties number d scope) so_far (Ok tt) after
      → HasPassed declarations statements (i + 1) (number + names_in d) (procedures + procedures_in d) (with_declared number d scope) before after
  passed_next after walk =
      let rest = ties_of_rest (number + names_in d) (drop (i + 1) declarations) statements (with_declared number d scope) in
      record {
        faults =
            faults_left
            ∙ ap (λ l. l ++ faults_of_rest (number + names_in d) (procedures + procedures_in d) (drop (i + 1) declarations) statements (with_declared number d scope))
            walk.0;
        ties =
            passed.ties ∙ ap (λ l. so_far ++ ties_of_rest number l statements scope) left ∙ sym (append_assoc so_far (declaration_ties number d scope) rest)
            ∙ ap (λ l. l ++ rest) (sym walk.1);
        names = let left = names_left in omega arith;
        few = procedures_fit;
      }

  pub passed_stops : (fault : NameFault) → IsReported (declaration_faults number procedures d scope) fault → IsReported (faults_of_rest 0 0 declarations statements []) fault
  passed_stops fault h = subst (λ all. IsReported all fault) (sym faults_left) (stops (declaration_faults number procedures d scope) _ fault h)

-- the same at numbers and a scope that are equal
pub passed_at : (declarations : List Declaration) (statements : List Statement) (i m n p q : ℕ) (scope same : Scope) (before after : List ℕ) → m ≡ n → p ≡ q → scope ≡ same
    → HasPassed declarations statements i m p scope before after → HasPassed declarations statements i n q same before after
passed_at declarations statements i m n p q scope same before after number procedures equal passed =
    subst (λ s. HasPassed declarations statements i n q s before after) equal
    (subst (λ r. HasPassed declarations statements i n r scope before after) procedures (subst (λ k. HasPassed declarations statements i k p scope before after) number passed))

-- after all declarations the statements are left
pub passed_all : (declarations : List Declaration) (statements : List Statement) (i number procedures : ℕ) (scope : Scope) (before so_far after : List ℕ) (result : Result ⊤ NameFault)
    → length declarations ≤ i → HasPassed declarations statements i number procedures scope before so_far
    → Walks (all_faults (map statement_faults statements) scope []) (all_ties (map statement_ties statements) scope) so_far result after
    → Walks (faults_of_rest 0 0 declarations statements []) (ties_of_rest 0 declarations statements []) before result after
passed_all declarations statements i number procedures scope before so_far after (Ok done) end passed walk =
    let none = drop_all i declarations end in (
      passed.faults ∙ ap (λ l. faults_of_rest number procedures l statements scope) none ∙ walk.0,
      walk.1 ∙ sym (passed.ties ∙ ap (λ l. so_far ++ ties_of_rest number l statements scope) none),
    )
passed_all declarations statements i number procedures scope before so_far after (Err fault) end passed walk =
    let none = drop_all i declarations end in
    subst (λ all. IsReported all fault) (sym (passed.faults ∙ ap (λ l. faults_of_rest number procedures l statements scope) none)) walk
