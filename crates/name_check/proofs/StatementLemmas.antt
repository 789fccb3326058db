-- Faults and ties of a statement, by those of its parts.
use Rattle.std.proofs.Common.{◌≡◌, ℕ, List, ◌++◌, map, Result, ap, sym, subst, ◌∙◌, append_assoc}
use Rattle.std.specs.Prelude.{ℤ, ⊤}
use Rattle.std.specs.Result.{IsErrAnd}
use Rattle.source_tree.specs.Scope.{Scope}
use Rattle.source_tree.specs.declared.name.Name.{Name}
use Rattle.source_tree.specs.declared.expression.Condition.{Condition}
use Rattle.source_tree.specs.declared.expression.Expr.{Expr}
use Rattle.source_tree.specs.declared.statement.Place.{Place}
use Rattle.source_tree.specs.declared.statement.Statement.{Statement, Assign, If, For, While, Call}
use Rattle.source_tree.specs.declared.statement.Statement.TheOpen as statement
use Rattle.name_check.specs.declared.fault.NameFault.{NameFault}
use Rattle.name_check.specs.Names.{Faults, Loops, faults_of_node, statement_faults}
use Rattle.name_check.specs.Reported.{IsReported, Walks}
use Rattle.name_check.specs.Ties.{Ties, ties_of_node, statement_ties}
use Rattle.source_tree.proofs.FoldEquations.{fold-Assign, fold-If, fold-For, fold-While, fold-Call}
use Rattle.name_check.proofs.WalkLemmas.{reports}

-- a statement has these faults and ties
pub record IsNode (s : Statement) (faults : Faults) (ties : Ties) : Type 0 where
  pub of_faults : statement_faults s ≡ faults
  pub of_ties : statement_ties s ≡ ties

-- a walk over it is one over its parts
pub node_walks : (s : Statement) (faults : Faults) (ties : Ties) (scope : Scope) (loops : Loops) (before after : List ℕ) (result : Result ⊤ NameFault)
    → IsNode s faults ties → Walks (faults scope loops) (ties scope) before result after → Walks (statement_faults s scope loops) (statement_ties s scope) before result after
node_walks s faults ties scope loops before after result node walk =
    subst (λ f. Walks (f scope loops) (statement_ties s scope) before result after) (sym node.of_faults)
    (subst (λ t. Walks (faults scope loops) (t scope) before result after) (sym node.of_ties) walk)

-- what is reported of its parts is reported of it
pub node_reports : (s : Statement) (faults : Faults) (ties : Ties) (scope : Scope) (loops : Loops) (before after : List ℕ) (fault : NameFault) (result : Result ⊤ NameFault)
    → IsNode s faults ties → IsErrAnd result (λ own. own ≡ fault) → IsReported (faults scope loops) fault
    → Walks (statement_faults s scope loops) (statement_ties s scope) before result after
node_reports s faults ties scope loops before after fault result node same h =
    node_walks s faults ties scope loops before after result node (reports (faults scope loops) (ties scope) before after fault result same h)

module _ (s : Statement) where
  pub assign_node : (place : Place) (value : Expr) (line : ℕ) → s ≡ Assign place value line
      → IsNode s (faults_of_node (statement.Assign place value line)) (ties_of_node (statement.Assign place value line))
  assign_node place value line is = record {
    of_faults = ap statement_faults is ∙ fold-Assign faults_of_node place value line;
    of_ties = ap statement_ties is ∙ fold-Assign ties_of_node place value line;
  }

  pub if_node : (condition : Condition) (first second : List Statement) (line : ℕ) → s ≡ If condition first second line
      → IsNode s (faults_of_node (statement.If condition (map statement_faults first) (map statement_faults second) line))
      (ties_of_node (statement.If condition (map statement_ties first) (map statement_ties second) line))
  if_node condition first second line is = record {
    of_faults = ap statement_faults is ∙ fold-If faults_of_node condition first second line;
    of_ties = ap statement_ties is ∙ fold-If ties_of_node condition first second line;
  }

  pub for_node : (name : Name) (first last : Expr) (body : List Statement) (line : ℕ) → s ≡ For name first last body line
      → IsNode s (faults_of_node (statement.For name first last (map statement_faults body) line))
      (ties_of_node (statement.For name first last (map statement_ties body) line))
  for_node name first last body line is = record {
    of_faults = ap statement_faults is ∙ fold-For faults_of_node name first last body line;
    of_ties = ap statement_ties is ∙ fold-For ties_of_node name first last body line;
  }

  pub while_node : (condition : Condition) (limit : ℤ) (body : List Statement) (line : ℕ) → s ≡ While condition limit body line
      → IsNode s (faults_of_node (statement.While condition limit (map statement_faults body) line))
      (ties_of_node (statement.While condition limit (map statement_ties body) line))
  while_node condition limit body line is = record {
    of_faults = ap statement_faults is ∙ fold-While faults_of_node condition limit body line;
    of_ties = ap statement_ties is ∙ fold-While ties_of_node condition limit body line;
  }

  pub call_node : (name : Name) (arguments : List Expr) (line : ℕ) → s ≡ Call name arguments line
      → IsNode s (faults_of_node (statement.Call name arguments line)) (ties_of_node (statement.Call name arguments line))
  call_node name arguments line is = record {
    of_faults = ap statement_faults is ∙ fold-Call faults_of_node name arguments line;
    of_ties = ap statement_ties is ∙ fold-Call ties_of_node name arguments line;
  }

-- the three parts of a head and a body after them
pub heads : {A : Type 0} (a b c d : List A) → (a ++ (b ++ c)) ++ d ≡ a ++ (b ++ (c ++ d))
heads a b c d = append_assoc a (b ++ c) d ∙ ap (λ l. a ++ l) (append_assoc b c d)
