-- Faults and ties of an expression, by those of its parts.
use Rattle.std.proofs.Common.{◌≡◌, ℕ, List, Result, Ok, ap, sym, subst, ◌∙◌}
use Rattle.std.specs.Prelude.{⊤}
use Rattle.plain_text.specs.Lookup.{lookup}
use Rattle.source_tree.specs.Scope.{Scope}
use Rattle.source_tree.specs.declared.name.Name.{Name as SourceName}
use Rattle.source_tree.specs.declared.expression.Operator.{Operator}
use Rattle.source_tree.specs.declared.expression.Expr.{Expr, Element, Binary}
use Rattle.source_tree.specs.declared.expression.Expr.TheOpen as expr
use Rattle.name_check.specs.declared.fault.NameFault.{NameFault}
use Rattle.name_check.specs.Names.{as_array, expr_faults, faults_of_expr_node}
use Rattle.name_check.specs.Reported.{IsReported, Walks}
use Rattle.name_check.specs.Ties.{Ties, expr_ties, name_ties, ties_of_expr_node}
use Rattle.source_tree.proofs.FoldEquations.{fold-Element, fold-Binary}
use Rattle.name_check.proofs.WalkLemmas.{stops, walks_on}

module _ (e : Expr) (scope : Scope) where
  expr_walks : (faults : Scope → List NameFault) (ties : Ties) (before after : List ℕ) (result : Result ⊤ NameFault) → expr_faults e ≡ faults → expr_ties e ≡ ties
      → Walks (faults scope) (ties scope) before result after → Walks (expr_faults e scope) (expr_ties e scope) before result after
  expr_walks faults ties before after result of_faults of_ties walk =
      subst (λ f. Walks (f scope) (expr_ties e scope) before result after) (sym of_faults)
      (subst (λ t. Walks (faults scope) (t scope) before result after) (sym of_ties) walk)

  pub element_stops : (name : SourceName) (index : Expr) (fault : NameFault) → e ≡ Element name index
      → IsReported (as_array (lookup name.bytes scope) name.line) fault → IsReported (expr_faults e scope) fault
  element_stops name index fault is h =
      subst (λ f. IsReported (f scope) fault) (sym (ap expr_faults is ∙ fold-Element faults_of_expr_node name index))
      (stops (as_array (lookup name.bytes scope) name.line) (expr_faults index scope) fault h)

  pub element_walks : (name : SourceName) (index : Expr) (before middle after : List ℕ) (result : Result ⊤ NameFault) → e ≡ Element name index
      → Walks (as_array (lookup name.bytes scope) name.line) (name_ties name scope) before (Ok tt) middle
      → Walks (expr_faults index scope) (expr_ties index scope) middle result after → Walks (expr_faults e scope) (expr_ties e scope) before result after
  element_walks name index before middle after result is own walk =
      expr_walks (faults_of_expr_node (expr.Element name (expr_faults index))) (ties_of_expr_node (expr.Element name (expr_ties index))) before after result
      (ap expr_faults is ∙ fold-Element faults_of_expr_node name index) (ap expr_ties is ∙ fold-Element ties_of_expr_node name index)
      (walks_on (as_array (lookup name.bytes scope) name.line) (expr_faults index scope) (name_ties name scope) (expr_ties index scope) before middle after result own walk)

  pub binary_walks : (left : Expr) (o : Operator) (right : Expr) (line : ℕ) (before middle after : List ℕ) (result : Result ⊤ NameFault) → e ≡ Binary left o right line
      → Walks (expr_faults left scope) (expr_ties left scope) before (Ok tt) middle
      → Walks (expr_faults right scope) (expr_ties right scope) middle result after → Walks (expr_faults e scope) (expr_ties e scope) before result after
  binary_walks left o right line before middle after result is first second =
      expr_walks (faults_of_expr_node (expr.Binary (expr_faults left) o (expr_faults right) line)) (ties_of_expr_node (expr.Binary (expr_ties left) o (expr_ties right) line)) before after result
      (ap expr_faults is ∙ fold-Binary faults_of_expr_node left o right line) (ap expr_ties is ∙ fold-Binary ties_of_expr_node left o right line)
      (walks_on (expr_faults left scope) (expr_faults right scope) (expr_ties left scope) (expr_ties right scope) before middle after result first second)
