-- Statements with statements in them, resolved.
use Rattle.std.proofs.Common.{◌≡◌, ℕ, ℤ, List, ap, ◌∙◌}
use Rattle.source_tree.specs.Scope.{Scope}
use Rattle.source_tree.specs.declared.name.Name.{Name}
use Rattle.source_tree.specs.declared.expression.Condition.{Condition}
use Rattle.source_tree.specs.declared.expression.Expr.{Expr}
use Rattle.source_tree.specs.declared.statement.Statement.{Statement}
use Rattle.source_tree.specs.declared.statement.Statement as source
use Rattle.resolved_tree.specs.Resolution.{slot_at, resolved_expr, resolved_condition, resolved_statement, resolved_statements, resolved_node}
use Rattle.resolved_tree.specs.declared.tree.Step.{Step, If, For, While}
use Rattle.resolved_tree.proofs.Equations.{all_resolved-map}
use Rattle.source_tree.proofs.FoldEquations.{fold-If, fold-For, fold-While}

pub resolved_if : (s : Statement) (condition : Condition) (first second : List Statement) (line : ℕ) (scope : Scope) → s ≡ source.If condition first second line
    → resolved_statement s scope ≡ If (resolved_condition condition scope) (resolved_statements first scope) (resolved_statements second scope)
resolved_if s condition first second line scope is =
    ap (λ x. resolved_statement x scope) is ∙ ap (λ (r : Scope → Step). r scope) (fold-If resolved_node condition first second line)
    ∙ (λ j. If (resolved_condition condition scope) (all_resolved-map first scope j) (all_resolved-map second scope j))

pub resolved_for : (s : Statement) (name : Name) (first last : Expr) (body : List Statement) (line : ℕ) (scope : Scope) → s ≡ source.For name first last body line
    → resolved_statement s scope ≡ For (slot_at name scope) (resolved_expr first scope) (resolved_expr last scope) (resolved_statements body scope) line
resolved_for s name first last body line scope is =
    ap (λ x. resolved_statement x scope) is ∙ ap (λ (r : Scope → Step). r scope) (fold-For resolved_node name first last body line)
    ∙ ap (λ l. For (slot_at name scope) (resolved_expr first scope) (resolved_expr last scope) l line) (all_resolved-map body scope)

pub resolved_while : (s : Statement) (condition : Condition) (limit : ℤ) (body : List Statement) (line : ℕ) (scope : Scope) → s ≡ source.While condition limit body line
    → resolved_statement s scope ≡ While (resolved_condition condition scope) limit (resolved_statements body scope) line
resolved_while s condition limit body line scope is =
    ap (λ x. resolved_statement x scope) is ∙ ap (λ (r : Scope → Step). r scope) (fold-While resolved_node condition limit body line)
    ∙ ap (λ l. While (resolved_condition condition scope) limit l line) (all_resolved-map body scope)
