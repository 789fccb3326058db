-- Scopes with the same look-up resolve a source to the same tree.
use Rattle.std.proofs.Common.{◌≡◌, ℕ, ◌+◌, List, [], ◌∷◌, ◌++◌, length, map, refl, sym, ap, ◌∙◌, Option, Some, None}
use Rattle.plain_text.specs.Lookup.{lookup}
use Rattle.name_table.proofs.LookupLemmas.{first_of, lookup-append}
use Rattle.source_tree.specs.Scope.{Declared, variable, array, procedure, Scope, with_variables, inside}
use Rattle.source_tree.specs.declared.name.Name.{Name as SourceName}
use Rattle.source_tree.specs.declared.name.Range.{Range}
use Rattle.source_tree.specs.declared.declaration.Local.{Local}
use Rattle.source_tree.specs.declared.declaration.Param.{Param}
use Rattle.source_tree.specs.declared.expression.Condition.{Condition}
use Rattle.source_tree.specs.declared.expression.Expr.{Expr, Number, Name, Element, Neg, Binary}
use Rattle.source_tree.specs.declared.statement.Place.{Place}
use Rattle.source_tree.specs.declared.statement.Place.TheVariants as place
use Rattle.source_tree.specs.declared.statement.Statement.{Statement, Assign, Print, Read, If, For, While, Call}
use Rattle.source_tree.proofs.Inductions.{EachOf, each_of, each_expr, each_statement}
use Rattle.resolved_tree.specs.Resolution.{resolved_expr, resolved_condition, resolved_place, resolved_arguments, resolved_call, all_resolved, resolved_statement, resolved_statements, resolved_expr_node, resolved_node}
use Rattle.resolved_tree.specs.Slots.{slot_of}
use Rattle.resolved_tree.specs.declared.tree.Step.{Step}
use Rattle.resolved_tree.specs.declared.tree.Step as step
use Rattle.resolved_tree.specs.declared.tree.Target.TheVariants as target
use Rattle.resolved_tree.specs.declared.tree.Value.{Value}
use Rattle.resolved_tree.specs.declared.tree.Value as value
use Rattle.resolved_tree.proofs.Equations.{all_resolved-map}
use Rattle.source_tree.proofs.FoldEquations.{fold-Number, fold-Name, fold-Element, fold-Neg, fold-Binary, fold-Assign, fold-Print, fold-Read, fold-If, fold-For, fold-While, fold-Call}

abbrev pub SameNames : Scope → Scope → Type 0
SameNames a b = (x : List ℕ) → lookup x a ≡ lookup x b

-- ---- with more names
same_more : (a b more : Scope) → SameNames a b → SameNames (a ++ more) (b ++ more)
same_more a b more same x = lookup-append x a more ∙ ap (λ o. first_of o (lookup x more)) (same x) ∙ sym (lookup-append x b more)

same_variables : {A : Type 0} (name : A → SourceName) (range : A → Range) (k : ℕ) (xs : List A) (a b : Scope) → SameNames a b
    → SameNames (with_variables name range k xs a) (with_variables name range k xs b)
same_variables name range k [] a b same = same
same_variables name range k (x ∷ xs) a b same = same_variables name range (k + 1) xs _ _ (same_more a b (((name x).bytes, variable k (range x)) ∷ []) same)

pub same_inside : (k : ℕ) (params : List Param) (locals : List Local) (a b : Scope) → SameNames a b
    → SameNames (inside k params locals a) (inside k params locals b)
same_inside k params locals a b same =
    same_variables (λ l. l.name) (λ l. l.range) (k + 1 + length params) locals _ _ (same_variables (λ p. p.name) (λ p. p.range) (k + 1) params a b same)

module _ (a b : Scope) (same : SameNames a b) where
  -- ---- expressions
  abbrev ExprSame : Expr → Type 0
  ExprSame e = resolved_expr e a ≡ resolved_expr e b

  by_node : (e : Expr) (node : Scope → Value) → resolved_expr e ≡ node → node a ≡ node b → ExprSame e
  by_node e node is h = ap (λ r. r a) is ∙ h ∙ sym (ap (λ r. r b) is)

  expr_same : (e : Expr) → ExprSame e
  expr_same =
      each_expr ExprSame
      (λ n line. by_node (Number n line) _ (fold-Number resolved_expr_node n line) refl)
      (λ name. by_node (Name name) _ (fold-Name resolved_expr_node name) (ap (λ o. value.Integer (slot_of o)) (same name.bytes)))
      (λ name index h. by_node (Element name index) _ (fold-Element resolved_expr_node name index) (λ j. value.Element (slot_of (same name.bytes j)) (h j) name.line))
      (λ operand line h. by_node (Neg operand line) _ (fold-Neg resolved_expr_node operand line) (ap (λ v. value.Neg v) h))
      (λ left o right line h k. by_node (Binary left o right line) _ (fold-Binary resolved_expr_node left o right line) (λ j. value.Binary (h j) o (k j) line))

  condition_same : (condition : Condition) → resolved_condition condition a ≡ resolved_condition condition b
  condition_same condition =
      λ j. record { left = expr_same condition.left j; comparison = condition.comparison; right = expr_same condition.right j }

  place_same : (to : Place) → resolved_place to a ≡ resolved_place to b
  place_same (place.Name name) = ap (λ o. target.Integer (slot_of o)) (same name.bytes)
  place_same (place.Element name index) = λ j. target.Element (slot_of (same name.bytes j)) (expr_same index j) name.line

  -- ---- statements
  abbrev StatementSame : Statement → Type 0
  StatementSame s = resolved_statement s a ≡ resolved_statement s b

  by_statement : (s : Statement) (node : Scope → Step) → resolved_statement s ≡ node → node a ≡ node b → StatementSame s
  by_statement s node is h = ap (λ r. r a) is ∙ h ∙ sym (ap (λ r. r b) is)

  list_same : (l : List Statement) → EachOf StatementSame l → resolved_statements l a ≡ resolved_statements l b
  list_same [] h = refl
  list_same (s ∷ l) h = λ j. h.0 j ∷ list_same l h.1 j

  inner_same : (l : List Statement) → EachOf StatementSame l → all_resolved (map resolved_statement l) a ≡ all_resolved (map resolved_statement l) b
  inner_same l h = all_resolved-map l a ∙ list_same l h ∙ sym (all_resolved-map l b)

  arguments_same : (es : List Expr) (params : List Range) → resolved_arguments es params a ≡ resolved_arguments es params b
  arguments_same [] params = refl
  arguments_same (e ∷ es) [] = refl
  arguments_same (e ∷ es) (range ∷ params) = λ j. record { value = expr_same e j; range = range } ∷ arguments_same es params j

  call_same : (o : Option Declared) (es : List Expr) (line : ℕ) → resolved_call o es line a ≡ resolved_call o es line b
  call_same (Some (procedure k params)) es line = ap (λ l. step.Call k l line) (arguments_same es params)
  call_same (Some (variable k range)) es line = refl
  call_same (Some (array k len range)) es line = refl
  call_same None es line = refl

  statement_same : (s : Statement) → StatementSame s
  statement_same =
      each_statement StatementSame
      (λ to e line. by_statement (Assign to e line) _ (fold-Assign resolved_node to e line) (λ j. step.Assign (place_same to j) (expr_same e j) line))
      (λ e line. by_statement (Print e line) _ (fold-Print resolved_node e line) (ap (λ v. step.Print v) (expr_same e)))
      (λ to line. by_statement (Read to line) _ (fold-Read resolved_node to line) (ap (λ t. step.Read t line) (place_same to)))
      (λ condition first second line h k. by_statement (If condition first second line) _ (fold-If resolved_node condition first second line)
      (λ j. step.If (condition_same condition j) (inner_same first h j) (inner_same second k j)))
      (λ name first last body line h. by_statement (For name first last body line) _ (fold-For resolved_node name first last body line)
      (λ j. step.For (slot_of (same name.bytes j)) (expr_same first j) (expr_same last j) (inner_same body h j) line))
      (λ condition limit body line h. by_statement (While condition limit body line) _ (fold-While resolved_node condition limit body line)
      (λ j. step.While (condition_same condition j) limit (inner_same body h j) line))
      (λ name es line. by_statement (Call name es line) _ (fold-Call resolved_node name es line)
      (ap (λ o. resolved_call o es line a) (same name.bytes) ∙ call_same (lookup name.bytes b) es line))

  pub statements_same : (l : List Statement) → resolved_statements l a ≡ resolved_statements l b
  statements_same l = list_same l (each_of StatementSame statement_same l)
