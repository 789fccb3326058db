-- Each tie is below the number of names that a program declares.
use Rattle.std.proofs.Common.{◌≡◌, ℕ, ◌+◌, ◌<◌, ◌≤◌, Bool, true, false, List, [], ◌∷◌, ◌++◌, length, map, Some, sym, subst, arith}
use Rattle.std.specs.Prelude.{if◌then◌else◌, sum_by}
use Rattle.std.specs.List.{All, AllByRecursion}
use Rattle.std.specs.Str.{bytes_eq}
use Rattle.std.proofs.lemmas.List.Elements.{All-from_recursion}
use Rattle.std.proofs.lemmas.List.Sums.{sum_by-drop_more}
use Rattle.plain_text.specs.Lookup.{lookup}
use Rattle.source_tree.specs.Numbers.{program_names}
use Rattle.source_tree.specs.Scope.{Declared, Scope, variable, array, procedure, inside, names_in, with_declared, with_params, with_variables}
use Rattle.source_tree.specs.declared.name.Name.{Name as SourceName}
use Rattle.source_tree.specs.declared.name.Range.{Range}
use Rattle.source_tree.specs.declared.declaration.Declaration.{Declaration}
use Rattle.source_tree.specs.declared.declaration.Declaration.TheVariants.{Var, Array, Proc}
use Rattle.source_tree.specs.declared.declaration.Program.{Program}
use Rattle.source_tree.specs.declared.expression.Condition.{Condition}
use Rattle.source_tree.specs.declared.expression.Expr.{Expr, Number, Name, Element, Neg, Binary}
use Rattle.source_tree.specs.declared.expression.Expr.TheOpen as expr
use Rattle.source_tree.specs.declared.statement.Place.{Place}
use Rattle.source_tree.specs.declared.statement.Place.TheVariants as place
use Rattle.source_tree.specs.declared.statement.Statement.{Statement, Assign, Print, Read, If, For, While, Call}
use Rattle.source_tree.specs.declared.statement.Statement.TheOpen as statement
use Rattle.source_tree.proofs.Inductions.{EachOf, each_of, each_expr, each_statement}
use Rattle.name_check.specs.Ties.{Ties, number_of, tie, name_ties, all_ties, ties_of_expr_node, expr_ties, condition_ties, place_ties, ties_of_node, statement_ties, declaration_ties, ties_of_rest, ties_of}
use Rattle.source_tree.proofs.FoldEquations.{fold-Number, fold-Name, fold-Element, fold-Neg, fold-Binary, fold-Assign, fold-Print, fold-Read, fold-If, fold-For, fold-While, fold-Call}

each_append : {A : Type 0} (P : A → Type 0) (a b : List A) → EachOf P a → EachOf P b → EachOf P (a ++ b)
each_append P [] b h k = k
each_append P (x ∷ a) b h k = (h.0, each_append P a b h.1 k)

recursion_of : {A : Type 0} (P : A → Type 0) (l : List A) → EachOf P l → AllByRecursion P l
recursion_of P [] h = tt
recursion_of P (x ∷ l) h = (h.0, recursion_of P l h.1)

module _ (n : ℕ) where
  abbrev IsBelow : ℕ → Type 0
  IsBelow k = k < n

  abbrev AreBelow : List ℕ → Type 0
  AreBelow ties = EachOf IsBelow ties

  -- a scope has no number that is too great
  abbrev ScopeBelow : Scope → Type 0
  ScopeBelow scope = EachOf (λ e. IsBelow (number_of e.1)) scope

  more_below : (scope : Scope) (name : List ℕ) (d : Declared) → ScopeBelow scope → number_of d < n → ScopeBelow (scope ++ (name, d) ∷ [])
  more_below scope name d h k = each_append (λ e. IsBelow (number_of e.1)) scope ((name, d) ∷ []) h (k, tt)

  tie_below : (scope : Scope) (name : List ℕ) → ScopeBelow scope → AreBelow (tie (lookup name scope))
  tie_below [] name h = tt
  tie_below (e ∷ scope) name h = of (bytes_eq e.0 name) (tie_below scope name h.1)
    where
      of : (b : Bool) → AreBelow (tie (lookup name scope)) → AreBelow (tie (if b then Some e.1 else lookup name scope))
      of true rest = (h.0, tt)
      of false rest = rest

  both : (a b : List ℕ) → AreBelow a → AreBelow b → AreBelow (a ++ b)
  both a b h k = each_append IsBelow a b h k

  -- ---- by the scope
  module _ (scope : Scope) (below : ScopeBelow scope) where
    same_ties : (f g : Ties) → f ≡ g → AreBelow (g scope) → AreBelow (f scope)
    same_ties f g is h = subst (λ (t : Ties). AreBelow (t scope)) (sym is) h

    parts_below : {A : Type 0} (of : A → Ties) (xs : List A) → EachOf (λ x. AreBelow (of x scope)) xs → AreBelow (all_ties (map of xs) scope)
    parts_below of [] h = tt
    parts_below of (x ∷ xs) h = both (of x scope) (all_ties (map of xs) scope) h.0 (parts_below of xs h.1)

    expr_below : (e : Expr) → AreBelow (expr_ties e scope)
    expr_below =
        each_expr (λ e. AreBelow (expr_ties e scope))
        (λ value line. same_ties (expr_ties (Number value line)) (ties_of_expr_node (expr.Number value line)) (fold-Number ties_of_expr_node value line) tt)
        (λ name. same_ties (expr_ties (Name name)) (ties_of_expr_node (expr.Name name)) (fold-Name ties_of_expr_node name) (tie_below scope name.bytes below))
        (λ name index h. same_ties (expr_ties (Element name index)) (ties_of_expr_node (expr.Element name (expr_ties index))) (fold-Element ties_of_expr_node name index)
        (both (name_ties name scope) (expr_ties index scope) (tie_below scope name.bytes below) h))
        (λ operand line h. same_ties (expr_ties (Neg operand line)) (ties_of_expr_node (expr.Neg (expr_ties operand) line)) (fold-Neg ties_of_expr_node operand line) h)
        (λ left o right line h k. same_ties (expr_ties (Binary left o right line)) (ties_of_expr_node (expr.Binary (expr_ties left) o (expr_ties right) line))
        (fold-Binary ties_of_expr_node left o right line) (both (expr_ties left scope) (expr_ties right scope) h k))

    condition_below : (condition : Condition) → AreBelow (condition_ties condition scope)
    condition_below condition = both (expr_ties condition.left scope) (expr_ties condition.right scope) (expr_below condition.left) (expr_below condition.right)

    place_below : (p : Place) → AreBelow (place_ties p scope)
    place_below (place.Name name) = tie_below scope name.bytes below
    place_below (place.Element name index) = both (name_ties name scope) (expr_ties index scope) (tie_below scope name.bytes below) (expr_below index)

    node_below : (s : Statement) (node : statement.Statement-F Ties) → statement_ties s ≡ ties_of_node node → AreBelow (ties_of_node node scope) → AreBelow (statement_ties s scope)
    node_below s node is h = same_ties (statement_ties s) (ties_of_node node) is h

    statement_below : (s : Statement) → AreBelow (statement_ties s scope)
    statement_below =
        each_statement (λ s. AreBelow (statement_ties s scope))
        (λ p value line. node_below (Assign p value line) (statement.Assign p value line) (fold-Assign ties_of_node p value line)
        (both (place_ties p scope) (expr_ties value scope) (place_below p) (expr_below value)))
        (λ value line. node_below (Print value line) (statement.Print value line) (fold-Print ties_of_node value line) (expr_below value))
        (λ p line. node_below (Read p line) (statement.Read p line) (fold-Read ties_of_node p line) (place_below p))
        (λ condition first second line h k.
        node_below (If condition first second line) (statement.If condition (map statement_ties first) (map statement_ties second) line) (fold-If ties_of_node condition first second line)
        (both (condition_ties condition scope) (all_ties (map statement_ties first) scope ++ all_ties (map statement_ties second) scope) (condition_below condition)
        (both (all_ties (map statement_ties first) scope) (all_ties (map statement_ties second) scope) (parts_below statement_ties first h) (parts_below statement_ties second k))))
        (λ name first last body line h. node_below (For name first last body line) (statement.For name first last (map statement_ties body) line) (fold-For ties_of_node name first last body line)
        (both (name_ties name scope) (expr_ties first scope ++ (expr_ties last scope ++ all_ties (map statement_ties body) scope)) (tie_below scope name.bytes below)
        (both (expr_ties first scope) (expr_ties last scope ++ all_ties (map statement_ties body) scope) (expr_below first)
        (both (expr_ties last scope) (all_ties (map statement_ties body) scope) (expr_below last) (parts_below statement_ties body h)))))
        (λ condition turns body line h. node_below (While condition turns body line) (statement.While condition turns (map statement_ties body) line) (fold-While ties_of_node condition turns body line)
        (both (condition_ties condition scope) (all_ties (map statement_ties body) scope) (condition_below condition) (parts_below statement_ties body h)))
        (λ name arguments line. node_below (Call name arguments line) (statement.Call name arguments line) (fold-Call ties_of_node name arguments line)
        (both (name_ties name scope) (all_ties (map expr_ties arguments) scope) (tie_below scope name.bytes below)
        (parts_below expr_ties arguments (each_of (λ e. AreBelow (expr_ties e scope)) expr_below arguments))))

    statements_below : (statements : List Statement) → AreBelow (all_ties (map statement_ties statements) scope)
    statements_below statements = parts_below statement_ties statements (each_of (λ s. AreBelow (statement_ties s scope)) statement_below statements)

  -- ---- declarations, by the number of the first name
  variables_below : {A : Type 0} (name : A → SourceName) (range : A → Range) (k : ℕ) (xs : List A) (scope : Scope) → ScopeBelow scope → k + length xs ≤ n
      → ScopeBelow (with_variables name range k xs scope)
  variables_below name range k [] scope h fit = h
  variables_below name range k (x ∷ xs) scope h fit =
      variables_below name range (k + 1) xs (scope ++ ((name x).bytes, variable k (range x)) ∷ []) (more_below scope (name x).bytes (variable k (range x)) h (omega arith)) (omega arith)

  declared_below : (k : ℕ) (d : Declaration) (scope : Scope) → ScopeBelow scope → k + names_in d ≤ n → ScopeBelow (with_declared k d scope)
  declared_below k (Var name range line) scope h fit = more_below scope name.bytes (variable k range) h (omega arith)
  declared_below k (Array name len range line) scope h fit = more_below scope name.bytes (array k len range) h (omega arith)
  declared_below k (Proc name params locals body line) scope h fit = more_below scope name.bytes (procedure k (map (λ p. p.range) params)) h (omega arith)

  declaration_below : (k : ℕ) (d : Declaration) (scope : Scope) → ScopeBelow scope → k + names_in d ≤ n → AreBelow (declaration_ties k d scope)
  declaration_below k (Var name range line) scope h fit = tt
  declaration_below k (Array name len range line) scope h fit = tt
  declaration_below k (Proc name params locals body line) scope h fit =
      statements_below (inside k params locals scope)
      (variables_below (λ l. l.name) (λ l. l.range) (k + 1 + length params) locals (with_params (k + 1) params scope)
      (variables_below (λ p. p.name) (λ p. p.range) (k + 1) params scope h (omega arith)) (omega arith)) body

  rest_below : (k : ℕ) (declarations : List Declaration) (statements : List Statement) (scope : Scope) → ScopeBelow scope → k + sum_by names_in declarations ≤ n
      → AreBelow (ties_of_rest k declarations statements scope)
  rest_below k [] statements scope h fit = statements_below scope h statements
  rest_below k (d ∷ declarations) statements scope h fit =
      let sum : sum_by names_in (d ∷ declarations) ≡ names_in d + sum_by names_in declarations = sum_by-drop_more names_in (d ∷ declarations) 0 d (omega arith) in
      both (declaration_ties k d scope) (ties_of_rest (k + names_in d) declarations statements (with_declared k d scope)) (declaration_below k d scope h (omega arith))
      (rest_below (k + names_in d) declarations statements (with_declared k d scope) (declared_below k d scope h (omega arith)) (omega arith))

pub ties_below : (program : Program) → All (λ tie. tie < program_names program) (ties_of program)
ties_below program =
    let n = program_names program in
    All-from_recursion (λ tie. tie < n) (ties_of program)
    (recursion_of (λ tie. tie < n) (ties_of program) (rest_below n 0 program.declarations program.statements [] tt (omega arith)))
