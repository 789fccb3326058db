-- Each use of a name in text order, by the number of its declaration. The variable of a `for` is a use.
use Rattle.std.specs.Prelude.{ℕ, ◌+◌, List, [], ◌∷◌, ◌++◌, map, Option, Some, None}
use Rattle.std.specs.List.{flat_map}
use Rattle.plain_text.specs.Lookup.{lookup}
use Rattle.source_tree.specs.Scope.{Scope, Declared, variable, array, procedure, inside, with_declared, names_in}
use Rattle.source_tree.specs.declared.name.Name.{Name as SourceName}
use Rattle.source_tree.specs.declared.declaration.Declaration.{Declaration}
use Rattle.source_tree.specs.declared.declaration.Declaration.TheVariants.{Var, Array, Proc}
use Rattle.source_tree.specs.declared.declaration.Program.{Program}
use Rattle.source_tree.specs.declared.expression.Condition.{Condition}
use Rattle.source_tree.specs.declared.expression.Expr.{Expr, fold-Expr}
use Rattle.source_tree.specs.declared.expression.Expr.TheOpen.{Expr-F, Number, Name, Element, Neg, Binary}
use Rattle.source_tree.specs.declared.statement.Place.{Place}
use Rattle.source_tree.specs.declared.statement.Place.TheVariants as place
use Rattle.source_tree.specs.declared.statement.Statement.{Statement, fold-Statement}
use Rattle.source_tree.specs.declared.statement.Statement.TheOpen.{Statement-F, Assign, Print, Read, If, For, While, Call}

abbrev pub number_of : Declared → ℕ
number_of (variable k range) = k
number_of (array k len range) = k
number_of (procedure k params) = k

-- a use of what is declared; a name that isn't has no tie
abbrev pub tie : Option Declared → List ℕ
tie (Some declared) = number_of declared ∷ []
tie None = []

abbrev pub name_ties : SourceName → Scope → List ℕ
name_ties name scope = tie (lookup name.bytes scope)

-- ---- of what has a scope
abbrev pub Ties : Type 0
Ties = Scope → List ℕ

abbrev pub all_ties : List Ties → Ties
all_ties parts scope = flat_map (λ part. part scope) parts

-- ---- expressions
abbrev pub ties_of_expr_node : Expr-F Ties → Ties
ties_of_expr_node (Number value line) scope = []
ties_of_expr_node (Name name) scope = name_ties name scope
ties_of_expr_node (Element name index) scope = name_ties name scope ++ index scope
ties_of_expr_node (Neg operand line) scope = operand scope
ties_of_expr_node (Binary left operator right line) scope = left scope ++ right scope

abbrev pub expr_ties : Expr → Ties
expr_ties e = fold-Expr Ties ties_of_expr_node e

abbrev pub condition_ties : Condition → Ties
condition_ties condition scope = expr_ties condition.left scope ++ expr_ties condition.right scope

-- ---- statements
abbrev pub place_ties : Place → Ties
place_ties (place.Name name) scope = name_ties name scope
place_ties (place.Element name index) scope = name_ties name scope ++ expr_ties index scope

abbrev pub ties_of_node : Statement-F Ties → Ties
ties_of_node (Assign place value line) scope = place_ties place scope ++ expr_ties value scope
ties_of_node (Print value line) scope = expr_ties value scope
ties_of_node (Read place line) scope = place_ties place scope
ties_of_node (If condition first second line) scope = condition_ties condition scope ++ (all_ties first scope ++ all_ties second scope)
ties_of_node (For name first last body line) scope =
    name_ties name scope ++ (expr_ties first scope ++ (expr_ties last scope ++ all_ties body scope))
ties_of_node (While condition limit body line) scope = condition_ties condition scope ++ all_ties body scope
ties_of_node (Call name arguments line) scope = name_ties name scope ++ all_ties (map expr_ties arguments) scope

abbrev pub statement_ties : Statement → Ties
statement_ties s = fold-Statement Ties ties_of_node s

-- ---- declarations, by the number of the first name
abbrev pub declaration_ties : ℕ → Declaration → Ties
declaration_ties k (Var name range line) scope = []
declaration_ties k (Array name len range line) scope = []
declaration_ties k (Proc name params locals body line) scope = all_ties (map statement_ties body) (inside k params locals scope)

-- what is left of a source, after the declarations of the names below k
abbrev pub ties_of_rest : ℕ → List Declaration → List Statement → Ties
ties_of_rest k [] statements scope = all_ties (map statement_ties statements) scope
ties_of_rest k (d ∷ declarations) statements scope =
    declaration_ties k d scope ++ ties_of_rest (k + names_in d) declarations statements (with_declared k d scope)

abbrev pub ties_of : Program → List ℕ
ties_of program = ties_of_rest 0 program.declarations program.statements []
