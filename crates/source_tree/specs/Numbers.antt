-- The numbers that stand in a tree, and how many names it declares.
use Rattle.std.specs.Prelude.{ℕ, ℤ, List, [], ◌∷◌, ◌++◌, sum_by}
use Rattle.std.specs.List.{flat_map}
use Rattle.source_tree.specs.Scope.{names_in}
use Rattle.source_tree.specs.declared.expression.Condition.{Condition}
use Rattle.source_tree.specs.declared.expression.Expr.{Expr, fold-Expr}
use Rattle.source_tree.specs.declared.expression.Expr.TheOpen as expr
use Rattle.source_tree.specs.declared.statement.Place.{Place}
use Rattle.source_tree.specs.declared.statement.Place.TheVariants as place
use Rattle.source_tree.specs.declared.statement.Statement.{Statement, fold-Statement}
use Rattle.source_tree.specs.declared.statement.Statement.TheOpen as statement
use Rattle.source_tree.specs.declared.declaration.Declaration.{Declaration}
use Rattle.source_tree.specs.declared.declaration.Declaration.TheVariants as declaration
use Rattle.source_tree.specs.declared.declaration.Program.{Program}

-- ---- the numbers in text order: operands, limits and lengths of arrays; bounds of ranges are apart
abbrev pub numbers_of_node : expr.Expr-F (List ℤ) → List ℤ
numbers_of_node (expr.Number value line) = value ∷ []
numbers_of_node (expr.Name name) = []
numbers_of_node (expr.Element name index) = index
numbers_of_node (expr.Neg operand line) = operand
numbers_of_node (expr.Binary left operator right line) = left ++ right

abbrev pub expr_numbers : Expr → List ℤ
expr_numbers e = fold-Expr (List ℤ) numbers_of_node e

abbrev pub condition_numbers : Condition → List ℤ
condition_numbers condition = expr_numbers condition.left ++ expr_numbers condition.right

abbrev pub place_numbers : Place → List ℤ
place_numbers (place.Name name) = []
place_numbers (place.Element name index) = expr_numbers index

-- the numbers of each of some parts, one part after another
abbrev pub joined : List (List ℤ) → List ℤ
joined parts = flat_map (λ part. part) parts

abbrev pub numbers_of_statement_node : statement.Statement-F (List ℤ) → List ℤ
numbers_of_statement_node (statement.Assign target value line) = place_numbers target ++ expr_numbers value
numbers_of_statement_node (statement.Print value line) = expr_numbers value
numbers_of_statement_node (statement.Read target line) = place_numbers target
numbers_of_statement_node (statement.If condition first second line) = condition_numbers condition ++ joined first ++ joined second
numbers_of_statement_node (statement.For name first last body line) = expr_numbers first ++ expr_numbers last ++ joined body
numbers_of_statement_node (statement.While condition limit body line) = condition_numbers condition ++ limit ∷ joined body
numbers_of_statement_node (statement.Call name arguments line) = flat_map expr_numbers arguments

abbrev pub statement_numbers : Statement → List ℤ
statement_numbers s = fold-Statement (List ℤ) numbers_of_statement_node s

abbrev pub declaration_numbers : Declaration → List ℤ
declaration_numbers (declaration.Var name range line) = []
declaration_numbers (declaration.Array name len range line) = len ∷ []
declaration_numbers (declaration.Proc name params locals body line) = flat_map statement_numbers body

abbrev pub program_numbers : Program → List ℤ
program_numbers program = flat_map declaration_numbers program.declarations ++ flat_map statement_numbers program.statements

-- ---- the names that it declares
abbrev pub program_names : Program → ℕ
program_names program = sum_by names_in program.declarations
