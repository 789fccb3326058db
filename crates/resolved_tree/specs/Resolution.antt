-- The resolved tree of a source: each name as what it stands for where it is used.
use Rattle.std.specs.Prelude.{ℕ, ◌+◌, List, [], ◌∷◌, ◌++◌, length, map, Option, Some, None}
use Rattle.plain_text.specs.Lookup.{lookup}
use Rattle.source_tree.specs.Scope.{Scope, Declared, variable, array, procedure, inside, with_declared, names_in, with_all_declared}
use Rattle.source_tree.specs.Meaning.{start_of}
use Rattle.source_tree.specs.Fits.{declared_by}
use Rattle.source_tree.specs.declared.name.Name.{Name as SourceName}
use Rattle.source_tree.specs.declared.name.Range.{Range}
use Rattle.source_tree.specs.declared.declaration.Declaration.{Declaration}
use Rattle.source_tree.specs.declared.declaration.Declaration.TheVariants.{Var, Array, Proc}
use Rattle.source_tree.specs.declared.declaration.Local.{Local}
use Rattle.source_tree.specs.declared.declaration.Param.{Param}
use Rattle.source_tree.specs.declared.declaration.Program.{Program}
use Rattle.source_tree.specs.declared.expression.Condition.{Condition}
use Rattle.source_tree.specs.declared.expression.Expr.{Expr, fold-Expr}
use Rattle.source_tree.specs.declared.expression.Expr.TheOpen as expr
use Rattle.source_tree.specs.declared.statement.Place.{Place}
use Rattle.source_tree.specs.declared.statement.Place.TheVariants as place
use Rattle.source_tree.specs.declared.statement.Statement.{Statement, fold-Statement}
use Rattle.source_tree.specs.declared.statement.Statement.TheOpen as statement
use Rattle.resolved_tree.specs.Slots.{slot_of, slots_of}
use Rattle.resolved_tree.specs.declared.slot.Slot.{Slot}
use Rattle.resolved_tree.specs.declared.tree.Argument.{Argument}
use Rattle.resolved_tree.specs.declared.tree.Procedure.{Procedure}
use Rattle.resolved_tree.specs.declared.tree.Resolved.{Resolved}
use Rattle.resolved_tree.specs.declared.tree.Step.{Step, Assign, Print, Read, If, For, While, Call, Skip}
use Rattle.resolved_tree.specs.declared.tree.Target.{Target}
use Rattle.resolved_tree.specs.declared.tree.Target.TheVariants as target
use Rattle.resolved_tree.specs.declared.tree.Test.{Test}
use Rattle.resolved_tree.specs.declared.tree.Value.{Value, Number, Integer, Element, Neg, Binary}

abbrev pub slot_at : SourceName → Scope → Slot
slot_at name scope = slot_of (lookup name.bytes scope)

-- ---- expressions
abbrev pub resolved_expr_node : expr.Expr-F (Scope → Value) → Scope → Value
resolved_expr_node (expr.Number n line) scope = Number n
resolved_expr_node (expr.Name name) scope = Integer (slot_at name scope)
resolved_expr_node (expr.Element name index) scope = Element (slot_at name scope) (index scope) name.line
resolved_expr_node (expr.Neg operand line) scope = Neg (operand scope)
resolved_expr_node (expr.Binary left operator right line) scope = Binary (left scope) operator (right scope) line

abbrev pub resolved_expr : Expr → Scope → Value
resolved_expr e = fold-Expr (Scope → Value) resolved_expr_node e

abbrev pub resolved_condition : Condition → Scope → Test
resolved_condition condition scope = record {
  left = resolved_expr condition.left scope;
  comparison = condition.comparison;
  right = resolved_expr condition.right scope;
}

abbrev pub resolved_place : Place → Scope → Target
resolved_place (place.Name name) scope = target.Integer (slot_at name scope)
resolved_place (place.Element name index) scope = target.Element (slot_at name scope) (resolved_expr index scope) name.line

-- ---- statements
-- arguments with the ranges of their parameters; what has no parameter is left out
abbrev pub resolved_arguments : List Expr → List Range → Scope → List Argument
resolved_arguments [] params scope = []
resolved_arguments (e ∷ arguments) [] scope = []
resolved_arguments (e ∷ arguments) (range ∷ params) scope =
    record { value = resolved_expr e scope; range = range } ∷ resolved_arguments arguments params scope

abbrev pub resolved_call : Option Declared → List Expr → ℕ → Scope → Step
resolved_call (Some (procedure k params)) arguments line scope = Call k (resolved_arguments arguments params scope) line
resolved_call (Some (variable k range)) arguments line scope = Skip
resolved_call (Some (array k len range)) arguments line scope = Skip
resolved_call None arguments line scope = Skip

abbrev pub all_resolved : List (Scope → Step) → Scope → List Step
all_resolved parts scope = map (λ part. part scope) parts

abbrev pub resolved_node : statement.Statement-F (Scope → Step) → Scope → Step
resolved_node (statement.Assign target value line) scope = Assign (resolved_place target scope) (resolved_expr value scope) line
resolved_node (statement.Print value line) scope = Print (resolved_expr value scope)
resolved_node (statement.Read target line) scope = Read (resolved_place target scope) line
resolved_node (statement.If condition first second line) scope =
    If (resolved_condition condition scope) (all_resolved first scope) (all_resolved second scope)
resolved_node (statement.For name first last body line) scope =
    For (slot_at name scope) (resolved_expr first scope) (resolved_expr last scope) (all_resolved body scope) line
resolved_node (statement.While condition limit body line) scope =
    While (resolved_condition condition scope) limit (all_resolved body scope) line
resolved_node (statement.Call name arguments line) scope = resolved_call (lookup name.bytes scope) arguments line scope

abbrev pub resolved_statement : Statement → Scope → Step
resolved_statement s = fold-Statement (Scope → Step) resolved_node s

abbrev pub resolved_statements : List Statement → Scope → List Step
resolved_statements statements scope = map (λ s. resolved_statement s scope) statements

-- ---- declarations, from number k on
abbrev pub resolved_procedure : ℕ → List Param → List Local → List Statement → Scope → Procedure
resolved_procedure k params locals body scope = record {
  number = k;
  params = length params;
  locals = map (λ l. start_of l.range) locals;
  body = resolved_statements body (inside k params locals scope);
}

abbrev pub procedures_of : ℕ → Declaration → Scope → List Procedure
procedures_of k (Var name range line) scope = []
procedures_of k (Array name len range line) scope = []
procedures_of k (Proc name params locals body line) scope = resolved_procedure k params locals body scope ∷ []

abbrev pub all_procedures_of : ℕ → List Declaration → Scope → List Procedure
all_procedures_of k [] scope = []
all_procedures_of k (d ∷ declarations) scope =
    procedures_of k d scope ++ all_procedures_of (k + names_in d) declarations (with_declared k d scope)

abbrev pub resolved_of : Program → Resolved
resolved_of program = record {
  slots = slots_of (declared_by program);
  procedures = all_procedures_of 0 program.declarations [];
  steps = resolved_statements program.statements (with_all_declared 0 program.declarations []);
}
