-- Worked rows of resolved trees.
--
-- var x: 0..9;
-- array t[3]: 1..5;
-- proc p(a: 1..5) var b: 4..9;
-- do
--   x := a + b;
-- end
-- p(t[2], x);
use Rattle.std.proofs.Common.{◌≡◌, ◌∙◌, refl, ap, ℕ, pos, List, [], ◌∷◌}
use Rattle.plain_text.specs.Lookup.{lookup}
use Rattle.source_tree.specs.Scope.{Scope, inside, with_all_declared}
use Rattle.source_tree.specs.declared.declaration.Declaration.{Declaration}
use Rattle.source_tree.specs.declared.declaration.Declaration.TheVariants.{Var, Array, Proc}
use Rattle.source_tree.specs.declared.declaration.Local.{Local}
use Rattle.source_tree.specs.declared.declaration.Param.{Param}
use Rattle.source_tree.specs.declared.declaration.Program.{Program}
use Rattle.source_tree.specs.declared.expression.Expr.{Expr}
use Rattle.source_tree.specs.declared.expression.Expr as source
use Rattle.source_tree.specs.declared.expression.Operator.TheVariants.{Add}
use Rattle.source_tree.specs.declared.name.Name.{Name}
use Rattle.source_tree.specs.declared.name.Range.{Range}
use Rattle.source_tree.specs.declared.statement.Place.TheVariants as place
use Rattle.source_tree.specs.declared.statement.Statement.{Statement}
use Rattle.source_tree.specs.declared.statement.Statement as statement
use Rattle.source_tree.proofs.RowsBasis.{from_to, named}
use Rattle.resolved_tree.specs.Resolution.{slot_at, resolved_expr, resolved_call, resolved_of, resolved_expr_node, resolved_node}
use Rattle.resolved_tree.specs.declared.slot.Slot.TheVariants as slot
use Rattle.resolved_tree.specs.declared.tree.Procedure.{Procedure}
use Rattle.resolved_tree.specs.declared.tree.Step.{Step, Assign, Call, Skip}
use Rattle.resolved_tree.specs.declared.tree.Target.TheVariants as target
use Rattle.resolved_tree.specs.declared.tree.Value.{Value, Number, Integer, Element, Binary}
use Rattle.source_tree.proofs.FoldEquations.{fold-Number, fold-Name, fold-Element, fold-Binary, fold-Assign, fold-Call}

abbrev x : ℕ → Name
x line = named (120 ∷ []) line

abbrev t : ℕ → Name
t line = named (116 ∷ []) line

abbrev p : ℕ → Name
p line = named (112 ∷ []) line

abbrev a : ℕ → Name
a line = named (97 ∷ []) line

abbrev b : ℕ → Name
b line = named (98 ∷ []) line

abbrev digits : Range
digits = from_to (pos 0) (pos 9)

abbrev few : Range
few = from_to (pos 1) (pos 5)

abbrev upper : Range
upper = from_to (pos 4) (pos 9)

abbrev sum : Statement
sum = statement.Assign (place.Name (x 5)) (source.Binary (source.Name (a 5)) Add (source.Name (b 5)) 5) 5

abbrev params : List Param
params = record { name = a 3; range = few } ∷ []

abbrev locals : List Local
locals = record { name = b 3; range = upper; line = 3 } ∷ []

abbrev declarations : List Declaration
declarations = Var (x 1) digits 1 ∷ (Array (t 2) (pos 3) few 2 ∷ (Proc (p 3) params locals (sum ∷ []) 3 ∷ []))

abbrev two_arguments : Statement
two_arguments = statement.Call (p 7) (source.Element (t 7) (source.Number (pos 2) 7) ∷ (source.Name (x 7) ∷ [])) 7

abbrev program : Program
program = record { declarations = declarations; statements = two_arguments ∷ [] }

-- x, t, p, a and b have the numbers from 0 to 4
pub slots_by_number : (resolved_of program).slots
    ≡ slot.Variable 0 digits ∷ (slot.Array 1 (pos 3) few ∷ (slot.Nothing ∷ (slot.Variable 3 few ∷ (slot.Variable 4 upper ∷ []))))
slots_by_number = refl

-- what is visible in the body of p, and after it
abbrev outside : Scope
outside = with_all_declared 0 (Var (x 1) digits 1 ∷ (Array (t 2) (pos 3) few 2 ∷ [])) []

abbrev within : Scope
within = inside 2 params locals outside

abbrev whole : Scope
whole = with_all_declared 0 declarations []

abbrev procedure_with : Step → List Procedure
procedure_with step = record { number = 2; params = 1; locals = pos 4 ∷ []; body = step ∷ [] } ∷ []

abbrev sum_with : Value → Step
sum_with v = Assign (target.Integer (slot.Variable 0 digits)) v 5

-- one parameter, a local that starts at 4, and numbers in the body
pub numbers_in_a_body : (resolved_of program).procedures
    ≡ procedure_with (sum_with (Binary (Integer (slot.Variable 3 few)) Add (Integer (slot.Variable 4 upper)) 5))
numbers_in_a_body =
    ap (λ (s : Scope → Step). procedure_with (s within)) (fold-Assign resolved_node (place.Name (x 5)) (source.Binary (source.Name (a 5)) Add (source.Name (b 5)) 5) 5)
    ∙ ap (λ (v : Scope → Value). procedure_with (sum_with (v within))) (fold-Binary resolved_expr_node (source.Name (a 5)) Add (source.Name (b 5)) 5)
    ∙ ap (λ (v : Scope → Value). procedure_with (sum_with (Binary (v within) Add (resolved_expr (source.Name (b 5)) within) 5))) (fold-Name resolved_expr_node (a 5))
    ∙ ap (λ (v : Scope → Value). procedure_with (sum_with (Binary (Integer (slot.Variable 3 few)) Add (v within) 5))) (fold-Name resolved_expr_node (b 5))

abbrev call_with : Value → List Step
call_with v = Call 2 (record { value = v; range = few } ∷ []) 7 ∷ []

-- an argument has the range of its parameter, and one without a parameter is left out
pub one_argument_for_one_parameter : (resolved_of program).steps ≡ call_with (Element (slot.Array 1 (pos 3) few) (Number (pos 2)) 7)
one_argument_for_one_parameter =
    ap (λ (s : Scope → Step). s whole ∷ []) (fold-Call resolved_node (p 7) (source.Element (t 7) (source.Number (pos 2) 7) ∷ (source.Name (x 7) ∷ [])) 7)
    ∙ ap (λ (v : Scope → Value). call_with (v whole)) (fold-Element resolved_expr_node (t 7) (source.Number (pos 2) 7))
    ∙ ap (λ (v : Scope → Value). call_with (Element (slot.Array 1 (pos 3) few) (v whole) 7)) (fold-Number resolved_expr_node (pos 2) 7)

-- ---- names that aren't what they are used for
-- p isn't visible in its own body, and a call of x does nothing
pub hidden_in_itself : resolved_call (lookup (p 5).bytes within) [] 5 within ≡ Skip
hidden_in_itself = refl

pub call_of_a_variable : resolved_call (lookup (x 5).bytes within) [] 5 within ≡ Skip
call_of_a_variable = refl

pub procedure_is_no_integer : slot_at (p 7) whole ≡ slot.Nothing
procedure_is_no_integer = refl

-- of two declarations of a name the first is meant
pub first_of_two : slot_at (x 3) (with_all_declared 0 (Var (x 1) digits 1 ∷ (Var (x 2) few 2 ∷ [])) []) ≡ slot.Variable 0 digits
first_of_two = refl
