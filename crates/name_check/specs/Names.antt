-- The rules of names: every break of one, in text order.
use Rattle.std.specs.Prelude.{ℕ, ◌+◌, pos, List, [], ◌∷◌, ◌++◌, map, length, Bool, true, false, not, ◌||◌, nat_eq, int_lt, Option, Some, None, if◌then◌else◌}
use Rattle.std.specs.Ordering.{int_eq}
use Rattle.plain_text.specs.Lookup.{lookup}
use Rattle.source_tree.specs.Scope.{Scope, Declared, variable, array, procedure, with_params, inside, with_declared, names_in}
use Rattle.source_tree.specs.declared.name.Name.{Name as SourceName}
use Rattle.source_tree.specs.declared.name.Range.{Range}
use Rattle.source_tree.specs.declared.declaration.Param.{Param}
use Rattle.source_tree.specs.declared.declaration.Local.{Local}
use Rattle.source_tree.specs.declared.declaration.Declaration.{Declaration}
use Rattle.source_tree.specs.declared.declaration.Declaration.TheVariants.{Var, Array, Proc}
use Rattle.source_tree.specs.declared.declaration.Program.{Program}
use Rattle.source_tree.specs.declared.expression.Condition.{Condition}
use Rattle.source_tree.specs.declared.expression.Expr.{Expr, fold-Expr}
use Rattle.source_tree.specs.declared.expression.Expr.TheOpen.{Expr-F, Number, Name, Element, Neg, Binary}
use Rattle.source_tree.specs.declared.statement.Place.{Place}
use Rattle.source_tree.specs.declared.statement.Place.TheVariants as place
use Rattle.source_tree.specs.declared.statement.Statement.{Statement, fold-Statement}
use Rattle.source_tree.specs.declared.statement.Statement.TheOpen.{Statement-F, Assign, Print, Read, If, For, While, Call}
use Rattle.name_check.specs.declared.fault.NameFault.{NameFault}
use Rattle.name_check.specs.declared.fault.NameFault.TheVariants.{Twice, TooMany, EmptyArray, BadRange, Unknown, WrongKind, LoopAssigned, Arity}

-- a fault, where a rule is broken
abbrev pub where_broken : Bool → NameFault → List NameFault
where_broken broken fault = if broken then fault ∷ [] else []

-- ---- uses
abbrev pub as_variable : Option Declared → ℕ → List NameFault
as_variable (Some (variable k range)) line = []
as_variable (Some (array k len range)) line = WrongKind line ∷ []
as_variable (Some (procedure k params)) line = WrongKind line ∷ []
as_variable None line = Unknown line ∷ []

abbrev pub as_array : Option Declared → ℕ → List NameFault
as_array (Some (array k len range)) line = []
as_array (Some (variable k range)) line = WrongKind line ∷ []
as_array (Some (procedure k params)) line = WrongKind line ∷ []
as_array None line = Unknown line ∷ []

-- a call with so many arguments
abbrev pub as_procedure : Option Declared → ℕ → ℕ → List NameFault
as_procedure (Some (procedure k params)) arguments line = where_broken (not (nat_eq arguments (length params))) (Arity line)
as_procedure (Some (variable k range)) arguments line = WrongKind line ∷ []
as_procedure (Some (array k len range)) arguments line = WrongKind line ∷ []
as_procedure None arguments line = Unknown line ∷ []

-- ---- expressions
abbrev pub faults_of_expr_node : Expr-F (Scope → List NameFault) → Scope → List NameFault
faults_of_expr_node (Number value line) scope = []
faults_of_expr_node (Name name) scope = as_variable (lookup name.bytes scope) name.line
faults_of_expr_node (Element name index) scope = as_array (lookup name.bytes scope) name.line ++ index scope
faults_of_expr_node (Neg operand line) scope = operand scope
faults_of_expr_node (Binary left operator right line) scope = left scope ++ right scope

abbrev pub expr_faults : Expr → Scope → List NameFault
expr_faults e = fold-Expr (Scope → List NameFault) faults_of_expr_node e

abbrev pub exprs_faults : List Expr → Scope → List NameFault
exprs_faults [] scope = []
exprs_faults (e ∷ es) scope = expr_faults e scope ++ exprs_faults es scope

abbrev pub condition_faults : Condition → Scope → List NameFault
condition_faults condition scope = expr_faults condition.left scope ++ expr_faults condition.right scope

-- ---- statements, with the numbers of the variables of the `for`s around them in the same body
abbrev pub Loops : Type 0
Loops = List ℕ

abbrev pub is_among : ℕ → Loops → Bool
is_among k [] = false
is_among k (j ∷ loops) = nat_eq j k || is_among k loops

abbrev pub as_assigned : Option Declared → ℕ → Loops → List NameFault
as_assigned (Some (variable k range)) line loops = where_broken (is_among k loops) (LoopAssigned line)
as_assigned (Some (array k len range)) line loops = WrongKind line ∷ []
as_assigned (Some (procedure k params)) line loops = WrongKind line ∷ []
as_assigned None line loops = Unknown line ∷ []

abbrev pub with_loop : Option Declared → Loops → Loops
with_loop (Some (variable k range)) loops = loops ++ k ∷ []
with_loop (Some (array k len range)) loops = loops
with_loop (Some (procedure k params)) loops = loops
with_loop None loops = loops

abbrev pub place_faults : Place → Scope → Loops → List NameFault
place_faults (place.Name name) scope loops = as_assigned (lookup name.bytes scope) name.line loops
place_faults (place.Element name index) scope loops = as_array (lookup name.bytes scope) name.line ++ expr_faults index scope

abbrev pub Faults : Type 0
Faults = Scope → Loops → List NameFault

abbrev pub all_faults : List Faults → Faults
all_faults [] scope loops = []
all_faults (first ∷ more) scope loops = first scope loops ++ all_faults more scope loops

abbrev pub faults_of_node : Statement-F Faults → Faults
faults_of_node (Assign place value line) scope loops = place_faults place scope loops ++ expr_faults value scope
faults_of_node (Print value line) scope loops = expr_faults value scope
faults_of_node (Read place line) scope loops = place_faults place scope loops
faults_of_node (If condition first second line) scope loops =
    condition_faults condition scope ++ (all_faults first scope loops ++ all_faults second scope loops)
faults_of_node (For name first last body line) scope loops =
    as_assigned (lookup name.bytes scope) name.line loops ++
    (expr_faults first scope ++ (expr_faults last scope ++ all_faults body scope (with_loop (lookup name.bytes scope) loops)))
faults_of_node (While condition limit body line) scope loops = condition_faults condition scope ++ all_faults body scope loops
faults_of_node (Call name arguments line) scope loops =
    as_procedure (lookup name.bytes scope) (length arguments) name.line ++ exprs_faults arguments scope

abbrev pub statement_faults : Statement → Faults
statement_faults s = fold-Statement Faults faults_of_node s

-- ---- declarations
abbrev pub is_declared : Option Declared → Bool
is_declared None = false
is_declared (Some declared) = true

abbrev pub as_new : SourceName → Scope → List NameFault
as_new name scope = where_broken (is_declared (lookup name.bytes scope)) (Twice name.line)

abbrev pub range_faults : Range → ℕ → List NameFault
range_faults range line = where_broken (int_lt range.high range.low) (BadRange line)

-- of parameters or locals, by their names and ranges
abbrev pub variables_faults : {A : Type 0} → (A → SourceName) → (A → Range) → ℕ → List A → Scope → List NameFault
variables_faults name range k [] scope = []
variables_faults name range k (x ∷ xs) scope =
    as_new (name x) scope ++
    (range_faults (range x) (name x).line ++ variables_faults name range (k + 1) xs (scope ++ ((name x).bytes, variable k (range x)) ∷ []))

abbrev pub params_faults : ℕ → List Param → Scope → List NameFault
params_faults k params scope = variables_faults (λ p. p.name) (λ p. p.range) k params scope

abbrev pub locals_faults : ℕ → List Local → Scope → List NameFault
locals_faults k locals scope = variables_faults (λ l. l.name) (λ l. l.range) k locals scope

-- how many procedures there may be
abbrev pub most_procedures : ℕ
most_procedures = 64

abbrev pub declaration_faults : ℕ → ℕ → Declaration → Scope → List NameFault
declaration_faults k procedures (Var name range line) scope = as_new name scope ++ range_faults range line
declaration_faults k procedures (Array name len range line) scope =
    as_new name scope ++ (where_broken (int_eq len (pos 0)) (EmptyArray name.line) ++ range_faults range line)
declaration_faults k procedures (Proc name params locals body line) scope =
    as_new name scope ++ (where_broken (nat_eq procedures most_procedures) (TooMany name.line) ++
    (params_faults (k + 1) params scope ++ (locals_faults (k + 1 + length params) locals (with_params (k + 1) params scope) ++
    all_faults (map statement_faults body) (inside k params locals scope) [])))

abbrev pub procedures_in : Declaration → ℕ
procedures_in (Var name range line) = 0
procedures_in (Array name len range line) = 0
procedures_in (Proc name params locals body line) = 1

-- what is left of a source, after the declarations of the names below k, which had so many procedures
abbrev pub faults_of_rest : ℕ → ℕ → List Declaration → List Statement → Scope → List NameFault
faults_of_rest k procedures [] statements scope = all_faults (map statement_faults statements) scope []
faults_of_rest k procedures (d ∷ declarations) statements scope =
    declaration_faults k procedures d scope ++
    faults_of_rest (k + names_in d) (procedures + procedures_in d) declarations statements (with_declared k d scope)

abbrev pub name_faults : Program → List NameFault
name_faults program = faults_of_rest 0 0 program.declarations program.statements []
