-- Worked rows of calls, computed from the rules.
use Rattle.std.specs.Prelude.{◌≡◌, pos, [], ◌∷◌, codes}
use Rattle.source_tree.specs.declared.declaration.Program.{Program}
use Rattle.source_tree.specs.declared.declaration.Declaration.TheVariants.{Var, Array, Proc}
use Rattle.source_tree.specs.declared.expression.Operator.TheVariants.{Add}
use Rattle.source_tree.specs.declared.expression.Expr.{Number, Name, Binary}
use Rattle.source_tree.specs.declared.statement.Statement.{Call}
use Rattle.source_tree.proofs.RowsBasis.{from_to, named}
use Rattle.name_check.specs.declared.fault.NameFault.TheVariants.{Arity, Unknown, WrongKind}
use Rattle.name_check.specs.Names.{name_faults}
use Rattle.name_check.specs.Ties.{ties_of}
use Rattle.source_tree.proofs.FoldEquations.{fold-Number, fold-Name, fold-Binary, fold-Call}

-- f();
abbrev unknown_called : Program
unknown_called = record {
  declarations = [];
  statements =
      Call (named (codes "f") 1) [] 1 ∷ [];
}

pub unknown_called_breaks_a_rule : name_faults unknown_called ≡ (Unknown 1 ∷ [])
unknown_called_breaks_a_rule = rw fold-Call

-- var f: 0..9;
-- f();
abbrev variable_called : Program
variable_called = record {
  declarations =
      Var (named (codes "f") 1) (from_to (pos 0) (pos 9)) 1 ∷ [];
  statements =
      Call (named (codes "f") 2) [] 2 ∷ [];
}

pub variable_called_breaks_a_rule : name_faults variable_called ≡ (WrongKind 2 ∷ [])
variable_called_breaks_a_rule = rw fold-Call

-- array f[2]: 0..9;
-- f(1);
abbrev array_called : Program
array_called = record {
  declarations =
      Array (named (codes "f") 1) (pos 2) (from_to (pos 0) (pos 9)) 1 ∷ [];
  statements =
      Call (named (codes "f") 2) ((Number (pos 1) 2) ∷ []) 2 ∷ [];
}

pub array_called_breaks_a_rule : name_faults array_called ≡ (WrongKind 2 ∷ [])
array_called_breaks_a_rule = rw (fold-Call, fold-Number)

-- proc p() do end
-- p(1);
abbrev one_argument_too_many : Program
one_argument_too_many = record {
  declarations =
      Proc (named (codes "p") 1) [] [] [] 1 ∷ [];
  statements =
      Call (named (codes "p") 2) ((Number (pos 1) 2) ∷ []) 2 ∷ [];
}

pub one_argument_too_many_breaks_a_rule : name_faults one_argument_too_many ≡ (Arity 2 ∷ [])
one_argument_too_many_breaks_a_rule = rw (fold-Call, fold-Number)

-- proc p(m: 0..9, n: 0..9) do end
-- p(1);
abbrev one_argument_too_few : Program
one_argument_too_few = record {
  declarations =
      Proc (named (codes "p") 1) ((record { name = named (codes "m") 1; range = from_to (pos 0) (pos 9) }) ∷ (record { name = named (codes "n") 1; range = from_to (pos 0) (pos 9) }) ∷ []) [] [] 1 ∷ [];
  statements =
      Call (named (codes "p") 2) ((Number (pos 1) 2) ∷ []) 2 ∷ [];
}

pub one_argument_too_few_breaks_a_rule : name_faults one_argument_too_few ≡ (Arity 2 ∷ [])
one_argument_too_few_breaks_a_rule = rw (fold-Call, fold-Number)

-- proc p(n: 0..9) do end
-- p(
-- x, 1);
abbrev arity_before_arguments : Program
arity_before_arguments = record {
  declarations =
      Proc (named (codes "p") 1) ((record { name = named (codes "n") 1; range = from_to (pos 0) (pos 9) }) ∷ []) [] [] 1 ∷ [];
  statements =
      Call (named (codes "p") 2) ((Name (named (codes "x") 3)) ∷ (Number (pos 1) 3) ∷ []) 2 ∷ [];
}

pub arity_before_arguments_breaks_rules : name_faults arity_before_arguments ≡ (Arity 2 ∷ Unknown 3 ∷ [])
arity_before_arguments_breaks_rules = rw (fold-Call, fold-Name, fold-Number)

-- var x: 0..9;
-- proc p(m: 0..9, n: 0..9) do end
-- p(x, x + 1);
abbrev arguments : Program
arguments = record {
  declarations =
      Var (named (codes "x") 1) (from_to (pos 0) (pos 9)) 1 ∷
      Proc (named (codes "p") 2) ((record { name = named (codes "m") 2; range = from_to (pos 0) (pos 9) }) ∷ (record { name = named (codes "n") 2; range = from_to (pos 0) (pos 9) }) ∷ []) [] [] 2 ∷ [];
  statements =
      Call (named (codes "p") 3) ((Name (named (codes "x") 3)) ∷ (Binary (Name (named (codes "x") 3)) Add (Number (pos 1) 3) 3) ∷ []) 3 ∷ [];
}

pub arguments_keeps_the_rules : name_faults arguments ≡ []
arguments_keeps_the_rules = rw (fold-Call, fold-Name, fold-Binary, fold-Name, fold-Number)

pub arguments_is_tied : ties_of arguments ≡ (1 ∷ 0 ∷ 0 ∷ [])
arguments_is_tied = rw (fold-Call, fold-Name, fold-Binary, fold-Name, fold-Number)
