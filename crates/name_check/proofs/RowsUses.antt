-- Worked rows of uses of names, computed from the rules.
use Rattle.std.specs.Prelude.{◌≡◌, pos, [], ◌∷◌, codes}
use Rattle.source_tree.specs.declared.declaration.Program.{Program}
use Rattle.source_tree.specs.declared.declaration.Declaration.TheVariants.{Var, Array, Proc}
use Rattle.source_tree.specs.declared.expression.Operator.TheVariants.{Add}
use Rattle.source_tree.specs.declared.expression.Comparison.TheVariants.{Less}
use Rattle.source_tree.specs.declared.expression.Expr.{Number, Name, Element, Neg, Binary}
use Rattle.source_tree.specs.declared.statement.Place.TheVariants.{Name as AtName, Element as AtElement}
use Rattle.source_tree.specs.declared.statement.Statement.{Assign, Print, Read, If, While}
use Rattle.source_tree.proofs.RowsBasis.{from_to, named}
use Rattle.name_check.specs.declared.fault.NameFault.TheVariants.{Unknown, WrongKind}
use Rattle.name_check.specs.Names.{name_faults}
use Rattle.name_check.specs.Ties.{ties_of}
use Rattle.source_tree.proofs.FoldEquations.{fold-Number, fold-Name, fold-Element, fold-Neg, fold-Binary, fold-Assign, fold-Print, fold-Read, fold-If, fold-While}

-- print x;
abbrev unknown_name : Program
unknown_name = record {
  declarations = [];
  statements =
      Print (Name (named (codes "x") 1)) 1 ∷ [];
}

pub unknown_name_breaks_a_rule : name_faults unknown_name ≡ (Unknown 1 ∷ [])
unknown_name_breaks_a_rule = rw (fold-Print, fold-Name)

-- var x: 0..9;
-- print x;
abbrev variable : Program
variable = record {
  declarations =
      Var (named (codes "x") 1) (from_to (pos 0) (pos 9)) 1 ∷ [];
  statements =
      Print (Name (named (codes "x") 2)) 2 ∷ [];
}

pub variable_keeps_the_rules : name_faults variable ≡ []
variable_keeps_the_rules = rw (fold-Print, fold-Name)

pub variable_is_tied : ties_of variable ≡ (0 ∷ [])
variable_is_tied = rw (fold-Print, fold-Name)

-- array a[2]: 0..9;
-- print a;
abbrev array_without_index : Program
array_without_index = record {
  declarations =
      Array (named (codes "a") 1) (pos 2) (from_to (pos 0) (pos 9)) 1 ∷ [];
  statements =
      Print (Name (named (codes "a") 2)) 2 ∷ [];
}

pub array_without_index_breaks_a_rule : name_faults array_without_index ≡ (WrongKind 2 ∷ [])
array_without_index_breaks_a_rule = rw (fold-Print, fold-Name)

-- proc p() do end
-- print p;
abbrev procedure_as_operand : Program
procedure_as_operand = record {
  declarations =
      Proc (named (codes "p") 1) [] [] [] 1 ∷ [];
  statements =
      Print (Name (named (codes "p") 2)) 2 ∷ [];
}

pub procedure_as_operand_breaks_a_rule : name_faults procedure_as_operand ≡ (WrongKind 2 ∷ [])
procedure_as_operand_breaks_a_rule = rw (fold-Print, fold-Name)

-- print a[0];
abbrev unknown_array : Program
unknown_array = record {
  declarations = [];
  statements =
      Print (Element (named (codes "a") 1) (Number (pos 0) 1)) 1 ∷ [];
}

pub unknown_array_breaks_a_rule : name_faults unknown_array ≡ (Unknown 1 ∷ [])
unknown_array_breaks_a_rule = rw (fold-Print, fold-Element, fold-Number)

-- var x: 0..9;
-- print x[0];
abbrev variable_with_index : Program
variable_with_index = record {
  declarations =
      Var (named (codes "x") 1) (from_to (pos 0) (pos 9)) 1 ∷ [];
  statements =
      Print (Element (named (codes "x") 2) (Number (pos 0) 2)) 2 ∷ [];
}

pub variable_with_index_breaks_a_rule : name_faults variable_with_index ≡ (WrongKind 2 ∷ [])
variable_with_index_breaks_a_rule = rw (fold-Print, fold-Element, fold-Number)

-- proc p() do end
-- print p[0];
abbrev procedure_with_index : Program
procedure_with_index = record {
  declarations =
      Proc (named (codes "p") 1) [] [] [] 1 ∷ [];
  statements =
      Print (Element (named (codes "p") 2) (Number (pos 0) 2)) 2 ∷ [];
}

pub procedure_with_index_breaks_a_rule : name_faults procedure_with_index ≡ (WrongKind 2 ∷ [])
procedure_with_index_breaks_a_rule = rw (fold-Print, fold-Element, fold-Number)

-- array a[2]: 0..9;
-- print a[a[1]];
abbrev element : Program
element = record {
  declarations =
      Array (named (codes "a") 1) (pos 2) (from_to (pos 0) (pos 9)) 1 ∷ [];
  statements =
      Print (Element (named (codes "a") 2) (Element (named (codes "a") 2) (Number (pos 1) 2))) 2 ∷ [];
}

pub element_keeps_the_rules : name_faults element ≡ []
element_keeps_the_rules = rw (fold-Print, fold-Element, fold-Element, fold-Number)

pub element_is_tied : ties_of element ≡ (0 ∷ 0 ∷ [])
element_is_tied = rw (fold-Print, fold-Element, fold-Element, fold-Number)

-- array a[2]: 0..9;
-- print a[
-- x];
abbrev unknown_in_index : Program
unknown_in_index = record {
  declarations =
      Array (named (codes "a") 1) (pos 2) (from_to (pos 0) (pos 9)) 1 ∷ [];
  statements =
      Print (Element (named (codes "a") 2) (Name (named (codes "x") 3))) 2 ∷ [];
}

pub unknown_in_index_breaks_a_rule : name_faults unknown_in_index ≡ (Unknown 3 ∷ [])
unknown_in_index_breaks_a_rule = rw (fold-Print, fold-Element, fold-Name)

-- array a[2]: 0..9;
-- print a[
-- a];
abbrev array_in_index : Program
array_in_index = record {
  declarations =
      Array (named (codes "a") 1) (pos 2) (from_to (pos 0) (pos 9)) 1 ∷ [];
  statements =
      Print (Element (named (codes "a") 2) (Name (named (codes "a") 3))) 2 ∷ [];
}

pub array_in_index_breaks_a_rule : name_faults array_in_index ≡ (WrongKind 3 ∷ [])
array_in_index_breaks_a_rule = rw (fold-Print, fold-Element, fold-Name)

-- print a[
-- x];
abbrev array_before_index : Program
array_before_index = record {
  declarations = [];
  statements =
      Print (Element (named (codes "a") 1) (Name (named (codes "x") 2))) 1 ∷ [];
}

pub array_before_index_breaks_rules : name_faults array_before_index ≡ (Unknown 1 ∷ Unknown 2 ∷ [])
array_before_index_breaks_rules = rw (fold-Print, fold-Element, fold-Name)

-- print -x +
-- y;
abbrev operands : Program
operands = record {
  declarations = [];
  statements =
      Print (Binary (Neg (Name (named (codes "x") 1)) 1) Add (Name (named (codes "y") 2)) 1) 1 ∷ [];
}

pub operands_breaks_rules : name_faults operands ≡ (Unknown 1 ∷ Unknown 2 ∷ [])
operands_breaks_rules = rw (fold-Print, fold-Binary, fold-Neg, fold-Name, fold-Name)

-- x := 1;
abbrev unknown_set : Program
unknown_set = record {
  declarations = [];
  statements =
      Assign (AtName (named (codes "x") 1)) (Number (pos 1) 1) 1 ∷ [];
}

pub unknown_set_breaks_a_rule : name_faults unknown_set ≡ (Unknown 1 ∷ [])
unknown_set_breaks_a_rule = rw (fold-Assign, fold-Number)

-- array a[2]: 0..9;
-- a := 1;
abbrev array_set : Program
array_set = record {
  declarations =
      Array (named (codes "a") 1) (pos 2) (from_to (pos 0) (pos 9)) 1 ∷ [];
  statements =
      Assign (AtName (named (codes "a") 2)) (Number (pos 1) 2) 2 ∷ [];
}

pub array_set_breaks_a_rule : name_faults array_set ≡ (WrongKind 2 ∷ [])
array_set_breaks_a_rule = rw (fold-Assign, fold-Number)

-- proc p() do end
-- p := 1;
abbrev procedure_set : Program
procedure_set = record {
  declarations =
      Proc (named (codes "p") 1) [] [] [] 1 ∷ [];
  statements =
      Assign (AtName (named (codes "p") 2)) (Number (pos 1) 2) 2 ∷ [];
}

pub procedure_set_breaks_a_rule : name_faults procedure_set ≡ (WrongKind 2 ∷ [])
procedure_set_breaks_a_rule = rw (fold-Assign, fold-Number)

-- var x: 0..9;
-- x[0] := 1;
abbrev variable_set_with_index : Program
variable_set_with_index = record {
  declarations =
      Var (named (codes "x") 1) (from_to (pos 0) (pos 9)) 1 ∷ [];
  statements =
      Assign (AtElement (named (codes "x") 2) (Number (pos 0) 2)) (Number (pos 1) 2) 2 ∷ [];
}

pub variable_set_with_index_breaks_a_rule : name_faults variable_set_with_index ≡ (WrongKind 2 ∷ [])
variable_set_with_index_breaks_a_rule = rw (fold-Assign, fold-Number, fold-Number)

-- x[
-- i] :=
-- y;
abbrev place_before_value : Program
place_before_value = record {
  declarations = [];
  statements =
      Assign (AtElement (named (codes "x") 1) (Name (named (codes "i") 2))) (Name (named (codes "y") 3)) 1 ∷ [];
}

pub place_before_value_breaks_rules : name_faults place_before_value ≡ (Unknown 1 ∷ Unknown 2 ∷ Unknown 3 ∷ [])
place_before_value_breaks_rules = rw (fold-Assign, fold-Name, fold-Name)

-- read x;
abbrev unknown_read : Program
unknown_read = record {
  declarations = [];
  statements =
      Read (AtName (named (codes "x") 1)) 1 ∷ [];
}

pub unknown_read_breaks_a_rule : name_faults unknown_read ≡ (Unknown 1 ∷ [])
unknown_read_breaks_a_rule = rw fold-Read

-- array a[2]: 0..9;
-- read a;
abbrev array_read : Program
array_read = record {
  declarations =
      Array (named (codes "a") 1) (pos 2) (from_to (pos 0) (pos 9)) 1 ∷ [];
  statements =
      Read (AtName (named (codes "a") 2)) 2 ∷ [];
}

pub array_read_breaks_a_rule : name_faults array_read ≡ (WrongKind 2 ∷ [])
array_read_breaks_a_rule = rw fold-Read

-- proc p() do end
-- read
-- p;
abbrev procedure_read : Program
procedure_read = record {
  declarations =
      Proc (named (codes "p") 1) [] [] [] 1 ∷ [];
  statements =
      Read (AtName (named (codes "p") 3)) 2 ∷ [];
}

pub procedure_read_breaks_a_rule : name_faults procedure_read ≡ (WrongKind 3 ∷ [])
procedure_read_breaks_a_rule = rw fold-Read

-- var i: 0..1;
-- array a[2]: 0..9;
-- read a[i];
abbrev element_read : Program
element_read = record {
  declarations =
      Var (named (codes "i") 1) (from_to (pos 0) (pos 1)) 1 ∷
      Array (named (codes "a") 2) (pos 2) (from_to (pos 0) (pos 9)) 2 ∷ [];
  statements =
      Read (AtElement (named (codes "a") 3) (Name (named (codes "i") 3))) 3 ∷ [];
}

pub element_read_keeps_the_rules : name_faults element_read ≡ []
element_read_keeps_the_rules = rw (fold-Read, fold-Name)

pub element_read_is_tied : ties_of element_read ≡ (1 ∷ 0 ∷ [])
element_read_is_tied = rw (fold-Read, fold-Name)

-- if a <
-- b then print c;
-- else print d; end
abbrev condition_before_branches : Program
condition_before_branches = record {
  declarations = [];
  statements =
      If (record { left = Name (named (codes "a") 1); comparison = Less; right = Name (named (codes "b") 2); line = 1 }) (Print (Name (named (codes "c") 2)) 2 ∷ []) (Print (Name (named (codes "d") 3)) 3 ∷ []) 1 ∷ [];
}

pub condition_before_branches_breaks_rules : name_faults condition_before_branches ≡ (Unknown 1 ∷ Unknown 2 ∷ Unknown 2 ∷ Unknown 3 ∷ [])
condition_before_branches_breaks_rules = rw (fold-If, fold-Name, fold-Name, fold-Print, fold-Name, fold-Print, fold-Name)

-- while a <
-- b limit 3 do
-- print c;
-- end
abbrev condition_of_a_loop : Program
condition_of_a_loop = record {
  declarations = [];
  statements =
      While (record { left = Name (named (codes "a") 1); comparison = Less; right = Name (named (codes "b") 2); line = 1 }) (pos 3) (Print (Name (named (codes "c") 3)) 3 ∷ []) 1 ∷ [];
}

pub condition_of_a_loop_breaks_rules : name_faults condition_of_a_loop ≡ (Unknown 1 ∷ Unknown 2 ∷ Unknown 3 ∷ [])
condition_of_a_loop_breaks_rules = rw (fold-While, fold-Name, fold-Name, fold-Print, fold-Name)
