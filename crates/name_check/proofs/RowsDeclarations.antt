-- Worked rows of declarations, computed from the rules.
use Rattle.std.specs.Prelude.{ℕ, zero, suc, ◌+◌, List, ◌++◌, ◌≡◌, pos, [], ◌∷◌, codes, neg_ℤ, refl}
use Rattle.source_tree.specs.declared.declaration.Program.{Program}
use Rattle.source_tree.specs.declared.declaration.Declaration.{Declaration}
use Rattle.source_tree.specs.declared.declaration.Declaration.TheVariants.{Var, Array, Proc}
use Rattle.source_tree.specs.declared.expression.Expr.{Name}
use Rattle.source_tree.specs.declared.statement.Statement.{Print, Call}
use Rattle.source_tree.proofs.RowsBasis.{from_to, named}
use Rattle.name_check.specs.declared.fault.NameFault.TheVariants.{BadRange, EmptyArray, TooMany, Twice, Unknown}
use Rattle.name_check.specs.Names.{name_faults}
use Rattle.name_check.specs.Ties.{ties_of}
use Rattle.source_tree.proofs.FoldEquations.{fold-Name, fold-Print, fold-Call}

-- var x: 0..9;
-- var
-- x: 0..9;
abbrev twice_a_variable : Program
twice_a_variable = record {
  declarations =
      Var (named (codes "x") 1) (from_to (pos 0) (pos 9)) 1 ∷
      Var (named (codes "x") 3) (from_to (pos 0) (pos 9)) 2 ∷ [];
  statements = [];
}

pub twice_a_variable_breaks_a_rule : name_faults twice_a_variable ≡ (Twice 3 ∷ [])
twice_a_variable_breaks_a_rule = refl

-- array x[2]: 0..9;
-- array x[2]: 0..9;
abbrev twice_an_array : Program
twice_an_array = record {
  declarations =
      Array (named (codes "x") 1) (pos 2) (from_to (pos 0) (pos 9)) 1 ∷
      Array (named (codes "x") 2) (pos 2) (from_to (pos 0) (pos 9)) 2 ∷ [];
  statements = [];
}

pub twice_an_array_breaks_a_rule : name_faults twice_an_array ≡ (Twice 2 ∷ [])
twice_an_array_breaks_a_rule = refl

-- var p: 0..9;
-- proc p(
-- p: 0..9) do
-- q();
-- end
abbrev twice_at_a_heading : Program
twice_at_a_heading = record {
  declarations =
      Var (named (codes "p") 1) (from_to (pos 0) (pos 9)) 1 ∷
      Proc (named (codes "p") 2) ((record { name = named (codes "p") 3; range = from_to (pos 0) (pos 9) }) ∷ []) [] (Call (named (codes "q") 4) [] 4 ∷ []) 2 ∷ [];
  statements = [];
}

pub twice_at_a_heading_breaks_rules : name_faults twice_at_a_heading ≡ (Twice 2 ∷ Twice 3 ∷ Unknown 4 ∷ [])
twice_at_a_heading_breaks_rules = rw fold-Call

-- proc p(n: 0..9,
-- n: 0..9) do end
abbrev twice_a_parameter : Program
twice_a_parameter = record {
  declarations =
      Proc (named (codes "p") 1) ((record { name = named (codes "n") 1; range = from_to (pos 0) (pos 9) }) ∷ (record { name = named (codes "n") 2; range = from_to (pos 0) (pos 9) }) ∷ []) [] [] 1 ∷ [];
  statements = [];
}

pub twice_a_parameter_breaks_a_rule : name_faults twice_a_parameter ≡ (Twice 2 ∷ [])
twice_a_parameter_breaks_a_rule = refl

-- var x: 0..9;
-- proc p(
-- x: 0..9) do end
abbrev parameter_named_as_a_variable : Program
parameter_named_as_a_variable = record {
  declarations =
      Var (named (codes "x") 1) (from_to (pos 0) (pos 9)) 1 ∷
      Proc (named (codes "p") 2) ((record { name = named (codes "x") 3; range = from_to (pos 0) (pos 9) }) ∷ []) [] [] 2 ∷ [];
  statements = [];
}

pub parameter_named_as_a_variable_breaks_a_rule : name_faults parameter_named_as_a_variable ≡ (Twice 3 ∷ [])
parameter_named_as_a_variable_breaks_a_rule = refl

-- proc p(n: 0..9)
-- var
-- n: 0..9; do end
abbrev local_named_as_a_parameter : Program
local_named_as_a_parameter = record {
  declarations =
      Proc (named (codes "p") 1) ((record { name = named (codes "n") 1; range = from_to (pos 0) (pos 9) }) ∷ []) ((record { name = named (codes "n") 3; range = from_to (pos 0) (pos 9); line = 2 }) ∷ []) [] 1 ∷ [];
  statements = [];
}

pub local_named_as_a_parameter_breaks_a_rule : name_faults local_named_as_a_parameter ≡ (Twice 3 ∷ [])
local_named_as_a_parameter_breaks_a_rule = refl

-- proc p() var x: 0..9;
-- var x: 0..9; do end
abbrev twice_a_local : Program
twice_a_local = record {
  declarations =
      Proc (named (codes "p") 1) [] ((record { name = named (codes "x") 1; range = from_to (pos 0) (pos 9); line = 1 }) ∷ (record { name = named (codes "x") 2; range = from_to (pos 0) (pos 9); line = 2 }) ∷ []) [] 1 ∷ [];
  statements = [];
}

pub twice_a_local_breaks_a_rule : name_faults twice_a_local ≡ (Twice 2 ∷ [])
twice_a_local_breaks_a_rule = refl

-- var
-- x: 1..0;
abbrev variable_with_an_empty_range : Program
variable_with_an_empty_range = record {
  declarations =
      Var (named (codes "x") 2) (from_to (pos 1) (pos 0)) 1 ∷ [];
  statements = [];
}

pub variable_with_an_empty_range_breaks_a_rule : name_faults variable_with_an_empty_range ≡ (BadRange 1 ∷ [])
variable_with_an_empty_range_breaks_a_rule = refl

-- var x: 5..5;
abbrev range_of_one_integer : Program
range_of_one_integer = record {
  declarations =
      Var (named (codes "x") 1) (from_to (pos 5) (pos 5)) 1 ∷ [];
  statements = [];
}

pub range_of_one_integer_keeps_the_rules : name_faults range_of_one_integer ≡ []
range_of_one_integer_keeps_the_rules = refl

pub range_of_one_integer_is_tied : ties_of range_of_one_integer ≡ []
range_of_one_integer_is_tied = refl

-- var x: -1..-2;
abbrev range_below_zero : Program
range_below_zero = record {
  declarations =
      Var (named (codes "x") 1) (from_to (neg_ℤ (pos 1)) (neg_ℤ (pos 2))) 1 ∷ [];
  statements = [];
}

pub range_below_zero_breaks_a_rule : name_faults range_below_zero ≡ (BadRange 1 ∷ [])
range_below_zero_breaks_a_rule = refl

-- proc p(m: 0..9,
-- n: 1..0) do end
abbrev parameter_with_an_empty_range : Program
parameter_with_an_empty_range = record {
  declarations =
      Proc (named (codes "p") 1) ((record { name = named (codes "m") 1; range = from_to (pos 0) (pos 9) }) ∷ (record { name = named (codes "n") 2; range = from_to (pos 1) (pos 0) }) ∷ []) [] [] 1 ∷ [];
  statements = [];
}

pub parameter_with_an_empty_range_breaks_a_rule : name_faults parameter_with_an_empty_range ≡ (BadRange 2 ∷ [])
parameter_with_an_empty_range_breaks_a_rule = refl

-- proc p()
-- var
-- x: 1..0; do end
abbrev local_with_an_empty_range : Program
local_with_an_empty_range = record {
  declarations =
      Proc (named (codes "p") 1) [] ((record { name = named (codes "x") 3; range = from_to (pos 1) (pos 0); line = 2 }) ∷ []) [] 1 ∷ [];
  statements = [];
}

pub local_with_an_empty_range_breaks_a_rule : name_faults local_with_an_empty_range ≡ (BadRange 3 ∷ [])
local_with_an_empty_range_breaks_a_rule = refl

-- array
-- a[0]: 0..9;
abbrev array_without_an_element : Program
array_without_an_element = record {
  declarations =
      Array (named (codes "a") 2) (pos 0) (from_to (pos 0) (pos 9)) 1 ∷ [];
  statements = [];
}

pub array_without_an_element_breaks_a_rule : name_faults array_without_an_element ≡ (EmptyArray 2 ∷ [])
array_without_an_element_breaks_a_rule = refl

-- array a[1]: 0..9;
abbrev array_of_one_element : Program
array_of_one_element = record {
  declarations =
      Array (named (codes "a") 1) (pos 1) (from_to (pos 0) (pos 9)) 1 ∷ [];
  statements = [];
}

pub array_of_one_element_keeps_the_rules : name_faults array_of_one_element ≡ []
array_of_one_element_keeps_the_rules = refl

pub array_of_one_element_is_tied : ties_of array_of_one_element ≡ []
array_of_one_element_is_tied = refl

-- var a: 0..9;
-- array
-- a[0]: 1..0;
abbrev array_with_three_faults : Program
array_with_three_faults = record {
  declarations =
      Var (named (codes "a") 1) (from_to (pos 0) (pos 9)) 1 ∷
      Array (named (codes "a") 3) (pos 0) (from_to (pos 1) (pos 0)) 2 ∷ [];
  statements = [];
}

pub array_with_three_faults_breaks_rules : name_faults array_with_three_faults ≡ (Twice 3 ∷ EmptyArray 3 ∷ BadRange 2 ∷ [])
array_with_three_faults_breaks_rules = refl

-- var x: 1..0;
-- print y;
abbrev first_fault_in_text_order : Program
first_fault_in_text_order = record {
  declarations =
      Var (named (codes "x") 1) (from_to (pos 1) (pos 0)) 1 ∷ [];
  statements =
      Print (Name (named (codes "y") 2)) 2 ∷ [];
}

pub first_fault_in_text_order_breaks_rules : name_faults first_fault_in_text_order ≡ (BadRange 1 ∷ Unknown 2 ∷ [])
first_fault_in_text_order_breaks_rules = rw (fold-Print, fold-Name)

-- ---- procedures p0, p1, ... each in a line of its own, from a line on
abbrev procedures : ℕ → ℕ → List Declaration
procedures zero line = []
procedures (suc n) line = Proc (named (112 ∷ line ∷ []) line) [] [] [] line ∷ procedures n (line + 1)

abbrev only : List Declaration → Program
only declarations = record { declarations = declarations; statements = [] }

pub sixty_four_procedures_keep_the_rules : name_faults (only (procedures 64 1)) ≡ []
sixty_four_procedures_keep_the_rules = refl

pub sixty_six_procedures_break_rules : name_faults (only (procedures 66 1)) ≡ (TooMany 65 ∷ [])
sixty_six_procedures_break_rules = refl

-- the 65th has the name of the first
pub twice_before_too_many : name_faults (only (procedures 64 1 ++ Proc (named (112 ∷ 1 ∷ []) 65) [] [] [] 66 ∷ [])) ≡ (Twice 65 ∷ TooMany 65 ∷ [])
twice_before_too_many = refl
