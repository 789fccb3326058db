-- Worked rows of where names are visible, and of their numbers, computed from the rules.
use Rattle.std.specs.Prelude.{◌≡◌, pos, [], ◌∷◌, codes, refl}
use Rattle.source_tree.specs.declared.declaration.Program.{Program}
use Rattle.source_tree.specs.declared.declaration.Declaration.TheVariants.{Var, Array, Proc}
use Rattle.source_tree.specs.declared.expression.Expr.{Number, Name}
use Rattle.source_tree.specs.declared.statement.Place.TheVariants.{Name as AtName, Element as AtElement}
use Rattle.source_tree.specs.declared.statement.Statement.{Assign, Print, Call}
use Rattle.source_tree.proofs.RowsBasis.{from_to, named}
use Rattle.name_check.specs.declared.fault.NameFault.TheVariants.{Unknown}
use Rattle.name_check.specs.Names.{name_faults}
use Rattle.name_check.specs.Ties.{ties_of}
use Rattle.source_tree.proofs.FoldEquations.{fold-Number, fold-Name, fold-Assign, fold-Print, fold-Call}

-- proc p(p: 0..9) do print p; end
-- p(1);
abbrev parameter_named_as_its_procedure : Program
parameter_named_as_its_procedure = record {
  declarations =
      Proc (named (codes "p") 1) ((record { name = named (codes "p") 1; range = from_to (pos 0) (pos 9) }) ∷ []) [] (Print (Name (named (codes "p") 1)) 1 ∷ []) 1 ∷ [];
  statements =
      Call (named (codes "p") 2) ((Number (pos 1) 2) ∷ []) 2 ∷ [];
}

pub parameter_named_as_its_procedure_keeps_the_rules : name_faults parameter_named_as_its_procedure ≡ []
parameter_named_as_its_procedure_keeps_the_rules = rw (fold-Print, fold-Name, fold-Call, fold-Number)

pub parameter_named_as_its_procedure_is_tied : ties_of parameter_named_as_its_procedure ≡ (1 ∷ 0 ∷ [])
parameter_named_as_its_procedure_is_tied = rw (fold-Print, fold-Name, fold-Call, fold-Number)

-- proc p(x: 0..9) var y: 0..9; do end
-- proc q(y: 0..9) var x: 0..9; do end
-- var x: 0..9;
-- var y: 0..9;
abbrev names_free_after_their_procedure : Program
names_free_after_their_procedure = record {
  declarations =
      Proc (named (codes "p") 1) ((record { name = named (codes "x") 1; range = from_to (pos 0) (pos 9) }) ∷ []) ((record { name = named (codes "y") 1; range = from_to (pos 0) (pos 9); line = 1 }) ∷ []) [] 1 ∷
      Proc (named (codes "q") 2) ((record { name = named (codes "y") 2; range = from_to (pos 0) (pos 9) }) ∷ []) ((record { name = named (codes "x") 2; range = from_to (pos 0) (pos 9); line = 2 }) ∷ []) [] 2 ∷
      Var (named (codes "x") 3) (from_to (pos 0) (pos 9)) 3 ∷
      Var (named (codes "y") 4) (from_to (pos 0) (pos 9)) 4 ∷ [];
  statements = [];
}

pub names_free_after_their_procedure_keeps_the_rules : name_faults names_free_after_their_procedure ≡ []
names_free_after_their_procedure_keeps_the_rules = refl

pub names_free_after_their_procedure_is_tied : ties_of names_free_after_their_procedure ≡ []
names_free_after_their_procedure_is_tied = refl

-- proc p() var x: 0..9; do x := 1; end
-- print x;
abbrev local_outside : Program
local_outside = record {
  declarations =
      Proc (named (codes "p") 1) [] ((record { name = named (codes "x") 1; range = from_to (pos 0) (pos 9); line = 1 }) ∷ []) (Assign (AtName (named (codes "x") 1)) (Number (pos 1) 1) 1 ∷ []) 1 ∷ [];
  statements =
      Print (Name (named (codes "x") 2)) 2 ∷ [];
}

pub local_outside_breaks_a_rule : name_faults local_outside ≡ (Unknown 2 ∷ [])
local_outside_breaks_a_rule = rw (fold-Assign, fold-Number, fold-Print, fold-Name)

-- proc p(n: 0..9) do print n; end
-- n := 1;
abbrev parameter_outside : Program
parameter_outside = record {
  declarations =
      Proc (named (codes "p") 1) ((record { name = named (codes "n") 1; range = from_to (pos 0) (pos 9) }) ∷ []) [] (Print (Name (named (codes "n") 1)) 1 ∷ []) 1 ∷ [];
  statements =
      Assign (AtName (named (codes "n") 2)) (Number (pos 1) 2) 2 ∷ [];
}

pub parameter_outside_breaks_a_rule : name_faults parameter_outside ≡ (Unknown 2 ∷ [])
parameter_outside_breaks_a_rule = rw (fold-Print, fold-Name, fold-Assign, fold-Number)

-- proc p() var x: 0..9; do end
-- proc q() do
-- x := 1;
-- end
abbrev local_of_another_procedure : Program
local_of_another_procedure = record {
  declarations =
      Proc (named (codes "p") 1) [] ((record { name = named (codes "x") 1; range = from_to (pos 0) (pos 9); line = 1 }) ∷ []) [] 1 ∷
      Proc (named (codes "q") 2) [] [] (Assign (AtName (named (codes "x") 3)) (Number (pos 1) 3) 3 ∷ []) 2 ∷ [];
  statements = [];
}

pub local_of_another_procedure_breaks_a_rule : name_faults local_of_another_procedure ≡ (Unknown 3 ∷ [])
local_of_another_procedure_breaks_a_rule = rw (fold-Assign, fold-Number)

-- proc p() do
-- p();
-- end
abbrev procedure_in_its_own_body : Program
procedure_in_its_own_body = record {
  declarations =
      Proc (named (codes "p") 1) [] [] (Call (named (codes "p") 2) [] 2 ∷ []) 1 ∷ [];
  statements = [];
}

pub procedure_in_its_own_body_breaks_a_rule : name_faults procedure_in_its_own_body ≡ (Unknown 2 ∷ [])
procedure_in_its_own_body_breaks_a_rule = rw fold-Call

-- proc p() do
-- q();
-- end
-- proc q() do end
abbrev later_procedure : Program
later_procedure = record {
  declarations =
      Proc (named (codes "p") 1) [] [] (Call (named (codes "q") 2) [] 2 ∷ []) 1 ∷
      Proc (named (codes "q") 4) [] [] [] 4 ∷ [];
  statements = [];
}

pub later_procedure_breaks_a_rule : name_faults later_procedure ≡ (Unknown 2 ∷ [])
later_procedure_breaks_a_rule = rw fold-Call

-- proc p(m: 0..9) var n: 0..9; do end
-- proc q() do p(1); end
-- q();
abbrev earlier_procedure : Program
earlier_procedure = record {
  declarations =
      Proc (named (codes "p") 1) ((record { name = named (codes "m") 1; range = from_to (pos 0) (pos 9) }) ∷ []) ((record { name = named (codes "n") 1; range = from_to (pos 0) (pos 9); line = 1 }) ∷ []) [] 1 ∷
      Proc (named (codes "q") 2) [] [] (Call (named (codes "p") 2) ((Number (pos 1) 2) ∷ []) 2 ∷ []) 2 ∷ [];
  statements =
      Call (named (codes "q") 3) [] 3 ∷ [];
}

pub earlier_procedure_keeps_the_rules : name_faults earlier_procedure ≡ []
earlier_procedure_keeps_the_rules = rw (fold-Call, fold-Number, fold-Call)

pub earlier_procedure_is_tied : ties_of earlier_procedure ≡ (0 ∷ 3 ∷ [])
earlier_procedure_is_tied = rw (fold-Call, fold-Number, fold-Call)

-- proc p() do
-- x := 1;
-- end
-- var x: 0..9;
abbrev later_variable : Program
later_variable = record {
  declarations =
      Proc (named (codes "p") 1) [] [] (Assign (AtName (named (codes "x") 2)) (Number (pos 1) 2) 2 ∷ []) 1 ∷
      Var (named (codes "x") 4) (from_to (pos 0) (pos 9)) 4 ∷ [];
  statements = [];
}

pub later_variable_breaks_a_rule : name_faults later_variable ≡ (Unknown 2 ∷ [])
later_variable_breaks_a_rule = rw (fold-Assign, fold-Number)

-- var a: 0..9;
-- proc p(b: 0..9) var c: 0..9; do c := b; end
-- array d[2]: 0..9;
-- proc q() var e: 0..9; do e := a; p(e); end
-- d[a] := 1;
-- q();
abbrev numbers_in_text_order : Program
numbers_in_text_order = record {
  declarations =
      Var (named (codes "a") 1) (from_to (pos 0) (pos 9)) 1 ∷
      Proc (named (codes "p") 2) ((record { name = named (codes "b") 2; range = from_to (pos 0) (pos 9) }) ∷ []) ((record { name = named (codes "c") 2; range = from_to (pos 0) (pos 9); line = 2 }) ∷ []) (Assign (AtName (named (codes "c") 2)) (Name (named (codes "b") 2)) 2 ∷ []) 2 ∷
      Array (named (codes "d") 3) (pos 2) (from_to (pos 0) (pos 9)) 3 ∷
      Proc (named (codes "q") 4) [] ((record { name = named (codes "e") 4; range = from_to (pos 0) (pos 9); line = 4 }) ∷ []) (Assign (AtName (named (codes "e") 4)) (Name (named (codes "a") 4)) 4 ∷ Call (named (codes "p") 4) ((Name (named (codes "e") 4)) ∷ []) 4 ∷ []) 4 ∷ [];
  statements =
      Assign (AtElement (named (codes "d") 5) (Name (named (codes "a") 5))) (Number (pos 1) 5) 5 ∷
      Call (named (codes "q") 6) [] 6 ∷ [];
}

pub numbers_in_text_order_keeps_the_rules : name_faults numbers_in_text_order ≡ []
numbers_in_text_order_keeps_the_rules = rw (fold-Assign, fold-Name, fold-Assign, fold-Name, fold-Call, fold-Name, fold-Assign, fold-Name, fold-Number, fold-Call)

pub numbers_in_text_order_is_tied : ties_of numbers_in_text_order ≡ (3 ∷ 2 ∷ 6 ∷ 0 ∷ 1 ∷ 6 ∷ 4 ∷ 0 ∷ 5 ∷ [])
numbers_in_text_order_is_tied = rw (fold-Assign, fold-Name, fold-Assign, fold-Name, fold-Call, fold-Name, fold-Assign, fold-Name, fold-Number, fold-Call)
