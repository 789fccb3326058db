-- Worked rows of variables of loops, computed from the rules.
use Rattle.std.specs.Prelude.{◌≡◌, pos, [], ◌∷◌, codes}
use Rattle.source_tree.specs.declared.declaration.Program.{Program}
use Rattle.source_tree.specs.declared.declaration.Declaration.TheVariants.{Var, Array, Proc}
use Rattle.source_tree.specs.declared.expression.Comparison.TheVariants.{Less}
use Rattle.source_tree.specs.declared.expression.Expr.{Number, Name}
use Rattle.source_tree.specs.declared.statement.Place.TheVariants.{Name as AtName, Element as AtElement}
use Rattle.source_tree.specs.declared.statement.Statement.{Assign, Print, Read, If, For, While, Call}
use Rattle.source_tree.proofs.RowsBasis.{from_to, named}
use Rattle.name_check.specs.declared.fault.NameFault.TheVariants.{LoopAssigned, Unknown, WrongKind}
use Rattle.name_check.specs.Names.{name_faults}
use Rattle.name_check.specs.Ties.{ties_of}
use Rattle.source_tree.proofs.FoldEquations.{fold-Number, fold-Name, fold-Assign, fold-Print, fold-Read, fold-If, fold-For, fold-While, fold-Call}

-- for i := 1 to 2 do end
abbrev unknown_counter : Program
unknown_counter = record {
  declarations = [];
  statements =
      For (named (codes "i") 1) (Number (pos 1) 1) (Number (pos 2) 1) [] 1 ∷ [];
}

pub unknown_counter_breaks_a_rule : name_faults unknown_counter ≡ (Unknown 1 ∷ [])
unknown_counter_breaks_a_rule = rw (fold-For, fold-Number, fold-Number)

-- array i[2]: 0..9;
-- for i := 1 to 2 do end
abbrev array_as_counter : Program
array_as_counter = record {
  declarations =
      Array (named (codes "i") 1) (pos 2) (from_to (pos 0) (pos 9)) 1 ∷ [];
  statements =
      For (named (codes "i") 2) (Number (pos 1) 2) (Number (pos 2) 2) [] 2 ∷ [];
}

pub array_as_counter_breaks_a_rule : name_faults array_as_counter ≡ (WrongKind 2 ∷ [])
array_as_counter_breaks_a_rule = rw (fold-For, fold-Number, fold-Number)

-- proc i() do end
-- for
-- i := 1 to 2 do end
abbrev procedure_as_counter : Program
procedure_as_counter = record {
  declarations =
      Proc (named (codes "i") 1) [] [] [] 1 ∷ [];
  statements =
      For (named (codes "i") 3) (Number (pos 1) 3) (Number (pos 2) 3) [] 2 ∷ [];
}

pub procedure_as_counter_breaks_a_rule : name_faults procedure_as_counter ≡ (WrongKind 3 ∷ [])
procedure_as_counter_breaks_a_rule = rw (fold-For, fold-Number, fold-Number)

-- for i :=
-- a to
-- b do
-- print c;
-- end
abbrev counter_before_bounds : Program
counter_before_bounds = record {
  declarations = [];
  statements =
      For (named (codes "i") 1) (Name (named (codes "a") 2)) (Name (named (codes "b") 3)) (Print (Name (named (codes "c") 4)) 4 ∷ []) 1 ∷ [];
}

pub counter_before_bounds_breaks_rules : name_faults counter_before_bounds ≡ (Unknown 1 ∷ Unknown 2 ∷ Unknown 3 ∷ Unknown 4 ∷ [])
counter_before_bounds_breaks_rules = rw (fold-For, fold-Name, fold-Name, fold-Print, fold-Name)

-- var j: 0..9;
-- var i: 0..9;
-- for i := j to 2 do print i; end
abbrev counter_is_a_use : Program
counter_is_a_use = record {
  declarations =
      Var (named (codes "j") 1) (from_to (pos 0) (pos 9)) 1 ∷
      Var (named (codes "i") 2) (from_to (pos 0) (pos 9)) 2 ∷ [];
  statements =
      For (named (codes "i") 3) (Name (named (codes "j") 3)) (Number (pos 2) 3) (Print (Name (named (codes "i") 3)) 3 ∷ []) 3 ∷ [];
}

pub counter_is_a_use_keeps_the_rules : name_faults counter_is_a_use ≡ []
counter_is_a_use_keeps_the_rules = rw (fold-For, fold-Name, fold-Number, fold-Print, fold-Name)

pub counter_is_a_use_is_tied : ties_of counter_is_a_use ≡ (1 ∷ 0 ∷ 1 ∷ [])
counter_is_a_use_is_tied = rw (fold-For, fold-Name, fold-Number, fold-Print, fold-Name)

-- var i: 0..9;
-- for i := 1 to 2 do
-- i := 3;
-- end
abbrev counter_set : Program
counter_set = record {
  declarations =
      Var (named (codes "i") 1) (from_to (pos 0) (pos 9)) 1 ∷ [];
  statements =
      For (named (codes "i") 2) (Number (pos 1) 2) (Number (pos 2) 2) (Assign (AtName (named (codes "i") 3)) (Number (pos 3) 3) 3 ∷ []) 2 ∷ [];
}

pub counter_set_breaks_a_rule : name_faults counter_set ≡ (LoopAssigned 3 ∷ [])
counter_set_breaks_a_rule = rw (fold-For, fold-Number, fold-Number, fold-Assign, fold-Number)

-- var i: 0..9;
-- for i := 1 to 2 do
-- read i;
-- end
abbrev counter_read : Program
counter_read = record {
  declarations =
      Var (named (codes "i") 1) (from_to (pos 0) (pos 9)) 1 ∷ [];
  statements =
      For (named (codes "i") 2) (Number (pos 1) 2) (Number (pos 2) 2) (Read (AtName (named (codes "i") 3)) 3 ∷ []) 2 ∷ [];
}

pub counter_read_breaks_a_rule : name_faults counter_read ≡ (LoopAssigned 3 ∷ [])
counter_read_breaks_a_rule = rw (fold-For, fold-Number, fold-Number, fold-Read)

-- var i: 0..9;
-- for i := 1 to 2 do
-- for i := 1 to 2 do end
-- end
abbrev counter_of_an_inner_loop : Program
counter_of_an_inner_loop = record {
  declarations =
      Var (named (codes "i") 1) (from_to (pos 0) (pos 9)) 1 ∷ [];
  statements =
      For (named (codes "i") 2) (Number (pos 1) 2) (Number (pos 2) 2) (For (named (codes "i") 3) (Number (pos 1) 3) (Number (pos 2) 3) [] 3 ∷ []) 2 ∷ [];
}

pub counter_of_an_inner_loop_breaks_a_rule : name_faults counter_of_an_inner_loop ≡ (LoopAssigned 3 ∷ [])
counter_of_an_inner_loop_breaks_a_rule = rw (fold-For, fold-Number, fold-Number, fold-For, fold-Number, fold-Number)

-- var i: 0..9;
-- for i := 1 to 2 do
-- if 1 < 2 then else while 1 < 2 limit 3 do
-- i := 3;
-- end end end
abbrev counter_set_deep_inside : Program
counter_set_deep_inside = record {
  declarations =
      Var (named (codes "i") 1) (from_to (pos 0) (pos 9)) 1 ∷ [];
  statements =
      For (named (codes "i") 2) (Number (pos 1) 2) (Number (pos 2) 2) (If (record { left = Number (pos 1) 3; comparison = Less; right = Number (pos 2) 3; line = 3 }) [] (While (record { left = Number (pos 1) 3; comparison = Less; right = Number (pos 2) 3; line = 3 }) (pos 3) (Assign (AtName (named (codes "i") 4)) (Number (pos 3) 4) 4 ∷ []) 3 ∷ []) 3 ∷ []) 2 ∷ [];
}

pub counter_set_deep_inside_breaks_a_rule : name_faults counter_set_deep_inside ≡ (LoopAssigned 4 ∷ [])
counter_set_deep_inside_breaks_a_rule = rw (fold-For, fold-Number, fold-Number, fold-If, fold-Number, fold-Number, fold-While, fold-Number, fold-Number, fold-Assign, fold-Number)

-- var i: 0..9;
-- var j: 0..9;
-- for i := 1 to 2 do for j := 1 to 2 do
-- i := 3;
-- end end
abbrev outer_counter_set : Program
outer_counter_set = record {
  declarations =
      Var (named (codes "i") 1) (from_to (pos 0) (pos 9)) 1 ∷
      Var (named (codes "j") 2) (from_to (pos 0) (pos 9)) 2 ∷ [];
  statements =
      For (named (codes "i") 3) (Number (pos 1) 3) (Number (pos 2) 3) (For (named (codes "j") 3) (Number (pos 1) 3) (Number (pos 2) 3) (Assign (AtName (named (codes "i") 4)) (Number (pos 3) 4) 4 ∷ []) 3 ∷ []) 3 ∷ [];
}

pub outer_counter_set_breaks_a_rule : name_faults outer_counter_set ≡ (LoopAssigned 4 ∷ [])
outer_counter_set_breaks_a_rule = rw (fold-For, fold-Number, fold-Number, fold-For, fold-Number, fold-Number, fold-Assign, fold-Number)

-- var i: 0..9;
-- for i := 1 to 2 do end
-- i := 3;
-- for i := 1 to 2 do end
abbrev counter_free_after_its_loop : Program
counter_free_after_its_loop = record {
  declarations =
      Var (named (codes "i") 1) (from_to (pos 0) (pos 9)) 1 ∷ [];
  statements =
      For (named (codes "i") 2) (Number (pos 1) 2) (Number (pos 2) 2) [] 2 ∷
      Assign (AtName (named (codes "i") 3)) (Number (pos 3) 3) 3 ∷
      For (named (codes "i") 4) (Number (pos 1) 4) (Number (pos 2) 4) [] 4 ∷ [];
}

pub counter_free_after_its_loop_keeps_the_rules : name_faults counter_free_after_its_loop ≡ []
counter_free_after_its_loop_keeps_the_rules = rw (fold-For, fold-Number, fold-Number, fold-Assign, fold-Number, fold-For, fold-Number, fold-Number)

pub counter_free_after_its_loop_is_tied : ties_of counter_free_after_its_loop ≡ (0 ∷ 0 ∷ 0 ∷ [])
counter_free_after_its_loop_is_tied = rw (fold-For, fold-Number, fold-Number, fold-Assign, fold-Number, fold-For, fold-Number, fold-Number)

-- var i: 0..9;
-- var j: 0..9;
-- for i := 1 to 2 do
-- for j := 1 to 2 do end
-- j := 3;
-- i := 3;
-- end
abbrev inner_counter_free_after_its_loop : Program
inner_counter_free_after_its_loop = record {
  declarations =
      Var (named (codes "i") 1) (from_to (pos 0) (pos 9)) 1 ∷
      Var (named (codes "j") 2) (from_to (pos 0) (pos 9)) 2 ∷ [];
  statements =
      For (named (codes "i") 3) (Number (pos 1) 3) (Number (pos 2) 3) (For (named (codes "j") 4) (Number (pos 1) 4) (Number (pos 2) 4) [] 4 ∷ Assign (AtName (named (codes "j") 5)) (Number (pos 3) 5) 5 ∷ Assign (AtName (named (codes "i") 6)) (Number (pos 3) 6) 6 ∷ []) 3 ∷ [];
}

pub inner_counter_free_after_its_loop_breaks_a_rule : name_faults inner_counter_free_after_its_loop ≡ (LoopAssigned 6 ∷ [])
inner_counter_free_after_its_loop_breaks_a_rule = rw (fold-For, fold-Number, fold-Number, fold-For, fold-Number, fold-Number, fold-Assign, fold-Number, fold-Assign, fold-Number)

-- var i: 0..9;
-- proc p() do i := 3; end
-- for i := 1 to 2 do p(); end
abbrev counter_set_by_a_procedure : Program
counter_set_by_a_procedure = record {
  declarations =
      Var (named (codes "i") 1) (from_to (pos 0) (pos 9)) 1 ∷
      Proc (named (codes "p") 2) [] [] (Assign (AtName (named (codes "i") 2)) (Number (pos 3) 2) 2 ∷ []) 2 ∷ [];
  statements =
      For (named (codes "i") 3) (Number (pos 1) 3) (Number (pos 2) 3) (Call (named (codes "p") 3) [] 3 ∷ []) 3 ∷ [];
}

pub counter_set_by_a_procedure_keeps_the_rules : name_faults counter_set_by_a_procedure ≡ []
counter_set_by_a_procedure_keeps_the_rules = rw (fold-Assign, fold-Number, fold-For, fold-Number, fold-Number, fold-Call)

pub counter_set_by_a_procedure_is_tied : ties_of counter_set_by_a_procedure ≡ (0 ∷ 0 ∷ 1 ∷ [])
counter_set_by_a_procedure_is_tied = rw (fold-Assign, fold-Number, fold-For, fold-Number, fold-Number, fold-Call)

-- var i: 0..9;
-- for i := i to i do end
abbrev counter_in_its_bounds : Program
counter_in_its_bounds = record {
  declarations =
      Var (named (codes "i") 1) (from_to (pos 0) (pos 9)) 1 ∷ [];
  statements =
      For (named (codes "i") 2) (Name (named (codes "i") 2)) (Name (named (codes "i") 2)) [] 2 ∷ [];
}

pub counter_in_its_bounds_keeps_the_rules : name_faults counter_in_its_bounds ≡ []
counter_in_its_bounds_keeps_the_rules = rw (fold-For, fold-Name)

pub counter_in_its_bounds_is_tied : ties_of counter_in_its_bounds ≡ (0 ∷ 0 ∷ 0 ∷ [])
counter_in_its_bounds_is_tied = rw (fold-For, fold-Name)

-- proc p(n: 0..9) do
-- for n := 1 to 2 do
-- n := 3;
-- end end
abbrev parameter_as_counter : Program
parameter_as_counter = record {
  declarations =
      Proc (named (codes "p") 1) ((record { name = named (codes "n") 1; range = from_to (pos 0) (pos 9) }) ∷ []) [] (For (named (codes "n") 2) (Number (pos 1) 2) (Number (pos 2) 2) (Assign (AtName (named (codes "n") 3)) (Number (pos 3) 3) 3 ∷ []) 2 ∷ []) 1 ∷ [];
  statements = [];
}

pub parameter_as_counter_breaks_a_rule : name_faults parameter_as_counter ≡ (LoopAssigned 3 ∷ [])
parameter_as_counter_breaks_a_rule = rw (fold-For, fold-Number, fold-Number, fold-Assign, fold-Number)

-- var i: 0..9;
-- array a[2]: 0..9;
-- for i := 0 to 1 do a[i] := 3; end
abbrev element_set_in_a_loop : Program
element_set_in_a_loop = record {
  declarations =
      Var (named (codes "i") 1) (from_to (pos 0) (pos 9)) 1 ∷
      Array (named (codes "a") 2) (pos 2) (from_to (pos 0) (pos 9)) 2 ∷ [];
  statements =
      For (named (codes "i") 3) (Number (pos 0) 3) (Number (pos 1) 3) (Assign (AtElement (named (codes "a") 3) (Name (named (codes "i") 3))) (Number (pos 3) 3) 3 ∷ []) 3 ∷ [];
}

pub element_set_in_a_loop_keeps_the_rules : name_faults element_set_in_a_loop ≡ []
element_set_in_a_loop_keeps_the_rules = rw (fold-For, fold-Number, fold-Number, fold-Assign, fold-Name, fold-Number)

pub element_set_in_a_loop_is_tied : ties_of element_set_in_a_loop ≡ (0 ∷ 1 ∷ 0 ∷ [])
element_set_in_a_loop_is_tied = rw (fold-For, fold-Number, fold-Number, fold-Assign, fold-Name, fold-Number)

-- for i := 1 to 2 do
-- i := 3;
-- end
abbrev unknown_in_a_loop : Program
unknown_in_a_loop = record {
  declarations = [];
  statements =
      For (named (codes "i") 1) (Number (pos 1) 1) (Number (pos 2) 1) (Assign (AtName (named (codes "i") 2)) (Number (pos 3) 2) 2 ∷ []) 1 ∷ [];
}

pub unknown_in_a_loop_breaks_rules : name_faults unknown_in_a_loop ≡ (Unknown 1 ∷ Unknown 2 ∷ [])
unknown_in_a_loop_breaks_rules = rw (fold-For, fold-Number, fold-Number, fold-Assign, fold-Number)
