-- Worked rows of assignments and reads, computed from the meaning.
use Rattle.std.specs.Prelude.{◌≡◌, pos, [], ◌∷◌, codes, Some, None}
use Rattle.moduli_sets.specs.declared.kind.Kind.TheVariants as kind
use Rattle.source_tree.specs.Run.{visits}
use Rattle.source_tree.specs.Meaning.{meaning}
use Rattle.source_tree.specs.declared.declaration.Program.{Program}
use Rattle.source_tree.specs.declared.declaration.Declaration.TheVariants.{Var, Array}
use Rattle.source_tree.specs.declared.expression.Operator.TheVariants.{Add, Div}
use Rattle.source_tree.specs.declared.expression.Expr.{Number, Name, Element, Binary}
use Rattle.source_tree.specs.declared.statement.Place.TheVariants.{Name as AtName, Element as AtElement}
use Rattle.source_tree.specs.declared.statement.Statement.{Assign, Print, Read}
use Rattle.source_tree.proofs.FoldEquations.{fold-Number, fold-Name, fold-Element, fold-Binary, fold-Assign, fold-Print, fold-Read}
use Rattle.source_tree.proofs.RowsBasis.{outcome, from_to, named}

-- var x: 0..9;
-- read x;
-- print x;
abbrev reading : Program
reading = record {
  declarations = Var (named (codes "x") 1) (from_to (pos 0) (pos 9)) 1 ∷ [];
  statements = Read (AtName (named (codes "x") 2)) 2 ∷ Print (Name (named (codes "x") 3)) 3 ∷ [];
}

pub reading_without_input : outcome (meaning reading []) ≡ ([], Some (kind.InputEnd, 2))
reading_without_input = rw fold-Read

pub reading_too_large : outcome (meaning reading (pos 10 ∷ [])) ≡ ([], Some (kind.InputRange, 2))
reading_too_large = rw fold-Read

pub reading_seven : outcome (meaning reading (pos 7 ∷ [])) ≡ ((pos 7 ∷ []), None)
reading_seven = rw (fold-Read, fold-Print, fold-Name)

-- the statement, and the print of two
pub reading_takes_three_visits : visits (meaning reading (pos 7 ∷ [])) ≡ 3
reading_takes_three_visits = rw (fold-Read, fold-Print, fold-Name)

-- var x: 0..9;
-- var y: 0..9;
-- read x; read y;
-- print x; print y;
-- read x;
abbrev reading_twice : Program
reading_twice = record {
  declarations =
      Var (named (codes "x") 1) (from_to (pos 0) (pos 9)) 1 ∷
      Var (named (codes "y") 2) (from_to (pos 0) (pos 9)) 2 ∷ [];
  statements =
      Read (AtName (named (codes "x") 3)) 3 ∷
      Read (AtName (named (codes "y") 3)) 3 ∷
      Print (Name (named (codes "x") 4)) 4 ∷
      Print (Name (named (codes "y") 4)) 4 ∷
      Read (AtName (named (codes "x") 5)) 5 ∷ [];
}

pub reading_takes_one_after_another : outcome (meaning reading_twice (pos 3 ∷ pos 5 ∷ [])) ≡ ((pos 3 ∷ pos 5 ∷ []), Some (kind.InputEnd, 5))
reading_takes_one_after_another = rw (
  fold-Read,
  fold-Read,
  fold-Print,
  fold-Name,
  fold-Print,
  fold-Name,
  fold-Read,
)

-- var x: 0..9;
-- read x;
-- x := x + 5;
-- print x;
abbrev adding_five : Program
adding_five = record {
  declarations = Var (named (codes "x") 1) (from_to (pos 0) (pos 9)) 1 ∷ [];
  statements =
      Read (AtName (named (codes "x") 2)) 2 ∷
      Assign (AtName (named (codes "x") 3)) (Binary (Name (named (codes "x") 3)) Add (Number (pos 5) 3) 3) 3 ∷
      Print (Name (named (codes "x") 4)) 4 ∷ [];
}

pub three_and_five : outcome (meaning adding_five (pos 3 ∷ [])) ≡ ((pos 8 ∷ []), None)
three_and_five = rw (
  fold-Read,
  fold-Assign,
  fold-Binary,
  fold-Name,
  fold-Number,
  fold-Print,
  fold-Name,
)

pub seven_and_five : outcome (meaning adding_five (pos 7 ∷ [])) ≡ ([], Some (kind.Range, 3))
seven_and_five = rw (fold-Read, fold-Assign, fold-Binary, fold-Name, fold-Number)

-- var x: 3..9;
-- x :=
-- 2;
abbrev below_its_range : Program
below_its_range = record {
  declarations = Var (named (codes "x") 1) (from_to (pos 3) (pos 9)) 1 ∷ [];
  statements = Assign (AtName (named (codes "x") 2)) (Number (pos 2) 3) 2 ∷ [];
}

pub below_its_range_traps : outcome (meaning below_its_range []) ≡ ([], Some (kind.Range, 2))
below_its_range_traps = rw (fold-Assign, fold-Number)

-- array a[2]: 0..9;
-- a[1] := 7;
-- print a[0]; print a[1];
abbrev one_of_two : Program
one_of_two = record {
  declarations = Array (named (codes "a") 1) (pos 2) (from_to (pos 0) (pos 9)) 1 ∷ [];
  statements =
      Assign (AtElement (named (codes "a") 2) (Number (pos 1) 2)) (Number (pos 7) 2) 2 ∷
      Print (Element (named (codes "a") 3) (Number (pos 0) 3)) 3 ∷
      Print (Element (named (codes "a") 3) (Number (pos 1) 3)) 3 ∷ [];
}

pub one_of_two_is_set : outcome (meaning one_of_two []) ≡ ((pos 0 ∷ pos 7 ∷ []), None)
one_of_two_is_set = rw (
  fold-Assign,
  fold-Number,
  fold-Number,
  fold-Print,
  fold-Element,
  fold-Number,
  fold-Print,
  fold-Element,
  fold-Number,
)

-- array a[2]: 0..9;
-- array b[2]: 0..9;
-- b[0] := 7;
-- print a[0]; print b[0];
abbrev two_arrays : Program
two_arrays = record {
  declarations =
      Array (named (codes "a") 1) (pos 2) (from_to (pos 0) (pos 9)) 1 ∷
      Array (named (codes "b") 2) (pos 2) (from_to (pos 0) (pos 9)) 2 ∷ [];
  statements =
      Assign (AtElement (named (codes "b") 3) (Number (pos 0) 3)) (Number (pos 7) 3) 3 ∷
      Print (Element (named (codes "a") 4) (Number (pos 0) 4)) 4 ∷
      Print (Element (named (codes "b") 4) (Number (pos 0) 4)) 4 ∷ [];
}

pub two_arrays_stay_apart : outcome (meaning two_arrays []) ≡ ((pos 0 ∷ pos 7 ∷ []), None)
two_arrays_stay_apart = rw (
  fold-Assign,
  fold-Number,
  fold-Number,
  fold-Print,
  fold-Element,
  fold-Number,
  fold-Print,
  fold-Element,
  fold-Number,
)

-- array a[2]: 0..9;
-- a[5] := 1;
abbrev no_element : Program
no_element = record {
  declarations = Array (named (codes "a") 1) (pos 2) (from_to (pos 0) (pos 9)) 1 ∷ [];
  statements = Assign (AtElement (named (codes "a") 2) (Number (pos 5) 2)) (Number (pos 1) 2) 2 ∷ [];
}

pub no_element_traps : outcome (meaning no_element []) ≡ ([], Some (kind.Index, 2))
no_element_traps = rw (fold-Assign, fold-Number, fold-Number)

-- array a[2]: 0..9;
-- a[5] := 1 div 0;
abbrev value_before_index : Program
value_before_index = record {
  declarations = Array (named (codes "a") 1) (pos 2) (from_to (pos 0) (pos 9)) 1 ∷ [];
  statements =
      Assign (AtElement (named (codes "a") 2) (Number (pos 5) 2))
      (Binary (Number (pos 1) 2) Div (Number (pos 0) 2) 2) 2 ∷ [];
}

pub value_comes_first : outcome (meaning value_before_index []) ≡ ([], Some (kind.Zero, 2))
value_comes_first = rw (fold-Assign, fold-Binary, fold-Number, fold-Number)

-- array a[2]: 0..9;
-- a[1 div 0] := 10;
abbrev range_before_index : Program
range_before_index = record {
  declarations = Array (named (codes "a") 1) (pos 2) (from_to (pos 0) (pos 9)) 1 ∷ [];
  statements =
      Assign (AtElement (named (codes "a") 2) (Binary (Number (pos 1) 2) Div (Number (pos 0) 2) 2))
      (Number (pos 10) 2) 2 ∷ [];
}

pub range_comes_before_index : outcome (meaning range_before_index []) ≡ ([], Some (kind.Range, 2))
range_comes_before_index = rw (fold-Assign, fold-Number)

-- the statement and the value
pub range_takes_two_visits : visits (meaning range_before_index []) ≡ 2
range_takes_two_visits = rw (fold-Assign, fold-Number)

-- array a[2]: 0..9;
-- read
-- a[1 div 0];
abbrev read_before_index : Program
read_before_index = record {
  declarations = Array (named (codes "a") 1) (pos 2) (from_to (pos 0) (pos 9)) 1 ∷ [];
  statements =
      Read (AtElement (named (codes "a") 3) (Binary (Number (pos 1) 3) Div (Number (pos 0) 3) 3)) 2 ∷ [];
}

pub input_range_comes_before_index : outcome (meaning read_before_index (pos 10 ∷ [])) ≡ ([], Some (kind.InputRange, 2))
input_range_comes_before_index = rw fold-Read

-- array a[2]: 0..9;
-- read
-- a[5];
abbrev reading_no_element : Program
reading_no_element = record {
  declarations = Array (named (codes "a") 1) (pos 2) (from_to (pos 0) (pos 9)) 1 ∷ [];
  statements = Read (AtElement (named (codes "a") 3) (Number (pos 5) 3)) 2 ∷ [];
}

pub reading_no_element_traps : outcome (meaning reading_no_element (pos 1 ∷ [])) ≡ ([], Some (kind.Index, 3))
reading_no_element_traps = rw (fold-Read, fold-Number)

-- array a[2]: 0..9;
-- read a[1];
-- print a[1];
abbrev reading_an_element : Program
reading_an_element = record {
  declarations = Array (named (codes "a") 1) (pos 2) (from_to (pos 0) (pos 9)) 1 ∷ [];
  statements =
      Read (AtElement (named (codes "a") 2) (Number (pos 1) 2)) 2 ∷
      Print (Element (named (codes "a") 3) (Number (pos 1) 3)) 3 ∷ [];
}

pub reading_an_element_means : outcome (meaning reading_an_element (pos 4 ∷ [])) ≡ ((pos 4 ∷ []), None)
reading_an_element_means = rw (
  fold-Read,
  fold-Number,
  fold-Print,
  fold-Element,
  fold-Number,
)
