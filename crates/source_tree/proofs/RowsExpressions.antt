-- Worked rows of expressions, computed from the meaning.
use Rattle.std.specs.Prelude.{◌≡◌, pos, negsuc, [], ◌∷◌, codes, Some, None}
use Rattle.moduli_sets.specs.declared.kind.Kind.TheVariants as kind
use Rattle.source_tree.specs.Run.{visits, printed_within}
use Rattle.source_tree.specs.Meaning.{meaning}
use Rattle.source_tree.specs.declared.declaration.Program.{Program}
use Rattle.source_tree.specs.declared.declaration.Declaration.TheVariants.{Var, Array}
use Rattle.source_tree.specs.declared.expression.Operator.TheVariants.{Add, Sub, Mul, Div, Mod}
use Rattle.source_tree.specs.declared.expression.Expr.{Number, Name, Element, Neg, Binary}
use Rattle.source_tree.specs.declared.statement.Place.TheVariants.{Name as AtName}
use Rattle.source_tree.specs.declared.statement.Statement.{Assign, Print}
use Rattle.source_tree.proofs.FoldEquations.{fold-Number, fold-Name, fold-Element, fold-Neg, fold-Binary, fold-Assign, fold-Print}
use Rattle.source_tree.proofs.RowsBasis.{outcome, from_to, named}

-- print 2 + 7; print 2 - 7;
-- print 2 * 7; print -7;
abbrev arithmetic : Program
arithmetic = record {
  declarations = [];
  statements =
      Print (Binary (Number (pos 2) 1) Add (Number (pos 7) 1) 1) 1 ∷
      Print (Binary (Number (pos 2) 1) Sub (Number (pos 7) 1) 1) 1 ∷
      Print (Binary (Number (pos 2) 2) Mul (Number (pos 7) 2) 2) 2 ∷
      Print (Neg (Number (pos 7) 2) 2) 2 ∷ [];
}

pub arithmetic_means : outcome (meaning arithmetic []) ≡ ((pos 9 ∷ negsuc 4 ∷ pos 14 ∷ negsuc 6 ∷ []), None)
arithmetic_means = rw (
  fold-Print,
  fold-Binary,
  fold-Number,
  fold-Number,
  fold-Print,
  fold-Binary,
  fold-Number,
  fold-Number,
  fold-Print,
  fold-Binary,
  fold-Number,
  fold-Number,
  fold-Print,
  fold-Neg,
  fold-Number,
)

-- print 97 div -5; print 97 mod -5; print -97 div 5; print -97 mod 5;
-- print -97 div -5; print -97 mod -5;
abbrev division : Program
division = record {
  declarations = [];
  statements =
      Print (Binary (Number (pos 97) 1) Div (Neg (Number (pos 5) 1) 1) 1) 1 ∷
      Print (Binary (Number (pos 97) 1) Mod (Neg (Number (pos 5) 1) 1) 1) 1 ∷
      Print (Binary (Neg (Number (pos 97) 1) 1) Div (Number (pos 5) 1) 1) 1 ∷
      Print (Binary (Neg (Number (pos 97) 1) 1) Mod (Number (pos 5) 1) 1) 1 ∷
      Print (Binary (Neg (Number (pos 97) 2) 2) Div (Neg (Number (pos 5) 2) 2) 2) 2 ∷
      Print (Binary (Neg (Number (pos 97) 2) 2) Mod (Neg (Number (pos 5) 2) 2) 2) 2 ∷ [];
}

pub division_means : outcome (meaning division []) ≡ ((negsuc 19 ∷ negsuc 2 ∷ negsuc 19 ∷ pos 3 ∷ pos 19 ∷ negsuc 1 ∷ []), None)
division_means = rw (
  fold-Print,
  fold-Binary,
  fold-Number,
  fold-Neg,
  fold-Number,
  fold-Print,
  fold-Binary,
  fold-Number,
  fold-Neg,
  fold-Number,
  fold-Print,
  fold-Binary,
  fold-Neg,
  fold-Number,
  fold-Number,
  fold-Print,
  fold-Binary,
  fold-Neg,
  fold-Number,
  fold-Number,
  fold-Print,
  fold-Binary,
  fold-Neg,
  fold-Number,
  fold-Neg,
  fold-Number,
  fold-Print,
  fold-Binary,
  fold-Neg,
  fold-Number,
  fold-Neg,
  fold-Number,
)

-- var x: 3..9;
-- var y: -9..-3;
-- var z: -9..9;
-- array a[2]: 3..9;
-- print x; print y; print z; print a[1];
abbrev starts : Program
starts = record {
  declarations =
      Var (named (codes "x") 1) (from_to (pos 3) (pos 9)) 1 ∷
      Var (named (codes "y") 2) (from_to (negsuc 8) (negsuc 2)) 2 ∷
      Var (named (codes "z") 3) (from_to (negsuc 8) (pos 9)) 3 ∷
      Array (named (codes "a") 4) (pos 2) (from_to (pos 3) (pos 9)) 4 ∷ [];
  statements =
      Print (Name (named (codes "x") 5)) 5 ∷
      Print (Name (named (codes "y") 5)) 5 ∷
      Print (Name (named (codes "z") 5)) 5 ∷
      Print (Element (named (codes "a") 5) (Number (pos 1) 5)) 5 ∷ [];
}

pub starts_are_nearest_to_zero : outcome (meaning starts []) ≡ ((pos 3 ∷ negsuc 2 ∷ pos 0 ∷ pos 3 ∷ []), None)
starts_are_nearest_to_zero = rw (
  fold-Print,
  fold-Name,
  fold-Print,
  fold-Name,
  fold-Print,
  fold-Name,
  fold-Print,
  fold-Element,
  fold-Number,
)

-- var x: 0..9;
-- var y: 0..9;
-- x := 7;
-- print x; print y;
-- print x div y;
abbrev by_zero : Program
by_zero = record {
  declarations =
      Var (named (codes "x") 1) (from_to (pos 0) (pos 9)) 1 ∷
      Var (named (codes "y") 2) (from_to (pos 0) (pos 9)) 2 ∷ [];
  statements =
      Assign (AtName (named (codes "x") 3)) (Number (pos 7) 3) 3 ∷
      Print (Name (named (codes "x") 4)) 4 ∷
      Print (Name (named (codes "y") 4)) 4 ∷
      Print (Binary (Name (named (codes "x") 5)) Div (Name (named (codes "y") 5)) 5) 5 ∷ [];
}

pub by_zero_traps : outcome (meaning by_zero []) ≡ ((pos 7 ∷ pos 0 ∷ []), Some (kind.Zero, 5))
by_zero_traps = rw (
  fold-Assign,
  fold-Number,
  fold-Print,
  fold-Name,
  fold-Print,
  fold-Name,
  fold-Print,
  fold-Binary,
  fold-Name,
  fold-Name,
)

-- print 1 mod
-- 0;
abbrev remainder_by_zero : Program
remainder_by_zero = record {
  declarations = [];
  statements = Print (Binary (Number (pos 1) 1) Mod (Number (pos 0) 2) 1) 1 ∷ [];
}

pub remainder_by_zero_traps : outcome (meaning remainder_by_zero []) ≡ ([], Some (kind.Zero, 1))
remainder_by_zero_traps = rw (fold-Print, fold-Binary, fold-Number, fold-Number)

-- array a[2]: 0..9;
-- print
-- a[2];
abbrev no_such_element : Program
no_such_element = record {
  declarations = Array (named (codes "a") 1) (pos 2) (from_to (pos 0) (pos 9)) 1 ∷ [];
  statements = Print (Element (named (codes "a") 3) (Number (pos 2) 3)) 2 ∷ [];
}

pub no_such_element_traps : outcome (meaning no_such_element []) ≡ ([], Some (kind.Index, 3))
no_such_element_traps = rw (fold-Print, fold-Element, fold-Number)

-- array a[2]: 0..9;
-- print a[-1];
abbrev element_below_zero : Program
element_below_zero = record {
  declarations = Array (named (codes "a") 1) (pos 2) (from_to (pos 0) (pos 9)) 1 ∷ [];
  statements = Print (Element (named (codes "a") 2) (Neg (Number (pos 1) 2) 2)) 2 ∷ [];
}

pub element_below_zero_traps : outcome (meaning element_below_zero []) ≡ ([], Some (kind.Index, 2))
element_below_zero_traps = rw (fold-Print, fold-Element, fold-Neg, fold-Number)

-- array a[2]: 0..9;
-- print a[2] + 1 div 0;
abbrev left_first : Program
left_first = record {
  declarations = Array (named (codes "a") 1) (pos 2) (from_to (pos 0) (pos 9)) 1 ∷ [];
  statements =
      Print
      (Binary (Element (named (codes "a") 2) (Number (pos 2) 2)) Add
      (Binary (Number (pos 1) 2) Div (Number (pos 0) 2) 2) 2) 2 ∷ [];
}

pub left_traps_first : outcome (meaning left_first []) ≡ ([], Some (kind.Index, 2))
left_traps_first = rw (fold-Print, fold-Binary, fold-Element, fold-Number)

-- the statement, `+`, the element and its index
pub left_takes_four_visits : visits (meaning left_first []) ≡ 4
left_takes_four_visits = rw (fold-Print, fold-Binary, fold-Element, fold-Number)

-- print 1;
abbrev one : Program
one = record { declarations = []; statements = Print (Number (pos 1) 1) 1 ∷ [] }

pub one_takes_two_visits : visits (meaning one []) ≡ 2
one_takes_two_visits = rw (fold-Print, fold-Number)

pub one_within_one_visit : printed_within 1 (meaning one []) ≡ []
one_within_one_visit = rw (fold-Print, fold-Number)

pub one_within_two_visits : printed_within 2 (meaning one []) ≡ pos 1 ∷ []
one_within_two_visits = rw (fold-Print, fold-Number)

-- print (1 div 0) + 2;
abbrev trapped_early : Program
trapped_early = record {
  declarations = [];
  statements =
      Print (Binary (Binary (Number (pos 1) 1) Div (Number (pos 0) 1) 1) Add (Number (pos 2) 1) 1) 1 ∷ [];
}

pub trapped_early_takes_five_visits : visits (meaning trapped_early []) ≡ 5
trapped_early_takes_five_visits = rw (
  fold-Print,
  fold-Binary,
  fold-Binary,
  fold-Number,
  fold-Number,
)

-- array a[2]: 0..9;
-- print -a[1];
abbrev one_element : Program
one_element = record {
  declarations = Array (named (codes "a") 1) (pos 2) (from_to (pos 0) (pos 9)) 1 ∷ [];
  statements = Print (Neg (Element (named (codes "a") 2) (Number (pos 1) 2)) 2) 2 ∷ [];
}

-- the statement, `-`, the element and its index
pub one_element_takes_four_visits : visits (meaning one_element []) ≡ 4
one_element_takes_four_visits = rw (fold-Print, fold-Neg, fold-Element, fold-Number)
