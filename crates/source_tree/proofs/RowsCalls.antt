-- Worked rows of calls, computed from the meaning.
use Rattle.std.specs.Prelude.{◌≡◌, pos, [], ◌∷◌, codes, Some, None}
use Rattle.moduli_sets.specs.declared.kind.Kind.TheVariants as kind
use Rattle.source_tree.specs.Run.{visits}
use Rattle.source_tree.specs.Meaning.{meaning}
use Rattle.source_tree.specs.declared.declaration.Program.{Program}
use Rattle.source_tree.specs.declared.declaration.Declaration.TheVariants.{Var, Array, Proc}
use Rattle.source_tree.specs.declared.expression.Operator.TheVariants.{Add, Sub, Mul, Div}
use Rattle.source_tree.specs.declared.expression.Expr.{Number, Name, Element, Binary}
use Rattle.source_tree.specs.declared.statement.Place.TheVariants.{Name as AtName, Element as AtElement}
use Rattle.source_tree.specs.declared.statement.Statement.{Assign, Print, Read, For, Call}
use Rattle.source_tree.proofs.FoldEquations.{fold-Number, fold-Name, fold-Element, fold-Binary, fold-Assign, fold-Print, fold-Read, fold-For, fold-Call}
use Rattle.source_tree.proofs.RowsBasis.{outcome, from_to, named}

-- array bal[3]: 0..400000000;
-- var y: 0..40;
-- var rate: 0..1000;
-- proc year(n: 1..40)
--   var cents: 0..400000000;
-- do
--   cents := bal[n - 1];
--   cents := cents + (cents * rate + 5000) div 10000;
--   bal[n] := cents;
--   print cents;
-- end
-- read bal[0];
-- read rate;
-- for y := 1 to 1 do
--   year(y);
-- end
abbrev ledger : Program
ledger = record {
  declarations =
      Array (named (codes "bal") 1) (pos 3) (from_to (pos 0) (pos 400000000)) 1 ∷
      Var (named (codes "y") 2) (from_to (pos 0) (pos 40)) 2 ∷
      Var (named (codes "rate") 3) (from_to (pos 0) (pos 1000)) 3 ∷
      Proc (named (codes "year") 4)
      ((record { name = named (codes "n") 4; range = from_to (pos 1) (pos 40) }) ∷ [])
      ((record { name = named (codes "cents") 5; range = from_to (pos 0) (pos 400000000); line = 5 }) ∷ [])
      (Assign (AtName (named (codes "cents") 7))
      (Element (named (codes "bal") 7) (Binary (Name (named (codes "n") 7)) Sub (Number (pos 1) 7) 7)) 7 ∷
      Assign (AtName (named (codes "cents") 8))
      (Binary (Name (named (codes "cents") 8)) Add
      (Binary
      (Binary (Binary (Name (named (codes "cents") 8)) Mul (Name (named (codes "rate") 8)) 8) Add
      (Number (pos 5000) 8) 8) Div (Number (pos 10000) 8) 8) 8) 8 ∷
      Assign (AtElement (named (codes "bal") 9) (Name (named (codes "n") 9)))
      (Name (named (codes "cents") 9)) 9 ∷
      Print (Name (named (codes "cents") 10)) 10 ∷ []) 4 ∷ [];
  statements =
      Read (AtElement (named (codes "bal") 12) (Number (pos 0) 12)) 12 ∷
      Read (AtName (named (codes "rate") 13)) 13 ∷
      For (named (codes "y") 14) (Number (pos 1) 14) (Number (pos 1) 14)
      (Call (named (codes "year") 15) (Name (named (codes "y") 15) ∷ []) 15 ∷ []) 14 ∷ [];
}

pub ledger_means : outcome (meaning ledger (pos 100000 ∷ pos 325 ∷ [])) ≡ ((pos 103250 ∷ []), None)
ledger_means = rw (
  fold-Read,
  fold-Number,
  fold-Read,
  fold-For,
  fold-Number,
  fold-Call,
  fold-Name,
  fold-Assign,
  fold-Element,
  fold-Binary,
  fold-Name,
  fold-Number,
  fold-Assign,
  fold-Binary,
  fold-Name,
  fold-Binary,
  fold-Binary,
  fold-Binary,
  fold-Name,
  fold-Name,
  fold-Number,
  fold-Number,
  fold-Assign,
  fold-Name,
  fold-Name,
  fold-Print,
  fold-Name,
)

-- proc p(m: 0..9, n: 0..9) do print m; print n; end
-- p(1, 2);
abbrev two_arguments : Program
two_arguments = record {
  declarations =
      Proc (named (codes "p") 1)
      ((record { name = named (codes "m") 1; range = from_to (pos 0) (pos 9) }) ∷
      (record { name = named (codes "n") 1; range = from_to (pos 0) (pos 9) }) ∷ []) []
      (Print (Name (named (codes "m") 1)) 1 ∷ Print (Name (named (codes "n") 1)) 1 ∷ []) 1 ∷ [];
  statements = Call (named (codes "p") 2) (Number (pos 1) 2 ∷ Number (pos 2) 2 ∷ []) 2 ∷ [];
}

pub two_arguments_mean : outcome (meaning two_arguments []) ≡ ((pos 1 ∷ pos 2 ∷ []), None)
two_arguments_mean = rw (
  fold-Call,
  fold-Number,
  fold-Number,
  fold-Print,
  fold-Name,
  fold-Print,
  fold-Name,
)

-- proc p(n: 0..3) do end
-- p(4);
abbrev argument_too_large : Program
argument_too_large = record {
  declarations =
      Proc (named (codes "p") 1) ((record { name = named (codes "n") 1; range = from_to (pos 0) (pos 3) }) ∷ [])
      [] [] 1 ∷ [];
  statements = Call (named (codes "p") 2) (Number (pos 4) 2 ∷ []) 2 ∷ [];
}

pub argument_too_large_traps : outcome (meaning argument_too_large []) ≡ ([], Some (kind.Range, 2))
argument_too_large_traps = rw (fold-Call, fold-Number)

-- proc p(m: 0..9, n: 0..3) do print m; end
-- p(1,
-- 4);
abbrev second_too_large : Program
second_too_large = record {
  declarations =
      Proc (named (codes "p") 1)
      ((record { name = named (codes "m") 1; range = from_to (pos 0) (pos 9) }) ∷
      (record { name = named (codes "n") 1; range = from_to (pos 0) (pos 3) }) ∷ []) []
      (Print (Name (named (codes "m") 1)) 1 ∷ []) 1 ∷ [];
  statements = Call (named (codes "p") 2) (Number (pos 1) 2 ∷ Number (pos 4) 3 ∷ []) 2 ∷ [];
}

pub second_too_large_traps : outcome (meaning second_too_large []) ≡ ([], Some (kind.Range, 2))
second_too_large_traps = rw (fold-Call, fold-Number, fold-Number)

-- the statement and two arguments
pub second_too_large_takes_three_visits : visits (meaning second_too_large []) ≡ 3
second_too_large_takes_three_visits = rw (fold-Call, fold-Number, fold-Number)

-- proc p(m: 0..9, n: 0..9) do end
-- p(10, 1 div 0);
abbrev first_too_large : Program
first_too_large = record {
  declarations =
      Proc (named (codes "p") 1)
      ((record { name = named (codes "m") 1; range = from_to (pos 0) (pos 9) }) ∷
      (record { name = named (codes "n") 1; range = from_to (pos 0) (pos 9) }) ∷ []) [] [] 1 ∷ [];
  statements =
      Call (named (codes "p") 2) (Number (pos 10) 2 ∷ Binary (Number (pos 1) 2) Div (Number (pos 0) 2) 2 ∷ [])
      2 ∷ [];
}

pub first_too_large_traps : outcome (meaning first_too_large []) ≡ ([], Some (kind.Range, 2))
first_too_large_traps = rw (fold-Call, fold-Number)

-- the statement and the first argument: its range is tested before the second begins
pub first_too_large_takes_two_visits : visits (meaning first_too_large []) ≡ 2
first_too_large_takes_two_visits = rw (fold-Call, fold-Number)

-- proc p() var x: 0..9; do end
-- p();
abbrev one_local : Program
one_local = record {
  declarations =
      Proc (named (codes "p") 1) []
      ((record { name = named (codes "x") 1; range = from_to (pos 0) (pos 9); line = 1 }) ∷ []) [] 1 ∷ [];
  statements = Call (named (codes "p") 2) [] 2 ∷ [];
}

pub one_local_takes_two_visits : visits (meaning one_local []) ≡ 2
one_local_takes_two_visits = rw fold-Call

-- proc p()
--   var x: 3..9;
-- do
--   print x; x := 7; print x;
-- end
-- p(); p();
abbrev local_anew : Program
local_anew = record {
  declarations =
      Proc (named (codes "p") 1) []
      ((record { name = named (codes "x") 2; range = from_to (pos 3) (pos 9); line = 2 }) ∷ [])
      (Print (Name (named (codes "x") 4)) 4 ∷
      Assign (AtName (named (codes "x") 4)) (Number (pos 7) 4) 4 ∷
      Print (Name (named (codes "x") 4)) 4 ∷ []) 1 ∷ [];
  statements = Call (named (codes "p") 6) [] 6 ∷ Call (named (codes "p") 6) [] 6 ∷ [];
}

pub local_starts_anew : outcome (meaning local_anew []) ≡ ((pos 3 ∷ pos 7 ∷ pos 3 ∷ pos 7 ∷ []), None)
local_starts_anew = rw (fold-Call, fold-Print, fold-Name, fold-Assign, fold-Number)

-- proc p(m: 0..9, n: 0..9)
--   var x: 0..9;
--   var y: 0..9;
-- do
--   x := m; y := n;
-- end
-- proc q()
--   var x: 0..9;
-- do
--   x := 5; p(7, 8); print x;
-- end
-- q();
abbrev locals_apart : Program
locals_apart = record {
  declarations =
      Proc (named (codes "p") 1)
      ((record { name = named (codes "m") 1; range = from_to (pos 0) (pos 9) }) ∷
      (record { name = named (codes "n") 1; range = from_to (pos 0) (pos 9) }) ∷ [])
      ((record { name = named (codes "x") 2; range = from_to (pos 0) (pos 9); line = 2 }) ∷
      (record { name = named (codes "y") 3; range = from_to (pos 0) (pos 9); line = 3 }) ∷ [])
      (Assign (AtName (named (codes "x") 5)) (Name (named (codes "m") 5)) 5 ∷
      Assign (AtName (named (codes "y") 5)) (Name (named (codes "n") 5)) 5 ∷ []) 1 ∷
      Proc (named (codes "q") 7) []
      ((record { name = named (codes "x") 8; range = from_to (pos 0) (pos 9); line = 8 }) ∷ [])
      (Assign (AtName (named (codes "x") 10)) (Number (pos 5) 10) 10 ∷
      Call (named (codes "p") 10) (Number (pos 7) 10 ∷ Number (pos 8) 10 ∷ []) 10 ∷
      Print (Name (named (codes "x") 10)) 10 ∷ []) 7 ∷ [];
  statements = Call (named (codes "q") 12) [] 12 ∷ [];
}

pub locals_stay_apart : outcome (meaning locals_apart []) ≡ ((pos 5 ∷ []), None)
locals_stay_apart = rw (
  fold-Call,
  fold-Assign,
  fold-Number,
  fold-Call,
  fold-Number,
  fold-Number,
  fold-Assign,
  fold-Name,
  fold-Assign,
  fold-Name,
  fold-Print,
  fold-Name,
)

-- proc p(p: 0..9) do print p; end
-- p(4);
abbrev parameter_of_its_name : Program
parameter_of_its_name = record {
  declarations =
      Proc (named (codes "p") 1) ((record { name = named (codes "p") 1; range = from_to (pos 0) (pos 9) }) ∷ [])
      [] (Print (Name (named (codes "p") 1)) 1 ∷ []) 1 ∷ [];
  statements = Call (named (codes "p") 2) (Number (pos 4) 2 ∷ []) 2 ∷ [];
}

pub parameter_of_its_name_means : outcome (meaning parameter_of_its_name []) ≡ ((pos 4 ∷ []), None)
parameter_of_its_name_means = rw (fold-Call, fold-Number, fold-Print, fold-Name)
