-- Worked rows of loops, computed from the meaning.
use Rattle.std.specs.Prelude.{◌≡◌, pos, [], ◌∷◌, codes, Some, None}
use Rattle.moduli_sets.specs.declared.kind.Kind.TheVariants as kind
use Rattle.source_tree.specs.Run.{visits}
use Rattle.source_tree.specs.Meaning.{meaning}
use Rattle.source_tree.specs.declared.declaration.Program.{Program}
use Rattle.source_tree.specs.declared.declaration.Declaration.TheVariants.{Var, Array, Proc}
use Rattle.source_tree.specs.declared.expression.Operator.TheVariants.{Add, Div}
use Rattle.source_tree.specs.declared.expression.Comparison.TheVariants.{Less}
use Rattle.source_tree.specs.declared.expression.Expr.{Number, Name, Element, Binary}
use Rattle.source_tree.specs.declared.statement.Place.TheVariants.{Name as AtName}
use Rattle.source_tree.specs.declared.statement.Statement.{Assign, Print, For, While, Call}
use Rattle.source_tree.proofs.FoldEquations.{fold-Number, fold-Name, fold-Element, fold-Binary, fold-Assign, fold-Print, fold-For, fold-While, fold-Call}
use Rattle.source_tree.proofs.RowsBasis.{outcome, from_to, named}

-- var i: 0..97;
-- for i := 1 to 3 do end
-- print i;
abbrev counting : Program
counting = record {
  declarations = Var (named (codes "i") 1) (from_to (pos 0) (pos 97)) 1 ∷ [];
  statements =
      For (named (codes "i") 2) (Number (pos 1) 2) (Number (pos 3) 2) [] 2 ∷
      Print (Name (named (codes "i") 3)) 3 ∷ [];
}

pub counting_means : outcome (meaning counting []) ≡ ((pos 3 ∷ []), None)
counting_means = rw (fold-For, fold-Number, fold-Number, fold-Print, fold-Name)

-- var i: 0..9; for i := 5 to 4 do print i; end
abbrev no_turns : Program
no_turns = record {
  declarations = Var (named (codes "i") 1) (from_to (pos 0) (pos 9)) 1 ∷ [];
  statements =
      For (named (codes "i") 1) (Number (pos 5) 1) (Number (pos 4) 1)
      (Print (Name (named (codes "i") 1)) 1 ∷ []) 1 ∷ [];
}

pub no_turns_means : outcome (meaning no_turns []) ≡ ([], None)
no_turns_means = rw (fold-For, fold-Number, fold-Number)

-- var i: 0..9;
-- for i := 1 to 2 do end
abbrev two_turns : Program
two_turns = record {
  declarations = Var (named (codes "i") 1) (from_to (pos 0) (pos 9)) 1 ∷ [];
  statements = For (named (codes "i") 2) (Number (pos 1) 2) (Number (pos 2) 2) [] 2 ∷ [];
}

pub two_turns_take_five_visits : visits (meaning two_turns []) ≡ 5
two_turns_take_five_visits = rw (fold-For, fold-Number, fold-Number)

-- var i: 0..9;
-- for i := 8 to
-- 12 do print i; end
abbrev out_of_range : Program
out_of_range = record {
  declarations = Var (named (codes "i") 1) (from_to (pos 0) (pos 9)) 1 ∷ [];
  statements =
      For (named (codes "i") 2) (Number (pos 8) 2) (Number (pos 12) 3)
      (Print (Name (named (codes "i") 3)) 3 ∷ []) 2 ∷ [];
}

pub out_of_range_traps : outcome (meaning out_of_range []) ≡ ((pos 8 ∷ pos 9 ∷ []), Some (kind.Range, 2))
out_of_range_traps = rw (fold-For, fold-Number, fold-Number, fold-Print, fold-Name)

-- the statement and its bounds, two turns of three, and the turn that traps
pub out_of_range_takes_ten_visits : visits (meaning out_of_range []) ≡ 10
out_of_range_takes_ten_visits = rw (
  fold-For,
  fold-Number,
  fold-Number,
  fold-Print,
  fold-Name,
)

-- var i: 0..9;
-- var n: 0..9;
-- n := 3;
-- for i := 1 to n do n := 1; print i; end
abbrev bounds : Program
bounds = record {
  declarations =
      Var (named (codes "i") 1) (from_to (pos 0) (pos 9)) 1 ∷
      Var (named (codes "n") 2) (from_to (pos 0) (pos 9)) 2 ∷ [];
  statements =
      Assign (AtName (named (codes "n") 3)) (Number (pos 3) 3) 3 ∷
      For (named (codes "i") 4) (Number (pos 1) 4) (Name (named (codes "n") 4))
      (Assign (AtName (named (codes "n") 4)) (Number (pos 1) 4) 4 ∷ Print (Name (named (codes "i") 4)) 4 ∷ [])
      4 ∷ [];
}

pub bounds_are_taken_once : outcome (meaning bounds []) ≡ ((pos 1 ∷ pos 2 ∷ pos 3 ∷ []), None)
bounds_are_taken_once = rw (
  fold-Assign,
  fold-Number,
  fold-For,
  fold-Number,
  fold-Name,
  fold-Assign,
  fold-Number,
  fold-Print,
  fold-Name,
)

-- array a[2]: 0..9;
-- var i: 0..9;
-- for i := a[2] to 1 div 0 do end
abbrev first_bound : Program
first_bound = record {
  declarations =
      Array (named (codes "a") 1) (pos 2) (from_to (pos 0) (pos 9)) 1 ∷
      Var (named (codes "i") 2) (from_to (pos 0) (pos 9)) 2 ∷ [];
  statements =
      For (named (codes "i") 3) (Element (named (codes "a") 3) (Number (pos 2) 3))
      (Binary (Number (pos 1) 3) Div (Number (pos 0) 3) 3) [] 3 ∷ [];
}

pub first_bound_traps_first : outcome (meaning first_bound []) ≡ ([], Some (kind.Index, 3))
first_bound_traps_first = rw (fold-For, fold-Element, fold-Number)

-- var i: 0..9;
-- proc p() do i := 7; end
-- for i := 1 to 2 do print i; p(); print i; end
abbrev called_in_a_loop : Program
called_in_a_loop = record {
  declarations =
      Var (named (codes "i") 1) (from_to (pos 0) (pos 9)) 1 ∷
      Proc (named (codes "p") 2) [] [] (Assign (AtName (named (codes "i") 2)) (Number (pos 7) 2) 2 ∷ []) 2 ∷ [];
  statements =
      For (named (codes "i") 3) (Number (pos 1) 3) (Number (pos 2) 3)
      (Print (Name (named (codes "i") 3)) 3 ∷
      Call (named (codes "p") 3) [] 3 ∷
      Print (Name (named (codes "i") 3)) 3 ∷ []) 3 ∷ [];
}

pub called_in_a_loop_means : outcome (meaning called_in_a_loop []) ≡ ((pos 1 ∷ pos 7 ∷ pos 2 ∷ pos 7 ∷ []), None)
called_in_a_loop_means = rw (
  fold-For,
  fold-Number,
  fold-Number,
  fold-Print,
  fold-Name,
  fold-Call,
  fold-Assign,
  fold-Number,
)

-- var x: 0..20;
-- while x < 3 limit 3 do x := x + 1; end
-- print x;
abbrev three_turns : Program
three_turns = record {
  declarations = Var (named (codes "x") 1) (from_to (pos 0) (pos 20)) 1 ∷ [];
  statements =
      While
      (record { left = Name (named (codes "x") 2); comparison = Less; right = Number (pos 3) 2; line = 2 })
      (pos 3)
      (Assign (AtName (named (codes "x") 2)) (Binary (Name (named (codes "x") 2)) Add (Number (pos 1) 2) 2)
      2 ∷ []) 2 ∷
      Print (Name (named (codes "x") 3)) 3 ∷ [];
}

pub three_turns_are_enough : outcome (meaning three_turns []) ≡ ((pos 3 ∷ []), None)
three_turns_are_enough = rw (
  fold-While,
  fold-Name,
  fold-Number,
  fold-Assign,
  fold-Binary,
  fold-Name,
  fold-Number,
  fold-Print,
  fold-Name,
)

-- the statement, four conditions of three visits each, three turns of five, and the print of two
pub three_turns_take_thirty_visits : visits (meaning three_turns []) ≡ 30
three_turns_take_thirty_visits = rw (
  fold-While,
  fold-Name,
  fold-Number,
  fold-Assign,
  fold-Binary,
  fold-Name,
  fold-Number,
  fold-Print,
  fold-Name,
)

-- var x: 0..20;
-- while x < 3 limit 20 do x := x + 1; end
-- print x;
abbrev turns_left : Program
turns_left = record {
  declarations = Var (named (codes "x") 1) (from_to (pos 0) (pos 20)) 1 ∷ [];
  statements =
      While
      (record { left = Name (named (codes "x") 2); comparison = Less; right = Number (pos 3) 2; line = 2 })
      (pos 20)
      (Assign (AtName (named (codes "x") 2)) (Binary (Name (named (codes "x") 2)) Add (Number (pos 1) 2) 2)
      2 ∷ []) 2 ∷
      Print (Name (named (codes "x") 3)) 3 ∷ [];
}

-- its condition ends it, with seventeen turns left
pub turns_left_means : outcome (meaning turns_left []) ≡ ((pos 3 ∷ []), None)
turns_left_means = rw (
  fold-While,
  fold-Name,
  fold-Number,
  fold-Assign,
  fold-Binary,
  fold-Name,
  fold-Number,
  fold-Print,
  fold-Name,
)

-- the statement, four conditions of three visits each, three turns of five, and the print of two
pub turns_left_takes_thirty_visits : visits (meaning turns_left []) ≡ 30
turns_left_takes_thirty_visits = rw (
  fold-While,
  fold-Name,
  fold-Number,
  fold-Assign,
  fold-Binary,
  fold-Name,
  fold-Number,
  fold-Print,
  fold-Name,
)

-- var x: 0..20;
-- while x < 10 limit 3 do x := x + 1; end
abbrev too_many_turns : Program
too_many_turns = record {
  declarations = Var (named (codes "x") 1) (from_to (pos 0) (pos 20)) 1 ∷ [];
  statements =
      While
      (record { left = Name (named (codes "x") 2); comparison = Less; right = Number (pos 10) 2; line = 2 })
      (pos 3)
      (Assign (AtName (named (codes "x") 2)) (Binary (Name (named (codes "x") 2)) Add (Number (pos 1) 2) 2)
      2 ∷ []) 2 ∷ [];
}

pub too_many_turns_trap : outcome (meaning too_many_turns []) ≡ ([], Some (kind.Turns, 2))
too_many_turns_trap = rw (
  fold-While,
  fold-Name,
  fold-Number,
  fold-Assign,
  fold-Binary,
  fold-Name,
  fold-Number,
)

-- the statement, four conditions of three visits each, and three turns of five
pub three_turns_are_taken : visits (meaning too_many_turns []) ≡ 28
three_turns_are_taken = rw (
  fold-While,
  fold-Name,
  fold-Number,
  fold-Assign,
  fold-Binary,
  fold-Name,
  fold-Number,
)

-- while
-- 1 < 2 limit 0 do print 1; end
abbrev turn_refused : Program
turn_refused = record {
  declarations = [];
  statements =
      While (record { left = Number (pos 1) 2; comparison = Less; right = Number (pos 2) 2; line = 2 }) (pos 0)
      (Print (Number (pos 1) 2) 2 ∷ []) 1 ∷ [];
}

pub turn_refused_traps : outcome (meaning turn_refused []) ≡ ([], Some (kind.Turns, 1))
turn_refused_traps = rw (fold-While, fold-Number, fold-Number)

-- the statement and the condition of three, and none for the turn
pub turn_refused_takes_four_visits : visits (meaning turn_refused []) ≡ 4
turn_refused_takes_four_visits = rw (fold-While, fold-Number, fold-Number)
