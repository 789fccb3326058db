-- Worked rows of conditions and `if`, computed from the meaning.
use Rattle.std.specs.Prelude.{◌≡◌, pos, [], ◌∷◌, codes, Some, None}
use Rattle.moduli_sets.specs.declared.kind.Kind.TheVariants as kind
use Rattle.source_tree.specs.Run.{visits}
use Rattle.source_tree.specs.Meaning.{meaning}
use Rattle.source_tree.specs.declared.declaration.Program.{Program}
use Rattle.source_tree.specs.declared.declaration.Declaration.TheVariants.{Var, Array}
use Rattle.source_tree.specs.declared.expression.Operator.TheVariants.{Div}
use Rattle.source_tree.specs.declared.expression.Comparison.TheVariants.{Less, LessEqual, Greater, GreaterEqual, Equal, NotEqual}
use Rattle.source_tree.specs.declared.expression.Expr.{Number, Name, Element, Binary}
use Rattle.source_tree.specs.declared.statement.Place.TheVariants.{Name as AtName}
use Rattle.source_tree.specs.declared.statement.Statement.{Assign, Print, If}
use Rattle.source_tree.proofs.FoldEquations.{fold-Number, fold-Name, fold-Element, fold-Assign, fold-Print, fold-If}
use Rattle.source_tree.proofs.RowsBasis.{outcome, from_to, named}

-- if 1 < 2 then print 1; else print 0; end
-- if 2 < 2 then print 1; else print 0; end
-- if 2 < 1 then print 1; else print 0; end
abbrev less : Program
less = record {
  declarations = [];
  statements =
      If (record { left = Number (pos 1) 1; comparison = Less; right = Number (pos 2) 1; line = 1 })
      (Print (Number (pos 1) 1) 1 ∷ []) (Print (Number (pos 0) 1) 1 ∷ []) 1 ∷
      If (record { left = Number (pos 2) 2; comparison = Less; right = Number (pos 2) 2; line = 2 })
      (Print (Number (pos 1) 2) 2 ∷ []) (Print (Number (pos 0) 2) 2 ∷ []) 2 ∷
      If (record { left = Number (pos 2) 3; comparison = Less; right = Number (pos 1) 3; line = 3 })
      (Print (Number (pos 1) 3) 3 ∷ []) (Print (Number (pos 0) 3) 3 ∷ []) 3 ∷ [];
}

pub less_means : outcome (meaning less []) ≡ ((pos 1 ∷ pos 0 ∷ pos 0 ∷ []), None)
less_means = rw (
  fold-If,
  fold-Number,
  fold-Number,
  fold-Print,
  fold-Number,
  fold-If,
  fold-Number,
  fold-Print,
  fold-Number,
  fold-If,
  fold-Number,
  fold-Number,
  fold-Print,
  fold-Number,
)

-- if 1 <= 2 then print 1; else print 0; end
-- if 2 <= 2 then print 1; else print 0; end
-- if 2 <= 1 then print 1; else print 0; end
abbrev at_most : Program
at_most = record {
  declarations = [];
  statements =
      If (record { left = Number (pos 1) 1; comparison = LessEqual; right = Number (pos 2) 1; line = 1 })
      (Print (Number (pos 1) 1) 1 ∷ []) (Print (Number (pos 0) 1) 1 ∷ []) 1 ∷
      If (record { left = Number (pos 2) 2; comparison = LessEqual; right = Number (pos 2) 2; line = 2 })
      (Print (Number (pos 1) 2) 2 ∷ []) (Print (Number (pos 0) 2) 2 ∷ []) 2 ∷
      If (record { left = Number (pos 2) 3; comparison = LessEqual; right = Number (pos 1) 3; line = 3 })
      (Print (Number (pos 1) 3) 3 ∷ []) (Print (Number (pos 0) 3) 3 ∷ []) 3 ∷ [];
}

pub at_most_means : outcome (meaning at_most []) ≡ ((pos 1 ∷ pos 1 ∷ pos 0 ∷ []), None)
at_most_means = rw (
  fold-If,
  fold-Number,
  fold-Number,
  fold-Print,
  fold-Number,
  fold-If,
  fold-Number,
  fold-Print,
  fold-Number,
  fold-If,
  fold-Number,
  fold-Number,
  fold-Print,
  fold-Number,
)

-- if 1 > 2 then print 1; else print 0; end
-- if 2 > 2 then print 1; else print 0; end
-- if 2 > 1 then print 1; else print 0; end
abbrev greater : Program
greater = record {
  declarations = [];
  statements =
      If (record { left = Number (pos 1) 1; comparison = Greater; right = Number (pos 2) 1; line = 1 })
      (Print (Number (pos 1) 1) 1 ∷ []) (Print (Number (pos 0) 1) 1 ∷ []) 1 ∷
      If (record { left = Number (pos 2) 2; comparison = Greater; right = Number (pos 2) 2; line = 2 })
      (Print (Number (pos 1) 2) 2 ∷ []) (Print (Number (pos 0) 2) 2 ∷ []) 2 ∷
      If (record { left = Number (pos 2) 3; comparison = Greater; right = Number (pos 1) 3; line = 3 })
      (Print (Number (pos 1) 3) 3 ∷ []) (Print (Number (pos 0) 3) 3 ∷ []) 3 ∷ [];
}

pub greater_means : outcome (meaning greater []) ≡ ((pos 0 ∷ pos 0 ∷ pos 1 ∷ []), None)
greater_means = rw (
  fold-If,
  fold-Number,
  fold-Number,
  fold-Print,
  fold-Number,
  fold-If,
  fold-Number,
  fold-Print,
  fold-Number,
  fold-If,
  fold-Number,
  fold-Number,
  fold-Print,
  fold-Number,
)

-- if 1 >= 2 then print 1; else print 0; end
-- if 2 >= 2 then print 1; else print 0; end
-- if 2 >= 1 then print 1; else print 0; end
abbrev at_least : Program
at_least = record {
  declarations = [];
  statements =
      If (record { left = Number (pos 1) 1; comparison = GreaterEqual; right = Number (pos 2) 1; line = 1 })
      (Print (Number (pos 1) 1) 1 ∷ []) (Print (Number (pos 0) 1) 1 ∷ []) 1 ∷
      If (record { left = Number (pos 2) 2; comparison = GreaterEqual; right = Number (pos 2) 2; line = 2 })
      (Print (Number (pos 1) 2) 2 ∷ []) (Print (Number (pos 0) 2) 2 ∷ []) 2 ∷
      If (record { left = Number (pos 2) 3; comparison = GreaterEqual; right = Number (pos 1) 3; line = 3 })
      (Print (Number (pos 1) 3) 3 ∷ []) (Print (Number (pos 0) 3) 3 ∷ []) 3 ∷ [];
}

pub at_least_means : outcome (meaning at_least []) ≡ ((pos 0 ∷ pos 1 ∷ pos 1 ∷ []), None)
at_least_means = rw (
  fold-If,
  fold-Number,
  fold-Number,
  fold-Print,
  fold-Number,
  fold-If,
  fold-Number,
  fold-Print,
  fold-Number,
  fold-If,
  fold-Number,
  fold-Number,
  fold-Print,
  fold-Number,
)

-- if 1 = 2 then print 1; else print 0; end
-- if 2 = 2 then print 1; else print 0; end
-- if 2 = 1 then print 1; else print 0; end
abbrev equal : Program
equal = record {
  declarations = [];
  statements =
      If (record { left = Number (pos 1) 1; comparison = Equal; right = Number (pos 2) 1; line = 1 })
      (Print (Number (pos 1) 1) 1 ∷ []) (Print (Number (pos 0) 1) 1 ∷ []) 1 ∷
      If (record { left = Number (pos 2) 2; comparison = Equal; right = Number (pos 2) 2; line = 2 })
      (Print (Number (pos 1) 2) 2 ∷ []) (Print (Number (pos 0) 2) 2 ∷ []) 2 ∷
      If (record { left = Number (pos 2) 3; comparison = Equal; right = Number (pos 1) 3; line = 3 })
      (Print (Number (pos 1) 3) 3 ∷ []) (Print (Number (pos 0) 3) 3 ∷ []) 3 ∷ [];
}

pub equal_means : outcome (meaning equal []) ≡ ((pos 0 ∷ pos 1 ∷ pos 0 ∷ []), None)
equal_means = rw (
  fold-If,
  fold-Number,
  fold-Number,
  fold-Print,
  fold-Number,
  fold-If,
  fold-Number,
  fold-Print,
  fold-Number,
  fold-If,
  fold-Number,
  fold-Number,
  fold-Print,
  fold-Number,
)

-- if 1 <> 2 then print 1; else print 0; end
-- if 2 <> 2 then print 1; else print 0; end
-- if 2 <> 1 then print 1; else print 0; end
abbrev not_equal : Program
not_equal = record {
  declarations = [];
  statements =
      If (record { left = Number (pos 1) 1; comparison = NotEqual; right = Number (pos 2) 1; line = 1 })
      (Print (Number (pos 1) 1) 1 ∷ []) (Print (Number (pos 0) 1) 1 ∷ []) 1 ∷
      If (record { left = Number (pos 2) 2; comparison = NotEqual; right = Number (pos 2) 2; line = 2 })
      (Print (Number (pos 1) 2) 2 ∷ []) (Print (Number (pos 0) 2) 2 ∷ []) 2 ∷
      If (record { left = Number (pos 2) 3; comparison = NotEqual; right = Number (pos 1) 3; line = 3 })
      (Print (Number (pos 1) 3) 3 ∷ []) (Print (Number (pos 0) 3) 3 ∷ []) 3 ∷ [];
}

pub not_equal_means : outcome (meaning not_equal []) ≡ ((pos 1 ∷ pos 0 ∷ pos 1 ∷ []), None)
not_equal_means = rw (
  fold-If,
  fold-Number,
  fold-Number,
  fold-Print,
  fold-Number,
  fold-If,
  fold-Number,
  fold-Print,
  fold-Number,
  fold-If,
  fold-Number,
  fold-Number,
  fold-Print,
  fold-Number,
)

-- var x: 0..97;
-- x := 42;
-- if x < 50 then print 1; else print x; end
abbrev choosing : Program
choosing = record {
  declarations = Var (named (codes "x") 1) (from_to (pos 0) (pos 97)) 1 ∷ [];
  statements =
      Assign (AtName (named (codes "x") 2)) (Number (pos 42) 2) 2 ∷
      If (record { left = Name (named (codes "x") 3); comparison = Less; right = Number (pos 50) 3; line = 3 })
      (Print (Number (pos 1) 3) 3 ∷ []) (Print (Name (named (codes "x") 3)) 3 ∷ []) 3 ∷ [];
}

pub choosing_means : outcome (meaning choosing []) ≡ ((pos 1 ∷ []), None)
choosing_means = rw (
  fold-Assign,
  fold-Number,
  fold-If,
  fold-Name,
  fold-Number,
  fold-Print,
  fold-Number,
)

-- var x: 0..97;
-- x := 52;
-- if x < 50 then print 1; else print x; print 2; end
-- print 3;
abbrev choosing_else : Program
choosing_else = record {
  declarations = Var (named (codes "x") 1) (from_to (pos 0) (pos 97)) 1 ∷ [];
  statements =
      Assign (AtName (named (codes "x") 2)) (Number (pos 52) 2) 2 ∷
      If (record { left = Name (named (codes "x") 3); comparison = Less; right = Number (pos 50) 3; line = 3 })
      (Print (Number (pos 1) 3) 3 ∷ [])
      (Print (Name (named (codes "x") 3)) 3 ∷ Print (Number (pos 2) 3) 3 ∷ []) 3 ∷
      Print (Number (pos 3) 4) 4 ∷ [];
}

pub choosing_else_means : outcome (meaning choosing_else []) ≡ ((pos 52 ∷ pos 2 ∷ pos 3 ∷ []), None)
choosing_else_means = rw (
  fold-Assign,
  fold-Number,
  fold-If,
  fold-Name,
  fold-Number,
  fold-Print,
  fold-Name,
  fold-Print,
  fold-Number,
  fold-Print,
  fold-Number,
)

-- if 2 < 1 then print 1; end
-- print 2;
abbrev no_else : Program
no_else = record {
  declarations = [];
  statements =
      If (record { left = Number (pos 2) 1; comparison = Less; right = Number (pos 1) 1; line = 1 })
      (Print (Number (pos 1) 1) 1 ∷ []) [] 1 ∷
      Print (Number (pos 2) 2) 2 ∷ [];
}

pub no_else_means : outcome (meaning no_else []) ≡ ((pos 2 ∷ []), None)
no_else_means = rw (fold-If, fold-Number, fold-Number, fold-Print, fold-Number)

-- the statement, the condition and its two sides; and the print of two
pub no_else_takes_six_visits : visits (meaning no_else []) ≡ 6
no_else_takes_six_visits = rw (
  fold-If,
  fold-Number,
  fold-Number,
  fold-Print,
  fold-Number,
)

-- array a[2]: 0..9;
-- if a[2] < 1 div 0 then end
abbrev left_side_first : Program
left_side_first = record {
  declarations = Array (named (codes "a") 1) (pos 2) (from_to (pos 0) (pos 9)) 1 ∷ [];
  statements =
      If
      (record {
        left = Element (named (codes "a") 2) (Number (pos 2) 2);
        comparison = Less;
        right = Binary (Number (pos 1) 2) Div (Number (pos 0) 2) 2;
        line = 2;
      }) [] [] 2 ∷ [];
}

pub left_side_traps_first : outcome (meaning left_side_first []) ≡ ([], Some (kind.Index, 2))
left_side_traps_first = rw (fold-If, fold-Element, fold-Number)
