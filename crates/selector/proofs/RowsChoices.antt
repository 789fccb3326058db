-- Worked rows of conditions and of `if`.
use Rattle.std.specs.Prelude.{◌≡◌, [], ◌∷◌, pos, codes}
use Rattle.machine_table.specs.declared.instr.Instr.TheVariants.{Beq, Blt, Halt, Jmp, Ld, Ldi, Out}
use Rattle.source_tree.specs.declared.declaration.Program.{Program}
use Rattle.source_tree.specs.declared.declaration.Declaration.TheVariants.{Var}
use Rattle.source_tree.specs.declared.expression.Comparison.TheVariants as comparison
use Rattle.source_tree.specs.declared.expression.Expr.{Number, Name}
use Rattle.source_tree.specs.declared.statement.Statement.{Print, If}
use Rattle.source_tree.proofs.FoldEquations.{fold-Number, fold-Name, fold-Print, fold-If}
use Rattle.selector.specs.Programs.{program_code}
use Rattle.selector.proofs.RowsBasis.{named, range, pocket}

-- var x: 0..9;
-- var y: 0..9;
-- if x < y then print 1; end
abbrev less : Program
less = record {
  declarations =
      Var (named (codes "x") 1) (range (pos 0) (pos 9)) 1 ∷
      Var (named (codes "y") 2) (range (pos 0) (pos 9)) 2 ∷ [];
  statements =
      If
      (record { left = Name (named (codes "x") 3); comparison = comparison.Less; right = Name (named (codes "y") 3); line = 3 })
      (Print (Number (pos 1) 3) 3 ∷ []) [] 3 ∷ [];
}

pub less_code : program_code pocket less
    ≡ Ld 0 0 ∷ Ld 1 1 ∷ Blt 0 1 4 ∷ Jmp 6 ∷ Ldi 0 (pos 1) ∷ Out 0 ∷ Halt ∷ []
less_code = rw (fold-If, fold-Print, fold-Name, fold-Name, fold-Number)

-- var x: 0..9;
-- var y: 0..9;
-- if x > y then print 1; end
abbrev greater : Program
greater = record {
  declarations =
      Var (named (codes "x") 1) (range (pos 0) (pos 9)) 1 ∷
      Var (named (codes "y") 2) (range (pos 0) (pos 9)) 2 ∷ [];
  statements =
      If
      (record { left = Name (named (codes "x") 3); comparison = comparison.Greater; right = Name (named (codes "y") 3); line = 3 })
      (Print (Number (pos 1) 3) 3 ∷ []) [] 3 ∷ [];
}

pub greater_code : program_code pocket greater
    ≡ Ld 0 0 ∷ Ld 1 1 ∷ Blt 1 0 4 ∷ Jmp 6 ∷ Ldi 0 (pos 1) ∷ Out 0 ∷ Halt ∷ []
greater_code = rw (fold-If, fold-Print, fold-Name, fold-Name, fold-Number)

-- var x: 0..9;
-- var y: 0..9;
-- if x = y then print 1; end
abbrev equal : Program
equal = record {
  declarations =
      Var (named (codes "x") 1) (range (pos 0) (pos 9)) 1 ∷
      Var (named (codes "y") 2) (range (pos 0) (pos 9)) 2 ∷ [];
  statements =
      If
      (record { left = Name (named (codes "x") 3); comparison = comparison.Equal; right = Name (named (codes "y") 3); line = 3 })
      (Print (Number (pos 1) 3) 3 ∷ []) [] 3 ∷ [];
}

pub equal_code : program_code pocket equal
    ≡ Ld 0 0 ∷ Ld 1 1 ∷ Beq 0 1 4 ∷ Jmp 6 ∷ Ldi 0 (pos 1) ∷ Out 0 ∷ Halt ∷ []
equal_code = rw (fold-If, fold-Print, fold-Name, fold-Name, fold-Number)

-- var x: 0..9;
-- var y: 0..9;
-- if x <= y then print 1; end
abbrev less_or_equal : Program
less_or_equal = record {
  declarations =
      Var (named (codes "x") 1) (range (pos 0) (pos 9)) 1 ∷
      Var (named (codes "y") 2) (range (pos 0) (pos 9)) 2 ∷ [];
  statements =
      If
      (record { left = Name (named (codes "x") 3); comparison = comparison.LessEqual; right = Name (named (codes "y") 3); line = 3 })
      (Print (Number (pos 1) 3) 3 ∷ []) [] 3 ∷ [];
}

pub less_or_equal_code : program_code pocket less_or_equal
    ≡ Ld 0 0 ∷ Ld 1 1 ∷ Blt 1 0 5 ∷ Ldi 0 (pos 1) ∷ Out 0 ∷ Halt ∷ []
less_or_equal_code = rw (fold-If, fold-Print, fold-Name, fold-Name, fold-Number)

-- var x: 0..9;
-- var y: 0..9;
-- if x >= y then print 1; end
abbrev greater_or_equal : Program
greater_or_equal = record {
  declarations =
      Var (named (codes "x") 1) (range (pos 0) (pos 9)) 1 ∷
      Var (named (codes "y") 2) (range (pos 0) (pos 9)) 2 ∷ [];
  statements =
      If
      (record { left = Name (named (codes "x") 3); comparison = comparison.GreaterEqual; right = Name (named (codes "y") 3); line = 3 })
      (Print (Number (pos 1) 3) 3 ∷ []) [] 3 ∷ [];
}

pub greater_or_equal_code : program_code pocket greater_or_equal
    ≡ Ld 0 0 ∷ Ld 1 1 ∷ Blt 0 1 5 ∷ Ldi 0 (pos 1) ∷ Out 0 ∷ Halt ∷ []
greater_or_equal_code = rw (fold-If, fold-Print, fold-Name, fold-Name, fold-Number)

-- var x: 0..9;
-- var y: 0..9;
-- if x <> y then print 1; end
abbrev not_equal : Program
not_equal = record {
  declarations =
      Var (named (codes "x") 1) (range (pos 0) (pos 9)) 1 ∷
      Var (named (codes "y") 2) (range (pos 0) (pos 9)) 2 ∷ [];
  statements =
      If
      (record { left = Name (named (codes "x") 3); comparison = comparison.NotEqual; right = Name (named (codes "y") 3); line = 3 })
      (Print (Number (pos 1) 3) 3 ∷ []) [] 3 ∷ [];
}

pub not_equal_code : program_code pocket not_equal
    ≡ Ld 0 0 ∷ Ld 1 1 ∷ Beq 0 1 5 ∷ Ldi 0 (pos 1) ∷ Out 0 ∷ Halt ∷ []
not_equal_code = rw (fold-If, fold-Print, fold-Name, fold-Name, fold-Number)

-- var x: 0..9;
-- var y: 0..9;
-- if x <= 3 then print 1; else print 2; end
abbrev with_else : Program
with_else = record {
  declarations =
      Var (named (codes "x") 1) (range (pos 0) (pos 9)) 1 ∷
      Var (named (codes "y") 2) (range (pos 0) (pos 9)) 2 ∷ [];
  statements =
      If
      (record { left = Name (named (codes "x") 3); comparison = comparison.LessEqual; right = Number (pos 3) 3; line = 3 })
      (Print (Number (pos 1) 3) 3 ∷ []) (Print (Number (pos 2) 3) 3 ∷ []) 3 ∷ [];
}

pub with_else_code : program_code pocket with_else
    ≡ Ld 0 0 ∷ Ldi 1 (pos 3) ∷ Blt 1 0 6 ∷ Ldi 0 (pos 1) ∷ Out 0 ∷ Jmp 8 ∷ Ldi 0 (pos 2) ∷ Out 0 ∷ Halt ∷ []
with_else_code = rw (fold-If, fold-Print, fold-Print, fold-Name, fold-Number, fold-Number, fold-Number)

-- var x: 0..9;
-- var y: 0..9;
-- if x < 3 then print 1; else print 2; end
abbrev with_else_less : Program
with_else_less = record {
  declarations =
      Var (named (codes "x") 1) (range (pos 0) (pos 9)) 1 ∷
      Var (named (codes "y") 2) (range (pos 0) (pos 9)) 2 ∷ [];
  statements =
      If
      (record { left = Name (named (codes "x") 3); comparison = comparison.Less; right = Number (pos 3) 3; line = 3 })
      (Print (Number (pos 1) 3) 3 ∷ []) (Print (Number (pos 2) 3) 3 ∷ []) 3 ∷ [];
}

pub with_else_less_code : program_code pocket with_else_less
    ≡ Ld 0 0 ∷ Ldi 1 (pos 3) ∷ Blt 0 1 4 ∷ Jmp 7 ∷ Ldi 0 (pos 1) ∷ Out 0 ∷ Jmp 9 ∷ Ldi 0 (pos 2) ∷ Out 0 ∷
    Halt ∷ []
with_else_less_code = rw (fold-If, fold-Print, fold-Print, fold-Name, fold-Number, fold-Number, fold-Number)

-- an empty first list is jumped over:
-- var x: 0..9;
-- var y: 0..9;
-- if x = 3 then else print 2; end
abbrev empty_first : Program
empty_first = record {
  declarations =
      Var (named (codes "x") 1) (range (pos 0) (pos 9)) 1 ∷
      Var (named (codes "y") 2) (range (pos 0) (pos 9)) 2 ∷ [];
  statements =
      If
      (record { left = Name (named (codes "x") 3); comparison = comparison.Equal; right = Number (pos 3) 3; line = 3 })
      [] (Print (Number (pos 2) 3) 3 ∷ []) 3 ∷ [];
}

pub empty_first_code : program_code pocket empty_first
    ≡ Ld 0 0 ∷ Ldi 1 (pos 3) ∷ Beq 0 1 4 ∷ Jmp 5 ∷ Jmp 7 ∷ Ldi 0 (pos 2) ∷ Out 0 ∷ Halt ∷ []
empty_first_code = rw (fold-If, fold-Print, fold-Name, fold-Number, fold-Number)

-- if 1 = 3 then end
abbrev both_empty : Program
both_empty = record {
  declarations = [];
  statements =
      If (record { left = Number (pos 1) 1; comparison = comparison.Equal; right = Number (pos 3) 1; line = 1 })
      [] [] 1 ∷ [];
}

pub both_empty_code : program_code pocket both_empty
    ≡ Ldi 0 (pos 1) ∷ Ldi 1 (pos 3) ∷ Beq 0 1 4 ∷ Jmp 4 ∷ Halt ∷ []
both_empty_code = rw (fold-If, fold-Number, fold-Number)

-- var x: 0..9;
-- var y: 0..9;
-- if x = 1 then if y < 2 then print 1; else print 2; end
-- else if x >= y then print 3; end end
-- print 4;
abbrev nested : Program
nested = record {
  declarations =
      Var (named (codes "x") 1) (range (pos 0) (pos 9)) 1 ∷
      Var (named (codes "y") 2) (range (pos 0) (pos 9)) 2 ∷ [];
  statements =
      If
      (record { left = Name (named (codes "x") 3); comparison = comparison.Equal; right = Number (pos 1) 3; line = 3 })
      (If
      (record { left = Name (named (codes "y") 3); comparison = comparison.Less; right = Number (pos 2) 3; line = 3 })
      (Print (Number (pos 1) 3) 3 ∷ []) (Print (Number (pos 2) 3) 3 ∷ []) 3 ∷ [])
      (If
      (record { left = Name (named (codes "x") 4); comparison = comparison.GreaterEqual; right = Name (named (codes "y") 4); line = 4 })
      (Print (Number (pos 3) 4) 4 ∷ []) [] 4 ∷ []) 3 ∷
      Print (Number (pos 4) 5) 5 ∷ [];
}

pub nested_code : program_code pocket nested
    ≡ Ld 0 0 ∷ Ldi 1 (pos 1) ∷ Beq 0 1 4 ∷ Jmp 14 ∷ Ld 0 1 ∷ Ldi 1 (pos 2) ∷ Blt 0 1 8 ∷ Jmp 11 ∷
    Ldi 0 (pos 1) ∷ Out 0 ∷ Jmp 13 ∷ Ldi 0 (pos 2) ∷ Out 0 ∷ Jmp 19 ∷ Ld 0 0 ∷ Ld 1 1 ∷ Blt 0 1 19 ∷
    Ldi 0 (pos 3) ∷ Out 0 ∷ Ldi 0 (pos 4) ∷ Out 0 ∷ Halt ∷ []
nested_code =
    rw (fold-If, fold-If, fold-If, fold-Print, fold-Print) (rw (
      fold-Print,
      fold-Print,
      fold-Name,
      fold-Name,
      fold-Name,
    ) (rw (fold-Name, fold-Number, fold-Number, fold-Number, fold-Number)))
