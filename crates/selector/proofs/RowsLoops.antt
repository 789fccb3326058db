-- Worked rows of loops.
use Rattle.std.specs.Prelude.{◌≡◌, [], ◌∷◌, pos, neg_ℤ, codes}
use Rattle.machine_table.specs.declared.instr.Instr.TheVariants.{Add, Beq, Blt, Chk, Halt, Jmp, Ld, Ldi, Out, St, Trp}
use Rattle.source_tree.specs.declared.declaration.Program.{Program}
use Rattle.source_tree.specs.declared.declaration.Declaration.TheVariants.{Var}
use Rattle.source_tree.specs.declared.expression.Comparison.TheVariants as comparison
use Rattle.source_tree.specs.declared.expression.Expr.{Number, Name}
use Rattle.source_tree.specs.declared.statement.Statement.{Print, If, For, While}
use Rattle.source_tree.proofs.FoldEquations.{fold-Number, fold-Name, fold-Print, fold-If, fold-For, fold-While}
use Rattle.selector.specs.Programs.{program_code, program_data}
use Rattle.selector.proofs.RowsBasis.{named, range, pocket}

-- without a test, since both ends are in range:
-- var i: 0..9;
-- for i := 1 to 3 do print i; end
abbrev counting : Program
counting = record {
  declarations = Var (named (codes "i") 1) (range (pos 0) (pos 9)) 1 ∷ [];
  statements =
      For (named (codes "i") 2) (Number (pos 1) 2) (Number (pos 3) 2)
      (Print (Name (named (codes "i") 2)) 2 ∷ []) 2 ∷ [];
}

pub counting_code : program_code pocket counting
    ≡ Ldi 0 (pos 1) ∷ Ldi 1 (pos 3) ∷ Blt 1 0 15 ∷ St 0 1 ∷ St 1 2 ∷ St 0 0 ∷ Ld 0 0 ∷ Out 0 ∷ Ld 0 1 ∷ Ld 1 2 ∷
    Beq 0 1 15 ∷ Ldi 1 (pos 1) ∷ Add 0 0 1 ∷ St 0 1 ∷ Jmp 5 ∷ Halt ∷ []
counting_code = rw (fold-For, fold-Print, fold-Name, fold-Number, fold-Number, fold-Number, fold-Number)

pub counting_data : program_data pocket counting ≡ pos 0 ∷ pos 0 ∷ pos 0 ∷ []
counting_data = rw (fold-For, fold-Print)

-- var i: 0..9;
-- for i :=
-- 8 to 12 do end
abbrev tested_by_the_high_bound : Program
tested_by_the_high_bound = record {
  declarations = Var (named (codes "i") 1) (range (pos 0) (pos 9)) 1 ∷ [];
  statements = For (named (codes "i") 2) (Number (pos 8) 3) (Number (pos 12) 3) [] 2 ∷ [];
}

pub tested_by_the_high_bound_code : program_code pocket tested_by_the_high_bound
    ≡ Ldi 0 (pos 8) ∷ Ldi 1 (pos 12) ∷ Blt 1 0 14 ∷ St 0 1 ∷ St 1 2 ∷ Chk 0 (pos 0) (pos 9) 2 ∷ St 0 0 ∷
    Ld 0 1 ∷ Ld 1 2 ∷ Beq 0 1 14 ∷ Ldi 1 (pos 1) ∷ Add 0 0 1 ∷ St 0 1 ∷ Jmp 5 ∷ Halt ∷ []
tested_by_the_high_bound_code = rw (fold-For, fold-Number, fold-Number, fold-Number, fold-Number)

pub tested_by_the_high_bound_data : program_data pocket tested_by_the_high_bound ≡ pos 0 ∷ pos 0 ∷ pos 0 ∷ []
tested_by_the_high_bound_data = rw (fold-For)

-- var i: 3..9;
-- var n: 2..9;
-- for i := n to 5 do end
abbrev tested_by_the_low_bound : Program
tested_by_the_low_bound = record {
  declarations =
      Var (named (codes "i") 1) (range (pos 3) (pos 9)) 1 ∷
      Var (named (codes "n") 2) (range (pos 2) (pos 9)) 2 ∷ [];
  statements = For (named (codes "i") 3) (Name (named (codes "n") 3)) (Number (pos 5) 3) [] 3 ∷ [];
}

pub tested_by_the_low_bound_code : program_code pocket tested_by_the_low_bound
    ≡ Ld 0 1 ∷ Ldi 1 (pos 5) ∷ Blt 1 0 14 ∷ St 0 2 ∷ St 1 3 ∷ Chk 0 (pos 3) (pos 9) 3 ∷ St 0 0 ∷ Ld 0 2 ∷
    Ld 1 3 ∷ Beq 0 1 14 ∷ Ldi 1 (pos 1) ∷ Add 0 0 1 ∷ St 0 2 ∷ Jmp 5 ∷ Halt ∷ []
tested_by_the_low_bound_code = rw (fold-For, fold-Name, fold-Name, fold-Number)

pub tested_by_the_low_bound_data : program_data pocket tested_by_the_low_bound
    ≡ pos 3 ∷ pos 2 ∷ pos 0 ∷ pos 0 ∷ []
tested_by_the_low_bound_data = rw (fold-For)

-- neither the high bound of the first nor the low bound of the last counts:
-- var i: 3..9;
-- var m: 3..50;
-- var n: -50..9;
-- for i := m to n do end
abbrev not_tested : Program
not_tested = record {
  declarations =
      Var (named (codes "i") 1) (range (pos 3) (pos 9)) 1 ∷
      Var (named (codes "m") 2) (range (pos 3) (pos 50)) 2 ∷
      Var (named (codes "n") 3) (range (neg_ℤ (pos 50)) (pos 9)) 3 ∷ [];
  statements = For (named (codes "i") 4) (Name (named (codes "m") 4)) (Name (named (codes "n") 4)) [] 4 ∷ [];
}

pub not_tested_code : program_code pocket not_tested
    ≡ Ld 0 1 ∷ Ld 1 2 ∷ Blt 1 0 13 ∷ St 0 3 ∷ St 1 4 ∷ St 0 0 ∷ Ld 0 3 ∷ Ld 1 4 ∷ Beq 0 1 13 ∷ Ldi 1 (pos 1) ∷
    Add 0 0 1 ∷ St 0 3 ∷ Jmp 5 ∷ Halt ∷ []
not_tested_code = rw (fold-For, fold-Name, fold-Name, fold-Name, fold-Name)

pub not_tested_data : program_data pocket not_tested ≡ pos 3 ∷ pos 3 ∷ pos 0 ∷ pos 0 ∷ pos 0 ∷ []
not_tested_data = rw (fold-For)

-- its first integer lies above its last one:
-- var i: 0..9;
-- for i := 20 to 10 do end
abbrev tested_though_it_never_turns : Program
tested_though_it_never_turns = record {
  declarations = Var (named (codes "i") 1) (range (pos 0) (pos 9)) 1 ∷ [];
  statements = For (named (codes "i") 2) (Number (pos 20) 2) (Number (pos 10) 2) [] 2 ∷ [];
}

pub tested_though_it_never_turns_code : program_code pocket tested_though_it_never_turns
    ≡ Ldi 0 (pos 20) ∷ Ldi 1 (pos 10) ∷ Blt 1 0 14 ∷ St 0 1 ∷ St 1 2 ∷ Chk 0 (pos 0) (pos 9) 2 ∷ St 0 0 ∷
    Ld 0 1 ∷ Ld 1 2 ∷ Beq 0 1 14 ∷ Ldi 1 (pos 1) ∷ Add 0 0 1 ∷ St 0 1 ∷ Jmp 5 ∷ Halt ∷ []
tested_though_it_never_turns_code = rw (fold-For, fold-Number, fold-Number, fold-Number, fold-Number)

pub tested_though_it_never_turns_data : program_data pocket tested_though_it_never_turns
    ≡ pos 0 ∷ pos 0 ∷ pos 0 ∷ []
tested_though_it_never_turns_data = rw (fold-For)

-- var i: 0..9;
-- for i := 20 to 5 do end
abbrev not_tested_though_it_never_turns : Program
not_tested_though_it_never_turns = record {
  declarations = Var (named (codes "i") 1) (range (pos 0) (pos 9)) 1 ∷ [];
  statements = For (named (codes "i") 2) (Number (pos 20) 2) (Number (pos 5) 2) [] 2 ∷ [];
}

pub not_tested_though_it_never_turns_code : program_code pocket not_tested_though_it_never_turns
    ≡ Ldi 0 (pos 20) ∷ Ldi 1 (pos 5) ∷ Blt 1 0 13 ∷ St 0 1 ∷ St 1 2 ∷ St 0 0 ∷ Ld 0 1 ∷ Ld 1 2 ∷ Beq 0 1 13 ∷
    Ldi 1 (pos 1) ∷ Add 0 0 1 ∷ St 0 1 ∷ Jmp 5 ∷ Halt ∷ []
not_tested_though_it_never_turns_code = rw (fold-For, fold-Number, fold-Number, fold-Number, fold-Number)

pub not_tested_though_it_never_turns_data : program_data pocket not_tested_though_it_never_turns
    ≡ pos 0 ∷ pos 0 ∷ pos 0 ∷ []
not_tested_though_it_never_turns_data = rw (fold-For)

-- var x: 0..9;
-- while
-- x < 3 limit 5 do print x; end
abbrev turning : Program
turning = record {
  declarations = Var (named (codes "x") 1) (range (pos 0) (pos 9)) 1 ∷ [];
  statements =
      While
      (record { left = Name (named (codes "x") 3); comparison = comparison.Less; right = Number (pos 3) 3; line = 3 })
      (pos 5) (Print (Name (named (codes "x") 3)) 3 ∷ []) 2 ∷ [];
}

pub turning_code : program_code pocket turning
    ≡ Ldi 0 (pos 0) ∷ St 0 1 ∷ Ld 0 0 ∷ Ldi 1 (pos 3) ∷ Blt 0 1 6 ∷ Jmp 16 ∷ Ld 0 1 ∷ Ldi 1 (pos 5) ∷
    Blt 0 1 10 ∷ Trp 5 2 ∷ Ldi 1 (pos 1) ∷ Add 0 0 1 ∷ St 0 1 ∷ Ld 0 0 ∷ Out 0 ∷ Jmp 2 ∷ Halt ∷ []
turning_code = rw (fold-While, fold-Print, fold-Name, fold-Number)

pub turning_data : program_data pocket turning ≡ pos 0 ∷ pos 0 ∷ []
turning_data = rw (fold-While, fold-Print)

-- var x: 0..9;
-- while x <> 3 limit 5 do end
abbrev turning_while_unequal : Program
turning_while_unequal = record {
  declarations = Var (named (codes "x") 1) (range (pos 0) (pos 9)) 1 ∷ [];
  statements =
      While
      (record { left = Name (named (codes "x") 2); comparison = comparison.NotEqual; right = Number (pos 3) 2; line = 2 })
      (pos 5) [] 2 ∷ [];
}

pub turning_while_unequal_code : program_code pocket turning_while_unequal
    ≡ Ldi 0 (pos 0) ∷ St 0 1 ∷ Ld 0 0 ∷ Ldi 1 (pos 3) ∷ Beq 0 1 13 ∷ Ld 0 1 ∷ Ldi 1 (pos 5) ∷ Blt 0 1 9 ∷
    Trp 5 2 ∷ Ldi 1 (pos 1) ∷ Add 0 0 1 ∷ St 0 1 ∷ Jmp 2 ∷ Halt ∷ []
turning_while_unequal_code = rw (fold-While, fold-Name, fold-Number)

pub turning_while_unequal_data : program_data pocket turning_while_unequal ≡ pos 0 ∷ pos 0 ∷ []
turning_while_unequal_data = rw (fold-While)

-- a loop has its words where it begins, before those of the loops in it:
-- var i: 0..9;
-- var j: 0..9;
-- for i := 0 to 1 do
-- while i < 1 limit 2 do for j := 0 to 1 do end end
-- for j := 2 to 3 do end
-- end
-- while 1 < 0 limit 1 do end
abbrev loops_in_loops : Program
loops_in_loops = record {
  declarations =
      Var (named (codes "i") 1) (range (pos 0) (pos 9)) 1 ∷
      Var (named (codes "j") 2) (range (pos 0) (pos 9)) 2 ∷ [];
  statements =
      For (named (codes "i") 3) (Number (pos 0) 3) (Number (pos 1) 3)
      (While
      (record { left = Name (named (codes "i") 4); comparison = comparison.Less; right = Number (pos 1) 4; line = 4 })
      (pos 2) (For (named (codes "j") 4) (Number (pos 0) 4) (Number (pos 1) 4) [] 4 ∷ []) 4 ∷
      For (named (codes "j") 5) (Number (pos 2) 5) (Number (pos 3) 5) [] 5 ∷ []) 3 ∷
      While
      (record { left = Number (pos 1) 7; comparison = comparison.Less; right = Number (pos 0) 7; line = 7 })
      (pos 1) [] 7 ∷ [];
}

pub loops_in_loops_code : program_code pocket loops_in_loops
    ≡ Ldi 0 (pos 0) ∷ Ldi 1 (pos 1) ∷ Blt 1 0 53 ∷ St 0 2 ∷ St 1 3 ∷ St 0 0 ∷ Ldi 0 (pos 0) ∷ St 0 4 ∷ Ld 0 0 ∷
    Ldi 1 (pos 1) ∷ Blt 0 1 12 ∷ Jmp 33 ∷ Ld 0 4 ∷ Ldi 1 (pos 2) ∷ Blt 0 1 16 ∷ Trp 5 4 ∷ Ldi 1 (pos 1) ∷
    Add 0 0 1 ∷ St 0 4 ∷ Ldi 0 (pos 0) ∷ Ldi 1 (pos 1) ∷ Blt 1 0 32 ∷ St 0 5 ∷ St 1 6 ∷ St 0 1 ∷ Ld 0 5 ∷
    Ld 1 6 ∷ Beq 0 1 32 ∷ Ldi 1 (pos 1) ∷ Add 0 0 1 ∷ St 0 5 ∷ Jmp 24 ∷ Jmp 8 ∷ Ldi 0 (pos 2) ∷ Ldi 1 (pos 3) ∷
    Blt 1 0 46 ∷ St 0 7 ∷ St 1 8 ∷ St 0 1 ∷ Ld 0 7 ∷ Ld 1 8 ∷ Beq 0 1 46 ∷ Ldi 1 (pos 1) ∷ Add 0 0 1 ∷ St 0 7 ∷
    Jmp 38 ∷ Ld 0 2 ∷ Ld 1 3 ∷ Beq 0 1 53 ∷ Ldi 1 (pos 1) ∷ Add 0 0 1 ∷ St 0 2 ∷ Jmp 5 ∷ Ldi 0 (pos 0) ∷
    St 0 9 ∷ Ldi 0 (pos 1) ∷ Ldi 1 (pos 0) ∷ Blt 0 1 59 ∷ Jmp 67 ∷ Ld 0 9 ∷ Ldi 1 (pos 1) ∷ Blt 0 1 63 ∷
    Trp 5 7 ∷ Ldi 1 (pos 1) ∷ Add 0 0 1 ∷ St 0 9 ∷ Jmp 55 ∷ Halt ∷ []
loops_in_loops_code =
    rw (fold-For, fold-For, fold-While, fold-While, fold-Name) (rw (
      fold-Number,
      fold-Number,
      fold-Number,
      fold-Number,
      fold-Number,
    ) (rw (
      fold-Number,
      fold-Number,
      fold-Number,
      fold-Number,
      fold-Number,
    ) (rw (fold-Number, fold-For, fold-Number, fold-Number, fold-Number) (rw (fold-Number)))))

pub loops_in_loops_data : program_data pocket loops_in_loops
    ≡ pos 0 ∷ pos 0 ∷ pos 0 ∷ pos 0 ∷ pos 0 ∷ pos 0 ∷ pos 0 ∷ pos 0 ∷ pos 0 ∷ pos 0 ∷ []
loops_in_loops_data = rw (fold-For, fold-For, fold-While, fold-While, fold-For)

-- the words of the first list come before those of the second:
-- if 1 < 2 then while 3 < 4 limit 5 do end
-- else while 6 > 7 limit 8 do end end
abbrev loops_in_branches : Program
loops_in_branches = record {
  declarations = [];
  statements =
      If (record { left = Number (pos 1) 1; comparison = comparison.Less; right = Number (pos 2) 1; line = 1 })
      (While
      (record { left = Number (pos 3) 1; comparison = comparison.Less; right = Number (pos 4) 1; line = 1 })
      (pos 5) [] 1 ∷ [])
      (While
      (record { left = Number (pos 6) 2; comparison = comparison.Greater; right = Number (pos 7) 2; line = 2 })
      (pos 8) [] 2 ∷ []) 1 ∷ [];
}

pub loops_in_branches_code : program_code pocket loops_in_branches
    ≡ Ldi 0 (pos 1) ∷ Ldi 1 (pos 2) ∷ Blt 0 1 4 ∷ Jmp 19 ∷ Ldi 0 (pos 0) ∷ St 0 0 ∷ Ldi 0 (pos 3) ∷
    Ldi 1 (pos 4) ∷ Blt 0 1 10 ∷ Jmp 18 ∷ Ld 0 0 ∷ Ldi 1 (pos 5) ∷ Blt 0 1 14 ∷ Trp 5 1 ∷ Ldi 1 (pos 1) ∷
    Add 0 0 1 ∷ St 0 0 ∷ Jmp 6 ∷ Jmp 33 ∷ Ldi 0 (pos 0) ∷ St 0 1 ∷ Ldi 0 (pos 6) ∷ Ldi 1 (pos 7) ∷ Blt 1 0 25 ∷
    Jmp 33 ∷ Ld 0 1 ∷ Ldi 1 (pos 8) ∷ Blt 0 1 29 ∷ Trp 5 2 ∷ Ldi 1 (pos 1) ∷ Add 0 0 1 ∷ St 0 1 ∷ Jmp 21 ∷
    Halt ∷ []
loops_in_branches_code =
    rw (
      fold-If,
      fold-Number,
      fold-Number,
      fold-While,
      fold-While,
      fold-Number,
      fold-Number,
      fold-Number,
      fold-Number,
    )

pub loops_in_branches_data : program_data pocket loops_in_branches ≡ pos 0 ∷ pos 0 ∷ []
loops_in_branches_data = rw (fold-If, fold-While, fold-While)
