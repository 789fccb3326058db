-- Worked rows of procedures and calls.
use Rattle.std.specs.Prelude.{◌≡◌, [], ◌∷◌, pos, neg_ℤ, codes}
use Rattle.machine_table.specs.declared.instr.Instr.TheVariants.{Add, Beq, Blt, Call, Chk, Halt, Jmp, Ld, Ldi, Out, Ret, St, Trp}
use Rattle.source_tree.specs.declared.declaration.Program.{Program}
use Rattle.source_tree.specs.declared.declaration.Declaration.TheVariants.{Var, Array, Proc}
use Rattle.source_tree.specs.declared.expression.Operator.TheVariants as operator
use Rattle.source_tree.specs.declared.expression.Comparison.TheVariants as comparison
use Rattle.source_tree.specs.declared.expression.Expr.{Number, Name, Binary}
use Rattle.source_tree.specs.declared.statement.Place.TheVariants as place
use Rattle.source_tree.specs.declared.statement.Statement.{Assign, Print, For, While, Call as Called}
use Rattle.source_tree.proofs.FoldEquations.{fold-Number, fold-Name, fold-Binary, fold-Assign, fold-Print, fold-For, fold-While, fold-Call}
use Rattle.selector.specs.Programs.{program_code, program_data, program_words, first_words}
use Rattle.selector.proofs.RowsBasis.{named, range, pocket}

-- a local is set anew at each call; the line of RET is that of `proc`, and that of a tested argument the call's:
-- var s: 0..90;
-- proc add(n: 0..9, m: 1..9)
--   var t: 2..50;
-- do
--   t := n + m;
--   s := t;
-- end
-- var i: 0..9;
-- for i := 1 to 3 do
--   add(i,
--     i + 1);
-- end
abbrev called_in_a_loop : Program
called_in_a_loop = record {
  declarations =
      Var (named (codes "s") 1) (range (pos 0) (pos 90)) 1 ∷
      Proc (named (codes "add") 2)
      (record { name = named (codes "n") 2; range = range (pos 0) (pos 9) } ∷
      record { name = named (codes "m") 2; range = range (pos 1) (pos 9) } ∷ [])
      (record { name = named (codes "t") 3; range = range (pos 2) (pos 50); line = 3 } ∷ [])
      (Assign (place.Name (named (codes "t") 5))
      (Binary (Name (named (codes "n") 5)) operator.Add (Name (named (codes "m") 5)) 5) 5 ∷
      Assign (place.Name (named (codes "s") 6)) (Name (named (codes "t") 6)) 6 ∷ []) 2 ∷
      Var (named (codes "i") 8) (range (pos 0) (pos 9)) 8 ∷ [];
  statements =
      For (named (codes "i") 9) (Number (pos 1) 9) (Number (pos 3) 9)
      (Called (named (codes "add") 10)
      (Name (named (codes "i") 10) ∷ Binary (Name (named (codes "i") 11)) operator.Add (Number (pos 1) 11) 11 ∷ [])
      10 ∷ []) 9 ∷ [];
}

pub called_in_a_loop_code : program_code pocket called_in_a_loop
    ≡ Jmp 11 ∷ Ldi 0 (pos 2) ∷ St 0 3 ∷ Ld 0 1 ∷ Ld 1 2 ∷ Add 0 0 1 ∷ Chk 0 (pos 2) (pos 50) 5 ∷ St 0 3 ∷
    Ld 0 3 ∷ St 0 0 ∷ Ret 2 ∷ Ldi 0 (pos 1) ∷ Ldi 1 (pos 3) ∷ Blt 1 0 32 ∷ St 0 5 ∷ St 1 6 ∷ St 0 4 ∷ Ld 0 4 ∷
    St 0 1 ∷ Ld 0 4 ∷ Ldi 1 (pos 1) ∷ Add 0 0 1 ∷ Chk 0 (pos 1) (pos 9) 10 ∷ St 0 2 ∷ Call 1 10 ∷ Ld 0 5 ∷
    Ld 1 6 ∷ Beq 0 1 32 ∷ Ldi 1 (pos 1) ∷ Add 0 0 1 ∷ St 0 5 ∷ Jmp 16 ∷ Halt ∷ []
called_in_a_loop_code =
    rw (fold-For, fold-Call, fold-Assign, fold-Assign, fold-Binary) (rw (
      fold-Binary,
      fold-Binary,
      fold-Binary,
      fold-Name,
      fold-Name,
    ) (rw (fold-Name, fold-Name, fold-Name, fold-Name, fold-Name) (rw (
      fold-Name,
      fold-Name,
      fold-Name,
      fold-Number,
      fold-Number,
    ) (rw (fold-Number, fold-Number, fold-Number, fold-Number)))))

pub called_in_a_loop_data : program_data pocket called_in_a_loop
    ≡ pos 0 ∷ pos 0 ∷ pos 1 ∷ pos 2 ∷ pos 0 ∷ pos 0 ∷ pos 0 ∷ []
called_in_a_loop_data = rw (fold-For, fold-Call, fold-Assign, fold-Assign)

pub called_in_a_loop_words : first_words pocket called_in_a_loop ≡ 0 ∷ 1 ∷ 1 ∷ 2 ∷ 3 ∷ 4 ∷ []
called_in_a_loop_words = rw (fold-Assign, fold-Assign)

pub called_in_a_loop_count : program_words pocket called_in_a_loop ≡ 7
called_in_a_loop_count = rw (fold-For, fold-Call, fold-Assign, fold-Assign)

-- words go in the order of the text: an array, a variable, a parameter, two locals and the word of the loop:
-- array a[3]: 7..9;
-- proc p() do print 1; end
-- var x: 0..9;
-- proc q(n: 0..9)
--   var l: -5..5;
--   var r: -5..-3;
-- do
--   while n < 3 limit 9 do n := 3; end
-- end
-- proc r() do q(4); p(); end
-- r();
-- q(x);
abbrev procedures_in_order : Program
procedures_in_order = record {
  declarations =
      Array (named (codes "a") 1) (pos 3) (range (pos 7) (pos 9)) 1 ∷
      Proc (named (codes "p") 2) [] [] (Print (Number (pos 1) 2) 2 ∷ []) 2 ∷
      Var (named (codes "x") 3) (range (pos 0) (pos 9)) 3 ∷
      Proc (named (codes "q") 4) (record { name = named (codes "n") 4; range = range (pos 0) (pos 9) } ∷ [])
      (record { name = named (codes "l") 5; range = range (neg_ℤ (pos 5)) (pos 5); line = 5 } ∷
      record { name = named (codes "r") 6; range = range (neg_ℤ (pos 5)) (neg_ℤ (pos 3)); line = 6 } ∷ [])
      (While
      (record { left = Name (named (codes "n") 8); comparison = comparison.Less; right = Number (pos 3) 8; line = 8 })
      (pos 9) (Assign (place.Name (named (codes "n") 8)) (Number (pos 3) 8) 8 ∷ []) 8 ∷ []) 4 ∷
      Proc (named (codes "r") 10) [] []
      (Called (named (codes "q") 10) (Number (pos 4) 10 ∷ []) 10 ∷ Called (named (codes "p") 10) [] 10 ∷ []) 10 ∷ [];
  statements =
      Called (named (codes "r") 11) [] 11 ∷
      Called (named (codes "q") 12) (Name (named (codes "x") 12) ∷ []) 12 ∷ [];
}

pub procedures_in_order_code : program_code pocket procedures_in_order
    ≡ Jmp 30 ∷ Ldi 0 (pos 1) ∷ Out 0 ∷ Ret 2 ∷ Ldi 0 (pos 0) ∷ St 0 5 ∷ Ldi 0 (neg_ℤ (pos 3)) ∷ St 0 6 ∷
    Ldi 0 (pos 0) ∷ St 0 7 ∷ Ld 0 4 ∷ Ldi 1 (pos 3) ∷ Blt 0 1 14 ∷ Jmp 24 ∷ Ld 0 7 ∷ Ldi 1 (pos 9) ∷
    Blt 0 1 18 ∷ Trp 5 8 ∷ Ldi 1 (pos 1) ∷ Add 0 0 1 ∷ St 0 7 ∷ Ldi 0 (pos 3) ∷ St 0 4 ∷ Jmp 10 ∷ Ret 4 ∷
    Ldi 0 (pos 4) ∷ St 0 4 ∷ Call 4 10 ∷ Call 1 10 ∷ Ret 10 ∷ Call 25 11 ∷ Ld 0 3 ∷ St 0 4 ∷ Call 4 12 ∷ Halt ∷
    []
procedures_in_order_code =
    rw (fold-While, fold-Call, fold-Call, fold-Call, fold-Call) (rw (
      fold-Assign,
      fold-Print,
      fold-Name,
      fold-Name,
      fold-Name,
    ) (rw (fold-Number, fold-Number, fold-Number, fold-Number, fold-Number)))

pub procedures_in_order_data : program_data pocket procedures_in_order
    ≡ pos 7 ∷ pos 7 ∷ pos 7 ∷ pos 0 ∷ pos 0 ∷ pos 0 ∷ neg_ℤ (pos 3) ∷ pos 0 ∷ []
procedures_in_order_data = rw (fold-While, fold-Call, fold-Call, fold-Call, fold-Call, fold-Assign, fold-Print)

pub procedures_in_order_words : first_words pocket procedures_in_order ≡ 0 ∷ 3 ∷ 3 ∷ 4 ∷ 4 ∷ 5 ∷ 6 ∷ 8 ∷ []
procedures_in_order_words = rw (fold-While, fold-Assign, fold-Print)

pub procedures_in_order_count : program_words pocket procedures_in_order ≡ 8
procedures_in_order_count = rw (fold-While, fold-Call, fold-Call, fold-Call, fold-Call, fold-Assign, fold-Print)
