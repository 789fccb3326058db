-- Worked rows of statements without jumps.
use Rattle.std.specs.Prelude.{◌≡◌, refl, [], ◌∷◌, pos, neg_ℤ, codes}
use Rattle.machine_table.specs.declared.instr.Instr.TheVariants.{Add, Chk, Halt, In, Ld, Ldi, Mac, Mul, Out, St, Stx, Sub}
use Rattle.source_tree.specs.declared.declaration.Program.{Program}
use Rattle.source_tree.specs.declared.declaration.Declaration.TheVariants.{Var, Array}
use Rattle.source_tree.specs.declared.expression.Operator.TheVariants as operator
use Rattle.source_tree.specs.declared.expression.Expr.{Number, Name, Binary}
use Rattle.source_tree.specs.declared.statement.Place.TheVariants as place
use Rattle.source_tree.specs.declared.statement.Statement.{Assign, Print, Read}
use Rattle.source_tree.proofs.FoldEquations.{fold-Number, fold-Name, fold-Binary, fold-Assign, fold-Print, fold-Read}
use Rattle.selector.specs.Programs.{program_code, program_data}
use Rattle.selector.proofs.RowsBasis.{named, range, pocket}

-- var x: 0..9;
-- x := 4;
-- print x * x - 20;
abbrev square_less_twenty : Program
square_less_twenty = record {
  declarations = Var (named (codes "x") 1) (range (pos 0) (pos 9)) 1 ∷ [];
  statements =
      Assign (place.Name (named (codes "x") 2)) (Number (pos 4) 2) 2 ∷
      Print
      (Binary (Binary (Name (named (codes "x") 3)) operator.Mul (Name (named (codes "x") 3)) 3) operator.Sub (Number (pos 20) 3) 3)
      3 ∷ [];
}

pub square_less_twenty_code : program_code pocket square_less_twenty
    ≡ Ldi 0 (pos 4) ∷ St 0 0 ∷ Ld 0 0 ∷ Ld 1 0 ∷ Mul 0 0 1 ∷ Ldi 1 (pos 20) ∷ Sub 0 0 1 ∷ Out 0 ∷ Halt ∷ []
square_less_twenty_code =
    rw (fold-Assign, fold-Print, fold-Binary, fold-Binary, fold-Name, fold-Number, fold-Number, fold-Number)

pub square_less_twenty_data : program_data pocket square_less_twenty ≡ pos 0 ∷ []
square_less_twenty_data = rw (fold-Assign, fold-Print)

-- print 1 + 2 * 3;
abbrev fused : Program
fused = record {
  declarations = [];
  statements =
      Print
      (Binary (Number (pos 1) 1) operator.Add (Binary (Number (pos 2) 1) operator.Mul (Number (pos 3) 1) 1) 1) 1 ∷ [];
}

pub fused_code : program_code pocket fused
    ≡ Ldi 0 (pos 1) ∷ Ldi 1 (pos 2) ∷ Ldi 2 (pos 3) ∷ Mac 0 1 2 ∷ Out 0 ∷ Halt ∷ []
fused_code = rw (fold-Print, fold-Binary, fold-Binary, fold-Number, fold-Number, fold-Number)

pub fused_data : program_data pocket fused ≡ []
fused_data = rw (fold-Print)

-- an empty source
abbrev nothing : Program
nothing = record { declarations = []; statements = [] }

pub nothing_code : program_code pocket nothing ≡ Halt ∷ []
nothing_code = refl

pub nothing_data : program_data pocket nothing ≡ []
nothing_data = refl

-- an interval that lies within the range, with one end in common:
-- var x: 0..9;
-- var y: 2..9;
-- x := y;
abbrev assigned_within : Program
assigned_within = record {
  declarations =
      Var (named (codes "x") 1) (range (pos 0) (pos 9)) 1 ∷
      Var (named (codes "y") 2) (range (pos 2) (pos 9)) 2 ∷ [];
  statements = Assign (place.Name (named (codes "x") 3)) (Name (named (codes "y") 3)) 3 ∷ [];
}

pub assigned_within_code : program_code pocket assigned_within ≡ Ld 0 1 ∷ St 0 0 ∷ Halt ∷ []
assigned_within_code = rw (fold-Assign, fold-Name, fold-Name)

pub assigned_within_data : program_data pocket assigned_within ≡ pos 0 ∷ pos 2 ∷ []
assigned_within_data = rw (fold-Assign)

-- one that merely meets it:
-- var x: 0..9;
-- var y: 5..12;
-- x := y;
abbrev assigned_above : Program
assigned_above = record {
  declarations =
      Var (named (codes "x") 1) (range (pos 0) (pos 9)) 1 ∷
      Var (named (codes "y") 2) (range (pos 5) (pos 12)) 2 ∷ [];
  statements = Assign (place.Name (named (codes "x") 3)) (Name (named (codes "y") 3)) 3 ∷ [];
}

pub assigned_above_code : program_code pocket assigned_above
    ≡ Ld 0 1 ∷ Chk 0 (pos 0) (pos 9) 3 ∷ St 0 0 ∷ Halt ∷ []
assigned_above_code = rw (fold-Assign, fold-Name, fold-Name)

pub assigned_above_data : program_data pocket assigned_above ≡ pos 0 ∷ pos 5 ∷ []
assigned_above_data = rw (fold-Assign)

-- var x: 0..9;
-- var y: -3..9;
-- x :=
-- y;
abbrev assigned_below : Program
assigned_below = record {
  declarations =
      Var (named (codes "x") 1) (range (pos 0) (pos 9)) 1 ∷
      Var (named (codes "y") 2) (range (neg_ℤ (pos 3)) (pos 9)) 2 ∷ [];
  statements = Assign (place.Name (named (codes "x") 3)) (Name (named (codes "y") 4)) 3 ∷ [];
}

pub assigned_below_code : program_code pocket assigned_below
    ≡ Ld 0 1 ∷ Chk 0 (pos 0) (pos 9) 3 ∷ St 0 0 ∷ Halt ∷ []
assigned_below_code = rw (fold-Assign, fold-Name, fold-Name)

pub assigned_below_data : program_data pocket assigned_below ≡ pos 0 ∷ pos 0 ∷ []
assigned_below_data = rw (fold-Assign)

-- var x: -9..-2;
-- x := 3 - 2;
abbrev assigned_outside : Program
assigned_outside = record {
  declarations = Var (named (codes "x") 1) (range (neg_ℤ (pos 9)) (neg_ℤ (pos 2))) 1 ∷ [];
  statements =
      Assign (place.Name (named (codes "x") 2)) (Binary (Number (pos 3) 2) operator.Sub (Number (pos 2) 2) 2) 2 ∷ [];
}

pub assigned_outside_code : program_code pocket assigned_outside
    ≡ Ldi 0 (pos 3) ∷ Ldi 1 (pos 2) ∷ Sub 0 0 1 ∷ Chk 0 (neg_ℤ (pos 9)) (neg_ℤ (pos 2)) 2 ∷ St 0 0 ∷ Halt ∷ []
assigned_outside_code =
    rw (fold-Assign, fold-Binary, fold-Binary, fold-Number, fold-Number, fold-Number, fold-Number)

pub assigned_outside_data : program_data pocket assigned_outside ≡ neg_ℤ (pos 2) ∷ []
assigned_outside_data = rw (fold-Assign)

-- the value comes before the index; the line is that of the statement:
-- var i: 0..9;
-- array a[4]: 1..9;
-- a[
-- i] := 1
-- + 8;
abbrev element_assigned : Program
element_assigned = record {
  declarations =
      Var (named (codes "i") 1) (range (pos 0) (pos 9)) 1 ∷
      Array (named (codes "a") 2) (pos 4) (range (pos 1) (pos 9)) 2 ∷ [];
  statements =
      Assign (place.Element (named (codes "a") 3) (Name (named (codes "i") 4)))
      (Binary (Number (pos 1) 4) operator.Add (Number (pos 8) 5) 5) 3 ∷ [];
}

pub element_assigned_code : program_code pocket element_assigned
    ≡ Ldi 0 (pos 1) ∷ Ldi 1 (pos 8) ∷ Add 0 0 1 ∷ Ld 1 0 ∷ Stx 0 1 1 4 3 ∷ Halt ∷ []
element_assigned_code =
    rw (fold-Assign, fold-Binary, fold-Binary, fold-Name, fold-Number, fold-Number, fold-Number, fold-Number)

pub element_assigned_data : program_data pocket element_assigned ≡ pos 0 ∷ pos 1 ∷ pos 1 ∷ pos 1 ∷ pos 1 ∷ []
element_assigned_data = rw (fold-Assign)

-- the range comes before the index:
-- var i: 0..9;
-- array a[4]: 1..9;
-- a[i + 1] := i;
abbrev element_checked : Program
element_checked = record {
  declarations =
      Var (named (codes "i") 1) (range (pos 0) (pos 9)) 1 ∷
      Array (named (codes "a") 2) (pos 4) (range (pos 1) (pos 9)) 2 ∷ [];
  statements =
      Assign
      (place.Element (named (codes "a") 3) (Binary (Name (named (codes "i") 3)) operator.Add (Number (pos 1) 3) 3))
      (Name (named (codes "i") 3)) 3 ∷ [];
}

pub element_checked_code : program_code pocket element_checked
    ≡ Ld 0 0 ∷ Chk 0 (pos 1) (pos 9) 3 ∷ Ld 1 0 ∷ Ldi 2 (pos 1) ∷ Add 1 1 2 ∷ Stx 0 1 1 4 3 ∷ Halt ∷ []
element_checked_code = rw (fold-Assign, fold-Binary, fold-Name, fold-Name, fold-Number)

pub element_checked_data : program_data pocket element_checked ≡ pos 0 ∷ pos 1 ∷ pos 1 ∷ pos 1 ∷ pos 1 ∷ []
element_checked_data = rw (fold-Assign)

-- var x: 3..9;
-- read
-- x;
abbrev variable_read : Program
variable_read = record {
  declarations = Var (named (codes "x") 1) (range (pos 3) (pos 9)) 1 ∷ [];
  statements = Read (place.Name (named (codes "x") 3)) 2 ∷ [];
}

pub variable_read_code : program_code pocket variable_read ≡ In 0 (pos 3) (pos 9) 2 ∷ St 0 0 ∷ Halt ∷ []
variable_read_code = rw (fold-Read)

pub variable_read_data : program_data pocket variable_read ≡ pos 3 ∷ []
variable_read_data = rw (fold-Read)

-- the line of the index is that of `a`:
-- var i: 0..9;
-- array a[4]: -7..9;
-- read
-- a[
-- i];
abbrev element_read : Program
element_read = record {
  declarations =
      Var (named (codes "i") 1) (range (pos 0) (pos 9)) 1 ∷
      Array (named (codes "a") 2) (pos 4) (range (neg_ℤ (pos 7)) (pos 9)) 2 ∷ [];
  statements = Read (place.Element (named (codes "a") 4) (Name (named (codes "i") 5))) 3 ∷ [];
}

pub element_read_code : program_code pocket element_read
    ≡ In 0 (neg_ℤ (pos 7)) (pos 9) 3 ∷ Ld 1 0 ∷ Stx 0 1 1 4 4 ∷ Halt ∷ []
element_read_code = rw (fold-Read, fold-Name)

pub element_read_data : program_data pocket element_read ≡ pos 0 ∷ pos 0 ∷ pos 0 ∷ pos 0 ∷ pos 0 ∷ []
element_read_data = rw (fold-Read)
