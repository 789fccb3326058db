-- Worked rows of the code of expressions, each computed from the definition.
use Rattle.std.specs.Prelude.{◌≡◌, [], ◌∷◌, pos, neg_ℤ, codes}
use Rattle.machine_table.specs.declared.instr.Instr.TheVariants.{Add, Div, Ld, Ldi, Ldx, Mac, Mod, Mul, Neg, Sub}
use Rattle.source_tree.specs.declared.expression.Operator.TheVariants as operator
use Rattle.source_tree.specs.declared.expression.Expr.{Number, Name, Element, Neg as Negated, Binary}
use Rattle.source_tree.proofs.FoldEquations.{fold-Number, fold-Name, fold-Element, fold-Neg, fold-Binary}
use Rattle.selector.specs.Expressions.{leaving}
use Rattle.selector.proofs.RowsBasis.{named, pocket, names}

-- 7
pub number : leaving pocket names (Number (pos 7) 1) 0 ≡ Ldi 0 (pos 7) ∷ []
number = rw (fold-Number)

-- y
pub variable : leaving pocket names (Name (named (codes "y") 1)) 0 ≡ Ld 0 5 ∷ []
variable = rw (fold-Name)

-- a[x]
pub element : leaving pocket names (Element (named (codes "a") 1) (Name (named (codes "x") 1))) 0
    ≡ Ld 0 0 ∷ Ldx 0 0 1 4 1 ∷ []
element = rw (fold-Element, fold-Name)

-- -(3): brackets leave no node
pub negated_number : leaving pocket names (Negated (Number (pos 3) 1) 1) 0 ≡ Ldi 0 (neg_ℤ (pos 3)) ∷ []
negated_number = rw (fold-Neg, fold-Number)

-- --3
pub negated_twice : leaving pocket names (Negated (Negated (Number (pos 3) 1) 1) 1) 0
    ≡ Ldi 0 (neg_ℤ (pos 3)) ∷ Neg 0 0 ∷ []
negated_twice = rw (fold-Neg, fold-Neg, fold-Number)

-- -y
pub negated_name : leaving pocket names (Negated (Name (named (codes "y") 1)) 1) 0 ≡ Ld 0 5 ∷ Neg 0 0 ∷ []
negated_name = rw (fold-Neg, fold-Name)

-- x + y
pub sum : leaving pocket names (Binary (Name (named (codes "x") 1)) operator.Add (Name (named (codes "y") 1)) 1) 0
    ≡ Ld 0 0 ∷ Ld 1 5 ∷ Add 0 0 1 ∷ []
sum = rw (fold-Binary, fold-Name, fold-Name)

-- x - y
pub difference : leaving pocket names (Binary (Name (named (codes "x") 1)) operator.Sub (Name (named (codes "y") 1)) 1) 0
    ≡ Ld 0 0 ∷ Ld 1 5 ∷ Sub 0 0 1 ∷ []
difference = rw (fold-Binary, fold-Name, fold-Name)

-- x * y
pub product : leaving pocket names (Binary (Name (named (codes "x") 1)) operator.Mul (Name (named (codes "y") 1)) 1) 0
    ≡ Ld 0 0 ∷ Ld 1 5 ∷ Mul 0 0 1 ∷ []
product = rw (fold-Binary, fold-Name, fold-Name)

-- x
-- div
-- y
-- the line is that of the operator
pub quotient : leaving pocket names (Binary (Name (named (codes "x") 1)) operator.Div (Name (named (codes "y") 3)) 2) 0
    ≡ Ld 0 0 ∷ Ld 1 5 ∷ Div 0 0 1 2 ∷ []
quotient = rw (fold-Binary, fold-Name, fold-Name)

-- x
-- mod
-- y
pub remainder : leaving pocket names (Binary (Name (named (codes "x") 1)) operator.Mod (Name (named (codes "y") 3)) 2) 0
    ≡ Ld 0 0 ∷ Ld 1 5 ∷ Mod 0 0 1 2 ∷ []
remainder = rw (fold-Binary, fold-Name, fold-Name)

-- x + y * 3
pub sum_with_a_product : leaving pocket names (Binary (Name (named (codes "x") 1)) operator.Add (Binary (Name (named (codes "y") 1)) operator.Mul (Number (pos 3) 1) 1) 1) 0
    ≡ Ld 0 0 ∷ Ld 1 5 ∷ Ldi 2 (pos 3) ∷ Mac 0 1 2 ∷ []
sum_with_a_product = rw (fold-Binary, fold-Binary, fold-Name, fold-Name, fold-Number)

-- y * 3 + x: only the right operand is fused
pub product_and_sum : leaving pocket names (Binary (Binary (Name (named (codes "y") 1)) operator.Mul (Number (pos 3) 1) 1) operator.Add (Name (named (codes "x") 1)) 1) 0
    ≡ Ld 0 5 ∷ Ldi 1 (pos 3) ∷ Mul 0 0 1 ∷ Ld 1 0 ∷ Add 0 0 1 ∷ []
product_and_sum = rw (fold-Binary, fold-Binary, fold-Name, fold-Name, fold-Number)

-- x - y * 3: a difference isn't
pub difference_with_a_product : leaving pocket names (Binary (Name (named (codes "x") 1)) operator.Sub (Binary (Name (named (codes "y") 1)) operator.Mul (Number (pos 3) 1) 1) 1) 0
    ≡ Ld 0 0 ∷ Ld 1 5 ∷ Ldi 2 (pos 3) ∷ Mul 1 1 2 ∷ Sub 0 0 1 ∷ []
difference_with_a_product = rw (fold-Binary, fold-Binary, fold-Name, fold-Name, fold-Number)

-- x + -(y * 3)
pub sum_with_a_negated_product : leaving pocket names (Binary (Name (named (codes "x") 1)) operator.Add (Negated (Binary (Name (named (codes "y") 1)) operator.Mul (Number (pos 3) 1) 1) 1) 1) 0
    ≡ Ld 0 0 ∷ Ld 1 5 ∷ Ldi 2 (pos 3) ∷ Mul 1 1 2 ∷ Neg 1 1 ∷ Add 0 0 1 ∷ []
sum_with_a_negated_product = rw (fold-Binary, fold-Neg, fold-Name, fold-Binary, fold-Name, fold-Number)

-- x + (y * 3)
pub sum_with_a_product_in_brackets : leaving pocket names (Binary (Name (named (codes "x") 1)) operator.Add (Binary (Name (named (codes "y") 1)) operator.Mul (Number (pos 3) 1) 1) 1) 0
    ≡ Ld 0 0 ∷ Ld 1 5 ∷ Ldi 2 (pos 3) ∷ Mac 0 1 2 ∷ []
sum_with_a_product_in_brackets = rw (fold-Binary, fold-Binary, fold-Name, fold-Name, fold-Number)

-- 1 + 2 * (3 + 4 * 5)
pub sum_in_a_fused_product : leaving pocket names (Binary (Number (pos 1) 1) operator.Add (Binary (Number (pos 2) 1) operator.Mul (Binary (Number (pos 3) 1) operator.Add (Binary (Number (pos 4) 1) operator.Mul (Number (pos 5) 1) 1) 1) 1) 1) 0
    ≡ Ldi 0 (pos 1) ∷ Ldi 1 (pos 2) ∷ Ldi 2 (pos 3) ∷ Ldi 3 (pos 4) ∷ Ldi 4 (pos 5) ∷ Mac 2 3 4 ∷ Mac 0 1 2 ∷ []
sum_in_a_fused_product =
    rw (
      fold-Binary,
      fold-Binary,
      fold-Binary,
      fold-Binary,
      fold-Number,
      fold-Number,
      fold-Number,
      fold-Number,
      fold-Number,
    )

-- (1 + 2) * (3 + 4)
pub product_of_sums : leaving pocket names (Binary (Binary (Number (pos 1) 1) operator.Add (Number (pos 2) 1) 1) operator.Mul (Binary (Number (pos 3) 1) operator.Add (Number (pos 4) 1) 1) 1) 0
    ≡ Ldi 0 (pos 1) ∷ Ldi 1 (pos 2) ∷ Add 0 0 1 ∷ Ldi 1 (pos 3) ∷ Ldi 2 (pos 4) ∷ Add 1 1 2 ∷ Mul 0 0 1 ∷ []
product_of_sums = rw (fold-Binary, fold-Binary, fold-Binary, fold-Number, fold-Number, fold-Number, fold-Number)

-- 1 + 2 * 3 * 4
pub product_of_three : leaving pocket names (Binary (Number (pos 1) 1) operator.Add (Binary (Binary (Number (pos 2) 1) operator.Mul (Number (pos 3) 1) 1) operator.Mul (Number (pos 4) 1) 1) 1) 0
    ≡ Ldi 0 (pos 1) ∷ Ldi 1 (pos 2) ∷ Ldi 2 (pos 3) ∷ Mul 1 1 2 ∷ Ldi 2 (pos 4) ∷ Mac 0 1 2 ∷ []
product_of_three =
    rw (fold-Binary, fold-Binary, fold-Binary, fold-Number, fold-Number, fold-Number, fold-Number)

-- a[a[x + 1]]
pub index_of_an_index : leaving pocket names (Element (named (codes "a") 1) (Element (named (codes "a") 1) (Binary (Name (named (codes "x") 1)) operator.Add (Number (pos 1) 1) 1))) 0
    ≡ Ld 0 0 ∷ Ldi 1 (pos 1) ∷ Add 0 0 1 ∷ Ldx 0 0 1 4 1 ∷ Ldx 0 0 1 4 1 ∷ []
index_of_an_index = rw (fold-Element, fold-Element, fold-Binary, fold-Name, fold-Number)
