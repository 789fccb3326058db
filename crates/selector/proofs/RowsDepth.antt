-- Worked rows of expressions that want register 16.
use Rattle.std.specs.Prelude.{◌≡◌, ℕ, zero, suc, pos, codes, Some, None}
use Rattle.source_tree.specs.declared.expression.Operator.{Operator}
use Rattle.source_tree.specs.declared.expression.Operator.TheVariants as operator
use Rattle.source_tree.specs.declared.expression.Expr.{Expr, Number, Name, Element, Neg, Binary}
use Rattle.source_tree.proofs.FoldEquations.{fold-Number, fold-Name, fold-Element, fold-Neg, fold-Binary}
use Rattle.selector.specs.Depth.{too_deep}
use Rattle.selector.proofs.RowsBasis.{named, pocket}

-- numbers and a name in lines of their own
abbrev l : Expr
l = Number (pos 1) 11

abbrev m : Expr
m = Number (pos 2) 12

abbrev p : Expr
p = Number (pos 3) 13

abbrev x : Expr
x = Name (named (codes "x") 14)

-- 1 o (1 o (.. e)), with n numbers 1, in line 1
abbrev pub rightward : ℕ → Operator → Expr → Expr
rightward zero o e = e
rightward (suc n) o e = Binary (Number (pos 1) 1) o (rightward n o e) 1

-- ((e o 1) o 1) .., with n numbers 1, in line 1
abbrev pub leftward : ℕ → Operator → Expr → Expr
leftward zero o e = e
leftward (suc n) o e = Binary (leftward n o e) o (Number (pos 1) 1) 1

-- ---- one node
pub number_at_15 : too_deep pocket l 15 ≡ None
number_at_15 = simp fold-Number

pub number_at_16 : too_deep pocket l 16 ≡ Some 11
number_at_16 = simp fold-Number

pub name_at_16 : too_deep pocket x 16 ≡ Some 14
name_at_16 = simp fold-Name

pub negation_at_15 : too_deep pocket (Neg x 2) 15 ≡ None
negation_at_15 = simp (fold-Neg, fold-Name)

-- the line of the minus, since its operand comes after it
pub negation_at_16 : too_deep pocket (Neg x 2) 16 ≡ Some 2
negation_at_16 = simp (fold-Neg, fold-Name)

pub element_at_15 : too_deep pocket (Element (named (codes "a") 2) x) 15 ≡ None
element_at_15 = simp (fold-Element, fold-Name)

pub element_at_16 : too_deep pocket (Element (named (codes "a") 2) x) 16 ≡ Some 2
element_at_16 = simp (fold-Element, fold-Name)

pub index_at_15 : too_deep pocket (Element (named (codes "a") 2) (Binary l operator.Add m 3)) 15 ≡ Some 12
index_at_15 = simp (fold-Element, fold-Binary, fold-Number)

-- ---- the right operand wants one register more
pub sum_at_14 : too_deep pocket (Binary l operator.Add m 2) 14 ≡ None
sum_at_14 = simp (fold-Binary, fold-Number)

pub sum_at_15 : too_deep pocket (Binary l operator.Add m 2) 15 ≡ Some 12
sum_at_15 = simp (fold-Binary, fold-Number)

pub sum_at_16 : too_deep pocket (Binary l operator.Add m 2) 16 ≡ Some 2
sum_at_16 = simp (fold-Binary, fold-Number)

pub difference_at_15 : too_deep pocket (Binary l operator.Sub m 2) 15 ≡ Some 12
difference_at_15 = simp (fold-Binary, fold-Number)

pub product_at_15 : too_deep pocket (Binary l operator.Mul m 2) 15 ≡ Some 12
product_at_15 = simp (fold-Binary, fold-Number)

pub remainder_at_15 : too_deep pocket (Binary l operator.Mod (Number (pos 13) 12) 2) 15 ≡ Some 12
remainder_at_15 = simp (fold-Binary, fold-Number)

-- ---- a quotient by 14, and one that is scaled
pub quotient_at_14 : too_deep pocket (Binary l operator.Div (Number (pos 14) 12) 2) 14 ≡ None
quotient_at_14 = simp (fold-Binary, fold-Number)

pub quotient_at_15 : too_deep pocket (Binary l operator.Div (Number (pos 14) 12) 2) 15 ≡ Some 12
quotient_at_15 = simp (fold-Binary, fold-Number)

pub scaled_at_15 : too_deep pocket (Binary l operator.Div (Number (pos 13) 12) 2) 15 ≡ None
scaled_at_15 = simp (fold-Binary, fold-Number)

pub scaled_at_16 : too_deep pocket (Binary l operator.Div (Number (pos 13) 12) 2) 16 ≡ Some 2
scaled_at_16 = simp (fold-Binary, fold-Number)

pub quotient_by_a_sum_at_15 : too_deep pocket (Binary l operator.Div (Binary m operator.Add p 3) 2) 15 ≡ Some 3
quotient_by_a_sum_at_15 = simp (fold-Binary, fold-Number)

pub quotient_by_a_sum_at_14 : too_deep pocket (Binary l operator.Div (Binary m operator.Add p 3) 2) 14 ≡ Some 13
quotient_by_a_sum_at_14 = simp (fold-Binary, fold-Number)

-- ---- l + m * p asks for no code of its product; the others do
pub fused_at_13 : too_deep pocket (Binary l operator.Add (Binary m operator.Mul p 3) 2) 13 ≡ None
fused_at_13 = simp (fold-Binary, fold-Number)

pub fused_at_14 : too_deep pocket (Binary l operator.Add (Binary m operator.Mul p 3) 2) 14 ≡ Some 13
fused_at_14 = simp (fold-Binary, fold-Number)

pub fused_at_15 : too_deep pocket (Binary l operator.Add (Binary m operator.Mul p 3) 2) 15 ≡ Some 12
fused_at_15 = simp (fold-Binary, fold-Number)

pub unfused_at_15 : too_deep pocket (Binary l operator.Sub (Binary m operator.Mul p 3) 2) 15 ≡ Some 3
unfused_at_15 = simp (fold-Binary, fold-Number)

pub product_first_at_15 : too_deep pocket (Binary (Binary m operator.Mul p 3) operator.Add l 2) 15 ≡ Some 13
product_first_at_15 = simp (fold-Binary, fold-Number)

-- ---- chains
-- fifteen registers, and the last one
pub rightward_15 : too_deep pocket (rightward 15 operator.Add x) 0 ≡ None
rightward_15 = simp (fold-Binary, fold-Number, fold-Name)

pub rightward_16 : too_deep pocket (rightward 16 operator.Add x) 0 ≡ Some 14
rightward_16 = simp (fold-Binary, fold-Number, fold-Name)

-- what leans to the left wants two registers, however long it is
pub leftward_40 : too_deep pocket (leftward 40 operator.Sub x) 14 ≡ None
leftward_40 = simp (fold-Binary, fold-Number, fold-Name)

pub leftward_40_at_15 : too_deep pocket (leftward 40 operator.Sub x) 15 ≡ Some 1
leftward_40_at_15 = simp (fold-Binary, fold-Number, fold-Name)

-- the first in the order of the code: the sum at its end stands in line 3, and what it begins with in line 1
pub leftward_in_rightward : too_deep pocket (rightward 15 operator.Sub (Binary (leftward 2 operator.Sub x) operator.Add l 3)) 0 ≡ Some 1
leftward_in_rightward = simp (fold-Binary, fold-Number, fold-Name)
