-- Worked rows of quotients by numbers.
use Rattle.std.specs.Prelude.{◌≡◌, [], ◌∷◌, pos, neg_ℤ, codes}
use Rattle.machine_table.specs.declared.instr.Instr.TheVariants.{Add, Div, Ld, Ldi, Mod, Scl}
use Rattle.source_tree.specs.declared.expression.Operator.TheVariants as operator
use Rattle.source_tree.specs.declared.expression.Expr.{Number, Name, Neg as Negated, Binary}
use Rattle.source_tree.proofs.FoldEquations.{fold-Number, fold-Name, fold-Neg, fold-Binary}
use Rattle.selector.specs.Expressions.{leaving}
use Rattle.selector.proofs.RowsBasis.{named, pocket, desk, names}

-- x div 13
pub by_one_channel : leaving pocket names (Binary (Name (named (codes "x") 1)) operator.Div (Number (pos 13) 1) 1) 0
    ≡ Ld 0 0 ∷ Scl 0 0 0 ∷ []
by_one_channel = rw (fold-Binary, fold-Name, fold-Number)

-- x div 15
pub by_the_other : leaving pocket names (Binary (Name (named (codes "x") 1)) operator.Div (Number (pos 15) 1) 1) 0
    ≡ Ld 0 0 ∷ Scl 0 0 1 ∷ []
by_the_other = rw (fold-Binary, fold-Name, fold-Number)

-- x div (13)
pub by_a_number_in_brackets : leaving pocket names (Binary (Name (named (codes "x") 1)) operator.Div (Number (pos 13) 1) 1) 0
    ≡ Ld 0 0 ∷ Scl 0 0 0 ∷ []
by_a_number_in_brackets = rw (fold-Binary, fold-Name, fold-Number)

-- x div 195: 195 is 13 * 15, and no constant of `pocket`
pub by_two_channels : leaving pocket names (Binary (Name (named (codes "x") 1)) operator.Div (Number (pos 195) 1) 1) 0
    ≡ Ld 0 0 ∷ Scl 0 0 0 ∷ Scl 0 0 1 ∷ []
by_two_channels = rw (fold-Binary, fold-Name, fold-Number)

-- x div 169
pub by_one_twice : leaving pocket names (Binary (Name (named (codes "x") 1)) operator.Div (Number (pos 169) 1) 1) 0
    ≡ Ld 0 0 ∷ Scl 0 0 0 ∷ Scl 0 0 0 ∷ []
by_one_twice = rw (fold-Binary, fold-Name, fold-Number)

-- x div 815730721: 13 to the 8th
pub by_eight : leaving pocket names (Binary (Name (named (codes "x") 1)) operator.Div (Number (pos 815730721) 1) 1) 0
    ≡ Ld 0 0 ∷ Scl 0 0 0 ∷ Scl 0 0 0 ∷ Scl 0 0 0 ∷ Scl 0 0 0 ∷ Scl 0 0 0 ∷ Scl 0 0 0 ∷ Scl 0 0 0 ∷ Scl 0 0 0 ∷
    []
by_eight = rw (fold-Binary, fold-Name, fold-Number)

-- x div 1668346875: 13 * 13 * 13 and 15 to the 5th
pub by_eight_of_two : leaving pocket names (Binary (Name (named (codes "x") 1)) operator.Div (Number (pos 1668346875) 1) 1) 0
    ≡ Ld 0 0 ∷ Scl 0 0 0 ∷ Scl 0 0 0 ∷ Scl 0 0 0 ∷ Scl 0 0 1 ∷ Scl 0 0 1 ∷ Scl 0 0 1 ∷ Scl 0 0 1 ∷ Scl 0 0 1 ∷
    []
by_eight_of_two = rw (fold-Binary, fold-Name, fold-Number)

-- x
-- div 10604499373
-- 13 to the 9th
pub by_nine : leaving pocket names (Binary (Name (named (codes "x") 1)) operator.Div (Number (pos 10604499373) 2) 2) 0
    ≡ Ld 0 0 ∷ Ldi 1 (pos 10604499373) ∷ Div 0 0 1 2 ∷ []
by_nine = rw (fold-Binary, fold-Name, fold-Number)

-- x
-- div 21688509375
-- 13 to the 4th and 15 to the 5th
pub by_nine_of_two : leaving pocket names (Binary (Name (named (codes "x") 1)) operator.Div (Number (pos 21688509375) 2) 2) 0
    ≡ Ld 0 0 ∷ Ldi 1 (pos 21688509375) ∷ Div 0 0 1 2 ∷ []
by_nine_of_two = rw (fold-Binary, fold-Name, fold-Number)

-- x div 26: 13 * 2
pub by_no_product : leaving pocket names (Binary (Name (named (codes "x") 1)) operator.Div (Number (pos 26) 1) 1) 0
    ≡ Ld 0 0 ∷ Ldi 1 (pos 26) ∷ Div 0 0 1 1 ∷ []
by_no_product = rw (fold-Binary, fold-Name, fold-Number)

-- x div 16
pub by_a_redundant_modulus : leaving pocket names (Binary (Name (named (codes "x") 1)) operator.Div (Number (pos 16) 1) 1) 0
    ≡ Ld 0 0 ∷ Ldi 1 (pos 16) ∷ Div 0 0 1 1 ∷ []
by_a_redundant_modulus = rw (fold-Binary, fold-Name, fold-Number)

-- x div 1
pub by_one : leaving pocket names (Binary (Name (named (codes "x") 1)) operator.Div (Number (pos 1) 1) 1) 0
    ≡ Ld 0 0 ∷ Ldi 1 (pos 1) ∷ Div 0 0 1 1 ∷ []
by_one = rw (fold-Binary, fold-Name, fold-Number)

-- x div 0
pub by_zero : leaving pocket names (Binary (Name (named (codes "x") 1)) operator.Div (Number (pos 0) 1) 1) 0
    ≡ Ld 0 0 ∷ Ldi 1 (pos 0) ∷ Div 0 0 1 1 ∷ []
by_zero = rw (fold-Binary, fold-Name, fold-Number)

-- x div (12 + 1): a sum is no number
pub by_a_sum : leaving pocket names (Binary (Name (named (codes "x") 1)) operator.Div (Binary (Number (pos 12) 1) operator.Add (Number (pos 1) 1) 1) 1) 0
    ≡ Ld 0 0 ∷ Ldi 1 (pos 12) ∷ Ldi 2 (pos 1) ∷ Add 1 1 2 ∷ Div 0 0 1 1 ∷ []
by_a_sum = rw (fold-Binary, fold-Binary, fold-Name, fold-Number, fold-Number)

-- x div -13
pub by_a_negated_number : leaving pocket names (Binary (Name (named (codes "x") 1)) operator.Div (Negated (Number (pos 13) 1) 1) 1) 0
    ≡ Ld 0 0 ∷ Ldi 1 (neg_ℤ (pos 13)) ∷ Div 0 0 1 1 ∷ []
by_a_negated_number = rw (fold-Binary, fold-Neg, fold-Name, fold-Number)

-- 97 div 13
pub of_a_number : leaving pocket names (Binary (Number (pos 97) 1) operator.Div (Number (pos 13) 1) 1) 0
    ≡ Ldi 0 (pos 97) ∷ Scl 0 0 0 ∷ []
of_a_number = rw (fold-Binary, fold-Number, fold-Number)

-- 1 + x div 13
pub inside_a_sum : leaving pocket names (Binary (Number (pos 1) 1) operator.Add (Binary (Name (named (codes "x") 1)) operator.Div (Number (pos 13) 1) 1) 1) 0
    ≡ Ldi 0 (pos 1) ∷ Ld 1 0 ∷ Scl 1 1 0 ∷ Add 0 0 1 ∷ []
inside_a_sum = rw (fold-Binary, fold-Binary, fold-Name, fold-Number, fold-Number)

-- x mod 13: only quotients are scaled
pub remainder_by_a_modulus : leaving pocket names (Binary (Name (named (codes "x") 1)) operator.Mod (Number (pos 13) 1) 1) 0
    ≡ Ld 0 0 ∷ Ldi 1 (pos 13) ∷ Mod 0 0 1 1 ∷ []
remainder_by_a_modulus = rw (fold-Binary, fold-Name, fold-Number)

-- x div 57599: 239 * 241
pub on_desk : leaving desk names (Binary (Name (named (codes "x") 1)) operator.Div (Number (pos 57599) 1) 1) 0
    ≡ Ld 0 0 ∷ Scl 0 0 0 ∷ Scl 0 0 1 ∷ []
on_desk = rw (fold-Binary, fold-Name, fold-Number)

-- x div 13: 13 divides 247, and is no modulus of `desk`
pub no_number_of_desk : leaving desk names (Binary (Name (named (codes "x") 1)) operator.Div (Number (pos 13) 1) 1) 0
    ≡ Ld 0 0 ∷ Ldi 1 (pos 13) ∷ Div 0 0 1 1 ∷ []
no_number_of_desk = rw (fold-Binary, fold-Name, fold-Number)
