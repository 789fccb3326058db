-- The code of expressions. All registers from a given one on are free; those below it keep what they hold.
use Rattle.std.specs.Prelude.{ℕ, ◌+◌, ℤ, neg_ℤ, List, [], ◌∷◌, ◌++◌, map}
use Rattle.moduli_sets.specs.Set.{ModuliSet}
use Rattle.machine_table.specs.declared.instr.Instr.{Instr}
use Rattle.machine_table.specs.declared.instr.Instr.TheVariants.{Ldi, Ld, Ldx, Add, Sub, Mul, Neg, Mac, Div, Mod, Scl}
use Rattle.source_tree.specs.declared.expression.Operator.{Operator}
use Rattle.source_tree.specs.declared.expression.Operator.TheVariants as operator
use Rattle.source_tree.specs.declared.expression.Expr.{Expr, fold-Expr}
use Rattle.source_tree.specs.declared.expression.Expr.TheOpen as expr
use Rattle.source_tree.specs.Scope.{range_at as range_in_scope}
use Rattle.range_inference.specs.Interval.{interval_of}
use Rattle.range_inference.specs.declared.interval.Interval.{Interval}
use Rattle.selector.specs.Layout.{Layout, scope_of, word_at, length_at}
use Rattle.selector.specs.Factors.{channels_of}

-- What an expression is, by a register d and, of a quotient, by the line of its trap: the code that leaves it in d, the code
-- that adds it to what is in d, the code that leaves it in d with the other sign, and the code that divides what is in d by it.
pub record Value : Type 0 where
  pub leaves : (d : ℕ) → List Instr
  pub adds : (d : ℕ) → List Instr
  pub negates : (d : ℕ) → List Instr
  pub divides : (line d : ℕ) → List Instr

-- the code that leaves it in register d
abbrev pub left_in : Value → (d : ℕ) → List Instr
left_in v d = v.leaves d

-- by the code that leaves it
abbrev pub value_of : (ℕ → List Instr) → Value
value_of code = record {
  leaves = λ d. code d;
  adds = λ d. code (d + 1) ++ Add d d (d + 1) ∷ [];
  negates = λ d. code d ++ Neg d d ∷ [];
  divides = λ line d. code (d + 1) ++ Div d d (d + 1) line ∷ [];
}

-- A number with the other sign is a number. What is divided by a number is scaled by its channels, where it has some.
abbrev pub divided_by : ℤ → List ℕ → (line d : ℕ) → List Instr
divided_by n [] line d = Ldi (d + 1) n ∷ (Div d d (d + 1) line ∷ [])
divided_by n (s ∷ more) line d = map (λ channel. Scl d d channel) (s ∷ more)

abbrev pub number : ℤ → List ℕ → Value
number n channels =
    record (value_of (λ d. Ldi d n ∷ [])) { negates = λ d. Ldi d (neg_ℤ n) ∷ []; divides = divided_by n channels }

-- a product is added at once
abbrev pub multiplied : Value → Value → Value
multiplied a b =
    record (value_of (λ d. a.leaves d ++ (b.leaves (d + 1) ++ Mul d d (d + 1) ∷ []))) {
      adds = λ d. a.leaves (d + 1) ++ (b.leaves (d + 2) ++ Mac d (d + 1) (d + 2) ∷ []);
    }

abbrev pub operated : Operator → Value → Value → (line : ℕ) → Value
operated operator.Add a b line = value_of (λ d. a.leaves d ++ b.adds d)
operated operator.Sub a b line = value_of (λ d. a.leaves d ++ (b.leaves (d + 1) ++ Sub d d (d + 1) ∷ []))
operated operator.Mul a b line = multiplied a b
operated operator.Div a b line = value_of (λ d. a.leaves d ++ b.divides line d)
operated operator.Mod a b line = value_of (λ d. a.leaves d ++ (b.leaves (d + 1) ++ Mod d d (d + 1) line ∷ []))

module _ (set : ModuliSet) (layout : Layout) where
  abbrev pub value_of_node : expr.Expr-F Value → Value
  value_of_node (expr.Number n line) = number n (channels_of set n)
  value_of_node (expr.Name name) = value_of (λ d. Ld d (word_at layout name) ∷ [])
  value_of_node (expr.Element name index) =
      value_of (λ d. index.leaves d ++ Ldx d d (word_at layout name) (length_at layout name) name.line ∷ [])
  value_of_node (expr.Neg operand line) = value_of operand.negates
  value_of_node (expr.Binary left o right line) = operated o left right line

  abbrev pub value : Expr → Value
  value e = fold-Expr Value value_of_node e

  -- the code that leaves an expression in register d
  abbrev pub leaving : Expr → (d : ℕ) → List Instr
  leaving e d = left_in (value e) d

-- the interval of an expression, by the ranges that are declared
abbrev pub interval_in : Layout → Expr → Interval
interval_in layout e = interval_of e (range_in_scope (scope_of layout))
