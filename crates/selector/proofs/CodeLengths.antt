-- How long code is doesn't depend on the words and places in it.
use Rattle.std.proofs.Common.{◌≡◌, ℕ, ◌+◌, List, [], ◌∷◌, ◌++◌, length, refl, sym, subst, length-append, arith}
use Rattle.moduli_sets.specs.Set.{ModuliSet}
use Rattle.machine_table.specs.declared.instr.Instr.{Instr}
use Rattle.source_tree.specs.declared.expression.Operator.{Operator}
use Rattle.source_tree.specs.declared.expression.Operator.TheVariants.{Add, Sub, Mul, Div, Mod}
use Rattle.source_tree.specs.declared.expression.Expr.{Expr, Number, Name, Element, Neg, Binary}
use Rattle.source_tree.proofs.FoldEquations.{fold-Number, fold-Name, fold-Element, fold-Neg, fold-Binary}
use Rattle.source_tree.proofs.Inductions.{each_expr}
use Rattle.selector.specs.Layout.{Layout}
use Rattle.selector.specs.Expressions.{Value, value_of, multiplied, operated, value_of_node, value, leaving}

-- ---- lists
pub both : (a b c d : List Instr) → length a ≡ length c → length b ≡ length d → length (a ++ b) ≡ length (c ++ d)
both a b c d h k = omega (arith, length-append a b, length-append c d, h, k)

pub last : (a c : List Instr) (x y : Instr) → length a ≡ length c → length (a ++ x ∷ []) ≡ length (c ++ y ∷ [])
last a c x y h = both a (x ∷ []) c (y ∷ []) h refl

-- ---- expressions
-- two values of which each code has one length
pub record Alike (a b : Value) : Type 0 where
  pub leaves : (d : ℕ) → length (a.leaves d) ≡ length (b.leaves d)
  pub adds : (d : ℕ) → length (a.adds d) ≡ length (b.adds d)
  pub negates : (d : ℕ) → length (a.negates d) ≡ length (b.negates d)
  pub divides : (line d : ℕ) → length (a.divides line d) ≡ length (b.divides line d)

by_leaving : (f g : ℕ → List Instr) → ((d : ℕ) → length (f d) ≡ length (g d)) → Alike (value_of f) (value_of g)
by_leaving f g h = record {
  leaves = h;
  adds = λ d. last (f (d + 1)) (g (d + 1)) _ _ (h (d + 1));
  negates = λ d. last (f d) (g d) _ _ (h d);
  divides = λ line d. last (f (d + 1)) (g (d + 1)) _ _ (h (d + 1));
}

-- two codes and an instruction
then_last : (a b c d : List Instr) (x y : Instr) → length a ≡ length c → length b ≡ length d
    → length (a ++ (b ++ x ∷ [])) ≡ length (c ++ (d ++ y ∷ []))
then_last a b c d x y h k = both a (b ++ x ∷ []) c (d ++ y ∷ []) h (last b d x y k)

module _ (a b c d : Value) (h : Alike a c) (k : Alike b d) where
  multiplied_alike : Alike (multiplied a b) (multiplied c d)
  multiplied_alike =
      let plain =
      by_leaving (multiplied a b).leaves (multiplied c d).leaves
      (λ r. then_last (a.leaves r) (b.leaves (r + 1)) (c.leaves r) (d.leaves (r + 1)) _ _ (h.leaves r) (k.leaves (r + 1))) in
      record {
        leaves = plain.leaves;
        adds = λ r.
            then_last (a.leaves (r + 1)) (b.leaves (r + 2)) (c.leaves (r + 1)) (d.leaves (r + 2)) _ _ (h.leaves (r + 1)) (k.leaves (r + 2));
        negates = plain.negates;
        divides = plain.divides;
      }

  operated_alike : (o : Operator) (line : ℕ) → Alike (operated o a b line) (operated o c d line)
  operated_alike Add line =
      by_leaving (operated Add a b line).leaves (operated Add c d line).leaves
      (λ r. both (a.leaves r) (b.adds r) (c.leaves r) (d.adds r) (h.leaves r) (k.adds r))
  operated_alike Sub line =
      by_leaving (operated Sub a b line).leaves (operated Sub c d line).leaves
      (λ r. then_last (a.leaves r) (b.leaves (r + 1)) (c.leaves r) (d.leaves (r + 1)) _ _ (h.leaves r) (k.leaves (r + 1)))
  operated_alike Mul line = multiplied_alike
  operated_alike Div line =
      by_leaving (operated Div a b line).leaves (operated Div c d line).leaves
      (λ r. both (a.leaves r) (b.divides line r) (c.leaves r) (d.divides line r) (h.leaves r) (k.divides line r))
  operated_alike Mod line =
      by_leaving (operated Mod a b line).leaves (operated Mod c d line).leaves
      (λ r. then_last (a.leaves r) (b.leaves (r + 1)) (c.leaves r) (d.leaves (r + 1)) _ _ (h.leaves r) (k.leaves (r + 1)))

module _ (set : ModuliSet) (layout other : Layout) where
  at_node : (e : Expr) (a b : Value) → value set layout e ≡ a → value set other e ≡ b → Alike a b
      → Alike (value set layout e) (value set other e)
  at_node e a b p q h =
      subst (λ x. Alike x (value set other e)) (sym p) (subst (λ y. Alike a y) (sym q) h)

  pub alike : (e : Expr) → Alike (value set layout e) (value set other e)
  alike =
      each_expr (λ e. Alike (value set layout e) (value set other e))
      (λ n line.
      at_node (Number n line) _ _ (fold-Number (value_of_node set layout) n line) (fold-Number (value_of_node set other) n line)
      (record { leaves = λ d. refl; adds = λ d. refl; negates = λ d. refl; divides = λ l d. refl }))
      (λ x.
      at_node (Name x) _ _ (fold-Name (value_of_node set layout) x) (fold-Name (value_of_node set other) x)
      (by_leaving _ _ (λ d. refl)))
      (λ x index h.
      at_node (Element x index) _ _ (fold-Element (value_of_node set layout) x index) (fold-Element (value_of_node set other) x index)
      (by_leaving _ _ (λ d. last ((value set layout index).leaves d) ((value set other index).leaves d) _ _ (h.leaves d))))
      (λ operand line h.
      at_node (Neg operand line) _ _ (fold-Neg (value_of_node set layout) operand line) (fold-Neg (value_of_node set other) operand line)
      (by_leaving _ _ h.negates))
      (λ left o right line h k.
      at_node (Binary left o right line) _ _
      (fold-Binary (value_of_node set layout) left o right line)
      (fold-Binary (value_of_node set other) left o right line)
      (operated_alike (value set layout left) (value set layout right) (value set other left) (value set other right) h k o line))

  pub leaving_alike : (e : Expr) (d : ℕ) → length (leaving set layout e d) ≡ length (leaving set other e d)
  leaving_alike e d = (alike e).leaves d
