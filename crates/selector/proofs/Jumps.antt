-- Where the code of statements jumps to.
use Rattle.std.proofs.Common.{◌≡◌, ℕ, ◌+◌, ◌≤◌, ℤ, List, [], ◌∷◌, ◌++◌, map, sym, subst, arith}
use Rattle.moduli_sets.specs.Set.{ModuliSet}
use Rattle.machine_table.specs.declared.instr.Instr.{Instr}
use Rattle.machine_table.specs.declared.instr.Instr.TheVariants as instr
use Rattle.source_tree.specs.declared.expression.Operator.{Operator}
use Rattle.source_tree.specs.declared.expression.Operator.TheVariants.{Add, Sub, Mul, Div, Mod}
use Rattle.source_tree.specs.declared.expression.Expr.{Expr, Number, Name, Element, Neg, Binary}
use Rattle.source_tree.proofs.FoldEquations.{fold-Number, fold-Name, fold-Element, fold-Neg, fold-Binary}
use Rattle.source_tree.proofs.Inductions.{each_expr}
use Rattle.selector.specs.Layout.{Layout}
use Rattle.selector.specs.Factors.{channels_of}
use Rattle.selector.specs.Expressions.{Value, value_of, number, divided_by, multiplied, operated, value_of_node, value, leaving}
use Rattle.selector.specs.Laws.{StaysWithin, AllStay}

-- ---- lists
pub wider : (layout : Layout) (low high less more : ℕ) → less ≤ low → high ≤ more → (i : Instr)
    → StaysWithin layout low high i → StaysWithin layout less more i
wider layout low high less more p q (instr.Jmp t) h = (omega (arith, p, h.0), omega (arith, q, h.1))
wider layout low high less more p q (instr.Blt a b t) h = (omega (arith, p, h.0), omega (arith, q, h.1))
wider layout low high less more p q (instr.Beq a b t) h = (omega (arith, p, h.0), omega (arith, q, h.1))
wider layout low high less more p q i h = h

pub all_wider : (layout : Layout) (low high less more : ℕ) → less ≤ low → high ≤ more → (code : List Instr)
    → AllStay layout low high code → AllStay layout less more code
all_wider layout low high less more p q [] h = tt
all_wider layout low high less more p q (i ∷ code) h =
    (wider layout low high less more p q i h.0, all_wider layout low high less more p q code h.1)

module _ (layout : Layout) (low high : ℕ) where
  pub append : (a b : List Instr) → AllStay layout low high a → AllStay layout low high b → AllStay layout low high (a ++ b)
  append [] b h k = k
  append (i ∷ a) b h k = (h.0, append a b h.1 k)

  -- ---- expressions
  -- a value without jumps
  pub record Plain (v : Value) : Type 0 where
    pub leaves : (d : ℕ) → AllStay layout low high (v.leaves d)
    pub adds : (d : ℕ) → AllStay layout low high (v.adds d)
    pub negates : (d : ℕ) → AllStay layout low high (v.negates d)
    pub divides : (line d : ℕ) → AllStay layout low high (v.divides line d)

  by_leaving : (f : ℕ → List Instr) → ((d : ℕ) → AllStay layout low high (f d)) → Plain (value_of f)
  by_leaving f h = record {
    leaves = h;
    adds = λ d. append (f (d + 1)) (instr.Add d d (d + 1) ∷ []) (h (d + 1)) (tt, tt);
    negates = λ d. append (f d) (instr.Neg d d ∷ []) (h d) (tt, tt);
    divides = λ line d. append (f (d + 1)) (instr.Div d d (d + 1) line ∷ []) (h (d + 1)) (tt, tt);
  }

  scaled_stay : (d : ℕ) (channels : List ℕ) → AllStay layout low high (map (λ channel. instr.Scl d d channel) channels)
  scaled_stay d [] = tt
  scaled_stay d (s ∷ channels) = (tt, scaled_stay d channels)

  divided_stay : (n : ℤ) (channels : List ℕ) (line d : ℕ) → AllStay layout low high (divided_by n channels line d)
  divided_stay n [] line d = (tt, (tt, tt))
  divided_stay n (s ∷ channels) line d = scaled_stay d (s ∷ channels)

  number_plain : (n : ℤ) (channels : List ℕ) → Plain (number n channels)
  number_plain n channels = record {
    leaves = λ d. (tt, tt);
    adds = λ d. (tt, (tt, tt));
    negates = λ d. (tt, tt);
    divides = divided_stay n channels;
  }

  module _ (a b : Value) (h : Plain a) (k : Plain b) where
    two : (x : ℕ → Instr) → ((d : ℕ) → StaysWithin layout low high (x d)) → (d : ℕ)
        → AllStay layout low high (a.leaves d ++ (b.leaves (d + 1) ++ x d ∷ []))
    two x s d =
        append (a.leaves d) (b.leaves (d + 1) ++ x d ∷ []) (h.leaves d)
        (append (b.leaves (d + 1)) (x d ∷ []) (k.leaves (d + 1)) (s d, tt))

    multiplied_plain : Plain (multiplied a b)
    multiplied_plain =
        let plain = by_leaving (multiplied a b).leaves (two (λ d. instr.Mul d d (d + 1)) (λ d. tt)) in
        record {
          leaves = plain.leaves;
          adds = λ d.
              append (a.leaves (d + 1)) (b.leaves (d + 2) ++ instr.Mac d (d + 1) (d + 2) ∷ []) (h.leaves (d + 1))
              (append (b.leaves (d + 2)) (instr.Mac d (d + 1) (d + 2) ∷ []) (k.leaves (d + 2)) (tt, tt));
          negates = plain.negates;
          divides = plain.divides;
        }

    operated_plain : (o : Operator) (line : ℕ) → Plain (operated o a b line)
    operated_plain Add line =
        by_leaving (operated Add a b line).leaves (λ d. append (a.leaves d) (b.adds d) (h.leaves d) (k.adds d))
    operated_plain Sub line =
        by_leaving (operated Sub a b line).leaves (two (λ d. instr.Sub d d (d + 1)) (λ d. tt))
    operated_plain Mul line = multiplied_plain
    operated_plain Div line =
        by_leaving (operated Div a b line).leaves (λ d. append (a.leaves d) (b.divides line d) (h.leaves d) (k.divides line d))
    operated_plain Mod line =
        by_leaving (operated Mod a b line).leaves (two (λ d. instr.Mod d d (d + 1) line) (λ d. tt))

  module _ (set : ModuliSet) where
    at_node : (e : Expr) (a : Value) → value set layout e ≡ a → Plain a → Plain (value set layout e)
    at_node e a p h = subst (λ x. Plain x) (sym p) h

    plain : (e : Expr) → Plain (value set layout e)
    plain =
        each_expr (λ e. Plain (value set layout e))
        (λ n line. at_node (Number n line) _ (fold-Number (value_of_node set layout) n line) (number_plain n (channels_of set n)))
        (λ x. at_node (Name x) _ (fold-Name (value_of_node set layout) x) (by_leaving _ (λ d. (tt, tt))))
        (λ x index h.
        at_node (Element x index) _ (fold-Element (value_of_node set layout) x index)
        (by_leaving _ (λ d. append ((value set layout index).leaves d) (_ ∷ []) (h.leaves d) (tt, tt))))
        (λ operand line h.
        at_node (Neg operand line) _ (fold-Neg (value_of_node set layout) operand line) (by_leaving _ h.negates))
        (λ left o right line h k.
        at_node (Binary left o right line) _ (fold-Binary (value_of_node set layout) left o right line)
        (operated_plain (value set layout left) (value set layout right) h k o line))

    pub leaving_stays : (e : Expr) (d : ℕ) → AllStay layout low high (leaving set layout e d)
    leaving_stays e d = (plain e).leaves d
