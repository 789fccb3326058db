-- How much there is to do: what falls from call to call.
use Rattle.std.proofs.Common.{◌≡◌, ℕ, zero, suc, ◌+◌, ◌<◌, ◌≤◌, ℤ, List, [], ◌∷◌, length, map, take, ap, arith, get_or}
use Rattle.resolved_tree.specs.declared.slot.Slot.{Slot}
use Rattle.resolved_tree.specs.declared.tree.Argument.{Argument}
use Rattle.resolved_tree.specs.declared.tree.Procedure.{Procedure}
use Rattle.resolved_tree.specs.declared.tree.Step.{Step, If, For, While, Call, fold-Step, fold-roll-Step, roll-Step}
use Rattle.resolved_tree.specs.declared.tree.Step.TheOpen as step
use Rattle.resolved_tree.specs.declared.tree.Test.{Test}
use Rattle.resolved_tree.specs.declared.tree.Value.{Value}

abbrev total : List ℕ → ℕ
total [] = 0
total (n ∷ ns) = n + total ns

abbrev weight_of_node : step.Step-F ℕ → ℕ
weight_of_node (step.Assign place v line) = 1
weight_of_node (step.Print v) = 1
weight_of_node (step.Read place line) = 1
weight_of_node (step.If test first second) = 2 + total first + total second
weight_of_node (step.For s first last body line) = 3 + total body
weight_of_node (step.While test limit body line) = 3 + total body
weight_of_node (step.Call k arguments line) = 1
weight_of_node step.Skip = 1

abbrev pub weight : Step → ℕ
weight s = fold-Step ℕ weight_of_node s

abbrev pub weights : List Step → ℕ
weights list = total (map weight list)

abbrev pub procedures_weight : List Procedure → ℕ
procedures_weight [] = 0
procedures_weight (p ∷ ps) = weights p.body + 2 + procedures_weight ps

pub weight-If : (test : Test) (first second : List Step) → weight (If test first second) ≡ 2 + weights first + weights second
unfolding roll-Step denote.Hole.Carrier.roll
weight-If test first second = fold-roll-Step ℕ weight_of_node (step.If test first second)

pub weight-For : (s : Slot) (first last : Value) (body : List Step) (line : ℕ) → weight (For s first last body line) ≡ 3 + weights body
unfolding roll-Step denote.Hole.Carrier.roll
weight-For s first last body line = fold-roll-Step ℕ weight_of_node (step.For s first last body line)

pub weight-While : (test : Test) (limit : ℤ) (body : List Step) (line : ℕ) → weight (While test limit body line) ≡ 3 + weights body
unfolding roll-Step denote.Hole.Carrier.roll
weight-While test limit body line = fold-roll-Step ℕ weight_of_node (step.While test limit body line)

pub weight-Call : (k : ℕ) (arguments : List Argument) (line : ℕ) → weight (Call k arguments line) ≡ 1
unfolding roll-Step denote.Hole.Carrier.roll
weight-Call k arguments line = fold-roll-Step ℕ weight_of_node (step.Call k arguments line)

pub one_of : (l : List Step) (i : ℕ) (s : Step) → i < length l → s ≡ get_or l i s → weight s ≤ weights l
one_of [] i s h e = absurd (omega arith)
one_of (x ∷ l) zero s h e = let w : weight s ≡ weight x = ap weight e in omega arith
one_of (x ∷ l) (suc i) s h e = let w : weight s ≤ weights l = one_of l i s (omega arith) e in omega arith

-- those before a procedure, and its body, are less than all
pub before_weight : (l : List Procedure) (i : ℕ) (p : Procedure) → i < length l → p ≡ get_or l i p → procedures_weight (take i l) + weights p.body + 2 ≤ procedures_weight l
before_weight [] i p h e = absurd (omega arith)
before_weight (x ∷ l) zero p h e = let w : weights p.body ≡ weights x.body = ap (λ (q : Procedure). weights q.body) e in omega arith
before_weight (x ∷ l) (suc i) p h e = let w : procedures_weight (take i l) + weights p.body + 2 ≤ procedures_weight l = before_weight l i p (omega arith) e in omega arith
