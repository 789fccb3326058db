use Rattle.std.proofs.Common.{rules}
use Rattle.std.specs.Int.{w128}
use Rattle.std.specs.Int.RustNames.{FitsSigned}
use Rattle.std.proofs.lemmas.Int.{to_z-of_z}
use Rattle.channel_lane.proofs.ResidueSteps.{add_same, sub_same, mul_same, mul_add_same, neg_same, put_same}
use Rattle.channel_lane.proofs.lane.Lane.value.Goals as goal

pub returns-in-Put-clause-value : goal.returns-in-Put-clause-value
returns-in-Put-clause-value g c =
    let fits : FitsSigned w128 c.in-Put.value = search rules in
    rw c.in-Put.is (put_same _ _ _ _ _ _ c.residue_of.ensures (to_z-of_z w128 c.in-Put.value fits) c.modulus.ensures.value c.arithmetic-arithmetic.ensures)

pub returns-in-Add-clause-value : goal.returns-in-Add-clause-value
returns-in-Add-clause-value g c =
    rw c.in-Add.is (add_same _ _ _ _ _ _ _ c.add.ensures c.held-in-Add.ensures.value c.held-in-Add-2.ensures.value c.arithmetic-arithmetic.ensures)

pub returns-in-Sub-clause-value : goal.returns-in-Sub-clause-value
returns-in-Sub-clause-value g c =
    rw c.in-Sub.is (sub_same _ _ _ _ _ _ _ c.sub.ensures c.held-in-Sub.ensures.value c.held-in-Sub-2.ensures.value c.arithmetic-arithmetic.ensures)

pub returns-in-Mul-clause-value : goal.returns-in-Mul-clause-value
returns-in-Mul-clause-value g c =
    rw c.in-Mul.is (mul_same _ _ _ _ _ _ _ c.mul.ensures c.held-in-Mul.ensures.value c.held-in-Mul-2.ensures.value c.arithmetic-arithmetic.ensures)

pub returns-in-MulAdd-clause-value : goal.returns-in-MulAdd-clause-value
returns-in-MulAdd-clause-value g c =
    rw c.in-MulAdd.is (mul_add_same _ _ _ _ _ _ _ _ _ c.mul_add.ensures c.held-in-MulAdd.ensures.value c.held-in-MulAdd-2.ensures.value c.held-in-MulAdd-3.ensures.value c.arithmetic-arithmetic.ensures)

pub returns-in-Neg-clause-value : goal.returns-in-Neg-clause-value
returns-in-Neg-clause-value g c =
    rw c.in-Neg.is (neg_same _ _ _ _ _ c.neg.ensures c.held-in-Neg.ensures.value c.arithmetic-arithmetic.ensures)
