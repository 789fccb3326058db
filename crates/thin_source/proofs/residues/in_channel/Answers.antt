use Rattle.std.proofs.Common.{◌<◌, arith}
use Rattle.number_theory.proofs.ResidueLemmas.{residue-add, residue-sub, residue-mul}
use Rattle.thin_source.proofs.residues.in_channel.Goals as goal

pub returns-in-Add : goal.returns-in-Add
returns-in-Add g c = λ x y e f.
    let m = g.C.FixedChannel.MODULUS in
    let positive : 0 < m = omega (arith, c.requires.left) in
    let law = residue-add x y m positive in
    rw c.in-Add.is (cc)

pub returns-in-Sub : goal.returns-in-Sub
returns-in-Sub g c = λ x y e f.
    let m = g.C.FixedChannel.MODULUS in
    let positive : 0 < m = omega (arith, c.requires.left) in
    let law = residue-sub x y m positive in
    rw c.in-Sub.is (cc)

pub returns-in-Mul : goal.returns-in-Mul
returns-in-Mul g c = λ x y e f.
    let m = g.C.FixedChannel.MODULUS in
    let positive : 0 < m = omega (arith, c.requires.left) in
    let law = residue-mul x y m positive in
    rw c.in-Mul.is (cc)
