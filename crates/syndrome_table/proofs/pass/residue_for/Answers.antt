use Rattle.std.proofs.Common.{◌≡◌, ◌*◌, ◌%◌, pos, neg_ℤ, ◌*ℤ◌, sym, ap, ◌∙◌, arith}
use Rattle.number_theory.specs.Residue.{residue}
use Rattle.syndrome_table.specs.Entry.{signed}
use Rattle.syndrome_table.proofs.RealLemmas.{residue_of_none, residue_of_up}
use Rattle.syndrome_table.proofs.pass.residue_for.Goals as goal

pub returns-then-residue-eq0 : goal.returns-then-residue-eq0
returns-then-residue-eq0 c =
    let m = c.args.modulus in
    let side = ap (λ b. residue (neg_ℤ (signed c.args.times b *ℤ pos c.args.part)) m) c.if-below.false in
    let none : (c.args.times * c.args.part) % m ≡ 0 = omega (arith, c.if-residue-eq0.true) in
    sym (side ∙ residue_of_none (c.args.times * c.args.part) m (omega (arith, c.requires.part)) none ∙ none)

pub returns-else-residue-eq0 : goal.returns-else-residue-eq0
returns-else-residue-eq0 c =
    let m = c.args.modulus in
    let side = ap (λ b. residue (neg_ℤ (signed c.args.times b *ℤ pos c.args.part)) m) c.if-below.false in
    sym (side ∙ residue_of_up (c.args.times * c.args.part) m (omega (arith, c.requires.part)) (omega (arith, c.if-residue-eq0.false)))
