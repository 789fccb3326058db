use Rattle.std.proofs.Common.{◌≡◌, ℤ, rules, nat_lt, of_z, sym, subst, to_z}
use Rattle.std.proofs.lemmas.Int.{to_z-of_z}
use mir.Syntax.{w128}
use Rattle.assembler.specs.Fields.{an_integer}
use Rattle.assembler.specs.Readers.{IsRead}
use Rattle.assembler.specs.Forms.{are_integers, integers_of}
use Rattle.assembler.proofs.FieldReads.{read_pair}
use Rattle.assembler.proofs.fields.integers_in.Goals as goal

pub returns : goal.returns
returns c =
    let n = c.args.count in
    let x = c.in_ok-first.first in
    let y = c.in_ok-second.second in
    let old = c.args.words.now in
    let new = c.integer_if-2.new.words in
    let x_is : to_z w128 (of_z w128 x) ≡ x = to_z-of_z w128 x (search rules) in
    let y_is : to_z w128 (of_z w128 y) ≡ y = to_z-of_z w128 y (search rules) in
    subst (λ (z : ℤ). IsRead (integers_of n) (are_integers (z, to_z w128 (of_z w128 y))) old new) (sym x_is)
    (subst (λ (z : ℤ). IsRead (integers_of n) (are_integers (x, z)) old new) (sym y_is)
    (read_pair an_integer (nat_lt 0 n) (nat_lt 1 n) x y old c.integer_if.new.words new c.in_ok-first.ensures c.in_ok-second.ensures))
