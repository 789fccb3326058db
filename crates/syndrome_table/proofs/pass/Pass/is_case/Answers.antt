use Rattle.std.proofs.Common.{◌*◌, ◌<◌, pos, FitsSigned, get_or, sym, subst, arith}
use Rattle.std.specs.Int.{w128}
use Rattle.std.proofs.lemmas.Int.{ints}
use Rattle.moduli_sets.specs.Moduli.{set_of}
use Rattle.moduli_sets.specs.Set.{range_bound}
use Rattle.syndrome_table.specs.Entry.{signed, cofactor}
use Rattle.syndrome_table.specs.Filling.{IsReal}
use Rattle.syndrome_table.proofs.FilledLemmas.{real_down}
use Rattle.syndrome_table.proofs.BuildLemmas.{times_cofactor, at_most_twice, above_twice, twice_of, real_most}
use Rattle.syndrome_table.proofs.ReadingLemmas.{product_small}
use Rattle.syndrome_table.proofs.pass.Pass.is_case.Goals as goal

pub overflow_mul-d : goal.overflow_mul-d
overflow_mul-d c =
    let set = set_of c.args.self.now.set in
    let rules = c.rules.ensures.set in
    let fits = product_small set rules in
    let i = c.args.i in
    let k = c.args.times in
    let less : k < get_or set.moduli i 0 = omega (arith, c.if-modulus-times.false, c.modulus.ensures.value) in
    let q = times_cofactor set c.args.self.now.cofactors i k c.from.result rules c.args.self.now.cofactors_are c.requires.channel c.from.ensures less in
    let small = q.small in
    let own : FitsSigned w128 (pos (k * cofactor set i)) = omega (arith, ints) in
    subst (FitsSigned w128) (sym q.product_is) own

pub overflow_mul-twice : goal.overflow_mul-twice
overflow_mul-twice c =
    let wide = c.rules.ensures.set.wide in
    omega (arith, ints, c.bound-twice.ensures, product_small (set_of c.args.self.now.set) c.rules.ensures.set)

pub returns-else-not-below-clause-yes : goal.returns-else-not-below-clause-yes
returns-else-not-below-clause-yes c h =
    let set = set_of c.args.self.now.set in
    let rules = c.rules.ensures.set in
    let wide = rules.wide in
    let fits = product_small set rules in
    let i = c.args.i in
    let k = c.args.times in
    let less : k < get_or set.moduli i 0 = omega (arith, c.if-modulus-times.false, c.modulus.ensures.value) in
    let q = times_cofactor set c.args.self.now.cofactors i k c.from.result rules c.args.self.now.cofactors_are c.requires.channel c.from.ensures less in
    let twice_is = twice_of (range_bound set) c.bound-twice.result c.bound-twice.ensures (omega (arith, fits, wide)) in
    let most = at_most_twice _ _ (k * cofactor set i) (range_bound set) q.kept twice_is h in
    subst (λ b. IsReal set i (signed k b)) (sym c.if-not-below.false) (real_down set i k (omega (arith, c.if-times-eq0.false)) less most)

pub returns-else-not-below-clause-no : goal.returns-else-not-below-clause-no
returns-else-not-below-clause-no c h real =
    let set = set_of c.args.self.now.set in
    let rules = c.rules.ensures.set in
    let wide = rules.wide in
    let fits = product_small set rules in
    let i = c.args.i in
    let k = c.args.times in
    let less : k < get_or set.moduli i 0 = omega (arith, c.if-modulus-times.false, c.modulus.ensures.value) in
    let q = times_cofactor set c.args.self.now.cofactors i k c.from.result rules c.args.self.now.cofactors_are c.requires.channel c.from.ensures less in
    let twice_is = twice_of (range_bound set) c.bound-twice.result c.bound-twice.ensures (omega (arith, fits, wide)) in
    let far = above_twice _ _ (k * cofactor set i) (range_bound set) q.kept twice_is h in
    let most = real_most set i k (subst (λ b. IsReal set i (signed k b)) c.if-not-below.false real) in
    omega (arith, far, most)
