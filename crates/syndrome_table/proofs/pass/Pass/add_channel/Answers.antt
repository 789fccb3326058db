use Rattle.std.proofs.Common.{◌≡◌, ◌-◌, ◌*◌, ◌%◌, ◌<◌, pos, neg_ℤ, get_or, slice_index, slice_index_or, sym, ap, subst, ◌∙◌, arith}
use Rattle.std.proofs.Math.Nat.{mod-lt}
use Rattle.moduli_sets.specs.Moduli.{set_of}
use Rattle.syndrome_table.specs.Filling.{first_of}
use Rattle.syndrome_table.proofs.RealLemmas.{first_down, first_up}
use Rattle.syndrome_table.proofs.pass.Pass.add_channel.Goals as goal

pub add_entry-requires-clause-first : goal.add_entry-requires-clause-first
add_entry-requires-clause-first c =
    let set = set_of c.args.self.now.set in
    let i = c.args.i in
    let first = c.args.first in
    let r = get_or set.moduli set.info 0 in
    let stride = c.args.self.now.strides_are i (record { second = 0; third = 0; inverse = 0 }) c.requires.channel in
    let w = (slice_index_or c.args.self.now.strides i (record { second = 0; third = 0; inverse = 0 })).inverse in
    let modulus : c.modulus-modulus.result ≡ r = c.modulus-modulus.ensures.value ∙ ap (slice_index set.moduli) c.info.ensures in
    let t = (first * w) % r in
    let some : 0 < r = omega (arith, c.requires.first) in
    let small = mod-lt (first * w) some in
    subst (λ m. first_of set i (pos (m - (first * w) % m)) ≡ first) (sym modulus) (first_up set i first w (r - t) stride.inverse c.requires.first (omega (arith, small)))

pub add_entry-requires-2-clause-first : goal.add_entry-requires-2-clause-first
add_entry-requires-2-clause-first c =
    let set = set_of c.args.self.now.set in
    let i = c.args.i in
    let first = c.args.first in
    let r = get_or set.moduli set.info 0 in
    let stride = c.args.self.now.strides_are i (record { second = 0; third = 0; inverse = 0 }) c.requires.channel in
    let w = (slice_index_or c.args.self.now.strides i (record { second = 0; third = 0; inverse = 0 })).inverse in
    let modulus : c.modulus-modulus.result ≡ r = c.modulus-modulus.ensures.value ∙ ap (slice_index set.moduli) c.info.ensures in
    subst (λ m. first_of set i (neg_ℤ (pos ((first * w) % m))) ≡ first) (sym modulus) (first_down set i first w stride.inverse c.requires.first)
