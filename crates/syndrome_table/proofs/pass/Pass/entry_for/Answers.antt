use Rattle.std.proofs.Common.{◌≡◌, ◌+◌, ◌%◌, pos, neg_ℤ, ◌*ℤ◌, get_or, slice_index, [], ◌∷◌, refl, sym, ap, ◌∙◌, arith}
use Rattle.number_theory.specs.Residue.{residue}
use Rattle.moduli_sets.specs.Moduli.{set_of}
use Rattle.moduli_sets.specs.Set.{redundant}
use Rattle.moduli_sets.specs.Vector.{vector_of}
use Rattle.syndrome_table.specs.Entry.{signed, cofactor}
use Rattle.syndrome_table.proofs.CaseLemmas.{at_redundant, modulus_positive}
use Rattle.syndrome_table.proofs.RealLemmas.{residue_of_part}
use Rattle.syndrome_table.proofs.ShiftLemmas.{three_places, three_of}
use Rattle.syndrome_table.proofs.VerdictLemmas.{count_is}
use Rattle.syndrome_table.proofs.pass.Pass.entry_for.Goals as goal

pub returns-clause-triple : goal.returns-clause-triple
returns-clause-triple c =
    let set = set_of c.args.self.now.set in
    let rules = c.rules.ensures.set in
    let count = count_is set rules c.rules.ensures.radius in
    let i = c.args.i in
    let times = signed c.args.times c.args.below in
    let z = neg_ℤ (times *ℤ pos (cofactor set i)) in
    let vector = vector_of (redundant set) z in
    let stride = c.args.self.now.strides_are i (record { second = 0; third = 0; inverse = 0 }) c.requires.channel in
    let zero : set.info + 0 ≡ set.info = omega arith in
    let one : c.info-info.result + 1 ≡ set.info + 1 = omega (arith, c.info-info.ensures) in
    let two : c.info-info.result + 2 ≡ set.info + 2 = omega (arith, c.info-info.ensures) in
    let modulus_1 = c.modulus.ensures.value ∙ ap (slice_index set.moduli) one in
    let modulus_2 = c.modulus-2.ensures.value ∙ ap (slice_index set.moduli) two in
    let first : c.args.first ≡ get_or vector 0 0 = sym c.requires.first ∙ ap (λ n. residue z (get_or set.moduli n 0)) (sym zero) ∙ sym (at_redundant set z 0 (omega (arith, count))) in
    let second : c.residue_for.result ≡ get_or vector 1 0 = c.residue_for.ensures ∙ ap (λ n. residue (neg_ℤ (times *ℤ pos n)) c.modulus.result) stride.second ∙ ap (λ m. residue (neg_ℤ (times *ℤ pos (cofactor set i % get_or set.moduli (set.info + 1) 0))) m) modulus_1 ∙ residue_of_part times (cofactor set i) (get_or set.moduli (set.info + 1) 0) (modulus_positive set (set.info + 1) rules (omega (arith, count))) ∙ sym (at_redundant set z 1 (omega (arith, count))) in
    let third : c.residue_for-2.result ≡ get_or vector 2 0 = c.residue_for-2.ensures ∙ ap (λ n. residue (neg_ℤ (times *ℤ pos n)) c.modulus-2.result) stride.third ∙ ap (λ m. residue (neg_ℤ (times *ℤ pos (cofactor set i % get_or set.moduli (set.info + 2) 0))) m) modulus_2 ∙ residue_of_part times (cofactor set i) (get_or set.moduli (set.info + 2) 0) (modulus_positive set (set.info + 2) rules (omega (arith, count))) ∙ sym (at_redundant set z 2 (omega (arith, count))) in
    three_places (c.args.first ∷ c.residue_for.result ∷ c.residue_for-2.result ∷ []) vector refl (three_of set z count) first second third
