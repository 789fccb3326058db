use Rattle.std.proofs.Common.{rules, get_or, ◌∙◌}
use Rattle.std.specs.Int.{w128}
use Rattle.std.specs.Int.RustNames.{FitsSigned}
use Rattle.std.proofs.lemmas.Int.{to_z-of_z}
use mir.Val.{to_z, of_z}
use Rattle.object_bytes.specs.Record.{instr_in, instrs, integer_at, natural_at}
use Rattle.object_bytes.proofs.RecordLemmas.{copied_at, same_instr}
use Rattle.object_bytes.proofs.record.instr_of.Goals as goal

pub returns-clause-value : goal.returns-clause-value
unfolding instr_in
returns-clause-value c =
    let bytes = c.args.bytes.now in
    let a = get_or bytes 1 0 in
    let b = get_or bytes 2 0 in
    let r = get_or bytes 3 0 in
    let line = c.natural_at-line.result in
    let p = c.integer_at-p.result in
    let q = c.integer_at-q.result in
    let m = c.natural_at-m.result in
    let n = c.natural_at-n.result in
    let p_fits : FitsSigned w128 p = search rules in
    let q_fits : FitsSigned w128 q = search rules in
    let wrapped_p = to_z w128 (of_z w128 p) in
    let wrapped_q = to_z w128 (of_z w128 q) in
    c.copied.ensures
    ∙ copied_at (instrs a b r line wrapped_p wrapped_q m n) c.from.result c.get.result c.get.ensures.lookup
    ∙ same_instr c.from.result (get_or bytes 0 0) a b r line (natural_at 4 bytes) wrapped_p (integer_at 8 bytes) wrapped_q (integer_at 24 bytes) m (natural_at 20 bytes) n (natural_at 36 bytes)
    c.from.ensures c.natural_at-line.ensures (to_z-of_z w128 p p_fits ∙ c.integer_at-p.ensures) (to_z-of_z w128 q q_fits ∙ c.integer_at-q.ensures) c.natural_at-m.ensures c.natural_at-n.ensures
