use Rattle.std.proofs.Common.{rules, [], ◌∷◌, ap, ◌∙◌}
use Rattle.std.specs.Int.{w32, w128, to_be_bytes}
use Rattle.std.specs.Int.RustNames.{FitsSigned}
use Rattle.std.proofs.lemmas.Int.{to_z-of_z}
use Rattle.object_bytes.specs.Record.{fields_bytes, integer_bytes}
use Rattle.object_bytes.proofs.LoopLemmas.{appended}
use Rattle.object_bytes.proofs.fields.Fields.put.Goals as goal

pub returns : goal.returns
unfolding fields_bytes
returns c =
    let f = c.args.self.now in
    let p_fits : FitsSigned w128 f.p = search rules in
    let q_fits : FitsSigned w128 f.q = search rules in
    appended c.args.out.now.items (f.number ∷ f.a ∷ f.b ∷ f.c ∷ []) c.to_be_bytes.result c.to_be_bytes-2.result c.to_be_bytes-3.result
    (to_be_bytes w32 f.line) (integer_bytes f.p) (integer_bytes f.q)
    c.extend_from_slice.new.self.items c.extend_from_slice-2.new.self.items c.extend_from_slice-3.new.self.items c.extend_from_slice-4.new.self.items
    c.in_ok-extend_from_slice.ensures.items c.in_ok-extend_from_slice-2.ensures.items c.in_ok-extend_from_slice-3.ensures.items c.in_ok-extend_from_slice-4.ensures.items
    c.to_be_bytes.ensures (c.to_be_bytes-2.ensures ∙ ap integer_bytes (to_z-of_z w128 f.p p_fits)) (c.to_be_bytes-3.ensures ∙ ap integer_bytes (to_z-of_z w128 f.q q_fits))
