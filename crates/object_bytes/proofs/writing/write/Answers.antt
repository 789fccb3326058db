use Rattle.std.proofs.Common.{rules, ◌≡◌, ◌++◌, ℤ, pos, length, get_or, ap, ◌∙◌}
use Rattle.std.specs.Int.{w128}
use Rattle.std.specs.Int.RustNames.{FitsSigned}
use Rattle.std.specs.List.{flat_map}
use Rattle.std.proofs.lemmas.Int.{to_z-of_z}
use Rattle.machine_table.specs.Objects.{code_of, set_of_object, words_of}
use Rattle.object_bytes.specs.Record.{instr_bytes, integer_bytes}
use Rattle.object_bytes.specs.Spelling.{header_bytes}
use Rattle.object_bytes.proofs.LoopLemmas.{integers-more}
use Rattle.object_bytes.proofs.writing.write.Goals as goal

pub loop-x-preserved : goal.loop-x-preserved
loop-x-preserved c =
    let object = c.args.object.now in
    let words = c.words-words.result.now in
    let i = c.loop-x.x-index in
    let x : ℤ = get_or words i (pos 0) in
    let fits : FitsSigned w128 x = search rules in
    let put : c.put_integer.new.out.items ≡ c.loop-x.out.items ++ integer_bytes x =
    c.in_ok-put_integer.ensures ∙ ap (λ y. c.loop-x.out.items ++ integer_bytes y) (to_z-of_z w128 x fits) in
    put ∙ integers-more (header_bytes (set_of_object object) (length (code_of object)) (length (words_of object)) ++ flat_map instr_bytes (code_of object))
    c.loop-x.out.items words (words_of object) i (pos 0) c.words-words.ensures c.loop-x-test.true c.loop-x.invariant
