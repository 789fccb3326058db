use Rattle.std.proofs.Common.{◌++◌, ap, ◌∙◌}
use Rattle.std.specs.Int.{w128}
use Rattle.std.proofs.lemmas.Int.{to_z-of_z}
use Rattle.object_bytes.specs.Record.{integer_bytes}
use Rattle.object_bytes.proofs.writing.put_integer.Goals as goal

pub returns : goal.returns
returns c =
    c.in_ok-extend_from_slice.ensures.items
    ∙ ap (λ bytes. c.args.out.now.items ++ bytes) (c.to_be_bytes.ensures ∙ ap integer_bytes (to_z-of_z w128 c.args.x c.ranges.x))
