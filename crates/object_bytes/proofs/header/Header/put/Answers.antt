use Rattle.std.proofs.Common.{[], ◌∷◌, ap}
use Rattle.std.specs.Prelude.{codes}
use Rattle.std.specs.Int.{w32, to_be_bytes}
use Rattle.object_bytes.specs.Spelling.{number_of_set}
use Rattle.object_bytes.proofs.LoopLemmas.{appended}
use Rattle.object_bytes.proofs.header.Header.put.Goals as goal

pub returns : goal.returns
returns c =
    let header = c.args.self.now in
    appended c.args.out.now.items (codes "RNMO") (1 ∷ c.number_of.result ∷ 0 ∷ 0 ∷ []) c.to_be_bytes.result c.to_be_bytes-2.result
    (1 ∷ number_of_set header.set ∷ 0 ∷ 0 ∷ []) (to_be_bytes w32 header.instructions) (to_be_bytes w32 header.words)
    c.extend_from_slice.new.self.items c.extend_from_slice-2.new.self.items c.extend_from_slice-3.new.self.items c.extend_from_slice-4.new.self.items
    c.in_ok-extend_from_slice.ensures.items c.in_ok-extend_from_slice-2.ensures.items c.in_ok-extend_from_slice-3.ensures.items c.in_ok-extend_from_slice-4.ensures.items
    (ap (λ n. 1 ∷ n ∷ 0 ∷ 0 ∷ []) c.number_of.ensures) c.to_be_bytes.ensures c.to_be_bytes-2.ensures
