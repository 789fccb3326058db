use Rattle.thin_source.proofs.PocketIntervals.{held_interval_product}
use Rattle.thin_source.proofs.rules.interval_product.Goals as goal

pub returns : goal.returns
returns c =
    held_interval_product c.args.i c.args.j _ _ _ _ _ _ c.requires.left c.requires.right
    (record { sfits = c.min.type_inv })
    (record { sfits = c.min-2.type_inv })
    (record { sfits = c.min-3.type_inv })
    (record { sfits = c.max.type_inv })
    (record { sfits = c.max-2.type_inv })
    (record { sfits = c.max-3.type_inv })
    c.min.ensures.value
    c.min-2.ensures.value
    c.min-3.ensures.value
    c.max.ensures.value
    c.max-2.ensures.value
    c.max-3.ensures.value
