use Rattle.std.proofs.Common.{ap, refl}
use Rattle.outside.proofs.Missing.{missing_counts, found_counts}
use Rattle.outside.proofs.memory_shelf.MemoryShelfShelf.fetch.Goals as goal

pub returns-in-None-clause-leaves : goal.returns-in-None-clause-leaves
returns-in-None-clause-leaves c =
    let missing = rw c.count_fetch.ensures at c.in-None.ensures in
    (c.clear.ensures.items, rw c.count_fetch.ensures (missing_counts c.args.self.now _ _ missing refl))

pub returns-in-Some-clause-leaves : goal.returns-in-Some-clause-leaves
returns-in-Some-clause-leaves c =
    let found = rw c.count_fetch.ensures at c.in-Some.ensures in
    let counts = rw c.count_fetch.ensures at c.count_fault.ensures.counts in
    (c.clear.ensures.items, found_counts c.args.self.now _ _ _ found (ap (λ shelf. shelf.faults) counts))
