use Rattle.std.proofs.Common.{ℕ, ◌+◌, ◌<◌, ◌≤◌, length, length-take, arith}
use Rattle.outside.proofs.Streams.{fill_ends}
use Rattle.outside.proofs.file_shelf.fill.Goals as goal

pub returns-in-Some : goal.returns-in-Some
returns-in-Some g c =
    let before = c.loop-chunk.into.items in
    let fits : length before ≤ c.args.limit = omega arith in
    let room : length before + length c.read.new.buf ≤ c.args.limit + 1 = omega (arith, length-take {A = ℕ}) in
    let some : 0 < length c.read.new.buf = omega (arith, length-take {A = ℕ}) in
    fill_ends _ _ _ c.read.result c.read.new.buf before _ c.args.limit _ _ c.in-Some.answer fits c.loop-chunk.invariant.capacity room some c.read.ensures.bound c.loop-chunk.invariant.read c.read.ensures.bytes c.in-Some.ensures.taken
