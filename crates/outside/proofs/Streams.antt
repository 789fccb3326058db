-- One more read or write.
use Rattle.std.proofs.Common.{◌≡◌, ℕ, ◌+◌, ◌-◌, ◌<◌, ◌≤◌, List, [], ◌++◌, Option, Some, Result, Ok, Err, arith, append-nil, length, take, drop}
use Rattle.std.proofs.lemmas.List.{length-take-le, take-append-drop, take_rest}
use Rattle.std.proofs.Math.Seq.{take-append-add}
use Rattle.std.proofs.KnownBytes.{Appends-trans, Consumes-trans, Consumes-kept}
use Rattle.std.specs.Io.{ReadsAtMost}
use Rattle.std.specs.Io.KnownBytes.{Appends, Consumes, ReadConsumes}
use Rattle.std.specs.declared.io.Error.{Error}
use Rattle.outside.specs.Streams.{FillLeaves, ReadTaken}
use Rattle.outside.specs.declared.shelf.Fetch.{Fetch}
use Rattle.outside.specs.declared.shelf.Fetch.TheVariants.{Whole, TooLong, Failed as FetchFailed, NoMemory}

pub take-add : (i n : ℕ) (bytes : List ℕ) → i ≤ length bytes → take (i + n) bytes ≡ take i bytes ++ take n (drop i bytes)
take-add i n bytes h =
    rw (take-append-drop i bytes, length-take-le i bytes h) at (take-append-add (take i bytes) (drop i bytes) n)

-- the writer was given `&bytes[i..]`
pub wrote_more : (old mid new : Option (List ℕ)) (i n : ℕ) (bytes : List ℕ) → i ≤ length bytes → Appends old mid (take i bytes) → Appends mid new (take n (take (length bytes - i) (drop i bytes))) → Appends old new (take (i + n) bytes)
wrote_more old mid new i n bytes h p q =
    rw (take-add i n bytes h) (Appends-trans old mid new (take i bytes) (take n (drop i bytes)) p (rw (take_rest bytes i) at q))

-- the read that ends a fill of a buffer which held some bytes of the file before
pub fill_ends : (old mid new : Option (List ℕ)) (got : Result ℕ Error) (chunk before bytes : List ℕ) (limit capacity grown : ℕ) (answer : Fetch)
    → length before ≤ limit → capacity ≤ grown → length before + length chunk ≤ limit + 1 → 0 < length chunk → ReadsAtMost got chunk
    → Consumes old mid before → ReadConsumes mid new got chunk → ReadTaken got chunk grown before (Some answer) bytes → FillLeaves old new limit capacity answer bytes
fill_ends old mid new (Ok count) chunk before bytes limit capacity grown Whole fits grows room some bound p q (ended, same) =
    let none : count ≡ 0 = cc in
    let nothing : Consumes mid new [] = rw none at q.0 in
    (rw same fits, rw (same, ← append-nil before) (Consumes-trans old mid new before [] p nothing), q.1 none some)
fill_ends old mid new (Err error) chunk before bytes limit capacity grown Whole fits grows room some bound p q (ended, same) = cc
fill_ends old mid new got chunk before bytes limit capacity grown TooLong fits grows room some bound p q taken = absurd taken
fill_ends old mid new (Ok count) chunk before bytes limit capacity grown FetchFailed fits grows room some bound p q (failed, same) = cc
fill_ends old mid new (Err error) chunk before bytes limit capacity grown FetchFailed fits grows room some bound p q (failed, same) =
    (rw same fits, rw same (Consumes-kept old mid new before p q))
fill_ends old mid new (Ok count) chunk before bytes limit capacity grown NoMemory fits grows room some bound p q (full, same) =
    let lost = take count chunk in
    let as_long : length lost ≡ count = length-take-le count chunk bound.0 in
    rw same (lost, omega (arith, as_long), omega (arith, as_long), Consumes-trans old mid new before lost p q.0)
fill_ends old mid new (Err error) chunk before bytes limit capacity grown NoMemory fits grows room some bound p q (full, same) = absurd full
