use Rattle.machine_table.specs.Objects.{code_of, set_of_object, words_of}
use Rattle.assembler.specs.Listing.{AreWritable}
use Rattle.std.proofs.Common.{subst}
use Rattle.assembler.proofs.ListingLemmas.{listings_come_back}
use Rattle.assembler.proofs.laws.listing_of_object_comes_back.Goals as goal

pub returns : goal.returns
returns c =
    let object = c.args.object.now in
    listings_come_back (set_of_object object) (code_of object) (words_of object) c.rules.ensures.sound (subst AreWritable c.code.ensures c.are_writable.ensures)
