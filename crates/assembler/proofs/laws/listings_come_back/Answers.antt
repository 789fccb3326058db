use Rattle.assembler.proofs.ListingLemmas.{listings_come_back, listings_spell}
use Rattle.assembler.proofs.laws.listings_come_back.Goals as goal

pub returns-clause-spell : goal.returns-clause-spell
returns-clause-spell c = listings_spell

pub returns-clause-come_back : goal.returns-clause-come_back
returns-clause-come_back c = listings_come_back
