use Rattle.redundant_decoder.proofs.LawLemmas.{law_of_part, law_of_whole, law_of_erased}
use Rattle.redundant_decoder.proofs.distance.distance_law.Goals as goal

pub returns : goal.returns
returns c = record { part = law_of_part; whole = law_of_whole; erased = law_of_erased }
