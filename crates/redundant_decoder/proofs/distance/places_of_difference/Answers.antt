use Rattle.redundant_decoder.proofs.DistanceLemmas.{length-different_places}
use Rattle.redundant_decoder.proofs.DifferenceLemmas.{IsStrictlyIncreasing-different_places, different_places-are}
use Rattle.redundant_decoder.proofs.distance.places_of_difference.Goals as goal

pub returns : goal.returns
returns c = record {
  are = different_places-are;
  ascending = IsStrictlyIncreasing-different_places;
  count = length-different_places;
}
