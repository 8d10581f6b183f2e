use Rattle.arrival_moves.proofs.TaskPlaces.{place_within, places_apart, place_at}
use Rattle.arrival_moves.proofs.laws.places.Goals as goal

pub returns : goal.returns
returns c = λ p good. record { within = place_within p; apart = places_apart p; all = place_at p good }
