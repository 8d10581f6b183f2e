-- The requests of bodies of which none was read before.
use Rattle.std.specs.Prelude.{◌≡◌, refl, ℕ, List, [], ◌∷◌, map, length, Option, None}
use Rattle.std.proofs.Common.{ap}
use Rattle.agg_model.specs.declared.aggregation.Search.{Search}
use Rattle.agg_spec.specs.Index.{Index}
use Rattle.agg_spec.specs.Outcome.{Request}
use Rattle.agg_spec.specs.Requests.{request_of}
use Rattle.wave_bodies.specs.Asking.{requests_from}

pub none-read : (index : Index) (bodies : List (List ℕ)) → requests_from index None bodies ≡ map (request_of index) bodies
none-read index [] = refl
none-read index (body ∷ bodies) = ap (λ rs. request_of index body ∷ rs) (none-read index bodies)

-- and their lengths
pub bytes-from : (index : Index) (page : Option Search) (bodies : List (List ℕ)) → map (λ (r : Request). r.bytes) (requests_from index page bodies) ≡ map length bodies
bytes-from index page [] = refl
bytes-from index page (body ∷ bodies) = ap (λ ns. length body ∷ ns) (bytes-from index None bodies)
