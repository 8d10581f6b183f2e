-- What a fault of a mapping or an index line says of its walk (Elasticsearch Reference 8, 'API conventions': errors).
use Rattle.std.specs.Prelude.{◌≡◌, ℕ, List, [], Option, Some, None, Ok, Err, ⊤}
use Rattle.agg_reading.specs.declared.fault.RequestFault.{RequestFault}
use Rattle.agg_reading.specs.declared.fault.RequestFault.TheVariants.{NotJson, Bad, Memory}
use Rattle.agg_reading.specs.Reading.{Reading}
use Rattle.agg_mapping.specs.declared.fault.MapFault.{MapFault}
use Rattle.agg_mapping.specs.declared.fault.MapFault.TheVariants as fault

-- the pointer of a refusal; what is no JSON is refused at the start
abbrev pub place_of : RequestFault → Option (List ℕ)
place_of NotJson = Some []
place_of (Bad code at) = Some at
place_of Memory = None

-- where a walk ends in a refusal
abbrev pub refused_at : {A : Type 0} → Reading A → Option (List ℕ)
refused_at (Ok x) = None
refused_at (Err e) = place_of e

-- the fault has this pointer, unless memory ran out
abbrev pub StandsAt : Option (List ℕ) → MapFault → Type 0
StandsAt place (fault.Refused path) = place ≡ Some path
StandsAt place fault.Memory = ⊤

-- the walk is refused where the fault says, unless memory ran out
abbrev pub Refuses : {A : Type 0} → Reading A → MapFault → Type 0
Refuses walk fault = StandsAt (refused_at walk) fault
