-- A refusal of a walk is that of its fault.
use Rattle.std.proofs.Common.{◌∙◌, ap}
use Rattle.std.specs.Prelude.{is_some}
use Rattle.std.proofs.lemmas.Bool.{false≢true}
use Rattle.agg_reading.specs.declared.fault.RequestFault.{RequestFault}
use Rattle.agg_reading.specs.declared.fault.RequestFault.TheVariants.{NotJson, Bad, Memory}
use Rattle.agg_reading.specs.Reading.{Reading, Fails}
use Rattle.agg_mapping.specs.declared.fault.MapFault.{MapFault}
use Rattle.agg_mapping.specs.declared.fault.MapFault.TheVariants as fault
use Rattle.agg_mapping.specs.Faults.{place_of, refused_at, StandsAt, Refuses}

pub refuses : {A : Type 0} (e : RequestFault) (walk : Reading A) (m : MapFault) → Fails e walk → StandsAt (place_of e) m → Refuses walk m
refuses e walk fault.Memory h s = tt
refuses NotJson walk (fault.Refused path) h s = ap refused_at h ∙ s
refuses (Bad c p) walk (fault.Refused path) h s = ap refused_at h ∙ s
refuses Memory walk (fault.Refused path) h s = absurd (false≢true (ap is_some s))
