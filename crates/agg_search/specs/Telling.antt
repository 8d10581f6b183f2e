-- How the end of a search is told.
use Rattle.std.specs.Prelude.{⊤, Option, None, Result, Ok, Err}
use Rattle.agg_model.specs.declared.aggregation.Search.{Search}
use Rattle.agg_model.specs.declared.outcome.Outcome.{Outcome}
use Rattle.agg_model.specs.declared.outcome.Outcome.TheVariants as ended
use Rattle.agg_reading.specs.declared.fault.RequestFault.{RequestFault}
use Rattle.agg_reading.specs.declared.fault.RequestFault.TheVariants as fault
use Rattle.agg_search.specs.declared.paging.Found.{Found}
use Rattle.agg_search.specs.declared.stop.Stop.{Stop}
use Rattle.agg_search.specs.declared.stop.Stop.TheVariants as stop

-- the fault is the body's
abbrev pub IsTold : RequestFault → Type 0
IsTold fault.NotJson = ⊤
IsTold (fault.Bad code path) = ⊤
IsTold fault.Memory = ⊥

abbrev pub told_as : Result Found Stop → Outcome
told_as (Ok found) = found.outcome
told_as (Err (stop.Refused t)) = ended.Tripped t
told_as (Err stop.Memory) = ended.Memory

-- the search of the page behind it; none where it was stopped
abbrev pub next_as : Result Found Stop → Option Search
next_as (Ok found) = found.next
next_as (Err s) = None
