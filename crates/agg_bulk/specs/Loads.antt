-- What loading answers: the index, its items and the charge of its columns, or why there are none (Elasticsearch Reference 8,
-- 'Bulk API', 'Circuit breaker settings').
use Rattle.std.specs.Prelude.{◌≡◌, ℕ, List, Option, Some, Result, Ok, Err, Bool}
use Rattle.agg_base.specs.Lines.{unread, position, has_ended, bytes_read}
use Rattle.agg_base.specs.declared.lines.Lines.{Lines}
use Rattle.agg_base.specs.declared.source.Source.{Ghosts}
use Rattle.agg_model.specs.Lines.{lines}
use Rattle.agg_model.specs.declared.breaker.Limits.{Limits}
use Rattle.agg_reading.specs.Lines.{Place}
use Rattle.agg_reading.specs.Script.{loaded}
use Rattle.agg_reading.specs.Script.{Loaded as Defined}
use Rattle.agg_spec.specs.Columns.{columns_charge, columns_refusal}
use Rattle.agg_spec.specs.Requests.{loaded_index}
use Rattle.script_lines.specs.Steps.{place_of}
use Rattle.script_lines.specs.declared.fault.ScriptFault.{ScriptFault}
use Rattle.script_lines.specs.declared.fault.ScriptFault.TheVariants as fault
use Rattle.agg_bulk.specs.Indexing.{IsLoaded}
use Rattle.agg_bulk.specs.Loading.{Ends}
use Rattle.agg_bulk.specs.declared.end.LoadEnd.{LoadEnd}
use Rattle.agg_bulk.specs.declared.end.LoadEnd.TheVariants.{Script, Read, Columns, Memory}
use Rattle.agg_bulk.specs.declared.loading.Loaded.{Loaded}

abbrev pub end_of : ScriptFault → LoadEnd
end_of (fault.Refused r) = Script r
end_of fault.Read = Read
end_of fault.Memory = Memory

-- The script is refused, or its whole lines do not load where the source failed, or it loads and a breaker refuses its columns.
abbrev pub EndsLoading : Limits → List ℕ → LoadEnd → ℕ → Type 0
EndsLoading limits bytes (Script r) read = Ends bytes (fault.Refused r) read
EndsLoading limits bytes Read read = Ends bytes fault.Read read
EndsLoading limits bytes (Columns t) read =
    (defined : Defined) × (loaded (lines bytes) ≡ Ok defined) × (columns_refusal limits (columns_charge (loaded_index defined)) ≡ Some t)
EndsLoading limits bytes Memory read = Ends bytes fault.Memory read

abbrev pub LoadsAt : Limits → List ℕ → Result Loaded LoadEnd → Place → Option (List ℕ) → ℕ → Bool → ℕ → Type 0
LoadsAt limits bytes (Ok l) place left count ended read = IsLoaded bytes (record { index = l.index; items = l.items }) place left count ended
LoadsAt limits bytes (Err end) place left count ended read = EndsLoading limits bytes end read

-- what loading answers of an input
abbrev pub Loads : {S : Type 0} {g : Ghosts S} → Limits → List ℕ → Result Loaded LoadEnd → Lines S g → Type 0
Loads limits bytes result reader = LoadsAt limits bytes result (place_of reader) (unread reader) (position reader) (has_ended reader) (bytes_read reader)
