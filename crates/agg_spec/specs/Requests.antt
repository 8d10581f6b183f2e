-- A script as searches see it: the index that its bulk lines leave, and the bodies that follow ('Bulk API', 'Multi search API').
use Rattle.std.specs.Prelude.{ℕ, ◌*◌, ◌/◌, List, [], ◌∷◌, map, length, take, Option, Some, None, Result, Ok, Err}
use Rattle.agg_model.specs.declared.bulk.Item.{Item}
use Rattle.agg_model.specs.declared.aggregation.Search.{Search}
use Rattle.agg_model.specs.declared.outcome.Refused.{Refused}
use Rattle.agg_model.specs.declared.outcome.Refused.TheVariants as refused
use Rattle.agg_evaluation.specs.Rows.{rows_of_documents}
use Rattle.agg_reading.specs.declared.fault.RequestFault.{RequestFault}
use Rattle.agg_reading.specs.declared.fault.RequestFault.TheVariants as fault
use Rattle.agg_reading.specs.Lines.{ScriptRefusal}
use Rattle.agg_reading.specs.Store.{shards_of}
use Rattle.agg_reading.specs.Script.{Loaded}
use Rattle.agg_reading.specs.Request.{search_of}
use Rattle.serde_json.specs.Data.{Data}
use Rattle.agg_spec.specs.Index.{Index}
use Rattle.agg_reading.specs.Entries.{Entry, body, change, entries}
use Rattle.agg_spec.specs.Columns.{columns_charge}
use Rattle.agg_spec.specs.Outcome.{Request}

abbrev pub loaded_index : Loaded → Index
loaded_index l = record {
  name = l.index.name;
  mapping = l.index.mapping;
  shards = map rows_of_documents (shards_of l.store l.index.shards);
}

-- the refusal of a body; its reading answers no other fault
abbrev pub refusal_of_fault : RequestFault → Refused
refusal_of_fault fault.NotJson = refused.NotJson
refusal_of_fault (fault.Bad code path) = refused.Bad code path
refusal_of_fault fault.Memory = refused.NotJson

abbrev pub or_refused : Result Search RequestFault → Result Search Refused
or_refused (Ok search) = Ok search
or_refused (Err f) = Err (refusal_of_fault f)

abbrev pub request_of : Index → List ℕ → Request
request_of index text = record { bytes = length text; search = or_refused (search_of index.mapping text) }

-- searches up to a settings line, or to the end of the script
pub record Segment : Type 0 where
  pub requests : List Request
  pub change : Option Data

abbrev pub with_request : Request → List Segment → List Segment
with_request r [] = []
with_request r (s ∷ rest) = record s { requests = r ∷ s.requests } ∷ rest

-- the segments, of which only the last has no settings line
abbrev pub segments : Index → List Entry → List Segment
segments index [] = record { requests = []; change = None } ∷ []
segments index (body bytes ∷ rest) = with_request (request_of index bytes) (segments index rest)
segments index (change line ∷ rest) = record { requests = []; change = Some line } ∷ segments index rest

-- what is there once the bulk lines are loaded: the segments that follow, and the refusal that ends them
pub record LoadedScript : Type 0 where
  pub index : Index
  pub items : List Item
  -- the columns' charge
  pub columns : ℕ
  pub segments : List Segment
  pub refused : Option ScriptRefusal

abbrev pub loaded_script : Loaded → LoadedScript
loaded_script l =
    let index = loaded_index l in
    let following = entries l.place l.rest in
    (record {
      index = index;
      items = l.items;
      columns = columns_charge index;
      segments = segments index following.entries;
      refused = following.refused;
    })

-- Where a script is refused, or its source fails, the searches of its last wave are not answered if the wave is not full.
abbrev pub to_full_waves : ℕ → Segment → Option Data → Segment
to_full_waves width s (Some line) = s
to_full_waves width s None = record s { requests = take (length s.requests / width * width) s.requests }

abbrev pub cut_short : ℕ → List Segment → List Segment
cut_short width = map (λ s. to_full_waves width s s.change)
