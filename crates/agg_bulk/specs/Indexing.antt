-- An index that was built, as the definitions of answers see one, and what loading one answers (Elasticsearch Reference 8,
-- 'Index modules', 'Bulk API').
use Rattle.std.specs.Prelude.{◌≡◌, ℕ, List, Option, Some, Result, Ok, Err, Bool, option_map}
use Rattle.agg_base.specs.Lines.{unread, position, has_ended, bytes_read}
use Rattle.agg_base.specs.declared.lines.Lines.{Lines}
use Rattle.agg_base.specs.declared.source.Source.{Ghosts}
use Rattle.agg_model.specs.Lines.{lines}
use Rattle.agg_reading.specs.Lines.{Place}
use Rattle.agg_reading.specs.Script.{Loaded, loaded}
use Rattle.agg_spec.specs.Requests.{loaded_index}
use Rattle.fitting_laws.specs.Indexes.{index_of}
use Rattle.script_lines.specs.Steps.{place_of}
use Rattle.script_lines.specs.declared.fault.ScriptFault.{ScriptFault}
use Rattle.agg_bulk.specs.Loading.{GoesOnAt, Ends}
use Rattle.agg_bulk.specs.declared.index.LoadedIndex.{LoadedIndex}

-- The index and the items are those that the script loads, and what is left of it stands behind them: they are loaded in front of
-- whatever follows.
pub record IsLoaded (bytes : List ℕ) (built : LoadedIndex) (place : Place) (left : Option (List ℕ)) (count : ℕ) (ended : Bool) : Type 0 where
  pub defined : Loaded
  pub script : loaded (lines bytes) ≡ Ok defined
  pub index : index_of built.index ≡ loaded_index defined
  pub items : built.items ≡ defined.items
  pub stands : place ≡ defined.place
  pub rest : option_map lines left ≡ Some defined.rest
  pub goes_on : GoesOnAt bytes (λ more. Ok (record defined { rest = more })) left count ended

abbrev pub IndexesAt : List ℕ → Result LoadedIndex ScriptFault → Place → Option (List ℕ) → ℕ → Bool → ℕ → Type 0
IndexesAt bytes (Ok built) place left count ended read = IsLoaded bytes built place left count ended
IndexesAt bytes (Err fault) place left count ended read = Ends bytes fault read

-- what loading answers of an input
abbrev pub Indexes : {S : Type 0} {g : Ghosts S} → List ℕ → Result LoadedIndex ScriptFault → Lines S g → Type 0
Indexes bytes result reader = IndexesAt bytes result (place_of reader) (unread reader) (position reader) (has_ended reader) (bytes_read reader)
