-- Why loading ends: where reading the script does, or at the charge of the columns.
use Rattle.std.proofs.Common.{◌≡◌, ◌∙◌, ℕ, Bool, List, Option, sym, ap, subst}
use Rattle.agg_model.specs.declared.breaker.Limits.{Limits}
use Rattle.agg_reading.specs.Lines.{Place}
use Rattle.agg_spec.specs.Columns.{columns_charge, columns_refusal}
use Rattle.agg_spec.specs.Index.{Index}
use Rattle.script_lines.specs.declared.fault.ScriptFault.{ScriptFault}
use Rattle.script_lines.specs.declared.fault.ScriptFault.TheVariants as fault
use Rattle.agg_bulk.specs.Charging.{RefusesColumns}
use Rattle.agg_bulk.specs.Indexing.{IsLoaded}
use Rattle.fitting_laws.specs.Indexes.{index_of}
use Rattle.agg_bulk.specs.Loading.{Ends}
use Rattle.agg_bulk.specs.Loads.{EndsLoading, end_of}
use Rattle.agg_bulk.specs.declared.end.LoadEnd.{LoadEnd}
use Rattle.agg_bulk.specs.declared.end.LoadEnd.TheVariants.{Script, Read, Columns, Memory}
use Rattle.agg_bulk.specs.declared.index.LoadedIndex.{LoadedIndex}

by_fault : (limits : Limits) (bytes : List ℕ) (f : ScriptFault) (read : ℕ) → Ends bytes f read → EndsLoading limits bytes (end_of f) read
by_fault limits bytes (fault.Refused r) read ends = ends
by_fault limits bytes fault.Read read ends = ends
by_fault limits bytes fault.Memory read ends = ends

pub ends_as : (limits : Limits) (bytes : List ℕ) (f : ScriptFault) (answer : LoadEnd) (read : ℕ) → answer ≡ end_of f → Ends bytes f read → EndsLoading limits bytes answer read
ends_as limits bytes f answer read same ends = subst (λ (e : LoadEnd). EndsLoading limits bytes e read) (sym same) (by_fault limits bytes f read ends)

pub columns_end : (limits : Limits) (bytes : List ℕ) (built : LoadedIndex) (place : Place) (left : Option (List ℕ)) (count : ℕ) (ended : Bool) (charge : ℕ) (answer : LoadEnd) (read : ℕ) → IsLoaded bytes built place left count ended →
    charge ≡ columns_charge (index_of built.index) → RefusesColumns limits charge answer → EndsLoading limits bytes answer read
columns_end limits bytes built place left count ended charge (Columns t) read l is refused =
    (l.defined, l.script, ap (λ (i : Index). columns_refusal limits (columns_charge i)) (sym l.index) ∙ ap (columns_refusal limits) (sym is) ∙ refused)
columns_end limits bytes built place left count ended charge Memory read l is refused = tt
columns_end limits bytes built place left count ended charge (Script r) read l is refused = absurd refused
columns_end limits bytes built place left count ended charge Read read l is refused = absurd refused
