-- What is loaded fits the mapping, whether or not the source tells its bytes.
use Rattle.std.proofs.Common.{◌≡◌, ◌≤◌, true, List, [], Ok, Err, Result, refl, sym, ap, subst, arith}
use Rattle.std.specs.Prelude.{IfOk}
use Rattle.agg_model.specs.Contexts.{parents_before}
use Rattle.agg_model.specs.MappingOrder.{IsOrdered}
use Rattle.agg_model.specs.declared.bulk.Action.{Action}
use Rattle.agg_model.specs.declared.bulk.Applied.{Applied}
use Rattle.agg_model.specs.declared.bulk.Item.{Item}
use Rattle.agg_model.specs.declared.limits.TheConstants.{MAX_SHARDS}
use Rattle.agg_model.specs.declared.mapping.Mapping.{Mapping}
use Rattle.agg_reading.specs.Reading.{Reading}
use Rattle.agg_reading.specs.Script.{Loading, after}
use Rattle.agg_reading.specs.Store.{Store, live_documents, store_weight}
use Rattle.agg_reading.specs.declared.parts.IndexLine.{IndexLine}
use Rattle.fitting_laws.specs.Stores.{IsFitting, IsIndexed}
use Rattle.fitting_laws.proofs.Shards.{shards_given}
use Rattle.script_lines.specs.declared.fault.ScriptFault.{ScriptFault}
use Rattle.agg_bulk.specs.Loading.{loading_of, loaded_of, store_in}
use Rattle.agg_bulk.specs.declared.sections.Sections.{Sections}

nothing_fits : (m : Mapping) → IsFitting m []
unfolding live_documents store_weight
nothing_fits m = (refl, let none : store_weight [] ≡ 0 = refl in omega (arith, none))

-- a store without ids
pub empty_fits : (m : Mapping) (store : Store) → store ≡ [] → IsFitting m store
empty_fits m store none = subst (IsFitting m) (sym none) (nothing_fits m)

-- an action keeps the documents fitting
pub still_fits : (action : Action) (done : Reading (Applied × Store)) (index : IndexLine) (store new : Store) (items more : List Item) → after action done (loading_of index store items) ≡ loading_of index new more →
    IfOk done (λ r. IsFitting index.mapping r.1) → IsFitting index.mapping store → IsFitting index.mapping new
still_fits action (Ok done) index store new items more same fits before = subst (IsFitting index.mapping) (ap (λ (l : Loading). l.store) same) fits
still_fits action (Err e) index store new items more same fits before = subst (IsFitting index.mapping) (ap (λ (l : Loading). l.store) same) before

-- what an index is built from
indexed_by : (index : IndexLine) (store : Store) → IsOrdered index.mapping → parents_before index.mapping ≡ true → (1 ≤ index.shards) × (index.shards ≤ MAX_SHARDS) → IsFitting index.mapping store → IsIndexed (loaded_of index store)
indexed_by index store ordered paths shards fitting = record {
  fitting = fitting;
  ordered = ordered;
  paths = paths;
  some = shards.0;
  at_most = shards.1;
  shards = shards_given index.mapping store index.shards shards.0 fitting;
}

pub indexed : (index : IndexLine) (result : Result Sections ScriptFault) → IsOrdered index.mapping → parents_before index.mapping ≡ true → (1 ≤ index.shards) × (index.shards ≤ MAX_SHARDS) →
    IfOk result (λ s. s.index ≡ index) → IfOk result (λ s. IsFitting s.index.mapping (store_in s)) → IfOk result (λ s. IsIndexed (loaded_of s.index (store_in s)))
indexed index (Ok s) ordered paths shards same fitting =
    indexed_by s.index (store_in s)
    (subst (λ (i : IndexLine). IsOrdered i.mapping) (sym same) ordered)
    (subst (λ (i : IndexLine). parents_before i.mapping ≡ true) (sym same) paths)
    (subst (λ (i : IndexLine). (1 ≤ i.shards) × (i.shards ≤ MAX_SHARDS)) (sym same) shards)
    fitting
indexed index (Err e) ordered paths shards same fitting = tt
