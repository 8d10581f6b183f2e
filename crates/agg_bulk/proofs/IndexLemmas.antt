-- The index of the shards of what was loaded.
use Rattle.std.proofs.Common.{◌≡◌, ◌∙◌, ◌<◌, ℕ, List, ap, map, length, subst, sym, arith}
use Rattle.std.specs.Prelude.{filter, ◌==◌}
use Rattle.std.proofs.lemmas.List.{length-map}
use Rattle.std.proofs.lemmas.List.FromFn.{length-map-range_with_len}
use Rattle.agg_model.specs.declared.limits.TheConstants.{WEIGHT_LIMIT}
use Rattle.agg_model.specs.declared.row.Document.{Document}
use Rattle.agg_evaluation.specs.Rows.{rows_of_documents}
use Rattle.fitting_laws.specs.Stores.{IsIndexed}
use Rattle.shard_columns.specs.Built.{columns_from}
use Rattle.shard_columns.specs.Columns.{Columns}
use Rattle.shard_columns.specs.Index.{AreShardsOf, rows_by_shard, shards_weight}
use Rattle.shard_columns.proofs.Indexing.{are-shards, weigh-same, rows-same}
use Rattle.agg_reading.specs.declared.parts.IndexLine.{IndexLine}
use Rattle.agg_bulk.specs.Loading.{loaded_of}
use Rattle.agg_reading.specs.Routing.{shard_of}
use Rattle.agg_reading.specs.Store.{Store, live_documents, shards_of}

-- the shards of what was loaded are as many as the index line says
number_of_shards : (store : Store) (n : ℕ) → length (shards_of store n) ≡ n
unfolding shards_of
number_of_shards store n = length-map-range_with_len (λ s. filter (λ (d : Document). shard_of d.routing n == s) (live_documents store)) 0 n

-- what an index keeps of its shards
pub record IsOfShards (line : IndexLine) (store : Store) (shards : List Columns) : Type 0 where
  pub number : length shards ≡ line.shards
  pub built : AreShardsOf line.mapping shards
  pub light : shards_weight shards < WEIGHT_LIMIT
  pub rows : rows_by_shard shards ≡ map rows_of_documents (shards_of store line.shards)

pub of_shards : (line : IndexLine) (store : Store) (n : ℕ) (shards : List Columns) → IsIndexed (loaded_of line store) → n ≡ line.shards → shards ≡ map (columns_from line.mapping) (shards_of store n) → IsOfShards line store shards
of_shards line store n shards given same is =
    let m = line.mapping in
    let lists = shards_of store line.shards in
    let shards_are : shards ≡ map (columns_from m) lists = is ∙ ap (λ (k : ℕ). map (columns_from m) (shards_of store k)) same in
    let below = given.shards.light in
    record {
      number = ap length shards_are ∙ (length-map lists (columns_from m) ∙ number_of_shards store line.shards);
      built = subst (AreShardsOf m) (sym shards_are) (are-shards m lists given.ordered.few given.paths given.shards.fit below);
      light = subst (λ (ss : List Columns). shards_weight ss < WEIGHT_LIMIT) (sym shards_are) (omega (arith, weigh-same m lists, below));
      rows = ap rows_by_shard shards_are ∙ rows-same m lists;
    }
