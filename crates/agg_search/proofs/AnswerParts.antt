-- What is asked of the shards of an index and of the whole of those that are left.
use Rattle.std.specs.Prelude.{ℕ, List, length, IsTrue}
use Rattle.std.proofs.Common.{sym, ap, subst}
use Rattle.std.proofs.Math.Bool.{Bool-set}
use Rattle.std.proofs.Math.Logic.{∥∥₁_elim}
use Rattle.std.proofs.lemmas.Bool.{le-leb, leb-true}
use Rattle.agg_cost.proofs.Summing.{one-shard}
use Rattle.agg_cost.specs.Searches.{AreApart}
use Rattle.agg_evaluation.specs.Counted.{IsApart}
use Rattle.agg_evaluation.specs.Finishable.{can_finish}
use Rattle.agg_evaluation.specs.SearchFits.{search_fits}
use Rattle.agg_model.specs.declared.aggregation.Search.{Search}
use Rattle.agg_model.specs.declared.mapping.Mapping.{Mapping}
use Rattle.agg_model.specs.declared.outcome.Failure.{Failure}
use Rattle.agg_model.specs.declared.row.Document.{Document}
use Rattle.agg_spec.specs.Failures.{unfailed}
use Rattle.agg_spec.specs.Outcome.{whole_of}
use Rattle.fitting_laws.proofs.Aparts.{documents_apart}
use Rattle.shard_columns.specs.Built.{IsBuiltFrom, IsShardOf}
use Rattle.shard_columns.specs.Columns.{Columns}
use Rattle.shard_columns.specs.declared.index.Index.{Index as ShardIndex}
use Rattle.fitting_laws.specs.Indexes.{index_of}
use Rattle.agg_search.proofs.Batching.{rows-count}
use Rattle.list_laws.specs.Among.{AreAmong}
use Rattle.fitting_laws.proofs.SomeShards.{finish-some}
use Rattle.agg_search.proofs.Parts.{among-left}

built-apart : (m : Mapping) (s : Columns) (documents : List Document) → IsBuiltFrom m documents s → IsApart s.rows
built-apart m s documents built =
    subst IsApart (sym (ap (λ (c : Columns). c.rows) built.columns_are)) (documents_apart m documents built.paths built.fit)

pub shards-apart : (index : ShardIndex) → AreApart index.shards
shards-apart index place shard at inner context =
    leb-true _ _ (∥∥₁_elim (one-shard index.mapping index.shards place shard at index.built) (Bool-set _ _) (λ (of : IsShardOf index.mapping shard).
    ∥∥₁_elim of (Bool-set _ _) (λ (found : (documents : List Document) × IsBuiltFrom index.mapping documents shard).
    le-leb _ _ (built-apart index.mapping shard found.0 found.1 inner context))))

pub left-finish : (index : ShardIndex) (search : Search) → IsTrue (search_fits index.mapping search) → (fs : List Failure) → IsTrue (can_finish search (whole_of (index_of index) search (unfailed (index_of index) fs)))
left-finish index search made fs =
    finish-some index search made (unfailed (index_of index) fs)
    (subst (λ (n : ℕ). AreAmong n (unfailed (index_of index) fs)) (rows-count index) (among-left fs (length (index_of index).shards)))
