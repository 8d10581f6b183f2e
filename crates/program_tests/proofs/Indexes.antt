-- What is asked of the shards of an index, and of the searches that are read for it.
use Rattle.std.specs.Prelude.{List}
use Rattle.std.proofs.Common.{sym, ap, subst}
use Rattle.std.proofs.Math.Bool.{Bool-set}
use Rattle.std.proofs.Math.Logic.{∥∥₁_elim}
use Rattle.std.proofs.lemmas.Bool.{le-leb, leb-true}
use Rattle.agg_cost.proofs.Summing.{one-shard}
use Rattle.agg_cost.specs.Searches.{AreApart}
use Rattle.agg_evaluation.specs.Counted.{IsApart}
use Rattle.agg_model.specs.declared.mapping.Mapping.{Mapping}
use Rattle.agg_model.specs.declared.row.Document.{Document}
use Rattle.fitting_laws.proofs.Aparts.{documents_apart}
use Rattle.shard_columns.specs.Built.{IsBuiltFrom, IsShardOf}
use Rattle.shard_columns.specs.Columns.{Columns}
use Rattle.shard_columns.specs.declared.index.Index.{Index}

built-apart : (m : Mapping) (s : Columns) (documents : List Document) → IsBuiltFrom m documents s → IsApart s.rows
built-apart m s documents built =
    subst IsApart (sym (ap (λ (c : Columns). c.rows) built.columns_are)) (documents_apart m documents built.paths built.fit)

pub shards-apart : (index : Index) → AreApart index.shards
shards-apart index place shard at inner context =
    leb-true _ _ (∥∥₁_elim (one-shard index.mapping index.shards place shard at index.built) (Bool-set _ _) (λ (of : IsShardOf index.mapping shard).
    ∥∥₁_elim of (Bool-set _ _) (λ (found : (documents : List Document) × IsBuiltFrom index.mapping documents shard).
    le-leb _ _ (built-apart index.mapping shard found.0 found.1 inner context))))
