-- What follows for an aggregation that is made for the mapping of a shard: its kind and its children are.
use Rattle.std.proofs.Common.{◌≡◌, ℕ, ◌<◌, false, length, map, get_or, sym, ◌∙◌, ap}
use Rattle.std.proofs.Math.Logic.{∥∥₁_map}
use Rattle.agg_model.specs.declared.aggregation.Agg.{Agg, out-Agg}
use Rattle.agg_evaluation.specs.Folds.{fold_agg}
use Rattle.agg_evaluation.specs.SearchFits.{Made, made_at, handed, agg_fits}
use Rattle.agg_evaluation.proofs.AggFolds.{fold_agg-level}
use Rattle.agg_evaluation.proofs.MadeSearches.{made_parts}
use Rattle.column_query.proofs.Lists.{all_mapped}
use Rattle.column_query.proofs.PreparedCases.{all_at}
use Rattle.shard_columns.specs.Columns.{Columns}
use Rattle.shard_columns.specs.Made.{IsAggFor}
use Rattle.filters_agg.specs.Filtering.{IsMadeFor}

-- the aggregation's kind is made for the shard
pub kind-made : (shard : Columns) (a : Agg) → IsAggFor shard a → IsMadeFor shard (out-Agg a).kind
kind-made shard a made =
    ∥∥₁_map made (λ found.
    let m = found.0 in
    let top = found.1.0 in
    let context = found.1.1.0 in
    let level = ap (λ (x : Made). x.fits top context) (fold_agg-level (made_at m) a) in
    let parts = made_parts m (out-Agg a).kind (map (fold_agg (made_at m)) (out-Agg a).children) top context (sym level ∙ found.1.1.1.1) in
    (m, (top, (context, (_, (found.1.1.1.0, parts.0))))))

-- and so is each child
pub child-made : (shard : Columns) (a : Agg) (i : ℕ) (c : Agg) → IsAggFor shard a → i < length (out-Agg a).children → c ≡ get_or (out-Agg a).children i c → IsAggFor shard c
child-made shard a i c made below is =
    ∥∥₁_map made (λ found.
    let m = found.0 in
    let top = found.1.0 in
    let context = found.1.1.0 in
    let k = (out-Agg a).kind in
    let level = ap (λ (x : Made). x.fits top context) (fold_agg-level (made_at m) a) in
    let parts = made_parts m k (map (fold_agg (made_at m)) (out-Agg a).children) top context (sym level ∙ found.1.1.1.1) in
    let each = sym (all_mapped (λ (x : Made). x.fits false (handed context k)) (fold_agg (made_at m)) (out-Agg a).children) ∙ parts.1 in
    (m, (false, (handed context k, (found.1.1.1.0, all_at (agg_fits m false (handed context k)) (out-Agg a).children i c below is each)))))
