use Rattle.std.proofs.Common.{◌≡◌, List, sym, ◌∙◌, subst, ap, length, map, ◌<◌, []}
use Rattle.std.specs.Prelude.{ℕ, Option, Ok, IfOk, slice_index_or}
use Rattle.std.proofs.lemmas.Result.{IfOk-weaker}
use Rattle.agg_evaluation.specs.Ceiling.{ceiling}
use Rattle.agg_evaluation.specs.Rows.{PlacedRow}
use Rattle.agg_cost.specs.Searches.{kinds_of}
use Rattle.agg_cost.proofs.EachTask.{as-many, each-of}
use Rattle.shard_columns.specs.Index.{rows_by_shard}
use Rattle.agg_cost.proofs.searches.ceilings_by_shard.Goals as goal

pub returns : goal.returns
returns g c =
    let shards = c.args.index.now.shards in
    let rows = rows_by_shard shards in
    let of : List PlacedRow → Option ℕ = ceiling (kinds_of c.args.index.now.mapping) c.args.search.now in
    let found = c.in_ok-found.found.items in
    IfOk-weaker c.all_found.result (λ all. map (λ o. Ok o) all.items ≡ found) (λ all. all.items ≡ map of rows)
    (λ all same. each-of of [] rows all.items (ap length same ∙ (c.in_ok-found.ensures.number ∙ sym (as-many shards)))
    (λ i d below. subst (λ results. IfOk (slice_index_or results i d) (λ o. o ≡ of (slice_index_or rows i []))) (sym same) (c.in_ok-found.ensures.each i d (subst (λ n. i < n) (as-many shards) below))))
    c.all_found.ensures
