use Rattle.std.proofs.Common.{◌≡◌, ◌+◌, length, sum_by}
use Rattle.std.specs.Prelude.{T}
use Rattle.std.specs.List.{list_all}
use Rattle.agg_model.specs.declared.aggregation.Agg.{out-Agg}
use Rattle.agg_evaluation.specs.CompositeKeys.{is_composite_of}
use Rattle.agg_evaluation.specs.Shard.{sorted_by_key}
use Rattle.composite_agg.specs.Odometer.{keys_left, keys_to_come}
use Rattle.growth_laws.specs.BucketBytes.{bucket_bytes}
use Rattle.growth_laws.specs.Gathering.{put_groups}
use Rattle.growing_tree.specs.Gathered.{decoders, gatherers, rows_at}
use Rattle.growing_page.specs.GrowingPages.{IsPageOf, buckets_of, shown_all, sources_of}
use Rattle.growing_page.proofs.gathering.put_combinations.Given as goal

-- what the keys to come make of the page is what all make of the page that was given
abbrev pub invariant-behind : goal.invariant-behind
invariant-behind l = record {
  buckets : put_groups (λ q. rows_at l.shard l.rows) (gatherers l.shard (out-Agg l.agg).children) (out-Agg l.agg).kind (keys_to_come l.combinations) (sorted_by_key (shown_all (decoders l.shard l.ready) (buckets_of l.page)))
      ≡ put_groups (λ q. rows_at l.shard l.rows) (gatherers l.shard (out-Agg l.agg).children) (out-Agg l.agg).kind (keys_left l.fn.combinations) (sorted_by_key (shown_all (decoders l.shard l.ready) (buckets_of l.fn.page)));
  parts : T (list_all (is_composite_of (length (sources_of (out-Agg l.agg).kind))) (keys_to_come l.combinations));
  page : IsPageOf (out-Agg l.agg).kind (decoders l.shard l.ready) l.page;
  cost : sum_by bucket_bytes (shown_all (decoders l.shard l.ready) (buckets_of l.page)) + l.change.removed
      ≡ sum_by bucket_bytes (shown_all (decoders l.shard l.ready) (buckets_of l.fn.page)) + l.change.added;
}

abbrev pub decreases-behind : goal.decreases-behind
decreases-behind l = length (keys_to_come l.combinations)
