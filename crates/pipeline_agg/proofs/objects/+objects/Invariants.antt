use Rattle.std.proofs.Common.{◌≡◌, [], ◌++◌, map}
use Rattle.std.specs.Prelude.{flat_map}
use Rattle.std.specs.Vec.Iter.{into_iter_items}
use Rattle.agg_spec.specs.RangeCheck.{check_bucket, check_each, checker}
use Rattle.pipeline_agg.specs.Entries.{AreFit, all_small, view_of}
use Rattle.pipeline_agg.specs.Objects.{node_entries}
use Rattle.pipeline_agg.specs.Placed.{pipes_of}
use Rattle.pipeline_agg.proofs.BucketLaws.{Stands}
use Rattle.pipeline_agg.proofs.NodesLaws.{Listed}
use Rattle.pipeline_agg.proofs.objects.+objects.Given as goal

-- what was told of the buckets so far
abbrev pub invariant-piped_buckets-loop-bucket : goal.invariant-piped_buckets-loop-bucket
invariant-piped_buckets-loop-bucket l = record {
  next : (goal.iterator-piped_buckets-loop-bucket).can_next l.bucket-iterator;
  finite : (goal.iterator-piped_buckets-loop-bucket).is_finite l.bucket-iterator;
  small : all_small l.tellers.items;
  in_range : flat_map (check_bucket (map checker l.children)) (into_iter_items l.bucket-iterator) ≡ [];
  stands : Stands l.children (pipes_of l.level.pipes.now) l.fn.buckets l.tellers.items (into_iter_items l.bucket-iterator) l.remarked.items;
}

-- what was told of the answers so far
abbrev pub invariant-piped_nodes-loop-place : goal.invariant-piped_nodes-loop-place
invariant-piped_nodes-loop-place l = record {
  next : (goal.iterator-piped_nodes-loop-place).can_next l.place-iterator;
  finite : (goal.iterator-piped_nodes-loop-place).is_finite l.place-iterator;
  listed : Listed l.aggs (pipes_of l.level.pipes.now) l.fn.nodes l.place-iterator.count (into_iter_items l.place-iterator.iter) l.told;
}
