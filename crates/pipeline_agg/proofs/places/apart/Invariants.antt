use Rattle.std.proofs.Common.{◌≡◌, ◌++◌, map}
use Rattle.std.specs.List.{enumerate_from}
use Rattle.std.specs.Vec.Iter.{into_iter_items}
use Rattle.pipeline_agg.specs.Told.{bucket_notes}
use Rattle.pipeline_agg.proofs.places.apart.Given as goal

-- those that were taken apart, and those that are left
abbrev pub invariant-loop-place : goal.invariant-loop-place
invariant-loop-place l = record {
  buckets : l.buckets ++ map (λ b. b.bucket) (into_iter_items l.place-iterator.iter) ≡ map (λ b. b.bucket) l.fn.remarked.items;
  notes : l.notes ++ bucket_notes (enumerate_from l.place-iterator.count (into_iter_items l.place-iterator.iter)) ≡ bucket_notes (enumerate_from 0 l.fn.remarked.items);
}
