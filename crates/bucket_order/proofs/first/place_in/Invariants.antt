use Rattle.std.proofs.Common.{◌≡◌, ◌++◌, take}
use Rattle.std.specs.Prelude.{drop}
use Rattle.agg_evaluation.specs.Orders.{bucket_cmp}
use Rattle.bucket_order.specs.Kinds.{child_kinds}
use Rattle.list_laws.specs.Sorting.{insert_sorted}
use Rattle.bucket_order.proofs.first.place_in.Given as goal

-- the bucket comes behind those so far
abbrev pub invariant-loop-place : goal.invariant-loop-place
invariant-loop-place l =
    insert_sorted (bucket_cmp (child_kinds l.children) l.orders) l.bucket l.kept ≡ take l.place l.kept ++ insert_sorted (bucket_cmp (child_kinds l.children) l.orders) l.bucket (drop l.place l.kept)
