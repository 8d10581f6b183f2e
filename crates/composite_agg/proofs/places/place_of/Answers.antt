use Rattle.std.proofs.Common.{rules, arith}
use Rattle.std.specs.Ordering.{is_lt}
use Rattle.std.proofs.lemmas.List.Sorted.{IsPartitionPoint-from_clause}
use Rattle.list_laws.proofs.Booleans.{true_is}
use Rattle.composite_agg.specs.InOrder.{page_cmp}
use Rattle.composite_agg.proofs.InOrder.{parted}
use Rattle.composite_agg.proofs.PlaceOrder.{front_all, back_all}
use Rattle.composite_agg.proofs.places.place_of.Goals as goal

pub returns : goal.returns
returns g c =
    let p = (λ (x : g.row.T.Denot). is_lt (page_cmp c.args.sources.now (g.T.HasKey.key_of x) (g.K.Sought.sought c.args.key.now))) in
    let xs = c.args.items.now in
    let point = IsPartitionPoint-from_clause p xs _ c.partition_point.ensures.partitioned (parted g.T.HasKey.key_of c.args.sources.now (g.K.Sought.sought c.args.key.now) xs c.requires) (λ a r f k. search rules) in
    record {
      within = c.partition_point.ensures.bound;
      before = true_is _ (front_all p xs c.partition_point.result c.partition_point.ensures.bound (λ k d below. point.0 k d (omega arith) below));
      behind = back_all p xs c.partition_point.result (λ k d le below. point.1 k d le below);
    }
