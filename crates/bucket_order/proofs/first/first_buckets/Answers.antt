use Rattle.std.proofs.Common.{sym, ◌∙◌, ap, subst, length, take}
use Rattle.std.specs.Prelude.{drop}
use Rattle.agg_evaluation.specs.Orders.{bucket_cmp}
use Rattle.bucket_order.specs.Kinds.{child_kinds}
use Rattle.bucket_order.specs.Ordered.{AreOrdered}
use Rattle.list_laws.proofs.StableSort.{ascends_sorted, below}
use Rattle.list_laws.specs.Sorting.{insert_sorted, sorted}
use Rattle.bucket_order.proofs.Firsts.{ascends-take, last-taken, take-insert}
use Rattle.bucket_order.proofs.TotalLaws.{bucket_cmp_total}
use Rattle.bucket_order.proofs.first.first_buckets.Goals as goal

pub put-requires-clause-ordered : goal.put-requires-clause-ordered
put-requires-clause-ordered c =
    let kinds = child_kinds c.args.children.now in
    let cmp = bucket_cmp kinds c.args.orders.now in
    let total = bucket_cmp_total kinds c.args.orders.now in
    let done = drop (length c.loop-bucket.left.items) c.args.buckets.items in
    subst (AreOrdered c.args.children.now c.args.orders.now) (sym c.loop-bucket.invariant.kept) (ascends-take (below cmp total) c.args.count (sorted cmp done) (ascends_sorted cmp total done))

pub loop-bucket-preserved : goal.loop-bucket-preserved
loop-bucket-preserved c =
    let cmp = bucket_cmp (child_kinds c.args.children.now) c.args.orders.now in
    let count = c.args.count in
    let bucket = c.in-Some.bucket in
    let old = c.loop-bucket.left.items in
    let done = drop (length old) c.args.buckets.items in
    let taken = last-taken c.args.buckets.items old c.pop.new.self.items bucket c.loop-bucket.invariant.left c.in-Some.ensures.items in
    (record {
      kept = c.in_ok-put.ensures ∙ ap (λ ks. take count (insert_sorted cmp bucket ks)) c.loop-bucket.invariant.kept ∙ take-insert cmp count bucket (sorted cmp done) ∙ ap (λ bs. take count (sorted cmp bs)) (sym taken.0);
      left = taken.1;
    })
