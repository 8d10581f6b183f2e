use Rattle.std.proofs.Common.{◌≡◌, ◌∙◌, sym}
use Rattle.partial_result.proofs.MergeLevels.{merged_bucket_level, merged-Fixed, merged-Keyed, merged-Keyed-Fixed, merged-Keyed-Number, merged-Fixed-Keyed, merged-Fixed-Number, merged-Number, merged-Number-Keyed, merged-Number-Fixed}
use Rattle.partial_result.proofs.merging.+merge.Goals as goal

pub merge_bucket-returns : goal.merge_bucket-returns
merge_bucket-returns t c = rw (c.in_ok-merge_children.ensures, c.saturating_add.ensures, c.saturating_add-2.ensures) (sym (merged_bucket_level c.args.other c.args.into))

pub merge_node-returns-in_ok-merge_buckets-in-Keyed-into : goal.merge_node-returns-in_ok-merge_buckets-in-Keyed-into
merge_node-returns-in_ok-merge_buckets-in-Keyed-into t c =
    rw (c.in-Keyed.is, c.in-Keyed-into.is, c.in_ok-merge_buckets-in-Keyed-into.ensures, c.saturating_add.ensures, c.saturating_add-in-Keyed-into.ensures, c.saturating_add-in-Keyed-into-2.ensures) (sym (merged-Keyed _ _ _ _ _ _ _ _))

pub merge_node-returns-in-Fixed-into : goal.merge_node-returns-in-Fixed-into
merge_node-returns-in-Fixed-into t c = rw (c.in-Keyed.is, c.in-Fixed-into.is) (sym (merged-Keyed-Fixed _ _ _ _ _))

pub merge_node-returns-in-Number-into : goal.merge_node-returns-in-Number-into
merge_node-returns-in-Number-into t c = rw (c.in-Keyed.is, c.in-Number-into.is) (sym (merged-Keyed-Number _ _ _ _ _))

pub merge_node-returns-in_ok-merge_buckets-in-Fixed-into-2 : goal.merge_node-returns-in_ok-merge_buckets-in-Fixed-into-2
merge_node-returns-in_ok-merge_buckets-in-Fixed-into-2 t c =
    rw (c.in-Fixed.is, c.in-Fixed-into-2.is, c.in_ok-merge_buckets-in-Fixed-into-2.ensures) (sym (merged-Fixed _ _))

pub merge_node-returns-in-Keyed-into-2 : goal.merge_node-returns-in-Keyed-into-2
merge_node-returns-in-Keyed-into-2 t c = rw (c.in-Fixed.is, c.in-Keyed-into-2.is) (sym (merged-Fixed-Keyed _ _ _ _ _))

pub merge_node-returns-in-Number-into-2 : goal.merge_node-returns-in-Number-into-2
merge_node-returns-in-Number-into-2 t c = rw (c.in-Fixed.is, c.in-Number-into-2.is) (sym (merged-Fixed-Number _ _))

pub merge_node-returns-in-Number-into-3 : goal.merge_node-returns-in-Number-into-3
merge_node-returns-in-Number-into-3 t c = rw (c.in-Number.is, c.in-Number-into-3.is, c.merge_metric.ensures) (sym (merged-Number _ _))

pub merge_node-returns-in-Keyed-into-3 : goal.merge_node-returns-in-Keyed-into-3
merge_node-returns-in-Keyed-into-3 t c = rw (c.in-Number.is, c.in-Keyed-into-3.is) (sym (merged-Number-Keyed _ _ _ _ _))

pub merge_node-returns-in-Fixed-into-3 : goal.merge_node-returns-in-Fixed-into-3
merge_node-returns-in-Fixed-into-3 t c = rw (c.in-Number.is, c.in-Fixed-into-3.is) (sym (merged-Number-Fixed _ _))
