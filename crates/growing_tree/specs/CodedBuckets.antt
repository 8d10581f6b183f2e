-- A bucket with the code that stands for its key (Elasticsearch Reference 8, 'Bucket aggregations').
use Rattle.std.specs.declared.cmp.Ordering.{Ordering}
use Rattle.std.specs.Ordering.{int_cmp}
use Rattle.std.specs.Prelude.{if◌then◌else◌}
use Rattle.agg_model.specs.declared.aggregation.Kind.{Kind}
use Rattle.agg_model.specs.declared.key.Key.TheVariants as key
use Rattle.agg_model.specs.declared.partial.Bucket.{Bucket}
use Rattle.agg_evaluation.specs.Shard.{is_terms}
use Rattle.growing_tree.specs.Trees.{bucket_at}
use Rattle.growing_tree.specs.declared.coded.Coded.{Coded}

-- the bucket, whose code stands for itself
abbrev pub coded_bucket : Coded → Bucket
coded_bucket c = bucket_at (key.Whole c.code) c.bucket

-- the order of the codes
abbrev pub by_code : Coded → Coded → Ordering
by_code a b = int_cmp a.code b.code

abbrev pub from_last : Coded → Coded → Ordering
from_last a b = by_code b a

-- the order in which a kind's buckets are made: terms from the last code on
abbrev pub code_order : Kind → Coded → Coded → Ordering
code_order k = if is_terms k then from_last else by_code
