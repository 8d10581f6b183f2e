-- Which wholes can be finished: those of shard answers to the search, in whose terms no number leaves its type ('Terms
-- aggregation', sum of other document counts and errors of counts; 'Histogram', 'Date histogram' and 'Composite aggregation', keys).
use Rattle.std.specs.Prelude.{ℤ, pos, ◌+◌, ◌^◌, ◌-ℤ◌, Bool, true, false, ◌&&◌, nat_lt, nat_le, int_le, int_lt, List, map, length, sum_by}
use Rattle.std.specs.List.{list_all}
use Rattle.std.specs.Ordering.{int_eq}
use Rattle.date_spec.specs.declared.range.TheConstants.{GREATEST_INSTANT, LEAST_INSTANT}
use Rattle.agg_model.specs.declared.key.Key.{Key}
use Rattle.agg_model.specs.declared.key.Key.TheVariants.{Null, Whole, Flag, Word, Fixed, Many'}
use Rattle.agg_model.specs.declared.partial.Bucket.{Bucket}
use Rattle.agg_model.specs.declared.partial.Node.{Node, out-Node}
use Rattle.agg_model.specs.declared.partial.Partial.{Partial}
use Rattle.agg_model.specs.declared.aggregation.Bounds.{Bounds}
use Rattle.agg_model.specs.declared.aggregation.Spacing.{Spacing}
use Rattle.agg_model.specs.declared.aggregation.Spacing.TheVariants.{Numbers, Dates}
use Rattle.agg_model.specs.declared.aggregation.Kind.{Kind}
use Rattle.agg_evaluation.specs.Profile.{Form, profile}
use Rattle.agg_model.specs.declared.aggregation.Agg.{Agg}
use Rattle.agg_model.specs.declared.aggregation.Search.{Search}
use Rattle.agg_evaluation.specs.Folds.{fold_agg}
use Rattle.agg_evaluation.specs.Spacings.{interval_start}
use Rattle.agg_evaluation.specs.Keys.{is_between}
use Rattle.agg_evaluation.specs.Orders.{bucket_key, bucket_count}
use Rattle.agg_evaluation.specs.Shard.{fixed_keys}
use Rattle.agg_evaluation.specs.Trees.{is_tree_at, pass_each}
use Rattle.agg_evaluation.specs.CompositeKeys.{is_composite_of}
use Rattle.agg_evaluation.specs.Whole.{Parts, parts, shape_of}

-- all counts together are one, an error is a signed number, and no term was covered by more than all the shards' errors
abbrev pub terms_fit : Parts → Bool
terms_fit p = nat_lt (p.cut + sum_by bucket_count p.buckets) (2 ^ 64) && (nat_lt p.error (2 ^ 63) && list_all (λ b. nat_le b.covered p.error) p.buckets)

-- whether the key can be that of a number of 64 bits, where the interval has 64 bits too; or of an instant in the range of dates
abbrev pub is_near : Spacing → ℤ → Bool
is_near (Numbers interval offset) key = int_le (pos 0 -ℤ pos (2 ^ 65)) key && int_lt key (pos (2 ^ 63))
is_near (Dates period zone) key = int_le (interval_start (Dates period zone) LEAST_INSTANT) key && int_le key GREATEST_INSTANT

-- a key as a histogram has it: the start of an interval, within `hard_bounds`
abbrev pub is_histogram_key : Spacing → Bounds → Key → Bool
is_histogram_key spacing hard Null = false
is_histogram_key spacing hard (Whole key) = int_eq (interval_start spacing key) key && (is_near spacing key && is_between hard (Whole key))
is_histogram_key spacing hard (Flag b) = false
is_histogram_key spacing hard (Word w) = false
is_histogram_key spacing hard (Fixed n) = false
is_histogram_key spacing hard (Many' n parts) = false

abbrev pub has_histogram_keys : Kind → List Bucket → Bool
has_histogram_keys k bs = elim (profile k).form [
  | Form.terms t ↦ true
  | Form.histogram h ↦ list_all (λ b. is_histogram_key h.spacing h.hard (bucket_key b)) bs
  | Form.pages sources size after ↦ true
  | Form.fixed ks ↦ true
  | Form.number o ↦ true
]

abbrev pub fits_at : Kind → Parts → Bool
fits_at k p = elim (profile k).form [
  | Form.terms t ↦ terms_fit p
  | Form.histogram h ↦ has_histogram_keys k p.buckets
  | Form.pages sources size after ↦ list_all (λ b. is_composite_of (length sources) (bucket_key b)) p.buckets
  | Form.fixed ks ↦ true
  | Form.number o ↦ true
]

-- the tests are those of the children
abbrev pub is_finishable_at : List (Node → Bool) → Kind → Node → Bool
is_finishable_at tests k n = is_tree_at tests (fixed_keys k) (shape_of k) (out-Node n) && fits_at k (parts n)

-- whether a node is a tree of the aggregation, and its numbers and keys are as those of shard answers
abbrev pub is_finishable : Agg → Node → Bool
is_finishable = fold_agg (λ a n. is_finishable_at a.children a.kind n)

-- whether all nodes of a partial result can be finished, where the search is made for a mapping
abbrev pub can_finish : Search → Partial → Bool
can_finish search p = pass_each (map is_finishable search.aggs) p.nodes
