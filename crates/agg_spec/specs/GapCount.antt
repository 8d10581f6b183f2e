-- The number of buckets that an answer will have, counted on the whole: gaps of a histogram by the numbers of its intervals, so
-- that nothing is built for an answer that has too many ('Search settings', `search.max_buckets`).
use Rattle.std.specs.Prelude.{ℕ, ℤ, ◌-ℤ◌, ◌+◌, ◌-◌, ◌*◌, ◌==◌, int_le, min, if◌then◌else◌, List, [], ◌∷◌, map, filter_map, length, sum, take, Option, Some, unsigned_abs}
use Rattle.std.specs.Option.{option_map_or}
use Rattle.std.specs.Int.{int_min, int_max}
use Rattle.agg_model.specs.declared.partial.Bucket.{Bucket}
use Rattle.agg_model.specs.declared.partial.Node.{Node}
use Rattle.agg_model.specs.declared.partial.Partial.{Partial}
use Rattle.agg_model.specs.declared.aggregation.Bounds.{Bounds}
use Rattle.agg_model.specs.declared.aggregation.Spacing.{Spacing}
use Rattle.agg_model.specs.declared.aggregation.Kind.{Kind}
use Rattle.agg_evaluation.specs.Profile.{Form, profile}
use Rattle.agg_model.specs.declared.aggregation.Agg.{Agg}
use Rattle.agg_model.specs.declared.aggregation.Agg.TheOpen.{Agg-F}
use Rattle.agg_model.specs.declared.aggregation.Search.{Search}
use Rattle.agg_evaluation.specs.Folds.{fold_agg}
use Rattle.list_laws.specs.Sorting.{sorted}
use Rattle.agg_evaluation.specs.Spacings.{number_at, number_from}
use Rattle.agg_evaluation.specs.Orders.{bucket_cmp, bucket_key, composite_cmp}
use Rattle.agg_evaluation.specs.Whole.{Parts, parts, whole_by, shape_of}
use Rattle.agg_spec.specs.BucketCount.{member_count, greatest_count}
use Rattle.agg_spec.specs.Filling.{number_of_key, least_key, greatest_key, has_buckets, frequent}

-- how many intervals have a number from the first to the last
abbrev pub interval_count : ℤ → ℤ → ℕ
interval_count first last = if int_le first last then unsigned_abs (last -ℤ first) + 1 else 0

-- the number of the first interval, from that of the least key on, that begins within `hard_bounds`
abbrev pub first_within : Spacing → Bounds → ℤ → ℤ
first_within spacing hard least =
    option_map_or (λ bound. int_max (number_at spacing least) (number_from spacing bound)) hard.min (number_at spacing least)

-- the number of the last one, up to that of the greatest key
abbrev pub last_within : Spacing → Bounds → ℤ → ℤ
last_within spacing hard greatest =
    option_map_or (λ bound. int_min (number_at spacing greatest) (number_at spacing bound)) hard.max (number_at spacing greatest)

-- how many keys from the least to the greatest lie within `hard_bounds`
abbrev pub keys_between : Spacing → Bounds → Option ℤ → Option ℤ → ℕ
keys_between spacing hard (Some least) (Some greatest) = interval_count (first_within spacing hard least) (last_within spacing hard greatest)
keys_between spacing hard _ _ = 0

abbrev pub filled_count : Spacing → Bounds → Bounds → List ℤ → ℕ
filled_count spacing extended hard ns =
    if has_buckets extended ns then keys_between spacing hard (least_key spacing extended ns) (greatest_key spacing extended ns) else 0

-- an aggregation's kind, its whole over shard answers, and the number of buckets of its answer
pub record Plan : Type 0 where
  pub kind : Kind
  pub whole : List Node → Node
  pub count : Node → ℕ

abbrev pub plan_each : List Plan → List Node → ℕ
plan_each [] nodes = 0
plan_each (p ∷ ps) [] = 0
plan_each (p ∷ ps) (n ∷ ns) = p.count n + plan_each ps ns

-- the buckets, and those below them
abbrev pub with_children : List Plan → List Bucket → ℕ
with_children children buckets = length buckets + sum (map (λ b. plan_each children b.children) buckets)

-- what an empty bucket has below it
abbrev pub below_empty : List Plan → ℕ
below_empty children = plan_each children (map (λ c. c.whole []) children)

abbrev pub plan_at : List Plan → Kind → Parts → ℕ
plan_at children k p = elim (profile k).form [
  | Form.terms t ↦ with_children children (take t.size (sorted (bucket_cmp (map (λ c. c.kind) children) t.order) (frequent t.min_doc_count p.buckets)))
  | Form.histogram h ↦
      if h.min_doc_count == 0 then
      (let filled = filled_count h.spacing h.extended h.hard (filter_map (λ b. number_of_key (bucket_key b)) p.buckets) in
      with_children children p.buckets + (filled - length p.buckets) * (1 + below_empty children))
      else with_children children (frequent h.min_doc_count p.buckets)
  | Form.pages sources size after ↦ with_children children (take size (sorted (λ a b. composite_cmp sources (bucket_key a) (bucket_key b)) p.buckets))
  | Form.fixed ks ↦ member_count k p.buckets + sum (map (λ b. plan_each children b.children) p.buckets)
  | Form.number o ↦ member_count k p.buckets + sum (map (λ b. plan_each children b.children) p.buckets)
]

abbrev pub plan_of : Agg-F Plan → Plan
plan_of a = record {
  kind = a.kind;
  whole = whole_by (map (λ c. c.whole) a.children) a.kind (shape_of a.kind);
  count = λ n. plan_at a.children a.kind (parts n);
}

abbrev pub plan : Agg → Plan
plan = fold_agg plan_of

-- the number of buckets that the answer will have, or the greatest count where there will be more
abbrev pub planned_buckets : Search → Partial → ℕ
planned_buckets search p = min (plan_each (map plan search.aggs) p.nodes) greatest_count
