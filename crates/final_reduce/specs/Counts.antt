-- The number of buckets of the answer that is made of what stands ('Search settings', `search.max_buckets`): bucket after bucket,
-- and gaps by the numbers of intervals.
use Rattle.std.specs.Prelude.{ℕ, ◌+◌, ◌-◌, ◌==◌, if◌then◌else◌, min, List, [], ◌∷◌, length, sum_by}
use Rattle.std.specs.Option.{option_map_or}
use Rattle.agg_model.specs.declared.aggregation.Bounds.{Bounds}
use Rattle.agg_model.specs.declared.aggregation.Spacing.{Spacing}
use Rattle.agg_model.specs.declared.aggregation.Agg.{Agg}
use Rattle.agg_model.specs.declared.aggregation.Kind.{Kind}
use Rattle.agg_model.specs.Options.{Options, options_of}
use Rattle.agg_model.specs.declared.partial.Bucket.{Bucket}
use Rattle.agg_model.specs.declared.partial.Node.{Node}
use Rattle.agg_spec.specs.BucketCount.{counter, greatest_count}
use Rattle.agg_spec.specs.GapCount.{Plan, plan_each, filled_count}
use Rattle.bucket_order.specs.Kinds.{kind_of}
use Rattle.final_reduce.specs.Standing.{Form, ranked, spaced, paged, as_it_is, metric_alone, builder}
use Rattle.final_reduce.specs.Steps.{key_numbers}

-- the number of buckets of the answer that is made of a node
abbrev pub tally : Agg → Plan
tally a = record { kind = kind_of a; whole = (builder a).whole; count = λ n. counter a ((builder a).finish n) }

-- the same over no rows
abbrev pub tally_of_nothing : Agg → ℕ
tally_of_nothing a = (tally a).count ((tally a).whole [])

-- the buckets below some buckets
abbrev pub tally_below : List Plan → List Bucket → ℕ
tally_below children bs = sum_by (λ b. plan_each children b.children) bs

-- how many keys of a histogram have no bucket of their own
abbrev pub gaps_of : Spacing → ℕ → Bounds → Bounds → List Bucket → ℕ
gaps_of spacing min_doc_count extended hard bs = if min_doc_count == 0 then filled_count spacing extended hard (key_numbers bs) - length bs else 0

-- how many buckets fill gaps
abbrev pub gap_count : Form → List Bucket → ℕ
gap_count (ranked t) bs = 0
gap_count (spaced h) bs = gaps_of h.spacing h.min_doc_count h.extended h.hard bs
gap_count (paged sources size) bs = 0
gap_count as_it_is bs = 0
gap_count metric_alone bs = 0

-- how many buckets exist from the start
abbrev pub fixed_count : Kind → ℕ
fixed_count k = elim (options_of k) [
  | Options.Terms t ↦ 0
  | Options.Histogram h ↦ 0
  | Options.Composite sources size after ↦ 0
  | Options.Filters names filters other ↦ option_map_or (λ name. length filters + 1) other (length filters)
  | Options.Filter query ↦ 1
  | Options.Missing field ↦ 1
  | Options.Global ↦ 1
  | Options.Nested context ↦ 1
  | Options.ReverseNested context ↦ 1
  | Options.Metric m ↦ 0
]

-- how many of so many buckets are members of a `buckets`
abbrev pub member_number : Kind → ℕ → ℕ
member_number k n = elim (options_of k) [
  | Options.Terms t ↦ n
  | Options.Histogram h ↦ n
  | Options.Composite sources size after ↦ n
  | Options.Filters names filters other ↦ n
  | Options.Filter query ↦ 0
  | Options.Missing field ↦ 0
  | Options.Global ↦ 0
  | Options.Nested context ↦ 0
  | Options.ReverseNested context ↦ 0
  | Options.Metric m ↦ n
]

-- a sum that stops at the greatest count
abbrev pub capped_sum : ℕ → ℕ → ℕ
capped_sum m n = min (m + min n greatest_count) greatest_count

abbrev pub tally_from : ℕ → List Plan → List Node → ℕ
tally_from count [] nodes = count
tally_from count (p ∷ ps) [] = count
tally_from count (p ∷ ps) (n ∷ ns) = tally_from (capped_sum count (p.count n)) ps ns

abbrev pub below_from : List Plan → ℕ → List Bucket → ℕ
below_from children count [] = count
below_from children count (b ∷ bs) = below_from children (capped_sum count (plan_each children b.children)) bs

abbrev pub nothing_from : ℕ → List Plan → ℕ
nothing_from count [] = count
nothing_from count (p ∷ ps) = nothing_from (capped_sum count (p.count (p.whole []))) ps
