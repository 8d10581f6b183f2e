-- A prepared aggregation that stands for an aggregation on a shard (Elasticsearch Reference 8, 'Aggregations').
use Rattle.std.specs.Prelude.{◌≡◌, ℕ, Bool, true, false, List, [], ◌∷◌, length, map, sum_by, slice_get, Option, Some, option_and_then, IsTrue}
use Rattle.agg_model.specs.Options.{Options, options_of}
use Rattle.agg_model.specs.declared.aggregation.Agg.{Agg, out-Agg}
use Rattle.agg_model.specs.declared.aggregation.Kind.{Kind}
use Rattle.agg_evaluation.specs.Cost.{node_cost}
use Rattle.agg_evaluation.specs.Whole.{empty_node}
use Rattle.date_agg.specs.Codes.{IsReady as IsReadyDates}
use Rattle.date_agg.specs.Dates.{HoldsDates}
use Rattle.filters_agg.specs.PreparedFilters.{IsReady as IsReadyFilters}
use Rattle.histogram_agg.specs.Codes.{IsReady as IsReadyHistogram}
use Rattle.shard_columns.specs.Columns.{Columns}
use Rattle.terms_agg.specs.Prepared.{IsReady as IsReadyTerms}
use Rattle.growing_tree.specs.declared.ready.Ready.{Ready, out-Ready}
use Rattle.growing_tree.specs.declared.ready.ReadyKind.{ReadyKind}
use Rattle.growing_tree.specs.declared.ready.ReadyKind.TheVariants.{Single, Metric, Terms, Filters, Histogram, DateHistogram, Composite}

-- each row that the aggregation counts has its one key
abbrev pub has_single_key : Kind → Bool
has_single_key k = elim (options_of k) [
  | Options.Terms t ↦ false
  | Options.Histogram h ↦ false
  | Options.Filters names filters other ↦ false
  | Options.Filter query ↦ false
  | Options.Missing field ↦ false
  | Options.Global ↦ true
  | Options.Nested context ↦ true
  | Options.ReverseNested context ↦ true
  | Options.Composite sources size after ↦ false
  | Options.Metric m ↦ false
]

abbrev pub is_metric : Kind → Bool
is_metric k = elim (options_of k) [
  | Options.Terms t ↦ false
  | Options.Histogram h ↦ false
  | Options.Filters names filters other ↦ false
  | Options.Filter query ↦ false
  | Options.Missing field ↦ false
  | Options.Global ↦ false
  | Options.Nested context ↦ false
  | Options.ReverseNested context ↦ false
  | Options.Composite sources size after ↦ false
  | Options.Metric m ↦ true
]

abbrev pub is_composite : Kind → Bool
is_composite k = elim (options_of k) [
  | Options.Terms t ↦ false
  | Options.Histogram h ↦ false
  | Options.Filters names filters other ↦ false
  | Options.Filter query ↦ false
  | Options.Missing field ↦ false
  | Options.Global ↦ false
  | Options.Nested context ↦ false
  | Options.ReverseNested context ↦ false
  | Options.Composite sources size after ↦ true
  | Options.Metric m ↦ false
]

-- what is prepared stands for the kind
abbrev pub IsKindReady : Columns → Kind → ReadyKind → Type 0
IsKindReady shard k Single = IsTrue (has_single_key k)
IsKindReady shard k Metric = IsTrue (is_metric k)
IsKindReady shard k (Terms p) = IsReadyTerms shard k p
IsKindReady shard k (Filters p) = IsReadyFilters shard k p
IsKindReady shard k (Histogram p) = IsReadyHistogram k p
IsKindReady shard k (DateHistogram p) = IsReadyDates k p × HoldsDates shard p.field
IsKindReady shard k Composite = IsTrue (is_composite k)

-- rows have their own keys
abbrev pub is_keyed : ReadyKind → Bool
is_keyed Single = false
is_keyed Metric = false
is_keyed (Terms p) = true
is_keyed (Filters p) = true
is_keyed (Histogram p) = true
is_keyed (DateHistogram p) = true
is_keyed Composite = false

-- what the children of a bucket cost before its first row
abbrev pub HasChildBytes : Agg → Ready → Type 0
HasChildBytes a r = (out-Ready r).child_bytes ≡ sum_by node_cost (map empty_node (out-Agg a).children)

-- the same for one aggregation, without those below it
pub record IsLevelReady (shard : Columns) (a : Agg) (r : Ready) : Type 0 where
  pub kind : IsKindReady shard (out-Agg a).kind (out-Ready r).kind
  pub child_bytes : HasChildBytes a r
  pub many : length (out-Ready r).children ≡ length (out-Agg a).children

-- the aggregation at the end of a way down, by places among siblings
abbrev pub agg_at : List ℕ → Agg → Option Agg
agg_at [] a = Some a
agg_at (n ∷ way) a = option_and_then (agg_at way) (slice_get (out-Agg a).children n)

abbrev pub ready_at : List ℕ → Ready → Option Ready
ready_at [] r = Some r
ready_at (n ∷ way) r = option_and_then (ready_at way) (slice_get (out-Ready r).children n)

-- each prepared aggregation stands for the one at its place
abbrev pub IsReadyFor : Columns → Agg → Ready → Type 0
IsReadyFor shard a r = (way : List ℕ) (b : Agg) (s : Ready) → agg_at way a ≡ Some b → ready_at way r ≡ Some s → IsLevelReady shard b s

abbrev pub AreReadyFor : Columns → List Agg → List Ready → Type 0
AreReadyFor shard aggs rs = (n : ℕ) (a : Agg) (r : Ready) → slice_get aggs n ≡ Some a → slice_get rs n ≡ Some r → IsReadyFor shard a r
