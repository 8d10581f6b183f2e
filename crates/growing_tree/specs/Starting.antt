-- Buckets that exist from the start (Elasticsearch Reference 8, 'Bucket aggregations').
use Rattle.std.specs.Prelude.{ℕ, ◌+◌, length}
use Rattle.std.specs.Option.{option_map_or}
use Rattle.agg_model.specs.declared.aggregation.Kind.{Kind}
use Rattle.agg_model.specs.Options.{Options, options_of}

-- how many there are
abbrev pub start_count : Kind → ℕ
start_count k = elim (options_of k) [
  | Options.Terms t ↦ 0
  | Options.Histogram h ↦ 0
  | Options.Filters names filters other ↦ option_map_or (λ name. length filters + 1) other (length filters)
  | Options.Filter query ↦ 1
  | Options.Missing field ↦ 1
  | Options.Global ↦ 1
  | Options.Nested context ↦ 1
  | Options.ReverseNested context ↦ 1
  | Options.Composite sources size after ↦ 0
  | Options.Metric m ↦ 0
]
