-- Fields of dates (Elasticsearch Reference 8, 'Date histogram aggregation').
use Rattle.std.specs.Prelude.{ℕ, false, IsTrue, slice_get}
use Rattle.std.specs.Option.{option_map_or}
use Rattle.agg_model.specs.FieldKinds.{is_date_kind}
use Rattle.agg_model.specs.declared.aggregation.Kind.{Kind}
use Rattle.agg_model.specs.Options.{Options, options_of}
use Rattle.shard_columns.specs.Columns.{Columns}

-- the field is one of dates in the shard's mapping
abbrev pub HoldsDates : Columns → ℕ → Type 0
HoldsDates shard field = IsTrue (option_map_or is_date_kind (slice_get shard.kinds field) false)

-- the aggregation is a histogram over such a field
abbrev pub IsOverDates : Columns → Kind → Type 0
IsOverDates shard k = elim (options_of k) [
  | Options.Terms t ↦ ⊥
  | Options.Histogram h ↦ HoldsDates shard h.field
  | Options.Filters names filters other ↦ ⊥
  | Options.Filter query ↦ ⊥
  | Options.Missing field ↦ ⊥
  | Options.Global ↦ ⊥
  | Options.Nested context ↦ ⊥
  | Options.ReverseNested context ↦ ⊥
  | Options.Composite sources size after ↦ ⊥
  | Options.Metric m ↦ ⊥
]
