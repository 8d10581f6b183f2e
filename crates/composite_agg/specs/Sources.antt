-- The sources of a composite (Elasticsearch Reference 8, 'Composite aggregation', terms and histogram sources).
use Rattle.std.specs.Prelude.{◌<◌, List, [], ◌∷◌, IfSome}
use Rattle.std.specs.List.{AllByRecursion}
use Rattle.std.specs.Option.{option_map_or}
use Rattle.agg_model.specs.declared.aggregation.Spacing.TheVariants.{Numbers}
use Rattle.agg_model.specs.declared.key.Key.{Key}
use Rattle.agg_model.specs.declared.row.Scalar.{Scalar}
use Rattle.agg_model.specs.declared.aggregation.Kind.{Kind}
use Rattle.agg_model.specs.declared.aggregation.CompositeSource.{CompositeSource}
use Rattle.agg_model.specs.Options.{Options, options_of}
use Rattle.agg_model.specs.ValueKeys.{scalar_key}
use Rattle.agg_evaluation.specs.Keys.{interval_key}

-- the interval, where there is one, is above 0
abbrev pub IsPositive : CompositeSource → Type 0
IsPositive s = IfSome s.interval (λ interval. 0 < interval)

abbrev pub ArePositive : List CompositeSource → Type 0
ArePositive = AllByRecursion IsPositive

-- the aggregation is a composite whose intervals are above 0
abbrev pub IsComposite : Kind → Type 0
IsComposite k = elim (options_of k) [
  | Options.Terms t ↦ ⊥
  | Options.Histogram h ↦ ⊥
  | Options.Filters names filters other ↦ ⊥
  | Options.Filter query ↦ ⊥
  | Options.Missing field ↦ ⊥
  | Options.Global ↦ ⊥
  | Options.Nested context ↦ ⊥
  | Options.ReverseNested context ↦ ⊥
  | Options.Composite sources size after ↦ ArePositive sources
  | Options.Metric m ↦ ⊥
]

-- the part that a value gives: the value itself, or the start of its interval
abbrev pub part_keys : CompositeSource → Scalar → List Key
part_keys s v = option_map_or (λ interval. interval_key (Numbers interval 0) v) s.interval (scalar_key v ∷ [])
