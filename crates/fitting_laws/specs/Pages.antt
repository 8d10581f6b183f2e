-- A key behind which a search can be asked for its next page.
use Rattle.std.specs.Prelude.{Bool, true, length}
use Rattle.std.specs.List.{list_all}
use Rattle.agg_model.specs.declared.aggregation.Agg.{out-Agg}
use Rattle.agg_model.specs.declared.aggregation.Kind.{Kind}
use Rattle.agg_evaluation.specs.Profile.{Form, profile}
use Rattle.agg_model.specs.declared.aggregation.Search.{Search}
use Rattle.agg_model.specs.declared.key.Key.{Key}
use Rattle.agg_evaluation.specs.CompositeKeys.{is_composite_of}

-- a composite's key has a part for each source
abbrev pub takes : Key → Kind → Bool
takes key k = elim (profile k).form [
  | Form.terms t ↦ true
  | Form.histogram h ↦ true
  | Form.pages sources size after ↦ is_composite_of (length sources) key
  | Form.fixed ks ↦ true
  | Form.number o ↦ true
]

abbrev pub search_takes : Key → Search → Bool
search_takes key s = list_all (λ a. takes key (out-Agg a).kind) s.aggs
