-- What follows for a query and an aggregation that are made for a mapping: fields that the mapping has ('Query DSL'), and
-- intervals that have a length ('Histogram aggregation', 'Date histogram aggregation').
use Rattle.std.specs.Prelude.{ℕ, Bool, true, ◌&&◌, nat_lt}
use Rattle.std.specs.List.{list_all}
use Rattle.agg_model.specs.declared.query.Query.{Query}
use Rattle.agg_model.specs.declared.query.Query.TheOpen.{Query-F}
use Rattle.agg_model.specs.declared.aggregation.Agg.{Agg}
use Rattle.agg_model.specs.declared.aggregation.Bounds.{Bounds}
use Rattle.agg_model.specs.declared.aggregation.Spacing.{Spacing}
use Rattle.agg_model.specs.declared.aggregation.Spacing.TheVariants.{Numbers, Dates}
use Rattle.agg_model.specs.declared.aggregation.Kind.{Kind}
use Rattle.agg_evaluation.specs.Profile.{Form, profile}
use Rattle.agg_evaluation.specs.Folds.{fold_query, fold_agg}
use Rattle.agg_evaluation.specs.Spacings.{is_period, is_zone, are_instants}

-- whether the fields whose values a query looks at are among the first n
abbrev pub looks_below_at : ℕ → Query-F Bool → Bool
looks_below_at n Query-F.All = true
looks_below_at n (Query-F.Term field value) = nat_lt field n
looks_below_at n (Query-F.Terms field values) = nat_lt field n
looks_below_at n (Query-F.Range field tests) = nat_lt field n
looks_below_at n (Query-F.Exists field) = true
looks_below_at n (Query-F.Ids values) = true
looks_below_at n (Query-F.Bool must must_not should minimum) = list_all (λ b. b) must && list_all (λ b. b) must_not && list_all (λ b. b) should
looks_below_at n (Query-F.Nested path query) = query

abbrev pub looks_below : ℕ → Query → Bool
looks_below n = fold_query (looks_below_at n)

-- an interval above 0; or a period and a zone that there are, with bounds in the range of dates
abbrev pub is_spaced : Spacing → Bounds → Bounds → Bool
is_spaced (Numbers interval offset) extended hard = nat_lt 0 interval
is_spaced (Dates period zone) extended hard = is_period period && (is_zone zone && (are_instants extended && are_instants hard))

abbrev pub has_interval : Kind → Bool
has_interval k = elim (profile k).form [
  | Form.terms t ↦ true
  | Form.histogram h ↦ is_spaced h.spacing h.extended h.hard
  | Form.pages sources size after ↦ true
  | Form.fixed ks ↦ true
  | Form.number o ↦ true
]

-- whether the aggregation, and each below it, has intervals of some length, where it has any
abbrev pub has_intervals : Agg → Bool
has_intervals = fold_agg (λ a. has_interval a.kind && list_all (λ has. has) a.children)
