-- Aggregations that go to other rows by nesting (Elasticsearch Reference 8, 'Nested aggregation', 'Reverse nested
-- aggregation').
use Rattle.std.specs.Prelude.{Bool, true, false, zero, suc}
use Rattle.agg_model.specs.declared.aggregation.Kind.{Kind}
use Rattle.agg_evaluation.specs.Profile.{Steps, profile}

-- down to the rows of a nested path, which never are roots, or up to the rows of a context
abbrev pub goes_by_nesting : Kind → Bool
goes_by_nesting k = elim (profile k).steps [
  | Steps.same ↦ false
  | Steps.down zero ↦ false
  | Steps.down (suc path) ↦ true
  | Steps.up context ↦ true
  | Steps.all_roots ↦ false
]
