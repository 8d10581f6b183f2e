-- Aggregations that count the rows that reach them, and no others (Elasticsearch Reference 8, 'Nested aggregation').
use Rattle.std.specs.Prelude.{Bool, true, false}
use Rattle.agg_model.specs.declared.aggregation.Kind.{Kind}
use Rattle.agg_evaluation.specs.Profile.{Steps, profile}

-- all kinds but those that go by nesting
abbrev pub stays : Kind → Bool
stays k = elim (profile k).steps [
  | Steps.same ↦ true
  | Steps.down context ↦ false
  | Steps.up context ↦ false
  | Steps.all_roots ↦ true
]
