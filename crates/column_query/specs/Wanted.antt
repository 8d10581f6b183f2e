-- What a query wants of a value of its field.
use Rattle.std.specs.Prelude.{Bool}
use Rattle.std.specs.List.{list_any, list_all}
use Rattle.agg_model.specs.declared.row.Scalar.{Scalar}
use Rattle.agg_evaluation.specs.KeyOrder.{key_eq}
use Rattle.agg_model.specs.ValueKeys.{scalar_key, probe_key}
use Rattle.agg_evaluation.specs.Matching.{passes}
use Rattle.column_query.specs.declared.values.Wanted.{Wanted}
use Rattle.column_query.specs.declared.values.Wanted.TheVariants.{Equal, OneOf, Within}

abbrev pub wants : Wanted → Scalar → Bool
wants (Equal probe) value = key_eq (scalar_key value) (probe_key probe.now)
wants (OneOf probes) value = list_any (λ probe. key_eq (scalar_key value) (probe_key probe)) probes.now
wants (Within tests) value = list_all (λ test. passes test value) tests.now
