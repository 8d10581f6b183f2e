-- One more failure is one more value.
use Rattle.std.proofs.Common.{map, ◌∙◌}
use Rattle.std.proofs.lemmas.List.{drop_more}
use Rattle.serde_json.specs.View.{view}
use Rattle.agg_spec.specs.ErrorLines.{failure_value}
use Rattle.agg_response.proofs.PutLaws.{listed_here}
use Rattle.agg_response.proofs.errors.failure_values.Goals as goal

pub loop-failure-preserved : goal.loop-failure-preserved
loop-failure-preserved c =
    listed_here failure_value c.as_slice-failure-items.result.now c.loop-failure.failure-index _ (view c.in_ok-failure_value.field-0.value)
    (map view c.loop-failure.values.items.items)
    (map view c.in_ok-values.values.items.items) (drop_more c.as_slice-failure-items.result.now c.loop-failure.failure-index _ c.loop-failure-test.true)
    c.in_ok-failure_value.ensures c.in_ok-values.ensures
    ∙ c.loop-failure.invariant
