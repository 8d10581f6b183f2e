-- No member that is put is a float.
use Rattle.std.proofs.Common.{◌∙◌, ap}
use Rattle.serde_json.specs.View.{view, members_view}
use Rattle.serde_json.specs.Written.{members_have_float}
use Rattle.agg_response.proofs.NoFloat.{members_have_float-put}
use Rattle.agg_response.proofs.values.Object.with.Goals as goal

pub invariant_of-result : goal.invariant_of-result
invariant_of-result c = record {
  no_float =
      ap members_have_float c.in_ok-put.ensures.ok
      ∙ members_have_float-put c.args.name.now (view c.args.json.value) (members_view c.args.self.members.entries) c.args.json.no_float c.args.self.no_float;
}
