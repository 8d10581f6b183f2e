use Rattle.std.proofs.Common.{option_map, sym, ◌∙◌, ap}
use Rattle.lent_json.specs.View.{view}
use Rattle.agg_reading.specs.Action.{action_at, action_value_at}
use Rattle.agg_reading.specs.Json.{reading}
use Rattle.agg_reading.proofs.LineRefusals.{an_action}
use Rattle.action_lines.proofs.Refused.{never_no_json}
use Rattle.action_lines.proofs.action.action_with.Goals as goal

pub returns-in-Some-clause-json : goal.returns-in-Some-clause-json
unfolding action_at
returns-in-Some-clause-json c =
    never_no_json (reading c.args.line.now) (view c.in-Some.value) (action_value_at c.args.index.now c.args.before) c.action_value.result
    (sym c.in_ok-reading.ensures ∙ ap (option_map view) c.in-Some.is)
    (an_action c.args.index.now c.args.before c.args.line.now)
    c.action_value.ensures
