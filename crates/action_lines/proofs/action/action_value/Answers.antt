use Rattle.std.proofs.Common.{◌≡◌, ◌∙◌, sym, ap, subst}
use Rattle.serde_json.specs.Data.{object}
use Rattle.agg_reading.specs.Action.{action_value_at}
use Rattle.agg_reading.specs.Reading.{Gives}
use Rattle.lent_json.specs.View.{view, members_view}
use Rattle.lent_json.proofs.Views.{view-Object}
use Rattle.action_lines.proofs.action.action_value.Goals as goal

pub returns-in-Object : goal.returns-in-Object
returns-in-Object c =
    let shown : object (members_view c.as_slice.result.now) ≡ view c.args.value.now = ap (λ ms. object (members_view ms)) c.as_slice.ensures.value ∙ sym (view-Object c.in-Object.members) ∙ ap view (sym c.in-Object.is) in
    subst (λ d. Gives (λ x. x) c.action_of_members.result (action_value_at c.args.index.now c.args.before d)) shown c.action_of_members.ensures
