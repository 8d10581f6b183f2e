use Rattle.std.proofs.Common.{ap, [], ◌∷◌, ◌∙◌}
use Rattle.json.specs.Token.{key}
use Rattle.agg_spec.specs.BulkLine.{action_name, end_members}
use Rattle.agg_response.specs.Tokens.{member_tokens}
use Rattle.bulk_items.specs.Items.{item_at}
use Rattle.agg_response.proofs.BulkTokens.{one, next, as_tokens, by_text, item_tokens}
use Rattle.agg_response.proofs.bulk.write_item.Goals as goal

pub returns : goal.returns
returns c =
    let item = item_at c.args.items.now c.args.place in
    let action = as_tokens (ap (λ name. key name ∷ []) (c.action_name.ensures ∙ ap action_name c.kind.ensures)) (one c.in_ok-key.ensures) in
    let end = as_tokens (ap (λ e. member_tokens (end_members e)) c.end.ensures) c.in_ok-write_end.ensures in
    as_tokens (item_tokens (action_name item.kind) item.id c.args.index.now item.end)
    (next (one c.in_ok-begin_object.ensures) (next action (next (one c.in_ok-begin_object-2.ensures)
    (next (by_text c.id.ensures c.in_ok-write_text.ensures) (next (by_text c.as_str.ensures c.in_ok-write_text-2.ensures)
    (next end (next (one c.in_ok-end_object.ensures) (one c.in_ok-end_object-2.ensures))))))))
