use Rattle.std.proofs.Common.{ap, [], ◌∷◌}
use Rattle.json.specs.Token.{boolean}
use Rattle.agg_response.proofs.BulkTokens.{one, next, as_tokens, line_tokens}
use Rattle.agg_response.proofs.bulk.write_line.Goals as goal

pub returns : goal.returns
returns c =
    let refused = as_tokens (ap (λ b. boolean b ∷ []) c.has_refusal.ensures) (one c.in_ok-boolean.ensures) in
    as_tokens (line_tokens _ _)
    (next (one c.in_ok-begin_object.ensures) (next (one c.in_ok-key.ensures)
    (next refused (next (one c.in_ok-key-2.ensures) (next (one c.in_ok-begin_array.ensures)
    (next c.in_ok-write_items.ensures (next c.in_ok-write_count.ensures (one c.in_ok-end_object.ensures))))))))
