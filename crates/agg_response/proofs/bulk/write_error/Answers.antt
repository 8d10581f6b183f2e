use Rattle.agg_response.proofs.BulkTokens.{one, next, as_tokens, by_text, by_count, error_tokens}
use Rattle.agg_response.proofs.bulk.write_error.Goals as goal

pub returns : goal.returns
returns c =
    as_tokens (error_tokens c.args.refusal.now)
    (next (one c.in_ok-begin_object.ensures) (next (by_count c.from.ensures c.in_ok-write_count.ensures)
    (next c.in_ok-write_path.ensures (next (by_text c.refusal_type.ensures c.in_ok-write_text.ensures) (one c.in_ok-end_object.ensures)))))
