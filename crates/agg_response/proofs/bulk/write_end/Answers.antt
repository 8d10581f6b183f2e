use Rattle.std.proofs.Common.{ap, sym}
use Rattle.agg_spec.specs.BulkLine.{end_members}
use Rattle.bulk_items.specs.Items.{end_of}
use Rattle.agg_response.specs.Tokens.{member_tokens}
use Rattle.agg_response.proofs.BulkTokens.{one, next, as_tokens, by_text, by_count}
use Rattle.agg_response.proofs.bulk.write_end.Goals as goal

pub returns-in_ok-write_count-in-Applied : goal.returns-in_ok-write_count-in-Applied
returns-in_ok-write_count-in-Applied c =
    as_tokens (ap (λ e. member_tokens (end_members (end_of e))) (sym c.in-Applied.is))
    (next (by_text c.applied_name.ensures c.in_ok-write_text-in-Applied.ensures) (by_count c.applied_status.ensures c.in_ok-write_count-in-Applied.ensures))

pub returns-in_ok-write_count-in-Refused : goal.returns-in_ok-write_count-in-Refused
returns-in_ok-write_count-in-Refused c =
    as_tokens (ap (λ e. member_tokens (end_members (end_of e))) (sym c.in-Refused.is))
    (next (one c.in_ok-key-in-Refused.ensures) (next c.in_ok-write_error-in-Refused.ensures
    (by_count c.refusal_status.ensures c.in_ok-write_count-in-Refused.ensures)))
