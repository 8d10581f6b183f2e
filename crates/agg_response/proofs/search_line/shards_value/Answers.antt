-- The counts stand around the failures.
use Rattle.std.proofs.Common.{ap, ◌∙◌}
use Rattle.std.specs.Prelude.{codes}
use Rattle.serde_json.specs.Data.{put as with_member}
use Rattle.serde_json.specs.View.{view, members_view}
use Rattle.agg_response.proofs.PutLaws.{shards_told}
use Rattle.agg_response.proofs.search_line.shards_value.Goals as goal

pub returns : goal.returns
returns c =
    shards_told c.args.failures.now c.args.shards c.from-total.result c.len-failed.result (members_view c.in_ok-counted.counted.members.entries)
    (members_view c.in_ok-with_failures.field-0.members.entries) (members_view c.in_ok-with_count.field-0.members.entries)
    (members_view c.in_ok-with_count-2.field-0.members.entries) (members_view c.in_ok-with_count-3.field-0.members.entries) (view c.into_json.result.value)
    c.from-total.ensures c.len-failed.ensures (c.in_ok-counted.ensures ∙ ap (with_member (codes "failed") _) c.new.ensures) c.in_ok-with_failures.ensures
    c.in_ok-with_count.ensures c.in_ok-with_count-2.ensures c.in_ok-with_count-3.ensures c.into_json.ensures
