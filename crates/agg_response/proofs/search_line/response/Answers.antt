-- The shards, the answers and the rest are all members.
use Rattle.std.proofs.Common.{◌≡◌, ◌∷◌, [], ◌∙◌, ap, sym, subst, IfOk, false}
use Rattle.std.specs.Prelude.{codes}
use Rattle.serde_json.specs.Data.{object, boolean, no_members}
use Rattle.serde_json.specs.Data.{put as with_member}
use Rattle.serde_json.specs.View.{members_view}
use Rattle.serde_json.specs.Written.{compact_text}
use Rattle.agg_spec.specs.Json.{with_members, count}
use Rattle.agg_spec.specs.NoteZones.{zoned_notes}
use Rattle.agg_spec.specs.Response.{shards_member, hits_member, aggregations}
use Rattle.agg_response.proofs.PutLaws.{with_members-append}
use Rattle.agg_response.proofs.search_line.response.Goals as goal

pub returns : goal.returns
returns c =
    let shown = (shards_member c.args.shards c.args.failures.now).1 in
    let answers = aggregations c.args.mapping.now c.args.search.now.aggs
    (zoned_notes c.args.search.now c.args.mapping.now c.args.piped.now.notes) c.args.piped.now.answer.nodes in
    let behind = hits_member c.args.piped.now.answer.hits ∷ (codes "status", count 200) ∷ (codes "timed_out", boolean false) ∷ (codes "took", count 0) ∷ [] in
    subst (λ ms. IfOk c.finished.result (λ t. t ≡ compact_text (object ms)))
    (ap (λ d. with_members ((codes "hits", d) ∷ (codes "status", count 200) ∷ (codes "timed_out", boolean false) ∷ (codes "took", count 0) ∷ [])
    (members_view c.in_ok-answered.answered.members.entries)) c.in_ok-hits.ensures
    ∙ ap (with_members behind) (c.in_ok-answered.ensures ∙ ap (with_members answers) (c.in_ok-opened.ensures
    ∙ ap (with_member (codes "_shards") _) c.new.ensures ∙ ap (λ d. with_member (codes "_shards") d no_members) c.in_ok-told.ensures))
    ∙ sym (with_members-append answers behind (with_member (codes "_shards") shown no_members)))
    c.finished.ensures
