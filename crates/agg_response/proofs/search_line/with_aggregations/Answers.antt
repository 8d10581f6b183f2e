-- The answers are one member where the search has an aggregation.
use Rattle.std.proofs.Common.{◌≡◌, ◌∙◌, ap, map, subst, IfOk, List, [], ◌∷◌, refl}
use Rattle.std.specs.Prelude.{codes}
use Rattle.serde_json.specs.Data.{Members, no_members, object}
use Rattle.serde_json.specs.Data.{put as with_member}
use Rattle.serde_json.specs.View.{members_view}
use Rattle.agg_model.specs.declared.mapping.Mapping.{Mapping}
use Rattle.agg_model.specs.declared.aggregation.Agg.{Agg}
use Rattle.agg_model.specs.declared.answer.NodeAnswer.{NodeAnswer}
use Rattle.agg_spec.specs.AnswerTree.{ZonedNote, printer, object_members}
use Rattle.agg_spec.specs.Json.{with_members, object_of}
use Rattle.agg_spec.specs.Response.{aggregations}
use Rattle.agg_response.proofs.search_line.with_aggregations.Goals as goal

shown : (m : Mapping) (aggs : List Agg) (notes : List ZonedNote) (nodes : List NodeAnswer) (old : Members) → (aggs ≡ [] → ⊥)
    → with_member (codes "aggregations") (object_of (object_members (map (printer m) aggs) notes nodes)) old
    ≡ with_members (aggregations m aggs notes nodes) old
shown m [] notes nodes old some = absurd (some refl)
shown m (a ∷ aggs) notes nodes old some = refl

pub returns : goal.returns
returns c =
    let m = c.args.mapping.now in
    let aggs = c.args.search.now.aggs in
    let nodes = c.args.piped.now.answer.nodes in
    let old = members_view c.args.object.members.entries in
    subst (λ ms. IfOk c.with.result (λ o. members_view o.members.entries ≡ ms))
    (ap (λ d. with_member (codes "aggregations") d old) (c.into_json.ensures ∙ ap object (c.in_ok-answers.ensures
    ∙ ap (with_members (object_members (map (printer m) aggs) _ nodes)) c.new.ensures
    ∙ ap (λ notes. with_members (object_members (map (printer m) aggs) notes nodes) no_members) c.in_ok-seen.ensures))
    ∙ shown m aggs _ nodes old (λ none. cc (c.is_empty.ensures.1 none, c.if-is_empty.false)))
    c.with.ensures
