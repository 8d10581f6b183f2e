-- The last bucket is the one at the last place.
use Rattle.std.proofs.Common.{◌≡◌, ◌∷◌, [], ◌∙◌, ap, sym, subst, IfOk}
use Rattle.std.specs.Prelude.{Option, slice_get, ◌-◌, length, codes}
use Rattle.std.specs.Option.{option_map_or}
use Rattle.serde_json.specs.Data.{put as with_member}
use Rattle.serde_json.specs.View.{members_view}
use Rattle.agg_model.specs.declared.answer.BucketAnswer.{BucketAnswer, out-BucketAnswer}
use Rattle.agg_spec.specs.AnswerTree.{composite_value}
use Rattle.agg_spec.specs.Json.{with_members}
use Rattle.agg_response.proofs.LastItem.{last_is}
use Rattle.agg_response.proofs.answers.with_after_key.Goals as goal

pub returns-in_ok-composite_value-in-Some : goal.returns-in_ok-composite_value-in-Some
returns-in_ok-composite_value-in-Some c =
    let old = members_view c.args.object.members.entries in
    let place = ap (λ xs. slice_get xs (length xs - 1)) c.as_slice.ensures in
    let last = last_is c.args.buckets.now c.in-Some.bucket.now (c.in-Some.ensures.value ∙ place) in
    subst (λ ms. IfOk c.with.result (λ o. members_view o.members.entries ≡ ms))
    (ap (λ d. with_member (codes "after_key") d old) c.in_ok-composite_value-in-Some.ensures
    ∙ sym (ap (λ (o : Option BucketAnswer). with_members
    (option_map_or (λ b. (codes "after_key", composite_value c.args.sources.now (out-BucketAnswer b).key) ∷ []) o []) old) last))
    c.with.ensures
