use Rattle.std.proofs.Common.{rules, arith, ◌≡◌, refl, ◌<◌, ap, subst, sym, ◌∙◌, ℤ, pos, ◌+ℤ◌, to_z, of_z, List, [], ◌∷◌, ◌++◌}
use Rattle.std.specs.Prelude.{◌+◌, ◌^◌, take, Option, Some, slice_get, unwrap_or}
use mir.Syntax.{w128}
use Rattle.std.proofs.lemmas.Int.{ints}
use Rattle.std.proofs.lemmas.Option.{slice_get_read}
use Rattle.agg_spec.specs.Pipelines.{values_of}
use Rattle.bucket_order.specs.Kinds.{child_kinds}
use Rattle.pipeline_agg.specs.Bounds.{IsTotal}
use Rattle.pipeline_agg.proofs.ValueLaws.{small-within, total-more, values-more}
use Rattle.pipeline_agg.proofs.values.sum_of_values.Goals as goal

pub overflow_add-sum : goal.overflow_add-sum
overflow_add-sum c =
    let b = c.bucket-item.result in
    let is : slice_get c.args.buckets.now c.loop-bucket.bucket-index ≡ Some b = slice_get_read c.args.buckets.now _ c.loop-bucket.bucket-index b refl c.loop-bucket-test.true c.bucket-item.is in
    let small = c.value_at.ensures.small (c.requires.in_range c.loop-bucket.bucket-index b is) in
    let within = small-within c.value_at.result small in
    let low = within.0 in
    let high = within.1 in
    let value : c.unwrap_or-sum.result ≡ unwrap_or c.value_at.result (pos 0) = search rules in
    let few : c.loop-bucket.bucket-index < 2 ^ 63 = search (rules, arith) in
    let least = c.loop-bucket.invariant.least in
    let most = c.loop-bucket.invariant.most in
    omega (arith, ints, low, high, value, few, least, most, c.loop-bucket.sum-is)

pub loop-bucket-preserved : goal.loop-bucket-preserved
loop-bucket-preserved c =
    let b = c.bucket-item.result in
    let i = c.loop-bucket.bucket-index in
    let kinds = child_kinds c.args.children.now in
    let is : slice_get c.args.buckets.now i ≡ Some b = slice_get_read c.args.buckets.now _ i b refl c.loop-bucket-test.true c.bucket-item.is in
    let small = c.value_at.ensures.small (c.requires.in_range i b is) in
    let within = small-within c.value_at.result small in
    let low = within.0 in
    let high = within.1 in
    let few : i < 2 ^ 63 = search (rules, arith) in
    let least = c.loop-bucket.invariant.least in
    let most = c.loop-bucket.invariant.most in
    let value = c.unwrap_or-sum.ensures in
    let next : to_z w128 (of_z w128 (to_z w128 c.loop-bucket.sum-bits +ℤ to_z w128 (of_z w128 c.unwrap_or-sum.result))) ≡ to_z w128 c.loop-bucket.sum-bits +ℤ unwrap_or c.value_at.result (pos 0) =
    omega (arith, ints, low, high, value, few, least, most, c.loop-bucket.sum-is) in
    subst (λ (vs : List (Option ℤ)). IsTotal vs (i + 1) (to_z w128 (of_z w128 (to_z w128 c.loop-bucket.sum-bits +ℤ to_z w128 (of_z w128 c.unwrap_or-sum.result))))) (sym (values-more kinds c.args.path c.args.buckets.now i b c.loop-bucket-test.true c.bucket-item.is ∙ ap (λ v. values_of kinds c.args.path (take i c.args.buckets.now) ++ v ∷ []) (sym c.value_at.ensures.value)))
    (subst (λ (z : ℤ). IsTotal (values_of kinds c.args.path (take i c.args.buckets.now) ++ c.value_at.result ∷ []) (i + 1) z) (sym next)
    (total-more (values_of kinds c.args.path (take i c.args.buckets.now)) i c.value_at.result (to_z w128 c.loop-bucket.sum-bits) small c.loop-bucket.invariant))
