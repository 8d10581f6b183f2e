use Rattle.std.proofs.Common.{◌≡◌, ◌∙◌, sym, ap, subst, false, length, slice_set, List, rules}
use Rattle.agg_model.specs.declared.partial.Bucket.{Bucket}
use Rattle.agg_model.specs.declared.partial.Node.{Node}
use Rattle.agg_evaluation.specs.CompositeKeys.{is_composite_of}
use Rattle.agg_evaluation.specs.Orders.{bucket_key}
use Rattle.list_laws.proofs.Booleans.{holds}
use Rattle.composite_agg.specs.Runs.{IsGapFor, IsSpotOf, Run, in_runs, place_in}
use Rattle.composite_agg.proofs.PageSteps.{held-at}
use Rattle.composite_agg.proofs.InOrder.{absent as none-held}
use Rattle.composite_agg.proofs.RunSteps.{children-in, with-in}
use Rattle.composite_agg.proofs.Swapped.{none-children, none-with, other-parts}
use Rattle.composite_agg.proofs.swapping.swap_in.Goals as goal

pub returns-then-not-has_part_for_each-clause-held : goal.returns-then-not-has_part_for_each-clause-held
returns-then-not-has_part_for_each-clause-held c =
    let rs = c.args.runs.now.items in
    let bs = in_runs rs in
    let k = c.args.key.now in
    let sources = c.args.sources.now in
    let other : is_composite_of (length sources) k ≡ false = search rules in
    let nowhere = other-parts k c.args.children.now (length sources) bs (holds _ c.requires.parts) other in
    sym nowhere

pub returns-then-not-has_part_for_each-clause-buckets : goal.returns-then-not-has_part_for_each-clause-buckets
returns-then-not-has_part_for_each-clause-buckets c =
    let rs = c.args.runs.now.items in
    let bs = in_runs rs in
    let k = c.args.key.now in
    let sources = c.args.sources.now in
    let other : is_composite_of (length sources) k ≡ false = search rules in
    let nowhere = other-parts k c.args.children.now (length sources) bs (holds _ c.requires.parts) other in
    sym (none-with k c.args.children.now bs nowhere)

pub returns-then-not-has_part_for_each-clause-children : goal.returns-then-not-has_part_for_each-clause-children
returns-then-not-has_part_for_each-clause-children c =
    let rs = c.args.runs.now.items in
    let bs = in_runs rs in
    let k = c.args.key.now in
    let sources = c.args.sources.now in
    let other : is_composite_of (length sources) k ≡ false = search rules in
    let nowhere = other-parts k c.args.children.now (length sources) bs (holds _ c.requires.parts) other in
    sym (none-children k c.args.children.now bs nowhere)

pub returns-in-Err-clause-held : goal.returns-in-Err-clause-held
returns-in-Err-clause-held c =
    let rs = c.args.runs.now.items in
    let bs = in_runs rs in
    let k = c.args.key.now in
    let sources = c.args.sources.now in
    let r = c.in-Err.field-0.run in
    let i = c.in-Err.field-0.at in
    let absent = subst (λ (xs : List (Run Bucket)). IsGapFor bucket_key sources xs k c.in-Err.field-0) c.as_slice.ensures.value c.in-Err.ensures.absent in
    let nowhere = none-held bucket_key sources k bs (place_in rs r i) (holds _ absent.before) (holds _ absent.behind) in
    sym nowhere

pub returns-in-Err-clause-buckets : goal.returns-in-Err-clause-buckets
returns-in-Err-clause-buckets c =
    let rs = c.args.runs.now.items in
    let bs = in_runs rs in
    let k = c.args.key.now in
    let sources = c.args.sources.now in
    let r = c.in-Err.field-0.run in
    let i = c.in-Err.field-0.at in
    let absent = subst (λ (xs : List (Run Bucket)). IsGapFor bucket_key sources xs k c.in-Err.field-0) c.as_slice.ensures.value c.in-Err.ensures.absent in
    let nowhere = none-held bucket_key sources k bs (place_in rs r i) (holds _ absent.before) (holds _ absent.behind) in
    sym (none-with k c.args.children.now bs nowhere)

pub returns-in-Err-clause-children : goal.returns-in-Err-clause-children
returns-in-Err-clause-children c =
    let rs = c.args.runs.now.items in
    let bs = in_runs rs in
    let k = c.args.key.now in
    let sources = c.args.sources.now in
    let r = c.in-Err.field-0.run in
    let i = c.in-Err.field-0.at in
    let absent = subst (λ (xs : List (Run Bucket)). IsGapFor bucket_key sources xs k c.in-Err.field-0) c.as_slice.ensures.value c.in-Err.ensures.absent in
    let nowhere = none-held bucket_key sources k bs (place_in rs r i) (holds _ absent.before) (holds _ absent.behind) in
    sym (none-children k c.args.children.now bs nowhere)

pub returns-in-Ok-clause-held : goal.returns-in-Ok-clause-held
returns-in-Ok-clause-held c =
    let rs = c.args.runs.now.items in
    let bs = in_runs rs in
    let k = c.args.key.now in
    let sources = c.args.sources.now in
    let r = c.in-Ok.spot.run in
    let i = c.in-Ok.spot.at in
    let found = subst (λ (xs : List (Run Bucket)). IsSpotOf bucket_key xs k c.in-Ok.spot) c.as_slice.ensures.value c.in-Ok.ensures.found in
    let v : Run Bucket = c.index_mut.result.now in
    let b : Bucket = c.index_mut-in-Ok.result.now in
    sym (held-at sources k bs (place_in rs r i) b found.among (found.is_key b))

pub returns-in-Ok-clause-buckets : goal.returns-in-Ok-clause-buckets
returns-in-Ok-clause-buckets c =
    let rs = c.args.runs.now.items in
    let bs = in_runs rs in
    let k = c.args.key.now in
    let sources = c.args.sources.now in
    let r = c.in-Ok.spot.run in
    let i = c.in-Ok.spot.at in
    let found = subst (λ (xs : List (Run Bucket)). IsSpotOf bucket_key xs k c.in-Ok.spot) c.as_slice.ensures.value c.in-Ok.ensures.found in
    let v : Run Bucket = c.index_mut.result.now in
    let b : Bucket = c.index_mut-in-Ok.result.now in
    with-in sources k rs r i v b c.requires.order found.place.there (found.there v) c.index_mut.ensures.value c.index_mut-in-Ok.ensures.value (found.is_key b) c.args.children.now _ (ap (λ (cs : List Node). slice_set v.items i (record b { children = cs })) c.swap.ensures.x_after)

pub returns-in-Ok-clause-children : goal.returns-in-Ok-clause-children
returns-in-Ok-clause-children c =
    let rs = c.args.runs.now.items in
    let bs = in_runs rs in
    let k = c.args.key.now in
    let sources = c.args.sources.now in
    let r = c.in-Ok.spot.run in
    let i = c.in-Ok.spot.at in
    let found = subst (λ (xs : List (Run Bucket)). IsSpotOf bucket_key xs k c.in-Ok.spot) c.as_slice.ensures.value c.in-Ok.ensures.found in
    let v : Run Bucket = c.index_mut.result.now in
    let b : Bucket = c.index_mut-in-Ok.result.now in
    c.swap.ensures.y_after ∙ sym (children-in sources k rs r i v b c.requires.order found.place.there (found.there v) c.index_mut.ensures.value c.index_mut-in-Ok.ensures.value (found.is_key b) c.args.children.now)
