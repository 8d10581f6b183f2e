use Rattle.std.proofs.Common.{◌≡◌, refl, ◌∙◌, sym, ap, subst, arith, false, length, List}
use Rattle.std.proofs.lemmas.List.{length-map}
use Rattle.agg_model.specs.declared.partial.Bucket.{Bucket}
use Rattle.agg_evaluation.specs.Orders.{bucket_key}
use Rattle.list_laws.proofs.Booleans.{holds}
use Rattle.composite_agg.specs.FirstPages.{FirstPage, IsPage, counted, is_outside, with_buckets}
use Rattle.composite_agg.specs.Runs.{IsGapFor, IsSpotOf, Run, in_runs, place_in}
use Rattle.composite_agg.proofs.PageSteps.{held-at}
use Rattle.composite_agg.proofs.Offers.{page-counted, counted-answer, counted-page, page-is, page-entered, after_entering, answer-is}
use Rattle.composite_agg.proofs.RunSteps.{counted-in, few-in}
use Rattle.composite_agg.proofs.offering.offer_to.Goals as goal

pub overflow_add-index_mut : goal.overflow_add-index_mut
overflow_add-index_mut c =
    let rs = c.args.runs.now.items in
    let bs = in_runs rs in
    let k = c.args.key in
    let p : FirstPage = record { sources = c.args.sources.now; size = c.args.size; after = c.args.after.now; buckets = bs } in
    let r = c.in-Ok.spot.run in
    let i = c.in-Ok.spot.at in
    let found = subst (λ (xs : List (Run Bucket)). IsSpotOf bucket_key xs k c.in-Ok.spot) c.as_slice-2.ensures.value c.in-Ok.ensures.found in
    let v : Run Bucket = c.index_mut.result.now in
    let b : Bucket = c.index_mut-in-Ok.result.now in
    let small = few-in p.sources k rs r i v b c.requires.page.order found.place.there (found.there v) c.index_mut.ensures.value c.index_mut-in-Ok.ensures.value (found.is_key b) c.requires.few in
    omega (arith, small)

pub returns-in-Ok-clause-answer : goal.returns-in-Ok-clause-answer
returns-in-Ok-clause-answer c =
    let rs = c.args.runs.now.items in
    let bs = in_runs rs in
    let k = c.args.key in
    let p : FirstPage = record { sources = c.args.sources.now; size = c.args.size; after = c.args.after.now; buckets = bs } in
    let inside : is_outside p k ≡ false = sym (c.is_outside.ensures ∙ ap (λ (xs : List (Run Bucket)). is_outside (with_buckets p (in_runs xs)) k) c.as_slice.ensures.value) ∙ c.if-is_outside.false in
    let r = c.in-Ok.spot.run in
    let i = c.in-Ok.spot.at in
    let found = subst (λ (xs : List (Run Bucket)). IsSpotOf bucket_key xs k c.in-Ok.spot) c.as_slice-2.ensures.value c.in-Ok.ensures.found in
    let v : Run Bucket = c.index_mut.result.now in
    let b : Bucket = c.index_mut-in-Ok.result.now in
    sym (counted-answer p k c.args.children inside (held-at p.sources k bs (place_in rs r i) b found.among (found.is_key b)))

pub returns-in-Ok-clause-page : goal.returns-in-Ok-clause-page
returns-in-Ok-clause-page c =
    let rs = c.args.runs.now.items in
    let bs = in_runs rs in
    let k = c.args.key in
    let p : FirstPage = record { sources = c.args.sources.now; size = c.args.size; after = c.args.after.now; buckets = bs } in
    let inside : is_outside p k ≡ false = sym (c.is_outside.ensures ∙ ap (λ (xs : List (Run Bucket)). is_outside (with_buckets p (in_runs xs)) k) c.as_slice.ensures.value) ∙ c.if-is_outside.false in
    let r = c.in-Ok.spot.run in
    let i = c.in-Ok.spot.at in
    let found = subst (λ (xs : List (Run Bucket)). IsSpotOf bucket_key xs k c.in-Ok.spot) c.as_slice-2.ensures.value c.in-Ok.ensures.found in
    let v : Run Bucket = c.index_mut.result.now in
    let b : Bucket = c.index_mut-in-Ok.result.now in
    let step = counted-in p.sources k rs r i v b c.requires.page.order found.place.there (found.there v) c.index_mut.ensures.value c.index_mut-in-Ok.ensures.value (found.is_key b) _ refl in
    step ∙ sym (counted-page p k c.args.children inside (held-at p.sources k bs (place_in rs r i) b found.among (found.is_key b)))

pub returns-in-Ok-clause-kept : goal.returns-in-Ok-clause-kept
returns-in-Ok-clause-kept c =
    let rs = c.args.runs.now.items in
    let bs = in_runs rs in
    let k = c.args.key in
    let p : FirstPage = record { sources = c.args.sources.now; size = c.args.size; after = c.args.after.now; buckets = bs } in
    let r = c.in-Ok.spot.run in
    let i = c.in-Ok.spot.at in
    let found = subst (λ (xs : List (Run Bucket)). IsSpotOf bucket_key xs k c.in-Ok.spot) c.as_slice-2.ensures.value c.in-Ok.ensures.found in
    let v : Run Bucket = c.index_mut.result.now in
    let b : Bucket = c.index_mut-in-Ok.result.now in
    let step = counted-in p.sources k rs r i v b c.requires.page.order found.place.there (found.there v) c.index_mut.ensures.value c.index_mut-in-Ok.ensures.value (found.is_key b) _ refl in
    subst (λ (xs : List Bucket). IsPage (with_buckets p xs)) (sym step) (page-counted p k c.args.children c.requires.page)

pub returns-in-Ok-clause-held : goal.returns-in-Ok-clause-held
returns-in-Ok-clause-held c =
    let rs = c.args.runs.now.items in
    let bs = in_runs rs in
    let k = c.args.key in
    let p : FirstPage = record { sources = c.args.sources.now; size = c.args.size; after = c.args.after.now; buckets = bs } in
    let r = c.in-Ok.spot.run in
    let i = c.in-Ok.spot.at in
    let found = subst (λ (xs : List (Run Bucket)). IsSpotOf bucket_key xs k c.in-Ok.spot) c.as_slice-2.ensures.value c.in-Ok.ensures.found in
    let v : Run Bucket = c.index_mut.result.now in
    let b : Bucket = c.index_mut-in-Ok.result.now in
    let step = counted-in p.sources k rs r i v b c.requires.page.order found.place.there (found.there v) c.index_mut.ensures.value c.index_mut-in-Ok.ensures.value (found.is_key b) _ refl in
    c.requires.held ∙ sym (ap length step ∙ length-map bs (counted k))

pub returns-in_ok-evicted-in-Err-clause-answer : goal.returns-in_ok-evicted-in-Err-clause-answer
returns-in_ok-evicted-in-Err-clause-answer c =
    let rs = c.args.runs.now.items in
    let bs = in_runs rs in
    let k = c.args.key in
    let p : FirstPage = record { sources = c.args.sources.now; size = c.args.size; after = c.args.after.now; buckets = bs } in
    let inside : is_outside p k ≡ false = sym (c.is_outside.ensures ∙ ap (λ (xs : List (Run Bucket)). is_outside (with_buckets p (in_runs xs)) k) c.as_slice.ensures.value) ∙ c.if-is_outside.false in
    let n = place_in rs c.in-Err.spot.run c.in-Err.spot.at in
    let absent = subst (λ (xs : List (Run Bucket)). IsGapFor bucket_key p.sources xs k c.in-Err.spot) c.as_slice-2.ensures.value c.in-Err.ensures.absent in
    let out = after_entering p k c.args.children c.requires.page c.requires.parts inside n (holds _ absent.before) (holds _ absent.behind) (in_runs c.enter.new.runs.items) c.in_ok-evicted-in-Err.evicted c.in_ok-evicted-in-Err.ensures.items c.in_ok-evicted-in-Err.ensures.full in
    answer-is p k c.args.children c.requires.page c.requires.parts inside n (holds _ absent.before) (holds _ absent.behind) c.in_ok-evicted-in-Err.evicted out.1

pub returns-in_ok-evicted-in-Err-clause-page : goal.returns-in_ok-evicted-in-Err-clause-page
returns-in_ok-evicted-in-Err-clause-page c =
    let rs = c.args.runs.now.items in
    let bs = in_runs rs in
    let k = c.args.key in
    let p : FirstPage = record { sources = c.args.sources.now; size = c.args.size; after = c.args.after.now; buckets = bs } in
    let inside : is_outside p k ≡ false = sym (c.is_outside.ensures ∙ ap (λ (xs : List (Run Bucket)). is_outside (with_buckets p (in_runs xs)) k) c.as_slice.ensures.value) ∙ c.if-is_outside.false in
    let n = place_in rs c.in-Err.spot.run c.in-Err.spot.at in
    let absent = subst (λ (xs : List (Run Bucket)). IsGapFor bucket_key p.sources xs k c.in-Err.spot) c.as_slice-2.ensures.value c.in-Err.ensures.absent in
    let out = after_entering p k c.args.children c.requires.page c.requires.parts inside n (holds _ absent.before) (holds _ absent.behind) (in_runs c.enter.new.runs.items) c.in_ok-evicted-in-Err.evicted c.in_ok-evicted-in-Err.ensures.items c.in_ok-evicted-in-Err.ensures.full in
    sym (page-is p k c.args.children c.requires.page c.requires.parts inside n (holds _ absent.before) (holds _ absent.behind) ∙ out.0)

pub returns-in_ok-evicted-in-Err-clause-kept : goal.returns-in_ok-evicted-in-Err-clause-kept
returns-in_ok-evicted-in-Err-clause-kept c =
    let rs = c.args.runs.now.items in
    let bs = in_runs rs in
    let k = c.args.key in
    let p : FirstPage = record { sources = c.args.sources.now; size = c.args.size; after = c.args.after.now; buckets = bs } in
    let inside : is_outside p k ≡ false = sym (c.is_outside.ensures ∙ ap (λ (xs : List (Run Bucket)). is_outside (with_buckets p (in_runs xs)) k) c.as_slice.ensures.value) ∙ c.if-is_outside.false in
    let n = place_in rs c.in-Err.spot.run c.in-Err.spot.at in
    let absent = subst (λ (xs : List (Run Bucket)). IsGapFor bucket_key p.sources xs k c.in-Err.spot) c.as_slice-2.ensures.value c.in-Err.ensures.absent in
    let out = after_entering p k c.args.children c.requires.page c.requires.parts inside n (holds _ absent.before) (holds _ absent.behind) (in_runs c.enter.new.runs.items) c.in_ok-evicted-in-Err.evicted c.in_ok-evicted-in-Err.ensures.items c.in_ok-evicted-in-Err.ensures.full in
    subst (λ (xs : List Bucket). IsPage (with_buckets p xs)) out.0 (page-entered p k c.args.children c.requires.page c.requires.parts inside n (holds _ absent.before) (holds _ absent.behind))
