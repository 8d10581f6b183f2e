use Rattle.std.proofs.Common.{◌≡◌, ◌∙◌, ◌++◌, ◌∷◌, ap, sym, subst, [], List, map, arith, rules}
use Rattle.std.specs.Prelude.{ℤ, pos, ◌+ℤ◌, ◌≤ℤ◌, ◌<ℤ◌}
use Rattle.std.proofs.lemmas.Int.{ints, to_z-of_z}
use mir.Syntax.{w128}
use mir.Val.{SFits, to_z, of_z}
use Rattle.agg_model.specs.declared.partial.Bucket.{Bucket}
use Rattle.agg_model.specs.declared.key.Key.TheVariants.{Whole}
use Rattle.agg_evaluation.specs.Spacings.{start_at}
use Rattle.agg_spec.specs.Final.{empty_bucket, finisher}
use Rattle.agg_spec.specs.Filling.{bucket_at, filled_keys}
use Rattle.agg_spec.specs.GapCount.{interval_count}
use Rattle.final_reduce.specs.Steps.{IsSpan, key_numbers, left_by, taken}
use Rattle.final_reduce.proofs.Grids.{spacing-is}
use Rattle.final_reduce.proofs.Intervals.{one_step}
use Rattle.final_reduce.proofs.FillSteps.{IsFilling, filling-begins, filling-next, filling-done}
use Rattle.final_reduce.proofs.filling.filled_buckets.Goals as goal

pub loop-number-init : goal.loop-number-init
loop-number-init c =
    let g = c.args.grid in
    let span = c.in-Some.span in
    let empty = empty_bucket (map finisher c.args.children.now) in
    let all = map (bucket_at empty c.args.buckets) (filled_keys g.spacing g.extended g.hard (key_numbers c.args.buckets)) in
    let fits : SFits w128 span.first = search rules in
    let begins = filling-begins g.spacing g.extended g.hard c.requires.spaced empty c.args.buckets c.requires.keys c.requires.ascending span.first span.last
    (subst (λ bs. IsSpan g.spacing g.extended g.hard (key_numbers bs) span.first span.last) c.as_slice.ensures c.in-Some.ensures.span) in
    subst (λ (x : List Bucket × (List Bucket × ℤ)). IsFilling g.spacing empty all x.0 x.1.0 span.first x.1.1 span.last)
    (λ i. (sym c.new-filled.ensures.items i, (sym (c.from_vec-rest.ensures.items ∙ c.into_vec.ensures) i, sym (to_z-of_z w128 span.first fits) i))) begins

pub start_at-key-requires-clause-near : goal.start_at-key-requires-clause-near
start_at-key-requires-clause-near c =
    let number = to_z w128 c.loop-number.number-bits in
    let within : number ≤ℤ c.in-Some.span.last = omega (arith, ints, c.loop-number-test.true) in
    c.in-Some.ensures.near number c.loop-number.invariant.from within

pub overflow_add-number : goal.overflow_add-number
overflow_add-number c =
    let low = c.in-Some.ensures.low in
    let high = c.in-Some.ensures.high in
    let from = c.loop-number.invariant.from in
    omega (arith, ints, low, high, from, c.loop-number-test.true)

pub loop-number-smaller : goal.loop-number-smaller
loop-number-smaller c =
    let number = to_z w128 c.loop-number.number-bits in
    let low = c.in-Some.ensures.low in
    let high = c.in-Some.ensures.high in
    let from = c.loop-number.invariant.from in
    let within : number ≤ℤ c.in-Some.span.last = omega (arith, ints, c.loop-number-test.true) in
    let next : to_z w128 (of_z w128 (number +ℤ pos 1)) ≡ number +ℤ pos 1 = omega (arith, ints, low, high, from, within) in
    let step = one_step number c.in-Some.span.last within in
    let less : interval_count (to_z w128 (of_z w128 (number +ℤ pos 1))) c.in-Some.span.last ≡ interval_count (number +ℤ pos 1) c.in-Some.span.last = (λ i. interval_count (next i) c.in-Some.span.last) in
    omega (arith, step, less)

pub loop-number-preserved : goal.loop-number-preserved
loop-number-preserved c =
    let g = c.args.grid in
    let span = c.in-Some.span in
    let number = to_z w128 c.loop-number.number-bits in
    let empty = empty_bucket (map finisher c.args.children.now) in
    let all = map (bucket_at empty c.args.buckets) (filled_keys g.spacing g.extended g.hard (key_numbers c.args.buckets)) in
    let low = c.in-Some.ensures.low in
    let high = c.in-Some.ensures.high in
    let from = c.loop-number.invariant.from in
    let within : number ≤ℤ span.last = omega (arith, ints, c.loop-number-test.true) in
    let next : to_z w128 (of_z w128 (number +ℤ pos 1)) ≡ number +ℤ pos 1 = omega (arith, ints, low, high, from, within) in
    let key = Whole (start_at g.spacing number) in
    let fits : SFits w128 c.start_at-key.result = search rules in
    let same : Whole (to_z w128 (of_z w128 c.start_at-key.result)) ≡ key = ap Whole (to_z-of_z w128 c.start_at-key.result fits ∙ c.start_at-key.ensures) in
    let more = filling-next g.spacing (spacing-is g.spacing g.extended g.hard c.requires.spaced) empty all c.loop-number.filled.items span.first number span.last within c.loop-number.rest.items c.loop-number.invariant in
    let bucket : c.in_ok-take_bucket.field-0 ≡ taken key (empty key) c.loop-number.rest.items = c.in_ok-take_bucket.ensures.bucket ∙ ap (λ k. taken k (empty k) c.loop-number.rest.items) same in
    let rest : c.take_bucket.new.rest.items ≡ left_by key c.loop-number.rest.items = c.in_ok-take_bucket.ensures.rest ∙ ap (λ k. left_by k c.loop-number.rest.items) same in
    let items : c.push.new.self.items ≡ c.loop-number.filled.items ++ taken key (empty key) c.loop-number.rest.items ∷ [] = c.in_ok-push.ensures.items ∙ ap (λ b. c.loop-number.filled.items ++ b ∷ []) bucket in
    subst (λ (x : List Bucket × (List Bucket × ℤ)). IsFilling g.spacing empty all x.0 x.1.0 span.first x.1.1 span.last) (λ i. (sym items i, (sym rest i, sym next i))) more

pub returns : goal.returns
returns c =
    let g = c.args.grid in
    let number = to_z w128 c.loop-number.number-bits in
    let empty = empty_bucket (map finisher c.args.children.now) in
    let all = map (bucket_at empty c.args.buckets) (filled_keys g.spacing g.extended g.hard (key_numbers c.args.buckets)) in
    let past : c.in-Some.span.last <ℤ number = omega (arith, ints, c.loop-number-test.false) in
    filling-done g.spacing (spacing-is g.spacing g.extended g.hard c.requires.spaced) empty all c.loop-number.filled.items c.in-Some.span.first number c.in-Some.span.last c.loop-number.rest.items past c.loop-number.invariant
