use Rattle.std.proofs.Common.{◌≡◌, ◌<◌, ◌≤◌, ◌+◌, ◌∙◌, [], ◌∷◌, ◌++◌, List, sym, ap, arith, rules, length, map, drop, get_or, pos, w64, to_z, of_z}
use Rattle.std.specs.Global.{Vec}
use Rattle.std.specs.Vec.Iter.{into_iter_items}
use Rattle.std.proofs.lemmas.Int.{to_z-of_z}
use Rattle.std.proofs.lemmas.Option.{slice_get-get_or}
use Rattle.list_laws.proofs.Lists.{append-nil}
use Rattle.agg_model.specs.declared.key.Key.TheVariants as key
use Rattle.agg_model.specs.declared.partial.Bucket.{Bucket}
use Rattle.growing_tree.specs.CodedBuckets.{coded_bucket}
use Rattle.growing_tree.specs.Frequent.{frequent}
use Rattle.growing_tree.specs.Trees.{bucket_at, coded_buckets}
use Rattle.growing_tree.specs.declared.coded.Coded.{Coded}
use Rattle.growing_tree.proofs.Choosing.{coded-empty, coded-next, kept-less, kept-more, enough-rows, few-rows}
use Rattle.growing_tree.proofs.Cuts.{drop-full}
use Rattle.growing_tree.proofs.coded.with_codes.Goals as goal
use Rattle.growing_tree.proofs.coded.with_codes.Goals.{then-bucket-least+in_ok-push, else-bucket-least}

pub loop-code-preserved : goal.loop-code-preserved
loop-code-preserved c =
    let codes = c.codes-code-items.result.now in
    let i = c.loop-code.code-index in
    let code = get_or codes i (pos 0) in
    let done = c.loop-code.coded.items in
    let least = c.args.least in
    let bucket = c.in-Some.bucket in
    let b : Bucket = bucket_at (key.Whole code) bucket in
    let left : List Bucket = coded_buckets (drop (i + 1) codes) (into_iter_items c.next.new.self) in
    let within : i < length codes = omega (arith, c.loop-code-test.true) in
    let all : coded_buckets (drop i codes) (into_iter_items c.loop-code.left) ≡ b ∷ left =
    ap (coded_buckets (drop i codes)) c.in-Some.ensures.items ∙ coded-next bucket_at codes i code bucket (into_iter_items c.next.new.self) (slice_get-get_or codes i (pos 0) within) in
    let before : map coded_bucket done ++ frequent least (b ∷ left) ≡ frequent least (coded_buckets codes c.args.keyed.buckets.items) = ap (λ bs. map coded_bucket done ++ frequent least bs) (sym all) ∙ c.loop-code.invariant in
    elim c.if-bucket-least.branch [
      | then-bucket-least+in_ok-push w ↦
          ap (λ (v : Vec Coded). map coded_bucket v.items ++ frequent least left) w.coded-is ∙ ap (λ xs. map coded_bucket xs ++ frequent least left) w.in_ok-push.ensures.items
          ∙ kept-more least done (record { code = to_z w64 (of_z w64 code); bucket = bucket }) b left (ap (λ k. bucket_at (key.Whole k) bucket) (to_z-of_z w64 code (search rules))) (enough-rows least bucket.count w.if-bucket-least.true)
          ∙ before
      | else-bucket-least w ↦
          ap (λ (v : Vec Coded). map coded_bucket v.items ++ frequent least left) w.coded-is ∙ ap (λ bs. map coded_bucket done ++ bs) (kept-less least b left (few-rows least bucket.count w.if-bucket-least.false)) ∙ before
    ]

pub returns-in_default : goal.returns-in_default
returns-in_default c =
    let codes = c.codes-code-items.result.now in
    let done = map coded_bucket c.loop-code.coded.items in
    let left = into_iter_items c.loop-code.left in
    let none : length left ≤ 0 = omega (arith, c.in_default.ensures.cases, c.loop-code.left.rest.ok) in
    let over : coded_buckets (drop c.loop-code.code-index codes) left ≡ [] = ap (coded_buckets (drop c.loop-code.code-index codes)) (drop-full left 0 none) ∙ coded-empty bucket_at (drop c.loop-code.code-index codes) in
    sym (append-nil done) ∙ sym (ap (λ bs. done ++ frequent c.args.least bs) over) ∙ c.loop-code.invariant ∙ ap (λ cs. frequent c.args.least (coded_buckets cs c.args.keyed.buckets.items)) c.codes-code-items.ensures.codes

pub returns : goal.returns
returns c =
    let codes = c.codes-code-items.result.now in
    let done = map coded_bucket c.loop-code.coded.items in
    let left = into_iter_items c.loop-code.left in
    let over = drop-full codes c.loop-code.code-index c.loop-code-test.false in
    sym (append-nil done) ∙ sym (ap (λ cs. done ++ frequent c.args.least (coded_buckets cs left)) over) ∙ c.loop-code.invariant
    ∙ ap (λ cs. frequent c.args.least (coded_buckets cs c.args.keyed.buckets.items)) c.codes-code-items.ensures.codes
