use Rattle.std.proofs.Common.{◌≡◌, ◌<◌, ◌≤◌, ◌+◌, ◌∙◌, [], ◌∷◌, ◌++◌, List, sym, ap, arith, rules, length, map, drop, get_or, pos, w64, to_z, of_z}
use Rattle.std.specs.Global.{Vec}
use Rattle.std.proofs.lemmas.Int.{to_z-of_z}
use Rattle.std.proofs.lemmas.Option.{slice_get-get_or}
use Rattle.list_laws.proofs.Lists.{append-nil}
use Rattle.agg_model.specs.declared.key.Key.TheVariants as key
use Rattle.agg_model.specs.declared.partial.Bucket.{Bucket}
use Rattle.agg_model.specs.declared.partial.Node.TheVariants.{Number}
use Rattle.growing_tree.specs.CodedBuckets.{coded_bucket}
use Rattle.growing_tree.specs.Frequent.{frequent}
use Rattle.growing_tree.specs.Measures.{measures_from, measures_of, metrics_at}
use Rattle.growing_tree.specs.Trees.{measured_at, measured_buckets}
use Rattle.growing_tree.specs.declared.coded.Coded.{Coded}
use Rattle.growing_tree.proofs.Choosing.{coded-is, coded-next, enough-rows, few-rows, kept-less, kept-more, measures-next, none-behind}
use Rattle.growing_tree.proofs.with_trees.with_trees.Goals as goal
use Rattle.growing_tree.proofs.with_trees.with_trees.Goals.{then-counts-place+in_ok-trees_at+in_ok-push, else-counts-place}

pub loop-place-preserved : goal.loop-place-preserved
loop-place-preserved c =
    let m = c.args.measured.now in
    let codes = c.codes-codes.result.now in
    let counts = m.counts.items in
    let at = metrics_at m.columns.items in
    let place = c.loop-place.place in
    let done = c.loop-place.coded.items in
    let least = c.args.least in
    let n = get_or counts place 0 in
    let code = get_or codes place (pos 0) in
    let b : Bucket = measured_at (key.Whole code) (record { count = n; metrics = at place }) in
    let left : List Bucket = measured_buckets (drop (place + 1) codes) (measures_from at (place + 1) (drop (place + 1) counts)) in
    let lent = ap length c.as_slice-counts.ensures.value in
    let within : place < length counts = omega (arith, c.loop-place-test.true, c.min-place-end.ensures, lent) in
    let coded : place < length codes = omega (arith, c.loop-place-test.true, c.min-place-end.ensures) in
    let all : measured_buckets (drop place codes) (measures_from at place (drop place counts)) ≡ b ∷ left =
    ap (measured_buckets (drop place codes)) (measures-next at counts place n (slice_get-get_or counts place 0 within))
    ∙ coded-next measured_at codes place code (record { count = n; metrics = at place }) (measures_from at (place + 1) (drop (place + 1) counts)) (slice_get-get_or codes place (pos 0) coded) in
    let before : map coded_bucket done ++ frequent least (b ∷ left) ≡ frequent least (measured_buckets m.places (measures_of m)) = ap (λ bs. map coded_bucket done ++ frequent least bs) (sym all) ∙ c.loop-place.invariant in
    let n_is : get_or c.as_slice-counts.result.now place 0 ≡ n = ap (λ ns. get_or ns place 0) c.as_slice-counts.ensures.value in
    elim c.if-counts-place.branch [
      | then-counts-place+in_ok-trees_at+in_ok-push w ↦
          let children = w.in_ok-trees_at.ensures ∙ ap (λ cs. map Number (metrics_at cs place)) w.as_slice.ensures.value in
          let same = coded-is (record { code = to_z w64 (of_z w64 code); bucket = record { count = get_or c.as_slice-counts.result.now place 0; children = w.in_ok-trees_at.field-0 } }) code n (map Number (at place)) (to_z-of_z w64 code (search rules)) n_is children in
          let enough : least ≤ n = omega (arith, w.if-counts-place.true, n_is) in
          ap (λ (v : Vec Coded). map coded_bucket v.items ++ frequent least left) w.coded-is ∙ ap (λ xs. map coded_bucket xs ++ frequent least left) w.in_ok-push.ensures.items
          ∙ kept-more least done _ b left same (enough-rows least n enough) ∙ before
      | else-counts-place w ↦
          let fewer : n < least = omega (arith, w.if-counts-place.false, n_is) in
          ap (λ (v : Vec Coded). map coded_bucket v.items ++ frequent least left) w.coded-is ∙ ap (λ bs. map coded_bucket done ++ bs) (kept-less least b left (few-rows least n fewer)) ∙ before
    ]

pub returns : goal.returns
returns c =
    let m = c.args.measured.now in
    let codes = c.codes-codes.result.now in
    let counts = m.counts.items in
    let at = metrics_at m.columns.items in
    let place = c.loop-place.place in
    let done = map coded_bucket c.loop-place.coded.items in
    let least = c.args.least in
    let lent = ap length c.as_slice-counts.ensures.value in
    let over : measured_buckets (drop place codes) (measures_from at place (drop place counts)) ≡ [] = none-behind at codes place counts place (omega (arith, lent, c.min-place-end.ensures, c.loop-place-test.false)) in
    sym (append-nil done) ∙ sym (ap (λ bs. done ++ frequent least bs) over) ∙ c.loop-place.invariant
