use Rattle.std.proofs.Common.{sym, ◌∙◌, ap, arith, ◌≡◌, ◌<◌, ◌≤◌, ◌++◌, ◌∷◌, [], length, map, take}
use Rattle.std.proofs.Math.Seq.{map-set_same}
use Rattle.std.proofs.lemmas.List.{length-map, length-set}
use Rattle.std.proofs.lemmas.Option.{slice_get-map}
use Rattle.std.specs.Prelude.{Some, option_map, slice_get}
use Rattle.list_laws.proofs.Lists.{map-append}
use Rattle.growing_tree.specs.Measures.{metrics_at, no_values, taken_at}
use Rattle.growing_tree.proofs.Children.{take-full}
use Rattle.growing_tree.proofs.MeasuredBuckets.{some-item}
use Rattle.growing_tree.proofs.Steps.{item-at, take-more}
use Rattle.growing_tree.proofs.measured.begin_in_columns.Goals as goal

pub loop-child-preserved : goal.loop-child-preserved
loop-child-preserved c =
    let child = c.loop-child.child in
    let place = c.args.place in
    let old = c.args.columns.now.items in
    let columns = c.loop-child.columns.items in
    let column = c.index_mut.result.now in
    let more = c.begin_in_column.new.column in
    let begun = c.in_ok-begin_in_column.ensures in
    let many = c.loop-child.invariant.many in
    let within : child < length old = omega (arith, c.loop-child-test.true, c.len-child-end.ensures, c.args.columns.now.ok) in
    let there : child < length columns = omega (arith, within, many) in
    let column_is = item-at columns child column there c.index_mut.ensures.value in
    let empty : slice_get (metrics_at old place) child ≡ Some no_values =
    ap (λ ms. slice_get ms child) (sym (c.loop-child.invariant.same place)) ∙ slice_get-map (λ column. taken_at column place) columns child ∙ ap (option_map (λ column. taken_at column place)) column_is ∙ ap Some begun.here in
    let one = some-item old child within in
    (record {
      here = take-more (metrics_at old place) child no_values empty ∙ ap (λ ms. ms ++ no_values ∷ []) c.loop-child.invariant.here
          ∙ sym (ap (map (λ column. no_values)) (take-more old child one.0 one.1) ∙ map-append (λ column. no_values) (take child old) (one.0 ∷ []));
      same = λ n. map-set_same (λ column. taken_at column n) columns child more column (begun.same n ∙ ap (λ x. taken_at x n) c.index_mut.ensures.value) ∙ c.loop-child.invariant.same n;
      many = length-set columns child more ∙ many;
    })

pub returns-clause-here : goal.returns-clause-here
returns-clause-here c =
    let child = c.loop-child.child in
    let old = c.args.columns.now.items in
    let place = c.args.place in
    let all = length-map old (λ column. taken_at column place) in
    let over : length old ≤ child = omega (arith, c.loop-child-test.false, c.len-child-end.ensures, c.args.columns.now.ok) in
    sym (take-full (metrics_at old place) child (omega (arith, all, c.loop-child-test.false, c.len-child-end.ensures, c.args.columns.now.ok))) ∙ c.loop-child.invariant.here ∙ ap (map (λ column. no_values)) (take-full old child over)
