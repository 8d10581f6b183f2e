use Rattle.std.proofs.Common.{◌+◌, ℕ, List, length, map, take, sym, ◌∙◌, ap, arith, length-append}
use Rattle.std.proofs.lemmas.List.{length-map, take_all}
use Rattle.agg_model.specs.declared.key.Key.TheVariants.{Fixed}
use Rattle.agg_evaluation.specs.Rows.{row_of}
use Rattle.column_query.specs.Prepared.{says}
use Rattle.column_query.specs.declared.prepared.Prepared.{Prepared}
use Rattle.filters_agg.specs.Numbers.{true_places}
use Rattle.filters_agg.proofs.Numbers.{places-hit, places-missed, numbers-some, numbers-alone, count-rest}
use Rattle.filters_agg.proofs.prepared_filters.count.Goals as goal
use Rattle.filters_agg.proofs.prepared_filters.count.Goals.{then-is_match, else-is_match, else-prepared-via-then-prepared+else-count-eq0, else-prepared-via-else-prepared}

pub loop-filter-preserved : goal.loop-filter-preserved
loop-filter-preserved c =
    let rows = c.args.shard.now.rows in
    let items = c.as_slice-filter-items.result.now in
    let i = c.loop-filter.filter-index in
    let holds = λ (q : Prepared). says rows q (row_of rows c.args.row) in
    let x = c.filter-item.result in
    elim c.if-is_match.branch [
      | then-is_match w ↦
          let more = places-hit holds items i x c.loop-filter-test.true c.filter-item.is (sym c.is_match.ensures ∙ w.if-is_match.true) in
          let sum = ap length more ∙ length-append (true_places (map holds (take i items))) _ in
          (w.count-is ∙ (ap (λ (n : ℕ). n + 1) c.loop-filter.invariant.0 ∙ sym sum), omega (arith, w.count-is, c.loop-filter.invariant.1))
      | else-is_match w ↦
          let same = places-missed holds items i x c.loop-filter-test.true c.filter-item.is (sym c.is_match.ensures ∙ w.if-is_match.false) in
          (w.count-is ∙ (c.loop-filter.invariant.0 ∙ sym (ap length same)), omega (arith, w.count-is, c.loop-filter.invariant.1))
    ]

pub returns-then-count-eq0-clause-numbers : goal.returns-then-count-eq0-clause-numbers
returns-then-count-eq0-clause-numbers c =
    let rows = c.args.shard.now.rows in
    let items = c.as_slice-filter-items.result.now in
    let holds = λ (q : Prepared). says rows q (row_of rows c.args.row) in
    let all = take_all c.loop-filter.filter-index items c.loop-filter-test.false ∙ c.as_slice-filter-items.ensures in
    let places = c.loop-filter.invariant.0 ∙ ap (λ (qs : List Prepared). length (true_places (map holds qs))) all in
    count-rest c.args.prepared.now.has_other (map holds c.args.prepared.now.filters) c.if-prepared.true (sym places ∙ c.if-count-eq0.true)

pub returns-else-prepared-clause-numbers : goal.returns-else-prepared-clause-numbers
returns-else-prepared-clause-numbers c =
    let rows = c.args.shard.now.rows in
    let items = c.as_slice-filter-items.result.now in
    let holds = λ (q : Prepared). says rows q (row_of rows c.args.row) in
    let all = take_all c.loop-filter.filter-index items c.loop-filter-test.false ∙ c.as_slice-filter-items.ensures in
    let places = c.loop-filter.invariant.0 ∙ ap (λ (qs : List Prepared). length (true_places (map holds qs))) all in
    let bs = map holds c.args.prepared.now.filters in
    elim c.else-prepared.branch [
      | else-prepared-via-then-prepared+else-count-eq0 w ↦ places ∙ sym (ap length (numbers-some c.args.prepared.now.has_other bs (λ none. w.if-count-eq0.false (places ∙ none))))
      | else-prepared-via-else-prepared w ↦ places ∙ sym (ap length (numbers-alone c.args.prepared.now.has_other bs w.if-prepared.false))
    ]

pub returns-then-count-eq0-clause-keys : goal.returns-then-count-eq0-clause-keys
returns-then-count-eq0-clause-keys c = λ kind ready. returns-then-count-eq0-clause-numbers c ∙ (sym (length-map _ Fixed) ∙ ap length (ready.same c.args.row))

pub returns-else-prepared-clause-keys : goal.returns-else-prepared-clause-keys
returns-else-prepared-clause-keys c = λ kind ready. returns-else-prepared-clause-numbers c ∙ (sym (length-map _ Fixed) ∙ ap length (ready.same c.args.row))
