use Rattle.std.proofs.Common.{◌+◌, ℕ, List, length, map, take, sym, ◌∙◌, ap, arith, length-append}
use Rattle.std.proofs.lemmas.List.{take_all}
use Rattle.agg_model.specs.declared.query.Query.{Query}
use Rattle.agg_evaluation.specs.Matching.{matches}
use Rattle.agg_evaluation.specs.Rows.{row_of}
use Rattle.filters_agg.specs.Numbers.{true_places}
use Rattle.filters_agg.proofs.Numbers.{places-hit, places-missed, numbers-some, numbers-alone, count-rest}
use Rattle.filters_agg.proofs.row_keys.count_of_filters.Goals as goal
use Rattle.filters_agg.proofs.row_keys.count_of_filters.Goals.{then-matches, else-matches, else-has_other-via-then-has_other+else-count-eq0, else-has_other-via-else-has_other}

pub loop-filter-preserved : goal.loop-filter-preserved
loop-filter-preserved c =
    let rows = c.args.shard.now.rows in
    let items = c.as_slice-filter-items.result.now in
    let i = c.loop-filter.filter-index in
    let holds = λ (q : Query). matches rows q (row_of rows c.args.row) in
    let x = c.filter-item.result in
    elim c.if-matches.branch [
      | then-matches w ↦
          let more = places-hit holds items i x c.loop-filter-test.true c.filter-item.is (sym c.matches.ensures ∙ w.if-matches.true) in
          let sum = ap length more ∙ length-append (true_places (map holds (take i items))) _ in
          (w.count-is ∙ (ap (λ (n : ℕ). n + 1) c.loop-filter.invariant.0 ∙ sym sum), omega (arith, w.count-is, c.loop-filter.invariant.1))
      | else-matches w ↦
          let same = places-missed holds items i x c.loop-filter-test.true c.filter-item.is (sym c.matches.ensures ∙ w.if-matches.false) in
          (w.count-is ∙ (c.loop-filter.invariant.0 ∙ sym (ap length same)), omega (arith, w.count-is, c.loop-filter.invariant.1))
    ]

pub returns-then-count-eq0 : goal.returns-then-count-eq0
returns-then-count-eq0 c =
    let rows = c.args.shard.now.rows in
    let items = c.as_slice-filter-items.result.now in
    let holds = λ (q : Query). matches rows q (row_of rows c.args.row) in
    let all = take_all c.loop-filter.filter-index items c.loop-filter-test.false ∙ c.as_slice-filter-items.ensures in
    let places = c.loop-filter.invariant.0 ∙ ap (λ (qs : List Query). length (true_places (map holds qs))) all in
    count-rest c.args.has_other (map holds c.args.filters.now) c.if-has_other.true (sym places ∙ c.if-count-eq0.true)

pub returns-else-has_other : goal.returns-else-has_other
returns-else-has_other c =
    let rows = c.args.shard.now.rows in
    let items = c.as_slice-filter-items.result.now in
    let holds = λ (q : Query). matches rows q (row_of rows c.args.row) in
    let all = take_all c.loop-filter.filter-index items c.loop-filter-test.false ∙ c.as_slice-filter-items.ensures in
    let places = c.loop-filter.invariant.0 ∙ ap (λ (qs : List Query). length (true_places (map holds qs))) all in
    let bs = map holds c.args.filters.now in
    elim c.else-has_other.branch [
      | else-has_other-via-then-has_other+else-count-eq0 w ↦ places ∙ sym (ap length (numbers-some c.args.has_other bs (λ none. w.if-count-eq0.false (places ∙ none))))
      | else-has_other-via-else-has_other w ↦ places ∙ sym (ap length (numbers-alone c.args.has_other bs w.if-has_other.false))
    ]
