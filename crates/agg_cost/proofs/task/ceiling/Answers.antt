use Rattle.std.proofs.Common.{◌<◌, List, length, get_or, sym, ◌∙◌, ap, subst, Bool}
use Rattle.std.specs.List.{list_any}
use Rattle.agg_model.specs.declared.aggregation.Agg.{Agg, out-Agg}
use Rattle.agg_evaluation.specs.Ceiling.{ceiling_by, is_wide_at}
use Rattle.agg_cost.specs.Capped.{capped}
use Rattle.agg_cost.specs.Paths.{reached_by}
use Rattle.filters_agg.proofs.MadeAggs.{kind-made}
use Rattle.agg_cost.proofs.NodeSums.{ceiling-by-nodes}
use Rattle.agg_cost.proofs.Totals.{bytes_of, is_wide_agg, query-made, agg-made, same-rows, one-bytes, total-more, none-more, one-wide, whole-ceiling}
use Rattle.agg_cost.proofs.task.ceiling.Goals as goal

pub matched_roots-requires : goal.matched_roots-requires
matched_roots-requires c = query-made c.args.shard.now c.args.search.now c.requires.made

pub is_wide-requires-clause-made : goal.is_wide-requires-clause-made
is_wide-requires-clause-made c =
    let shard = c.args.shard.now in
    let search = c.args.search.now in
    let i = c.loop-agg.agg-index in
    let agg = c.agg-item.result in
    let aggs = c.as_slice-agg-items.ensures in
    kind-made shard agg (agg-made shard search i agg c.requires.made (subst (λ (xs : List Agg). i < length xs) aggs c.loop-agg-test.true) (c.agg-item.is ∙ ap (λ (xs : List Agg). get_or xs i agg) aggs))

pub collected_bytes-requires-clause-made : goal.collected_bytes-requires-clause-made
collected_bytes-requires-clause-made c =
    let shard = c.args.shard.now in
    let search = c.args.search.now in
    let i = c.loop-agg.agg-index in
    let agg = c.agg-item.result in
    let aggs = c.as_slice-agg-items.ensures in
    agg-made shard search i agg c.requires.made (subst (λ (xs : List Agg). i < length xs) aggs c.loop-agg-test.true) (c.agg-item.is ∙ ap (λ (xs : List Agg). get_or xs i agg) aggs)

pub returns-then-is_wide : goal.returns-then-is_wide
returns-then-is_wide c =
    let kinds = c.args.shard.now.kinds in
    let rows = c.args.shard.now.rows in
    let search = c.args.search.now in
    let i = c.loop-agg.agg-index in
    let agg = c.agg-item.result in
    let items = c.as_slice-agg-items.result.now in
    let same = same-rows rows c.as_slice.result.now _ (ap (reached_by rows) c.as_slice.ensures.value ∙ c.in_ok-matched.ensures.roots) in
    let here = sym (c.is_wide.ensures ∙ ap (is_wide_at (out-Agg agg).kind) same) ∙ c.if-is_wide.true in
    let wide = sym (ap (list_any (is_wide_agg rows search)) c.as_slice-agg-items.ensures) ∙ one-wide (is_wide_agg rows search) items i agg c.loop-agg-test.true c.agg-item.is here in
    let exact = sym (ap (λ (b : Bool). ceiling_by b kinds search rows) wide) in
    record { exact = exact; by_nodes = exact ∙ ceiling-by-nodes kinds search rows }

pub loop-agg-preserved : goal.loop-agg-preserved
loop-agg-preserved c =
    let kinds = c.args.shard.now.kinds in
    let rows = c.args.shard.now.rows in
    let search = c.args.search.now in
    let i = c.loop-agg.agg-index in
    let agg = c.agg-item.result in
    let items = c.as_slice-agg-items.result.now in
    let same = same-rows rows c.as_slice.result.now _ (ap (reached_by rows) c.as_slice.ensures.value ∙ c.in_ok-matched.ensures.roots) in
    let narrow = sym (c.is_wide.ensures ∙ ap (is_wide_at (out-Agg agg).kind) same) ∙ c.if-is_wide.false in
    let reached = ap (reached_by rows) c.as_slice-in-loop-agg.ensures.value ∙ c.in_ok-matched.ensures.roots in
    let bytes = c.in_ok-collected_bytes.ensures ∙ ap capped (one-bytes rows kinds search agg c.as_slice-in-loop-agg.result.now reached) in (
      total-more (bytes_of kinds rows search) items i agg c.loop-agg.bytes c.in_ok-collected_bytes.field-0 c.saturating_add-bytes.result c.loop-agg-test.true c.agg-item.is c.loop-agg.invariant.0 bytes c.saturating_add-bytes.ensures,
      none-more (is_wide_agg rows search) items i agg c.loop-agg-test.true c.agg-item.is c.loop-agg.invariant.1 narrow,
    )

pub returns : goal.returns
returns c =
    let kinds = c.args.shard.now.kinds in
    let rows = c.args.shard.now.rows in
    let search = c.args.search.now in
    let exact =
    c.within_greatest.ensures
    ∙ whole-ceiling kinds rows search c.as_slice-agg-items.result.now c.loop-agg.agg-index c.loop-agg.bytes c.saturating_mul.result c.as_slice-agg-items.ensures c.loop-agg-test.false c.loop-agg.invariant.0 c.loop-agg.invariant.1 c.saturating_mul.ensures
    in
    record { exact = exact; by_nodes = exact ∙ ceiling-by-nodes kinds search rows }
