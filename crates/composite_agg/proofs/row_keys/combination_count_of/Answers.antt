use Rattle.std.proofs.Common.{◌≡◌, ◌∙◌, ◌+◌, ◌*◌, ◌^◌, ◌-◌, sym, ap, arith, length, drop}
use Rattle.std.specs.Prelude.{min}
use Rattle.agg_evaluation.specs.Ceiling.{combination_count}
use Rattle.agg_evaluation.specs.Keys.{source_keys}
use Rattle.agg_evaluation.specs.Rows.{row_of}
use Rattle.composite_agg.proofs.Capped.{capped, one_time, times_times}
use Rattle.composite_agg.proofs.Steps.{drop-at, drop-whole}
use Rattle.composite_agg.proofs.row_keys.combination_count_of.Goals as goal

pub loop-source-init : goal.loop-source-init
loop-source-init c = (ap (λ n. min n (2 ^ 64 - 1)) (one_time (combination_count c.args.sources.now (row_of c.args.shard.now.rows c.args.row))), omega arith)

pub loop-source-preserved : goal.loop-source-preserved
loop-source-preserved c =
    let row = row_of c.args.shard.now.rows c.args.row in
    let i = c.loop-source.source-index in
    let rest = combination_count (drop (i + 1) c.args.sources.now) row in
    let count = c.loop-source.count in
    let n = length (source_keys row c.source-item.result) in
    let product : c.saturating_mul-count.result ≡ min (count * n) (2 ^ 64 - 1) = c.saturating_mul-count.ensures ∙ ap (λ m. min (count * m) (2 ^ 64 - 1)) c.source_key_count.ensures in (
      ap (λ m. min (m * rest) (2 ^ 64 - 1)) product ∙ capped (2 ^ 64 - 1) (count * n) rest
          ∙ ap (λ m. min m (2 ^ 64 - 1)) (times_times count n rest
          ∙ sym (ap (λ ss. count * combination_count ss row) (drop-at c.args.sources.now i c.source-item.result c.loop-source-test.true c.source-item.is)))
          ∙ c.loop-source.invariant.0,
      omega (arith, product),
    )

pub returns : goal.returns
returns c =
    let row = row_of c.args.shard.now.rows c.args.row in
    let last : drop c.loop-source.source-index c.args.sources.now ≡ _ = drop-whole c.args.sources.now c.loop-source.source-index c.loop-source-test.false in
    let all : min (c.loop-source.count * 1) (2 ^ 64 - 1) ≡ min (combination_count c.args.sources.now row) (2 ^ 64 - 1) = sym (ap (λ ss. min (c.loop-source.count * combination_count ss row) (2 ^ 64 - 1)) last) ∙ c.loop-source.invariant.0 in
    let few = c.loop-source.invariant.1 in
    let same : c.loop-source.count ≡ min (c.loop-source.count * 1) (2 ^ 64 - 1) = omega (arith, few) in
    same ∙ all
