use Rattle.std.proofs.Common.{List, ℕ, ◌∙◌, sym, ap, arith, ◌-◌, ◌+◌, ◌/◌, ◌<◌, ◌≤◌}
use Rattle.std.specs.Ordering.{is_lt}
use Rattle.shard_columns.specs.Bounds.{is_before}
use Rattle.shard_columns.proofs.Searching.{narrowed-none, narrowed-low, narrowed-high, narrowed-all}
use Rattle.shard_columns.proofs.search.count_before.Goals as goal

pub loop-start-init : goal.loop-start-init
loop-start-init c = narrowed-none c.args.words.now c.args.word.now c.len-end.result c.len-end.ensures

pub loop-start-preserved-then-is_lt : goal.loop-start-preserved-then-is_lt
loop-start-preserved-then-is_lt c =
    let start = c.loop-start.start in
    let end = c.loop-start.end in
    let middle = start + (end - start) / 2 in
    let below : middle < end = omega (arith, c.loop-start-test.true) in
    narrowed-low c.args.words.now c.args.word.now c.get.result.now start end middle c.requires c.loop-start.invariant below c.get.ensures
    (ap (λ (v : List ℕ). is_before v c.args.word.now) (sym c.as_bytes.ensures.value) ∙ (ap is_lt (sym c.cmp.ensures) ∙ (sym c.is_lt.ensures ∙ c.if-is_lt.true)))

pub loop-start-preserved : goal.loop-start-preserved
loop-start-preserved c =
    let start = c.loop-start.start in
    let end = c.loop-start.end in
    let middle = start + (end - start) / 2 in
    let below : middle < end = omega (arith, c.loop-start-test.true) in
    let from : start ≤ middle = omega arith in
    narrowed-high c.args.words.now c.args.word.now c.get.result.now start end middle c.requires c.loop-start.invariant from below c.get.ensures
    (ap (λ (v : List ℕ). is_before v c.args.word.now) (sym c.as_bytes.ensures.value) ∙ (ap is_lt (sym c.cmp.ensures) ∙ (sym c.is_lt.ensures ∙ c.if-is_lt.false)))

pub returns-clause-before : goal.returns-clause-before
returns-clause-before c = narrowed-all c.args.words.now c.args.word.now c.loop-start.start c.loop-start.end c.loop-start.invariant c.loop-start-test.false
