use Rattle.std.proofs.Common.{◌≡◌, ◌+◌, ◌∙◌, sym, ap, subst}
use Rattle.std.specs.Prelude.{ℕ, max, length, Option, Some, None, IfSome}
use Rattle.std.specs.Option.{SomeIff}
use Rattle.std.proofs.lemmas.Option.{IfSome_then}
use Rattle.agg_model.specs.declared.aggregation.Kind.{Kind}
use Rattle.agg_cost.specs.Widths.{HasKeysAtMost}
use Rattle.agg_cost.proofs.KeyNumbers.{few-composite, few-terms, few-starts, few-periods, few-filters}
use Rattle.agg_cost.proofs.width.most_keys.Goals as goal

pub returns-in-Terms : goal.returns-in-Terms
returns-in-Terms c =
    let rows = c.args.shard.now.rows in
    let k = c.in-Terms in
    let most : max c.most_values.result 1 ≡ c.max.result = sym (c.max.ensures ∙ ap (λ (n : ℕ). max n 1) c.from.ensures) in
    subst (λ (n : ℕ). HasKeysAtMost n c.args.kind.now rows) most (subst (λ (kind : Kind). HasKeysAtMost (max c.most_values.result 1) kind rows) (sym k.is)
    (few-terms rows k.field k.size k.shard_size k.min_doc_count k.order k.include k.exclude k.missing k.show_error c.most_values.result (λ i low. c.most_values.ensures.each i)))

pub returns-in-Histogram : goal.returns-in-Histogram
returns-in-Histogram c =
    let rows = c.args.shard.now.rows in
    let k = c.in-Histogram in
    let values = c.most_values-in-Histogram in
    let most : max values.result 1 ≡ c.max-in-Histogram.result = sym (c.max-in-Histogram.ensures ∙ ap (λ (n : ℕ). max n 1) c.from-in-Histogram.ensures) in
    subst (λ (n : ℕ). HasKeysAtMost n c.args.kind.now rows) most (subst (λ (kind : Kind). HasKeysAtMost (max values.result 1) kind rows) (sym k.is)
    (few-starts rows k.field k.interval k.offset k.min_doc_count k.extended k.hard k.keyed k.order k.missing values.result (λ i low. values.ensures.each i)))

pub returns-in-DateHistogram : goal.returns-in-DateHistogram
returns-in-DateHistogram c =
    let rows = c.args.shard.now.rows in
    let k = c.in-DateHistogram in
    let values = c.most_values-in-DateHistogram in
    let most : max values.result 1 ≡ c.max-in-DateHistogram.result = sym (c.max-in-DateHistogram.ensures ∙ ap (λ (n : ℕ). max n 1) c.from-in-DateHistogram.ensures) in
    subst (λ (n : ℕ). HasKeysAtMost n c.args.kind.now rows) most (subst (λ (kind : Kind). HasKeysAtMost (max values.result 1) kind rows) (sym k.is)
    (few-periods rows k.field k.period k.zone k.min_doc_count k.extended k.hard k.keyed k.order k.missing values.result (λ i low. values.ensures.each i)))

pub returns-in-Filters : goal.returns-in-Filters
returns-in-Filters c =
    let rows = c.args.shard.now.rows in
    let k = c.in-Filters in
    by_sum (λ most. HasKeysAtMost most c.args.kind.now rows) _ _ c.checked_add.result c.checked_add.ensures
    (subst (λ (n : ℕ). HasKeysAtMost (n + 1) c.args.kind.now rows) (sym c.len.ensures)
    (subst (λ (kind : Kind). HasKeysAtMost (length k.filters + 1) kind rows) (sym k.is) (few-filters rows k.names k.filters k.other)))
  where
    by_sum : (P : ℕ → Type 0) (Q : Type 0) (n : ℕ) (o : Option ℕ) → SomeIff o Q n → P n → IfSome o P
    by_sum P Q n (Some m) sum holds = subst P (sym sum.1) holds
    by_sum P Q n None sum holds = tt

pub returns-in-Composite : goal.returns-in-Composite
returns-in-Composite c =
    let rows = c.args.shard.now.rows in
    let k = c.in-Composite in
    IfSome_then c.most_combinations.result c.most_combinations.ensures (λ most few. subst (λ (kind : Kind). HasKeysAtMost most kind rows) (sym k.is) (few-composite rows k.sources k.size k.after most few))
