use Rattle.std.proofs.Common.{◌≡◌, List, sym, ◌∙◌, subst, refl, arith, Some, None}
use Rattle.std.specs.Prelude.{ℕ, Option, slice_get}
use Rattle.agg_evaluation.specs.Ceiling.{ceiling}
use Rattle.shard_columns.specs.Columns.{Columns}
use Rattle.agg_cost.specs.Searches.{kinds_of}
use Rattle.agg_cost.proofs.Summing.{here, one-shard, is-shard, search-made, by-mapping, ceiling-low, sum-next, none-all}
use Rattle.agg_cost.proofs.searches.search_ceiling.Goals as goal

pub ceiling-requires-clause-built : goal.ceiling-requires-clause-built
ceiling-requires-clause-built c =
    let index = c.args.index.now in
    let items = c.as_slice-shard-items.result.now in
    let at : slice_get items c.loop-shard.shard-index ≡ Some c.shard-item.result = here items c.loop-shard.shard-index c.shard-item.result c.loop-shard-test.true c.shard-item.is in
    is-shard index.mapping c.shard-item.result
    (one-shard index.mapping index.shards c.loop-shard.shard-index c.shard-item.result (subst (λ (xs : List Columns). slice_get xs c.loop-shard.shard-index ≡ Some c.shard-item.result) c.as_slice-shard-items.ensures at) index.built)

pub ceiling-requires-clause-apart : goal.ceiling-requires-clause-apart
ceiling-requires-clause-apart c =
    let items = c.as_slice-shard-items.result.now in
    let at : slice_get items c.loop-shard.shard-index ≡ Some c.shard-item.result = here items c.loop-shard.shard-index c.shard-item.result c.loop-shard-test.true c.shard-item.is in
    c.requires.apart c.loop-shard.shard-index c.shard-item.result (subst (λ (xs : List Columns). slice_get xs c.loop-shard.shard-index ≡ Some c.shard-item.result) c.as_slice-shard-items.ensures at)

pub ceiling-requires-clause-made : goal.ceiling-requires-clause-made
ceiling-requires-clause-made c =
    let index = c.args.index.now in
    let items = c.as_slice-shard-items.result.now in
    let at : slice_get items c.loop-shard.shard-index ≡ Some c.shard-item.result = here items c.loop-shard.shard-index c.shard-item.result c.loop-shard-test.true c.shard-item.is in
    search-made index.mapping c.shard-item.result c.args.search.now c.requires.made
    (one-shard index.mapping index.shards c.loop-shard.shard-index c.shard-item.result (subst (λ (xs : List Columns). slice_get xs c.loop-shard.shard-index ≡ Some c.shard-item.result) c.as_slice-shard-items.ensures at) index.built)

pub returns-in_default : goal.returns-in_default
returns-in_default c =
    let index = c.args.index.now in
    let kinds = kinds_of index.mapping in
    let search = c.args.search.now in
    let i = c.loop-shard.shard-index in
    let s = c.shard-item.result in
    let items = c.as_slice-shard-items.result.now in
    let at : slice_get index.shards i ≡ Some s = subst (λ (xs : List Columns). slice_get xs i ≡ Some s) c.as_slice-shard-items.ensures (here items i s c.loop-shard-test.true c.shard-item.is) in
    let of = one-shard index.mapping index.shards i s at index.built in
    let none : c.in_ok-more.field-0 ≡ None = nothing c.in_ok-more.field-0 c.in_default.not-Some in
    sym (none-all kinds search index.shards i s at (sym (by-mapping index.mapping s search of) ∙ (sym c.in_ok-more.ensures.exact ∙ none)))
  where
    nothing : (o : Option ℕ) → ((n : ℕ) → o ≡ Some n → ⊥) → o ≡ None
    nothing None not = refl
    nothing (Some n) not = absurd (not n refl)

pub loop-shard-preserved : goal.loop-shard-preserved
loop-shard-preserved c =
    let index = c.args.index.now in
    let kinds = kinds_of index.mapping in
    let search = c.args.search.now in
    let i = c.loop-shard.shard-index in
    let s = c.shard-item.result in
    let items = c.as_slice-shard-items.result.now in
    let at : slice_get items i ≡ Some s = here items i s c.loop-shard-test.true c.shard-item.is in
    let of = one-shard index.mapping index.shards i s (subst (λ (xs : List Columns). slice_get xs i ≡ Some s) c.as_slice-shard-items.ensures at) index.built in
    let one : ceiling kinds search s.rows ≡ Some c.in-Some.more = sym (by-mapping index.mapping s search of) ∙ (sym c.in_ok-more.ensures.exact ∙ c.in-Some.is) in
    let bound = ceiling-low kinds search s.rows c.in-Some.more one in
    let before = c.loop-shard.invariant.low in
    record {
      sum = sum-next kinds search items i s at c.loop-shard.bytes c.in-Some.more c.loop-shard.invariant.sum one;
      low = omega arith;
    }
