use Rattle.std.proofs.Common.{◌≡◌, List, sym, ◌∙◌, subst, ap}
use Rattle.std.specs.Prelude.{ℕ, Option, IfOk}
use Rattle.agg_evaluation.specs.Ceiling.{ceiling}
use Rattle.agg_evaluation.specs.Rows.{PlacedRow}
use Rattle.agg_cost.specs.Searches.{kinds_of}
use Rattle.agg_cost.proofs.EachTask.{at-place, rows-at}
use Rattle.agg_cost.proofs.Summing.{one-shard, is-shard, search-made, by-mapping}
use Rattle.agg_cost.proofs.searches.ceiling_at.Goals as goal

pub ceiling-requires-clause-built : goal.ceiling-requires-clause-built
ceiling-requires-clause-built c =
    let index = c.args.index.now in
    let shard = c.index-as_slice-place.result in
    let at = at-place index.shards c.as_slice.result.now c.args.place shard c.as_slice.ensures c.requires.in_range c.index-as_slice-place.is in
    is-shard index.mapping shard (one-shard index.mapping index.shards c.args.place shard at index.built)

pub ceiling-requires-clause-apart : goal.ceiling-requires-clause-apart
ceiling-requires-clause-apart c =
    let index = c.args.index.now in
    let shard = c.index-as_slice-place.result in
    c.requires.apart c.args.place shard (at-place index.shards c.as_slice.result.now c.args.place shard c.as_slice.ensures c.requires.in_range c.index-as_slice-place.is)

pub ceiling-requires-clause-made : goal.ceiling-requires-clause-made
ceiling-requires-clause-made c =
    let index = c.args.index.now in
    let shard = c.index-as_slice-place.result in
    let at = at-place index.shards c.as_slice.result.now c.args.place shard c.as_slice.ensures c.requires.in_range c.index-as_slice-place.is in
    search-made index.mapping shard c.args.search.now c.requires.made (one-shard index.mapping index.shards c.args.place shard at index.built)

pub returns : goal.returns
returns c =
    let index = c.args.index.now in
    let shard = c.index-as_slice-place.result in
    let at = at-place index.shards c.as_slice.result.now c.args.place shard c.as_slice.ensures c.requires.in_range c.index-as_slice-place.is in
    let of = one-shard index.mapping index.shards c.args.place shard at index.built in
    subst (λ (o : Option ℕ). IfOk c.ceiling.result (λ found. found ≡ o))
    (by-mapping index.mapping shard c.args.search.now of ∙ ap (λ (rows : List PlacedRow). ceiling (kinds_of index.mapping) c.args.search.now rows) (sym (rows-at index.shards c.args.place shard at)))
    c.ceiling.ensures.exact
