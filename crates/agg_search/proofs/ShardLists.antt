-- A shard of an index, as the definitions of answers see it.
use Rattle.std.specs.Prelude.{◌≡◌, ℕ, zero, suc, ◌≤◌, List, [], ◌∷◌, Some, slice_get, slice_index_or}
use Rattle.std.proofs.Common.{◌∙◌, ap, arith}
use Rattle.agg_cost.proofs.Summing.{by-mapping, each-has, one-shard}
use Rattle.agg_model.specs.declared.aggregation.Search.{Search}
use Rattle.breaker_words.specs.declared.view.View.{View}
use Rattle.collect_tree.specs.Room.{HasRoom}
use Rattle.shard_columns.specs.Columns.{Columns}
use Rattle.shard_columns.specs.Index.{rows_by_shard}
use Rattle.shard_columns.specs.declared.index.Index.{Index as ShardIndex}
use Rattle.agg_search.specs.Defined.{CanRun}

pub rows-here : (ss : List Columns) (i : ℕ) (s : Columns) → slice_get ss i ≡ Some s → slice_index_or (rows_by_shard ss) i [] ≡ s.rows
rows-here [] i s e = absurd (let no : ⊥ = cc in no)
rows-here (x ∷ xs) zero s e = let same : x ≡ s = cc in ap (λ (c : Columns). c.rows) same
rows-here (x ∷ xs) (suc i) s e = rows-here xs i s e

-- a pass that holds little has room for each task
pub has-room : (index : ShardIndex) (search : Search) (i : ℕ) (s : Columns) (v : View) → CanRun index search → slice_get index.shards i ≡ Some s
    → v.accounts.parent.hold ≤ 1125899906842624 → v.cap ≡ 9223372036854775808 → HasRoom s search v
has-room index search i s v can at held cap =
    let has = each-has _ search index.shards i s can.ceiling at can.is in
    let low = has.low in
    record {
      ceiling = has.bytes;
      is = by-mapping index.mapping s search (one-shard index.mapping index.shards i s at index.built) ∙ has.is;
      fits = omega arith;
    }
