-- The rows that an aggregation counts, and those of one bucket (Elasticsearch Reference 8, 'Nested', 'Reverse nested' and
-- 'Global aggregation').
use Rattle.std.specs.Prelude.{ℕ, List, filter, flat_map, length, sum_by}
use Rattle.agg_model.specs.declared.key.Key.{Key}
use Rattle.agg_model.specs.declared.aggregation.Kind.{Kind}
use Rattle.agg_evaluation.specs.Profile.{Steps, profile}
use Rattle.agg_evaluation.specs.KeyOrder.{has_key}
use Rattle.agg_evaluation.specs.Rows.{PlacedRow, beneath, enclosing, roots}
use Rattle.agg_evaluation.specs.Keys.{keys, distinct_keys}

-- What an aggregation counts of the rows that it is handed: `all` are the rows of the shard, and `roots` those that a global
-- aggregation counts. A nested aggregation goes down to the rows of a context, a reverse nested one up to them.
abbrev pub under : List PlacedRow → List PlacedRow → Kind → List PlacedRow → List PlacedRow
under all roots k rows = elim (profile k).steps [
  | Steps.same ↦ rows
  | Steps.down context ↦ flat_map (beneath all context) rows
  | Steps.up context ↦ enclosing all context rows
  | Steps.all_roots ↦ roots
]

-- the counted rows that have the key; the count of a bucket is their number
abbrev pub group : List PlacedRow → Kind → List PlacedRow → Key → List PlacedRow
group all kind counted key = filter (λ row. has_key key (keys all kind row)) counted

-- the keys of the counted rows, each once and ascending
abbrev pub all_keys : List PlacedRow → Kind → List PlacedRow → List Key
all_keys all kind counted = distinct_keys (flat_map (keys all kind) counted)

-- how many keys the counted rows have, all together
abbrev pub total_key_count : List PlacedRow → Kind → List PlacedRow → ℕ
total_key_count all kind counted = sum_by (λ row. length (keys all kind row)) counted
