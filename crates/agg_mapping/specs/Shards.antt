-- The number of shards under its two names (Elasticsearch Reference 8, 'Create index API').
use Rattle.std.specs.Prelude.{ℕ, List, Option, Ok, codes}
use Rattle.serde_json.specs.Data.{Members}
use Rattle.agg_reading.specs.Reading.{Reading, ◌>>=◌}
use Rattle.agg_reading.specs.IndexLine.{shards_named}

-- both names of the number among these members
abbrev pub both_numbers : List ℕ → Members → Reading (Option ℕ × Option ℕ)
both_numbers at ms = do
  dotted ← shards_named (codes "index.number_of_shards") at ms
  plain ← shards_named (codes "number_of_shards") at ms
  Ok (dotted, plain)
