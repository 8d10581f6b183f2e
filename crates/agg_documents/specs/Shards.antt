-- The documents of each shard among these, in their order.
use Rattle.std.specs.Prelude.{ℕ, List, map, filter, ◌==◌}
use Rattle.std.specs.List.{range_with_len}
use Rattle.agg_model.specs.declared.row.Document.{Document}
use Rattle.agg_reading.specs.Routing.{shard_of}

abbrev pub cut : List Document → ℕ → List (List Document)
cut documents shards = map (λ s. filter (λ d. shard_of d.routing shards == s) documents) (range_with_len 0 shards)
