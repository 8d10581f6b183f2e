-- The buckets that exist from the start, with nothing in them (Elasticsearch Reference 8, 'Filters aggregation').
use Rattle.std.specs.Prelude.{ℕ, List, map}
use Rattle.agg_model.specs.declared.key.Key.TheVariants.{Fixed}
use Rattle.agg_model.specs.declared.partial.Bucket.{Bucket}
use Rattle.agg_model.specs.declared.partial.Node.{Node}

-- a bucket of each place, with these children
abbrev pub empty_buckets_of : List Node → List ℕ → List Bucket
empty_buckets_of children places = map (λ place. record { key = Fixed place; count = 0; covered = 0; children = children }) places
