-- Counters by key, raised one key after another: what `doc_count` comes to where it is counted row by row
-- (Elasticsearch Reference 8, 'Bucket aggregations').
use Rattle.std.specs.Prelude.{ℕ, ◌+◌, List, [], ◌∷◌}
use Rattle.std.specs.Ordering.{match_ordering}
use Rattle.agg_model.specs.declared.key.Key.{Key}
use Rattle.agg_evaluation.specs.KeyOrder.{key_cmp}

-- the counters, ascending by key, with one more of a key
abbrev pub raised : Key → List (Key × ℕ) → List (Key × ℕ)
raised k [] = (k, 1) ∷ []
raised k (c ∷ cs) = match_ordering (key_cmp k c.0) ((k, 1) ∷ c ∷ cs) ((c.0, c.1 + 1) ∷ cs) (c ∷ raised k cs)

-- the counters after one more of each key of the list, from its first on
abbrev pub raised_by : List Key → List (Key × ℕ) → List (Key × ℕ)
raised_by [] cs = cs
raised_by (k ∷ ks) cs = raised_by ks (raised k cs)
