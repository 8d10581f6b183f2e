-- The amounts that a task charges and gives back, row by row, and what they come to (Elasticsearch Reference 8, 'Circuit
-- breaker settings': the request circuit breaker).
use Rattle.std.specs.Prelude.{ℕ, ℤ, pos, negsuc, ◌+◌, not, List, [], ◌∷◌, filter, length, map, take}
use Rattle.std.specs.Ordering.{int_eq}
use Rattle.agg_model.specs.declared.aggregation.Search.{Search}
use Rattle.agg_evaluation.specs.Cost.{cost}
use Rattle.agg_evaluation.specs.Rows.{PlacedRow}
use Rattle.agg_evaluation.specs.Shard.{shard_answer}
use Rattle.agg_evaluation.specs.Trace.{built_costs, differences, global_roots, matched, task_overhead}

-- how many rows a task collects
abbrev pub row_count : Search → List PlacedRow → ℕ
row_count search all = length (matched search all) + length (global_roots search all)

-- one amount for the empty tree, one for each collected row, and one for the end
abbrev pub amounts : Search → List PlacedRow → List ℤ
amounts search all =
    differences 0 (map (λ c. task_overhead + c) (built_costs search all)) (cost (shard_answer search all))

-- the amounts that are charged or given back
abbrev pub without_zeros : List ℤ → List ℤ
without_zeros = filter (λ n. not (int_eq n (pos 0)))

-- the sum of what is charged
abbrev pub charged : List ℤ → ℕ
charged [] = 0
charged (pos n ∷ ns) = n + charged ns
charged (negsuc n ∷ ns) = charged ns

-- the sum of what is charged before a place
abbrev pub granted_before : List ℤ → ℕ → ℕ
granted_before ns place = charged (take place ns)

-- the place at which an amount stands once the zeros before it are left out
abbrev pub place_without_zeros : List ℤ → ℕ → ℕ
place_without_zeros ns place = length (without_zeros (take place ns))
