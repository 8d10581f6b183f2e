-- What a close gives: the merged results, one of each batch, by search and then by number.
-- Elasticsearch Reference 8, 'Search API', `batched_reduce_size`: results of shards are merged in batches.
use Rattle.std.specs.Prelude.{◌≡◌, ℕ, ◌*◌, nat_lt, IsTrue, List, map, length, filter, flat_map, Contains}
use Rattle.arrival_moves.specs.declared.label.Label.{Label}
use Rattle.arrival_moves.specs.declared.plan.Plan.{Plan}
use Rattle.arrival_moves.specs.Fairness.{IsOfSearch}
use Rattle.arrival_moves.specs.Lists.{numbers_from}
use Rattle.arrival_moves.specs.Plans.{tasks_of, batch_size}
use Rattle.arrival_table.specs.declared.table.Merged.{Merged}

-- the numbers of the batches of the search q: those whose first ticket the search has
abbrev pub batch_numbers : Plan → ℕ → List ℕ
batch_numbers p q = filter (λ b. nat_lt (b * p.batch) (tasks_of p q)) (numbers_from 0 (tasks_of p q))

-- the batches of q, and of all searches, each with its search
abbrev pub batches_of : Plan → ℕ → List (ℕ × ℕ)
batches_of p q = map (λ b. (q, b)) (batch_numbers p q)

abbrev pub all_batches : Plan → List (ℕ × ℕ)
all_batches p = flat_map (batches_of p) (numbers_from 0 p.searches)

-- the batch that a merged result is of
abbrev pub batch_of : {R : Type 0} → Merged R → ℕ × ℕ
batch_of m = (m.search, m.batch)

module _ {R : Type 0} (outcome : R → Label) where
  -- it stands for as many tasks as its batch has tickets, all of its search
  abbrev pub IsWholeBatch : Plan → Merged R → Type 0
  IsWholeBatch p m = (length (outcome m.result).tasks ≡ batch_size p m.search m.batch) × IsOfSearch p m.search (outcome m.result)

  -- one of the merged results of its search says failed
  abbrev pub IsBesideFailed : List (Merged R) → Merged R → Type 0
  IsBesideFailed ms m = (n : Merged R) × Contains ms n × (n.search ≡ m.search) × IsTrue (outcome n.result).failed
