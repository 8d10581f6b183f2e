-- The tasks of the searches, their batches, and where the words and slots of a search stand.
-- Elasticsearch Reference 8, 'Search API', `batched_reduce_size`: results of shards are merged in batches.
use Rattle.std.specs.Prelude.{◌≡◌, ℕ, ◌<◌, ◌≤◌, ◌+◌, ◌-◌, ◌*◌, min, nat_lt, length, take, slice_index}
use Rattle.std.specs.List.{sum_by}
use Rattle.arrival_moves.specs.declared.limits.TheConstants.{MAX_TASKS}
use Rattle.arrival_moves.specs.declared.plan.Plan.{Plan}
use Rattle.arrival_moves.specs.Lists.{one_if, times}

abbrev pub task_count : Plan → ℕ
task_count p = length p.tasks

-- the search of the task k
abbrev pub search_of : Plan → ℕ → ℕ
search_of p k = slice_index p.tasks k

-- the number of tasks of the search q
abbrev pub tasks_of : Plan → ℕ → ℕ
tasks_of p q = times q p.tasks

-- how many of the first n tasks are of the search q
abbrev pub drawn_of : Plan → ℕ → ℕ → ℕ
drawn_of p q n = times q (take n p.tasks)

-- the number of tasks of the searches before q
abbrev pub first_of : Plan → ℕ → ℕ
first_of p q = sum_by (λ x. one_if (nat_lt x q)) p.tasks

-- where the result of a search's ticket t stands among the results; also where its batch t stands among the batches
abbrev pub place_of : Plan → ℕ → ℕ → ℕ
place_of p q t = first_of p q + t

-- how many tickets the batch b has among the first n tickets of its search
abbrev pub tickets_in : Plan → ℕ → ℕ → ℕ
tickets_in p b n = min p.batch (n - b * p.batch)

-- the number of tickets of the batch b of the search q; the last batch may be short
abbrev pub batch_size : Plan → ℕ → ℕ → ℕ
batch_size p q b = tickets_in p b (tasks_of p q)

-- what a table is opened with
pub record IsPlan (p : Plan) : Type 0 where
  pub batch : 2 ≤ p.batch
  pub few : task_count p ≤ MAX_TASKS
  pub tasks : (k : ℕ) → k < task_count p → search_of p k < p.searches

-- the places of the searches' tickets are the numbers below the number of tasks, each once
pub record IsLaidOut (p : Plan) : Type 0 where
  pub within : (q t : ℕ) → t < tasks_of p q → place_of p q t < task_count p
  pub apart : (q t r u : ℕ) → t < tasks_of p q → u < tasks_of p r → place_of p q t ≡ place_of p r u → (q ≡ r) × (t ≡ u)
  pub all : (n : ℕ) → n < task_count p → (q : ℕ) × (t : ℕ) × (t < tasks_of p q) × (n ≡ place_of p q t)
