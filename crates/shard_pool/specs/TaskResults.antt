-- Results that stand together for each task of some searches on some shards once ('Search API').
use Rattle.std.specs.Prelude.{◌≡◌, ℕ, ◌<◌, ◌+◌, ◌*◌, ◌==◌, List, map, filter, flat_map, sum_by}
use Rattle.std.specs.List.{AllByRecursion}
use Rattle.arrival_moves.specs.Lists.{times}

-- a result is of a search, and of some shards
module _ {X : Type 0} (search : X → ℕ) (shards : X → List ℕ) where
  -- those of the search q
  abbrev pub of_search : ℕ → List X → List X
  of_search q xs = filter (λ x. search x == q) xs

  -- the shards of those, one result after another
  abbrev pub shards_of : ℕ → List X → List ℕ
  shards_of q xs = flat_map shards (of_search q xs)

  -- of m searches on n shards, whose tasks are numbered search by search, each task is there once
  pub record HaveEachTask (m n : ℕ) (xs : List X) : Type 0 where
    pub searches : AllByRecursion (λ x. search x < m) xs
    pub within : AllByRecursion (λ x. AllByRecursion (λ s. s < n) (shards x)) xs
    pub once : (k : ℕ) → k < m * n → sum_by (λ x. times k (map (λ s. search x * n + s) (shards x))) xs ≡ 1
