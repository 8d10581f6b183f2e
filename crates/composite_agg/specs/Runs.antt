-- Items in runs of neighbours, so that one that enters moves few others.
use Rattle.std.specs.Prelude.{◌≡◌, ◌<◌, ◌≤◌, ◌+◌, ℕ, List, Vec, length, take, drop, flat_map, IsTrue}
use Rattle.std.specs.List.{slice_index_or, AllByRecursion}
use Rattle.std.specs.declared.alloc.Global.{Global}
use Rattle.agg_model.specs.declared.aggregation.CompositeSource.{CompositeSource}
use Rattle.agg_model.specs.declared.key.Key.{Key}
use Rattle.composite_agg.specs.InOrder.{all_before, all_behind}
use Rattle.composite_agg.specs.declared.runs.Spot.{Spot}

abbrev pub Run : Type 0 → Type 0
Run A = Vec A Global

-- the items of all runs, one run after another
abbrev pub in_runs : {A : Type 0} → List (Run A) → List A
in_runs runs = flat_map (λ run. run.items) runs

-- no run is empty
abbrev pub AreFilled : {A : Type 0} → List (Run A) → Type 0
AreFilled runs = AllByRecursion (λ run. 0 < length run.items) runs

-- the place among all items of one that stands at a place in a run
abbrev pub place_in : {A : Type 0} → List (Run A) → ℕ → ℕ → ℕ
place_in runs run at = length (in_runs (take run runs)) + at

-- an item stands at a place in a run, or would stand there
pub record IsWithin {A : Type 0} (runs : List (Run A)) (run at : ℕ) : Type 0 where
  pub there : run < length runs
  pub fits : (d : Run A) → at ≤ length (slice_index_or runs run d).items

-- the item at a spot has the key
pub record IsSpotOf {A : Type 0} (key : A → Key) (runs : List (Run A)) (k : Key) (s : Spot) : Type 0 where
  pub place : IsWithin runs s.run s.at
  pub there : (d : Run A) → s.at < length (slice_index_or runs s.run d).items
  pub among : place_in runs s.run s.at < length (in_runs runs)
  pub is_key : (d : A) → key (slice_index_or (in_runs runs) (place_in runs s.run s.at) d) ≡ k

-- an item with the key would stand at a spot, and none has it
pub record IsGapFor {A : Type 0} (key : A → Key) (sources : List CompositeSource) (runs : List (Run A)) (k : Key) (s : Spot) : Type 0 where
  pub place : 0 < length runs → IsWithin runs s.run s.at
  pub before : IsTrue (all_before key sources k (take (place_in runs s.run s.at) (in_runs runs)))
  pub behind : IsTrue (all_behind key sources k (drop (place_in runs s.run s.at) (in_runs runs)))
