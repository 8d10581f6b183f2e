-- What became of the tasks of one search, as far as its results were joined ('Search API': `allow_partial_search_results`).
use Rattle.std.specs.Prelude.{◌≡◌, ℕ, ◌+◌, ◌<◌, Bool, true, false, ◌||◌, List, [], ◌∷◌, ◌++◌, flat_map, length, sum_by, option_to_list, is_some, if◌then◌else◌, slice_index_or, slice_set, Option, None}
use Rattle.std.specs.List.{AllByRecursion}
use Rattle.agg_evaluation.specs.Cost.{cost}
use Rattle.agg_model.specs.declared.breaker.Tripped.{Tripped}
use Rattle.agg_model.specs.declared.outcome.Failure.{Failure}
use Rattle.agg_model.specs.declared.partial.Partial.{Partial}
use Rattle.agg_spec.specs.Charges.{or_else}
use Rattle.shard_pool.specs.Closed.{works_of}
use Rattle.pool_results.specs.Runs.{failures_in}
use Rattle.pool_results.specs.declared.work.Work.{Work}
use Rattle.shard_pool.specs.declared.gathered.Gathered.{Gathered}

-- nothing yet
abbrev pub no_results : Gathered
no_results = record { parts = []; refused = None; memory = false; failures = []; held = 0 }

-- the search has no result any more
abbrev pub is_stopped : Gathered → Bool
is_stopped g = is_some g.refused || g.memory

-- what is held for results that are let go
abbrev pub lost : Gathered → ℕ
lost g = if is_stopped g then g.held else 0

-- some items, and maybe others after them, are all
abbrev pub IsFront : {A : Type 0} → List A → List A → Type 0
IsFront {A} some all = (others : List A) × (some ++ others ≡ all)

-- a result was joined, for which so many bytes are held: it is all there, or memory ran out
pub record IsAdded (w : Work) (bytes : ℕ) (old new : Gathered) : Type 0 where
  pub refused : new.refused ≡ or_else old.refused w.refused
  pub held : new.held ≡ old.held + bytes
  pub memory : new.memory ≡ false → (old.memory || w.memory) ≡ false
  pub parts : new.memory ≡ false → new.parts ≡ old.parts ++ option_to_list w.part
  pub failures : new.memory ≡ false → new.failures ≡ old.failures ++ failures_in w.runs
  pub front : IsFront new.failures (old.failures ++ failures_in w.runs)
  pub kept : (old.memory || w.memory) ≡ true → new.failures ≡ old.failures

-- it was joined to those of its search
abbrev pub IsAddedAt : Work → ℕ → List Gathered → List Gathered → Type 0
IsAddedAt w bytes old new = (g : Gathered) × IsAdded w bytes (slice_index_or old w.search no_results) g × (new ≡ slice_set old w.search g)

-- the first refusal that ended the search
abbrev pub first_refusal : List Work → Option Tripped
first_refusal [] = None
first_refusal (w ∷ ws) = or_else w.refused (first_refusal ws)

-- what the part of a result costs
abbrev pub bytes_of : Work → ℕ
bytes_of w = sum_by cost (option_to_list w.part)

abbrev pub parts_in : List Work → List Partial
parts_in ws = flat_map (λ (w : Work). option_to_list w.part) ws

abbrev pub all_failures : List Work → List Failure
all_failures ws = flat_map (λ (w : Work). failures_in w.runs) ws

-- these results were joined, unless memory ran out
pub record IsGathered (ws : List Work) (g : Gathered) : Type 0 where
  pub refused : g.refused ≡ first_refusal ws
  pub held : g.held ≡ sum_by bytes_of ws
  pub memory : g.memory ≡ false → AllByRecursion (λ (w : Work). w.memory ≡ false) ws
  pub parts : g.memory ≡ false → g.parts ≡ parts_in ws
  pub failures : g.memory ≡ false → g.failures ≡ all_failures ws
  pub front : IsFront g.failures (all_failures ws)

-- for each of n searches, its results were
pub record AreGathered (n : ℕ) (ws : List Work) (gs : List Gathered) : Type 0 where
  pub number : length gs ≡ n
  pub each : (q : ℕ) → q < n → IsGathered (works_of q ws) (slice_index_or gs q no_results)
