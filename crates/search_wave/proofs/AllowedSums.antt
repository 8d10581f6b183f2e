-- The most that a wave can lift a breaker to, in its parts: the columns, the bodies, twice the peaks of all tasks, and the responses.
use Rattle.std.specs.Prelude.{◌≡◌, ◌≤◌, ℕ, ◌+◌, ◌*◌, List, [], ◌∷◌, map, sum, sum_by, zip, Option, Some, None, unsigned_abs}
use Rattle.std.proofs.Common.{ap, ◌∙◌, arith}
use Rattle.std.proofs.lemmas.List.Sums.{sum_by-cons}
use Rattle.agg_evaluation.specs.Trace.{peak}
use Rattle.agg_model.specs.declared.aggregation.Search.{Search}
use Rattle.agg_model.specs.declared.breaker.Tripped.{Tripped}
use Rattle.agg_model.specs.declared.outcome.Answered.{Answered}
use Rattle.agg_model.specs.declared.settings.Settings.{Settings}
use Rattle.agg_spec.specs.Index.{Index, rows_in, shard_numbers}
use Rattle.agg_spec.specs.Outcome.{Request as AnyRequest}
use Rattle.agg_spec.specs.Rounds.{response_bytes}
use Rattle.agg_spec.specs.Wave.{body_charge, search_in, task_peaks}
use Rattle.breaker_words.specs.Passes.{WordsModel}
use Rattle.fitting_laws.specs.Indexes.{index_of}
use Rattle.shard_pool.specs.Ends.{over_tasks}
use Rattle.pool_results.specs.Pools.{no_search, peak_at}
use Rattle.shard_columns.specs.declared.index.Index.{Index as ShardIndex}
use Rattle.shard_pool.specs.PoolOf.{pool_of}
use Rattle.wave_bodies.specs.Charged.{charged_for}
use Rattle.wave_bodies.specs.Asking.{AreAsked, IsRunAs}
use Rattle.wave_bodies.specs.declared.asked.Asked.{Asked}
use Rattle.wave_bodies.specs.declared.asked.Asked.TheVariants as asks
use Rattle.search_wave.proofs.AllowedLists.{sum-listed, sum-places}

-- what the task of the shard holds at most, and all tasks of a search
abbrev pub shard_peak : Index → Search → ℕ → ℕ
shard_peak index search shard = unsigned_abs (peak search (rows_in index shard))

abbrev pub search_peaks : Index → Search → ℕ
search_peaks index search = sum_by (shard_peak index search) (shard_numbers index)

-- all tasks of the pool
pub pool-peaks : (words : WordsModel) (index : ShardIndex) (searches : List Search) (ceilings : List ℕ)
    → over_tasks (pool_of words index searches ceilings) (peak_at (pool_of words index searches ceilings)) ≡ sum_by (search_peaks (index_of index)) searches
pool-peaks words index searches ceilings = sum-places (search_peaks (index_of index)) no_search searches

module _ (settings : Settings) (index : Index) (columns : ℕ) where
  -- the most that the body of a request and its tasks hold
  abbrev pub most_for : AnyRequest → ℕ
  most_for r = 2 * r.bytes + 2 * sum (task_peaks index (search_in settings index columns r) (shard_numbers index))

  peaks-run : (r : AnyRequest) (search : Search) → IsRunAs index r search → sum (task_peaks index (search_in settings index columns r) (shard_numbers index)) ≡ search_peaks index search
  peaks-run r search run = ap (λ o. sum (task_peaks index o (shard_numbers index))) (run.runs settings.max_buckets) ∙ sum-listed (shard_peak index search) (shard_numbers index)

  charge-more : (t : Option Tripped) (ts : List (Option Tripped)) (r : AnyRequest) (rs : List AnyRequest)
      → charged_for settings index columns (t ∷ ts) (r ∷ rs) ≡ body_charge settings index columns t r + charged_for settings index columns ts rs
  charge-more t ts r rs = sum_by-cons (λ z. z) (body_charge settings index columns t r) (map (λ p. body_charge settings index columns p.0 p.1) (zip ts rs))

  -- of the first body that is charged, and of those behind it
  pub charge-first : (ts : List (Option Tripped)) (r : AnyRequest) (rs : List AnyRequest) → 2 * r.bytes ≤ charged_for settings index columns (None ∷ ts) (r ∷ rs)
  charge-first ts r rs = let a = charge-more None ts r rs in omega (arith, a)

  pub charge-behind : (t : Option Tripped) (ts : List (Option Tripped)) (r : AnyRequest) (rs : List AnyRequest)
      → charged_for settings index columns ts rs ≤ charged_for settings index columns (t ∷ ts) (r ∷ rs)
  charge-behind t ts r rs = let a = charge-more t ts r rs in omega (arith, a)

  -- the responses that the whole reduction gives beside the failures
  abbrev pub responses : List AnyRequest → List Answered → ℕ
  responses requests answers = sum (map (λ p. response_bytes index settings p.0 p.1.failures) (zip requests answers))

  response-more : (r : AnyRequest) (rs : List AnyRequest) (a : Answered) (answers : List Answered)
      → responses (r ∷ rs) (a ∷ answers) ≡ response_bytes index settings r a.failures + responses rs answers
  response-more r rs a answers = sum_by-cons (λ z. z) (response_bytes index settings r a.failures) (map (λ p. response_bytes index settings p.0 p.1.failures) (zip rs answers))

  pub response-first : (r : AnyRequest) (rs : List AnyRequest) (a : Answered) (answers : List Answered) → response_bytes index settings r a.failures ≤ responses (r ∷ rs) (a ∷ answers)
  response-first r rs a answers = let e = response-more r rs a answers in omega (arith, e)

  pub response-behind : (r : AnyRequest) (rs : List AnyRequest) (a : Answered) (answers : List Answered) → responses rs answers ≤ responses (r ∷ rs) (a ∷ answers)
  response-behind r rs a answers = let e = response-more r rs a answers in omega (arith, e)

  -- the searches that run are those of some requests, in order
  pub asked-most : (rs : List AnyRequest) (ts : List (Option Tripped)) (asked : List Asked) (searches : List Search) → AreAsked index rs ts asked searches
      → charged_for settings index columns ts rs + 2 * sum_by (search_peaks index) searches ≤ sum_by most_for rs
  asked-most [] [] [] [] h = omega arith
  asked-most (r ∷ rs) (Some t ∷ ts) (asks.Tripped u ∷ more) searches h =
      let rest = asked-most rs ts more searches h.1 in let a = charge-more (Some t) ts r rs in let b = sum_by-cons most_for r rs in
      omega (arith, rest, a, b)
  asked-most (r ∷ rs) (None ∷ ts) (asks.Refused x ∷ more) searches h =
      let rest = asked-most rs ts more searches h.1 in let a = charge-more None ts r rs in let b = sum_by-cons most_for r rs in
      omega (arith, rest, a, b)
  asked-most (r ∷ rs) (None ∷ ts) (asks.Runs ∷ more) (search ∷ searches) h =
      let rest = asked-most rs ts more searches h.1 in let a = charge-more None ts r rs in let b = sum_by-cons most_for r rs in
      let here = peaks-run r search h.0 in let all = sum_by-cons (search_peaks index) search searches in
      omega (arith, rest, a, b, here, all)
  asked-most _ _ _ _ h = absurd h
