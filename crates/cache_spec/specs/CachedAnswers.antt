-- The answers to the searches of a script by one worker with a shard request cache, and its statistics. What was kept stays through
-- settings lines ('Shard request cache'; 'Nodes stats API', breakers).
use Rattle.std.specs.Prelude.{◌≡◌, ◌⊎◌, ⊤, ℕ, ◌-◌, List, [], ◌∷◌, flat_map, fold, length, take}
use Rattle.cache_spec.specs.declared.shard_search.ShardSearch.{ShardSearch}
use Rattle.agg_model.specs.declared.breaker.Totals.{Totals}
use Rattle.agg_model.specs.declared.outcome.Answered.{Answered}
use Rattle.agg_model.specs.declared.outcome.Outcome.TheVariants as ended
use Rattle.agg_model.specs.declared.settings.Settings.{Settings}
use Rattle.agg_spec.specs.Answers.{Recent}
use Rattle.cache_spec.specs.Cache.{cached_answer, cached_run, given_back}
use Rattle.agg_spec.specs.Charges.{Run}
use Rattle.agg_spec.specs.Index.{Index}
use Rattle.agg_spec.specs.Outcome.{Request}
use Rattle.agg_spec.specs.Rounds.{Round}
use Rattle.agg_spec.specs.Solo.{idle}
use Rattle.agg_spec.specs.Statistics.{totals_after}

-- what a worker has been granted and refused, and the entries that it keeps
pub record Worked : Type 0 where
  pub run : Run
  pub entries : List ShardSearch

module _ (capacity : ℕ) (index : Index) where
  -- at the end of a request all that it holds is given back
  abbrev pub after_cached : Settings → Worked → Request → Worked
  after_cached settings w request =
      let end = cached_run capacity settings index w.run w.entries request in
      (record { run = given_back w.run end.going.run; entries = end.entries })

  abbrev pub after_all_cached : Settings → Worked → List Request → Worked
  after_all_cached settings w requests = fold (after_cached settings) w requests

  module _ (columns : ℕ) where
    -- a worker that has answered nothing since the columns were charged, with these entries
    abbrev pub idle_with : List ShardSearch → Worked
    idle_with entries = record { run = idle columns; entries = entries }

    abbrev pub entries_behind : List ShardSearch → Round → List ShardSearch
    entries_behind entries round = (after_all_cached round.settings (idle_with entries) round.requests).entries

    -- there is one answer, unless memory runs out
    abbrev pub IsCachedAnswer : Settings → List ShardSearch → List Request → List Answered → Type 0
    IsCachedAnswer settings entries (r ∷ []) (a ∷ []) =
        (a ≡ cached_answer capacity settings index (idle columns) entries r) ⊎ (a.outcome ≡ ended.Memory)
    IsCachedAnswer settings entries _ _ = ⊥

    -- rounds one after another, from these entries on
    abbrev pub AreCachedFrom : List ShardSearch → List Round → Type 0
    AreCachedFrom entries [] = ⊤
    AreCachedFrom entries (round ∷ rest) =
        IsCachedAnswer round.settings entries round.requests round.answers × AreCachedFrom (entries_behind entries round) rest

    -- the rounds before the recent ones
    abbrev pub rounds_before : Recent → List Round → List Round
    rounds_before recent rounds = take (length rounds - length recent.rounds) rounds

    -- the totals of the charges since the settings came into force
    abbrev pub cached_totals : Recent → List Round → Totals
    cached_totals recent rounds =
        let entries = fold entries_behind [] (rounds_before recent rounds) in
        let worked = after_all_cached recent.settings (idle_with entries) (flat_map (λ round. round.requests) recent.rounds) in
        totals_after recent.settings index columns worked.run.granted worked.run.trips
