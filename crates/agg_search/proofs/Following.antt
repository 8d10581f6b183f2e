-- Steps of a search one after another, with what is kept, and what no longer changes once a breaker has ended it.
use Rattle.std.specs.Prelude.{◌≡◌, refl, ℕ, Bool, List, [], ◌∷◌, ◌++◌, Some}
use Rattle.std.proofs.Common.{◌∙◌, sym, ap, subst}
use Rattle.agg_model.specs.declared.aggregation.Search.{Search}
use Rattle.cache_spec.specs.declared.shard_search.ShardSearch.{ShardSearch}
use Rattle.agg_model.specs.declared.breaker.Limits.{Limits}
use Rattle.agg_model.specs.declared.breaker.Tripped.{Tripped}
use Rattle.cache_spec.specs.Cache.{Cached, after_cached_batches, after_cached_task, after_cached_tasks, after_kept_task, entry_of, is_kept, on_going, unless_stopped}
use Rattle.agg_spec.specs.Charges.{run}
use Rattle.agg_spec.specs.Reduction.{Going, Task, after_batch, after_last, merge_steps, merged, unless_ended}
use Rattle.breaker_words.specs.declared.view.View.{View}
use Rattle.agg_search.specs.Progressing.{IsAt, IsStopped, Follows, StopsIn, cached_at}
use Rattle.agg_search.specs.declared.progress.Progress.{Progress}

abbrev pub Step : Type 0
Step = Cached → Cached

abbrev Entries : Type 0
Entries = List ShardSearch

module _ (f g : Step) (v w u : View) (old middle now : Progress) (kept between keeps : Entries) where
  pub follow-then : Follows f v old kept w middle between → Follows g w middle between u now keeps → Follows (λ c. g (f c)) v old kept u now keeps
  follow-then first second before r stands =
      let one = first before r stands in
      let two = second before (f (cached_at r old kept)).going.run one.stands in
      subst (λ c. IsAt before u (g c) now keeps) (sym one.is) two

  pub stop-then : (t : Tripped) → Follows f v old kept w middle between → StopsIn g w middle between u now keeps t → StopsIn (λ c. g (f c)) v old kept u now keeps t
  stop-then t first second before r stands =
      let one = first before r stands in
      let two = second before (f (cached_at r old kept)).going.run one.stands in
      subst (λ c. IsStopped before u (g c) now.failures keeps t) (sym one.is) two

-- a step that does nothing once a breaker has ended the search
abbrev pub IsInert : Step → Type 0
IsInert g = (c : Cached) (t : Tripped) → c.going.run.refused ≡ Some t → g c ≡ c

pub stopped-stays : (f g : Step) (v u : View) (old now : Progress) (kept keeps : Entries) (t : Tripped) → IsInert g → StopsIn f v old kept u now keeps t
    → StopsIn (λ c. g (f c)) v old kept u now keeps t
stopped-stays f g v u old now kept keeps t inert stops before r stands =
    let one = stops before r stands in
    subst (λ c. IsStopped before u c now.failures keeps t) (sym (inert (f (cached_at r old kept)) t one.ended.refused)) one

module _ (capacity : ℕ) (limits : Limits) (search : Search) where
  unless-inert : (next going : Going) (t : Tripped) → going.run.refused ≡ Some t → unless_ended going.run.refused next going ≡ going
  unless-inert next going t e = ap (λ o. unless_ended o next going) e

  pub task-inert : (task : Task) → IsInert (λ c. after_cached_task capacity limits search c task)
  task-inert task c t e =
      ap (λ o. unless_stopped o (after_kept_task capacity limits search (is_kept (entry_of search task.shard) c.entries) c task) c) e

  -- a step that uses no entry
  going-inert : (f : Going → Going) → ((going : Going) (t : Tripped) → going.run.refused ≡ Some t → f going ≡ going) → IsInert (on_going f)
  going-inert f inert c t e = ap (λ g. record c { going = g }) (inert c.going t e)

  pub batch-inert : IsInert (on_going (after_batch limits search))
  batch-inert = going-inert (after_batch limits search) (λ going t e.
      unless-inert (record going { run = run limits going.run (merge_steps limits search going.batch); batch = []; results = going.results ++ merged limits search going.batch }) going t e)

  pub last-inert : IsInert (on_going (after_last limits search))
  last-inert = going-inert (after_last limits search) (λ going t e.
      unless-inert (record going { run = run limits going.run (merge_steps limits search going.results); results = merged limits search going.results }) going t e)

  pub tasks-inert : (tasks : List Task) → IsInert (λ c. after_cached_tasks capacity limits search c tasks)
  tasks-inert [] c t e = refl
  tasks-inert (task ∷ rest) c t e =
      ap (λ d. after_cached_tasks capacity limits search d rest) (task-inert task c t e) ∙ tasks-inert rest c t e

  pub batches-inert : (parts : List (List Task)) → IsInert (λ c. after_cached_batches capacity limits search c parts)
  batches-inert [] c t e = refl
  batches-inert (tasks ∷ rest) c t e =
      ap (λ d. after_cached_batches capacity limits search (on_going (after_batch limits search) d) rest) (tasks-inert tasks c t e)
      ∙ ap (λ d. after_cached_batches capacity limits search d rest) (batch-inert c t e)
      ∙ batches-inert rest c t e

-- the same step in other words
pub follows-as : (f g : Step) (v u : View) (old now : Progress) (kept keeps : Entries) → ((c : Cached) → f c ≡ g c) → Follows f v old kept u now keeps
    → Follows g v old kept u now keeps
follows-as f g v u old now kept keeps same follows before r stands = subst (λ c. IsAt before u c now keeps) (same (cached_at r old kept)) (follows before r stands)

pub stops-as : (f g : Step) (v u : View) (old now : Progress) (kept keeps : Entries) (t : Tripped) → ((c : Cached) → f c ≡ g c) → StopsIn f v old kept u now keeps t
    → StopsIn g v old kept u now keeps t
stops-as f g v u old now kept keeps t same stops before r stands = subst (λ c. IsStopped before u c now.failures keeps t) (same (cached_at r old kept)) (stops before r stands)

pub follows-nothing : (v : View) (old : Progress) (kept : Entries) → Follows (λ c. c) v old kept v old kept
follows-nothing v old kept before r stands = record { stands = stands; is = refl }
