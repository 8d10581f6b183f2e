-- The end of one task, as a step of the definitions, with what is kept.
use Rattle.std.specs.Prelude.{◌≡◌, ◌≢◌, refl, ℕ, ◌+◌, ◌==◌, Bool, true, false, List, [], ◌∷◌, ◌++◌, flat_map, sum_by, Option, Some, None, Result, Ok, Err, OnOk, IfErr}
use Rattle.std.proofs.Common.{◌∙◌, sym, ap, subst, arith, append_assoc, inl, inr}
use Rattle.std.proofs.lemmas.Bool.{eqb-true}
use Rattle.std.proofs.lemmas.List.{map-append}
use Rattle.std.proofs.lemmas.List.Sums.{sum_by_push}
use Rattle.agg_evaluation.specs.Cost.{cost}
use Rattle.agg_evaluation.specs.Rows.{PlacedRow}
use Rattle.agg_evaluation.specs.Shard.{shard_answer}
use Rattle.agg_model.specs.declared.aggregation.Search.{Search}
use Rattle.cache_spec.specs.declared.shard_search.ShardSearch.{ShardSearch}
use Rattle.agg_model.specs.declared.breaker.Limits.{Limits}
use Rattle.agg_model.specs.declared.breaker.Tripped.{Tripped}
use Rattle.agg_model.specs.declared.breaker.Which.{Which}
use Rattle.agg_model.specs.declared.breaker.Which.TheVariants.{Request, Parent}
use Rattle.agg_model.specs.declared.partial.Partial.{Partial}
use Rattle.cache_spec.specs.Cache.{Cached, after_cached_task, after_kept_task, as_kept, entries_after, entry_of, is_kept, unless_stopped}
use Rattle.agg_spec.specs.Charges.{Run, run}
use Rattle.agg_spec.specs.Index.{Index, rows_in}
use Rattle.agg_spec.specs.Reduction.{Going, Task, after_task, task_ended, task_of, task_refused, task_steps, unless_ended}
use Rattle.breaker_tree.specs.Charge.{IsAtRestAgain}
use Rattle.breaker_words.specs.Views.{hold_of}
use Rattle.breaker_words.specs.declared.view.View.{View}
use Rattle.collect_tree.specs.Ends.{IfDone, IfMemory, IfRefused as IfTaskRefused}
use Rattle.collect_tree.specs.declared.ending.TaskEnd.{TaskEnd}
use Rattle.collect_tree.specs.declared.ending.TaskEnd.TheVariants as task
use Rattle.request_cache.specs.Tasks.{ChargesAtOnce, GivesUp, IsTaskDone, IsTaskRefused}
use Rattle.solo_charges.specs.Standing.{Before, StandsAt}
use Rattle.agg_search.specs.Keeping.{IsKept}
use Rattle.agg_search.specs.Progressing.{Follows, IsAt, IsStopped, StopsIn, cached_at, going_at}
use Rattle.agg_search.specs.Reached.{HasReached, HoldsCosts}
use Rattle.agg_search.specs.Stops.{IfRefused}
use Rattle.agg_search.specs.declared.progress.Progress.{Progress}
use Rattle.agg_search.specs.declared.stop.Stop.{Stop}
use Rattle.agg_search.proofs.KeptTask.{task-ends, task-left-out, task-stands}
use Rattle.agg_search.proofs.Numbers.{ascending-more, ascending-push, left-failed, left-more}

module _ (index : Index) (search : Search) (n : ℕ) where
  abbrev answer : Partial
  answer = shard_answer search (rows_in index n)

  pub reached-done : (old : Progress) → HasReached index search n old → HasReached index search (n + 1) (record old { batch = old.batch ++ answer ∷ [] })
  reached-done old before = record {
    groups = before.groups;
    waiting = before.waiting ++ n ∷ [];
    some_each = before.some_each;
    results_are = before.results_are;
    batch_is = ap (λ ps. ps ++ answer ∷ []) before.batch_is ∙ sym (map-append (λ shard. shard_answer search (rows_in index shard)) before.waiting (n ∷ []));
    left = sym (append_assoc (flat_map (λ group. group) before.groups) before.waiting (n ∷ []))
        ∙ ap (λ ns. ns ++ n ∷ []) before.left ∙ sym (left-more old.failures n before.failures_are);
    failures_are = ascending-more 0 n old.failures before.failures_are;
  }

  pub reached-failed : (old : Progress) (t : Tripped) → HasReached index search n old
      → HasReached index search (n + 1) (record old { failures = old.failures ++ record { shard = n; tripped = t } ∷ [] })
  reached-failed old t before = record {
    groups = before.groups;
    waiting = before.waiting;
    some_each = before.some_each;
    results_are = before.results_are;
    batch_is = before.batch_is;
    left = before.left ∙ sym (left-failed old.failures n t);
    failures_are = ascending-push 0 n old.failures t (omega arith) before.failures_are;
  }

module _ (l : Limits) (index : Index) (search : Search) (n : ℕ) (w u : View) where
  abbrev rows : List PlacedRow
  rows = rows_in index n

  -- what the pass is after the task, whatever its end
  pub record After : Type 0 where
    pub same : IsAtRestAgain w u
    pub others : (x : Which) → x ≢ Request → x ≢ Parent → hold_of u x ≡ hold_of w x

  -- a charge of no byte changes nothing; the pass was at rest
  at-once : (b : Bool) (bytes : ℕ) → IsAtRestAgain w w → ChargesAtOnce b l w bytes u → After
  at-once true bytes rest same = record { same = subst (IsAtRestAgain w) (sym same) rest; others = λ x a b. ap (λ (v : View). hold_of v x) same }
  at-once false bytes rest charged = record { same = charged.same; others = λ x a b. ap (λ y. y.hold) (charged.untouched x a b) }

  task-done : (kept : Bool) → IsAtRestAgain w w → IsTaskDone l w u search rows kept → After
  task-done true rest done = at-once (cost (shard_answer search rows) == 0) (cost (shard_answer search rows)) rest done
  task-done false rest done = record { same = done.same; others = λ x a b. ap (λ y. y.hold) (done.untouched x a b) }

  task-refusal : (kept : Bool) (t : Tripped) → IsTaskRefused l w u search rows kept t → After
  task-refusal true t (some, tripped) = record { same = tripped.same; others = λ x a b. tripped.holds x }
  task-refusal false t refused = record { same = refused.back.same; others = λ x a b. refused.back.holds x }

  gave-up : IsAtRestAgain w w → GivesUp w u search rows → After
  gave-up rest (inl same) = record { same = subst (IsAtRestAgain w) (sym same) rest; others = λ x a b. ap (λ (v : View). hold_of v x) same }
  gave-up rest (inr some) = record { same = some.1.back.same; others = λ x a b. some.1.back.holds x }

  pub after-task : (kept : Bool) (end : TaskEnd) → IsAtRestAgain w w → IfDone end (λ p. IsTaskDone l w u search rows kept)
      → IfTaskRefused end (λ t. IsTaskRefused l w u search rows kept t) → IfMemory end (GivesUp w u search rows) → After
  after-task kept (task.Done p) rest done refused memory = task-done kept rest done
  after-task kept (task.Refused t) rest done refused memory = task-refusal kept t refused
  after-task kept task.Memory rest done refused memory = gave-up rest memory

  pub reached-after : (end : TaskEnd) (b : Bool) (old now : Progress) (kept : Result (Unit {0}) Stop) → HasReached index search n old
      → IfDone end (λ p. p ≡ shard_answer search rows) → IsKept end b n old kept now → OnOk kept (HasReached index search (n + 1) now)
  reached-after (task.Done p) b old now (Ok done) before answer is =
      subst (HasReached index search (n + 1)) (ap (λ q. record old { batch = old.batch ++ q ∷ [] }) (sym answer) ∙ sym is) (reached-done index search n old before)
  reached-after (task.Refused t) true old now (Ok done) before answer is = subst (HasReached index search (n + 1)) (sym is) (reached-failed index search n old t before)
  reached-after (task.Refused t) false old now (Ok done) before answer is = absurd is
  reached-after task.Memory b old now (Ok done) before answer is = absurd is
  reached-after end b old now (Err s) before answer is = tt

  -- at request the task holds the cost of its answer
  raised : (kept : Bool) → IsTaskDone l w u search rows kept → hold_of u Request ≡ hold_of w Request + cost (shard_answer search rows)
  raised true done = by_zero (cost (shard_answer search rows) == 0) refl done
    where
      by_zero : (b : Bool) → (cost (shard_answer search rows) == 0) ≡ b → ChargesAtOnce b l w (cost (shard_answer search rows)) u
          → hold_of u Request ≡ hold_of w Request + cost (shard_answer search rows)
      by_zero true none same = let nothing = eqb-true (cost (shard_answer search rows)) 0 none in let still = ap (λ (v : View). hold_of v Request) same in omega (arith, nothing, still)
      by_zero false some charged = let more = charged.holds Request in omega (arith, more)
  raised false done = done.hold_request

  unchanged : (kept : Bool) (t : Tripped) → IsTaskRefused l w u search rows kept t → hold_of u Request ≡ hold_of w Request
  unchanged true t (some, tripped) = tripped.holds Request
  unchanged false t refused = refused.back.holds Request

  pub held-after : (v : View) (found : Bool) (end : TaskEnd) (b : Bool) (old now : Progress) (kept : Result (Unit {0}) Stop) → ((x : Which) → hold_of w x ≡ hold_of v x) → HoldsCosts old v
      → IfDone end (λ p. p ≡ shard_answer search rows) → IfDone end (λ p. IsTaskDone l w u search rows found)
      → IfTaskRefused end (λ t. IsTaskRefused l w u search rows found t) → IsKept end b n old kept now → OnOk kept (HoldsCosts now u)
  held-after v found (task.Done p) b old now (Ok done) same held answer ended refused is =
      let push = sum_by_push cost old.batch p in let a = raised found ended in let c = same Request in let d = ap cost answer in
      subst (λ (q : Progress). HoldsCosts q u) (sym is) (let all : hold_of u Request ≡ sum_by cost (old.batch ++ p ∷ []) + sum_by cost old.results = omega (arith, push) in all)
  held-after v found (task.Refused t) true old now (Ok done) same held answer ended refused is =
      subst (λ (q : Progress). HoldsCosts q u) (sym is) (unchanged found t refused ∙ same Request ∙ held)
  held-after v found (task.Refused t) false old now (Ok done) same held answer ended refused is = absurd is
  held-after v found task.Memory b old now (Ok done) same held answer ended refused is = absurd is
  held-after v found end b old now (Err s) same held answer ended refused is = tt

  module _ (capacity : ℕ) (entries : List ShardSearch) where
    abbrev entry : ShardSearch
    entry = entry_of search n

    abbrev the_task : Task
    the_task = task_of index search n

    abbrev pub step : Cached → Cached
    step c = after_cached_task capacity l search c the_task

    abbrev keeps : Bool → Option Tripped → List ShardSearch
    keeps kept o = entries_after capacity kept o entry entries

    -- the step, where the search goes on and the answer is kept or not
    abbrev stepped_to : Bool → Run → Progress → Option Tripped → Cached
    stepped_to kept r old o = record {
      going = task_ended l search o (as_kept kept the_task) (run l r (task_steps (as_kept kept the_task))) (going_at r old);
      entries = keeps kept o;
    }

    begins : (kept : Bool) → is_kept entry entries ≡ kept → (r : Run) (old : Progress) → r.refused ≡ None
        → step (cached_at r old entries) ≡ stepped_to kept r old (run l r (task_steps (as_kept kept the_task))).refused
    begins kept is r old none =
        ap (λ b. unless_stopped r.refused (after_kept_task capacity l search b (cached_at r old entries) the_task) (cached_at r old entries)) is
        ∙ ap (λ o. unless_stopped o (after_kept_task capacity l search kept (cached_at r old entries) the_task) (cached_at r old entries)) none
        ∙ ap (λ o. record {
          going = unless_ended o (task_ended l search (run l r (task_steps (as_kept kept the_task))).refused (as_kept kept the_task) (run l r (task_steps (as_kept kept the_task))) (going_at r old)) (going_at r old);
          entries = keeps kept (run l r (task_steps (as_kept kept the_task))).refused;
        }) none

    answer-is : (kept : Bool) → (as_kept kept the_task).answer ≡ shard_answer search rows
    answer-is true = refl
    answer-is false = refl

    shard-is : (kept : Bool) → (as_kept kept the_task).shard ≡ n
    shard-is true = refl
    shard-is false = refl

    module _ (v : View) (room : (before : Before) (r : Run) → StandsAt before v r → StandsAt before w r) (whole : w.cap ≡ w.total)
        (kept : Bool) (kept_is : is_kept entry entries ≡ kept) where
      abbrev after_run : Run → Run
      after_run r = run l r (task_steps (as_kept kept the_task))

      done-follows : (old : Progress) → IsTaskDone l w u search rows kept
          → Follows step v old entries u (record old { batch = old.batch ++ shard_answer search rows ∷ [] }) (keeps kept None)
      done-follows old done before r stands =
          let now = task-stands l index search n before w r (room before r stands) u kept done in
          subst (λ c. IsAt before u c (record old { batch = old.batch ++ shard_answer search rows ∷ [] }) (keeps kept None))
          (sym (begins kept kept_is r old stands.going ∙ ap (stepped_to kept r old) now.going))
          (record {
            stands = now;
            is = ap (λ p. record { going = record { run = after_run r; batch = old.batch ++ p ∷ []; results = old.results; failures = old.failures }; entries = keeps kept None }) (answer-is kept);
          })

      failed-follows : (old : Progress) (t : Tripped) → search.partial ≡ true → IsTaskRefused l w u search rows kept t
          → Follows step v old entries u (record old { failures = old.failures ++ record { shard = n; tripped = t } ∷ [] }) (keeps kept (Some t))
      failed-follows old t partial refused before r stands =
          let ends = task-ends l index search n before w r (room before r stands) u t whole kept refused in
          subst (λ c. IsAt before u c (record old { failures = old.failures ++ record { shard = n; tripped = t } ∷ [] }) (keeps kept (Some t)))
          (sym (begins kept kept_is r old stands.going ∙ ap (stepped_to kept r old) ends.refused
          ∙ ap (λ shard. record { going = task_refused l search search.partial shard t (after_run r) (going_at r old); entries = keeps kept (Some t) }) (shard-is kept)
          ∙ ap (λ b. record { going = task_refused l search b n t (after_run r) (going_at r old); entries = keeps kept (Some t) }) partial))
          (record { stands = task-left-out l index search n before w r (room before r stands) u t whole kept refused; is = refl })

      refused-stops : (old : Progress) (t : Tripped) → search.partial ≡ false → IsTaskRefused l w u search rows kept t
          → StopsIn step v old entries u old (keeps kept (Some t)) t
      refused-stops old t partial refused before r stands =
          let ends = task-ends l index search n before w r (room before r stands) u t whole kept refused in
          subst (λ c. IsStopped before u c old.failures (keeps kept (Some t)) t)
          (sym (begins kept kept_is r old stands.going ∙ ap (stepped_to kept r old) ends.refused
          ∙ ap (λ b. record { going = task_refused l search b (as_kept kept the_task).shard t (after_run r) (going_at r old); entries = keeps kept (Some t) }) partial))
          (record { ended = ends; failures_are = refl; entries_are = refl })

      -- the entries that there are afterwards
      module _ (there : List ShardSearch) where
        pub follows-after : (end : TaskEnd) (b : Bool) (old now : Progress) (res : Result (Unit {0}) Stop) → search.partial ≡ b
            → IfDone end (λ p. p ≡ shard_answer search rows) → IfDone end (λ p. IsTaskDone l w u search rows kept)
            → IfTaskRefused end (λ t. IsTaskRefused l w u search rows kept t) → IfDone end (λ p. there ≡ keeps kept None)
            → IfTaskRefused end (λ t. there ≡ keeps kept (Some t)) → IsKept end b n old res now → OnOk res (Follows step v old entries u now there)
        follows-after (task.Done p) b old now (Ok ok) partial answer done refused put same is =
            subst (λ (es : List ShardSearch). Follows step v old entries u now es) (sym put)
            (subst (λ (q : Progress). Follows step v old entries u q (keeps kept None)) (ap (λ q. record old { batch = old.batch ++ q ∷ [] }) (sym answer) ∙ sym is) (done-follows old done))
        follows-after (task.Refused t) true old now (Ok ok) partial answer done refused put same is =
            subst (λ (es : List ShardSearch). Follows step v old entries u now es) (sym same)
            (subst (λ (q : Progress). Follows step v old entries u q (keeps kept (Some t))) (sym is) (failed-follows old t partial refused))
        follows-after (task.Refused t) false old now (Ok ok) partial answer done refused put same is = absurd is
        follows-after task.Memory b old now (Ok ok) partial answer done refused put same is = absurd is
        follows-after end b old now (Err s) partial answer done refused put same is = tt

        pub stops-after : (end : TaskEnd) (b : Bool) (old now : Progress) (res : Result (Unit {0}) Stop) → search.partial ≡ b
            → IfTaskRefused end (λ t. IsTaskRefused l w u search rows kept t) → IfTaskRefused end (λ t. there ≡ keeps kept (Some t)) → IsKept end b n old res now
            → IfErr res (λ s. IfRefused s (StopsIn step v old entries u now there))
        stops-after (task.Done p) b old now (Err s) partial refused same is = subst (λ (x : Stop). IfRefused x (StopsIn step v old entries u now there)) (sym is) tt
        stops-after (task.Refused t) true old now (Err s) partial refused same is = subst (λ (x : Stop). IfRefused x (StopsIn step v old entries u now there)) (sym is) tt
        stops-after (task.Refused t) false old now (Err s) partial refused same (is, stays) =
            subst (λ (x : Stop). IfRefused x (StopsIn step v old entries u now there)) (sym is)
            (subst (λ (q : Progress). StopsIn step v old entries u q there t) (sym stays)
            (subst (λ (es : List ShardSearch). StopsIn step v old entries u old es t) (sym same) (refused-stops old t partial refused)))
        stops-after task.Memory b old now (Err s) partial refused same is = subst (λ (x : Stop). IfRefused x (StopsIn step v old entries u now there)) (sym is) tt
        stops-after end b old now (Ok ok) partial refused same is = tt
