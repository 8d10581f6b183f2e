-- Where a pass stands once a task has ended that asked first for an answer that was kept.
use Rattle.std.specs.Prelude.{◌≡◌, ◌⊎◌, refl, ℕ, ◌≤◌, ◌==◌, if◌then◌else◌, Bool, true, false, List, [], ◌∷◌, ◌++◌, None}
use Rattle.std.proofs.Common.{◌∙◌, sym, subst, append-nil, inr}
use Rattle.agg_evaluation.specs.Cost.{cost}
use Rattle.agg_evaluation.specs.Rows.{PlacedRow}
use Rattle.agg_evaluation.specs.Shard.{shard_answer}
use Rattle.agg_model.specs.declared.aggregation.Search.{Search}
use Rattle.agg_model.specs.declared.breaker.Child.TheVariants.{Request as AtRequest}
use Rattle.agg_model.specs.declared.breaker.Limits.{Limits}
use Rattle.agg_model.specs.declared.breaker.Tripped.{Tripped}
use Rattle.cache_spec.specs.Cache.{as_kept}
use Rattle.agg_spec.specs.Charges.{Run, Step, charge, charge_of, run}
use Rattle.agg_spec.specs.Index.{Index, rows_in}
use Rattle.agg_spec.specs.Reduction.{Task, task_of, task_steps}
use Rattle.breaker_words.specs.declared.view.View.{View}
use Rattle.collect_tree.specs.Ends.{IfMemory}
use Rattle.collect_tree.specs.declared.ending.TaskEnd.{TaskEnd}
use Rattle.collect_tree.specs.declared.ending.TaskEnd.TheVariants as task
use Rattle.request_cache.specs.Tasks.{ChargesAtOnce, IsTaskDone, IsTaskRefused}
use Rattle.solo_charges.proofs.OneCharge.{charge-stands, refusal-ends, some-charge}
use Rattle.solo_charges.proofs.Tasks.{done-stands, refused-ends, refused-stands}
use Rattle.solo_charges.specs.Ends.{IsEnded}
use Rattle.solo_charges.specs.Standing.{Before, StandsAt}

-- a task that gave up after some of its amounts gives up
pub gives-up : (X Y : Type 0) (r : TaskEnd) → IfMemory r X → IfMemory r (Y ⊎ X)
gives-up X Y (task.Done p) x = tt
gives-up X Y (task.Refused t) x = tt
gives-up X Y task.Memory x = inr x

module _ (l : Limits) (index : Index) (search : Search) (n : ℕ) (before : Before) (w : View) (r : Run) (stands : StandsAt before w r) (u : View) where
  abbrev rows : List PlacedRow
  rows = rows_in index n

  abbrev bytes : ℕ
  bytes = cost (shard_answer search rows)

  abbrev pub asked : Bool → Task
  asked kept = as_kept kept (task_of index search n)

  -- a kept answer has one step, or none where it costs nothing
  one-charge : task_steps (asked true) ≡ charge_of AtRequest bytes
  one-charge = append-nil (charge_of AtRequest bytes)

  at-once : (b : Bool) → ChargesAtOnce b l w bytes u → StandsAt before u (run l r (if b then [] else charge AtRequest bytes ∷ []))
  at-once true same = subst (λ (v : View). StandsAt before v r) (sym same) stands
  at-once false charged = charge-stands l before w r stands AtRequest bytes u charged

  pub task-stands : (kept : Bool) → IsTaskDone l w u search rows kept → StandsAt before u (run l r (task_steps (asked kept)))
  task-stands true done = subst (λ (steps : List Step). StandsAt before u (run l r steps)) (sym one-charge) (at-once (bytes == 0) done)
  task-stands false done = done-stands l before w r stands search rows u done

  module _ (t : Tripped) (whole : w.cap ≡ w.total) where
    pub task-ends : (kept : Bool) → IsTaskRefused l w u search rows kept t → IsEnded before u (run l r (task_steps (asked kept))) t
    task-ends true (some, tripped) =
        subst (λ (steps : List Step). IsEnded before u (run l r steps) t) (sym one-charge)
        (subst (λ (steps : List Step). IsEnded before u (run l r steps) t) (sym (some-charge l AtRequest bytes some)) (refusal-ends l before w r stands AtRequest bytes t u whole tripped))
    task-ends false refused = refused-ends l before w r stands search rows u t whole refused

    -- where the search goes on without the shard
    pub task-left-out : (kept : Bool) → IsTaskRefused l w u search rows kept t
        → StandsAt before u (record (run l r (task_steps (asked kept))) { holds = r.holds; refused = None })
    task-left-out true (some, tripped) =
        let ended = task-ends true (some, tripped) in
        record {
          going = refl;
          holds = λ x. tripped.holds x ∙ stands.holds x;
          counts = record { granted_is = ended.counts.granted_is; trips_are = ended.counts.trips_are };
        }
    task-left-out false refused = refused-stands l before w r stands search rows u t whole refused
