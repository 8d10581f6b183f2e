-- What a search holds while it runs, and what its steps give back ('Circuit breaker settings', request).
use Rattle.std.specs.Prelude.{◌≡◌, ◌≤◌, ◌≤ℤ◌, ℕ, pos, ◌+◌, List, ◌∷◌, ◌++◌, sum_by, None, IsTrue}
use Rattle.agg_model.specs.Breakers.{which_of}
use Rattle.agg_model.specs.declared.aggregation.Search.{Search}
use Rattle.agg_model.specs.declared.breaker.Child.{Child}
use Rattle.agg_model.specs.declared.breaker.Limits.{Limits}
use Rattle.agg_model.specs.declared.partial.Partial.{Partial}
use Rattle.agg_evaluation.specs.Cost.{cost}
use Rattle.agg_evaluation.specs.Shard.{int_sum}
use Rattle.agg_evaluation.specs.Trace.{sum_before}
use Rattle.agg_evaluation.specs.Trees.{is_result_of}
use Rattle.agg_spec.specs.Charges.{Amounts, amount_at, Run, Step, give_back, run}
use Rattle.agg_spec.specs.Reduction.{Going, Task}

-- so many bytes more are held at request and at inflight requests, both at the parent too, and no more elsewhere
pub record HoldsMore (at_request at_inflight : ℕ) (before now : Amounts) : Type 0 where
  pub request : now.request ≡ before.request + at_request
  pub fielddata : now.fielddata ≡ before.fielddata
  pub inflight : now.inflight ≡ before.inflight + at_inflight
  pub parent : now.parent ≡ before.parent + at_request + at_inflight

-- so many bytes are held at this breaker and at the parent
pub record IsHeld (child : Child) (bytes : ℕ) (holds : Amounts) : Type 0 where
  pub at_child : bytes ≤ amount_at (which_of child) holds
  pub at_parent : bytes ≤ holds.parent

-- each of these steps that gives bytes back gives back at most what is held when it comes
abbrev pub GivesBackHeld : Limits → Run → List Step → Type 0
GivesBackHeld limits start steps =
    (before after : List Step) (child : Child) (bytes : ℕ) → steps ≡ before ++ give_back child bytes ∷ after →
    (run limits start before).refused ≡ None → IsHeld child bytes (run limits start before).holds

-- what these results cost together
abbrev pub costs_of : List Partial → ℕ
costs_of = sum_by cost

-- A task that never holds less than nothing, and at its end the cost of its answer, which is a result of the search.
pub record IsPaid (search : Search) (task : Task) : Type 0 where
  pub never_negative : (n : ℕ) → pos 0 ≤ℤ sum_before task.amounts n
  pub at_end : int_sum task.amounts ≡ pos (cost task.answer)
  pub result : IsTrue (is_result_of search task.answer)

-- Unless a breaker refused it, a search holds what its results cost, beside what was held before it.
abbrev pub HoldsResults : Amounts → Going → Type 0
HoldsResults before going =
    going.run.refused ≡ None → HoldsMore (costs_of going.batch + costs_of going.results) 0 before going.run.holds
