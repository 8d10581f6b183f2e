-- What the slots of the merged results hold when a desk may close the table.
use Rattle.std.specs.Prelude.{◌≡◌, ℕ, ◌+◌, ◌*◌, ◌<◌, IsTrue, [], length}
use mathlib.Core.Option.{some}
use lib.ListN.{get_elem?}
use Rattle.arrival_moves.specs.declared.label.Label.{Label}
use Rattle.arrival_moves.specs.declared.limits.TheConstants.{ALL_CLAIMS}
use Rattle.arrival_moves.specs.declared.plan.Plan.{Plan}
use Rattle.arrival_moves.specs.declared.view.View.{View}
use Rattle.arrival_moves.specs.Labels.{task_times}
use Rattle.arrival_moves.specs.Slots.{holds, in_slots}
use Rattle.arrival_moves.specs.Plans.{task_count, tasks_of, place_of, batch_size}
use Rattle.arrival_moves.specs.Moves.{ArrivalState}
use Rattle.arrival_moves.specs.Fairness.{IsOfSearch}

-- the desk has all claims, one of them found no task, and nothing is in its hand
pub record IsAtEnd (v : View) : Type 0 where
  pub whole : v.left + v.drawn ≡ ALL_CLAIMS
  pub ended : IsTrue v.ended
  pub bare : v.hand ≡ []

-- the state has such a desk
abbrev pub HasDeskAtEnd : ArrivalState → Type 0
HasDeskAtEnd s = (i : ℕ) × (v : View) × (get_elem? s.desks i ≡ some v) × IsAtEnd v

-- the merged result of the batch b of q lies in its slot, and its label is l
abbrev pub IsMergedAt : Plan → ArrivalState → ℕ → ℕ → Label → Type 0
IsMergedAt p s q b l = get_elem? s.batches (place_of p q b) ≡ some (holds l)

pub record IsAllMerged (p : Plan) (s : ArrivalState) : Type 0 where
  -- each batch has one merged result, which stands for as many tasks as the batch has tickets, all of its search
  pub whole : (q b : ℕ) → b * p.batch < tasks_of p q
      → (l : Label) × IsMergedAt p s q b l × (length l.tasks ≡ batch_size p q b) × IsOfSearch p q l
  -- together they stand for each task once
  pub once : (k : ℕ) → k < task_count p → in_slots (task_times k) s.batches ≡ 1
  -- where one of them says skipped, one of the same search says failed
  pub failed : (q b : ℕ) (l : Label) → b * p.batch < tasks_of p q → IsMergedAt p s q b l → IsTrue l.skipped
      → (c : ℕ) × (m : Label) × (c * p.batch < tasks_of p q) × IsMergedAt p s q c m × IsTrue m.failed
