-- How many tasks each search of a plan has.
use Rattle.std.specs.Prelude.{◌≡◌, ℕ, ◌<◌, List, length}
use mathlib.Core.Option.{some}
use lib.ListN.{get_elem?}
use Rattle.arrival_moves.specs.declared.plan.Plan.{Plan}
use Rattle.arrival_moves.specs.Plans.{tasks_of}

-- the number of tasks of each search of the plan
pub record AreCounts (p : Plan) (counts : List ℕ) : Type 0 where
  pub size : length counts ≡ p.searches
  pub each : (q : ℕ) → q < p.searches → get_elem? counts q ≡ some (tasks_of p q)
