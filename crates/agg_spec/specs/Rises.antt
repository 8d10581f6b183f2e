-- By how much the breakers' totals rise in a round ('Circuit breaker settings'; 'Nodes stats API', breakers).
use Rattle.std.specs.Prelude.{◌≡◌, ◌≤◌, ℕ, ◌+◌, ◌-◌, ◌&&◌, Bool, true, IsTrue, nat_lt, nat_le, if◌then◌else◌, List, [], ◌∷◌, map, length, sum, sum_by, zip, Option, Some, None, unsigned_abs}
use Rattle.agg_model.specs.declared.aggregation.Search.{Search}
use Rattle.agg_model.specs.declared.outcome.Answered.{Answered}
use Rattle.agg_model.specs.declared.outcome.Failure.{Failure}
use Rattle.agg_model.specs.declared.outcome.Outcome.{Outcome}
use Rattle.agg_model.specs.declared.outcome.Outcome.TheVariants as ended
use Rattle.agg_evaluation.specs.Cost.{cost}
use Rattle.agg_evaluation.specs.Trace.{gross}
use Rattle.agg_evaluation.specs.Ceiling.{greatest_of}
use Rattle.agg_spec.specs.Index.{Index, rows_in, shard_numbers}
use Rattle.agg_spec.specs.Failures.{unfailed}
use Rattle.agg_spec.specs.Outcome.{Request, shard_answers, running_search}
use Rattle.agg_spec.specs.Charges.{Amounts, no_amounts, one_at, amounts_sum}
use Rattle.agg_spec.specs.Rounds.{Round, all_quiet, response_bytes}
use Rattle.agg_spec.specs.Wave.{body_charge, body_refusals, result_cost}

abbrev pub task_costs : Index → Search → List ℕ
task_costs index search = map cost (shard_answers index search (shard_numbers index))

abbrev pub gross_sum : Index → Search → ℕ
gross_sum index search = sum (map (λ shard. unsigned_abs (gross search (rows_in index shard))) (shard_numbers index))

-- two or more results of tasks are charged once more where they are merged
abbrev pub merge_charge : List ℕ → ℕ
merge_charge (a ∷ b ∷ costs) = sum (a ∷ b ∷ costs)
merge_charge _ = 0

-- The least that the merges charge, given the cost of the whole. Where there are more tasks than a batch has, one result may
-- stay alone in its batch, and the results of the batches are merged too. Else this is what the one merge charges.
abbrev pub least_merge_charge : ℕ → ℕ → List ℕ → ℕ
least_merge_charge batch result costs = if nat_lt batch (length costs) then sum costs - greatest_of costs + result else merge_charge costs

-- the least that a search is granted at request for its tasks and merges, where no breaker refuses it a charge
abbrev pub least_for_tasks : Index → ℕ → Option Search → ℕ
least_for_tasks index batch None = 0
least_for_tasks index batch (Some search) =
    gross_sum index search + least_merge_charge batch (result_cost index (Some search) (shard_numbers index)) (task_costs index search)

abbrev pub sum_of_amounts : List Amounts → Amounts
sum_of_amounts [] = no_amounts
sum_of_amounts (a ∷ rest) = amounts_sum a (sum_of_amounts rest)

-- an exception, unless it repeats the first failure because no shard was left
abbrev pub exception_trips : List ℕ → Outcome → Amounts
exception_trips [] answer = no_amounts
exception_trips (shard ∷ left) (ended.Response line) = no_amounts
exception_trips (shard ∷ left) (ended.Refused r) = no_amounts
exception_trips (shard ∷ left) (ended.Tripped t) = one_at t.which
exception_trips (shard ∷ left) ended.Memory = no_amounts

-- the refusals that an answer tells of
abbrev pub told_trips : Index → Answered → Amounts
told_trips index a =
    amounts_sum (exception_trips (unfailed index a.failures) a.outcome) (sum_of_amounts (map (λ (f : Failure). one_at f.tripped.which) a.failures))

-- what is known of the rises
pub record Rises : Type 0 where
  -- granted at inflight requests
  pub bodies : ℕ
  -- granted at request at least; exactly so much where `exact`
  pub searches : ℕ
  pub exact : Bool
  -- the refusals that answers tell of, and whether there is none
  pub trips : Amounts
  pub quiet : Bool

module _ (index : Index) (columns : ℕ) where
  abbrev pub least_for : Round → Request → ℕ
  least_for round r = least_for_tasks index round.settings.batch (running_search index round.settings.max_buckets r) + response_bytes index round.settings r []

  abbrev pub rises : Round → Rises
  rises round =
      let quiet = all_quiet round.answers in
      record {
        bodies = sum (map (λ p. body_charge round.settings index columns p.0 p.1)
            (zip (body_refusals round.settings index columns 0 round.requests) round.requests));
        searches = if quiet then sum_by (least_for round) round.requests else 0;
        exact = quiet && nat_le (length index.shards) round.settings.batch;
        trips = sum_of_amounts (map (told_trips index) round.answers);
        quiet = quiet;
      }

  -- round after round
  abbrev pub all_rises : List Round → Rises
  all_rises [] = record { bodies = 0; searches = 0; exact = true; trips = no_amounts; quiet = true }
  all_rises (round ∷ rest) =
      let first = rises round in
      let later = all_rises rest in
      record {
        bodies = first.bodies + later.bodies;
        searches = first.searches + later.searches;
        exact = first.exact && later.exact;
        trips = amounts_sum first.trips later.trips;
        quiet = first.quiet && later.quiet;
      }

-- The totals rose by so much granted and so many refusals, as is known of the rises where no search wanted memory.
pub record RoseBy (r : Rises) (granted trips : Amounts) : Type 0 where
  pub fielddata : (granted.fielddata ≡ 0) × (trips.fielddata ≡ 0)
  pub inflight : (granted.inflight ≡ r.bodies) × (trips.inflight ≡ r.trips.inflight)
  pub searches : r.searches ≤ granted.request
  pub exactly : IsTrue r.exact → granted.request ≡ r.searches
  -- each charge counts at the parent too
  pub parent : granted.parent ≡ granted.request + granted.inflight
  pub request_trips : r.trips.request ≤ trips.request
  pub parent_trips : r.trips.parent ≤ trips.parent
  pub no_trips : IsTrue r.quiet → trips ≡ no_amounts
