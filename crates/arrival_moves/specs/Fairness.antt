-- What holds of the table of arrivals after every list of moves: its words and slots are there, and five clauses on
-- claims, tasks, tickets, batches and stop words.
use Rattle.std.specs.Prelude.{◌≡◌, ◌⊎◌, ℕ, ◌+◌, ◌-◌, ◌*◌, ◌/◌, ◌<◌, ◌≤◌, ◌&&◌, ◌==◌, nat_lt, nat_le, IsTrue, if◌then◌else◌, List, [], length, slice_index}
use Rattle.std.specs.List.{sum_by}
use mathlib.Core.Option.{some}
use lib.ListN.{get_elem?}
use Rattle.arrival_moves.specs.declared.label.Label.{Label}
use Rattle.arrival_moves.specs.declared.limits.TheConstants.{ALL_CLAIMS}
use Rattle.arrival_moves.specs.declared.plan.Plan.{Plan}
use Rattle.arrival_moves.specs.declared.view.View.{View}
use Rattle.arrival_moves.specs.declared.item.HeldBatch.{HeldBatch}
use Rattle.arrival_moves.specs.declared.item.ClosedBatch.{ClosedBatch}
use Rattle.arrival_moves.specs.declared.item.Item.TheVariants.{Batch, Closed}
use Rattle.arrival_moves.specs.Lists.{one_if, contains, numbers_from}
use Rattle.arrival_moves.specs.Labels.{task_times, task_label}
use Rattle.arrival_moves.specs.Slots.{Slot, holds, in_slots, was_put}
use Rattle.arrival_moves.specs.Plans.{task_count, search_of, tasks_of, place_of, batch_size, drawn_of}
use Rattle.arrival_moves.specs.Items.{in_item, claimed_at, waiting_of, arrived_at, put_at, batch_at, due_at}
use Rattle.arrival_moves.specs.Hands.{in_hands}
use Rattle.arrival_moves.specs.Moves.{ArrivalState}

-- the sum of a number over all desks' hands and the slots of results and of merged results
abbrev pub everywhere : (Label → ℕ) → ArrivalState → ℕ
everywhere f s = in_hands (in_item f) s.desks + in_slots f s.results + in_slots f s.batches

-- a ticket word and a stop word for each search, and a count word and three slots for each task
pub record HasShape (p : Plan) (s : ArrivalState) : Type 0 where
  pub tickets : length s.tickets ≡ p.searches
  pub counts : length s.counts ≡ task_count p
  pub stops : length s.stops ≡ p.searches
  pub loads : length s.loads ≡ task_count p
  pub results : length s.results ≡ task_count p
  pub batches : length s.batches ≡ task_count p

-- claims
pub record ClaimsFit (p : Plan) (s : ArrivalState) : Type 0 where
  -- the claim word is the sum of the claims that the desks made
  pub word : s.claimed ≡ sum_by (λ (v : View). v.drawn) s.desks
  -- those made and those left are together all claims
  pub whole : sum_by (λ (v : View). v.left + v.drawn) s.desks ≡ ALL_CLAIMS
  -- where a desk has ended, all tasks are claimed
  pub ended : (i : ℕ) (v : View) → get_elem? s.desks i ≡ some v → IsTrue v.ended → task_count p ≤ s.claimed
  -- a desk that made no claim has nothing in hand
  pub idle : (i : ℕ) (v : View) → get_elem? s.desks i ≡ some v → v.drawn ≡ 0 → v.hand ≡ []

-- each claimed task is at one place
pub record TasksFit (p : Plan) (s : ArrivalState) : Type 0 where
  -- in one desk's hand, in one result's slot, or in the label of one merged result
  pub once : (k : ℕ) → everywhere (task_times k) s ≡ one_if (nat_lt k s.claimed && nat_lt k (task_count p))
  -- the slot of a task holds its load until the desk that claimed it has taken it
  pub loads : (k : ℕ) → k < task_count p → (s.claimed ≤ k) ⊎ (1 ≤ in_hands (claimed_at k) s.desks)
      → get_elem? s.loads k ≡ some (holds (task_label k))
  -- a slot in which no task is so is empty
  pub results : (r : ℕ) (l : Label) → get_elem? s.results r ≡ some (holds l) → 1 ≤ length l.tasks
  pub batches : (r : ℕ) (l : Label) → get_elem? s.batches r ≡ some (holds l) → 1 ≤ length l.tasks

-- tickets
pub record TicketsFit (p : Plan) (s : ArrivalState) : Type 0 where
  -- a search's ticket word is the number of its tasks that arrived: those that were claimed and don't wait in a hand
  pub word : (q : ℕ) → slice_index s.tickets q + in_hands (waiting_of p q) s.desks ≡ drawn_of p q s.claimed
  -- each number below it is one task's ticket: a desk has it with its task, or its result was put
  pub once : (q t : ℕ) (x : Slot) → t < tasks_of p q → get_elem? s.results (place_of p q t) ≡ some x
      → in_hands (arrived_at q t) s.desks + was_put x ≡ one_if (nat_lt t (slice_index s.tickets q))

-- all tasks of the label are of the search q
abbrev pub IsOfSearch : Plan → ℕ → Label → Type 0
IsOfSearch p q l = (k : ℕ) → 1 ≤ task_times k l → (k < task_count p) × (search_of p k ≡ q)

-- of a batch in hand: what was taken and what is due are together the batch
pub record HoldsBatch (p : Plan) (x : HeldBatch) : Type 0 where
  pub size : length x.taken.tasks + length x.due ≡ batch_size p x.search x.batch
  pub search : IsOfSearch p x.search x.taken

-- 1 where the ticket t of q was counted: it was drawn, and no desk has it with its task or its put result
abbrev pub is_counted : ArrivalState → ℕ → ℕ → ℕ
is_counted s q t = one_if (nat_lt t (slice_index s.tickets q)) - (in_hands (arrived_at q t) s.desks + in_hands (put_at q t) s.desks)

-- of a merged result that was taken out
pub record HoldsMerged (p : Plan) (x : ClosedBatch) : Type 0 where
  pub real : x.batch * p.batch < tasks_of p x.search
  pub size : length x.taken.tasks ≡ batch_size p x.search x.batch
  pub search : IsOfSearch p x.search x.taken

-- batches
pub record BatchesFit (p : Plan) (s : ArrivalState) : Type 0 where
  -- a result stands for one task of its slot's search
  pub result : (q t : ℕ) (l : Label) → t < tasks_of p q → get_elem? s.results (place_of p q t) ≡ some (holds l)
      → (length l.tasks ≡ 1) × IsOfSearch p q l
  -- so do those that were taken from it into a desk's hand
  pub taken : (i j : ℕ) (v : View) (x : HeldBatch) → get_elem? s.desks i ≡ some v → get_elem? v.hand j ≡ some (Batch x) → HoldsBatch p x
  -- a merged result stands for as many tasks as its batch has tickets, all of its search
  pub merged : (q b : ℕ) (l : Label) → b * p.batch < tasks_of p q → get_elem? s.batches (place_of p q b) ≡ some (holds l)
      → (length l.tasks ≡ batch_size p q b) × IsOfSearch p q l
  -- and lies in the slot of a batch that its search has
  pub placed : (r : ℕ) (l : Label) → get_elem? s.batches r ≡ some (holds l)
      → (q : ℕ) × (b : ℕ) × (b * p.batch < tasks_of p q) × (r ≡ place_of p q b)
  -- so does one that was taken out stand for its batch
  pub closed : (i j : ℕ) (v : View) (x : ClosedBatch) → get_elem? s.desks i ≡ some v → get_elem? v.hand j ≡ some (Closed x) → HoldsMerged p x
  -- a batch's count word is the number of its tickets that were counted
  pub counts : (q b : ℕ) → b * p.batch < tasks_of p q
      → slice_index s.counts (place_of p q b) ≡ sum_by (is_counted s q) (numbers_from (b * p.batch) (batch_size p q b))
  -- a ticket in hand was drawn, and one desk has it; so one that was drawn and not yet counted is in one desk's hand
  pub uncounted : (q t : ℕ) → in_hands (arrived_at q t) s.desks + in_hands (put_at q t) s.desks ≤ one_if (nat_lt t (slice_index s.tickets q))
  -- a counted ticket's slot holds its result until a desk whose count was the last has taken it
  pub counted : (q t : ℕ) → 1 ≤ is_counted s q t
      → (slice_index s.counts (place_of p q (t / p.batch)) < batch_size p q (t / p.batch)) ⊎ (1 ≤ in_hands (due_at q t) s.desks)
      → (l : Label) × (get_elem? s.results (place_of p q t) ≡ some (holds l))
  -- a batch whose last count was made is in one desk's hand until its merged result was put
  pub last : (q b : ℕ) (x : Slot) → b * p.batch < tasks_of p q → get_elem? s.batches (place_of p q b) ≡ some x
      → in_hands (batch_at q b) s.desks + was_put x ≡ one_if (nat_le (batch_size p q b) (slice_index s.counts (place_of p q b)))

-- how many of the tasks are of the search q
abbrev pub of_search : Plan → ℕ → List ℕ → ℕ
of_search p q ts = sum_by (λ k. one_if (search_of p k == q)) ts

-- how many tasks of the search q a label says failed of, or skipped
abbrev pub failed_tasks : Plan → ℕ → Label → ℕ
failed_tasks p q l = if l.failed then of_search p q l.tasks else 0

abbrev pub skipped_tasks : Plan → ℕ → Label → ℕ
skipped_tasks p q l = if l.skipped then of_search p q l.tasks else 0

-- stop words
pub record StopsFit (p : Plan) (s : ArrivalState) : Type 0 where
  -- a stop word is 0 or 1
  pub word : (q : ℕ) → slice_index s.stops q ≤ 1
  -- where a search's stop word is 1, a task of it in hand is marked failed, or the label of a result of it says failed
  pub failed : (q : ℕ) → slice_index s.stops q ≡ 1 → 1 ≤ everywhere (failed_tasks p q) s
  -- where a desk noted the search as stopped, or the label of a result of it says skipped, its stop word is 1
  pub noted : (i : ℕ) (v : View) (q : ℕ) → get_elem? s.desks i ≡ some v → IsTrue (contains q v.stopped) → slice_index s.stops q ≡ 1
  pub skipped : (q : ℕ) → 1 ≤ everywhere (skipped_tasks p q) s → slice_index s.stops q ≡ 1

-- the whole of it
pub record IsFair (p : Plan) (s : ArrivalState) : Type 0 where
  pub shape : HasShape p s
  pub claims : ClaimsFit p s
  pub tasks : TasksFit p s
  pub tickets : TicketsFit p s
  pub batches : BatchesFit p s
  pub stops : StopsFit p s
