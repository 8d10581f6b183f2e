-- What a thing in a desk's hand is, and what each counts in the sums of the laws.
use Rattle.std.specs.Prelude.{ℕ, ◌/◌, Bool, true, false, not, ◌&&◌, ◌==◌, if◌then◌else◌, [], ◌∷◌}
use Rattle.arrival_moves.specs.declared.label.Label.{Label}
use Rattle.arrival_moves.specs.declared.plan.Plan.{Plan}
use Rattle.arrival_moves.specs.declared.item.Item.{Item}
use Rattle.arrival_moves.specs.declared.item.Item.TheVariants.{Claimed, Loaded, Arrived, Put, Batch, Closed}
use Rattle.arrival_moves.specs.Lists.{one_if, times, contains}
use Rattle.arrival_moves.specs.Labels.{no_label, task_label}
use Rattle.arrival_moves.specs.Plans.{search_of}

-- the claimed task k
abbrev pub is_claimed : ℕ → Item → Bool
is_claimed k (Claimed j) = j == k
is_claimed k _ = false

-- the task k with its load taken
abbrev pub is_loaded : ℕ → Item → Bool
is_loaded k (Loaded x) = x.task == k
is_loaded k _ = false

-- the task that drew the ticket t of the search q
abbrev pub is_arrived : ℕ → ℕ → Item → Bool
is_arrived q t (Arrived x) = (x.search == q) && (x.ticket == t)
is_arrived q t _ = false

-- the ticket t of q, whose result was put
abbrev pub is_put : ℕ → ℕ → Item → Bool
is_put q t (Put x) = (x.search == q) && (x.ticket == t)
is_put q t _ = false

-- the batch b of q
abbrev pub is_batch : ℕ → ℕ → Item → Bool
is_batch q b (Batch x) = (x.search == q) && (x.batch == b)
is_batch q b _ = false

-- a merged result that was taken out
abbrev pub is_closed : Item → Bool
is_closed (Closed x) = true
is_closed _ = false

-- the desk is at the slot of this item's result
abbrev pub is_at_slot : Item → Bool
is_at_slot (Arrived x) = x.at_slot
is_at_slot (Batch x) = x.at_slot
is_at_slot _ = false

-- the ticket t is still to be taken, and the desk is not yet at the merged result's slot
abbrev pub is_due : ℕ → Item → Bool
is_due t (Batch x) = contains t x.due && not x.at_slot
is_due t _ = false

-- whether the task is marked failed
abbrev pub is_marked : Item → Bool
is_marked (Loaded x) = x.failed
is_marked (Arrived x) = x.failed
is_marked _ = false

-- a number of the tasks that the item stands for
abbrev pub in_item : (Label → ℕ) → Item → ℕ
in_item f (Claimed j) = f (task_label j)
in_item f (Loaded x) = f (record { tasks = x.task ∷ []; failed = x.failed; skipped = false })
in_item f (Arrived x) = f (record { tasks = x.task ∷ []; failed = x.failed; skipped = false })
in_item f (Put x) = f no_label
in_item f (Batch x) = f x.taken
in_item f (Closed x) = f x.taken

-- 1 where the item is the claimed task k
abbrev pub claimed_at : ℕ → Item → ℕ
claimed_at k x = one_if (is_claimed k x)

-- 1 where the item is a task of the search q that has no ticket yet
abbrev pub waiting_of : Plan → ℕ → Item → ℕ
waiting_of p q (Claimed j) = one_if (search_of p j == q)
waiting_of p q (Loaded x) = one_if (search_of p x.task == q)
waiting_of p q _ = 0

-- 1 where the item is the ticket t of q with its task, whose result is not yet put
abbrev pub arrived_at : ℕ → ℕ → Item → ℕ
arrived_at q t x = one_if (is_arrived q t x)

-- 1 where the desk is at this ticket's slot to put the result
abbrev pub reached_at : ℕ → ℕ → Item → ℕ
reached_at q t (Arrived x) = one_if ((x.search == q) && (x.ticket == t) && x.at_slot)
reached_at q t _ = 0

-- 1 where the item is the ticket t of q, put and not yet counted
abbrev pub put_at : ℕ → ℕ → Item → ℕ
put_at q t x = one_if (is_put q t x)

-- 1 where the item is a ticket of the batch b of q that is not yet counted
abbrev pub uncounted_in : Plan → ℕ → ℕ → Item → ℕ
uncounted_in p q b (Arrived x) = one_if ((x.search == q) && (x.ticket / p.batch == b))
uncounted_in p q b (Put x) = one_if ((x.search == q) && (x.ticket / p.batch == b))
uncounted_in p q b _ = 0

-- 1 where the item is the batch b of q
abbrev pub batch_at : ℕ → ℕ → Item → ℕ
batch_at q b x = one_if (is_batch q b x)

-- how often the ticket t of q is to be taken
abbrev pub due_at : ℕ → ℕ → Item → ℕ
due_at q t (Batch x) = if x.search == q then times t x.due else 0
due_at q t _ = 0

-- 1 where the desk is at the slot of the batch b of q to put the merged result
abbrev pub merging_at : ℕ → ℕ → Item → ℕ
merging_at q b (Batch x) = one_if ((x.search == q) && (x.batch == b) && x.at_slot)
merging_at q b _ = 0

-- 1 where the item is the merged result of the batch b of q, taken out
abbrev pub closed_at : ℕ → ℕ → Item → ℕ
closed_at q b (Closed x) = one_if ((x.search == q) && (x.batch == b))
closed_at q b _ = 0
