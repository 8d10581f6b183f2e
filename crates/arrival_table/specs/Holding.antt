-- What a contract reads of a desk's hand.
use Rattle.std.specs.Prelude.{◌≡◌, ◌≤◌, ℕ, ◌+◌, Bool, false, List, []}
use mathlib.Core.Option.{Option, none, some}
use Rattle.arrival_moves.specs.declared.item.Item.{Item}
use Rattle.arrival_moves.specs.declared.item.Item.TheVariants.{Claimed, Arrived, Batch}
use Rattle.arrival_moves.specs.declared.label.Label.{Label}
use Rattle.arrival_moves.specs.declared.view.View.{View}
use Rattle.arrival_moves.specs.Hands.{find_item, HasItem}
use Rattle.arrival_moves.specs.Items.{is_arrived, is_batch, is_at_slot, is_marked}
use Rattle.arrival_moves.specs.Labels.{no_label, task_times}

-- the first item that is meant, where the desk has one
abbrev pub item_or : Option Item → Item
item_or none = Claimed 0
item_or (some x) = x

abbrev pub found_item : (Item → Bool) → View → Item
found_item is v = item_or (find_item is v.hand)

-- the task of an item that drew a ticket
abbrev pub arrived_task : Item → ℕ
arrived_task (Arrived x) = x.task
arrived_task _ = 0

-- the desk drew the ticket t of the search q and did not put its result
abbrev pub HasTicket : ℕ → ℕ → View → Type 0
HasTicket q t v = HasItem (is_arrived q t) v × (is_at_slot (found_item (is_arrived q t) v) ≡ false)

-- its task, and whether that is marked failed
abbrev pub ticket_task : ℕ → ℕ → View → ℕ
ticket_task q t v = arrived_task (found_item (is_arrived q t) v)

abbrev pub is_ticket_marked : ℕ → ℕ → View → Bool
is_ticket_marked q t v = is_marked (found_item (is_arrived q t) v)

-- the desk counted the batch b of q last and did not put its merged result
abbrev pub HasBatch : ℕ → ℕ → View → Type 0
HasBatch q b v = HasItem (is_batch q b) v × (is_at_slot (found_item (is_batch q b) v) ≡ false)

-- the tickets of it that are still to be taken, and what the results that were taken stand for
abbrev pub due_in : Item → List ℕ
due_in (Batch x) = x.due
due_in _ = []

abbrev pub due_tickets : ℕ → ℕ → View → List ℕ
due_tickets q b v = due_in (found_item (is_batch q b) v)

abbrev pub taken_in : Item → Label
taken_in (Batch x) = x.taken
taken_in _ = no_label

abbrev pub taken_label : ℕ → ℕ → View → Label
taken_label q b v = taken_in (found_item (is_batch q b) v)

-- no task of l stands twice in it, or among the results of the batch that were taken before
abbrev pub AreNew : ℕ → ℕ → View → Label → Type 0
AreNew q b v l = (k : ℕ) → task_times k (taken_label q b v) + task_times k l ≤ 1
