-- What a call asks of a desk d, and what it leaves of it, e.
use Rattle.std.specs.Prelude.{◌≡◌, ◌≢◌, ℕ, ◌+◌, ◌/◌, ◌<◌, ◌≤◌, IsTrue, [], ◌∷◌}
use Rattle.arrival_moves.specs.declared.label.Label.{Label}
use Rattle.arrival_moves.specs.declared.plan.Plan.{Plan}
use Rattle.arrival_moves.specs.declared.view.View.{View}
use Rattle.arrival_moves.specs.AfterMove.{after_claim, after_arrive, after_count, after_take_result}
use Rattle.arrival_moves.specs.Items.{is_loaded, is_batch}
use Rattle.arrival_moves.specs.Lists.{contains}
use Rattle.arrival_moves.specs.Plans.{task_count, search_of, batch_size}
use Rattle.arrival_table.specs.Holding.{found_item, ticket_task, is_ticket_marked, due_tickets, taken_label}
use Rattle.arrival_table.specs.Models.{DeskModel, with_view}

-- one claim less is left, and one more was made
abbrev pub HasClaimed : DeskModel → DeskModel → Type 0
HasClaimed d e = (e.view.left + 1 ≡ d.view.left) × (e.view.drawn ≡ d.view.drawn + 1)

-- the claim found the number n, which is a task; it is at least the desk's own claims before
abbrev pub HasDrawn : Plan → DeskModel → DeskModel → ℕ → Type 0
HasDrawn p d e n = (n < task_count p) × (d.view.drawn ≤ n) × (e ≡ with_view d (after_claim p d.view n))

-- the claim found a number that is no task
abbrev pub HasEnded : Plan → DeskModel → DeskModel → Type 0
HasEnded p d e = (n : ℕ) × (task_count p ≤ n) × (e ≡ with_view d (after_claim p d.view n))

-- the task k drew the ticket t of its search
abbrev pub HasArrived : Plan → ℕ → ℕ → DeskModel → DeskModel → Type 0
HasArrived p k t d e = e ≡ with_view d (after_arrive d.view k (found_item (is_loaded k) d.view) (search_of p k) t)

-- what the result of the ticket t of q stands for: its task alone, failed where the task is marked, and skipped only where
-- the desk noted the search
abbrev pub IsResultOf : ℕ → ℕ → View → Label → Type 0
IsResultOf q t v l =
    (l.tasks ≡ ticket_task q t v ∷ []) × (IsTrue (is_ticket_marked q t v) → IsTrue l.failed) × (IsTrue l.skipped → IsTrue (contains q v.stopped))

-- the ticket t of q was counted as the last of its batch, b
abbrev pub HasCountedLast : Plan → ℕ → ℕ → DeskModel → DeskModel → ℕ → Type 0
HasCountedLast p q t d e b = (b ≡ t / p.batch) × (e ≡ with_view d (after_count p d.view q t (batch_size p q b)))

-- it was counted, and not as the last
abbrev pub HasCountedEarly : Plan → ℕ → ℕ → DeskModel → DeskModel → Type 0
HasCountedEarly p q t d e = (n : ℕ) × (n ≢ batch_size p q (t / p.batch)) × (e ≡ with_view d (after_count p d.view q t n))

-- the result of the ticket t of q is still to be taken
abbrev pub IsDue : Plan → ℕ → ℕ → View → Type 0
IsDue p q t v = IsTrue (contains t (due_tickets q (t / p.batch) v))

-- it was taken, and its label is l
abbrev pub HasTakenResult : Plan → ℕ → ℕ → Label → DeskModel → DeskModel → Type 0
HasTakenResult p q t l d e = e ≡ with_view d (after_take_result p d.view q t (found_item (is_batch q (t / p.batch)) d.view) l)

-- what the merged result of the batch b of q stands for: the tasks of the results that were taken, failed where one of them
-- is, and skipped exactly where one of them is
abbrev pub IsMergedOf : ℕ → ℕ → View → Label → Type 0
IsMergedOf q b v l =
    (l.tasks ≡ (taken_label q b v).tasks) × (IsTrue (taken_label q b v).failed → IsTrue l.failed) × (l.skipped ≡ (taken_label q b v).skipped)
