-- Three tasks of one search in batches of 2, run by one desk, computed.
use Rattle.std.specs.Prelude.{◌≡◌, refl, ℕ, true, false, List, [], ◌∷◌, ◌++◌}
use Rattle.arrival_moves.specs.declared.label.Label.{Label}
use Rattle.arrival_moves.specs.declared.plan.Plan.{Plan}
use Rattle.arrival_moves.specs.declared.view.View.{View}
use Rattle.arrival_moves.specs.declared.item.Item.{Item}
use Rattle.arrival_moves.specs.declared.item.Item.TheVariants.{Claimed, Put, Batch}
use Rattle.arrival_moves.specs.Labels.{task_label, no_label}
use Rattle.arrival_moves.specs.Slots.{fresh, holds, emptied}
use Rattle.arrival_moves.specs.Moves.{Move, claim, take_task, arrive, put, count, take_result, put_merged, run, move_desk, move_item, move_label}

abbrev three_tasks : Plan
three_tasks = record { tasks = 0 ∷ 0 ∷ 0 ∷ []; searches = 1; batch = 2 }

-- the desk with this hand, after four claims
abbrev four_claims : List Item → View
four_claims hand = record { left = 4294967292; drawn = 4; ended = true; hand = hand; stopped = [] }

abbrev put_ticket : ℕ → Item
put_ticket t = Put (record { search = 0; ticket = t })

abbrev claims : List Move
claims = claim 0 ∷ claim 0 ∷ claim 0 ∷ claim 0 ∷ []

-- tasks 0, 1 and 2 are drawn, and a fourth claim finds none and ends the desk
four_claims_find_three_tasks : run three_tasks claims ≡ record {
  claimed = 4;
  tickets = 0 ∷ [];
  counts = 0 ∷ 0 ∷ 0 ∷ [];
  stops = 0 ∷ [];
  loads = holds (task_label 0) ∷ holds (task_label 1) ∷ holds (task_label 2) ∷ [];
  results = fresh ∷ fresh ∷ fresh ∷ [];
  batches = fresh ∷ fresh ∷ fresh ∷ [];
  desks = four_claims (Claimed 0 ∷ Claimed 1 ∷ Claimed 2 ∷ []) ∷ [];
}
unfolding move_desk move_item move_label
four_claims_find_three_tasks = refl

-- task 2 arrives first, then 0, then 1
abbrev arrivals : List Move
arrivals = claims ++ (take_task 0 0 ∷ take_task 0 1 ∷ take_task 0 2 ∷ arrive 0 2 ∷ arrive 0 0 ∷ arrive 0 1 ∷ [])

abbrev puts : List Move
puts = arrivals ++ (put 0 0 0 (task_label 2) ∷ put 0 0 0 (task_label 2) ∷ put 0 0 1 (task_label 0) ∷ put 0 0 1 (task_label 0) ∷ put 0 0 2 (task_label 1) ∷ put 0 0 2 (task_label 1) ∷ [])

-- tickets are drawn in the order of arrival, and each result lies in the slot of its ticket
results_lie_by_ticket : run three_tasks puts ≡ record {
  claimed = 4;
  tickets = 3 ∷ [];
  counts = 0 ∷ 0 ∷ 0 ∷ [];
  stops = 0 ∷ [];
  loads = emptied ∷ emptied ∷ emptied ∷ [];
  results = holds (task_label 2) ∷ holds (task_label 0) ∷ holds (task_label 1) ∷ [];
  batches = fresh ∷ fresh ∷ fresh ∷ [];
  desks = four_claims (put_ticket 1 ∷ put_ticket 2 ∷ put_ticket 0 ∷ []) ∷ [];
}
unfolding move_desk move_item move_label
results_lie_by_ticket = refl

-- the label of another task is not put: the move changes nothing
another_label_is_not_put : run three_tasks (arrivals ++ (put 0 0 0 (task_label 2) ∷ put 0 0 0 (task_label 1) ∷ [])) ≡ run three_tasks (arrivals ++ (put 0 0 0 (task_label 2) ∷ []))
unfolding move_desk move_item move_label
another_label_is_not_put = refl

abbrev counted : List Move
counted = puts ++ (count 0 0 0 ∷ count 0 0 1 ∷ count 0 0 2 ∷ [])

abbrev due_batch : ℕ → List ℕ → Item
due_batch b due = Batch (record { search = 0; batch = b; due = due; taken = no_label; at_slot = false })

-- the first count brings nothing, the second batch 0 and the third the short batch 1
last_counts_bring_the_batches : run three_tasks counted ≡ record {
  claimed = 4;
  tickets = 3 ∷ [];
  counts = 2 ∷ 1 ∷ 0 ∷ [];
  stops = 0 ∷ [];
  loads = emptied ∷ emptied ∷ emptied ∷ [];
  results = holds (task_label 2) ∷ holds (task_label 0) ∷ holds (task_label 1) ∷ [];
  batches = fresh ∷ fresh ∷ fresh ∷ [];
  desks = four_claims (due_batch 0 (0 ∷ 1 ∷ []) ∷ due_batch 1 (2 ∷ []) ∷ []) ∷ [];
}
unfolding move_desk move_item move_label
last_counts_bring_the_batches = refl

abbrev first_batch : Label
first_batch = record { tasks = 2 ∷ 0 ∷ []; failed = false; skipped = false }

abbrev merges : List Move
merges = counted ++ (take_result 0 0 0 ∷ take_result 0 0 1 ∷ put_merged 0 0 0 first_batch ∷ put_merged 0 0 0 first_batch ∷ take_result 0 0 2 ∷ put_merged 0 0 1 (task_label 1) ∷ put_merged 0 0 1 (task_label 1) ∷ [])

-- both merged results lie in their slots, and nothing is in hand
both_batches_are_merged : run three_tasks merges ≡ record {
  claimed = 4;
  tickets = 3 ∷ [];
  counts = 2 ∷ 1 ∷ 0 ∷ [];
  stops = 0 ∷ [];
  loads = emptied ∷ emptied ∷ emptied ∷ [];
  results = emptied ∷ emptied ∷ emptied ∷ [];
  batches = holds first_batch ∷ holds (task_label 1) ∷ fresh ∷ [];
  desks = four_claims [] ∷ [];
}
unfolding move_desk move_item move_label
both_batches_are_merged = refl

-- a batch with a ticket still due is not merged
a_batch_with_tickets_due_is_not_merged : run three_tasks (counted ++ (take_result 0 0 0 ∷ put_merged 0 0 0 (task_label 2) ∷ [])) ≡ run three_tasks (counted ++ (take_result 0 0 0 ∷ []))
unfolding move_desk move_item move_label
a_batch_with_tickets_due_is_not_merged = refl
