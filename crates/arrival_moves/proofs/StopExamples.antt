-- A stopped search beside one that runs on, and two desks by split and join, computed.
use Rattle.std.specs.Prelude.{◌≡◌, refl, true, false, List, [], ◌∷◌, ◌++◌}
use Rattle.arrival_moves.specs.declared.label.Label.{Label}
use Rattle.arrival_moves.specs.declared.plan.Plan.{Plan}
use Rattle.arrival_moves.specs.declared.item.Item.TheVariants.{Claimed, Loaded, Closed}
use Rattle.arrival_moves.specs.Labels.{task_label}
use Rattle.arrival_moves.specs.Slots.{fresh, holds, emptied}
use Rattle.arrival_moves.specs.AfterMove.{spent_view}
use Rattle.arrival_moves.specs.Moves.{Move, claim, take_task, arrive, put, count, take_result, put_merged, split, join, close, stop, stopped, run, move_desk, move_item, move_label}

-- two tasks of search 0 and one of search 1
abbrev two_searches : Plan
two_searches = record { tasks = 0 ∷ 0 ∷ 1 ∷ []; searches = 2; batch = 2 }

abbrev failed_first : Label
failed_first = record { tasks = 0 ∷ []; failed = true; skipped = false }

abbrev skipped_second : Label
skipped_second = record { tasks = 1 ∷ []; failed = false; skipped = true }

abbrev both : Label
both = record { tasks = 0 ∷ 1 ∷ []; failed = true; skipped = true }

-- task 0 fails, and the desk finds its search stopped and the other not
abbrev stops_first : List Move
stops_first = claim 0 ∷ claim 0 ∷ claim 0 ∷ claim 0 ∷ take_task 0 0 ∷ stop 0 0 ∷ stopped 0 0 ∷ stopped 0 1 ∷ []

the_search_is_noted_as_stopped : run two_searches stops_first ≡ record {
  claimed = 4;
  tickets = 0 ∷ 0 ∷ [];
  counts = 0 ∷ 0 ∷ 0 ∷ [];
  stops = 1 ∷ 0 ∷ [];
  loads = emptied ∷ holds (task_label 1) ∷ holds (task_label 2) ∷ [];
  results = fresh ∷ fresh ∷ fresh ∷ [];
  batches = fresh ∷ fresh ∷ fresh ∷ [];
  desks = record { left = 4294967292; drawn = 4; ended = true; hand = Loaded (record { task = 0; failed = true }) ∷ Claimed 1 ∷ Claimed 2 ∷ []; stopped = 0 ∷ [] } ∷ [];
}
unfolding move_desk move_item move_label
the_search_is_noted_as_stopped = refl

abbrev puts_both : List Move
puts_both = stops_first ++ (arrive 0 0 ∷ put 0 0 0 failed_first ∷ put 0 0 0 failed_first ∷ take_task 0 1 ∷ arrive 0 1 ∷ put 0 0 1 skipped_second ∷ put 0 0 1 skipped_second ∷ count 0 0 0 ∷ count 0 0 1 ∷ take_result 0 0 0 ∷ take_result 0 0 1 ∷ put_merged 0 0 0 both ∷ put_merged 0 0 0 both ∷ [])

-- the merged result of the stopped search says failed and skipped; task 2 of the other search is untouched
a_stopped_search_is_merged_as_failed : run two_searches puts_both ≡ record {
  claimed = 4;
  tickets = 2 ∷ 0 ∷ [];
  counts = 2 ∷ 0 ∷ 0 ∷ [];
  stops = 1 ∷ 0 ∷ [];
  loads = emptied ∷ emptied ∷ holds (task_label 2) ∷ [];
  results = emptied ∷ emptied ∷ fresh ∷ [];
  batches = holds both ∷ fresh ∷ fresh ∷ [];
  desks = record { left = 4294967292; drawn = 4; ended = true; hand = Claimed 2 ∷ []; stopped = 0 ∷ [] } ∷ [];
}
unfolding move_desk move_item move_label
a_stopped_search_is_merged_as_failed = refl

-- a task whose search the desk did not note as stopped is not put as skipped
abbrev one_arrived : List Move
one_arrived = claim 0 ∷ take_task 0 0 ∷ arrive 0 0 ∷ put 0 0 0 (task_label 0) ∷ []

a_skipped_task_needs_the_note : run two_searches (one_arrived ++ (put 0 0 0 (record { tasks = 0 ∷ []; failed = false; skipped = true }) ∷ [])) ≡ run two_searches one_arrived
unfolding move_desk move_item move_label
a_skipped_task_needs_the_note = refl

-- one task, two desks
abbrev one_task : Plan
one_task = record { tasks = 0 ∷ []; searches = 1; batch = 2 }

abbrev shared : List Move
shared = split 0 2 ∷ claim 1 ∷ claim 0 ∷ take_task 1 0 ∷ arrive 1 0 ∷ put 1 0 0 (task_label 0) ∷ put 1 0 0 (task_label 0) ∷ count 1 0 0 ∷ take_result 1 0 0 ∷ put_merged 1 0 0 (task_label 0) ∷ put_merged 1 0 0 (task_label 0) ∷ []

-- the new desk draws the task, the first one finds none
two_desks_share_the_claims : run one_task shared ≡ record {
  claimed = 2;
  tickets = 1 ∷ [];
  counts = 1 ∷ [];
  stops = 0 ∷ [];
  loads = emptied ∷ [];
  results = emptied ∷ [];
  batches = holds (task_label 0) ∷ [];
  desks = record { left = 4294967293; drawn = 1; ended = true; hand = []; stopped = [] } ∷ record { left = 1; drawn = 1; ended = false; hand = []; stopped = [] } ∷ [];
}
unfolding move_desk move_item move_label
two_desks_share_the_claims = refl

-- joined they are whole again, and the merged result is taken out
joined_desks_close : run one_task (shared ++ (join 0 1 ∷ close 0 0 0 ∷ [])) ≡ record {
  claimed = 2;
  tickets = 1 ∷ [];
  counts = 1 ∷ [];
  stops = 0 ∷ [];
  loads = emptied ∷ [];
  results = emptied ∷ [];
  batches = emptied ∷ [];
  desks = record { left = 4294967294; drawn = 2; ended = true; hand = Closed (record { search = 0; batch = 0; taken = task_label 0 }) ∷ []; stopped = [] } ∷ spent_view ∷ [];
}
unfolding move_desk move_item move_label
joined_desks_close = refl

-- a desk that is not whole takes nothing out
half_a_desk_does_not_close : run one_task (shared ++ (close 0 0 0 ∷ [])) ≡ run one_task shared
unfolding move_desk move_item move_label
half_a_desk_does_not_close = refl
