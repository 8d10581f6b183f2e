-- What a desk knows after each move of its own.
use Rattle.std.specs.Prelude.{ℕ, ◌+◌, ◌-◌, ◌*◌, ◌/◌, true, false, ◌||◌, ◌==◌, nat_le, nat_lt, if◌then◌else◌, List, [], ◌∷◌, ◌++◌}
use Rattle.arrival_moves.specs.declared.label.Label.{Label}
use Rattle.arrival_moves.specs.declared.limits.TheConstants.{ALL_CLAIMS}
use Rattle.arrival_moves.specs.declared.plan.Plan.{Plan}
use Rattle.arrival_moves.specs.declared.view.View.{View}
use Rattle.arrival_moves.specs.declared.item.Item.{Item}
use Rattle.arrival_moves.specs.declared.item.Item.TheVariants.{Claimed, Loaded, Arrived, Put, Batch, Closed}
use Rattle.arrival_moves.specs.Lists.{without, numbers_from}
use Rattle.arrival_moves.specs.Labels.{no_label, joined_label}
use Rattle.arrival_moves.specs.Plans.{task_count, batch_size}
use Rattle.arrival_moves.specs.Items.{is_claimed, is_loaded, is_arrived, is_put, is_batch, is_marked}
use Rattle.arrival_moves.specs.Hands.{exchanged}

-- the desk that is opened with the table: all claims are left
abbrev pub first_view : View
first_view = record { left = ALL_CLAIMS; drawn = 0; ended = false; hand = []; stopped = [] }

-- a desk that was joined to another
abbrev pub spent_view : View
spent_view = record { left = 0; drawn = 0; ended = false; hand = []; stopped = [] }

-- the claim found n, which is a task where it is below their number
abbrev pub after_claim : Plan → View → ℕ → View
after_claim p v n = record v {
  left = v.left - 1;
  drawn = v.drawn + 1;
  ended = v.ended || nat_le (task_count p) n;
  hand = if nat_lt n (task_count p) then v.hand ++ Claimed n ∷ [] else v.hand;
}

-- the load of the task k was taken
abbrev pub after_take_task : View → ℕ → View
after_take_task v k = record v { hand = exchanged (is_claimed k) (Loaded (record { task = k; failed = false }) ∷ []) v.hand }

abbrev pub arrived_item : ℕ → Item → ℕ → ℕ → Item
arrived_item k x q t = Arrived (record { task = k; failed = is_marked x; search = q; ticket = t; at_slot = false })

-- the task k, which was x in hand, drew the ticket t of its search q
abbrev pub after_arrive : View → ℕ → Item → ℕ → ℕ → View
after_arrive v k x q t = record v { hand = exchanged (is_loaded k) (arrived_item k x q t ∷ []) v.hand }

-- the item with its desk at the slot
abbrev pub reached_item : Item → Item
reached_item (Arrived x) = Arrived (record x { at_slot = true })
reached_item (Batch x) = Batch (record x { at_slot = true })
reached_item x = x

-- the desk is at the slot of the ticket's result
abbrev pub after_reach_result : View → ℕ → ℕ → Item → View
after_reach_result v q t x = record v { hand = exchanged (is_arrived q t) (reached_item x ∷ []) v.hand }

-- and then the result is there
abbrev pub after_put : View → ℕ → ℕ → View
after_put v q t = record v { hand = exchanged (is_arrived q t) (Put (record { search = q; ticket = t }) ∷ []) v.hand }

-- what comes into the hand with the count n: the whole batch where it is the last
abbrev pub batch_due : Plan → ℕ → ℕ → ℕ → List Item
batch_due p q b n =
    if n == batch_size p q b
    then Batch (record { search = q; batch = b; due = numbers_from (b * p.batch) n; taken = no_label; at_slot = false }) ∷ []
    else []

-- the ticket t was counted, as the n-th of its batch
abbrev pub after_count : Plan → View → ℕ → ℕ → ℕ → View
after_count p v q t n = record v { hand = exchanged (is_put q t) (batch_due p q (t / p.batch) n) v.hand }

-- the batch with the result of t taken, whose label is l
abbrev pub taken_from : Item → ℕ → Label → Item
taken_from (Batch x) t l = Batch (record x { due = without t x.due; taken = joined_label x.taken l })
taken_from x t l = x

abbrev pub after_take_result : Plan → View → ℕ → ℕ → Item → Label → View
after_take_result p v q t x l = record v { hand = exchanged (is_batch q (t / p.batch)) (taken_from x t l ∷ []) v.hand }

-- the desk is at the slot of the batch's merged result
abbrev pub after_reach_batch : View → ℕ → ℕ → Item → View
after_reach_batch v q b x = record v { hand = exchanged (is_batch q b) (reached_item x ∷ []) v.hand }

-- and then the merged result is there
abbrev pub after_put_merged : View → ℕ → ℕ → View
after_put_merged v q b = record v { hand = exchanged (is_batch q b) [] v.hand }

-- k claims were given to a new desk
abbrev pub after_split : View → ℕ → View
after_split v k = record v { left = v.left - k }

-- the new desk
abbrev pub split_off : ℕ → View
split_off k = record { left = k; drawn = 0; ended = false; hand = []; stopped = [] }

-- the desk w, whose hand was empty, was joined to v
abbrev pub after_join : View → View → View
after_join v w = record v { left = v.left + w.left; drawn = v.drawn + w.drawn; ended = v.ended || w.ended; stopped = v.stopped ++ w.stopped }

-- the merged result of the batch b of q was taken out
abbrev pub after_close : View → ℕ → ℕ → Label → View
after_close v q b l = record v { hand = v.hand ++ Closed (record { search = q; batch = b; taken = l }) ∷ [] }

-- the task k is marked failed
abbrev pub after_stop : View → ℕ → View
after_stop v k = record v { hand = exchanged (is_loaded k) (Loaded (record { task = k; failed = true }) ∷ []) v.hand }

-- the stop word of q was read as n
abbrev pub after_stopped : View → ℕ → ℕ → View
after_stopped v q n = record v { stopped = if n == 1 then q ∷ v.stopped else v.stopped }
