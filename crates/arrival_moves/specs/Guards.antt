-- When a desk may put a result or a merged result, and close the table.
use Rattle.std.specs.Prelude.{ℕ, ◌+◌, ◌*◌, Bool, false, not, ◌&&◌, ◌||◌, ◌==◌, nat_le, nat_lt, [], ◌∷◌}
use Rattle.arrival_moves.specs.declared.label.Label.{Label}
use Rattle.arrival_moves.specs.declared.limits.TheConstants.{ALL_CLAIMS}
use Rattle.arrival_moves.specs.declared.plan.Plan.{Plan}
use Rattle.arrival_moves.specs.declared.view.View.{View}
use Rattle.arrival_moves.specs.declared.item.Item.{Item}
use Rattle.arrival_moves.specs.declared.item.Item.TheVariants.{Arrived, Batch}
use Rattle.arrival_moves.specs.Lists.{contains, same_list}
use Rattle.arrival_moves.specs.Plans.{tasks_of}
use Rattle.arrival_moves.specs.Hands.{all_closed}

-- where the one is true, so is the other
abbrev pub implies : Bool → Bool → Bool
implies a b = not a || b

-- the label that a task's result must have once its desk is at the slot: the task alone, failed where the task is marked,
-- and skipped only where the desk noted the search q as stopped
abbrev pub may_put : View → ℕ → Label → Item → Bool
may_put v q l (Arrived x) = not x.at_slot || (same_list l.tasks (x.task ∷ []) && implies x.failed l.failed && implies l.skipped (contains q v.stopped))
may_put v q l _ = false

-- all results were taken; and the label that the merged result must have once its desk is at the slot: the tasks of the
-- taken results, failed where one of them is, and skipped exactly where one of them is
abbrev pub may_put_merged : Label → Item → Bool
may_put_merged l (Batch x) =
    same_list x.due []
    && (not x.at_slot
    || (same_list l.tasks x.taken.tasks && implies x.taken.failed l.failed && implies l.skipped x.taken.skipped && implies x.taken.skipped l.skipped))
may_put_merged l _ = false

-- the desk is whole and ended, and has nothing in hand but what it took out; and the search q has a batch b
abbrev pub may_close : Plan → ℕ → ℕ → View → Bool
may_close p q b v = nat_le 1 v.drawn && (v.left + v.drawn == ALL_CLAIMS) && v.ended && all_closed v.hand && nat_lt (b * p.batch) (tasks_of p q)
