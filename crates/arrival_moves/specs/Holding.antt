-- What a desk has in hand it has alone, and what it is to take is there.
use Rattle.std.specs.Prelude.{◌≡◌, ℕ, ◌/◌, ◌≤◌, IsTrue, length}
use mathlib.Core.Option.{some}
use lib.ListN.{get_elem?}
use Rattle.arrival_moves.specs.declared.label.Label.{Label}
use Rattle.arrival_moves.specs.declared.plan.Plan.{Plan}
use Rattle.arrival_moves.specs.declared.view.View.{View}
use Rattle.arrival_moves.specs.declared.item.Item.{Item}
use Rattle.arrival_moves.specs.Labels.{task_times}
use Rattle.arrival_moves.specs.Slots.{holds}
use Rattle.arrival_moves.specs.Plans.{place_of}
use Rattle.arrival_moves.specs.Items.{is_arrived, is_batch, is_due, in_item}
use Rattle.arrival_moves.specs.Hands.{find_item, in_hand, HasItem}
use Rattle.arrival_moves.specs.Moves.{ArrivalState}
use Rattle.arrival_moves.specs.Fairness.{everywhere, IsOfSearch}

-- the desk at place i knows v
abbrev pub IsDesk : ArrivalState → ℕ → View → Type 0
IsDesk s i v = get_elem? s.desks i ≡ some v

-- the task k is in the desk's hand, itself or in the label of a batch
abbrev pub HasTask : ℕ → View → Type 0
HasTask k v = 1 ≤ in_hand (in_item (task_times k)) v

pub record IsHeldAlone (s : ArrivalState) : Type 0 where
  -- two desks that have a task, a ticket with its task, or a batch in hand are one
  pub task : (i j k : ℕ) (v w : View) → IsDesk s i v → IsDesk s j w → HasTask k v → HasTask k w → i ≡ j
  pub ticket : (i j q t : ℕ) (v w : View) → IsDesk s i v → IsDesk s j w → HasItem (is_arrived q t) v → HasItem (is_arrived q t) w → i ≡ j
  pub batch : (i j q b : ℕ) (v w : View) → IsDesk s i v → IsDesk s j w → HasItem (is_batch q b) v → HasItem (is_batch q b) w → i ≡ j
  -- the number that the next claim finds is no task of any hand or label
  pub claim : everywhere (task_times s.claimed) s ≡ 0

-- where a desk has a batch with the ticket t due, the result lies in its slot and stands for one task of the search
abbrev pub HasDueResults : Plan → ArrivalState → Type 0
HasDueResults p s = (i q t : ℕ) (v : View) (x : Item) → IsDesk s i v → find_item (is_batch q (t / p.batch)) v.hand ≡ some x → IsTrue (is_due t x)
    → (l : Label) × (get_elem? s.results (place_of p q t) ≡ some (holds l)) × (length l.tasks ≡ 1) × IsOfSearch p q l
