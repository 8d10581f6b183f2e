-- The table of arrivals with all desks, and the twelve moves on it.
use Rattle.std.specs.Prelude.{ℕ, suc, ◌+◌, ◌/◌, Bool, true, not, ◌==◌, nat_le, if◌then◌else◌, List, [], ◌∷◌, ◌++◌, fold, slice_set, slice_index, replicate}
use mathlib.Core.Option.{Option, none, some}
use lib.ListN.{get_elem?}
use Rattle.arrival_moves.specs.declared.label.Label.{Label}
use Rattle.arrival_moves.specs.declared.plan.Plan.{Plan}
use Rattle.arrival_moves.specs.declared.view.View.{View}
use Rattle.arrival_moves.specs.declared.item.Item.{Item}
use Rattle.arrival_moves.specs.Labels.{task_label}
use Rattle.arrival_moves.specs.Slots.{Slot, fresh, reached, holds, emptied}
use Rattle.arrival_moves.specs.Plans.{task_count, search_of, place_of}
use Rattle.arrival_moves.specs.Items.{is_claimed, is_loaded, is_arrived, is_put, is_batch, is_at_slot, is_due}
use Rattle.arrival_moves.specs.Hands.{find_item, is_empty}
use Rattle.arrival_moves.specs.AfterMove.{first_view, spent_view, after_claim, after_take_task, after_arrive, after_stop, after_stopped}
use Rattle.arrival_moves.specs.AfterMove.{after_reach_result, after_put, after_count, after_take_result, after_reach_batch, after_put_merged}
use Rattle.arrival_moves.specs.AfterMove.{after_split, split_off, after_join, after_close}
use Rattle.arrival_moves.specs.Guards.{may_put, may_put_merged, may_close}

-- the claim word, a ticket word and a stop word for each search, a count word for each batch, the slots of loads, results
-- and merged results, and the desks
pub record ArrivalState : Type 0 where
  pub claimed : ℕ
  pub tickets : List ℕ
  pub counts : List ℕ
  pub stops : List ℕ
  pub loads : List Slot
  pub results : List Slot
  pub batches : List Slot
  pub desks : List View

-- a load for each task, the first of which is k
abbrev pub load_slots : ℕ → List ℕ → List Slot
load_slots k [] = []
load_slots k (q ∷ qs) = holds (task_label k) ∷ load_slots (suc k) qs

-- the table as it is opened, with one desk
abbrev pub opened : Plan → ArrivalState
opened p = record {
  claimed = 0;
  tickets = replicate p.searches 0;
  counts = replicate (task_count p) 0;
  stops = replicate p.searches 0;
  loads = load_slots 0 p.tasks;
  results = replicate (task_count p) fresh;
  batches = replicate (task_count p) fresh;
  desks = first_view ∷ [];
}

-- each names its desk by its place in the list, then its arguments; `put` and `put_merged` are each made twice, first to
-- come to the slot and then to put the result
pub data Move : Type 0 where
  claim : (desk : ℕ) → Move
  take_task : (desk task : ℕ) → Move
  arrive : (desk task : ℕ) → Move
  put : (desk search ticket : ℕ) (label : Label) → Move
  count : (desk search ticket : ℕ) → Move
  take_result : (desk search ticket : ℕ) → Move
  put_merged : (desk search batch : ℕ) (label : Label) → Move
  split : (desk left : ℕ) → Move
  join : (desk other : ℕ) → Move
  close : (desk search batch : ℕ) → Move
  stop : (desk task : ℕ) → Move
  stopped : (desk search : ℕ) → Move

-- what the desk i makes of the state, where there is such a desk and it may
abbrev pub move_some : ArrivalState → (View → Bool) → (View → ArrivalState) → Option View → ArrivalState
move_some s may act none = s
move_some s may act (some v) = if may v then act v else s

unfoldable pub move_desk : ArrivalState → ℕ → (View → Bool) → (View → ArrivalState) → ArrivalState
move_desk s i may act = move_some s may act (get_elem? s.desks i)

-- the same with the first item of the desk's hand that is meant
abbrev pub move_found : ArrivalState → (Item → Bool) → (Item → ArrivalState) → Option Item → ArrivalState
move_found s may act none = s
move_found s may act (some x) = if may x then act x else s

unfoldable pub move_item : ArrivalState → ℕ → (Item → Bool) → (View → Item → Bool) → (View → Item → ArrivalState) → ArrivalState
move_item s i is may act = move_desk s i (λ _. true) (λ v. move_found s (may v) (act v) (find_item is v.hand))

-- what the label of a slot makes of the state, where the slot is full
unfoldable pub move_label : ArrivalState → (Label → ArrivalState) → Option Slot → ArrivalState
move_label s act (some (holds l)) = act l
move_label s act _ = s

-- a move that may not be made leaves the state as it is
abbrev pub move : Plan → ArrivalState → Move → ArrivalState
move p s (claim i) = move_desk s i (λ v. nat_le 1 v.left) (λ v. record s { claimed = s.claimed + 1; desks = slice_set s.desks i (after_claim p v s.claimed) })
move p s (take_task i k) =
    move_item s i (is_claimed k) (λ _ _. true) (λ v x. record s { loads = slice_set s.loads k emptied; desks = slice_set s.desks i (after_take_task v k) })
move p s (arrive i k) = let q = search_of p k in let t = slice_index s.tickets q in
    move_item s i (is_loaded k) (λ _ _. true)
    (λ v x. record s { tickets = slice_set s.tickets q (t + 1); desks = slice_set s.desks i (after_arrive v k x q t) })
move p s (put i q t l) = move_item s i (is_arrived q t) (λ v x. may_put v q l x)
    (λ v x. if is_at_slot x
    then record s { results = slice_set s.results (place_of p q t) (holds l); desks = slice_set s.desks i (after_put v q t) }
    else record s { results = slice_set s.results (place_of p q t) reached; desks = slice_set s.desks i (after_reach_result v q t x) })
move p s (count i q t) = let c = place_of p q (t / p.batch) in let n = slice_index s.counts c + 1 in
    move_item s i (is_put q t) (λ _ _. true) (λ v x. record s { counts = slice_set s.counts c n; desks = slice_set s.desks i (after_count p v q t n) })
move p s (take_result i q t) = move_item s i (is_batch q (t / p.batch)) (λ _ x. is_due t x)
    (λ v x. move_label s
    (λ l. record s { results = slice_set s.results (place_of p q t) emptied; desks = slice_set s.desks i (after_take_result p v q t x l) })
    (get_elem? s.results (place_of p q t)))
move p s (put_merged i q b l) = move_item s i (is_batch q b) (λ _ x. may_put_merged l x)
    (λ v x. if is_at_slot x
    then record s { batches = slice_set s.batches (place_of p q b) (holds l); desks = slice_set s.desks i (after_put_merged v q b) }
    else record s { batches = slice_set s.batches (place_of p q b) reached; desks = slice_set s.desks i (after_reach_batch v q b x) })
move p s (split i k) = move_desk s i (λ v. nat_le k v.left) (λ v. record s { desks = slice_set s.desks i (after_split v k) ++ split_off k ∷ [] })
move p s (join i j) = move_desk s i (λ v. not (i == j))
    (λ v. move_desk s j (λ w. is_empty w.hand) (λ w. record s { desks = slice_set (slice_set s.desks i (after_join v w)) j spent_view }))
move p s (close i q b) = move_desk s i (may_close p q b)
    (λ v. move_label s
    (λ l. record s { batches = slice_set s.batches (place_of p q b) emptied; desks = slice_set s.desks i (after_close v q b l) })
    (get_elem? s.batches (place_of p q b)))
move p s (stop i k) =
    move_item s i (is_loaded k) (λ _ _. true) (λ v x. record s { stops = slice_set s.stops (search_of p k) 1; desks = slice_set s.desks i (after_stop v k) })
move p s (stopped i q) = move_desk s i (λ _. true) (λ v. record s { desks = slice_set s.desks i (after_stopped v q (slice_index s.stops q)) })

-- the state after a list of moves from the opening
abbrev pub run : Plan → List Move → ArrivalState
run p ms = fold (move p) (opened p) ms
