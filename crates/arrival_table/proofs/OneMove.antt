-- Each atomic step makes of the words, the slots and the views what one move makes of the state.
use Rattle.std.proofs.Common.{◌≡◌, ◌≢◌, ℕ, ◌+◌, ◌/◌, ◌≤◌, true, false, bit_or, List, [], ◌∷◌, ◌++◌, length, get_or, set, refl, ◌∙◌, arith}
use mathlib.Core.Option.{some}
use lib.ListN.{get_elem?}
use Rattle.atomic_table.specs.Table.{State}
use Rattle.atomic_table.proofs.Lists.{set_else}
use Rattle.arrival_moves.specs.declared.item.Item.{Item}
use Rattle.arrival_moves.specs.declared.label.Label.{Label}
use Rattle.arrival_moves.specs.declared.plan.Plan.{Plan}
use Rattle.arrival_moves.specs.declared.view.View.{View}
use Rattle.arrival_table.specs.declared.cell.Cell.{Cell}
use Rattle.arrival_table.specs.declared.cell.Cell.TheVariants.{Vacant, Load, Outcome}
use Rattle.arrival_table.specs.declared.known.Known.{Known}
use Rattle.arrival_moves.specs.AfterMove.{after_claim, after_take_task, after_arrive, after_reach_result, after_put, after_count, after_take_result, after_reach_batch, after_put_merged, after_stop, after_stopped, after_split, split_off, after_join, spent_view}
use Rattle.arrival_moves.specs.Guards.{may_put, may_put_merged}
use Rattle.arrival_moves.specs.Hands.{find_item}
use Rattle.arrival_moves.specs.Items.{is_claimed, is_loaded, is_arrived, is_put, is_batch, is_at_slot, is_due}
use Rattle.arrival_moves.specs.Labels.{task_label}
use Rattle.arrival_moves.specs.Moves.{Move, claim, take_task, arrive, put, count, take_result, put_merged, split, join, stop, stopped}
use Rattle.arrival_moves.specs.Plans.{search_of, place_of}
use Rattle.arrival_table.specs.Atomic.{word_plus_one, ticket_word, count_word, stop_word, at_word, taking, giving, with_views, IsHome, IsAfter, IsDeskAfter}
use Rattle.arrival_table.specs.Outs.{knows, now_knows, now_has_out}
use Rattle.arrival_table.specs.Steps.{result_slot, batch_slot}
use Rattle.arrival_moves.proofs.Cases.{found_is}
use Rattle.arrival_table.proofs.Allowed.{again, allows_claim, allows_take, allows_arrive, allows_give_back}
use Rattle.arrival_table.proofs.AllowedPut.{away_may, allows_reach, allows_put}
use Rattle.arrival_table.proofs.AllowedCount.{allows_count}
use Rattle.arrival_table.proofs.AllowedMerge.{allows_take_result, allows_reach as allows_reach_batch, allows_put_merged}
use Rattle.arrival_table.proofs.AllowedStop.{allows_stop, allows_read, allows_look}
use Rattle.arrival_table.proofs.AllowedShare.{splits, joins}

module _ {A R : Type 0} (load : A → Label) (outcome : R → Label) (p : Plan) (ms : List Move) (s : State (Cell A R) Known) (i : ℕ) (d : Known) (at : IsDeskAfter load outcome p ms s i d) where
  pub claim_step : 1 ≤ d.view.left → let n = get_or s.words 0 0 in IsAfter load outcome p (ms ++ claim i ∷ []) (at_word s 0 (word_plus_one n) i (now_knows d (after_claim p d.view n)))
  unfolding allows_claim again
  claim_step left = let r = (allows_claim load outcome p at.plan (length s.homes) i (d, []) left s (ms, at.state.0, at.state.1) refl at.view (at.words 0)).3 in (r.1, r.2)

  pub take_task_step : (k : ℕ) (x : Item) → find_item (is_claimed k) d.view.hand ≡ some x
      → (y : A) × IsHome s k (Load y) × (load y ≡ task_label k) × IsAfter load outcome p (ms ++ take_task i k ∷ []) (taking s k (Load y) i (now_has_out d (after_take_task d.view k) k))
  unfolding allows_take again
  take_task_step k x found = let t = allows_take load outcome p at.plan (length s.homes) i k (d, []) x found s (ms, at.state.0, at.state.1) refl at.view (at.words 0) in let y = t.4 in (y.0, t.2, y.2, (t.3.1, t.3.2))

  pub arrive_step : (k : ℕ) (x : Item) → find_item (is_loaded k) d.view.hand ≡ some x
      → let q = search_of p k in let n = get_or s.words (ticket_word q) 0 in IsAfter load outcome p (ms ++ arrive i k ∷ []) (at_word s (ticket_word q) (word_plus_one n) i (now_knows d (after_arrive d.view k x q n)))
  unfolding allows_arrive again
  arrive_step k x found = let r = (allows_arrive load outcome p at.plan (length s.homes) i k (d, []) x found s (ms, at.state.0, at.state.1) refl at.view (at.words (ticket_word (search_of p k)))).3 in (r.1, r.2)

  pub reach_result_step : (q t : ℕ) (x : Item) (l : Label) → find_item (is_arrived q t) d.view.hand ≡ some x → is_at_slot x ≡ false
      → let j = result_slot p q t in IsHome s j Vacant × IsAfter load outcome p (ms ++ put i q t l ∷ []) (taking s j Vacant i (now_has_out d (after_reach_result d.view q t x) j))
  unfolding allows_reach again
  reach_result_step q t x l found shut = let r = allows_reach load outcome p at.plan (length s.homes) i q t (d, []) x l found shut (away_may q t d.view l x (found_is (is_arrived q t) d.view.hand x found) shut) s (ms, at.state.0, at.state.1) refl at.view (at.words 0) in (r.2, (r.3.1, r.3.2))

  pub count_step : (q t : ℕ) (x : Item) → find_item (is_put q t) d.view.hand ≡ some x
      → let w = count_word p q (t / p.batch) in let n = get_or s.words w 0 in IsAfter load outcome p (ms ++ count i q t ∷ []) (at_word s w (word_plus_one n) i (now_knows d (after_count p d.view q t (n + 1))))
  unfolding allows_count again
  count_step q t x found = let r = (allows_count load outcome p at.plan (length s.homes) i q t (p.searches + place_of p q (t / p.batch)) (d, []) x found refl s (ms, at.state.0, at.state.1) refl at.view (at.words (count_word p q (t / p.batch)))).3 in (r.1, r.2)

  pub take_result_step : (q t : ℕ) (x : Item) → find_item (is_batch q (t / p.batch)) d.view.hand ≡ some x → is_due t x ≡ true
      → let j = result_slot p q t in (y : R) × IsHome s j (Outcome y) × IsAfter load outcome p (ms ++ take_result i q t ∷ []) (taking s j (Outcome y) i (now_has_out d (after_take_result p d.view q t x (outcome y)) j))
  unfolding allows_take_result again
  take_result_step q t x found due = let r = allows_take_result load outcome p at.plan (length s.homes) i q t (d, []) x found due s (ms, at.state.0, at.state.1) refl at.view (at.words 0) in (r.4.2, r.2, (r.3.1, r.3.2))

  pub reach_batch_step : (q b : ℕ) (x : Item) (l : Label) → find_item (is_batch q b) d.view.hand ≡ some x → is_at_slot x ≡ false → may_put_merged l x ≡ true
      → let j = batch_slot p q b in IsHome s j Vacant × IsAfter load outcome p (ms ++ put_merged i q b l ∷ []) (taking s j Vacant i (now_has_out d (after_reach_batch d.view q b x) j))
  unfolding allows_reach_batch again
  reach_batch_step q b x l found shut may = let r = allows_reach_batch load outcome p at.plan (length s.homes) i q b (d, []) x l found shut may s (ms, at.state.0, at.state.1) refl at.view (at.words 0) in (r.2, (r.3.1, r.3.2))

  pub stop_step : (k : ℕ) (x : Item) → find_item (is_loaded k) d.view.hand ≡ some x
      → let w = stop_word p (search_of p k) in IsAfter load outcome p (ms ++ stop i k ∷ []) (at_word s w (bit_or (get_or s.words w 0) 1) i (now_knows d (after_stop d.view k)))
  unfolding allows_stop again
  stop_step k x found = let r = (allows_stop load outcome p at.plan (length s.homes) i k (d, []) x found s (ms, at.state.0, at.state.1) refl at.view (at.words (stop_word p (search_of p k)))).3 in (r.1, r.2)

  pub stopped_step : (q : ℕ) → let w = stop_word p q in let n = get_or s.words w 0 in IsAfter load outcome p (ms ++ stopped i q ∷ []) (at_word s w n i (now_knows d (after_stopped d.view q n)))
  unfolding allows_read again
  stopped_step q = let r = (allows_read load outcome p at.plan (length s.homes) i q (d, []) s (ms, at.state.0, at.state.1) refl at.view (at.words (stop_word p q))).3 in (r.1, r.2)

  pub look_step : IsAfter load outcome p ms (at_word s 0 (get_or s.words 0 0) i d)
  unfolding allows_look
  look_step = let r = (allows_look load outcome p at.plan (length s.homes) i (d, []) s (ms, at.state.0, at.state.1) refl at.view (at.words 0)).3 in (r.1, r.2)

  pub split_step : (k : ℕ) → k ≤ d.view.left → IsAfter load outcome p (ms ++ split i k ∷ []) (with_views s (set s.views i (now_knows d (after_split d.view k)) ++ knows (split_off k) ∷ []))
  unfolding splits again
  split_step k less = let r = splits load outcome p at.plan i k d less s (ms, at.state.0, at.state.1) at.view in (r.1, r.2)

  pub join_step : (j : ℕ) (w : View) → j ≢ i → get_elem? s.views j ≡ some (knows w) → w.hand ≡ [] → IsAfter load outcome p (ms ++ join i j ∷ []) (with_views s (set (set s.views i (now_knows d (after_join d.view w))) j (knows spent_view)))
  unfolding joins again
  join_step j w other there empty = let both : Known = now_knows d (after_join d.view w) in
      let r = joins load outcome p at.plan i j d (knows w) refl empty s (ms, at.state.0, at.state.1) at.view (λ e. other e) (set_else s.views i j both other ∙ there) in (r.1, r.2)

-- the steps of a desk that has one slot out
module _ {A R : Type 0} (load : A → Label) (outcome : R → Label) (p : Plan) (ms : List Move) (s : State (Cell A R) Known) (i : ℕ) (v : View) where
  pub put_step : (q t : ℕ) (x : Item) (y : R) → let j = result_slot p q t in IsDeskAfter load outcome p ms s i (now_has_out (knows v) v j) → find_item (is_arrived q t) v.hand ≡ some x → is_at_slot x ≡ true → may_put v q (outcome y) x ≡ true
      → IsAfter load outcome p (ms ++ put i q t (outcome y) ∷ []) (giving s j (Outcome y) i (knows (after_put v q t)))
  unfolding allows_put again
  put_step q t x y at found there may = let n = at.slots in let r = (allows_put load outcome p at.plan (length s.homes) i q t v x y (omega arith) found there may s (ms, at.state.0, at.state.1) refl at.view (at.words 0)).3 in (r.1, r.2)

  pub put_merged_step : (q b : ℕ) (x : Item) (y : R) → let j = batch_slot p q b in IsDeskAfter load outcome p ms s i (now_has_out (knows v) v j) → find_item (is_batch q b) v.hand ≡ some x → is_at_slot x ≡ true → may_put_merged (outcome y) x ≡ true
      → IsAfter load outcome p (ms ++ put_merged i q b (outcome y) ∷ []) (giving s j (Outcome y) i (knows (after_put_merged v q b)))
  unfolding allows_put_merged again
  put_merged_step q b x y at found there may = let n = at.slots in let r = (allows_put_merged load outcome p at.plan (length s.homes) i q b v x y (omega arith) found there may s (ms, at.state.0, at.state.1) refl at.view (at.words 0)).3 in (r.1, r.2)

  pub give_back_step : (j : ℕ) (y : Cell A R) → IsDeskAfter load outcome p ms s i (now_has_out (knows v) v j) → IsAfter load outcome p ms (giving s j y i (knows v))
  unfolding allows_give_back
  give_back_step j y at = let r = (allows_give_back load outcome p at.plan (length s.homes) i j v y s (ms, at.state.0, at.state.1) refl at.view (at.words 0)).3 in (r.1, r.2)
