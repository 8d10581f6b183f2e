-- For a caller whose desk has at most one thing in hand: each call's clause gives what the next one asks, from the claim of
-- a task to its batch's merged result, after which the hand is empty again.
use Rattle.std.proofs.Common.{◌≡◌, ◌≢◌, ℕ, suc, ◌*◌, ◌/◌, ◌<◌, Bool, true, false, cond, List, [], ◌∷◌, ◌++◌, refl, ap, ◌∙◌}
use Rattle.std.proofs.lemmas.Bool.{and_from, or_left, eq-eqb, lt-ltb, ne_eqb}
use mathlib.Core.Option.{some}
use Rattle.arrival_moves.specs.declared.item.Item.{Item}
use Rattle.arrival_moves.specs.declared.item.Item.TheVariants.{Claimed, Loaded, Arrived, Put, Batch}
use Rattle.arrival_moves.specs.declared.label.Label.{Label}
use Rattle.arrival_moves.specs.declared.plan.Plan.{Plan}
use Rattle.arrival_moves.specs.declared.view.View.{View}
use Rattle.arrival_moves.specs.AfterMove.{after_claim, after_take_task, after_arrive, after_put, after_count, after_take_result, after_put_merged, after_stop, batch_due, taken_from}
use Rattle.arrival_moves.specs.Hands.{find_item, exchanged, HasItem}
use Rattle.arrival_moves.specs.Items.{is_claimed, is_loaded, is_arrived, is_put, is_batch, is_at_slot, is_marked}
use Rattle.arrival_moves.specs.Labels.{no_label, joined_label}
use Rattle.arrival_moves.specs.Lists.{numbers_from, without, contains}
use Rattle.arrival_moves.specs.Plans.{task_count, batch_size}
use Rattle.arrival_table.specs.Holding.{found_item, item_or, HasTicket, HasBatch, ticket_task, is_ticket_marked, due_tickets, taken_label, arrived_task, due_in, taken_in}

module _ (is : Item → Bool) (x : Item) (yes : is x ≡ true) where
  found : find_item is (x ∷ []) ≡ some x
  found = ap (λ b. cond b (some x) (find_item is [])) yes

  gives_way : (ys : List Item) → exchanged is ys (x ∷ []) ≡ ys ++ []
  gives_way ys = ap (λ b. cond b (ys ++ []) (x ∷ [])) yes

  has : (v : View) → v.hand ≡ x ∷ [] → HasItem is v
  has v e = (x, ap (find_item is) e ∙ found)

  is_item : (v : View) → v.hand ≡ x ∷ [] → found_item is v ≡ x
  is_item v e = ap item_or (ap (find_item is) e ∙ found)

  exchanges : (v : View) (ys : List Item) → v.hand ≡ x ∷ [] → exchanged is ys v.hand ≡ ys ++ []
  exchanges v ys e = ap (exchanged is ys) e ∙ gives_way ys

same : (n : ℕ) → is_claimed n (Claimed n) ≡ true
same n = eq-eqb n n refl

-- a claim that finds a task gives what `take_task` asks
pub claimed_hand : (p : Plan) (v : View) (n : ℕ) → v.hand ≡ [] → n < task_count p → (after_claim p v n).hand ≡ Claimed n ∷ []
claimed_hand p v n e h = ap (λ b. cond b (v.hand ++ Claimed n ∷ []) v.hand) (lt-ltb _ _ h) ∙ ap (λ xs. xs ++ Claimed n ∷ []) e

pub claimed_has : (k : ℕ) (v : View) → v.hand ≡ Claimed k ∷ [] → HasItem (is_claimed k) v
claimed_has k v e = has (is_claimed k) (Claimed k) (same k) v e

-- a load that was taken gives what `arrive` and `stop` ask
pub loaded_hand : (k : ℕ) (v : View) → v.hand ≡ Claimed k ∷ [] → (after_take_task v k).hand ≡ Loaded (record { task = k; failed = false }) ∷ []
loaded_hand k v e = exchanges (is_claimed k) (Claimed k) (same k) v (Loaded (record { task = k; failed = false }) ∷ []) e

pub loaded_has : (k : ℕ) (failed : Bool) (v : View) → v.hand ≡ Loaded (record { task = k; failed = failed }) ∷ [] → HasItem (is_loaded k) v
loaded_has k failed v e = has (is_loaded k) (Loaded (record { task = k; failed = failed })) (eq-eqb k k refl) v e

-- a task whose search was stopped is marked failed
pub marked_hand : (k : ℕ) (v : View) → v.hand ≡ Loaded (record { task = k; failed = false }) ∷ [] → (after_stop v k).hand ≡ Loaded (record { task = k; failed = true }) ∷ []
marked_hand k v e = exchanges (is_loaded k) (Loaded (record { task = k; failed = false })) (eq-eqb k k refl) v (Loaded (record { task = k; failed = true }) ∷ []) e

-- a ticket gives what `put` asks
pub arrived_hand : (k q t : ℕ) (failed : Bool) (v : View) → v.hand ≡ Loaded (record { task = k; failed = failed }) ∷ []
    → (after_arrive v k (found_item (is_loaded k) v) q t).hand ≡ Arrived (record { task = k; failed = failed; search = q; ticket = t; at_slot = false }) ∷ []
arrived_hand k q t failed v e = let x : Item = Loaded (record { task = k; failed = failed }) in let yes = eq-eqb k k refl in
    ap (λ y. (after_arrive v k y q t).hand) (is_item (is_loaded k) x yes v e) ∙ exchanges (is_loaded k) x yes v (Arrived (record { task = k; failed = failed; search = q; ticket = t; at_slot = false }) ∷ []) e

module _ (k q t : ℕ) (failed : Bool) (v : View) (e : v.hand ≡ Arrived (record { task = k; failed = failed; search = q; ticket = t; at_slot = false }) ∷ []) where
  mine : is_arrived q t (Arrived (record { task = k; failed = failed; search = q; ticket = t; at_slot = false })) ≡ true
  mine = and_from _ _ (eq-eqb q q refl) (eq-eqb t t refl)

  -- the ticket's item
  pub arrived_is : found_item (is_arrived q t) v ≡ Arrived (record { task = k; failed = failed; search = q; ticket = t; at_slot = false })
  arrived_is = is_item (is_arrived q t) (Arrived (record { task = k; failed = failed; search = q; ticket = t; at_slot = false })) mine v e

  pub arrived_has : HasTicket q t v
  arrived_has = (has (is_arrived q t) (Arrived (record { task = k; failed = failed; search = q; ticket = t; at_slot = false })) mine v e, ap is_at_slot arrived_is)

  pub arrived_task_is : ticket_task q t v ≡ k
  arrived_task_is = ap arrived_task arrived_is

  pub arrived_mark_is : is_ticket_marked q t v ≡ failed
  arrived_mark_is = ap is_marked arrived_is

  -- a result that was put gives what `count` asks
  pub put_hand : (after_put v q t).hand ≡ Put (record { search = q; ticket = t }) ∷ []
  put_hand = exchanges (is_arrived q t) (Arrived (record { task = k; failed = failed; search = q; ticket = t; at_slot = false })) mine v (Put (record { search = q; ticket = t }) ∷ []) e

module _ (p : Plan) (q t : ℕ) (v : View) (e : v.hand ≡ Put (record { search = q; ticket = t }) ∷ []) where
  put_mine : is_put q t (Put (record { search = q; ticket = t })) ≡ true
  put_mine = and_from _ _ (eq-eqb q q refl) (eq-eqb t t refl)

  pub put_has : HasItem (is_put q t) v
  put_has = has (is_put q t) (Put (record { search = q; ticket = t })) put_mine v e

  -- the count that is the last gives the whole batch
  pub counted_last : (after_count p v q t (batch_size p q (t / p.batch))).hand ≡ Batch (record { search = q; batch = t / p.batch; due = numbers_from (t / p.batch * p.batch) (batch_size p q (t / p.batch)); taken = no_label; at_slot = false }) ∷ []
  counted_last = let n : ℕ = batch_size p q (t / p.batch) in exchanges (is_put q t) (Put (record { search = q; ticket = t })) put_mine v (batch_due p q (t / p.batch) n) e
      ∙ ap (λ b. cond b (Batch (record { search = q; batch = t / p.batch; due = numbers_from (t / p.batch * p.batch) n; taken = no_label; at_slot = false }) ∷ []) [] ++ []) (eq-eqb n n refl)

  -- another leaves the hand empty
  pub counted_early : (n : ℕ) → n ≢ batch_size p q (t / p.batch) → (after_count p v q t n).hand ≡ []
  counted_early n other = exchanges (is_put q t) (Put (record { search = q; ticket = t })) put_mine v (batch_due p q (t / p.batch) n) e
      ∙ ap (λ b. cond b (Batch (record { search = q; batch = t / p.batch; due = numbers_from (t / p.batch * p.batch) n; taken = no_label; at_slot = false }) ∷ []) [] ++ []) (ne_eqb n _ other)

module _ (q b : ℕ) (due : List ℕ) (taken : Label) (v : View) (e : v.hand ≡ Batch (record { search = q; batch = b; due = due; taken = taken; at_slot = false }) ∷ []) where
  batch_mine : is_batch q b (Batch (record { search = q; batch = b; due = due; taken = taken; at_slot = false })) ≡ true
  batch_mine = and_from _ _ (eq-eqb q q refl) (eq-eqb b b refl)

  pub batch_is : found_item (is_batch q b) v ≡ Batch (record { search = q; batch = b; due = due; taken = taken; at_slot = false })
  batch_is = is_item (is_batch q b) (Batch (record { search = q; batch = b; due = due; taken = taken; at_slot = false })) batch_mine v e

  -- the batch gives what `take_result` and `put_merged` ask
  pub batch_has : HasBatch q b v
  batch_has = (has (is_batch q b) (Batch (record { search = q; batch = b; due = due; taken = taken; at_slot = false })) batch_mine v e, ap is_at_slot batch_is)

  pub batch_due_is : due_tickets q b v ≡ due
  batch_due_is = ap due_in batch_is

  pub batch_taken_is : taken_label q b v ≡ taken
  batch_taken_is = ap taken_in batch_is

  -- after a result was taken
  pub taken_hand : (p : Plan) (t : ℕ) (l : Label) → t / p.batch ≡ b → (after_take_result p v q t (found_item (is_batch q (t / p.batch)) v) l).hand ≡ Batch (record { search = q; batch = b; due = without t due; taken = joined_label taken l; at_slot = false }) ∷ []
  taken_hand p t l at = ap (λ c. exchanged (is_batch q c) (taken_from (found_item (is_batch q c) v) t l ∷ []) v.hand) at ∙ (ap (λ y. exchanged (is_batch q b) (taken_from y t l ∷ []) v.hand) batch_is
      ∙ exchanges (is_batch q b) (Batch (record { search = q; batch = b; due = due; taken = taken; at_slot = false })) batch_mine v (Batch (record { search = q; batch = b; due = without t due; taken = joined_label taken l; at_slot = false }) ∷ []) e)

  -- after the merged result was put the hand is empty
  pub merged_hand : (after_put_merged v q b).hand ≡ []
  merged_hand = exchanges (is_batch q b) (Batch (record { search = q; batch = b; due = due; taken = taken; at_slot = false })) batch_mine v [] e

-- the first ticket that is due may be taken, and then the others are due
pub first_due : (t n : ℕ) → (contains t (numbers_from t (suc n)) ≡ true) × (without t (numbers_from t (suc n)) ≡ numbers_from (suc t) n)
first_due t n = (or_left _ (contains t (numbers_from (suc t) n)) (eq-eqb t t refl), ap (λ b. cond b (numbers_from (suc t) n) (t ∷ without t (numbers_from (suc t) n))) (eq-eqb t t refl))
