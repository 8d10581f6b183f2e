-- The moves that draw no task and no ticket and count nothing: no number of tasks and tickets in the hands changes.
use Rattle.std.proofs.Common.{◌≡◌, ◌≢◌, ℕ, ◌/◌, ◌<◌, ◌≤◌, Bool, true, false, not, eqb, ltb, List, [], ◌∷◌, ◌++◌, set, sym, refl, ap, ◌∙◌, arith}
use Rattle.std.proofs.lemmas.Bool.{false≢true, true≢false, eq-eqb, ne_eqb, lt-ltb, le-ltb}
use mathlib.Core.Option.{some}
use lib.ListN.{get_elem?}
use Rattle.std.specs.List.{sum_by}
use Rattle.std.proofs.lemmas.List.Sums.{sum_by_push}
use Rattle.list_laws.proofs.Places.{set_else}
use Rattle.arrival_moves.specs.AfterMove.{spent_view, reached_item, taken_from, batch_due, after_split, split_off, after_join, after_reach_result, after_take_result, after_put_merged, after_reach_batch, after_close}
use Rattle.arrival_moves.specs.Hands.{find_item, in_hand, in_hands, is_empty}
use Rattle.arrival_moves.specs.Items.{is_arrived, is_batch, is_at_slot}
use Rattle.arrival_moves.specs.Lists.{one_if}
use Rattle.arrival_moves.specs.Moves.{ArrivalState, take_result, put_merged, split, join, close, stopped, move}
use Rattle.arrival_moves.specs.Plans.{batch_size}
use Rattle.arrival_moves.specs.Slots.{Slot}
use Rattle.arrival_moves.specs.declared.item.ClosedBatch.{ClosedBatch}
use Rattle.arrival_moves.specs.declared.item.HeldBatch.{HeldBatch}
use Rattle.arrival_moves.specs.declared.item.Item.{Item}
use Rattle.arrival_moves.specs.declared.item.Item.TheVariants.{Claimed, Loaded, Arrived, Put, Batch, Closed}
use Rattle.arrival_moves.specs.declared.item.ArrivedTask.{ArrivedTask}
use Rattle.arrival_moves.specs.declared.label.Label.{Label}
use Rattle.arrival_moves.specs.declared.plan.Plan.{Plan}
use Rattle.arrival_moves.specs.declared.view.View.{View}
use Rattle.std.specs.Prelude.{◌==◌, if◌then◌else◌}
use Rattle.arrival_moves.proofs.Cases.{desk_keeps, item_keeps, by_label, hands_exchanged}
use Rattle.list_laws.proofs.PlaceTests.{by_test}
use Rattle.arrival_moves.proofs.Items.{hands_more, hands_same, batch_gives}

-- a number below another counts 1
pub lt_one : (a b : ℕ) → a < b → one_if (ltb a b) ≡ 1
lt_one a b h = ap one_if (lt-ltb a b h)

-- and one that is not counts 0
pub lt_none : (a b : ℕ) → b ≤ a → one_if (ltb a b) ≡ 0
lt_none a b h = ap one_if (le-ltb a b h)

-- equal numbers count 1
pub eq_one : (a b : ℕ) → a ≡ b → one_if (eqb a b) ≡ 1
eq_one a b h = ap one_if (eq-eqb a b h)

-- and others 0
pub eq_none : (a b : ℕ) → a ≢ b → one_if (eqb a b) ≡ 0
eq_none a b h = ap one_if (ne_eqb a b h)

-- a number of tasks and tickets: batches have none, and being at a slot is no matter
pub record IsQuiet (f : Item → ℕ) : Type 0 where
  pub arrived : (z : ArrivedTask) → f (reached_item (Arrived z)) ≡ f (Arrived z)
  pub batch : (z : HeldBatch) → f (Batch z) ≡ 0
  pub closed : (z : ClosedBatch) → f (Closed z) ≡ 0

-- being at a slot is no matter, whatever the item
pub quiet_reached : (f : Item → ℕ) → IsQuiet f → (x : Item) → f (reached_item x) ≡ f x
quiet_reached f h (Claimed j) = refl
quiet_reached f h (Loaded z) = refl
quiet_reached f h (Arrived z) = h.arrived z
quiet_reached f h (Put z) = refl
quiet_reached f h (Batch z) = h.batch (record z { at_slot = true }) ∙ sym (h.batch z)
quiet_reached f h (Closed z) = refl

-- no such number changes, nor the words and slots that speak of them
pub record Quietly (s t : ArrivalState) : Type 0 where
  pub claimed : t.claimed ≡ s.claimed
  pub tickets : t.tickets ≡ s.tickets
  pub counts : t.counts ≡ s.counts
  pub loads : t.loads ≡ s.loads
  pub hands : (f : Item → ℕ) → IsQuiet f → in_hands f t.desks ≡ in_hands f s.desks

-- a new desk has an empty hand
pub hands_split : (f : Item → ℕ) (vs : List View) (i k : ℕ) (v : View) → get_elem? vs i ≡ some v → in_hands f (set vs i (after_split v k) ++ split_off k ∷ []) ≡ in_hands f vs
hands_split f vs i k v here = let a = hands_same f vs i v (after_split v k) here refl in let b = sum_by_push (in_hand f) (set vs i (after_split v k)) (split_off k) in omega arith

-- one desk has what two had, as the other's hand is empty
pub hands_join : (f : Item → ℕ) (vs : List View) (i j : ℕ) (v w : View) → get_elem? vs i ≡ some v → get_elem? vs j ≡ some w → j ≢ i → w.hand ≡ [] → in_hands f (set (set vs i (after_join v w)) j spent_view) ≡ in_hands f vs
hands_join f vs i j v w here there apart bare = let u : View = after_join v w in let a = hands_same f vs i v u here refl in let b = hands_same f (set vs i u) j w spent_view (set_else vs i j u apart ∙ there) (sym bare) in omega arith

-- a batch that a last count brings does not count
pub batch_due_none : (f : Item → ℕ) (p : Plan) (q b n : ℕ) → IsQuiet f → sum_by f (batch_due p q b n) ≡ 0
batch_due_none f p q b n h = one_or_none f (n == batch_size p q b) _ (h.batch _)
  where
    one_or_none : (f : Item → ℕ) (yes : Bool) (y : Item) → f y ≡ 0 → sum_by f (if yes then y ∷ [] else []) ≡ 0
    one_or_none f true y e = omega arith
    one_or_none f false y e = refl

-- nor does one of which a result was taken
pub taken_none : (f : Item → ℕ) (x : Item) (z : HeldBatch) (t : ℕ) (l : Label) → IsQuiet f → x ≡ Batch z → f (taken_from x t l) ≡ 0
taken_none f x z t l h e = ap (λ y. f (taken_from y t l)) e ∙ h.batch _

-- a hand that is empty has no item
pub bare : (xs : List Item) → is_empty xs ≡ true → xs ≡ []
bare [] z = refl
bare (x ∷ xs) z = absurd (false≢true z)

-- a desk is not joined to itself
pub apart_from : (i j : ℕ) → not (eqb i j) ≡ true → j ≡ i → ⊥
apart_from i j m y = true≢false (sym m ∙ ap not (eq-eqb i j (sym y)))

module _ (p : Plan) (P : ArrivalState → Type 0) (s : ArrivalState) (f : P s) (k : (t : ArrivalState) → Quietly s t → P t) where
  -- the desk is at the slot of the ticket
  pub quiet_open : (i q t : ℕ) (v : View) (x : Item) (rs : List Slot) → get_elem? s.desks i ≡ some v → find_item (is_arrived q t) v.hand ≡ some x → P (record s { results = rs; desks = set s.desks i (after_reach_result v q t x) })
  quiet_open i q t v x rs e g = k _ (record { claimed = refl; tickets = refl; counts = refl; loads = refl; hands = λ h is. let a = hands_exchanged h s.desks i v (after_reach_result v q t x) (is_arrived q t) (reached_item x ∷ []) x e g refl in let b = quiet_reached h is x in omega arith })

  pub quiet_take : (i q t : ℕ) → P (move p s (take_result i q t))
  quiet_take i q t = item_keeps P s i _ _ _ f (λ v e x g m. by_label P s _ _ f (λ l o. k _ (record {
    claimed = refl;
    tickets = refl;
    counts = refl;
    loads = refl;
    hands = λ h is. let a = batch_gives h s.desks i v (after_take_result p v q t x l) e q (t / p.batch) (taken_from x t l ∷ []) x g refl in let b = is.batch a.0 in let c = taken_none h x a.0 t l is a.1 in let d = a.4 in omega arith;
  })))

  pub quiet_merged : (i q b : ℕ) (l : Label) → P (move p s (put_merged i q b l))
  quiet_merged i q b l = item_keeps P s i _ _ _ f (λ v e x g m. by_test P (is_at_slot x) _ _
      (λ _. k _ (record { claimed = refl; tickets = refl; counts = refl; loads = refl; hands = λ h is. let a = batch_gives h s.desks i v (after_put_merged v q b) e q b [] x g refl in let c = is.batch a.0 in let d = a.4 in omega arith }))
      (λ _. k _ (record { claimed = refl; tickets = refl; counts = refl; loads = refl; hands = λ h is. let a = hands_exchanged h s.desks i v (after_reach_batch v q b x) (is_batch q b) (reached_item x ∷ []) x e g refl in let c = quiet_reached h is x in omega arith })))

  pub quiet_split : (i n : ℕ) → P (move p s (split i n))
  quiet_split i n = desk_keeps P s i _ _ f (λ v e m. k _ (record { claimed = refl; tickets = refl; counts = refl; loads = refl; hands = λ h is. hands_split h s.desks i n v e }))

  pub quiet_join : (i j : ℕ) → P (move p s (join i j))
  quiet_join i j = desk_keeps P s i _ _ f (λ v e m. desk_keeps P s j _ _ f (λ w d z. k _ (record { claimed = refl; tickets = refl; counts = refl; loads = refl; hands = λ h is. hands_join h s.desks i j v w e d (apart_from i j m) (bare w.hand z) })))

  pub quiet_close : (i q b : ℕ) → P (move p s (close i q b))
  quiet_close i q b = desk_keeps P s i _ _ f (λ v e m. by_label P s _ _ f (λ l o. k _ (record {
    claimed = refl;
    tickets = refl;
    counts = refl;
    loads = refl;
    hands = λ h is. let a = hands_more h s.desks i v (after_close v q b l) _ e refl in let c = is.closed (record { search = q; batch = b; taken = l }) in omega arith;
  })))

  pub quiet_stopped : (i q : ℕ) → P (move p s (stopped i q))
  quiet_stopped i q = desk_keeps P s i _ _ f (λ v e m. k _ (record { claimed = refl; tickets = refl; counts = refl; loads = refl; hands = λ h is. hands_same h s.desks i v _ e refl }))
