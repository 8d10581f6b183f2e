-- What an item is that a move asks for, and what each move's exchange does to a number of all hands.
use Rattle.std.proofs.Common.{◌≡◌, ℕ, ◌+◌, Bool, true, List, [], ◌∷◌, ◌++◌, set, refl, ap, ◌∙◌, arith}
use Rattle.std.proofs.lemmas.Bool.{false≢true, eqb-true, and_parts}
use mathlib.Core.Option.{some}
use lib.ListN.{get_elem?}
use Rattle.std.specs.List.{sum_by}
use Rattle.std.proofs.lemmas.List.Sums.{sum_by_push}
use Rattle.arrival_moves.specs.Hands.{find_item, exchanged, in_hand, in_hands}
use Rattle.arrival_moves.specs.Items.{is_claimed, is_loaded, is_arrived, is_put, is_batch}
use Rattle.arrival_moves.specs.declared.item.ArrivedTask.{ArrivedTask}
use Rattle.arrival_moves.specs.declared.item.HeldBatch.{HeldBatch}
use Rattle.arrival_moves.specs.declared.item.Item.{Item}
use Rattle.arrival_moves.specs.declared.item.Item.TheVariants.{Claimed, Loaded, Arrived, Put, Batch, Closed}
use Rattle.arrival_moves.specs.declared.item.LoadedTask.{LoadedTask}
use Rattle.arrival_moves.specs.declared.item.Ticket.{Ticket}
use Rattle.arrival_moves.specs.declared.view.View.{View}
use Rattle.list_laws.proofs.PlaceSums.{sum_by_set}
use Rattle.arrival_moves.proofs.Cases.{found_is, hands_exchanged}

-- an item that is meant is one of its kind, with these numbers
pub as_claimed : (k : ℕ) (x : Item) → is_claimed k x ≡ true → x ≡ Claimed k
as_claimed k (Claimed j) h = ap Claimed (eqb-true j k h)
as_claimed k (Loaded z) h = absurd (false≢true h)
as_claimed k (Arrived z) h = absurd (false≢true h)
as_claimed k (Put z) h = absurd (false≢true h)
as_claimed k (Batch z) h = absurd (false≢true h)
as_claimed k (Closed z) h = absurd (false≢true h)

pub as_loaded : (k : ℕ) (x : Item) → is_loaded k x ≡ true → (z : LoadedTask) × (x ≡ Loaded z) × (z.task ≡ k)
as_loaded k (Claimed j) h = absurd (false≢true h)
as_loaded k (Loaded z) h = (z, refl, eqb-true z.task k h)
as_loaded k (Arrived z) h = absurd (false≢true h)
as_loaded k (Put z) h = absurd (false≢true h)
as_loaded k (Batch z) h = absurd (false≢true h)
as_loaded k (Closed z) h = absurd (false≢true h)

pub as_arrived : (q t : ℕ) (x : Item) → is_arrived q t x ≡ true → (z : ArrivedTask) × (x ≡ Arrived z) × (z.search ≡ q) × (z.ticket ≡ t)
as_arrived q t (Claimed j) h = absurd (false≢true h)
as_arrived q t (Loaded z) h = absurd (false≢true h)
as_arrived q t (Arrived z) h = let p = and_parts _ _ h in (z, refl, eqb-true z.search q p.0, eqb-true z.ticket t p.1)
as_arrived q t (Put z) h = absurd (false≢true h)
as_arrived q t (Batch z) h = absurd (false≢true h)
as_arrived q t (Closed z) h = absurd (false≢true h)

pub as_put : (q t : ℕ) (x : Item) → is_put q t x ≡ true → (z : Ticket) × (x ≡ Put z) × (z.search ≡ q) × (z.ticket ≡ t)
as_put q t (Claimed j) h = absurd (false≢true h)
as_put q t (Loaded z) h = absurd (false≢true h)
as_put q t (Arrived z) h = absurd (false≢true h)
as_put q t (Put z) h = let p = and_parts _ _ h in (z, refl, eqb-true z.search q p.0, eqb-true z.ticket t p.1)
as_put q t (Batch z) h = absurd (false≢true h)
as_put q t (Closed z) h = absurd (false≢true h)

pub as_batch : (q b : ℕ) (x : Item) → is_batch q b x ≡ true → (z : HeldBatch) × (x ≡ Batch z) × (z.search ≡ q) × (z.batch ≡ b)
as_batch q b (Claimed j) h = absurd (false≢true h)
as_batch q b (Loaded z) h = absurd (false≢true h)
as_batch q b (Arrived z) h = absurd (false≢true h)
as_batch q b (Put z) h = absurd (false≢true h)
as_batch q b (Batch z) h = let p = and_parts _ _ h in (z, refl, eqb-true z.search q p.0, eqb-true z.batch b p.1)
as_batch q b (Closed z) h = absurd (false≢true h)

-- one item more in a hand
pub hands_more : (f : Item → ℕ) (vs : List View) (i : ℕ) (v w : View) (y : Item) → get_elem? vs i ≡ some v → w.hand ≡ v.hand ++ y ∷ [] → in_hands f (set vs i w) ≡ in_hands f vs + f y
hands_more f vs i v w y here hand = let a = sum_by_set (in_hand f) vs i v w here in let b = sum_by_push f v.hand y in let c : sum_by f w.hand ≡ sum_by f (v.hand ++ y ∷ []) = ap (sum_by f) hand in omega arith

-- the same hand
pub hands_same : (f : Item → ℕ) (vs : List View) (i : ℕ) (v w : View) → get_elem? vs i ≡ some v → w.hand ≡ v.hand → in_hands f (set vs i w) ≡ in_hands f vs
hands_same f vs i v w here hand = let a = sum_by_set (in_hand f) vs i v w here in let c : sum_by f w.hand ≡ sum_by f v.hand = ap (sum_by f) hand in omega arith

-- a claimed task gives way to a loaded one, and so on: the number of the found item and of what comes for it
module _ (f : Item → ℕ) (vs : List View) (i : ℕ) (v w : View) (here : get_elem? vs i ≡ some v) where
  -- of a claimed task
  pub claimed_gives : (k : ℕ) (ys : List Item) (x : Item) → find_item (is_claimed k) v.hand ≡ some x → w.hand ≡ exchanged (is_claimed k) ys v.hand → in_hands f (set vs i w) + f (Claimed k) ≡ in_hands f vs + sum_by f ys
  claimed_gives k ys x found hand = let e = hands_exchanged f vs i v w (is_claimed k) ys x here found hand in let g : f x ≡ f (Claimed k) = ap f (as_claimed k x (found_is (is_claimed k) v.hand x found)) in omega arith

  -- of a task with its load
  pub loaded_gives : (k : ℕ) (ys : List Item) (x : Item) → find_item (is_loaded k) v.hand ≡ some x → w.hand ≡ exchanged (is_loaded k) ys v.hand
      → (b : Bool) × (x ≡ Loaded (record { task = k; failed = b })) × (in_hands f (set vs i w) + f (Loaded (record { task = k; failed = b })) ≡ in_hands f vs + sum_by f ys)
  loaded_gives k ys x found hand = let e = hands_exchanged f vs i v w (is_loaded k) ys x here found hand in let z = as_loaded k x (found_is (is_loaded k) v.hand x found) in
      let is : x ≡ Loaded (record { task = k; failed = z.0.failed }) = z.1 ∙ (λ j. Loaded (record { task = z.2 j; failed = z.0.failed })) in let g : f x ≡ f (Loaded (record { task = k; failed = z.0.failed })) = ap f is in (z.0.failed, is, omega arith)

  -- of a task with its ticket
  pub arrived_gives : (q t : ℕ) (ys : List Item) (x : Item) → find_item (is_arrived q t) v.hand ≡ some x → w.hand ≡ exchanged (is_arrived q t) ys v.hand
      → (z : ArrivedTask) × (x ≡ Arrived z) × (z.search ≡ q) × (z.ticket ≡ t) × (in_hands f (set vs i w) + f (Arrived z) ≡ in_hands f vs + sum_by f ys)
  arrived_gives q t ys x found hand = let e = hands_exchanged f vs i v w (is_arrived q t) ys x here found hand in let z = as_arrived q t x (found_is (is_arrived q t) v.hand x found) in let g : f x ≡ f (Arrived z.0) = ap f z.1 in (z.0, z.1, z.2, z.3, omega arith)

  -- of a ticket whose result was put
  pub put_gives : (q t : ℕ) (ys : List Item) (x : Item) → find_item (is_put q t) v.hand ≡ some x → w.hand ≡ exchanged (is_put q t) ys v.hand → in_hands f (set vs i w) + f (Put (record { search = q; ticket = t })) ≡ in_hands f vs + sum_by f ys
  put_gives q t ys x found hand = let e = hands_exchanged f vs i v w (is_put q t) ys x here found hand in let z = as_put q t x (found_is (is_put q t) v.hand x found) in
      let is : x ≡ Put (record { search = q; ticket = t }) = z.1 ∙ (λ j. Put (record { search = z.2 j; ticket = z.3 j })) in let g : f x ≡ f (Put (record { search = q; ticket = t })) = ap f is in omega arith

  -- of a batch
  pub batch_gives : (q b : ℕ) (ys : List Item) (x : Item) → find_item (is_batch q b) v.hand ≡ some x → w.hand ≡ exchanged (is_batch q b) ys v.hand
      → (z : HeldBatch) × (x ≡ Batch z) × (z.search ≡ q) × (z.batch ≡ b) × (in_hands f (set vs i w) + f (Batch z) ≡ in_hands f vs + sum_by f ys)
  batch_gives q b ys x found hand = let e = hands_exchanged f vs i v w (is_batch q b) ys x here found hand in let z = as_batch q b x (found_is (is_batch q b) v.hand x found) in let g : f x ≡ f (Batch z.0) = ap f z.1 in (z.0, z.1, z.2, z.3, omega arith)
