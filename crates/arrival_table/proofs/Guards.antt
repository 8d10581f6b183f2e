-- What the guards of the machine ask, from plain facts.
use Rattle.std.proofs.Common.{◌≡◌, ℕ, Bool, true, false, not, ◌∷◌, [], List, refl, sym, ap, subst}
use Rattle.std.specs.Prelude.{IsTrue}
use Rattle.std.proofs.lemmas.Bool.{false≢true, and_from, or_left, eq-eqb}
use Rattle.arrival_moves.specs.declared.item.Item.{Item}
use Rattle.arrival_moves.specs.declared.item.Item.TheVariants.{Claimed, Loaded, Arrived, Put, Batch, Closed}
use Rattle.arrival_moves.specs.declared.label.Label.{Label}
use Rattle.arrival_moves.specs.declared.view.View.{View}
use Rattle.arrival_moves.specs.AfterMove.{reached_item}
use Rattle.arrival_moves.specs.Guards.{implies, may_put, may_put_merged}
use Rattle.arrival_moves.specs.Items.{is_arrived, is_batch, is_marked, is_due, is_at_slot}
use Rattle.arrival_moves.specs.Lists.{contains, same_list}
use Rattle.arrival_table.specs.Holding.{arrived_task, due_in, taken_in}

same_self : (xs : List ℕ) → same_list xs xs ≡ true
same_self [] = refl
same_self (x ∷ xs) = and_from _ _ (eq-eqb x x refl) (same_self xs)

same_lists : (xs ys : List ℕ) → xs ≡ ys → same_list xs ys ≡ true
same_lists xs ys e = subst (λ z. same_list xs z ≡ true) e (same_self xs)

implied : (a b : Bool) → (IsTrue a → IsTrue b) → implies a b ≡ true
implied true b h = h refl
implied false b h = refl

-- the label of a task's result
pub may_put_now : (q t : ℕ) (v : View) (x : Item) (l : Label) → is_arrived q t x ≡ true → l.tasks ≡ arrived_task x ∷ [] → (IsTrue (is_marked x) → IsTrue l.failed) → (IsTrue l.skipped → IsTrue (contains q v.stopped)) → may_put v q l (reached_item x) ≡ true
may_put_now q t v (Claimed j) l h a b c = absurd (false≢true h)
may_put_now q t v (Loaded z) l h a b c = absurd (false≢true h)
may_put_now q t v (Arrived z) l h a b c = and_from _ _ (and_from _ _ (same_lists l.tasks (z.task ∷ []) a) (implied z.failed l.failed b)) (implied l.skipped (contains q v.stopped) c)
may_put_now q t v (Put z) l h a b c = absurd (false≢true h)
may_put_now q t v (Batch z) l h a b c = absurd (false≢true h)
may_put_now q t v (Closed z) l h a b c = absurd (false≢true h)

-- the label of a merged result
pub may_merge_now : (q b : ℕ) (x : Item) (l : Label) → is_batch q b x ≡ true → due_in x ≡ [] → l.tasks ≡ (taken_in x).tasks → (IsTrue (taken_in x).failed → IsTrue l.failed) → l.skipped ≡ (taken_in x).skipped → may_put_merged l (reached_item x) ≡ true
may_merge_now q b (Claimed j) l h d a f k = absurd (false≢true h)
may_merge_now q b (Loaded z) l h d a f k = absurd (false≢true h)
may_merge_now q b (Arrived z) l h d a f k = absurd (false≢true h)
may_merge_now q b (Put z) l h d a f k = absurd (false≢true h)
may_merge_now q b (Batch z) l h d a f k = and_from _ _ (same_lists z.due [] d) (and_from _ _ (and_from _ _ (and_from _ _ (same_lists l.tasks z.taken.tasks a) (implied z.taken.failed l.failed f)) (implied l.skipped z.taken.skipped (λ y. subst IsTrue k y))) (implied z.taken.skipped l.skipped (λ y. subst IsTrue (sym k) y)))
may_merge_now q b (Closed z) l h d a f k = absurd (false≢true h)

-- a desk that is not yet at the slot of its batch, all of which was taken, may come to it
pub may_reach_batch : (q b : ℕ) (x : Item) (l : Label) → is_batch q b x ≡ true → due_in x ≡ [] → is_at_slot x ≡ false → may_put_merged l x ≡ true
may_reach_batch q b (Claimed j) l h d e = absurd (false≢true h)
may_reach_batch q b (Loaded z) l h d e = absurd (false≢true h)
may_reach_batch q b (Arrived z) l h d e = absurd (false≢true h)
may_reach_batch q b (Put z) l h d e = absurd (false≢true h)
may_reach_batch q b (Batch z) l h d e = and_from _ _ (same_lists z.due [] d) (or_left (not z.at_slot) _ (ap not e))
may_reach_batch q b (Closed z) l h d e = absurd (false≢true h)

-- a ticket that is due may be taken
pub is_due_now : (q b t : ℕ) (x : Item) → is_batch q b x ≡ true → IsTrue (contains t (due_in x)) → is_at_slot x ≡ false → is_due t x ≡ true
is_due_now q b t (Claimed j) h d e = absurd (false≢true h)
is_due_now q b t (Loaded z) h d e = absurd (false≢true h)
is_due_now q b t (Arrived z) h d e = absurd (false≢true h)
is_due_now q b t (Put z) h d e = absurd (false≢true h)
is_due_now q b t (Batch z) h d e = and_from _ _ d (ap not e)
is_due_now q b t (Closed z) h d e = absurd (false≢true h)
