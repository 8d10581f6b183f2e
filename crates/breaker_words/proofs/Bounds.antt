-- Each pass holds no more than the limits, its counters stop, and those of what was granted agree.
use Rattle.std.proofs.Common.{◌≡◌, refl, ℕ, ◌+◌, ◌-◌, ◌≤◌, not, ◌&&◌, ◌==◌, ◌++◌, leb, fold, List, [], ◌∷◌, set, arith}
use mathlib.Core.Option.{some}
use lib.ListN.{get_elem?}
use Rattle.agg_model.specs.declared.breaker.Limits.{Limits}
use Rattle.agg_model.specs.declared.breaker.Child.{Child}
use Rattle.agg_model.specs.declared.breaker.Child.TheVariants as child
use Rattle.agg_model.specs.declared.breaker.Which.{Which}
use Rattle.agg_model.specs.declared.breaker.Which.TheVariants.{Request, Fielddata, Inflight, Parent}
use Rattle.agg_model.specs.Breakers.{which_of}
use Rattle.breaker_words.specs.declared.view.Account.{Account}
use Rattle.breaker_words.specs.declared.view.Accounts.{Accounts}
use Rattle.breaker_words.specs.declared.view.View.{View}
use Rattle.breaker_words.specs.Breakers.{amount_at, counter_value}
use Rattle.breaker_words.specs.Accounts.{account, put, empty_accounts, raised_account, lowered_account, tripped_account, noted_account}
use Rattle.breaker_words.specs.AfterStep.{noted_parent, raised_both, after_set_ceiling, after_split, split_off, after_join, after_try_child, after_take_back_child, after_try_parent, after_take_back_parent, after_give_parent, after_give_child}
use Rattle.breaker_words.specs.Moves.{may_set_ceiling, may_split, may_join, may_try_child, may_give_parent, with_word_raised, with_word_lowered, BreakerState, Move, look, set_ceiling, split, join, try_child, take_back_child, try_parent, take_back_parent, give_parent, give_child, move, run, opened}
use Rattle.breaker_words.specs.Soundness.{IsBounded}
use Rattle.breaker_words.specs.Trials.{is_child_refused, is_child_granted, is_returning, is_parent_refused, is_given}
use Rattle.breaker_words.specs.Views.{hold_of, first_view, spent_view}
use Rattle.list_laws.proofs.PlaceSums.{Each, each_set, each_snoc, sum_by_has}
use Rattle.list_laws.proofs.PlaceTests.{by_test}
use Rattle.breaker_words.proofs.Moves.{account_cases, move_pass_keeps}
use Rattle.breaker_words.proofs.Runs.{first_of, sound_run}
use Rattle.breaker_words.proofs.WholeCap.{holds_within}

abbrev Stops : Account → Type 0
Stops b = (b.granted ≤ 18446744073709551615) × (b.trips ≤ 18446744073709551615)

abbrev Together : Accounts → Type 0
Together k = k.parent.granted ≡ counter_value (k.request.granted + k.fielddata.granted + k.inflight.granted)

record AllStop (k : Accounts) : Type 0 where
  each : (x : Which) → Stops (account k x)
  together : Together k

abbrev Counted : View → Type 0
Counted v = AllStop v.accounts

-- the sums of what the children granted are as they were where no granted total changes
together_put : (k : Accounts) (w : Which) (b : Account) → Together k → b.granted ≡ (account k w).granted → Together (put k w b)
together_put k Request b h e = omega (arith, h, e)
together_put k Fielddata b h e = omega (arith, h, e)
together_put k Inflight b h e = omega (arith, h, e)
together_put k Parent b h e = omega (arith, h, e)

stops_put : (k : Accounts) (w : Which) (b : Account) → AllStop k → Stops b → b.granted ≡ (account k w).granted → AllStop (put k w b)
stops_put k w b h s e = record { each = account_cases (λ _ d. Stops d) w k b s h.each; together = together_put k w b h.together e }

each_empty : (x : Which) → Stops (account empty_accounts x)
each_empty Request = (omega arith, omega arith)
each_empty Fielddata = (omega arith, omega arith)
each_empty Inflight = (omega arith, omega arith)
each_empty Parent = (omega arith, omega arith)

stops_empty : AllStop empty_accounts
stops_empty = record { each = each_empty; together = omega arith }

each_ceiled : (v : View) (t : ℕ) → Counted v → (x : Which) → Stops (account (after_set_ceiling v t).accounts x)
each_ceiled v t h Request = h.each Request
each_ceiled v t h Fielddata = h.each Fielddata
each_ceiled v t h Inflight = h.each Inflight
each_ceiled v t h Parent = h.each Parent

stops_ceiled : (v : View) (t : ℕ) → Counted v → Counted (after_set_ceiling v t)
stops_ceiled v t h = record { each = each_ceiled v t h; together = h.together }

each_joined : (v w : View) (x : Which) → Stops (account (after_join v w).accounts x)
each_joined v w Request = (omega arith, omega arith)
each_joined v w Fielddata = (omega arith, omega arith)
each_joined v w Inflight = (omega arith, omega arith)
each_joined v w Parent = (omega arith, omega arith)

stops_joined : (v w : View) → Counted v → Counted w → Counted (after_join v w)
stops_joined v w h g = record { each = each_joined v w; together = (let a = h.together in let b = g.together in omega (arith, a, b)) }

stops_tripped : (k : Accounts) (w : Which) → AllStop k → AllStop (put k w (tripped_account (account k w)))
stops_tripped k w h = stops_put k w (tripped_account (account k w)) h ((h.each w).0, omega arith) refl

stops_noted : (v : View) (n : ℕ) → Counted v → AllStop (noted_parent v n)
stops_noted v n h = stops_put v.accounts Parent (noted_account v.accounts.parent v.amount n) h (h.each Parent) refl

each_raised : (k : Accounts) (c : Child) (a : ℕ) → AllStop k → (x : Which) → Stops (account (raised_both k c a) x)
each_raised k c a h =
    account_cases (λ _ d. Stops d) (which_of c) (put k Parent (raised_account k.parent a)) (raised_account (account k (which_of c)) a) (omega arith, (h.each (which_of c)).1)
    (account_cases (λ _ d. Stops d) Parent k (raised_account k.parent a) (omega arith, (h.each Parent).1) h.each)

together_raised : (k : Accounts) (c : Child) (a : ℕ) → Together k → Together (raised_both k c a)
together_raised k child.Request a h = omega (arith, h)
together_raised k child.Fielddata a h = omega (arith, h)
together_raised k child.Inflight a h = omega (arith, h)

stops_raised : (k : Accounts) (c : Child) (a : ℕ) → AllStop k → AllStop (raised_both k c a)
stops_raised k c a h = record { each = each_raised k c a h; together = together_raised k c a h.together }

stops_taken : (v : View) → Counted v → Counted (after_take_back_child v)
stops_taken v h = by_test AllStop (is_child_refused v.trial) (put v.accounts (which_of v.child) (tripped_account (account v.accounts (which_of v.child)))) v.accounts
    (λ _. stops_tripped v.accounts (which_of v.child) h) (λ _. h)

stops_parent : (l : Limits) (v : View) (n : ℕ) → Counted v → Counted (after_try_parent l v n)
stops_parent l v n h = by_test Counted (leb n l.parent) _ _ (λ _. stops_raised (noted_parent v n) v.child v.amount (stops_noted v n h)) (λ _. stops_noted v n h)

record AllCounted (s : BreakerState) : Type 0 where
  each : Each Counted s.passes

-- one pass changes, and the words in some way
changed : (s : BreakerState) (i : ℕ) (v : View) (f : Which → ℕ) (t : ℕ) → AllCounted s → Counted v → AllCounted (record { word_of = f; ceiling = t; passes = set s.passes i v })
changed s i v f t h c = record { each = each_set Counted s.passes i v h.each c }

raised : (s : BreakerState) (i : ℕ) (w : Which) (a : ℕ) (v : View) → AllCounted s → Counted v → AllCounted (with_word_raised s i w a v)
raised s i w a v h c = changed s i v (λ x. s.word_of x + amount_at w a x) s.ceiling h c

lowered : (s : BreakerState) (i : ℕ) (w : Which) (a : ℕ) (v : View) → AllCounted s → Counted v → AllCounted (with_word_lowered s i w a v)
lowered s i w a v h c = changed s i v (λ x. s.word_of x - amount_at w a x) s.ceiling h c

cut : (s : BreakerState) (i k : ℕ) (v : View) → AllCounted s → Counted v
    → AllCounted (record { word_of = s.word_of; ceiling = s.ceiling; passes = set s.passes i (after_split v k) ++ split_off v k ∷ [] })
cut s i k v h c = record { each = each_snoc Counted (set s.passes i (after_split v k)) (split_off v k) (each_set Counted s.passes i (after_split v k) h.each c) stops_empty }

joined : (s : BreakerState) (i j : ℕ) (v w : View) → AllCounted s → Counted v → Counted w
    → AllCounted (record { word_of = s.word_of; ceiling = s.ceiling; passes = set (set s.passes i (after_join v w)) j spent_view })
joined s i j v w h a b = changed (record { word_of = s.word_of; ceiling = s.ceiling; passes = set s.passes i (after_join v w) }) j spent_view s.word_of s.ceiling
    (changed s i (after_join v w) s.word_of s.ceiling h (stops_joined v w a b)) stops_empty

counted_move : (l : Limits) (s : BreakerState) (m : Move) → AllCounted s → AllCounted (move l s m)
counted_move l s (look i w) h = h
counted_move l s (set_ceiling i t) h = move_pass_keeps AllCounted s i (may_set_ceiling t) _ h (λ v e m. changed s i (after_set_ceiling v t) s.word_of t h (stops_ceiled v t (h.each i v e)))
counted_move l s (split i k) h = move_pass_keeps AllCounted s i (may_split k) _ h (λ v e m. cut s i k v h (h.each i v e))
counted_move l s (join i j) h = move_pass_keeps AllCounted s i (λ v. may_join v && not (i == j)) _ h (λ v e m. move_pass_keeps AllCounted s j may_join _ h (λ w d n. joined s i j v w h (h.each i v e) (h.each j w d)))
counted_move l s (try_child i c a) h = move_pass_keeps AllCounted s i (may_try_child a) _ h
    (λ v e m. let g = h.each i v e in let w = which_of c in raised s i w a (after_try_child l v c a (s.word_of w + a)) h (stops_put v.accounts w (noted_account (account v.accounts w) a (s.word_of w + a)) g (g.each w) refl))
counted_move l s (take_back_child i) h = move_pass_keeps AllCounted s i (λ v. is_returning v.trial) _ h (λ v e m. lowered s i (which_of v.child) v.amount (after_take_back_child v) h (stops_taken v (h.each i v e)))
counted_move l s (try_parent i) h = move_pass_keeps AllCounted s i (λ v. is_child_granted v.trial) _ h
    (λ v e m. raised s i Parent v.amount (after_try_parent l v (s.word_of Parent + v.amount)) h (stops_parent l v (s.word_of Parent + v.amount) (h.each i v e)))
counted_move l s (take_back_parent i) h = move_pass_keeps AllCounted s i (λ v. is_parent_refused v.trial) _ h (λ v e m. lowered s i Parent v.amount (after_take_back_parent v) h (stops_tripped v.accounts Parent (h.each i v e)))
counted_move l s (give_parent i c a) h = move_pass_keeps AllCounted s i (may_give_parent c a) _ h
    (λ v e m. let g = h.each i v e in lowered s i Parent a (after_give_parent v c a) h (stops_put v.accounts Parent (lowered_account v.accounts.parent a) g (g.each Parent) refl))
counted_move l s (give_child i) h = move_pass_keeps AllCounted s i (λ v. is_given v.trial) _ h
    (λ v e m. let g = h.each i v e in let w = which_of v.child in lowered s i w v.amount (after_give_child v) h (stops_put v.accounts w (lowered_account (account v.accounts w) v.amount) g (g.each w) refl))

counted_fold : (l : Limits) (ms : List Move) (s : BreakerState) → AllCounted s → AllCounted (fold (move l) s ms)
counted_fold l [] s h = h
counted_fold l (m ∷ ms) s h = counted_fold l ms (move l s m) (counted_move l s m h)

-- of each pass, after every list of moves
pub bounded_run : (l : Limits) (ms : List Move) (i : ℕ) (v : View) → get_elem? (run l ms).passes i ≡ some v → IsBounded l v
bounded_run l ms i v here =
    let counted = (counted_fold l ms (opened l) (record { each = first_of Counted (first_view l) stops_empty })).each i v here in (record {
      holds = λ x. (let own = sum_by_has (λ u. hold_of u x) (run l ms).passes i v here in let all = holds_within l (run l ms) (sound_run l ms) x in omega arith);
      granted = λ x. (counted.each x).0;
      trips = λ x. (counted.each x).1;
      together = counted.together;
    })
