-- The counts of the passes are those of the list of moves, cut at 2^64 - 1.
use Rattle.std.proofs.Common.{◌≡◌, ◌≢◌, ℕ, ◌+◌, ◌-◌, ◌≤◌, ◌⊎◌, inl, inr, Bool, true, false, cond, ◌&&◌, not, leb, eqb, fold, List, [], ◌∷◌, ◌++◌, set, sym, refl, ap, ◌∙◌, subst, ⊎_elim, arith}
use Rattle.std.proofs.lemmas.Bool.{and_parts}
use Rattle.std.proofs.lemmas.Bool.Decides.{nat_tests}
use mathlib.Core.Option.{Option, none, some}
use lib.ListN.{get_elem?}
use Rattle.agg_model.specs.declared.breaker.Limits.{Limits}
use Rattle.agg_model.specs.declared.breaker.Child.{Child}
use Rattle.agg_model.specs.declared.breaker.Child.TheVariants as child
use Rattle.agg_model.specs.declared.breaker.Which.{Which}
use Rattle.agg_model.specs.declared.breaker.Which.TheVariants.{Request, Fielddata, Inflight, Parent}
use Rattle.breaker_words.specs.declared.trial.Trial.{Trial}
use Rattle.breaker_words.specs.declared.trial.Trial.TheVariants.{Rest, ChildRefused, ChildGranted, ParentRefused, ChildReturning, ParentGiven}
use Rattle.breaker_words.specs.declared.view.Accounts.{Accounts}
use Rattle.breaker_words.specs.declared.view.View.{View}
use Rattle.std.specs.List.{sum_by}
use Rattle.breaker_words.specs.Breakers.{amount_at}
use Rattle.agg_model.specs.Breakers.{which_of, limit_of}
use Rattle.breaker_words.specs.Accounts.{account, put, empty_accounts, noted_account, tripped_account, lowered_account}
use Rattle.breaker_words.specs.Views.{granted_of, trips_of, first_view, spent_view}
use Rattle.breaker_words.specs.Trials.{is_rest, is_child_refused, is_child_granted, is_returning, is_parent_refused, is_given}
use Rattle.breaker_words.specs.AfterStep.{noted_parent, raised_both, after_try_child, after_take_back_child, after_try_parent, after_take_back_parent, after_give_parent, after_give_child, after_set_ceiling, after_split, split_off, after_join}
use Rattle.breaker_words.specs.Moves.{BreakerState, Move, look, set_ceiling, split, join, try_child, take_back_child, try_parent, take_back_parent, give_parent, give_child, move, run, opened, with_word_raised, with_word_lowered, move_pass, move_some, may_try_child, may_give_parent, may_set_ceiling, may_split, may_join}
use Rattle.breaker_words.specs.Soundness.{IsSound}
use Rattle.breaker_words.specs.Breakers.{counter_value}
use Rattle.breaker_words.specs.Counts.{amount_granted, refusals, sum_over_moves, untaken_refusals, untaken_refusals_in, value_where}
use Rattle.atomic_table.proofs.Lists.{set_else}
use Rattle.list_laws.proofs.PlaceSums.{sum_by_set, sum_by_has}
use Rattle.std.proofs.lemmas.List.Sums.{sum_by_push}
use Rattle.breaker_words.proofs.Moves.{account_cases, move_pass_keeps}
use Rattle.list_laws.proofs.PlaceTests.{by_test}
use Rattle.breaker_words.proofs.OnePass.{both_cases, returns, rests}
use Rattle.breaker_words.proofs.Runs.{sound_run, sound_move}

-- one count rises by a, stopping at the most
raise_sum : (n m g a : ℕ) → g ≤ n → counter_value n ≡ counter_value m → counter_value (n - g + counter_value (g + a)) ≡ counter_value (m + a)
raise_sum n m g a low e = grind arith

same_sum : (n m a : ℕ) → a ≡ 0 → counter_value n ≡ counter_value m → counter_value n ≡ counter_value (m + a)
same_sum n m a z e = grind arith

join_sum : (n g h a m : ℕ) → g + h ≤ n → counter_value n ≡ counter_value m → a ≡ 0 → counter_value (n - g - h + counter_value (g + h)) ≡ counter_value (m + a)
join_sum n g h a m low e z = grind arith

-- at each breaker the count stays, or rises by what was granted there
granted_raised : (c : Child) (x : Which) (k : Accounts) (a : ℕ) → let g' = (account (raised_both k c a) x).granted in let d : ℕ = amount_at Parent a x + amount_at (which_of c) a x in (g' ≡ counter_value ((account k x).granted + d)) ⊎ ((g' ≡ (account k x).granted) × (d ≡ 0))
granted_raised child.Request Request k a = inl (omega arith)
granted_raised child.Request Parent k a = inl (omega arith)
granted_raised child.Fielddata Fielddata k a = inl (omega arith)
granted_raised child.Fielddata Parent k a = inl (omega arith)
granted_raised child.Inflight Inflight k a = inl (omega arith)
granted_raised child.Inflight Parent k a = inl (omega arith)
granted_raised _ _ k a = inr (refl, omega arith)

-- the accounts keep what was granted
Keeps : Accounts → Accounts → Type 0
Keeps k m = (x : Which) → (account m x).granted ≡ (account k x).granted

all_grants : (v : View) (t : ℕ) (x : Which) → granted_of (after_set_ceiling v t) x ≡ granted_of v x
all_grants v t Request = refl
all_grants v t Fielddata = refl
all_grants v t Inflight = refl
all_grants v t Parent = refl

no_grants : (x : Which) → (account empty_accounts x).granted ≡ 0
no_grants Request = refl
no_grants Fielddata = refl
no_grants Inflight = refl
no_grants Parent = refl

joined_grants : (v w : View) (x : Which) → granted_of (after_join v w) x ≡ counter_value (granted_of v x + granted_of w x)
joined_grants v w Request = refl
joined_grants v w Fielddata = refl
joined_grants v w Inflight = refl
joined_grants v w Parent = refl

first_grants : (l : Limits) (x : Which) → granted_of (first_view l) x ≡ 0
first_grants l x = no_grants x

module _ (l : Limits) (x : Which) where
  abbrev sum_of : BreakerState → ℕ
  sum_of s = sum_by (λ v. granted_of v x) s.passes

  -- one pass changes, and its count stays or rises
  one_pass : (s : BreakerState) (i : ℕ) (v w : View) (d m : ℕ) → get_elem? s.passes i ≡ some v → (granted_of w x ≡ counter_value (granted_of v x + d)) ⊎ ((granted_of w x ≡ granted_of v x) × (d ≡ 0)) → counter_value (sum_of s) ≡ counter_value m
      → counter_value (sum_by (λ u. granted_of u x) (set s.passes i w)) ≡ counter_value (m + d)
  one_pass s i v w d m here how e = let a = sum_by_set (λ u. granted_of u x) s.passes i v w here in let b = sum_by_has (λ u. granted_of u x) s.passes i v here in
      ⊎_elim (λ (g : granted_of w x ≡ counter_value (granted_of v x + d)). let r = raise_sum (sum_of s) m (granted_of v x) d b e in
      let is : sum_by (λ u. granted_of u x) (set s.passes i w) ≡ sum_of s - granted_of v x + counter_value (granted_of v x + d) = omega arith in ap counter_value is ∙ r)
      (λ (g : (granted_of w x ≡ granted_of v x) × (d ≡ 0)). let g0 = g.0 in let g1 = g.1 in let is : sum_by (λ u. granted_of u x) (set s.passes i w) ≡ sum_of s = omega arith in ap counter_value is ∙ same_sum (sum_of s) m d g1 e) how

  ceiled_grants : (v : View) (t : ℕ) → granted_of (after_set_ceiling v t) x ≡ granted_of v x
  ceiled_grants v t = all_grants v t x

  empty_grants : (account empty_accounts x).granted ≡ 0
  empty_grants = no_grants x

  parent_sum : (s : BreakerState) (i : ℕ) (v : View) (m : ℕ) → get_elem? s.passes i ≡ some v → counter_value (sum_of s) ≡ counter_value m → (b : Bool) →
      let n : ℕ = s.word_of Parent + v.amount in let k = noted_parent v n in let u : View = cond b (record v { accounts = raised_both k v.child v.amount; trial = Rest }) (record v { accounts = k; trial = ParentRefused }) in
      counter_value (sum_by (λ z. granted_of z x) (set s.passes i u)) ≡ counter_value (m + cond b (amount_at Parent v.amount x + amount_at (which_of v.child) v.amount x) 0)
  parent_sum s i v m here e true = let n : ℕ = s.word_of Parent + v.amount in let k = noted_parent v n in let q : (account k x).granted ≡ granted_of v x = account_cases (λ y d. d.granted ≡ (account v.accounts y).granted) Parent v.accounts (noted_account v.accounts.parent v.amount n) refl (λ y. refl) x in
      one_pass s i v _ _ m here (subst (λ g. ((account (raised_both k v.child v.amount) x).granted ≡ counter_value (g + (amount_at Parent v.amount x + amount_at (which_of v.child) v.amount x))) ⊎ (((account (raised_both k v.child v.amount) x).granted ≡ g) × (amount_at Parent v.amount x + amount_at (which_of v.child) v.amount x ≡ 0))) q (granted_raised v.child x k v.amount)) e
  parent_sum s i v m here e false = let n : ℕ = s.word_of Parent + v.amount in one_pass s i v _ 0 m here (inr (account_cases (λ y d. d.granted ≡ (account v.accounts y).granted) Parent v.accounts (noted_account v.accounts.parent v.amount n) refl (λ y. refl) x, refl)) e

  joined_sum : (s : BreakerState) (i j : ℕ) (v w : View) (m : ℕ) → get_elem? s.passes i ≡ some v → get_elem? s.passes j ≡ some w → j ≢ i → counter_value (sum_of s) ≡ counter_value m
      → counter_value (sum_by (λ z. granted_of z x) (set (set s.passes i (after_join v w)) j spent_view)) ≡ counter_value (m + 0)
  joined_sum s i j v w m here there apart e = let u = after_join v w in let a = sum_by_set (λ z. granted_of z x) s.passes i v u here in let b = sum_by_set (λ z. granted_of z x) (set s.passes i u) j w spent_view (set_else s.passes i j u apart ∙ there) in let z = no_grants x in
      let g = joined_grants v w x in let two = Rattle.list_laws.proofs.PlaceSums.sum_by_pair (λ z. granted_of z x) s.passes i j v w apart here there in
      let is : sum_by (λ z. granted_of z x) (set (set s.passes i u) j spent_view) ≡ sum_of s - granted_of v x - granted_of w x + counter_value (granted_of v x + granted_of w x) = omega arith in
      ap counter_value is ∙ join_sum (sum_of s) (granted_of v x) (granted_of w x) 0 m two e refl

  by_flag : (s t : BreakerState) (m d : ℕ) (b : Bool) → counter_value (sum_of s) ≡ counter_value m → (b ≡ true → counter_value (sum_of t) ≡ counter_value (m + d)) → counter_value (sum_of (cond b t s)) ≡ counter_value (m + cond b d 0)
  by_flag s t m d true e k = k refl
  by_flag s t m d false e k = same_sum (sum_of s) m 0 refl e

  by_opt : (s : BreakerState) (may : View → Bool) (act : View → BreakerState) (f : View → ℕ) (m : ℕ) → counter_value (sum_of s) ≡ counter_value m → (o : Option View)
      → ((v : View) → o ≡ some v → may v ≡ true → counter_value (sum_of (act v)) ≡ counter_value (m + f v)) → counter_value (sum_of (move_some s may act o)) ≡ counter_value (m + value_where may f o)
  by_opt s may act f m e none k = same_sum (sum_of s) m 0 refl e
  by_opt s may act f m e (some v) k = by_flag s (act v) m (f v) (may v) e (k v refl)

  -- a move that may be made or not, and what it adds
  by_on : (s : BreakerState) (i : ℕ) (may : View → Bool) (act : View → BreakerState) (f : View → ℕ) (m : ℕ) → counter_value (sum_of s) ≡ counter_value m
      → ((v : View) → get_elem? s.passes i ≡ some v → may v ≡ true → counter_value (sum_of (act v)) ≡ counter_value (m + f v)) → counter_value (sum_of (move_pass s i may act)) ≡ counter_value (m + value_where may f (get_elem? s.passes i))
  by_on s i may act f m e k = by_opt s may act f m e (get_elem? s.passes i) k

  pub granted_move : (s : BreakerState) (t : Move) (m : ℕ) → IsSound l s → counter_value (sum_of s) ≡ counter_value m → counter_value (sum_of (move l s t)) ≡ counter_value (m + amount_granted l s t x)
  granted_move s (look i w) m h e = same_sum (sum_of s) m 0 refl e
  granted_move s (set_ceiling i t) m h e = move_pass_keeps (λ u. counter_value (sum_of u) ≡ counter_value (m + 0)) s i (may_set_ceiling t) (λ v. record { word_of = s.word_of; ceiling = t; passes = set s.passes i (after_set_ceiling v t) }) (same_sum (sum_of s) m 0 refl e) (λ v here _. one_pass s i v (after_set_ceiling v t) 0 m here (inr (ceiled_grants v t, refl)) e)
  granted_move s (split i k) m h e = move_pass_keeps (λ u. counter_value (sum_of u) ≡ counter_value (m + 0)) s i (may_split k) (λ v. record { word_of = s.word_of; ceiling = s.ceiling; passes = set s.passes i (after_split v k) ++ split_off v k ∷ [] }) (same_sum (sum_of s) m 0 refl e)
      (λ v here _. let a = one_pass s i v (after_split v k) 0 m here (inr (refl, refl)) e in let b = sum_by_push (λ u. granted_of u x) (set s.passes i (after_split v k)) (split_off v k) in let z = empty_grants in let is : sum_by (λ u. granted_of u x) (set s.passes i (after_split v k) ++ split_off v k ∷ []) ≡ sum_by (λ u. granted_of u x) (set s.passes i (after_split v k)) = omega arith in ap counter_value is ∙ a)
  granted_move s (join i j) m h e = let act : View → View → BreakerState = λ v w. record { word_of = s.word_of; ceiling = s.ceiling; passes = set (set s.passes i (after_join v w)) j spent_view } in
      move_pass_keeps (λ u. counter_value (sum_of u) ≡ counter_value (m + 0)) s i (λ v. may_join v && not (eqb i j)) (λ v. move_pass s j may_join (act v)) (same_sum (sum_of s) m 0 refl e)
      (λ v here t. let p : eqb i j ≡ false = grind (arith, nat_tests, and_parts (may_join v) (not (eqb i j)) t) in
      move_pass_keeps (λ u. counter_value (sum_of u) ≡ counter_value (m + 0)) s j may_join (act v) (same_sum (sum_of s) m 0 refl e) (λ w there _. joined_sum s i j v w m here there (λ z. grind (arith, nat_tests, p)) e))
  granted_move s (try_child i c a) m h e = move_pass_keeps (λ u. counter_value (sum_of u) ≡ counter_value (m + 0)) s i (may_try_child a) (λ v. with_word_raised s i (which_of c) a (after_try_child l v c a (s.word_of (which_of c) + a))) (same_sum (sum_of s) m 0 refl e)
      (λ v here _. one_pass s i v (after_try_child l v c a (s.word_of (which_of c) + a)) 0 m here (inr (account_cases (λ y d. d.granted ≡ (account v.accounts y).granted) (which_of c) v.accounts (noted_account (account v.accounts (which_of c)) a (s.word_of (which_of c) + a)) refl (λ y. refl) x, refl)) e)
  granted_move s (take_back_child i) m h e = move_pass_keeps (λ u. counter_value (sum_of u) ≡ counter_value (m + 0)) s i (λ v. is_returning v.trial) (λ v. with_word_lowered s i (which_of v.child) v.amount (after_take_back_child v)) (same_sum (sum_of s) m 0 refl e)
      (λ v here _. one_pass s i v (after_take_back_child v) 0 m here (inr (
        by_test (λ k. (account k x).granted ≡ (account v.accounts x).granted) (is_child_refused v.trial) (put v.accounts (which_of v.child) (tripped_account (account v.accounts (which_of v.child)))) v.accounts
            (λ _. account_cases (λ y d. d.granted ≡ (account v.accounts y).granted) (which_of v.child) v.accounts (tripped_account (account v.accounts (which_of v.child))) refl (λ y. refl) x) (λ _. refl),
        refl,
      )) e)
  granted_move s (try_parent i) m h e = by_on s i (λ v. is_child_granted v.trial) (λ v. with_word_raised s i Parent v.amount (after_try_parent l v (s.word_of Parent + v.amount)))
      (λ v. cond (leb (s.word_of Parent + v.amount) l.parent) (amount_at Parent v.amount x + amount_at (which_of v.child) v.amount x) 0) m e
      (λ v here _. parent_sum s i v m here e (leb (s.word_of Parent + v.amount) l.parent))
  granted_move s (take_back_parent i) m h e = move_pass_keeps (λ u. counter_value (sum_of u) ≡ counter_value (m + 0)) s i (λ v. is_parent_refused v.trial) (λ v. with_word_lowered s i Parent v.amount (after_take_back_parent v)) (same_sum (sum_of s) m 0 refl e)
      (λ v here _. one_pass s i v (after_take_back_parent v) 0 m here (inr (account_cases (λ y d. d.granted ≡ (account v.accounts y).granted) Parent v.accounts (tripped_account v.accounts.parent) refl (λ y. refl) x, refl)) e)
  granted_move s (give_parent i c a) m h e = move_pass_keeps (λ u. counter_value (sum_of u) ≡ counter_value (m + 0)) s i (may_give_parent c a) (λ v. with_word_lowered s i Parent a (after_give_parent v c a)) (same_sum (sum_of s) m 0 refl e)
      (λ v here _. one_pass s i v (after_give_parent v c a) 0 m here (inr (account_cases (λ y d. d.granted ≡ (account v.accounts y).granted) Parent v.accounts (lowered_account v.accounts.parent a) refl (λ y. refl) x, refl)) e)
  granted_move s (give_child i) m h e = move_pass_keeps (λ u. counter_value (sum_of u) ≡ counter_value (m + 0)) s i (λ v. is_given v.trial) (λ v. with_word_lowered s i (which_of v.child) v.amount (after_give_child v)) (same_sum (sum_of s) m 0 refl e)
      (λ v here _. one_pass s i v (after_give_child v) 0 m here (inr (account_cases (λ y d. d.granted ≡ (account v.accounts y).granted) (which_of v.child) v.accounts (lowered_account (account v.accounts (which_of v.child)) v.amount) refl (λ y. refl) x, refl)) e)

granted_fold : (l : Limits) (x : Which) (ms : List Move) (s : BreakerState) (m : ℕ) → IsSound l s → counter_value (sum_of l x s) ≡ counter_value m → counter_value (sum_of l x (fold (move l) s ms)) ≡ counter_value (m + sum_over_moves amount_granted l s ms x)
granted_fold l x [] s m h e = same_sum (sum_of l x s) m 0 refl e
granted_fold l x (t ∷ ts) s m h e = granted_fold l x ts (move l s t) (m + amount_granted l s t x) (sound_move l s t h) (granted_move l x s t m h e) ∙ (let is : m + amount_granted l s t x + sum_over_moves amount_granted l (move l s t) ts x ≡ m + (amount_granted l s t x + sum_over_moves amount_granted l (move l s t) ts x) = omega arith in ap counter_value is)

-- for every list of moves the sum of what the passes say that they were granted is the sum of what was granted, cut
pub granted_run : (l : Limits) (x : Which) (ms : List Move) → counter_value (sum_by (λ v. (account v.accounts x).granted) (run l ms).passes) ≡ counter_value (sum_over_moves amount_granted l (opened l) ms x)
granted_run l x ms = granted_fold l x ms (opened l) 0 (sound_run l []) (let z = first_grants l x in let is : sum_of l x (opened l) ≡ 0 = omega arith in ap counter_value is) ∙ (let is : 0 + sum_over_moves amount_granted l (opened l) ms x ≡ sum_over_moves amount_granted l (opened l) ms x = omega arith in ap counter_value is)

-- trips, and the refused trials that wait to be taken back
keep_trip : (n p q w m d : ℕ) → q ≤ n → w ≤ p → counter_value (n + p) ≡ counter_value m → counter_value ((n - q + q) + (p - w + (w + d))) ≡ counter_value (m + d)
keep_trip n p q w m d a b e = grind arith

count_trip : (n p q w m : ℕ) → q ≤ n → w + 1 ≤ p → counter_value (n + p) ≡ counter_value m → counter_value ((n - q + counter_value (q + 1)) + (p - (w + 1) + w)) ≡ counter_value (m + 0)
count_trip n p q w m a b e = grind arith

join_trip : (n p q r m : ℕ) → q + r ≤ n → counter_value (n + p) ≡ counter_value m → counter_value ((n - q - r + counter_value (q + r)) + p) ≡ counter_value (m + 0)
join_trip n p q r m a e = grind arith

trips_raised : (c : Child) (x : Which) (k : Accounts) (a : ℕ) → (account (raised_both k c a) x).trips ≡ (account k x).trips
trips_raised child.Request Request k a = refl
trips_raised child.Fielddata Fielddata k a = refl
trips_raised child.Inflight Inflight k a = refl
trips_raised _ _ k a = refl

all_trips : (v : View) (t : ℕ) (x : Which) → trips_of (after_set_ceiling v t) x ≡ trips_of v x
all_trips v t Request = refl
all_trips v t Fielddata = refl
all_trips v t Inflight = refl
all_trips v t Parent = refl

no_trips : (x : Which) → (account empty_accounts x).trips ≡ 0
no_trips Request = refl
no_trips Fielddata = refl
no_trips Inflight = refl
no_trips Parent = refl

joined_trips : (v w : View) (x : Which) → trips_of (after_join v w) x ≡ counter_value (trips_of v x + trips_of w x)
joined_trips v w Request = refl
joined_trips v w Fielddata = refl
joined_trips v w Inflight = refl
joined_trips v w Parent = refl

-- a trip is counted at w, and the trial waits no more
trip_put : (w : Which) (k : Accounts) (x : Which) → let q = (account (put k w (tripped_account (account k w))) x).trips in ((q ≡ (account k x).trips) × (amount_at w 1 x ≡ 0)) ⊎ ((q ≡ counter_value ((account k x).trips + 1)) × (amount_at w 1 x ≡ 1))
trip_put w k x = both_cases (λ y b n. ((b.trips ≡ (account k y).trips) × (n ≡ 0)) ⊎ ((b.trips ≡ counter_value ((account k y).trips + 1)) × (n ≡ 1))) w k (tripped_account (account k w)) 1 (inr (refl, refl)) (λ y. inl (refl, refl)) x

module _ (l : Limits) (x : Which) where
  abbrev trips_in : List View → ℕ
  trips_in vs = sum_by (λ v. trips_of v x) vs + sum_by (λ v. untaken_refusals v x) vs

  -- what one pass's change adds to the refusals: d
  Changes : View → View → ℕ → Type 0
  Changes v w d = ((trips_of w x ≡ trips_of v x) × (untaken_refusals w x ≡ untaken_refusals v x + d)) ⊎ ((trips_of w x ≡ counter_value (trips_of v x + 1)) × (untaken_refusals v x ≡ untaken_refusals w x + 1) × (d ≡ 0))

  one_trip : (s : BreakerState) (i : ℕ) (v w : View) (d m : ℕ) → get_elem? s.passes i ≡ some v → Changes v w d → counter_value (trips_in s.passes) ≡ counter_value m → counter_value (trips_in (set s.passes i w)) ≡ counter_value (m + d)
  unfolding Changes
  one_trip s i v w d m here how e = let n : ℕ = sum_by (λ u. trips_of u x) s.passes in let p : ℕ = sum_by (λ u. untaken_refusals u x) s.passes in
      let a = sum_by_set (λ u. trips_of u x) s.passes i v w here in let b = sum_by_set (λ u. untaken_refusals u x) s.passes i v w here in let a' = sum_by_has (λ u. trips_of u x) s.passes i v here in let b' = sum_by_has (λ u. untaken_refusals u x) s.passes i v here in
      ⊎_elim (λ (g : (trips_of w x ≡ trips_of v x) × (untaken_refusals w x ≡ untaken_refusals v x + d)). let g0 = g.0 in let g1 = g.1 in
      let is : trips_in (set s.passes i w) ≡ (n - trips_of v x + trips_of v x) + (p - untaken_refusals v x + (untaken_refusals v x + d)) = omega arith in ap counter_value is ∙ keep_trip n p (trips_of v x) (untaken_refusals v x) m d a' b' e)
      (λ (g : (trips_of w x ≡ counter_value (trips_of v x + 1)) × (untaken_refusals v x ≡ untaken_refusals w x + 1) × (d ≡ 0)). let g0 = g.0 in let g1 = g.1 in let g2 = g.2 in
      let is : trips_in (set s.passes i w) ≡ (n - trips_of v x + counter_value (trips_of v x + 1)) + (p - (untaken_refusals w x + 1) + untaken_refusals w x) = omega arith in
      let z : m + 0 ≡ m + d = omega arith in ap counter_value is ∙ (count_trip n p (trips_of v x) (untaken_refusals w x) m a' (omega arith) e ∙ ap counter_value z)) how

  wait_as : (v : View) (t : Trial) → v.trial ≡ t → untaken_refusals v x ≡ untaken_refusals_in t (which_of v.child) x
  wait_as v t e = ap (λ (z : Trial). untaken_refusals_in z (which_of v.child) x) e

  stays : (s : BreakerState) (m : ℕ) → counter_value (trips_in s.passes) ≡ counter_value m → counter_value (trips_in s.passes) ≡ counter_value (m + 0)
  stays s m e = same_sum (trips_in s.passes) m 0 refl e

  noted_trips : (k : Accounts) (w : Which) (a n : ℕ) → (account (put k w (noted_account (account k w) a n)) x).trips ≡ (account k x).trips
  noted_trips k w a n = account_cases (λ y b. b.trips ≡ (account k y).trips) w k (noted_account (account k w) a n) refl (λ y. refl) x

  lowered_trips : (k : Accounts) (w : Which) (a : ℕ) → (account (put k w (lowered_account (account k w) a)) x).trips ≡ (account k x).trips
  lowered_trips k w a = account_cases (λ y b. b.trips ≡ (account k y).trips) w k (lowered_account (account k w) a) refl (λ y. refl) x

  flag_trip : (s t : BreakerState) (m d : ℕ) (b : Bool) → counter_value (trips_in s.passes) ≡ counter_value m → (b ≡ true → counter_value (trips_in t.passes) ≡ counter_value (m + d)) → counter_value (trips_in (cond b t s).passes) ≡ counter_value (m + cond b d 0)
  flag_trip s t m d true e k = k refl
  flag_trip s t m d false e k = stays s m e

  by_opt_trip : (s : BreakerState) (may : View → Bool) (act : View → BreakerState) (f : View → ℕ) (m : ℕ) → counter_value (trips_in s.passes) ≡ counter_value m → (o : Option View)
      → ((v : View) → o ≡ some v → may v ≡ true → counter_value (trips_in (act v).passes) ≡ counter_value (m + f v)) → counter_value (trips_in (move_some s may act o).passes) ≡ counter_value (m + value_where may f o)
  by_opt_trip s may act f m e none k = stays s m e
  by_opt_trip s may act f m e (some v) k = flag_trip s (act v) m (f v) (may v) e (k v refl)

  try_changes : (v : View) (c : Child) (a n : ℕ) (b : Bool) → v.trial ≡ Rest → Changes v (record v { accounts = put v.accounts (which_of c) (noted_account (account v.accounts (which_of c)) a n); trial = cond b ChildGranted ChildRefused; child = c; amount = a }) (cond b 0 (amount_at (which_of c) 1 x))
  unfolding Changes
  try_changes v c a n true rest = let w = wait_as v Rest rest in inl (noted_trips v.accounts (which_of c) a n, omega arith)
  try_changes v c a n false rest = let w = wait_as v Rest rest in inl (noted_trips v.accounts (which_of c) a n, omega arith)

  parent_changes : (v : View) (n : ℕ) (b : Bool) → v.trial ≡ ChildGranted → Changes v (cond b (record v { accounts = raised_both (noted_parent v n) v.child v.amount; trial = Rest }) (record v { accounts = noted_parent v n; trial = ParentRefused })) (cond b 0 (amount_at Parent 1 x))
  unfolding Changes
  parent_changes v n true is = let w = wait_as v ChildGranted is in inl (trips_raised v.child x (noted_parent v n) v.amount ∙ noted_trips v.accounts Parent v.amount n, omega arith)
  parent_changes v n false is = let w = wait_as v ChildGranted is in inl (noted_trips v.accounts Parent v.amount n, omega arith)

  trip_changes : (v u : View) (w : Which) (k : Accounts) → u.accounts ≡ put v.accounts w (tripped_account (account v.accounts w)) → untaken_refusals v x ≡ amount_at w 1 x → untaken_refusals u x ≡ 0 → Changes v u 0
  unfolding Changes
  trip_changes v u w k is e z = let q : trips_of u x ≡ (account (put v.accounts w (tripped_account (account v.accounts w))) x).trips = ap (λ (y : Accounts). (account y x).trips) is in
      ⊎_elim (λ g. let g0 = g.0 in let g1 = g.1 in inl (q ∙ g0, omega arith)) (λ g. let g0 = g.0 in let g1 = g.1 in inr (q ∙ g0, omega arith, refl)) (trip_put w v.accounts x)

  taken_changes : (v : View) → is_returning v.trial ≡ true → Changes v (after_take_back_child v) 0
  unfolding Changes
  taken_changes v e = let w = which_of v.child in
      ⊎_elim (λ (r : v.trial ≡ ChildRefused). trip_changes v (after_take_back_child v) w v.accounts (ap (λ (t : Trial). cond (is_child_refused t) (put v.accounts w (tripped_account (account v.accounts w))) v.accounts) r) (wait_as v ChildRefused r) refl)
      (λ (r : v.trial ≡ ChildReturning). let z = wait_as v ChildReturning r in inl (ap (λ (t : Trial). (account (cond (is_child_refused t) (put v.accounts w (tripped_account (account v.accounts w))) v.accounts) x).trips) r, omega arith)) (returns v.trial e)

  own_trip : (s : BreakerState) (i : ℕ) (may : View → Bool) (act : View → BreakerState) (f : View → View) (m : ℕ) → ((v : View) → (act v).passes ≡ set s.passes i (f v)) → ((v : View) → may v ≡ true → Changes v (f v) 0) → counter_value (trips_in s.passes) ≡ counter_value m
      → counter_value (trips_in (move_pass s i may act).passes) ≡ counter_value (m + 0)
  own_trip s i may act f m is how e = move_pass_keeps (λ u. counter_value (trips_in u.passes) ≡ counter_value (m + 0)) s i may act (stays s m e) (λ v here t. ap (λ (vs : List View). counter_value (trips_in vs)) (is v) ∙ one_trip s i v (f v) 0 m here (how v t) e)

  as_it_was : (v u : View) → trips_of u x ≡ trips_of v x → untaken_refusals u x ≡ untaken_refusals v x → Changes v u 0
  unfolding Changes
  as_it_was v u p q = inl (p, omega arith)

  rest_wait : (v : View) → is_rest v.trial ≡ true → untaken_refusals v x ≡ 0
  rest_wait v e = wait_as v Rest (rests v.trial e)

  trips_joined : (s : BreakerState) (i j : ℕ) (v w : View) (m : ℕ) → get_elem? s.passes i ≡ some v → get_elem? s.passes j ≡ some w → j ≢ i → untaken_refusals v x ≡ 0 → untaken_refusals w x ≡ 0 → counter_value (trips_in s.passes) ≡ counter_value m
      → counter_value (trips_in (set (set s.passes i (after_join v w)) j spent_view)) ≡ counter_value (m + 0)
  trips_joined s i j v w m here there apart rest rest' e = let u = after_join v w in let there' = set_else s.passes i j u apart ∙ there in let n : ℕ = sum_by (λ z. trips_of z x) s.passes in let p : ℕ = sum_by (λ z. untaken_refusals z x) s.passes in
      let a = sum_by_set (λ z. trips_of z x) s.passes i v u here in let b = sum_by_set (λ z. trips_of z x) (set s.passes i u) j w spent_view there' in let z = no_trips x in let g = joined_trips v w x in
      let a' = sum_by_set (λ z. untaken_refusals z x) s.passes i v u here in let b' = sum_by_set (λ z. untaken_refusals z x) (set s.passes i u) j w spent_view there' in let two = Rattle.list_laws.proofs.PlaceSums.sum_by_pair (λ z. trips_of z x) s.passes i j v w apart here there in
      let is : trips_in (set (set s.passes i u) j spent_view) ≡ (n - trips_of v x - trips_of w x + counter_value (trips_of v x + trips_of w x)) + p = omega arith in ap counter_value is ∙ join_trip n p (trips_of v x) (trips_of w x) m two e

  trips_move : (s : BreakerState) (t : Move) (m : ℕ) → counter_value (trips_in s.passes) ≡ counter_value m → counter_value (trips_in (move l s t).passes) ≡ counter_value (m + refusals l s t x)
  trips_move s (look i w) m e = stays s m e
  trips_move s (set_ceiling i t) m e = own_trip s i (may_set_ceiling t) (λ v. record { word_of = s.word_of; ceiling = t; passes = set s.passes i (after_set_ceiling v t) }) (λ v. after_set_ceiling v t) m (λ v. refl) (λ v _. as_it_was v (after_set_ceiling v t) (all_trips v t x) refl) e
  trips_move s (split i k) m e = let act : View → BreakerState = λ v. record { word_of = s.word_of; ceiling = s.ceiling; passes = set s.passes i (after_split v k) ++ split_off v k ∷ [] } in move_pass_keeps (λ u. counter_value (trips_in u.passes) ≡ counter_value (m + 0)) s i (may_split k) act (stays s m e)
      (λ v here _. let vs = set s.passes i (after_split v k) in let a = one_trip s i v (after_split v k) 0 m here (as_it_was v (after_split v k) refl refl) e in let b = sum_by_push (λ u. trips_of u x) vs (split_off v k) in let b' = sum_by_push (λ u. untaken_refusals u x) vs (split_off v k) in let z = no_trips x in
      let is : trips_in (vs ++ split_off v k ∷ []) ≡ trips_in vs = omega arith in ap counter_value is ∙ a)
  trips_move s (join i j) m e = let act : View → View → BreakerState = λ v w. record { word_of = s.word_of; ceiling = s.ceiling; passes = set (set s.passes i (after_join v w)) j spent_view } in
      move_pass_keeps (λ u. counter_value (trips_in u.passes) ≡ counter_value (m + 0)) s i (λ v. may_join v && not (eqb i j)) (λ v. move_pass s j may_join (act v)) (stays s m e)
      (λ v here t. let q = and_parts (may_join v) (not (eqb i j)) t in let p : eqb i j ≡ false = grind (arith, nat_tests, q.1) in
      move_pass_keeps (λ u. counter_value (trips_in u.passes) ≡ counter_value (m + 0)) s j may_join (act v) (stays s m e) (λ w there t'. trips_joined s i j v w m here there (λ z. grind (arith, nat_tests, p)) (rest_wait v (and_parts _ _ q.0).0) (rest_wait w (and_parts _ _ t').0) e))
  trips_move s (try_child i c a) m e = by_opt_trip s (may_try_child a) (λ v. with_word_raised s i (which_of c) a (after_try_child l v c a (s.word_of (which_of c) + a))) (λ v. cond (leb (s.word_of (which_of c) + a) (limit_of l (which_of c))) 0 (amount_at (which_of c) 1 x)) m e (get_elem? s.passes i)
      (λ v here t. one_trip s i v (after_try_child l v c a (s.word_of (which_of c) + a)) (cond (leb (s.word_of (which_of c) + a) (limit_of l (which_of c))) 0 (amount_at (which_of c) 1 x)) m here
      (try_changes v c a (s.word_of (which_of c) + a) (leb (s.word_of (which_of c) + a) (limit_of l (which_of c))) (rests v.trial (and_parts _ _ (and_parts _ _ t).0).0)) e)
  trips_move s (take_back_child i) m e = own_trip s i (λ v. is_returning v.trial) (λ v. with_word_lowered s i (which_of v.child) v.amount (after_take_back_child v)) after_take_back_child m (λ v. refl) taken_changes e
  trips_move s (try_parent i) m e = by_opt_trip s (λ v. is_child_granted v.trial) (λ v. with_word_raised s i Parent v.amount (after_try_parent l v (s.word_of Parent + v.amount))) (λ v. cond (leb (s.word_of Parent + v.amount) l.parent) 0 (amount_at Parent 1 x)) m e (get_elem? s.passes i)
      (λ v here t. one_trip s i v (after_try_parent l v (s.word_of Parent + v.amount)) (cond (leb (s.word_of Parent + v.amount) l.parent) 0 (amount_at Parent 1 x)) m here
      (parent_changes v (s.word_of Parent + v.amount) (leb (s.word_of Parent + v.amount) l.parent) (Rattle.breaker_words.proofs.OnePass.grants v.trial t)) e)
  trips_move s (take_back_parent i) m e = own_trip s i (λ v. is_parent_refused v.trial) (λ v. with_word_lowered s i Parent v.amount (after_take_back_parent v)) after_take_back_parent m (λ v. refl)
      (λ v t. trip_changes v (after_take_back_parent v) Parent v.accounts refl (wait_as v ParentRefused (Rattle.breaker_words.proofs.OnePass.refuses v.trial t)) refl) e
  trips_move s (give_parent i c a) m e = own_trip s i (may_give_parent c a) (λ v. with_word_lowered s i Parent a (after_give_parent v c a)) (λ v. after_give_parent v c a) m (λ v. refl)
      (λ v t. as_it_was v (after_give_parent v c a) (lowered_trips v.accounts Parent a) (sym (rest_wait v (and_parts _ _ (and_parts _ _ t).0).0))) e
  trips_move s (give_child i) m e = own_trip s i (λ v. is_given v.trial) (λ v. with_word_lowered s i (which_of v.child) v.amount (after_give_child v)) after_give_child m (λ v. refl)
      (λ v t. as_it_was v (after_give_child v) (lowered_trips v.accounts (which_of v.child) v.amount) (sym (wait_as v ParentGiven (Rattle.breaker_words.proofs.OnePass.gives v.trial t)))) e

trips_fold : (l : Limits) (x : Which) (ms : List Move) (s : BreakerState) (m : ℕ) → counter_value (trips_in l x s.passes) ≡ counter_value m → counter_value (trips_in l x (fold (move l) s ms).passes) ≡ counter_value (m + sum_over_moves refusals l s ms x)
trips_fold l x [] s m e = same_sum (trips_in l x s.passes) m 0 refl e
trips_fold l x (t ∷ ts) s m e = trips_fold l x ts (move l s t) (m + refusals l s t x) (trips_move l x s t m e) ∙ (let is : m + refusals l s t x + sum_over_moves refusals l (move l s t) ts x ≡ m + (refusals l s t x + sum_over_moves refusals l (move l s t) ts x) = omega arith in ap counter_value is)

-- the trips with the refused trials that wait are the refusals in the list, cut
pub trips_run : (l : Limits) (x : Which) (ms : List Move) → counter_value (sum_by (λ v. (account v.accounts x).trips) (run l ms).passes + sum_by (λ v. untaken_refusals v x) (run l ms).passes) ≡ counter_value (sum_over_moves refusals l (opened l) ms x)
trips_run l x ms = trips_fold l x ms (opened l) 0 (let z = no_trips x in let is : trips_in l x (opened l).passes ≡ 0 = omega arith in ap counter_value is) ∙ (let is : 0 + sum_over_moves refusals l (opened l) ms x ≡ sum_over_moves refusals l (opened l) ms x = omega arith in ap counter_value is)
