-- A batch's count word is the sum of its tickets that were drawn and are in no hand.
use Rattle.std.proofs.Common.{◌≡◌, ℕ, zero, suc, ◌+◌, ◌-◌, ◌*◌, ◌/◌, ◌<◌, ◌≤◌, min, ⊎_elim, true, false, cond, ◌&&◌, eqb, ltb, get_or, List, [], ◌∷◌, sym, refl, ap, ◌∙◌, arith}
use Rattle.std.specs.List.{sum_by}
use Rattle.std.proofs.lemmas.Bool.{eqb-true, ltb-true, cond-true, cond-false, cases_Bool}
use Rattle.std.proofs.lemmas.List.Sums.{sum_by-cons}
use mathlib.Core.Option.{some}
use mathlib.Core.Logic.{dite}
use native.Mathlib.Decide.{ℕ_discrete, dec_lt}
use lib.ListN.{get_elem?}
use Rattle.arrival_moves.specs.declared.plan.Plan.{Plan}
use Rattle.arrival_moves.specs.declared.view.View.{View}
use Rattle.arrival_moves.specs.declared.item.Item.{Item}
use Rattle.arrival_moves.specs.declared.item.Item.TheVariants.{Claimed, Loaded, Arrived, Put, Batch, Closed}
use Rattle.arrival_moves.specs.Lists.{one_if, times, numbers_from}
use Rattle.arrival_moves.specs.Plans.{tasks_of, place_of, batch_size, IsPlan}
use Rattle.arrival_moves.specs.Items.{arrived_at, put_at, uncounted_in}
use Rattle.arrival_moves.specs.Hands.{in_hand, in_hands}
use Rattle.arrival_moves.specs.Moves.{ArrivalState}
use Rattle.arrival_moves.specs.Fairness.{is_counted}
use Rattle.list_laws.proofs.PlaceSums.{sum_by_has}
use Rattle.arrival_moves.proofs.OneIf.{one_if_true}
use Rattle.arrival_moves.proofs.BatchRanges.{batch_times}
use Rattle.arrival_moves.proofs.Quiet.{lt_one, lt_none, eq_one, eq_none}
use Rattle.arrival_moves.proofs.Words.{drawn_le}
use Rattle.arrival_moves.proofs.Results.{both_one}
use Rattle.arrival_moves.proofs.LabelsFit.{IsBatch}
use Rattle.arrival_moves.proofs.Runs.{IsKept}

module _ {X : Type 0} where
  -- numbers that are 0, and that add up, at each element
  sum_zero : (f : X → ℕ) → ((x : X) → f x ≡ 0) → (xs : List X) → sum_by f xs ≡ 0
  sum_zero f h [] = refl
  sum_zero f h (x ∷ xs) = let a = sum_by-cons f x xs in let b = h x in let c = sum_zero f h xs in omega arith

  sum_plus : (h f g : X → ℕ) → ((x : X) → h x ≡ f x + g x) → (xs : List X) → sum_by h xs ≡ sum_by f xs + sum_by g xs
  sum_plus h f g e [] = refl
  sum_plus h f g e (x ∷ xs) = let a = sum_by-cons h x xs in let b = sum_by-cons f x xs in let c = sum_by-cons g x xs in let d = e x in let r = sum_plus h f g e xs in omega arith

  -- and that are equal at each element of the list
  sum_same : (f g : X → ℕ) (xs : List X) → ((i : ℕ) (x : X) → get_elem? xs i ≡ some x → f x ≡ g x) → sum_by f xs ≡ sum_by g xs
  sum_same f g [] h = refl
  sum_same f g (x ∷ xs) h = let a = sum_by-cons f x xs in let b = sum_by-cons g x xs in let c = h 0 x refl in let r = sum_same f g xs (λ i y e. h (suc i) y e) in omega arith

-- a ticket with its task or its put result
abbrev uncounted_at : ℕ → ℕ → Item → ℕ
uncounted_at q t x = arrived_at q t x + put_at q t x

-- over all hands, and over all tickets of a list
hands_over : (q : ℕ) (ts : List ℕ) (vs : List View) → sum_by (λ t. in_hands (uncounted_at q t) vs) ts ≡ in_hands (λ x. sum_by (λ t. uncounted_at q t x) ts) vs
hands_over q [] vs = sym (sum_zero (in_hand (λ x. sum_by (λ t. uncounted_at q t x) [])) (λ v. sum_zero (λ x. sum_by (λ t. uncounted_at q t x) []) (λ x. refl) v.hand) vs)
hands_over q (t ∷ ts) vs = let a = sum_by-cons (λ u. in_hands (uncounted_at q u) vs) t ts in let r = hands_over q ts vs in
    let b = sum_plus (in_hand (λ x. sum_by (λ u. uncounted_at q u x) (t ∷ ts))) (in_hand (uncounted_at q t)) (in_hand (λ x. sum_by (λ u. uncounted_at q u x) ts))
    (λ v. sum_plus (λ x. sum_by (λ u. uncounted_at q u x) (t ∷ ts)) (uncounted_at q t) (λ x. sum_by (λ u. uncounted_at q u x) ts) (λ x. sum_by-cons (λ u. uncounted_at q u x) t ts) v.hand) vs in omega arith

-- how often one pair is among the tickets of a list
pair_sum : (r u q : ℕ) (ts : List ℕ) → sum_by (λ t. one_if (eqb r q && eqb u t)) ts ≡ cond (eqb r q) (times u ts) 0
pair_sum r u q ts = ⊎_elim
    (λ (y : eqb r q ≡ true). sum_same (λ t. one_if (eqb r q && eqb u t)) (λ t. one_if (eqb t u)) ts (λ i t e. ap (λ b. one_if (b && eqb u t)) y ∙ turned u t) ∙ sym (cond-true _ _ _ y))
    (λ (y : eqb r q ≡ false). sum_zero (λ t. one_if (eqb r q && eqb u t)) (λ t. ap (λ b. one_if (b && eqb u t)) y) ts ∙ sym (cond-false _ _ _ y))
    (cases_Bool (eqb r q))
  where
    turned : (a b : ℕ) → one_if (eqb a b) ≡ one_if (eqb b a)
    turned a b = dite (ℕ_discrete a b) (λ y. let c = eq_one a b y in let d = eq_one b a (sym y) in omega arith) (λ y. let c = eq_none a b y in let d = eq_none b a (λ z. y (sym z)) in omega arith)

-- the drawn tickets of a range
drawn_in : (a n w : ℕ) → sum_by (λ t. one_if (ltb t w)) (numbers_from a n) ≡ min n (w - a)
drawn_in a zero w = omega arith
drawn_in a (suc n) w = let c = sum_by-cons (λ t. one_if (ltb t w)) a (numbers_from (suc a) n) in let r = drawn_in (suc a) n w in dite (dec_lt a w) (λ y. let d = lt_one a w y in omega arith) (λ y. let d = lt_none a w (omega arith) in omega arith)

module _ (p : Plan) (good : IsPlan p) (s : ArrivalState) (f : IsKept p s) (q b : ℕ) where
  abbrev batch_numbers : List ℕ
  batch_numbers = numbers_from (b * p.batch) (batch_size p q b)

  -- a ticket in hand is one of its search
  in_search : (i j t : ℕ) (v : View) (x : Item) → get_elem? s.desks i ≡ some v → get_elem? v.hand j ≡ some x → 1 ≤ uncounted_at q t x → t < tasks_of p q
  in_search i j t v x e h one = let a = sum_by_has (arrived_at q t) v.hand j x h in let c = sum_by_has (in_hand (arrived_at q t)) s.desks i v e in let d = sum_by_has (put_at q t) v.hand j x h in let k = sum_by_has (in_hand (put_at q t)) s.desks i v e in
      let top = f.counts.uncounted q t in let low : t < get_or s.tickets q 0 = ltb-true _ _ (one_if_true (ltb t (get_or s.tickets q 0)) (omega arith)) in let w = f.words.word q in let m = drawn_le p good q s.claimed in omega arith

  -- a pair that is in hand, if of q, is among the batch's tickets where it is of the batch
  pair_in : (r u : ℕ) → (r ≡ q → u < tasks_of p q) → sum_by (λ t. one_if (eqb r q && eqb u t)) batch_numbers ≡ one_if (eqb r q && eqb (u / p.batch) b)
  pair_in r u within = pair_sum r u q batch_numbers ∙ ⊎_elim
      (λ (y : eqb r q ≡ true). cond-true _ _ _ y ∙ (batch_times p good q b u (within (eqb-true r q y)) ∙ sym (ap (λ z. one_if (z && eqb (u / p.batch) b)) y)))
      (λ (y : eqb r q ≡ false). cond-false _ _ _ y ∙ sym (ap (λ z. one_if (z && eqb (u / p.batch) b)) y))
      (cases_Bool (eqb r q))

  item_in : (i j : ℕ) (v : View) (x : Item) → get_elem? s.desks i ≡ some v → get_elem? v.hand j ≡ some x → sum_by (λ t. uncounted_at q t x) batch_numbers ≡ uncounted_in p q b x
  item_in i j v (Claimed k) e h = sum_zero (λ t. uncounted_at q t (Claimed k)) (λ t. refl) batch_numbers
  item_in i j v (Loaded z) e h = sum_zero (λ t. uncounted_at q t (Loaded z)) (λ t. refl) batch_numbers
  item_in i j v (Arrived z) e h = sum_same (λ t. uncounted_at q t (Arrived z)) (λ t. one_if (eqb z.search q && eqb z.ticket t)) batch_numbers (λ k t d. omega arith)
      ∙ pair_in z.search z.ticket (λ y. in_search i j z.ticket v (Arrived z) e h (let one = both_one z.search z.ticket q z.ticket y refl in omega arith))
  item_in i j v (Put z) e h = sum_same (λ t. uncounted_at q t (Put z)) (λ t. one_if (eqb z.search q && eqb z.ticket t)) batch_numbers (λ k t d. omega arith)
      ∙ pair_in z.search z.ticket (λ y. in_search i j z.ticket v (Put z) e h (let one = both_one z.search z.ticket q z.ticket y refl in omega arith))
  item_in i j v (Batch z) e h = sum_zero (λ t. uncounted_at q t (Batch z)) (λ t. refl) batch_numbers
  item_in i j v (Closed z) e h = sum_zero (λ t. uncounted_at q t (Closed z)) (λ t. refl) batch_numbers

  -- the uncounted tickets of the batch, one by one
  uncounted_all : sum_by (λ t. in_hands (uncounted_at q t) s.desks) batch_numbers ≡ in_hands (uncounted_in p q b) s.desks
  uncounted_all = hands_over q batch_numbers s.desks ∙ sum_same (in_hand (λ x. sum_by (λ t. uncounted_at q t x) batch_numbers)) (in_hand (uncounted_in p q b)) s.desks
      (λ i v e. sum_same (λ x. sum_by (λ t. uncounted_at q t x) batch_numbers) (uncounted_in p q b) v.hand (λ j x h. item_in i j v x e h))

  -- each ticket that was drawn is uncounted or counted
  drawn_at : (t : ℕ) → one_if (ltb t (get_or s.tickets q 0)) ≡ in_hands (uncounted_at q t) s.desks + is_counted s q t
  drawn_at t = let a = f.counts.uncounted q t in let c = sum_plus (in_hand (uncounted_at q t)) (in_hand (arrived_at q t)) (in_hand (put_at q t)) (λ v. sum_plus (uncounted_at q t) (arrived_at q t) (put_at q t) (λ x. refl) v.hand) s.desks in omega arith

  pub counted_all : IsBatch p q b → get_or s.counts (place_of p q b) 0 ≡ sum_by (is_counted s q) batch_numbers
  counted_all real = let a = sum_plus (λ t. one_if (ltb t (get_or s.tickets q 0))) (λ t. in_hands (uncounted_at q t) s.desks) (is_counted s q) drawn_at batch_numbers in let c = uncounted_all in let d = drawn_in (b * p.batch) (batch_size p q b) (get_or s.tickets q 0) in
      let k = f.counts.counts q b real in let w = f.words.word q in let le = drawn_le p good q s.claimed in
      let n : ℕ = p.batch in let bn : ℕ = b * n in let m : ℕ = get_or s.tickets q 0 in let all : ℕ = tasks_of p q in let same : min (min n (all - bn)) (m - bn) ≡ min n (m - bn) = omega arith in omega arith
