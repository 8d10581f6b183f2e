-- A batch's count word is the number of its tickets that were counted, and an uncounted ticket is in one desk's hand.
use Rattle.std.proofs.Common.{◌≡◌, ℕ, zero, suc, ◌+◌, ◌-◌, ◌*◌, ◌/◌, ◌%◌, ◌<◌, ◌≤◌, min, true, false, ◌&&◌, eqb, ltb, get_or, List, [], ◌∷◌, length, set, sym, refl, ap, subst, arith, get_or-set_same, get_or-set_other, suc-mul, div-add-mod', mod-lt}
use Rattle.std.proofs.lemmas.Bool.{eq-eqb}
use mathlib.Core.Option.{some}
use mathlib.Core.Logic.{dite}
use native.Mathlib.Decide.{ℕ_discrete, dec_lt}
use lib.ListN.{get_elem?}
use Rattle.arrival_moves.specs.AfterMove.{after_claim, after_take_task, after_arrive, after_put, after_count, after_stop, batch_due}
use Rattle.arrival_moves.specs.Hands.{in_hands, find_item}
use Rattle.arrival_moves.specs.Items.{arrived_at, put_at, uncounted_in, is_loaded, is_arrived, is_put, is_at_slot}
use Rattle.arrival_moves.specs.Lists.{one_if}
use Rattle.arrival_moves.specs.Moves.{ArrivalState, Move, claim, take_task, arrive, put, count, take_result, put_merged, split, join, close, stop, stopped, move, opened}
use Rattle.arrival_moves.specs.Plans.{task_count, place_of, search_of, tasks_of, tickets_in, IsPlan}
use Rattle.arrival_moves.specs.Slots.{Slot}
use Rattle.arrival_moves.specs.declared.item.Item.{Item}
use Rattle.arrival_moves.specs.declared.item.Item.TheVariants.{Claimed, Loaded, Put}
use Rattle.arrival_moves.specs.declared.plan.Plan.{Plan}
use Rattle.arrival_moves.specs.declared.view.View.{View}
use Rattle.arrival_moves.proofs.BatchRanges.{further}
use Rattle.arrival_moves.proofs.Cases.{desk_keeps, item_keeps}
use Rattle.list_laws.proofs.PlaceTests.{by_test}
use Rattle.arrival_moves.proofs.Items.{hands_more, hands_same, claimed_gives, loaded_gives, arrived_gives, put_gives}
use Rattle.arrival_moves.specs.Fairness.{HasShape}
use Rattle.arrival_moves.proofs.Quiet.{lt_none, eq_one, eq_none, IsQuiet, Quietly, batch_due_none, quiet_open, quiet_take, quiet_merged, quiet_split, quiet_join, quiet_close, quiet_stopped}
use Rattle.arrival_moves.proofs.Loads.{arrived_items}
use Rattle.arrival_moves.proofs.Words.{WordsFit, arrived, drawn_le, zeros}
use Rattle.arrival_moves.proofs.TaskPlaces.{places_apart, place_within}
use Rattle.arrival_moves.proofs.Results.{arrived_quiet, both_one, both_none, ticket_step}

pub record CountsFit (p : Plan) (s : ArrivalState) : Type 0 where
  pub uncounted : (q t : ℕ) → in_hands (arrived_at q t) s.desks + in_hands (put_at q t) s.desks ≤ one_if (ltb t (get_or s.tickets q 0))
  pub counts : (q b : ℕ) → b * p.batch < tasks_of p q → get_or s.counts (place_of p q b) 0 + in_hands (uncounted_in p q b) s.desks ≡ tickets_in p b (get_or s.tickets q 0)

-- these numbers know no batch and no slot
put_quiet : (q t : ℕ) → IsQuiet (put_at q t)
put_quiet q t = record { arrived = λ z. refl; batch = λ z. refl; closed = λ z. refl }

pub uncounted_quiet : (p : Plan) (q b : ℕ) → IsQuiet (uncounted_in p q b)
uncounted_quiet p q b = record { arrived = λ z. refl; batch = λ z. refl; closed = λ z. refl }

-- the number of tickets of a batch grows by one exactly with a ticket of it
batch_step : (p : Plan) (t b : ℕ) → 2 ≤ p.batch → tickets_in p b (t + 1) ≡ tickets_in p b t + one_if (eqb (t / p.batch) b)
batch_step p t b big = let n : ℕ = p.batch in let d : ℕ = t / n in let m = div-add-mod' t n in let r : ℕ = t % n in let dn : ℕ = d * n in let m' : dn + r ≡ t = m in let lt : r < n = mod-lt t (omega arith) in let bn : ℕ = b * n in
    dite (ℕ_discrete d b)
    (λ same. let e = eq_one d b same in let f : dn ≡ bn = ap (λ z. z * n) same in let g : min n ((t + 1) - bn) ≡ min n (t - bn) + 1 = omega arith in omega arith)
    (λ other. let e = eq_none d b other in dite (dec_lt d b)
    (λ y. let f : dn + n ≤ bn = further d b n y in let g : min n ((t + 1) - bn) ≡ min n (t - bn) = omega arith in omega arith)
    (λ y. let f : bn + n ≤ dn = further b d n (omega arith) in let g : min n ((t + 1) - bn) ≡ min n (t - bn) = omega arith in omega arith))

-- a batch's number is below the number of its tickets and those before
pub within_batch : (t n b k : ℕ) → 2 ≤ n → b * n < k → b < k
within_batch t n zero k big h = omega arith
within_batch t n (suc b) k big h = let a = within_batch t n b (k - 1) big (omega (arith, suc-mul b n)) in omega (arith, suc-mul b n)

module _ (p : Plan) (good : IsPlan p) where
  abbrev C : ArrivalState → Type 0
  C = CountsFit p

  -- the counts fit where no word changes and no uncounted ticket comes or goes
  counts_same : (s t : ArrivalState) (vs : List View) → C s → t.tickets ≡ s.tickets → t.counts ≡ s.counts → t.desks ≡ vs → ((q n : ℕ) → in_hands (arrived_at q n) vs + in_hands (put_at q n) vs ≡ in_hands (arrived_at q n) s.desks + in_hands (put_at q n) s.desks)
      → ((q b : ℕ) → in_hands (uncounted_in p q b) vs ≡ in_hands (uncounted_in p q b) s.desks) → C t
  counts_same s t vs f tickets counts desks both same = record {
    uncounted = λ q n. let a = f.uncounted q n in let b = both q n in let h : in_hands (arrived_at q n) t.desks ≡ in_hands (arrived_at q n) vs = ap (in_hands (arrived_at q n)) desks in let k : in_hands (put_at q n) t.desks ≡ in_hands (put_at q n) vs = ap (in_hands (put_at q n)) desks in
        let c : one_if (ltb n (get_or t.tickets q 0)) ≡ one_if (ltb n (get_or s.tickets q 0)) = ap (λ ws. one_if (ltb n (get_or ws q 0))) tickets in omega arith;
    counts = λ q b l. let a = f.counts q b l in let d = same q b in let h : in_hands (uncounted_in p q b) t.desks ≡ in_hands (uncounted_in p q b) vs = ap (in_hands (uncounted_in p q b)) desks in
        let c : tickets_in p b (get_or t.tickets q 0) ≡ tickets_in p b (get_or s.tickets q 0) = ap (λ ws. tickets_in p b (get_or ws q 0)) tickets in let e : get_or t.counts (place_of p q b) 0 ≡ get_or s.counts (place_of p q b) 0 = ap (λ ws. get_or ws (place_of p q b) 0) counts in omega arith;
  }

  -- and after a move that draws and counts nothing
  quietly : (s : ArrivalState) → C s → (t : ArrivalState) → Quietly s t → C t
  quietly s f t u = counts_same s t t.desks f u.tickets u.counts refl (λ q n. let a = u.hands (arrived_at q n) (arrived_quiet q n) in let b = u.hands (put_at q n) (put_quiet q n) in omega arith) (λ q b. u.hands (uncounted_in p q b) (uncounted_quiet p q b))

  -- a ticket that is drawn is an uncounted one more
  arrives : (s : ArrivalState) (i k : ℕ) (v : View) (x : Item) → HasShape p s → WordsFit p s → C s → get_elem? s.desks i ≡ some v → find_item (is_loaded k) v.hand ≡ some x → let q = search_of p k in let t = get_or s.tickets q 0 in
      C (record s { tickets = set s.tickets q (t + 1); desks = set s.desks i (after_arrive v k x q t) })
  arrives s i k v x shape words f e g = let q : ℕ = search_of p k in let t : ℕ = get_or s.tickets q 0 in let w : View = after_arrive v k x q t in let vs : List View = set s.desks i w in let ys : List Item = arrived_items k x q t in
      let fits : q < length s.tickets = subst (λ z. q < z) (sym shape.tickets) (arrived p good s i k v x shape words e g).0 in
      record {
        uncounted = λ r n. let a = loaded_gives (arrived_at r n) s.desks i v w e k ys x g refl in let a' = a.2 in let d = loaded_gives (put_at r n) s.desks i v w e k ys x g refl in let d' = d.2 in let b = ticket_step p good s.tickets q r n fits in let c = f.uncounted r n in omega arith;
        counts = λ r b l. let a = loaded_gives (uncounted_in p r b) s.desks i v w e k ys x g refl in let a' = a.2 in let c = f.counts r b l in dite (ℕ_discrete q r)
            (λ same. let new : get_or (set s.tickets q (t + 1)) r 0 ≡ t + 1 = subst (λ z. get_or (set s.tickets q (t + 1)) z 0 ≡ t + 1) same (get_or-set_same s.tickets q (t + 1) 0 fits) in let old : get_or s.tickets r 0 ≡ t = ap (λ z. get_or s.tickets z 0) (sym same) in
            let u : tickets_in p b (get_or (set s.tickets q (t + 1)) r 0) ≡ tickets_in p b (t + 1) = ap (tickets_in p b) new in let y : tickets_in p b (get_or s.tickets r 0) ≡ tickets_in p b t = ap (tickets_in p b) old in let z = batch_step p t b good.batch in
            let m : one_if (eqb q r && eqb (t / p.batch) b) ≡ one_if (eqb (t / p.batch) b) = ap (λ h. one_if (h && eqb (t / p.batch) b)) (eq-eqb q r same) in omega arith)
            (λ other. let u : tickets_in p b (get_or (set s.tickets q (t + 1)) r 0) ≡ tickets_in p b (get_or s.tickets r 0) = ap (tickets_in p b) (get_or-set_other s.tickets q r (t + 1) 0 (λ y. other (sym y))) in let m = both_none q (t / p.batch) r b (λ y. other y.0) in omega arith);
      }

  -- a ticket that is put stays uncounted
  puts : (s : ArrivalState) (i q t : ℕ) (v : View) (x : Item) (rs : List Slot) → C s → get_elem? s.desks i ≡ some v → find_item (is_arrived q t) v.hand ≡ some x → C (record s { results = rs; desks = set s.desks i (after_put v q t) })
  puts s i q t v x rs f e g = let w : View = after_put v q t in let ys : List Item = Put (record { search = q; ticket = t }) ∷ [] in counts_same s _ (set s.desks i w) f refl refl refl
      (λ r n. let a = arrived_gives (arrived_at r n) s.desks i v w e q t ys x g refl in let a' = a.4 in let z = a.0 in let c : one_if (eqb z.search r && eqb z.ticket n) ≡ one_if (eqb q r && eqb t n) = λ j. one_if (eqb (a.2 j) r && eqb (a.3 j) n) in let d = arrived_gives (put_at r n) s.desks i v w e q t ys x g refl in let d' = d.4 in omega arith)
      (λ r b. let a = arrived_gives (uncounted_in p r b) s.desks i v w e q t ys x g refl in let a' = a.4 in let z = a.0 in let c : one_if (eqb z.search r && eqb (z.ticket / p.batch) b) ≡ one_if (eqb q r && eqb (t / p.batch) b) = λ j. one_if (eqb (a.2 j) r && eqb (a.3 j / p.batch) b) in omega arith)

  -- the count of a put ticket: its word is in range, and rises by one
  pub counted : (s : ArrivalState) (i q t : ℕ) (v : View) (x : Item) → HasShape p s → WordsFit p s → C s → get_elem? s.desks i ≡ some v → find_item (is_put q t) v.hand ≡ some x → let c = place_of p q (t / p.batch) in let n = get_or s.counts c 0 + 1 in
      (t < tasks_of p q) × C (record s { counts = set s.counts c n; desks = set s.desks i (after_count p v q t n) })
  counted s i q t v x shape words f e g = let d : ℕ = t / p.batch in let c : ℕ = place_of p q d in let n : ℕ = get_or s.counts c 0 + 1 in let w : View = after_count p v q t n in let vs : List View = set s.desks i w in let ys : List Item = batch_due p q d n in
      let gone : (r u : ℕ) → in_hands (put_at r u) vs + one_if (eqb q r && eqb t u) ≡ in_hands (put_at r u) s.desks = λ r u. let a = put_gives (put_at r u) s.desks i v w e q t ys x g refl in let b = batch_due_none (put_at r u) p q d n (put_quiet r u) in omega arith in
      let one = both_one q t q t refl refl in let a = gone q t in let b = f.uncounted q t in let ws = words.word q in let m = drawn_le p good q s.claimed in
      let range : t < tasks_of p q = dite (dec_lt t (get_or s.tickets q 0)) (λ y. omega arith) (λ y. let z = lt_none t (get_or s.tickets q 0) (omega arith) in absurd (omega arith)) in
      let dn : ℕ = d * p.batch in let whole : dn + t % p.batch ≡ t = div-add-mod' t p.batch in let small : d < tasks_of p q = within_batch t p.batch d (tasks_of p q) good.batch (omega arith) in
      let fits : c < length s.counts = subst (λ z. c < z) (sym shape.counts) (place_within p q d small) in (
        range,
        record {
          uncounted = λ r u. let k = gone r u in let h = put_gives (arrived_at r u) s.desks i v w e q t ys x g refl in let l = batch_due_none (arrived_at r u) p q d n (arrived_quiet r u) in let o = f.uncounted r u in omega arith;
          counts = λ r u l. let h = put_gives (uncounted_in p r u) s.desks i v w e q t ys x g refl in let k = batch_due_none (uncounted_in p r u) p q d n (uncounted_quiet p r u) in let o = f.counts r u l in let narrow = within_batch t p.batch u (tasks_of p r) good.batch l in
              dite (ℕ_discrete c (place_of p r u))
              (λ same. let is = places_apart p q d r u small narrow same in let y = both_one q d r u is.0 is.1 in let new : get_or (set s.counts c n) (place_of p r u) 0 ≡ n = subst (λ z. get_or (set s.counts c n) z 0 ≡ n) same (get_or-set_same s.counts c n 0 fits) in let old : get_or s.counts (place_of p r u) 0 ≡ get_or s.counts c 0 = ap (λ z. get_or s.counts z 0) (sym same) in omega arith)
              (λ other. let y = both_none q d r u (λ z. other (λ j. place_of p (z.0 j) (z.1 j))) in let new : get_or (set s.counts c n) (place_of p r u) 0 ≡ get_or s.counts (place_of p r u) 0 = get_or-set_other s.counts c (place_of p r u) n 0 (λ z. other (sym z)) in omega arith);
        },
      )

  -- every move keeps the counts fit
  pub counts_move : (s : ArrivalState) (m : Move) → HasShape p s → WordsFit p s → C s → C (move p s m)
  counts_move s (claim i) h ws f = desk_keeps C s i _ _ f (λ v e _. let w : View = after_claim p v s.claimed in let vs : List View = set s.desks i w in
      let same : (g : Item → ℕ) → g (Claimed s.claimed) ≡ 0 → in_hands g vs ≡ in_hands g s.desks = λ g z. by_test (λ (hand : List Item). w.hand ≡ hand → in_hands g vs ≡ in_hands g s.desks) (ltb s.claimed (task_count p)) _ _ (λ _ k. let a = hands_more g s.desks i v w (Claimed s.claimed) e k in omega arith) (λ _ k. hands_same g s.desks i v w e k) refl in
      counts_same s _ vs f refl refl refl (λ q n. let a = same (arrived_at q n) refl in let b = same (put_at q n) refl in omega arith) (λ q b. same (uncounted_in p q b) refl))
  counts_move s (take_task i k) h ws f = item_keeps C s i _ _ _ f (λ v e x g _. let w : View = after_take_task v k in let ys : List Item = Loaded (record { task = k; failed = false }) ∷ [] in counts_same s _ (set s.desks i w) f refl refl refl
      (λ q n. let a = claimed_gives (arrived_at q n) s.desks i v w e k ys x g refl in let b = claimed_gives (put_at q n) s.desks i v w e k ys x g refl in omega arith) (λ q b. let a = claimed_gives (uncounted_in p q b) s.desks i v w e k ys x g refl in omega arith))
  counts_move s (arrive i k) h ws f = item_keeps C s i _ _ _ f (λ v e x g _. arrives s i k v x h ws f e g)
  counts_move s (put i q t l) h ws f = item_keeps C s i _ _ _ f (λ v e x g _. by_test C (is_at_slot x) _ _ (λ _. puts s i q t v x _ f e g) (λ _. quiet_open p C s f (quietly s f) i q t v x _ e g))
  counts_move s (count i q t) h ws f = item_keeps C s i _ _ _ f (λ v e x g _. (counted s i q t v x h ws f e g).1)
  counts_move s (take_result i q t) h ws f = quiet_take p C s f (quietly s f) i q t
  counts_move s (put_merged i q b l) h ws f = quiet_merged p C s f (quietly s f) i q b l
  counts_move s (split i n) h ws f = quiet_split p C s f (quietly s f) i n
  counts_move s (join i j) h ws f = quiet_join p C s f (quietly s f) i j
  counts_move s (close i q b) h ws f = quiet_close p C s f (quietly s f) i q b
  counts_move s (stop i k) h ws f = item_keeps C s i _ _ _ f (λ v e x g _. let w : View = after_stop v k in let ys : List Item = Loaded (record { task = k; failed = true }) ∷ [] in counts_same s _ (set s.desks i w) f refl refl refl
      (λ q n. let a = loaded_gives (arrived_at q n) s.desks i v w e k ys x g refl in let b = loaded_gives (put_at q n) s.desks i v w e k ys x g refl in let a' = a.2 in let b' = b.2 in omega arith) (λ q b. let a = loaded_gives (uncounted_in p q b) s.desks i v w e k ys x g refl in let a' = a.2 in omega arith))
  counts_move s (stopped i q) h ws f = quiet_stopped p C s f (quietly s f) i q

  -- at the opening nothing is drawn and nothing counted
  pub counts_opened : C (opened p)
  counts_opened = record {
    uncounted = λ q t. omega arith;
    counts = λ q b l. let z = zeros p good p.searches q in let y = zeros p good (task_count p) (place_of p q b) in let c : tickets_in p b (get_or (opened p).tickets q 0) ≡ tickets_in p b 0 = ap (tickets_in p b) z in let n : ℕ = p.batch in let bn : ℕ = b * n in let d : min n (0 - bn) ≡ 0 = omega arith in omega arith;
  }
