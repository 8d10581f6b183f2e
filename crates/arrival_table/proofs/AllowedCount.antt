-- A count keeps the rule, since it is one move.
use Rattle.std.proofs.Common.{◌≡◌, ℕ, suc, ◌+◌, ◌*◌, ◌/◌, ◌%◌, ◌^◌, ◌<◌, ◌≤◌, [], ◌∷◌, ◌++◌, length, get_or, set, sym, refl, ap, ◌∙◌, subst, arith, div-add-mod'}
use mathlib.Core.Option.{some, none}
use lib.ListN.{get_elem?}
use Rattle.atomic_table.specs.Table.{Me, step, keeps, Allows}
use Rattle.arrival_moves.specs.declared.item.Item.{Item}
use Rattle.arrival_moves.specs.declared.label.Label.{Label}
use Rattle.arrival_moves.specs.declared.plan.Plan.{Plan}
use Rattle.arrival_moves.specs.declared.view.View.{View}
use Rattle.arrival_table.specs.declared.cell.Cell.{Cell}
use Rattle.arrival_table.specs.declared.known.Known.{Known}
use Rattle.arrival_moves.specs.AfterMove.{after_count}
use Rattle.arrival_moves.specs.Hands.{find_item}
use Rattle.arrival_moves.specs.Items.{is_put, uncounted_in}
use Rattle.arrival_moves.specs.Moves.{ArrivalState, count, run}
use Rattle.arrival_moves.specs.Plans.{place_of, tasks_of, IsPlan}
use Rattle.arrival_table.specs.Outs.{now_knows}
use Rattle.arrival_table.specs.Steps.{IsReached, Counts}
use Rattle.arrival_moves.proofs.Counts.{counted, within_batch}
use Rattle.arrival_moves.proofs.Items.{put_gives}
use Rattle.arrival_moves.proofs.TaskPlaces.{place_within}
use Rattle.arrival_moves.proofs.Runs.{kept_run, move_item_is}
use Rattle.arrival_moves.proofs.Words.{drawn_le, of_search_le}
use Rattle.arrival_table.proofs.Allowed.{again, desk_there, desks_now}
use Rattle.arrival_table.proofs.Lists.{get_left, set_left, get_right, set_right}
use Rattle.arrival_table.proofs.Outs.{out_stays}

module _ {A R : Type 0} (load : A → Label) (outcome : R → Label) (p : Plan) (good : IsPlan p) where
  abbrev M : Type 0
  M = Me (Cell A R) Known

  unfoldable pub allows_count : (slots id q t j : ℕ) (me : M) (x : Item) → find_item (is_put q t) me.0.view.hand ≡ some x → j ≡ p.searches + place_of p q (t / p.batch)
      → Allows (IsReached load outcome p) slots id me (suc j) (λ n. (n + 1) % 2 ^ 64) (Counts load outcome p q t (step slots (suc j) 1 0 none) me)
  allows_count slots id q t j me x found at s r _ here fits = let b : ArrivalState = run p r.0 in let f = kept_run p good r.0 in let v : View = me.0.view in let d : ℕ = t / p.batch in let c : ℕ = place_of p q d in let n : ℕ = get_or s.words (suc j) 0 in let m : ℕ = get_or b.counts c 0 in
      let there : get_elem? b.desks id ≡ some v = desk_there load outcome p good s b id me.0 r.1 here in
      let w : Known = now_knows me.0 (after_count p v q t (n + 1)) in
      let go = counted p good b id q t v x f.shape f.words f.counts there found in
      let dn : ℕ = d * p.batch in let whole : dn + t % p.batch ≡ t = div-add-mod' t p.batch in let range = go.0 in let begins : dn < tasks_of p q = omega arith in let small : d < tasks_of p q = within_batch t p.batch d (tasks_of p q) good.batch begins in
      let wide : c < length b.counts = subst (λ z. c < z) (sym f.shape.counts) (place_within p q d small) in
      let start : j ≡ length b.tickets + c = let l = f.shape.tickets in omega arith in
      let is : n ≡ m = ap (λ ws. get_or ws (suc j) 0) r.1.words ∙ (get_right b.tickets (b.counts ++ b.stops) j c start ∙ get_left b.counts b.stops c wide) in
      let level = f.counts.counts q d begins in let ticket = f.words.word q in let most = drawn_le p good q b.claimed in let few = of_search_le q p.tasks in let cap = good.few in
      let more = put_gives (uncounted_in p q d) b.desks id v (after_count p v q t (m + 1)) there q t [] x found in
      let small_count : m + 1 ≤ 65537 = omega arith in
      let new : (n + 1) % 2 ^ 64 ≡ m + 1 = omega arith in
      let to : record b { counts = set b.counts c (m + 1); desks = set b.desks id (after_count p v q t (m + 1)) } ≡ record b { counts = set b.counts c (m + 1); desks = set b.desks id (after_count p v q t (n + 1)) } = ap (λ z. record b { counts = set b.counts c (m + 1); desks = set b.desks id (after_count p v q t (z + 1)) }) (sym is) in (
        w,
        keeps,
        tt,
        again load outcome p good s _ r (count id q t) _ (move_item_is b id _ _ _ v x there found refl ∙ to) (record {
          words = ap (λ ws. set ws (suc j) ((n + 1) % 2 ^ 64)) r.1.words ∙ (ap (λ z. b.claimed ∷ set (b.tickets ++ (b.counts ++ b.stops)) j z) new ∙ ap (λ ws. b.claimed ∷ ws) (set_right b.tickets (b.counts ++ b.stops) j c (m + 1) start ∙ ap (λ ws. b.tickets ++ ws) (set_left b.counts b.stops c (m + 1) wide)));
          desks = desks_now load outcome p good s b id w r.1;
          loads = r.1.loads;
          results = r.1.results;
          batches = r.1.batches;
        }) (out_stays s.homes s.views id me.0 w r.2 here refl),
        (refl, omega arith),
      )

  pub allows_count_at : (l e : Plan) (slots id q t a z w : ℕ) (me : M) (x : Item) → l ≡ p → e ≡ p → a ≡ q → z ≡ t → w ≡ suc (p.searches + place_of p q (t / p.batch)) → find_item (is_put q t) me.0.view.hand ≡ some x
      → Allows (IsReached load outcome l) slots id me w (λ n. (n + 1) % 2 ^ 64) (Counts load outcome e a z (step slots w 1 0 none) me)
  allows_count_at l e slots id q t a z w me x i g h k b found = let Q : Plan × Plan × ℕ × ℕ × ℕ → Type 0 = λ y. Allows (IsReached load outcome y.0) slots id me y.4 (λ n. (n + 1) % 2 ^ 64) (Counts load outcome y.1 y.2 y.3 (step slots y.4 1 0 none) me) in
      subst Q (λ j. (sym i j, sym g j, sym h j, sym k j, sym b j)) (allows_count slots id q t (p.searches + place_of p q (t / p.batch)) me x found refl)
