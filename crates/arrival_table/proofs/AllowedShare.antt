-- A split and a join keep the rule, since each is a move.
use Rattle.std.proofs.Common.{◌≡◌, ◌≢◌, ℕ, ◌≤◌, true, not, eqb, List, [], ◌∷◌, ◌++◌, set, sym, refl, ap, ◌∙◌, subst}
use Rattle.std.proofs.lemmas.Bool.{le-leb, ne_eqb}
use mathlib.Core.Option.{some}
use lib.ListN.{get_elem?}
use Rattle.atomic_table.specs.Table.{State, Splits, Joins}
use Rattle.atomic_table.proofs.Lists.{set_else}
use Rattle.arrival_moves.specs.declared.item.Item.{Item}
use Rattle.arrival_moves.specs.declared.label.Label.{Label}
use Rattle.arrival_moves.specs.declared.plan.Plan.{Plan}
use Rattle.arrival_moves.specs.declared.view.View.{View}
use Rattle.arrival_table.specs.declared.cell.Cell.{Cell}
use Rattle.arrival_table.specs.declared.known.Known.{Known}
use Rattle.arrival_moves.specs.AfterMove.{after_split, split_off, after_join, spent_view}
use Rattle.arrival_moves.specs.Hands.{is_empty}
use Rattle.arrival_moves.specs.Moves.{ArrivalState, split, join, move, run, move_desk}
use Rattle.arrival_moves.specs.Plans.{IsPlan}
use Rattle.arrival_table.specs.Outs.{knows, now_knows}
use Rattle.arrival_table.specs.Steps.{IsReached}
use Rattle.arrival_moves.proofs.Runs.{move_desk_is}
use Rattle.arrival_table.proofs.Allowed.{again, desk_there, desks_now}
use Rattle.arrival_table.proofs.Outs.{out_stays, out_more, views_set, views_more}

module _ {A R : Type 0} (load : A → Label) (outcome : R → Label) (p : Plan) (good : IsPlan p) where
  abbrev S : Type 0
  S = State (Cell A R) Known

  unfoldable pub splits : (id k : ℕ) (d : Known) → k ≤ d.view.left → Splits (IsReached load outcome p) id d (now_knows d (after_split d.view k)) (knows (split_off k))
  splits id k d less s r here = let b : ArrivalState = run p r.0 in let v : View = d.view in let there : get_elem? b.desks id ≡ some v = desk_there load outcome p good s b id d r.1 here in
      let left : Known = now_knows d (after_split v k) in let right : Known = knows (split_off k) in
      let t : S = record { words = s.words; homes = s.homes; views = set s.views id left ++ right ∷ [] } in
      again load outcome p good s t r (split id k) _ (move_desk_is b id _ _ v there (le-leb _ _ less)) (record {
        words = r.1.words;
        desks = views_more (set s.views id left) right ∙ ap (λ vs. vs ++ split_off k ∷ []) (desks_now load outcome p good s b id left r.1);
        loads = r.1.loads;
        results = r.1.results;
        batches = r.1.batches;
      }) (out_more s.homes (set s.views id left) right (out_stays s.homes s.views id d left r.2 here refl) refl)

  pub splits_at : (l : Plan) (id k z : ℕ) (d : Known) → l ≡ p → z ≡ k → k ≤ d.view.left → Splits (IsReached load outcome l) id d (now_knows d (after_split d.view z)) (knows (split_off z))
  splits_at l id k z d e g less = let Q : Plan × ℕ → Type 0 = λ y. Splits (IsReached load outcome y.0) id d (now_knows d (after_split d.view y.1)) (knows (split_off y.1)) in subst Q (λ i. (sym e i, sym g i)) (splits id k d less)

  apart : (i j : ℕ) → j ≢ i → not (eqb i j) ≡ true
  apart i j n = ap not (ne_eqb i j (λ e. n (sym e)))

  bare : (xs : List Item) → xs ≡ [] → is_empty xs ≡ true
  bare xs e = ap is_empty e

  -- the move of a join, for two desks that are there
  pub joined : (b : ArrivalState) (i j : ℕ) (v w : View) → j ≢ i → get_elem? b.desks i ≡ some v → get_elem? b.desks j ≡ some w → w.hand ≡ [] → move p b (join i j) ≡ record b { desks = set (set b.desks i (after_join v w)) j spent_view }
  joined b i j v w n e d h = move_desk_is b i (λ _. not (eqb i j)) (λ v. move_desk b j (λ w. is_empty w.hand) (λ w. record b { desks = set (set b.desks i (after_join v w)) j spent_view })) v e (apart i j n)
      ∙ move_desk_is b j (λ w. is_empty w.hand) (λ w. record b { desks = set (set b.desks i (after_join v w)) j spent_view }) w d (bare w.hand h)

  unfoldable pub joins : (id other : ℕ) (d e : Known) → e ≡ knows e.view → e.view.hand ≡ [] → Joins (IsReached load outcome p) id d other e (now_knows d (after_join d.view e.view)) (knows spent_view)
  joins id other d e none_out empty s r here apart_from there_set = let b : ArrivalState = run p r.0 in let both : Known = now_knows d (after_join d.view e.view) in let spent : Known = knows spent_view in
      let away : other ≢ id = λ y. apart_from y in
      let other_there : get_elem? s.views other ≡ some e = sym (set_else s.views id other both away) ∙ there_set in
      let v = desk_there load outcome p good s b id d r.1 here in let w = desk_there load outcome p good s b other e r.1 other_there in
      let t : S = record { words = s.words; homes = s.homes; views = set (set s.views id both) other spent } in
      again load outcome p good s t r (join id other) _ (joined b id other d.view e.view away v w empty) (record {
        words = r.1.words;
        desks = views_set (set s.views id both) other spent ∙ ap (λ vs. set vs other spent_view) (desks_now load outcome p good s b id both r.1);
        loads = r.1.loads;
        results = r.1.results;
        batches = r.1.batches;
      }) (out_stays s.homes (set s.views id both) other e spent (out_stays s.homes s.views id d both r.2 here refl) there_set (ap (λ (y : Known). y.out) (sym none_out)))

  pub joins_at : (l : Plan) (id other : ℕ) (d e : Known) → l ≡ p → e ≡ knows e.view → e.view.hand ≡ [] → Joins (IsReached load outcome l) id d other e (now_knows d (after_join d.view e.view)) (knows spent_view)
  joins_at l id other d e g none_out empty = subst (λ y. Joins (IsReached load outcome y) id d other e (now_knows d (after_join d.view e.view)) (knows spent_view)) (sym g) (joins id other d e none_out empty)
