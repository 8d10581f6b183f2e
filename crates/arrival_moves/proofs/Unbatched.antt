-- The moves that touch no batch and no merged result: no number of batches in the hands changes, and no slot is emptied.
use Rattle.std.proofs.Common.{◌≡◌, ℕ, true, false, ltb, get_or, List, [], ◌∷◌, ◌++◌, set, sym, refl, ap, arith}
use Rattle.std.proofs.lemmas.Bool.{cond_both}
use mathlib.Core.Option.{some}
use lib.ListN.{get_elem?}
use Rattle.arrival_moves.specs.declared.plan.Plan.{Plan}
use Rattle.arrival_moves.specs.declared.view.View.{View}
use Rattle.arrival_moves.specs.declared.item.Item.{Item}
use Rattle.arrival_moves.specs.declared.item.Item.TheVariants.{Claimed, Loaded, Arrived, Put}
use Rattle.arrival_moves.specs.declared.item.LoadedTask.{LoadedTask}
use Rattle.arrival_moves.specs.declared.item.ArrivedTask.{ArrivedTask}
use Rattle.arrival_moves.specs.declared.item.Ticket.{Ticket}
use Rattle.arrival_moves.specs.declared.label.Label.{Label}
use Rattle.arrival_moves.specs.Slots.{Slot, reached, holds}
use Rattle.arrival_moves.specs.Plans.{task_count, search_of, place_of, IsPlan}
use Rattle.arrival_moves.specs.Items.{is_marked, is_at_slot}
use Rattle.arrival_moves.specs.Hands.{in_hands}
use Rattle.arrival_moves.specs.AfterMove.{after_claim, after_take_task, after_arrive, after_reach_result, after_put, after_stop, after_stopped, reached_item}
use Rattle.arrival_moves.specs.Moves.{ArrivalState, claim, take_task, arrive, put, split, join, stop, stopped, move}
use Rattle.arrival_moves.proofs.Cases.{desk_keeps, item_keeps}
use Rattle.list_laws.proofs.PlaceTests.{by_test}
use Rattle.arrival_moves.proofs.Items.{hands_more, hands_same, claimed_gives, loaded_gives, arrived_gives}
use Rattle.arrival_moves.specs.Fairness.{HasShape}
use Rattle.arrival_moves.proofs.Quiet.{hands_split, hands_join, apart_from, bare}
use Rattle.arrival_moves.proofs.Loads.{arrived_items}
use Rattle.arrival_moves.proofs.Words.{WordsFit}
use Rattle.arrival_moves.proofs.Results.{ResultsFit, slot_there}
use Rattle.arrival_moves.proofs.SlotStates.{was_emptied, not_emptied, alike_here, alike_set}

-- a number of batches and merged results alone
pub record IsOfBatches (f : Item → ℕ) : Type 0 where
  pub claimed : (k : ℕ) → f (Claimed k) ≡ 0
  pub loaded : (z : LoadedTask) → f (Loaded z) ≡ 0
  pub arrived : (z : ArrivedTask) → f (Arrived z) ≡ 0
  pub put : (z : Ticket) → f (Put z) ≡ 0

pub record Unbatched (s t : ArrivalState) : Type 0 where
  pub counts : t.counts ≡ s.counts
  pub batches : t.batches ≡ s.batches
  pub results : (j : ℕ) (x : Slot) → get_elem? t.results j ≡ some x → (y : Slot) × (get_elem? s.results j ≡ some y) × (was_emptied x ≡ was_emptied y)
  pub hands : (f : Item → ℕ) → IsOfBatches f → in_hands f t.desks ≡ in_hands f s.desks

module _ (p : Plan) (good : IsPlan p) (P : ArrivalState → Type 0) (s : ArrivalState) (f : P s) (k : (t : ArrivalState) → Unbatched s t → P t) where
  pub unbatched_claim : (i : ℕ) → P (move p s (claim i))
  unbatched_claim i = desk_keeps P s i _ _ f (λ v e m. k _ (record {
    counts = refl;
    batches = refl;
    results = alike_here was_emptied s.results;
    hands = λ h is. let w : View = after_claim p v s.claimed in cond_both (ltb s.claimed (task_count p)) (v.hand ++ Claimed s.claimed ∷ []) v.hand (λ (hand : List Item). w.hand ≡ hand → in_hands h (set s.desks i w) ≡ in_hands h s.desks)
        (λ _ g. let a = hands_more h s.desks i v w (Claimed s.claimed) e g in let z = is.claimed s.claimed in omega arith) (λ _ g. hands_same h s.desks i v w e g) refl;
  }))

  pub unbatched_take_task : (i n : ℕ) → P (move p s (take_task i n))
  unbatched_take_task i n = item_keeps P s i _ _ _ f (λ v e x g m. k _ (record {
    counts = refl;
    batches = refl;
    results = alike_here was_emptied s.results;
    hands = λ h is. let y : LoadedTask = record { task = n; failed = false } in let a = claimed_gives h s.desks i v (after_take_task v n) e n (Loaded y ∷ []) x g refl in let b = is.claimed n in let c = is.loaded y in omega arith;
  }))

  pub unbatched_arrive : (i n : ℕ) → P (move p s (arrive i n))
  unbatched_arrive i n = item_keeps P s i _ _ _ f (λ v e x g m. let q : ℕ = search_of p n in let t : ℕ = get_or s.tickets q 0 in k _ (record {
    counts = refl;
    batches = refl;
    results = alike_here was_emptied s.results;
    hands = λ h is. let a = loaded_gives h s.desks i v (after_arrive v n x q t) e n (arrived_items n x q t) x g refl in let b = a.2 in let c = is.loaded (record { task = n; failed = a.0 }) in let d = is.arrived (record { task = n; failed = is_marked x; search = q; ticket = t; at_slot = false }) in omega arith;
  }))

  pub unbatched_put : (i q t : ℕ) (l : Label) → HasShape p s → WordsFit p s → ResultsFit p s → P (move p s (put i q t l))
  unbatched_put i q t l shape ws r = item_keeps P s i _ _ _ f (λ v e x g m. let there = slot_there p good s i q t v x shape ws r e g in by_test P (is_at_slot x) _ _
      (λ _. k _ (record {
        counts = refl;
        batches = refl;
        results = alike_set was_emptied s.results (place_of p q t) there.0 (holds l) there.1 (sym (not_emptied there.0 there.2));
        hands = λ h is. let a = arrived_gives h s.desks i v (after_put v q t) e q t (Put (record { search = q; ticket = t }) ∷ []) x g refl in let b = a.4 in let c = is.arrived a.0 in let d = is.put (record { search = q; ticket = t }) in omega arith;
      }))
      (λ _. k _ (record {
        counts = refl;
        batches = refl;
        results = alike_set was_emptied s.results (place_of p q t) there.0 reached there.1 (sym (not_emptied there.0 there.2));
        hands = λ h is. let a = arrived_gives h s.desks i v (after_reach_result v q t x) e q t (reached_item x ∷ []) x g refl in let b = a.4 in let c = is.arrived a.0 in
            let d : h (reached_item x) ≡ h (reached_item (Arrived a.0)) = ap (λ y. h (reached_item y)) a.1 in let n = is.arrived (record { task = a.0.task; failed = a.0.failed; search = a.0.search; ticket = a.0.ticket; at_slot = true }) in omega arith;
      })))

  pub unbatched_split : (i n : ℕ) → P (move p s (split i n))
  unbatched_split i n = desk_keeps P s i _ _ f (λ v e m. k _ (record { counts = refl; batches = refl; results = alike_here was_emptied s.results; hands = λ h is. hands_split h s.desks i n v e }))

  pub unbatched_join : (i j : ℕ) → P (move p s (join i j))
  unbatched_join i j = desk_keeps P s i _ _ f (λ v e m. desk_keeps P s j _ _ f (λ w d z. k _ (record { counts = refl; batches = refl; results = alike_here was_emptied s.results; hands = λ h is. hands_join h s.desks i j v w e d (apart_from i j m) (bare w.hand z) })))

  pub unbatched_stop : (i n : ℕ) → P (move p s (stop i n))
  unbatched_stop i n = item_keeps P s i _ _ _ f (λ v e x g m. k _ (record {
    counts = refl;
    batches = refl;
    results = alike_here was_emptied s.results;
    hands = λ h is. let y : LoadedTask = record { task = n; failed = true } in let a = loaded_gives h s.desks i v (after_stop v n) e n (Loaded y ∷ []) x g refl in let b = a.2 in let c = is.loaded (record { task = n; failed = a.0 }) in let d = is.loaded y in omega arith;
  }))

  pub unbatched_stopped : (i q : ℕ) → P (move p s (stopped i q))
  unbatched_stopped i q = desk_keeps P s i _ _ f (λ v e m. k _ (record { counts = refl; batches = refl; results = alike_here was_emptied s.results; hands = λ h is. hands_same h s.desks i v (after_stopped v q (get_or s.stops q 0)) e refl }))
