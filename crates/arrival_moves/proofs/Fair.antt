-- Every list of moves leaves a fair state.
use Rattle.std.proofs.Common.{ltb, ◌≡◌, ℕ, ◌/◌, ◌<◌, ◌≤◌, ◌⊎◌, ⊎_elim, leb, get_or, List, sym, ap, ◌∙◌, subst, arith}
use mathlib.Core.Option.{some}
use lib.ListN.{get_elem?}
use Rattle.arrival_moves.specs.declared.label.Label.{Label}
use Rattle.arrival_moves.specs.declared.plan.Plan.{Plan}
use Rattle.arrival_moves.specs.declared.item.Item.TheVariants.{Batch, Closed}
use Rattle.arrival_moves.specs.Slots.{holds}
use Rattle.arrival_moves.specs.Plans.{tasks_of, place_of, batch_size, IsPlan}
use Rattle.arrival_moves.specs.Items.{arrived_at, due_at}
use Rattle.arrival_moves.specs.Hands.{in_hands}
use Rattle.arrival_moves.specs.Moves.{ArrivalState, Move, run}
use Rattle.arrival_moves.specs.Fairness.{IsFair}
use Rattle.arrival_moves.proofs.OneIf.{one_if_le, one_if_true}
use Rattle.arrival_moves.proofs.Quiet.{lt_one}
use Rattle.arrival_moves.proofs.Words.{drawn_le}
use Rattle.arrival_moves.proofs.TaskPlaces.{place_within, place_at}
use Rattle.arrival_moves.proofs.Batches.{le_none}
use Rattle.list_laws.proofs.Places.{there_below}
use Rattle.arrival_moves.proofs.SlotStates.{was_emptied, full_slot, has_slot}
use Rattle.arrival_moves.proofs.CountedTickets.{counted_all}
use Rattle.std.proofs.lemmas.Bool.{ltb-true}
use Rattle.arrival_moves.proofs.Runs.{IsKept, kept_run}

module _ (p : Plan) (good : IsPlan p) (s : ArrivalState) (f : IsKept p s) where
  -- a ticket that was drawn is one of its search
  pub ticket_range : (q t : ℕ) → t < get_or s.tickets q 0 → t < tasks_of p q
  ticket_range q t h = let a = f.words.word q in let b = drawn_le p good q s.claimed in omega arith

  -- a result stays in its slot until it is taken
  pub result_there : (q t : ℕ) → t < get_or s.tickets q 0 → in_hands (arrived_at q t) s.desks ≡ 0 → (get_or s.counts (place_of p q (t / p.batch)) 0 < batch_size p q (t / p.batch)) ⊎ (1 ≤ in_hands (due_at q t) s.desks)
      → (l : Label) × (get_elem? s.results (place_of p q t) ≡ some (holds l))
  result_there q t drawn away why = let range = ticket_range q t drawn in let y = has_slot s.results (place_of p q t) (subst (λ z. place_of p q t < z) (sym f.shape.results) (place_within p q t range)) in
      let a = f.results.once q t y.0 range y.1 in let one = lt_one t (get_or s.tickets q 0) drawn in let due = f.batches.due q t y.0 range y.1 in let top = one_if_le (leb (batch_size p q (t / p.batch)) (get_or s.counts (place_of p q (t / p.batch)) 0)) in
      let kept : was_emptied y.0 ≡ 0 = ⊎_elim (λ (z : get_or s.counts (place_of p q (t / p.batch)) 0 < batch_size p q (t / p.batch)). let none = le_none (batch_size p q (t / p.batch)) (get_or s.counts (place_of p q (t / p.batch)) 0) z in omega arith) (λ (z : 1 ≤ in_hands (due_at q t) s.desks). omega arith) why in
      full_slot s.results (place_of p q t) y.0 y.1 (omega arith) kept

  -- what every move keeps is fair
  pub fair_of : IsFair p s
  fair_of = record {
    shape = f.shape;
    claims = f.claims;
    tasks = record { once = f.tasks.once; loads = f.loads.loads; results = λ r l e. f.filled.results r (holds l) e; batches = λ r l e. f.filled.batches r (holds l) e };
    tickets = record { word = f.words.word; once = f.results.once };
    batches = record {
      result = f.labels.results;
      taken = λ i j v x e h. let a = f.labels.hands i v e j (Batch x) h in record { size = a.size; search = a.search };
      merged = f.labels.batches;
      placed = λ r l e. let place = place_at p good r (subst (λ n. r < n) f.shape.batches (there_below s.batches r (holds l) e)) in (place.0, place.1, f.labels.real place.0 place.1 l place.2 (ap (get_elem? s.batches) (sym place.3) ∙ e), place.3);
      closed = λ i j v x e h. f.labels.hands i v e j (Closed x) h;
      counts = λ q b real. counted_all p good s f q b real;
      uncounted = f.counts.uncounted;
      counted = λ q t done why. let low : t < get_or s.tickets q 0 = ltb-true _ _ (one_if_true (ltb t (get_or s.tickets q 0)) (omega arith)) in let top = one_if_le (ltb t (get_or s.tickets q 0)) in result_there q t low (omega arith) why;
      last = f.batches.last;
    };
    stops = record { word = f.notes.low; failed = f.stops.failed; noted = λ i v q e h. f.notes.noted i v e q h; skipped = f.stops.skipped };
  }

-- after every list of moves
pub fair_run : (p : Plan) → IsPlan p → (ms : List Move) → IsFair p (run p ms)
fair_run p good ms = fair_of p good (run p ms) (kept_run p good ms)
