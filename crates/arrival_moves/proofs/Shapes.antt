-- The number of words and of slots never changes.
use Rattle.std.proofs.Common.{◌≡◌, ℕ, suc, List, [], ◌∷◌, length, refl, ap, ◌∙◌, length-set}
use Rattle.std.proofs.lemmas.List.{length-replicate}
use Rattle.arrival_moves.specs.Items.{is_at_slot}
use Rattle.arrival_moves.specs.Moves.{ArrivalState, Move, claim, take_task, arrive, put, count, take_result, put_merged, split, join, close, stop, stopped, move, load_slots, opened}
use Rattle.arrival_moves.specs.declared.plan.Plan.{Plan}
use Rattle.arrival_moves.specs.Fairness.{HasShape}
use Rattle.arrival_moves.proofs.Cases.{desk_keeps, item_keeps, by_label}
use Rattle.list_laws.proofs.PlaceTests.{by_test}

module _ (p : Plan) where
  abbrev H : ArrivalState → Type 0
  H = HasShape p

  -- every move keeps the lengths
  pub shape_move : (s : ArrivalState) (m : Move) → H s → H (move p s m)
  shape_move s (claim i) f = desk_keeps H s i _ _ f (λ v e m. record { tickets = f.tickets; counts = f.counts; stops = f.stops; loads = f.loads; results = f.results; batches = f.batches })
  shape_move s (take_task i k) f = item_keeps H s i _ _ _ f (λ v e x g m. record { tickets = f.tickets; counts = f.counts; stops = f.stops; loads = length-set s.loads _ _ ∙ f.loads; results = f.results; batches = f.batches })
  shape_move s (arrive i k) f = item_keeps H s i _ _ _ f (λ v e x g m. record { tickets = length-set s.tickets _ _ ∙ f.tickets; counts = f.counts; stops = f.stops; loads = f.loads; results = f.results; batches = f.batches })
  shape_move s (put i q t l) f = item_keeps H s i _ _ _ f (λ v e x g m. by_test H (is_at_slot x) _ _
      (λ _. record { tickets = f.tickets; counts = f.counts; stops = f.stops; loads = f.loads; results = length-set s.results _ _ ∙ f.results; batches = f.batches })
      (λ _. record { tickets = f.tickets; counts = f.counts; stops = f.stops; loads = f.loads; results = length-set s.results _ _ ∙ f.results; batches = f.batches }))
  shape_move s (count i q t) f = item_keeps H s i _ _ _ f (λ v e x g m. record { tickets = f.tickets; counts = length-set s.counts _ _ ∙ f.counts; stops = f.stops; loads = f.loads; results = f.results; batches = f.batches })
  shape_move s (take_result i q t) f = item_keeps H s i _ _ _ f (λ v e x g m. by_label H s _ _ f (λ l o. record { tickets = f.tickets; counts = f.counts; stops = f.stops; loads = f.loads; results = length-set s.results _ _ ∙ f.results; batches = f.batches }))
  shape_move s (put_merged i q b l) f = item_keeps H s i _ _ _ f (λ v e x g m. by_test H (is_at_slot x) _ _
      (λ _. record { tickets = f.tickets; counts = f.counts; stops = f.stops; loads = f.loads; results = f.results; batches = length-set s.batches _ _ ∙ f.batches })
      (λ _. record { tickets = f.tickets; counts = f.counts; stops = f.stops; loads = f.loads; results = f.results; batches = length-set s.batches _ _ ∙ f.batches }))
  shape_move s (split i k) f = desk_keeps H s i _ _ f (λ v e m. record { tickets = f.tickets; counts = f.counts; stops = f.stops; loads = f.loads; results = f.results; batches = f.batches })
  shape_move s (join i j) f = desk_keeps H s i _ _ f (λ v e m. desk_keeps H s j _ _ f (λ w d z. record { tickets = f.tickets; counts = f.counts; stops = f.stops; loads = f.loads; results = f.results; batches = f.batches }))
  shape_move s (close i q b) f = desk_keeps H s i _ _ f (λ v e m. by_label H s _ _ f (λ l o. record { tickets = f.tickets; counts = f.counts; stops = f.stops; loads = f.loads; results = f.results; batches = length-set s.batches _ _ ∙ f.batches }))
  shape_move s (stop i k) f = item_keeps H s i _ _ _ f (λ v e x g m. record { tickets = f.tickets; counts = f.counts; stops = length-set s.stops _ _ ∙ f.stops; loads = f.loads; results = f.results; batches = f.batches })
  shape_move s (stopped i q) f = desk_keeps H s i _ _ f (λ v e m. record { tickets = f.tickets; counts = f.counts; stops = f.stops; loads = f.loads; results = f.results; batches = f.batches })

  -- there is a load for each task
  loads_length : (k : ℕ) (qs : List ℕ) → length (load_slots k qs) ≡ length qs
  loads_length k [] = refl
  loads_length k (q ∷ qs) = ap suc (loads_length (suc k) qs)

  -- at the opening they are as the plan says
  pub shape_opened : H (opened p)
  shape_opened = record { tickets = length-replicate _ _; counts = length-replicate _ _; stops = length-replicate _ _; loads = loads_length 0 p.tasks; results = length-replicate _ _; batches = length-replicate _ _ }
