-- No move lets a word fall, and a claim lets the claim word rise.
use Rattle.std.proofs.Common.{◌≡◌, ℕ, zero, suc, ◌+◌, ◌/◌, ◌≤◌, leb, get_or, fold, List, [], ◌∷◌, ◌++◌, set, refl, ap, subst, sym, arith}
use Rattle.std.proofs.lemmas.Bool.{le-leb}
use Rattle.std.proofs.lemmas.List.Sums.{fold-append}
use Rattle.arrival_moves.specs.declared.plan.Plan.{Plan}
use Rattle.arrival_moves.specs.Plans.{place_of, search_of, IsPlan}
use Rattle.arrival_moves.specs.Items.{is_at_slot}
use Rattle.arrival_moves.specs.AfterMove.{after_claim}
use Rattle.arrival_moves.specs.Moves.{ArrivalState, Move, claim, take_task, arrive, put, count, take_result, put_merged, split, join, close, stop, stopped, move, run, opened}
use Rattle.arrival_moves.specs.Growth.{HasGrown, RaisesClaims}
use Rattle.arrival_moves.proofs.Cases.{desk_keeps, item_keeps, by_label}
use Rattle.list_laws.proofs.PlaceTests.{by_test}
use Rattle.arrival_moves.proofs.Runs.{IsKept, kept_move, kept_run, move_desk_is}

-- a word that is set to no smaller a number
set_grows : (ws : List ℕ) (j n q : ℕ) → get_or ws j 0 ≤ n → get_or ws q 0 ≤ get_or (set ws j n) q 0
set_grows [] j n q h = omega arith
set_grows (w ∷ ws) zero n zero h = h
set_grows (w ∷ ws) zero n (suc q) h = omega arith
set_grows (w ∷ ws) (suc j) n zero h = omega arith
set_grows (w ∷ ws) (suc j) n (suc q) h = set_grows ws j n q h

-- no word changes
as_it_is : (s t : ArrivalState) → t.claimed ≡ s.claimed → t.tickets ≡ s.tickets → t.counts ≡ s.counts → t.stops ≡ s.stops → HasGrown s t
as_it_is s t claimed tickets counts stops = record {
  claimed = omega arith;
  tickets = λ q. let a : get_or t.tickets q 0 ≡ get_or s.tickets q 0 = ap (λ ws. get_or ws q 0) tickets in omega arith;
  counts = λ c. let a : get_or t.counts c 0 ≡ get_or s.counts c 0 = ap (λ ws. get_or ws c 0) counts in omega arith;
  stops = λ q. let a : get_or t.stops q 0 ≡ get_or s.stops q 0 = ap (λ ws. get_or ws q 0) stops in omega arith;
}

then_grown : (s t u : ArrivalState) → HasGrown s t → HasGrown t u → HasGrown s u
then_grown s t u f g = record {
  claimed = let a = f.claimed in let b = g.claimed in omega arith;
  tickets = λ q. let a = f.tickets q in let b = g.tickets q in omega arith;
  counts = λ c. let a = f.counts c in let b = g.counts c in omega arith;
  stops = λ q. let a = f.stops q in let b = g.stops q in omega arith;
}

module _ (p : Plan) (good : IsPlan p) where
  grown_move : (s : ArrivalState) (m : Move) → IsKept p s → HasGrown s (move p s m)
  grown_move s (claim i) f = desk_keeps (HasGrown s) s i _ _ (as_it_is s s refl refl refl refl) (λ v e _. record { claimed = omega arith; tickets = λ q. omega arith; counts = λ c. omega arith; stops = λ q. omega arith })
  grown_move s (take_task i k) f = item_keeps (HasGrown s) s i _ _ _ (as_it_is s s refl refl refl refl) (λ v e x g _. as_it_is s _ refl refl refl refl)
  grown_move s (arrive i k) f = item_keeps (HasGrown s) s i _ _ _ (as_it_is s s refl refl refl refl) (λ v e x g _. record {
    claimed = omega arith;
    tickets = λ q. set_grows s.tickets (search_of p k) (get_or s.tickets (search_of p k) 0 + 1) q (omega arith);
    counts = λ c. omega arith;
    stops = λ q. omega arith;
  })
  grown_move s (put i q t l) f = item_keeps (HasGrown s) s i _ _ _ (as_it_is s s refl refl refl refl) (λ v e x g _. by_test (HasGrown s) (is_at_slot x) _ _ (λ _. as_it_is s _ refl refl refl refl) (λ _. as_it_is s _ refl refl refl refl))
  grown_move s (count i q t) f = item_keeps (HasGrown s) s i _ _ _ (as_it_is s s refl refl refl refl) (λ v e x g _. let c : ℕ = place_of p q (t / p.batch) in record {
    claimed = omega arith;
    tickets = λ r. omega arith;
    counts = λ d. set_grows s.counts c (get_or s.counts c 0 + 1) d (omega arith);
    stops = λ r. omega arith;
  })
  grown_move s (take_result i q t) f = item_keeps (HasGrown s) s i _ _ _ (as_it_is s s refl refl refl refl) (λ v e x g _. by_label (HasGrown s) s _ _ (as_it_is s s refl refl refl refl) (λ l o. as_it_is s _ refl refl refl refl))
  grown_move s (put_merged i q b l) f = item_keeps (HasGrown s) s i _ _ _ (as_it_is s s refl refl refl refl) (λ v e x g _. by_test (HasGrown s) (is_at_slot x) _ _ (λ _. as_it_is s _ refl refl refl refl) (λ _. as_it_is s _ refl refl refl refl))
  grown_move s (split i k) f = desk_keeps (HasGrown s) s i _ _ (as_it_is s s refl refl refl refl) (λ v e _. as_it_is s _ refl refl refl refl)
  grown_move s (join i j) f = desk_keeps (HasGrown s) s i _ _ (as_it_is s s refl refl refl refl) (λ v e _. desk_keeps (HasGrown s) s j _ _ (as_it_is s s refl refl refl refl) (λ w d _. as_it_is s _ refl refl refl refl))
  grown_move s (close i q b) f = desk_keeps (HasGrown s) s i _ _ (as_it_is s s refl refl refl refl) (λ v e _. by_label (HasGrown s) s _ _ (as_it_is s s refl refl refl refl) (λ l o. as_it_is s _ refl refl refl refl))
  grown_move s (stop i k) f = item_keeps (HasGrown s) s i _ _ _ (as_it_is s s refl refl refl refl) (λ v e x g _. record {
    claimed = omega arith;
    tickets = λ q. omega arith;
    counts = λ c. omega arith;
    stops = λ q. set_grows s.stops (search_of p k) 1 q (f.notes.low (search_of p k));
  })
  grown_move s (stopped i q) f = desk_keeps (HasGrown s) s i _ _ (as_it_is s s refl refl refl refl) (λ v e _. as_it_is s _ refl refl refl refl)

  grown_moves : (ms : List Move) (s : ArrivalState) → IsKept p s → HasGrown s (fold (move p) s ms)
  grown_moves [] s f = as_it_is s s refl refl refl refl
  grown_moves (m ∷ ms) s f = then_grown s (move p s m) (fold (move p) (move p s m) ms) (grown_move s m f) (grown_moves ms (move p s m) (kept_move p good s m f))

  pub grown_run : (ms ns : List Move) → HasGrown (run p ms) (run p (ms ++ ns))
  grown_run ms ns = subst (HasGrown (run p ms)) (sym (fold-append (move p) (opened p) ms ns)) (grown_moves ns (run p ms) (kept_run p good ms))

  -- a claim raises the claim word
  pub claim_rises : (s : ArrivalState) → RaisesClaims p s
  claim_rises s i v e left = ap (λ (t : ArrivalState). t.claimed) (move_desk_is s i (λ u. leb 1 u.left) (λ u. record s { claimed = s.claimed + 1; desks = set s.desks i (after_claim p u s.claimed) }) v e (le-leb 1 v.left left))
