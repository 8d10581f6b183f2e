-- What all amounts of a task come to.
use Rattle.std.specs.Prelude.{◌≡◌, ℕ, ℤ, pos, ◌+ℤ◌, ◌≤ℤ◌, ◌+◌, ◌≤◌, List, take}
use Rattle.std.proofs.Common.{arith, inl, inr, ⊎_elim}
use Rattle.std.proofs.lemmas.Int.{ints}
use Rattle.agg_evaluation.specs.Cost.{cost}
use Rattle.agg_evaluation.specs.Rows.{PlacedRow}
use Rattle.agg_evaluation.specs.Shard.{shard_answer}
use Rattle.agg_evaluation.specs.Trace.{peak, trace}
use Rattle.agg_model.specs.Breakers.{limit_of}
use Rattle.agg_model.specs.declared.aggregation.Search.{Search}
use Rattle.agg_model.specs.declared.breaker.Limits.{Limits}
use Rattle.agg_model.specs.declared.breaker.Tripped.{Tripped}
use Rattle.agg_model.specs.declared.breaker.Which.TheVariants.{Request, Parent}
use Rattle.breaker_words.specs.Views.{hold_of}
use Rattle.breaker_words.specs.declared.view.View.{View}
use Rattle.growth_laws.proofs.Paying.{paid-peak, paid-trace}
use Rattle.growth_laws.proofs.Places.{refused-place, sum-place}
use Rattle.growth_laws.proofs.Sums.{amounts-total, peak-reached, sum-peak}
use Rattle.growth_laws.specs.Amounts.{amounts, place_without_zeros, without_zeros}
use Rattle.growth_laws.specs.Paid.{IsPaid, Standing}
use Rattle.task_charges.proofs.Fronts.{take-sum}
use Rattle.task_charges.specs.Charged.{HasPaid, standing_at}
use Rattle.task_charges.specs.Ended.{IsBelowPeak, IsDone, IsMostAfter, IsRefused}

module _ (search : Search) (all : List PlacedRow) where
  pub most-trace : (s : Standing) (k : ℕ) → IsMostAfter (trace search all) s k → IsBelowPeak search all s k
  most-trace s k h = ⊎_elim (λ (e : k ≤ s.most). inl e) (λ f. let top = sum-peak search all f.0 in let a = f.1 in inr (omega (arith, ints))) h

  -- zeros do not matter
  most-places : (ns : List ℤ) (s : Standing) (k : ℕ) → IsMostAfter ns s k → IsMostAfter (without_zeros ns) s k
  most-places ns s k h = ⊎_elim (λ (e : k ≤ s.most). inl e) (λ f. let same = sum-place ns f.0 in let a = f.1 in inr (place_without_zeros ns f.0, omega (arith, ints))) h

  pub most-amounts : (n : ℕ) (s : Standing) (k : ℕ) → IsMostAfter (take n (amounts search all)) s k → IsBelowPeak search all s k
  most-amounts n s k h = most-trace s k (most-places (amounts search all) s k
      (⊎_elim (λ (e : k ≤ s.most). inl e) (λ f. let g = take-sum (amounts search all) n f.0 in inr (g.0, (let a = f.1 in let b = g.1 in omega (arith, ints)))) h))

  paid-hold : (limit : ℕ) (s t : Standing) → IsPaid limit s t (amounts search all) → t.hold ≡ s.hold + cost (shard_answer search all)
  paid-hold limit s t p = let h = p.held in let total = amounts-total search all in omega (arith, ints)

  paid-peak-within : (limit : ℕ) (s t : Standing) → IsPaid limit s t (trace search all) → (pos s.hold +ℤ peak search all) ≤ℤ pos limit
  paid-peak-within limit s t p = let top = peak-reached search all in let h = p.within top.0 in let e = top.1 in omega (arith, ints)

  pub done : (l : Limits) (v u : View) → HasPaid l v u (amounts search all) → IsDone l v u search all
  done l v u paid =
      let r = paid-trace l.request (standing_at v Request) (standing_at u Request) (amounts search all) paid.request in
      let p = paid-trace l.parent (standing_at v Parent) (standing_at u Parent) (amounts search all) paid.parent in
      (record {
        same = paid.same;
        hold_request = paid-hold l.request (standing_at v Request) (standing_at u Request) paid.request;
        hold_parent = paid-hold l.parent (standing_at v Parent) (standing_at u Parent) paid.parent;
        granted_request = r.granted_is;
        granted_parent = p.granted_is;
        within_request = paid-peak-within l.request (standing_at v Request) (standing_at u Request) r;
        within_parent = paid-peak-within l.parent (standing_at v Parent) (standing_at u Parent) p;
        most_request = paid-peak search all l.request (standing_at v Request) (standing_at u Request) r;
        most_parent = paid-peak search all l.parent (standing_at v Parent) (standing_at u Parent) p;
        trips = paid.trips;
        seen = paid.seen;
        untouched = paid.untouched;
      })

  pub refused-trace : (l : Limits) (v u : View) (t : Tripped) → IsRefused l v u (amounts search all) t → IsRefused l v u (trace search all) t
  refused-trace l v u t r = record {
    place = place_without_zeros (amounts search all) r.place;
    granted = r.granted;
    refused = refused-place (amounts search all) (hold_of v) (limit_of l) _ r.place r.granted t r.refused;
    back = record {
      same = r.back.same;
      holds = r.back.holds;
      granted_request = r.back.granted_request;
      granted_parent = r.back.granted_parent;
      most_request = most-places (amounts search all) (standing_at v Request) _ r.back.most_request;
      most_parent = most-places (amounts search all) (standing_at v Parent) _ r.back.most_parent;
      seen = r.back.seen;
      untouched = r.back.untouched;
    };
    trip = r.trip;
    trips = r.trips;
    seen_there = r.seen_there;
  }
