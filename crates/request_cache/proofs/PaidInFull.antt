-- A task that came to its end has paid all its amounts, so what it holds can be given back as that of any task that stops.
use Rattle.std.specs.Prelude.{◌≡◌, refl, ◌⊎◌, ℕ, zero, suc, ℤ, pos, ◌+ℤ◌, ◌≤ℤ◌, ◌≤◌, ◌+◌, true, false, cond, not, List, [], ◌∷◌, length, take}
use Rattle.std.specs.Ordering.{int_eq}
use Rattle.std.proofs.Common.{◌∙◌, sym, ap, subst, arith, inl, inr, ⊎_elim}
use Rattle.std.proofs.lemmas.Int.{ints}
use Rattle.std.proofs.lemmas.List.{take_all}
use Rattle.agg_evaluation.specs.Cost.{cost}
use Rattle.agg_evaluation.specs.Rows.{PlacedRow}
use Rattle.agg_evaluation.specs.Shard.{int_sum, shard_answer}
use Rattle.agg_evaluation.specs.Trace.{peak, sum_before, trace}
use Rattle.agg_model.specs.declared.aggregation.Search.{Search}
use Rattle.agg_model.specs.declared.breaker.Child.TheVariants as child
use Rattle.agg_model.specs.declared.breaker.Limits.{Limits}
use Rattle.agg_model.specs.declared.breaker.Which.TheVariants.{Request, Parent}
use Rattle.breaker_tree.specs.Charge.{IsGivenBack}
use Rattle.breaker_words.specs.declared.view.View.{View}
use Rattle.evaluation_laws.proofs.TraceLaws.{no_amount}
use Rattle.growth_laws.proofs.Places.{sum-place}
use Rattle.growth_laws.proofs.Sums.{amounts-total, charged-without_zeros, peak-reached, sum-peak}
use Rattle.growth_laws.specs.Amounts.{amounts, charged, place_without_zeros, without_zeros}
use Rattle.growth_laws.specs.Paid.{IsPaid, Standing, granted_total}
use Rattle.task_charges.proofs.Refusing.{given-up}
use Rattle.task_charges.specs.Charged.{HasPaid, standing_at}
use Rattle.task_charges.specs.Ended.{IsBelowPeak, IsDone, IsGivenUp}
use Rattle.request_cache.specs.Tasks.{GivesUp}

-- what is held after some of the amounts without zeros is held after some of all
behind-first : (n : ℤ) (ns ms : List ℤ) → ((m : ℕ) → (k : ℕ) × (sum_before ms m ≡ sum_before ns k)) → (m : ℕ)
    → (k : ℕ) × (sum_before (n ∷ ms) m ≡ sum_before (n ∷ ns) k)
behind-first n ns ms rest zero = (0, refl)
behind-first n ns ms rest (suc m) = let f = rest m in (suc f.0, ap (λ s. n +ℤ s) f.1)

sum-kept : (ns : List ℤ) (m : ℕ) → (k : ℕ) × (sum_before (without_zeros ns) m ≡ sum_before ns k)
sum-kept [] m = (m, refl)
sum-kept (n ∷ ns) m = elim (not (int_eq n (pos 0))) as (λ b. not (int_eq n (pos 0)) ≡ b
    → (k : ℕ) × (sum_before (cond b (n ∷ without_zeros ns) (without_zeros ns)) m ≡ sum_before (n ∷ ns) k)) [
      | true ↦ λ some. behind-first n ns (without_zeros ns) (sum-kept ns) m
      | false ↦ λ e. let f = sum-kept ns m in let none = no_amount n e in let is = f.1 in (suc f.0, omega (arith, ints))
    ] refl

module _ (search : Search) (all : List PlacedRow) where
  abbrev ns : List ℤ
  ns = amounts search all

  -- at a breaker
  at-breaker : (limit : ℕ) (s t : Standing) → t.hold ≡ s.hold + cost (shard_answer search all)
      → t.granted ≡ granted_total (s.granted + charged (trace search all)) → (pos s.hold +ℤ peak search all) ≤ℤ pos limit
      → IsBelowPeak search all s t.most → IsPaid limit s t ns
  at-breaker limit s t hold granted within most = record {
    held = (let total = amounts-total search all in omega (arith, ints));
    granted_is = granted ∙ ap (λ n. granted_total (s.granted + n)) (charged-without_zeros ns);
    within = λ n. (let place = sum-place ns n in let top = sum-peak search all (place_without_zeros ns n) in omega (arith, ints));
    most_is = ⊎_elim (λ (e : t.most ≤ s.most). inl e)
        (λ (below : pos t.most ≤ℤ (pos s.hold +ℤ peak search all)).
        let top = peak-reached search all in
        let is = top.1 in
        let some = sum-kept ns top.0 in
        let same = some.1 in
        inr (some.0, omega (arith, ints))) most;
  }

  done-paid : (l : Limits) (v u : View) → IsDone l v u search all → HasPaid l v u ns
  done-paid l v u done = record {
    same = done.same;
    request = at-breaker l.request (standing_at v Request) (standing_at u Request) done.hold_request done.granted_request done.within_request done.most_request;
    parent = at-breaker l.parent (standing_at v Parent) (standing_at u Parent) done.hold_parent done.granted_parent done.within_parent done.most_parent;
    trips = done.trips;
    seen = done.seen;
    untouched = done.untouched;
  }

  -- its answer is given up
  pub done-given-up : (l : Limits) (v u w : View) → IsDone l v u search all → IsGivenBack u child.Request (cost (shard_answer search all)) w → GivesUp v w search all
  done-given-up l v u w done back =
      let up = given-up l v u ns (done-paid l v u done) (cost (shard_answer search all)) (sym (amounts-total search all)) w back in
      inr (length ns, subst (IsGivenUp v w) (sym (take_all (length ns) ns (omega arith))) up)
