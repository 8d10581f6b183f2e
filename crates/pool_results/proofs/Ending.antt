-- The pass of a task after its end, and what its result keeps.
use Rattle.std.specs.Prelude.{◌≡◌, ◌≢◌, refl, ◌≤◌, ℕ, ◌+◌, ◌*◌, ℤ, pos, ◌+ℤ◌, ◌≤ℤ◌, unsigned_abs, Bool, true, false, List, [], ◌∷◌, map, sum_by, take, Option, Some, None, IsTrue}
use Rattle.std.specs.List.{AllByRecursion}
use Rattle.std.proofs.Common.{sym, ◌∙◌, ap, subst, arith, inl, ⊎_elim}
use Rattle.std.proofs.lemmas.Int.{ints}
use Rattle.std.proofs.lemmas.List.Sums.{sum_by-cons}
use Rattle.agg_evaluation.proofs.SearchLaws.{whole-alone}
use Rattle.agg_evaluation.proofs.TreeLaws.{shard_answer-is_result}
use Rattle.agg_evaluation.specs.Cost.{cost}
use Rattle.agg_evaluation.specs.Rows.{PlacedRow}
use Rattle.agg_evaluation.specs.Shard.{shard_answer}
use Rattle.agg_evaluation.specs.Trace.{peak, trace}
use Rattle.agg_model.specs.declared.aggregation.Search.{Search}
use Rattle.agg_model.specs.declared.breaker.Tripped.{Tripped}
use Rattle.agg_model.specs.declared.breaker.Which.{Which}
use Rattle.agg_model.specs.declared.breaker.Which.TheVariants.{Request, Fielddata, Inflight, Parent}
use Rattle.agg_model.specs.declared.partial.Partial.{Partial}
use Rattle.agg_spec.specs.Charges.{amount_at as told_at, one_at}
use Rattle.agg_spec.specs.Index.{rows_in}
use Rattle.agg_spec.specs.Rises.{merge_charge}
use Rattle.batch_reduce.specs.Reduced.{at_both}
use Rattle.breaker_tree.specs.Charge.{IsAtRestAgain}
use Rattle.breaker_words.specs.Accounts.{account, empty_account}
use Rattle.breaker_words.specs.Breakers.{counter_value}
use Rattle.breaker_words.specs.Passes.{IsOf, PassModel}
use Rattle.breaker_words.specs.Views.{granted_of, hold_of, most_of, trips_of, view_of}
use Rattle.breaker_words.specs.declared.view.View.{View}
use Rattle.collect_tree.specs.Ends.{IfDone, IfMemory, IfRefused}
use Rattle.collect_tree.specs.declared.ending.TaskEnd.{TaskEnd}
use Rattle.collect_tree.specs.declared.ending.TaskEnd.TheVariants as task
use Rattle.evaluation_laws.proofs.TraceLaws.{trace-never_negative}
use Rattle.growth_laws.proofs.Sums.{gross-charged, sum-peak}
use Rattle.growth_laws.specs.Amounts.{amounts, charged}
use Rattle.pool_results.specs.Carried.{AreRuns, IsCarried}
use Rattle.pool_results.specs.Passes.{IsFresh, IsPassOf, IsSeen, is_charged}
use Rattle.pool_results.specs.Pools.{IsTask, Pool, ceiling_at, cost_at, gross_at, peak_at, search_at}
use Rattle.pool_results.specs.Runs.{times_at, told_by}
use Rattle.pool_results.specs.declared.shard_run.ShardRun.{ShardRun}
use Rattle.pool_results.specs.Ended.{ran, work_after}
use Rattle.task_charges.proofs.Ending.{most-amounts, most-trace}
use Rattle.task_charges.specs.Charged.{standing_at}
use Rattle.task_charges.specs.Ended.{IsBelowPeak, IsDone, IsGivenUp, IsRefused}

-- a whole number that is not negative, and its size
size-low : (z : ℤ) (n : ℕ) → pos 0 ≤ℤ z → z ≤ℤ pos n → unsigned_abs z ≤ n
size-low z n low high = grind (arith, ints)

size-high : (z : ℤ) (n : ℕ) → pos n ≤ℤ z → n ≤ unsigned_abs z
size-high z n h = grind (arith, ints)

-- the pass of a task that has not begun may hold what the pool has for the task, and holds nothing
pub fresh-cap : (p : Pool) (q s : ℕ) (a : PassModel) → IsFresh p q s a → a.view.cap ≡ ceiling_at p q s
fresh-cap p q s a fresh = ap (λ (v : View). v.cap) fresh.is

pub fresh-hold : (p : Pool) (q s : ℕ) (a : PassModel) → IsFresh p q s a → a.view.accounts.parent.hold ≡ 0
fresh-hold p q s a fresh = ap (λ (v : View). v.accounts.parent.hold) fresh.is

module _ (p : Pool) (q s : ℕ) (there : IsTask p q s) (a : PassModel) (fresh : IsFresh p q s a) (some : 1 ≤ ceiling_at p q s) where
  abbrev search : Search
  search = search_at p q

  abbrev rows : List PlacedRow
  rows = rows_in p.index s

  -- nothing is there yet
  none-there : (x : Which) → account a.view.accounts x ≡ empty_account
  none-there x = subst (λ (v : View). account v.accounts x ≡ empty_account) (sym fresh.is) (by_which x)
    where
      by_which : (x : Which) → account (view_of p.words.limits (ceiling_at p q s) a.view.total).accounts x ≡ empty_account
      by_which Request = refl
      by_which Fielddata = refl
      by_which Inflight = refl
      by_which Parent = refl

  abbrev run : Option Tripped → List ShardRun
  run o = record { shard = s; refused = o } ∷ []

  peak-positive : pos 0 ≤ℤ peak search rows
  peak-positive = let low = trace-never_negative search rows 0 in let top = sum-peak search rows 0 in omega (arith, ints, low, top)

  module _ (u : PassModel) (of : IsOf p.words u) (same : IsAtRestAgain a.view u.view) where
    cap-is : u.view.cap ≡ sum_by (ceiling_at p q) (s ∷ [])
    cap-is = same.cap ∙ ap (λ (v : View). v.cap) fresh.is ∙ (let k : ceiling_at p q s ≡ sum_by (ceiling_at p q) (s ∷ []) = omega arith in k)

    most-at : (x : Which) → most_of a.view x ≡ 0
    most-at x = ap (λ b. b.most) (none-there x)

    hold-at : (x : Which) → hold_of a.view x ≡ 0
    hold-at x = ap (λ b. b.hold) (none-there x)

    -- the most is at most the peak
    below : (x : Which) → IsBelowPeak search rows (standing_at a.view x) (most_of u.view x) → most_of u.view x ≤ peak_at p q s
    below x b = ⊎_elim (λ (h : most_of u.view x ≤ most_of a.view x). let z = most-at x in omega (arith, h, z))
        (λ (h : pos (most_of u.view x) ≤ℤ (pos (hold_of a.view x) +ℤ peak search rows)). size-high (peak search rows) (most_of u.view x) (let z = hold-at x in omega (arith, ints, h, z))) b

    pass-after : (o e : Option Tripped) (n : ℕ) → hold_of u.view Request ≡ n → hold_of u.view Parent ≡ n
        → IsBelowPeak search rows (standing_at a.view Request) (most_of u.view Request) → IsBelowPeak search rows (standing_at a.view Parent) (most_of u.view Parent)
        → AllByRecursion (IsSeen p.words.limits u.view) (told_by e (run o)) → ((x : Which) → counter_value (times_at x (told_by e (run o))) ≤ trips_of u.view x)
        → (told_by e (run o) ≡ [] → (x : Which) → trips_of u.view x ≡ 0) → ((x : Which) → x ≢ Request → x ≢ Parent → account u.view.accounts x ≡ account a.view.accounts x)
        → IsPassOf p q (run o) e n u
    pass-after o e n request parent low_request low_parent told trips no_trips untouched = record {
      of = of;
      rest = same.rest;
      some = (let c = cap-is in let k : ceiling_at p q s ≡ sum_by (ceiling_at p q) (s ∷ []) = omega arith in let h = some in omega (arith, c, k, h));
      cap = cap-is;
      request = request;
      parent = parent;
      most = most-after;
      told = told;
      trips = trips;
      no_trips = no_trips;
      others = λ x f h. untouched x f h ∙ none-there x;
    }
      where
        peaks : peak_at p q s ≡ sum_by (peak_at p q) (s ∷ [])
        peaks = omega arith

        most-after : (x : Which) → most_of u.view x ≤ at_both (2 * sum_by (peak_at p q) (s ∷ [])) x
        most-after Request = let b = below Request low_request in let k = peaks in omega (arith, b, k)
        most-after Parent = let b = below Parent low_parent in let k = peaks in omega (arith, b, k)
        most-after Fielddata = let b = ap (λ c. c.most) (untouched Fielddata (λ z. cc) (λ z. cc) ∙ none-there Fielddata) in omega (arith, b)
        most-after Inflight = let b = ap (λ c. c.most) (untouched Inflight (λ z. cc) (λ z. cc) ∙ none-there Inflight) in omega (arith, b)

  runs-are : (o : Option Tripped) → (search.partial ≡ false → o ≡ None) → AreRuns p q (run o)
  runs-are None h = record { search = there.search; shards = (there.shard, tt); allowed = λ no. refl }
  runs-are (Some t) h = record { search = there.search; shards = (there.shard, tt); allowed = λ no. absurd (let e = h no in let none : ⊥ = cc in none) }

  pub carried-done : (part : Partial) (u : PassModel) → IsOf p.words u → part ≡ shard_answer search rows → IsDone p.words.limits a.view u.view search rows → IsCarried p (ran q s None (Some part) None false) u
  carried-done part u of is d = record {
    runs = runs-are None (λ no. refl);
    charge = pass-after u of d.same None None (sum_by cost (part ∷ [])) held_request held_parent d.most_request d.most_parent tt (λ x. omega arith) (λ none x. d.trips x ∙ ap (λ b. b.trips) (none-there x)) d.untouched;
    stopped = λ e. absurd (let no : ⊥ = cc in no);
    whole = λ e. ap (λ x. Some x) (is ∙ sym (whole-alone search (shard_answer search rows) (shard_answer-is_result search rows)));
    fits = λ e. (
      record {
        at_request = size-low (peak search rows) p.words.limits.request peak-positive (let w = d.within_request in let z = ap (λ b. b.hold) (none-there Request) in omega (arith, ints, w, z));
        at_parent = size-low (peak search rows) p.words.limits.parent peak-positive (let w = d.within_parent in let z = ap (λ b. b.hold) (none-there Parent) in omega (arith, ints, w, z));
      },
      tt,
    );
    granted = λ e none x. granted-is x;
  }
    where
      cost-is : cost part ≡ sum_by cost (part ∷ [])
      cost-is = omega arith

      held_request : hold_of u.view Request ≡ sum_by cost (part ∷ [])
      held_request = let h = d.hold_request in let z = ap (λ b. b.hold) (none-there Request) in let c = ap cost is in let k = cost-is in omega (arith, h, z, c, k)

      held_parent : hold_of u.view Parent ≡ sum_by cost (part ∷ [])
      held_parent = let h = d.hold_parent in let z = ap (λ b. b.hold) (none-there Parent) in let c = ap cost is in let k = cost-is in omega (arith, h, z, c, k)

      gross-is : gross_at p q s ≡ charged (trace search rows)
      gross-is = ap unsigned_abs (gross-charged search rows)

      total : sum_by (gross_at p q) (s ∷ []) + 0 ≡ charged (trace search rows)
      total = let g = gross-is in omega (arith, g)

      granted-is : (x : Which) → granted_of u.view x ≡ counter_value (at_both (sum_by (gross_at p q) (s ∷ []) + merge_charge (map (cost_at p q) (s ∷ []))) x)
      granted-is Request = let h = d.granted_request in let z = ap (λ b. b.granted) (none-there Request) in let t = total in omega (arith, h, z, t)
      granted-is Parent = let h = d.granted_parent in let z = ap (λ b. b.granted) (none-there Parent) in let t = total in omega (arith, h, z, t)
      granted-is Fielddata = let h = ap (λ b. b.granted) (d.untouched Fielddata (λ z. cc) (λ z. cc) ∙ none-there Fielddata) in omega (arith, h)
      granted-is Inflight = let h = ap (λ b. b.granted) (d.untouched Inflight (λ z. cc) (λ z. cc) ∙ none-there Inflight) in omega (arith, h)

  -- the pass after a refusal, whatever becomes of the search
  module _ (t : Tripped) (u : PassModel) (of : IsOf p.words u) (r : IsRefused p.words.limits a.view u.view (trace search rows) t) where
    by_one : IsTrue (is_charged t.which)
    by_one = ⊎_elim (λ (h : t.which ≡ Request). subst (λ w. IsTrue (is_charged w)) (sym h) refl) (λ h. subst (λ w. IsTrue (is_charged w)) (sym h.0) refl) r.refused.refused_by

    seen-now : IsSeen p.words.limits u.view t
    seen-now = record { breaker = by_one; limit = r.refused.limit_is; above = r.refused.above; seen = r.seen_there }

    trips-now : (x : Which) → counter_value (times_at x (t ∷ [])) ≤ trips_of u.view x
    trips-now x = let all = sum_by-cons (λ (r : Tripped). told_at x (one_at r.which)) t [] in let one = one-named t.which x r.trip in omega (arith, all, one)
      where
        one-named : (w x : Which) → trips_of u.view w ≡ counter_value (trips_of a.view w + 1) → counter_value (told_at x (one_at w)) ≤ trips_of u.view x
        one-named Request Request h = omega (arith, h)
        one-named Parent Parent h = omega (arith, h)
        one-named Fielddata Fielddata h = omega (arith, h)
        one-named Inflight Inflight h = omega (arith, h)
        one-named Request Fielddata h = omega arith
        one-named Request Inflight h = omega arith
        one-named Request Parent h = omega arith
        one-named Parent Request h = omega arith
        one-named Parent Fielddata h = omega arith
        one-named Parent Inflight h = omega arith
        one-named Fielddata Request h = omega arith
        one-named Fielddata Inflight h = omega arith
        one-named Fielddata Parent h = omega arith
        one-named Inflight Request h = omega arith
        one-named Inflight Fielddata h = omega arith
        one-named Inflight Parent h = omega arith

    refused-pass : (o e : Option Tripped) → told_by e (run o) ≡ t ∷ [] → IsPassOf p q (run o) e 0 u
    refused-pass o e told = pass-after u of r.back.same o e 0 (r.back.holds Request ∙ ap (λ b. b.hold) (none-there Request)) (r.back.holds Parent ∙ ap (λ b. b.hold) (none-there Parent))
        (most-trace search rows (standing_at a.view Request) (most_of u.view Request) r.back.most_request) (most-trace search rows (standing_at a.view Parent) (most_of u.view Parent) r.back.most_parent)
        (subst (AllByRecursion (IsSeen p.words.limits u.view)) (sym told) (seen-now, tt))
        (λ x. subst (λ ts. counter_value (times_at x ts) ≤ trips_of u.view x) (sym told) (trips-now x))
        (λ none. absurd (let e = sym told ∙ none in let no : ⊥ = cc in no))
        r.back.untouched

    pub carried-left_out : search.partial ≡ true → IsCarried p (ran q s (Some t) None None false) u
    carried-left_out on = record {
      runs = runs-are (Some t) (λ no. absurd (let e : true ≡ false = sym on ∙ no in let none : ⊥ = cc in none));
      charge = refused-pass (Some t) None refl;
      stopped = λ e. refl;
      whole = λ e. refl;
      fits = λ e. tt;
      granted = λ e none x. absurd (let no : ⊥ = cc in no);
    }

    pub carried-refused : IsCarried p (ran q s None None (Some t) false) u
    carried-refused = record {
      runs = runs-are None (λ no. refl);
      charge = refused-pass None (Some t) refl;
      stopped = λ e. refl;
      whole = λ e. absurd (let no : ⊥ = cc in no);
      fits = λ e. absurd (let no : ⊥ = cc in no);
      granted = λ e none x. absurd (let no : ⊥ = cc in no);
    }

  pub carried-memory : (u : PassModel) → IsOf p.words u → (n : ℕ) → IsGivenUp a.view u.view (take n (amounts search rows)) → IsCarried p (ran q s None None None true) u
  carried-memory u of n up = record {
    runs = runs-are None (λ no. refl);
    charge = pass-after u of up.back.same None None 0 (up.back.holds Request ∙ ap (λ b. b.hold) (none-there Request)) (up.back.holds Parent ∙ ap (λ b. b.hold) (none-there Parent))
        (most-amounts search rows n (standing_at a.view Request) (most_of u.view Request) up.back.most_request) (most-amounts search rows n (standing_at a.view Parent) (most_of u.view Parent) up.back.most_parent)
        tt (λ x. omega arith) (λ none x. up.trips x ∙ ap (λ b. b.trips) (none-there x)) up.back.untouched;
    stopped = λ e. refl;
    whole = λ e. absurd (let no : ⊥ = cc in no);
    fits = λ e. absurd (let no : ⊥ = cc in no);
    granted = λ e none x. absurd (let no : ⊥ = cc in no);
  }

  -- whatever the end of the task
  pub carried-after : (end : TaskEnd) (u : PassModel) → IsOf p.words u → IfDone end (λ x. x ≡ shard_answer search rows) → IfDone end (λ x. IsDone p.words.limits a.view u.view search rows)
      → IfRefused end (λ t. IsRefused p.words.limits a.view u.view (trace search rows) t) → IfMemory end ((n : ℕ) × IsGivenUp a.view u.view (take n (amounts search rows)))
      → (partial : Bool) → search.partial ≡ partial → IsCarried p (work_after q s partial end) u
  carried-after (task.Done x) u of is done refused memory true on = carried-done x u of is done
  carried-after (task.Done x) u of is done refused memory false on = carried-done x u of is done
  carried-after (task.Refused t) u of is done refused memory true on = carried-left_out t u of refused on
  carried-after (task.Refused t) u of is done refused memory false on = carried-refused t u of refused
  carried-after task.Memory u of is done refused memory true on = carried-memory u of memory.0 memory.1
  carried-after task.Memory u of is done refused memory false on = carried-memory u of memory.0 memory.1

  -- a task that was not run
  pub carried-skipped : IsCarried p (record { search = q; runs = run None; part = None; refused = None; memory = false; skipped = true }) a
  carried-skipped = record {
    runs = runs-are None (λ no. refl);
    charge = pass-after a fresh.of at-rest None None 0 (ap (λ b. b.hold) (none-there Request)) (ap (λ b. b.hold) (none-there Parent))
        (inl (omega arith)) (inl (omega arith)) tt (λ x. omega arith) (λ none x. ap (λ b. b.trips) (none-there x)) (λ x f h. refl);
    stopped = λ e. refl;
    whole = λ e. absurd (let no : ⊥ = cc in no);
    fits = λ e. absurd (let no : ⊥ = cc in no);
    granted = λ e none x. absurd (let no : ⊥ = cc in no);
  }
    where
      at-rest : IsAtRestAgain a.view a.view
      at-rest = record { limits = refl; cap = refl; total = refl; rest = ap (λ (v : View). v.trial) fresh.is }
