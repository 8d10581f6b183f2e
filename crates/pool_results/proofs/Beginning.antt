-- The first result of a batch, and one more.
use Rattle.std.specs.Prelude.{◌≡◌, refl, ◌≤◌, ◌<◌, ℕ, ◌+◌, ◌==◌, Bool, true, false, ◌||◌, List, [], ◌∷◌, ◌++◌, map, length, sum_by, option_to_list, is_some, Option, Some, None}
use Rattle.std.specs.List.{AllByRecursion}
use Rattle.std.proofs.Common.{sym, ◌∙◌, ap, subst, arith, ⊎_elim}
use Rattle.std.proofs.lemmas.List.{map-append}
use Rattle.std.proofs.lemmas.List.Sums.{sum_by-append}
use Rattle.agg_evaluation.proofs.SearchLaws.{whole-alone}
use Rattle.agg_evaluation.proofs.TreeLaws.{shard_answer-is_result}
use Rattle.agg_evaluation.specs.Cost.{cost}
use Rattle.agg_evaluation.specs.Shard.{shard_answer}
use Rattle.agg_model.specs.declared.breaker.Which.{Which}
use Rattle.agg_model.specs.declared.breaker.Which.TheVariants.{Request}
use Rattle.agg_model.specs.declared.breaker.Tripped.{Tripped}
use Rattle.agg_spec.specs.Index.{rows_in}
use Rattle.agg_spec.specs.Outcome.{shard_answers, whole_unless_none}
use Rattle.agg_spec.specs.Rises.{merge_charge}
use Rattle.arrival_moves.proofs.OneIf.{one_if_le}
use Rattle.arrival_moves.specs.Lists.{times}
use Rattle.batch_reduce.specs.Reduced.{at_both}
use Rattle.breaker_words.specs.AfterStep.{after_join}
use Rattle.breaker_words.specs.Breakers.{counter_value}
use Rattle.breaker_words.specs.Passes.{PassModel, with_view}
use Rattle.breaker_words.specs.Views.{granted_of, hold_of}
use Rattle.pool_results.specs.Carried.{AreRuns, IsCarried, PeakFits, is_stopped as is_stopped_work}
use Rattle.pool_results.specs.Passes.{IsPassOf}
use Rattle.pool_results.specs.Pools.{Pool, cost_at, gross_at, search_at, shard_count}
use Rattle.pool_results.specs.Runs.{failures_in, left_by, left_in, shards_in}
use Rattle.pool_results.specs.declared.shard_run.ShardRun.{ShardRun}
use Rattle.pool_results.specs.declared.work.Work.{Work}
use Rattle.pool_results.specs.Gathered.{IsAdded, IsGathered, IsKept, first_of, is_stopped, taken_of, with_work}
use Rattle.pool_results.specs.declared.taken.Taken.{Taken}
use Rattle.pool_results.proofs.Joining.{all-append, at-sum, failures-append, back-empty, front-empty, granted-both, joined-passes, left-append, shards-append}

-- of one task the result is its answer, where the shard is left
one-part : (p : Pool) (q : ℕ) (r : ShardRun) → option_to_list (whole_unless_none p.index (search_at p q) (left_in (r ∷ []))) ≡ shard_answers p.index (search_at p q) (left_in (r ∷ []))
one-part p q r = by_refusal r.refused
  where
    by_refusal : (o : Option Tripped) → option_to_list (whole_unless_none p.index (search_at p q) (left_by r.shard o ++ [])) ≡ shard_answers p.index (search_at p q) (left_by r.shard o ++ [])
    by_refusal None = ap (λ a. a ∷ []) (whole-alone (search_at p q) (shard_answer (search_at p q) (rows_in p.index r.shard)) (shard_answer-is_result (search_at p q) (rows_in p.index r.shard)))
    by_refusal (Some t) = refl

-- of one task nothing is merged
one-charge : (p : Pool) (q : ℕ) (r : ShardRun) (x : Which) → at_both (sum_by (gross_at p q) (shards_in (r ∷ [])) + merge_charge (map (cost_at p q) (shards_in (r ∷ [])))) x ≡ at_both (sum_by (gross_at p q) (shards_in (r ∷ []))) x
one-charge p q r x = ap (λ n. at_both n x) (let z : sum_by (gross_at p q) (shards_in (r ∷ [])) + 0 ≡ sum_by (gross_at p q) (shards_in (r ∷ [])) = omega arith in z)

one-run : (rs : List ShardRun) → length rs ≡ 1 → (r : ShardRun) × (rs ≡ r ∷ [])
one-run [] e = absurd (omega (arith, e))
one-run (r ∷ []) e = (r, refl)
one-run (r ∷ s ∷ rs) e = absurd (omega (arith, e))

one-part-of : (p : Pool) (q : ℕ) (rs : List ShardRun) → length rs ≡ 1 → option_to_list (whole_unless_none p.index (search_at p q) (left_in rs)) ≡ shard_answers p.index (search_at p q) (left_in rs)
one-part-of p q rs e = let r = one-run rs e in subst (λ ss. option_to_list (whole_unless_none p.index (search_at p q) (left_in ss)) ≡ shard_answers p.index (search_at p q) (left_in ss)) (sym r.1) (one-part p q r.0)

one-charge-of : (p : Pool) (q : ℕ) (rs : List ShardRun) → length rs ≡ 1 → (x : Which) → at_both (sum_by (gross_at p q) (shards_in rs) + merge_charge (map (cost_at p q) (shards_in rs))) x ≡ at_both (sum_by (gross_at p q) (shards_in rs)) x
one-charge-of p q rs e x = let r = one-run rs e in subst (λ ss. at_both (sum_by (gross_at p q) (shards_in ss) + merge_charge (map (cost_at p q) (shards_in ss))) x ≡ at_both (sum_by (gross_at p q) (shards_in ss)) x) (sym r.1) (one-charge p q r.0 x)

times-one : (rs : List ShardRun) → length rs ≡ 1 → (s : ℕ) → times s (shards_in rs) ≤ 1
times-one rs e s = let r = one-run rs e in subst (λ ss. times s (shards_in ss) ≤ 1) (sym r.1) (single r.0)
  where
    single : (r : ShardRun) → times s (r.shard ∷ []) ≤ 1
    single r = let top = one_if_le (r.shard == s) in omega (arith, top)

module _ (p : Pool) (w : Work) (pass : PassModel) (c : IsCarried p w pass) (one : length w.runs ≡ 1) where
  charge-begun : IsPassOf p w.search w.runs w.refused (hold_of pass.view Request) pass
  charge-begun = subst (λ n. IsPassOf p w.search w.runs w.refused n pass) (sym c.charge.request) c.charge

  begun-kept : IsGathered p (record (taken_of w) { parts = [] ++ option_to_list w.part }) pass
  begun-kept = record {
    runs = c.runs;
    apart = times-one w.runs one;
    charge = charge-begun;
    held = λ going. c.charge.request;
    parts = λ going. ap option_to_list (c.whole going) ∙ one-part-of p w.search w.runs one;
    fits = c.fits;
    granted = λ going none x. c.granted going none x ∙ ap counter_value (one-charge-of p w.search w.runs one x);
  }

  -- without memory for the part
  stops : (a b : Bool) → ((a || true) || b) ≡ false → ⊥
  stops true b e = let no : ⊥ = cc in no
  stops false b e = let no : ⊥ = cc in no

  begun-short : IsGathered p (record (taken_of w) { memory = true }) pass
  begun-short = record {
    runs = c.runs;
    apart = times-one w.runs one;
    charge = charge-begun;
    held = λ going. absurd (stops (is_some w.refused) w.skipped going);
    parts = λ going. absurd (stops (is_some w.refused) w.skipped going);
    fits = λ going. absurd (stops (is_some w.refused) w.skipped going);
    granted = λ going none x. absurd (stops (is_some w.refused) w.skipped going);
  }

  pub begun : (t : Taken) → IsKept w.part (taken_of w) t → IsGathered p t pass
  begun t k = ⊎_elim (λ (e : t ≡ record (taken_of w) { parts = [] ++ option_to_list w.part }). subst (λ u. IsGathered p u pass) (sym e) begun-kept)
      (λ (e : t ≡ record (taken_of w) { memory = true }). subst (λ u. IsGathered p u pass) (sym e) begun-short) k

-- where nothing stopped both, nothing stopped either
both-going : (o u : Option Tripped) (m n k l : Bool) → ((is_some (first_of o u) || (m || n)) || (k || l)) ≡ false → (((is_some o || m) || k) ≡ false) × (((is_some u || n) || l) ≡ false)
both-going (Some t) u m n k l e = absurd (let no : ⊥ = cc in no)
both-going None (Some u) m n k l e = absurd (let no : ⊥ = cc in no)
both-going None None true n k l e = absurd (let no : ⊥ = cc in no)
both-going None None false true k l e = absurd (let no : ⊥ = cc in no)
both-going None None false false true l e = absurd (let no : ⊥ = cc in no)
both-going None None false false false true e = absurd (let no : ⊥ = cc in no)
both-going None None false false false false e = (refl, refl)

module _ (p : Pool) (t : Taken) (a : PassModel) (g : IsGathered p t a) (w : Work) (b : PassModel) (c : IsCarried p w b) (one : length w.runs ≡ 1) (same : w.search ≡ t.search)
    (new : (s : ℕ) → times s (shards_in t.runs) + times s (shards_in w.runs) ≤ 1) where
  abbrev now : PassModel
  now = with_view a (after_join a.view b.view)

  more-runs : AreRuns p t.search w.runs
  more-runs = subst (λ q. AreRuns p q w.runs) same c.runs

  all-runs : AreRuns p t.search (t.runs ++ w.runs)
  all-runs = record {
    search = g.runs.search;
    shards = subst (AllByRecursion (λ s. s < shard_count p)) (sym (shards-append t.runs w.runs)) (all-append (λ s. s < shard_count p) (shards_in t.runs) (shards_in w.runs) g.runs.shards more-runs.shards);
    allowed = λ no. failures-append t.runs w.runs ∙ (λ i. g.runs.allowed no i ++ more-runs.allowed no i);
  }

  all-apart : (s : ℕ) → times s (shards_in (t.runs ++ w.runs)) ≤ 1
  all-apart s = let e = ap (times s) (shards-append t.runs w.runs) ∙ sum_by-append _ (shards_in t.runs) (shards_in w.runs) in let h = new s in omega (arith, e, h)

  joined : IsPassOf p t.search (t.runs ++ w.runs) (first_of t.refused w.refused) (hold_of a.view Request + sum_by cost (option_to_list w.part)) now
  joined = joined-passes p t.search t.runs w.runs t.refused w.refused (hold_of a.view Request) (sum_by cost (option_to_list w.part)) a b g.charge (subst (λ q. IsPassOf p q w.runs w.refused (sum_by cost (option_to_list w.part)) b) same c.charge)

  charge : IsPassOf p t.search (t.runs ++ w.runs) (first_of t.refused w.refused) (hold_of now.view Request) now
  charge = subst (λ n. IsPassOf p t.search (t.runs ++ w.runs) (first_of t.refused w.refused) n now) (sym joined.request) joined

  -- nothing stopped what was taken and the new result
  module _ (going : is_stopped (with_work w t) ≡ false) where
    before : is_stopped t ≡ false
    before = (both-going t.refused w.refused t.memory w.memory t.skipped w.skipped going).0

    fresh : is_stopped_work w ≡ false
    fresh = (both-going t.refused w.refused t.memory w.memory t.skipped w.skipped going).1

    more-part : option_to_list w.part ≡ shard_answers p.index (search_at p t.search) (left_in w.runs)
    more-part = ap option_to_list (c.whole fresh) ∙ subst (λ q. option_to_list (whole_unless_none p.index (search_at p w.search) (left_in w.runs)) ≡ shard_answers p.index (search_at p q) (left_in w.runs)) same (one-part-of p w.search w.runs one)

    all-parts : t.parts ++ option_to_list w.part ≡ shard_answers p.index (search_at p t.search) (left_in (t.runs ++ w.runs))
    all-parts = (λ i. g.parts before i ++ more-part i)
        ∙ sym (ap (shard_answers p.index (search_at p t.search)) (left-append t.runs w.runs) ∙ map-append (λ shard. shard_answer (search_at p t.search) (rows_in p.index shard)) (left_in t.runs) (left_in w.runs))

    all-fit : AllByRecursion (PeakFits p t.search) (left_in (t.runs ++ w.runs))
    all-fit = subst (AllByRecursion (PeakFits p t.search)) (sym (left-append t.runs w.runs))
        (all-append (PeakFits p t.search) (left_in t.runs) (left_in w.runs) (g.fits before) (subst (λ q. AllByRecursion (PeakFits p q) (left_in w.runs)) same (c.fits fresh)))

    all-granted : failures_in (t.runs ++ w.runs) ≡ [] → (x : Which) → granted_of now.view x ≡ counter_value (at_both (sum_by (gross_at p t.search) (shards_in (t.runs ++ w.runs))) x)
    all-granted none x =
        let split = sym (failures-append t.runs w.runs) ∙ none in
        let first = g.granted before (front-empty (failures_in t.runs) (failures_in w.runs) split) x in
        let second = c.granted fresh (back-empty (failures_in t.runs) (failures_in w.runs) split) x ∙ ap counter_value (one-charge-of p w.search w.runs one x) in
        let there = subst (λ q. granted_of b.view x ≡ counter_value (at_both (sum_by (gross_at p q) (shards_in w.runs)) x)) same second in
        let e = granted-both a.view b.view g.charge.some c.charge.some x in
        let s = ap (sum_by (gross_at p t.search)) (shards-append t.runs w.runs) ∙ sum_by-append (gross_at p t.search) (shards_in t.runs) (shards_in w.runs) in
        let sums = ap (λ k. at_both k x) s ∙ at-sum (sum_by (gross_at p t.search) (shards_in t.runs)) (sum_by (gross_at p t.search) (shards_in w.runs)) x in
        omega (arith, first, there, e, sums)

  added-kept : IsGathered p (record (with_work w t) { parts = t.parts ++ option_to_list w.part }) now
  added-kept = record {
    runs = all-runs;
    apart = all-apart;
    charge = charge;
    held = λ going. (let h = g.held (before going) in let s = sum_by-append cost t.parts (option_to_list w.part) in let k = joined.request in omega (arith, h, s, k));
    parts = all-parts;
    fits = all-fit;
    granted = all-granted;
  }

  added-short : IsGathered p (record (with_work w t) { memory = true }) now
  added-short = record {
    runs = all-runs;
    apart = all-apart;
    charge = charge;
    held = λ going. absurd (want (is_some (first_of t.refused w.refused)) (t.skipped || w.skipped) going);
    parts = λ going. absurd (want (is_some (first_of t.refused w.refused)) (t.skipped || w.skipped) going);
    fits = λ going. absurd (want (is_some (first_of t.refused w.refused)) (t.skipped || w.skipped) going);
    granted = λ going none x. absurd (want (is_some (first_of t.refused w.refused)) (t.skipped || w.skipped) going);
  }
    where
      want : (x y : Bool) → ((x || true) || y) ≡ false → ⊥
      want true y e = let no : ⊥ = cc in no
      want false y e = let no : ⊥ = cc in no

  pub added : (u : Taken) → IsAdded w t u → IsGathered p u now
  added u k = ⊎_elim (λ (e : u ≡ record (with_work w t) { parts = t.parts ++ option_to_list w.part }). subst (λ v. IsGathered p v now) (sym e) added-kept)
      (λ (e : u ≡ record (with_work w t) { memory = true }). subst (λ v. IsGathered p v now) (sym e) added-short) k
