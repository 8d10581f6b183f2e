-- What the run of the searches makes of the caller's pass.
use Rattle.std.specs.Prelude.{◌≡◌, ◌≢◌, refl, ◌≤◌, ◌<◌, ℕ, ◌+◌, ◌-◌, ◌*◌, ◌++◌, ◌||◌, ◌&&◌, not, max, Bool, true, false, List, [], ◌∷◌, map, length, if◌then◌else◌, sum, sum_by, slice_index_or, option_to_list, is_some, Option, Some, None}
use Rattle.std.specs.List.{AllByRecursion, range_with_len}
use Rattle.std.proofs.Common.{sym, ap, subst, ◌∙◌, arith}
use Rattle.std.proofs.lemmas.Bool.{le-ltb, lt-ltb}
use Rattle.std.proofs.lemmas.List.FromFn.{length-map-range_with_len}
use Rattle.std.proofs.lemmas.List.Sorted.{sum_by-IsPermutation}
use Rattle.std.proofs.lemmas.List.Sums.{sum_by-append, sum_by-cons}
use mathlib.Core.Logic.{dite}
use native.Mathlib.Decide.{dec_lt}
use Rattle.list_laws.proofs.Lists.{sum_by-flat_map, sum_by-map}
use Rattle.list_laws.proofs.Sums.{sum_by-times}
use Rattle.agg_evaluation.specs.Ceiling.{greatest_of}
use Rattle.agg_evaluation.specs.Cost.{cost}
use Rattle.agg_model.specs.declared.breaker.Tripped.{Tripped}
use Rattle.agg_model.specs.declared.breaker.Which.{Which}
use Rattle.agg_model.specs.declared.breaker.Which.TheVariants.{Request, Fielddata, Inflight, Parent}
use Rattle.agg_model.specs.declared.outcome.Failure.{Failure}
use Rattle.agg_spec.specs.Charges.{amount_at as named_at, one_at, or_else}
use Rattle.agg_spec.specs.Rises.{merge_charge}
use Rattle.batch_reduce.specs.Reduced.{at_both}
use Rattle.breaker_words.specs.Accounts.{account, empty_account}
use Rattle.breaker_words.specs.Breakers.{counter_value}
use Rattle.breaker_words.specs.Passes.{PassModel}
use Rattle.breaker_words.specs.Views.{granted_of, hold_of, most_of, trips_of}
use Rattle.breaker_words.specs.declared.view.View.{View}
use Rattle.shard_pool.specs.Closed.{works_of}
use Rattle.shard_pool.proofs.Works.{works-by-search, works-sum}
use Rattle.pool_results.specs.Carried.{IsCarried, is_stopped as is_stopped_work}
use Rattle.pool_results.specs.Pools.{Pool, cost_at, gross_at, peak_at, shard_count}
use Rattle.pool_results.specs.Runs.{failures_in, shards_in, times_at, told_by}
use Rattle.pool_results.specs.declared.work.Work.{Work}
use Rattle.shard_pool.specs.Ends.{HasGranted, HasRun, HasTripped, all_quiet, all_told, cost_of_ends, is_empty, is_quiet, is_stopped, least_for_batches, least_granted, over_tasks, task_costs, told_in}
use Rattle.shard_pool.specs.Gathered.{IsGathered, bytes_of, first_refusal, is_stopped as is_stopped_gathered, lost, no_results, parts_in}
use Rattle.shard_pool.specs.Results.{Result, views_in, works_in}
use Rattle.shard_pool.specs.Settled.{IsEndOf}
use Rattle.shard_pool.specs.declared.gathered.Gathered.{Gathered}
use Rattle.shard_pool.specs.declared.search_end.SearchEnd.{SearchEnd}
use Rattle.shard_pool.proofs.Ending.{IsResultOf, all-going, both-all, no-failure, none-left-out}
use Rattle.shard_pool.proofs.Known.{IsClosed, end, gathered, known, whole-cap}
use Rattle.shard_pool.proofs.Searches.{all-at, all-searches, ends-length, ends-most, ends-sum, of-search, sum-counted, sum-is, sum-most, sum-range-most, sum-search, sum-two, sum-where}
use Rattle.shard_pool.proofs.Taking.{bytes-held}

-- a refusal that names the breaker
abbrev named : Which → Tripped → ℕ
named x t = named_at x (one_at t.which)

refusal-times : (x : Which) (ws : List Work) → times_at x (option_to_list (first_refusal ws)) ≤ sum_by (λ (w : Work). times_at x (option_to_list w.refused)) ws
refusal-times x [] = omega arith
refusal-times x (w ∷ ws) = by_one (refusal-times x ws) w.refused refl
  where
    by_one : times_at x (option_to_list (first_refusal ws)) ≤ sum_by (λ (v : Work). times_at x (option_to_list v.refused)) ws → (o : Option Tripped) → w.refused ≡ o
        → times_at x (option_to_list (or_else w.refused (first_refusal ws))) ≤ sum_by (λ (v : Work). times_at x (option_to_list v.refused)) (w ∷ ws)
    by_one rest None e =
        let a = sum_by-cons (λ (v : Work). times_at x (option_to_list v.refused)) w ws in let b = ap (λ o. times_at x (option_to_list (or_else o (first_refusal ws)))) e in omega (arith, rest, a, b)
    by_one rest (Some t) e =
        let a = sum_by-cons (λ (v : Work). times_at x (option_to_list v.refused)) w ws in let b = ap (λ o. times_at x (option_to_list (or_else o (first_refusal ws)))) e in let k = ap (λ o. times_at x (option_to_list o)) e in omega (arith, rest, a, b, k)

-- what a result tells of, in two sums
told-times : (x : Which) (o : Option Tripped) (fs : List Failure) → times_at x (option_to_list o ++ map (λ (f : Failure). f.tripped) fs) ≡ times_at x (option_to_list o) + sum_by (λ (f : Failure). named x f.tripped) fs
told-times x o fs = let a = sum_by-append (named x) (option_to_list o) (map (λ (f : Failure). f.tripped) fs) in let b = sum_by-map (named x) (λ (f : Failure). f.tripped) fs in omega (arith, a, b)

abbrev told_times : Which → Work → ℕ
told_times x w = times_at x (told_by w.refused w.runs)

-- an end tells of no more than its results
end-told : (x : Which) (ws : List Work) (g : Gathered) (e : SearchEnd) → IsGathered ws g → IsEndOf g e → times_at x (told_in e) ≤ sum_by (told_times x) ws
end-told x ws g e is end =
    let h : Failure → ℕ = λ f. named x f.tripped in
    let a = told-times x e.refused e.failures in
    let b = ap (λ o. times_at x (option_to_list o)) (end.refused ∙ is.refused) in
    let c = refusal-times x ws in
    let d = sum_by-IsPermutation h g.failures e.failures end.failures in
    let k = sum_by-append h g.failures is.front.0 in let l = ap (sum_by h) is.front.1 in
    let m = sum_by-flat_map h (λ (w : Work). failures_in w.runs) ws in
    let n = in-two ws in
    omega (arith, a, b, c, d, k, l, m, n)
  where
    in-two : (vs : List Work) → sum_by (told_times x) vs ≡ sum_by (λ (w : Work). times_at x (option_to_list w.refused)) vs + sum_by (λ (w : Work). sum_by (λ (f : Failure). named x f.tripped) (failures_in w.runs)) vs
    in-two [] = refl
    in-two (v ∷ vs) =
        let a = sum_by-cons (told_times x) v vs in let b = sum_by-cons (λ (w : Work). times_at x (option_to_list w.refused)) v vs in
        let c = sum_by-cons (λ (w : Work). sum_by (λ (f : Failure). named x f.tripped) (failures_in w.runs)) v vs in let d = told-times x v.refused (failures_in v.runs) in let rest = in-two vs in omega (arith, a, b, c, d, rest)

-- what the parts of an end cost, and what is given back for it
parts-cost : (ws : List Work) → sum_by cost (parts_in ws) ≡ sum_by bytes_of ws
parts-cost ws = sum_by-flat_map cost (λ (w : Work). option_to_list w.part) ws

end-cost : (ws : List Work) (g : Gathered) (e : SearchEnd) → IsGathered ws g → IsEndOf g e → sum_by cost e.parts + lost g ≡ sum_by bytes_of ws
end-cost ws g e is end = by_stop (is_stopped_gathered g) refl
  where
    by_stop : (b : Bool) → is_stopped_gathered g ≡ b → sum_by cost e.parts + lost g ≡ sum_by bytes_of ws
    by_stop true s =
        let a = ap (sum_by cost) (end.stopped s) in let b : lost g ≡ g.held = ap (λ z. if z then g.held else 0) s in let k = is.held in omega (arith, a, b, k)
    by_stop false s =
        let n = no-failure g.refused g.memory s in
        let a = ap (sum_by cost) (end.parts s ∙ is.parts n.1) in let b : lost g ≡ 0 = ap (λ z. if z then g.held else 0) s in let k = parts-cost ws in omega (arith, a, b, k)

-- a result of a search where all is quiet
pub record IsQuietWork (w : Work) : Type 0 where
  pub going : is_stopped_work w ≡ false
  pub none : failures_in w.runs ≡ []

none-told : (o : Option Tripped) (m k : Bool) → ((is_some o || m) || k) ≡ false → o ≡ None
none-told None m k e = refl
none-told (Some t) m k e = absurd (let no : ⊥ = cc in no)

abbrev gross_in : Pool → Work → ℕ
gross_in p w = sum_by (gross_at p w.search) (shards_in w.runs)

abbrev merged_in : Pool → Work → ℕ
merged_in p w = merge_charge (map (cost_at p w.search) (shards_in w.runs))

at-request : (n : ℕ) → at_both n Request ≡ n
at-request n = omega arith

at-parent : (n : ℕ) → at_both n Parent ≡ n
at-parent n = omega arith

-- where merges leave one result alone
least-low : (size : ℕ) (costs : List ℕ) (charge : ℕ) → sum costs ≤ charge + greatest_of costs → (length costs ≤ size → charge ≡ merge_charge costs) → least_for_batches size costs ≤ charge
least-low size costs charge most alone = dite (dec_lt size (length costs))
    (λ h. subst (λ b. (if b then sum costs - greatest_of costs else merge_charge costs) ≤ charge) (sym (lt-ltb size (length costs) h)) (omega (arith, most)))
    (λ h. subst (λ b. (if b then sum costs - greatest_of costs else merge_charge costs) ≤ charge) (sym (le-ltb size (length costs) (omega (arith, h)))) (let a = alone (omega (arith, h)) in omega (arith, a)))

least-few : (size : ℕ) (costs : List ℕ) → length costs ≤ size → least_for_batches size costs ≡ merge_charge costs
least-few size costs h = ap (λ b. if b then sum costs - greatest_of costs else merge_charge costs) (le-ltb size (length costs) h)

range-same : (f g : ℕ → ℕ) (n : ℕ) → ((k : ℕ) → k < n → f k ≡ g k) → sum_by f (range_with_len 0 n) ≡ sum_by g (range_with_len 0 n)
range-same f g n h =
    let a = sum-range-most f g 0 n (λ k low high. let e = h k (omega (arith, high)) in omega (arith, e)) in
    let b = sum-range-most g f 0 n (λ k low high. let e = h k (omega (arith, high)) in omega (arith, e)) in omega (arith, a, b)

module _ (p : Pool) (size : ℕ) (old : View) (rs : List Result) (joined : PassModel) (gs : List Gathered) (new : PassModel) (es : List SearchEnd) (c : IsClosed p size old rs joined gs new es) where
  abbrev ws : List Work
  ws = works_in rs

  abbrev n : ℕ
  n = length p.searches

  -- sums over the searches
  same-number : length gs ≡ n
  same-number = c.taken.gathered.number

  over-searches : (G : ℕ → ℕ) → sum_by G (range_with_len 0 (length gs)) ≡ sum_by G (range_with_len 0 n)
  over-searches G = ap (λ k. sum_by G (range_with_len 0 k)) same-number

  each-gathered : (j : ℕ) → j < length gs → IsGathered (works_of (0 + j) ws) (slice_index_or gs j no_results)
  each-gathered j low = subst (λ k. IsGathered (works_of k ws) (slice_index_or gs j no_results)) (let e : j ≡ 0 + j = omega arith in e) (c.taken.gathered.each j (let e = same-number in omega (arith, low, e)))

  costs-of-ends : cost_of_ends es + sum_by lost gs ≡ sum_by bytes_of ws
  costs-of-ends =
      ends-sum (λ q. works_of q ws) (λ (e : SearchEnd). sum_by cost e.parts) lost (λ q. sum_by bytes_of (works_of q ws)) (λ q g e. end-cost (works_of q ws) g e) 0 gs es c.ends each-gathered
      ∙ over-searches (λ q. sum_by bytes_of (works_of q ws)) ∙ sym (works-by-search p ws c.all.tasks bytes_of)

  told-of-ends : (x : Which) → times_at x (all_told es) ≤ sum_by (told_times x) ws
  told-of-ends x =
      let a = sum_by-flat_map (named x) told_in es in
      let b = ends-most (λ q. works_of q ws) (λ (e : SearchEnd). times_at x (told_in e)) lost (λ q. sum_by (told_times x) (works_of q ws)) (λ q g e. end-told x (works_of q ws) g e) 0 gs es c.ends each-gathered in
      let d = over-searches (λ q. sum_by (told_times x) (works_of q ws)) in let e = works-by-search p ws c.all.tasks (told_times x) in
      omega (arith, a, b, d, e)

  -- where all is quiet
  quiet-works : all_quiet es ≡ true → AllByRecursion IsQuietWork ws
  quiet-works quiet = all-searches IsQuietWork n ws c.all.tasks.searches by_search
    where
      quiet-parts : (e : SearchEnd) → is_quiet e ≡ true → (is_stopped e ≡ false) × (e.failures ≡ [])
      quiet-parts e h = by_parts (is_stopped e) e.failures refl refl h
        where
          by_parts : (b : Bool) (fs : List Failure) → is_stopped e ≡ b → e.failures ≡ fs → (not b && is_empty fs) ≡ true → (is_stopped e ≡ false) × (e.failures ≡ [])
          by_parts false [] s f h = (s, f)
          by_parts false (x ∷ fs) s f h = absurd (let no : ⊥ = cc in no)
          by_parts true fs s f h = absurd (let no : ⊥ = cc in no)

      by_search : (q : ℕ) → q < n → AllByRecursion IsQuietWork (works_of q ws)
      by_search q low =
          let d : SearchEnd = record { parts = []; refused = None; memory = false; failures = [] } in
          let at = all-at is_quiet es quiet q d (let e = ends-length gs es c.ends in let f = same-number in omega (arith, low, e, f)) in
          let both = quiet-parts (slice_index_or es q d) at in
          let of-q = of-search (λ k w. IsResultOf p k new.view w) q ws (known p size old rs joined gs new es c) in
          let g = gathered p size old rs joined gs new es c q low d in let end = end p size old rs joined gs new es c q low d in
          both-all (λ w. is_stopped_work w ≡ false) (λ (w : Work). failures_in w.runs ≡ []) IsQuietWork (λ w a b. record { going = a; none = b }) (works_of q ws)
          (all-going p q size new.view (works_of q ws) of-q (c.all.some q) (c.all.count q low) (c.all.skipped q) (slice_index_or gs q no_results) g (slice_index_or es q d) end both.0)
          (none-left-out p q size new.view (works_of q ws) of-q (c.all.some q) (c.all.count q low) (c.all.skipped q) (slice_index_or gs q no_results) g (slice_index_or es q d) end both.0 both.1)

  -- holds
  other-holds : (x : Which) → ((w : Work) (a : PassModel) → IsCarried p w a → account a.view.accounts x ≡ empty_account) → (f : View → ℕ) → ((v : View) → account v.accounts x ≡ empty_account → f v ≡ 0) → sum_by f (views_in rs) ≡ 0
  other-holds x empty f zero =
      let a = sum-is p f (λ w. 0 * bytes_of w) (λ w b h. let e = zero b.view (empty w b h) in omega (arith, e)) rs c.taken.carried in
      let b = sum_by-times 0 bytes_of ws in omega (arith, a, b)

  fielddata-empty : (w : Work) (a : PassModel) → IsCarried p w a → account a.view.accounts Fielddata ≡ empty_account
  fielddata-empty w a h = h.charge.others Fielddata (λ z. cc) (λ z. cc)

  inflight-empty : (w : Work) (a : PassModel) → IsCarried p w a → account a.view.accounts Inflight ≡ empty_account
  inflight-empty w a h = h.charge.others Inflight (λ z. cc) (λ z. cc)

  holds : (x : Which) → hold_of new.view x ≡ hold_of old x + at_both (cost_of_ends es) x
  holds Request =
      let a = c.given.holds Request in let b = c.taken.joined.holds Request in let d = bytes-held p rs c.taken.carried in let e = costs-of-ends in let k = at-request (cost_of_ends es) in omega (arith, a, b, d, e, k)
  holds Parent =
      let a = c.given.holds Parent in let b = c.taken.joined.holds Parent in
      let d = sum-is p (λ v. hold_of v Parent) bytes_of (λ w b h. h.charge.parent) rs c.taken.carried in let e = costs-of-ends in let k = at-parent (cost_of_ends es) in omega (arith, a, b, d, e, k)
  holds Fielddata =
      let a = c.given.holds Fielddata in let b = c.taken.joined.holds Fielddata in
      let d = other-holds Fielddata fielddata-empty (λ v. hold_of v Fielddata) (λ v e. ap (λ k. k.hold) e) in omega (arith, a, b, d)
  holds Inflight =
      let a = c.given.holds Inflight in let b = c.taken.joined.holds Inflight in
      let d = other-holds Inflight inflight-empty (λ v. hold_of v Inflight) (λ v e. ap (λ k. k.hold) e) in omega (arith, a, b, d)

  -- the most that stood
  abbrev peaks_in : Work → ℕ
  peaks_in w = sum_by (peak_at p w.search) (shards_in w.runs)

  peaks-are : sum_by (λ w. 2 * peaks_in w) ws ≡ 2 * over_tasks p (peak_at p)
  peaks-are = let a = sum_by-times 2 peaks_in ws in let b = works-sum p ws c.all.tasks (peak_at p) in omega (arith, a, b)

  most : (x : Which) → most_of new.view x ≤ most_of old x + at_both (2 * over_tasks p (peak_at p)) x
  most Request =
      let a = c.given.most Request in let b = c.taken.joined.most Request in
      let d = sum-most p (λ v. most_of v Request) (λ w. 2 * peaks_in w) (λ w b h. let k = h.charge.most Request in let l = at-request (2 * peaks_in w) in omega (arith, k, l)) rs c.taken.carried in
      let e = peaks-are in let k = at-request (2 * over_tasks p (peak_at p)) in omega (arith, a, b, d, e, k)
  most Parent =
      let a = c.given.most Parent in let b = c.taken.joined.most Parent in
      let d = sum-most p (λ v. most_of v Parent) (λ w. 2 * peaks_in w) (λ w b h. let k = h.charge.most Parent in let l = at-parent (2 * peaks_in w) in omega (arith, k, l)) rs c.taken.carried in
      let e = peaks-are in let k = at-parent (2 * over_tasks p (peak_at p)) in omega (arith, a, b, d, e, k)
  most Fielddata =
      let a = c.given.most Fielddata in let b = c.taken.joined.most Fielddata in
      let d = other-holds Fielddata fielddata-empty (λ v. most_of v Fielddata) (λ v e. ap (λ k. k.most) e) in omega (arith, a, b, d)
  most Inflight =
      let a = c.given.most Inflight in let b = c.taken.joined.most Inflight in
      let d = other-holds Inflight inflight-empty (λ v. most_of v Inflight) (λ v e. ap (λ k. k.most) e) in omega (arith, a, b, d)

  -- trips
  abbrev trips : Which → ℕ
  trips x = sum_by (λ v. trips_of v x) (views_in rs)

  trips-told : (x : Which) → counter_value (sum_by (told_times x) ws) ≤ trips x
  trips-told x = sum-counted p (λ v. trips_of v x) (told_times x) (λ w a h. h.charge.trips x) rs c.taken.carried

  trips-none : all_quiet es ≡ true → (x : Which) → trips x ≡ 0
  trips-none quiet x = by_results rs c.taken.carried (quiet-works quiet)
    where
      by_results : (qs : List Result) → AllByRecursion (λ (r : Result). IsCarried p r.work r.pass) qs → AllByRecursion IsQuietWork (works_in qs) → sum_by (λ v. trips_of v x) (views_in qs) ≡ 0
      by_results [] h k = refl
      by_results (r ∷ qs) h k =
          let a = sum_by-cons (λ v. trips_of v x) r.pass.view (views_in qs) in let rest = by_results qs h.1 k.1 in
          let nothing : told_by r.work.refused r.work.runs ≡ [] = λ i. option_to_list (none-told r.work.refused r.work.memory r.work.skipped k.0.going i) ++ map (λ (f : Failure). f.tripped) (k.0.none i) in
          let here = h.0.charge.no_trips nothing x in omega (arith, a, rest, here)

  told-none-quiet : all_quiet es ≡ true → (x : Which) → sum_by (told_times x) ws ≡ 0
  told-none-quiet quiet x = by_works ws (quiet-works quiet)
    where
      by_works : (vs : List Work) → AllByRecursion IsQuietWork vs → sum_by (told_times x) vs ≡ 0
      by_works [] k = refl
      by_works (v ∷ vs) k =
          let a = sum_by-cons (told_times x) v vs in let rest = by_works vs k.1 in
          let nothing : told_by v.refused v.runs ≡ [] = λ i. option_to_list (none-told v.refused v.memory v.skipped k.0.going i) ++ map (λ (f : Failure). f.tripped) (k.0.none i) in
          let here : told_times x v ≡ 0 = ap (times_at x) nothing in omega (arith, a, rest, here)

  tripped : (x : Which) → HasTripped es x (trips_of old x) (trips_of new.view x)
  tripped x = record {
    more = max (trips x) (times_at x (all_told es));
    told = omega arith;
    none = λ quiet. (let a = trips-none quiet x in let b = told-of-ends x in let d = told-none-quiet quiet x in omega (arith, a, b, d));
    is = (let a = c.given.trips x in let b = c.taken.joined.trips x in let d = c.after.trips x in let e = trips-told x in let f = told-of-ends x in omega (arith, a, b, d, e, f));
  }

  other-tripped : (x : Which) → x ≢ Request → x ≢ Parent → trips_of new.view x ≡ trips_of old x
  other-tripped Request f h = absurd (f refl)
  other-tripped Parent f h = absurd (h refl)
  other-tripped Fielddata f h =
      let s = other-holds Fielddata fielddata-empty (λ v. trips_of v Fielddata) (λ v e. ap (λ k. k.trips) e) in
      let a = c.given.trips Fielddata in let b = c.taken.joined.trips Fielddata in let d = c.after.trips Fielddata in let e = c.before.trips Fielddata in omega (arith, s, a, b, d, e)
  other-tripped Inflight f h =
      let s = other-holds Inflight inflight-empty (λ v. trips_of v Inflight) (λ v e. ap (λ k. k.trips) e) in
      let a = c.given.trips Inflight in let b = c.taken.joined.trips Inflight in let d = c.after.trips Inflight in let e = c.before.trips Inflight in omega (arith, s, a, b, d, e)

  other-granted : (x : Which) → x ≢ Request → x ≢ Parent → granted_of new.view x ≡ granted_of old x
  other-granted Request f h = absurd (f refl)
  other-granted Parent f h = absurd (h refl)
  other-granted Fielddata f h =
      let s = other-holds Fielddata fielddata-empty (λ v. granted_of v Fielddata) (λ v e. ap (λ k. k.granted) e) in
      let a = c.given.granted Fielddata in let b = c.taken.joined.granted Fielddata in let d = c.after.granted Fielddata in let e = c.before.granted Fielddata in omega (arith, s, a, b, d, e)
  other-granted Inflight f h =
      let s = other-holds Inflight inflight-empty (λ v. granted_of v Inflight) (λ v e. ap (λ k. k.granted) e) in
      let a = c.given.granted Inflight in let b = c.taken.joined.granted Inflight in let d = c.after.granted Inflight in let e = c.before.granted Inflight in omega (arith, s, a, b, d, e)

  -- what was granted
  abbrev charged_in : Work → ℕ
  charged_in w = gross_in p w + merged_in p w

  abbrev merges : ℕ → ℕ
  merges q = sum_by (λ (w : Work). merge_charge (map (cost_at p q) (shards_in w.runs))) (works_of q ws)

  charged-is : sum_by charged_in ws ≡ over_tasks p (gross_at p) + sum_by merges (range_with_len 0 n)
  charged-is =
      let a = sum-two (gross_in p) (merged_in p) ws in let b = works-sum p ws c.all.tasks (gross_at p) in
      let d = works-by-search p ws c.all.tasks (merged_in p) in
      let e = range-same (λ q. sum_by (merged_in p) (works_of q ws)) merges n (λ q low. sum-search (λ k w. merge_charge (map (cost_at p k) (shards_in w.runs))) q ws) in
      omega (arith, a, b, d, e)

  few-costs : (q : ℕ) → length (task_costs p q) ≡ shard_count p
  few-costs q = length-map-range_with_len (cost_at p q) 0 (shard_count p)

  least : least_granted p size ≤ sum_by charged_in ws
  least =
      let a = charged-is in
      let b = sum-range-most (λ q. least_for_batches size (task_costs p q)) merges 0 n (λ q low high. least-low size (task_costs p q) (merges q) (c.all.charge q (omega (arith, high))) (λ few. c.all.alone q (omega (arith, high)) (let k = few-costs q in omega (arith, few, k)))) in
      omega (arith, a, b)

  exactly : shard_count p ≤ size → sum_by charged_in ws ≡ least_granted p size
  exactly few =
      let a = charged-is in
      let b = range-same merges (λ q. least_for_batches size (task_costs p q)) n (λ q low. c.all.alone q low few ∙ sym (least-few size (task_costs p q) (let k = few-costs q in omega (arith, few, k)))) in
      omega (arith, a, b)

  granted : all_quiet es ≡ true → HasGranted p size old new.view
  granted quiet = record { more = sum_by charged_in ws; least = least; exactly = exactly; is = by_which }
    where
      each : (x : Which) → ((m : ℕ) → at_both m x ≡ m) → counter_value (sum_by (λ v. granted_of v x) (views_in rs)) ≡ counter_value (sum_by charged_in ws)
      each x at = sum-where p (λ v. granted_of v x) charged_in IsQuietWork (λ w a h k. h.granted k.going k.none x ∙ ap counter_value (at (charged_in w))) rs c.taken.carried (quiet-works quiet)

      by_which : (x : Which) → granted_of new.view x ≡ counter_value (granted_of old x + at_both (sum_by charged_in ws) x)
      by_which Request =
          let e = each Request at-request in let a = c.given.granted Request in let b = c.taken.joined.granted Request in let d = c.after.granted Request in let k = at-request (sum_by charged_in ws) in omega (arith, e, a, b, d, k)
      by_which Parent =
          let e = each Parent at-parent in let a = c.given.granted Parent in let b = c.taken.joined.granted Parent in let d = c.after.granted Parent in let k = at-parent (sum_by charged_in ws) in omega (arith, e, a, b, d, k)
      by_which Fielddata = let e = other-granted Fielddata (λ z. cc) (λ z. cc) in let d = c.before.granted Fielddata in omega (arith, e, d)
      by_which Inflight = let e = other-granted Inflight (λ z. cc) (λ z. cc) in let d = c.before.granted Inflight in omega (arith, e, d)

  risen : (x : Which) → granted_of old x ≤ granted_of new.view x
  risen x = let a = c.given.granted x in let b = c.taken.joined.granted x in let d = c.after.granted x in let e = c.before.granted x in omega (arith, a, b, d, e)

  pub has-run : (before : PassModel) → before.view ≡ old → HasRun p size before new es
  has-run before is = subst (λ (v : View). HasRun p size (record { table = before.table; view = v }) new es) (sym is) (record {
    of = c.of;
    rest = c.given.same.rest;
    total = c.given.same.total ∙ c.taken.joined.total;
    whole = whole-cap p size old rs joined gs new es c;
    holds = holds;
    most = most;
    trips = tripped;
    granted = granted;
    risen = risen;
    other_trips = other-tripped;
    other_granted = other-granted;
  })
