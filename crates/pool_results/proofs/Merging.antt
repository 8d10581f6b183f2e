-- What the merge of a batch makes of its pass.
use Rattle.std.specs.Prelude.{◌≡◌, ◌≢◌, refl, ◌⊎◌, ◌≤◌, ℕ, zero, suc, ◌+◌, ◌*◌, max, Bool, true, false, ◌||◌, List, [], ◌∷◌, ◌++◌, map, length, sum_by, is_some, Option, Some, None, IsTrue}
use Rattle.std.specs.List.{AllByRecursion}
use Rattle.std.proofs.Common.{sym, ◌∙◌, ap, subst, arith, inl, inr, ⊎_elim}
use Rattle.std.proofs.lemmas.List.{length-map}
use Rattle.std.proofs.lemmas.List.Sums.{sum-map, sum_by-cons}
use Rattle.agg_evaluation.specs.Cost.{cost}
use Rattle.agg_evaluation.specs.Shard.{shard_answer}
use Rattle.agg_evaluation.specs.Whole.{whole}
use Rattle.agg_model.specs.declared.aggregation.Search.{Search}
use Rattle.agg_model.specs.declared.breaker.Child.TheVariants as child
use Rattle.agg_model.specs.declared.breaker.Limits.{Limits}
use Rattle.agg_model.specs.declared.breaker.Tripped.{Tripped}
use Rattle.agg_model.specs.declared.breaker.Which.{Which}
use Rattle.agg_model.specs.declared.breaker.Which.TheVariants.{Request, Fielddata, Inflight, Parent}
use Rattle.agg_model.specs.declared.partial.Partial.{Partial}
use Rattle.agg_spec.specs.Charges.{amount_at as told_at, one_at}
use Rattle.agg_spec.specs.Index.{rows_in}
use Rattle.agg_spec.specs.Outcome.{shard_answers, whole_of, whole_unless_none}
use Rattle.agg_spec.specs.Rises.{merge_charge}
use Rattle.batch_reduce.specs.Ends.{IfDone, IfMemory, IfRefused, IsNotRefused, cost_of_end}
use Rattle.batch_reduce.specs.Parts.{AreParts, cost_of_parts}
use Rattle.batch_reduce.specs.Reduced.{IsMerged, IsRefused, at_both}
use Rattle.batch_reduce.specs.declared.reducing.ReduceEnd.{ReduceEnd}
use Rattle.batch_reduce.specs.declared.reducing.ReduceEnd.TheVariants.{Done, Refused, Memory}
use Rattle.breaker_tree.specs.Charge.{IsAtRestAgain, IsGivenBack}
use Rattle.breaker_words.specs.Accounts.{account, empty_account}
use Rattle.breaker_words.specs.Breakers.{counter_value}
use Rattle.breaker_words.specs.Passes.{IsOf, PassModel}
use Rattle.breaker_words.specs.Views.{granted_of, hold_of, most_of, seen_of, trips_of}
use Rattle.breaker_words.specs.declared.view.View.{View}
use Rattle.pool_results.specs.Carried.{IsCarried, is_stopped as is_stopped_work}
use Rattle.pool_results.specs.Passes.{IsPassOf, IsSeen, is_charged}
use Rattle.pool_results.specs.Pools.{IsPool, Pool, cost_at, gross_at, peak_at, search_at}
use Rattle.pool_results.specs.Runs.{failures_in, failure_by, left_by, left_in, shards_in, times_at, told_by}
use Rattle.pool_results.specs.declared.shard_run.ShardRun.{ShardRun}
use Rattle.pool_results.specs.declared.work.Work.{Work}
use Rattle.pool_results.specs.Gathered.{IsGathered, is_stopped, work_by}
use Rattle.pool_results.specs.declared.taken.Taken.{Taken}
use Rattle.pool_results.proofs.Among.{among-all, left-among, left-sum}
use Rattle.pool_results.proofs.Joining.{all-weaker}
use Rattle.pool_results.proofs.Parts.{answers-parts, below-ceilings, costs-are, costs-peaks}

-- what was seen is seen
seen-still : (l : Limits) (v u : View) → ((x : Which) → seen_of v x ≤ seen_of u x) → (t : Tripped) → IsSeen l v t → IsSeen l u t
seen-still l v u more t h = record { breaker = h.breaker; limit = h.limit; above = h.above; seen = let a = h.seen in let b = more t.which in omega (arith, a, b) }

-- where no shard is left out, all are left
all-left : (rs : List ShardRun) → failures_in rs ≡ [] → left_in rs ≡ shards_in rs
all-left [] e = refl
all-left (r ∷ rs) e = by_refusal (all-left rs) r.refused e
  where
    by_refusal : (failures_in rs ≡ [] → left_in rs ≡ shards_in rs) → (o : Option Tripped) → failure_by r.shard o ++ failures_in rs ≡ [] → left_by r.shard o ++ left_in rs ≡ r.shard ∷ shards_in rs
    by_refusal rest None e = ap (λ ns. r.shard ∷ ns) (rest e)
    by_refusal rest (Some t) e = absurd (let no : ⊥ = cc in no)

-- two or more are charged what they cost, and one nothing
charge-many : (f : ℕ → ℕ) (ns : List ℕ) → 2 ≤ length ns → merge_charge (map f ns) ≡ sum_by f ns
charge-many f [] h = absurd (omega (arith, h))
charge-many f (a ∷ []) h = absurd (omega (arith, h))
charge-many f (a ∷ b ∷ ns) h = sum-map f (a ∷ b ∷ ns)

charge-one : (f : ℕ → ℕ) (ns : List ℕ) → length ns ≤ 1 → merge_charge (map f ns) ≡ 0
charge-one f [] h = refl
charge-one f (a ∷ []) h = refl
charge-one f (a ∷ b ∷ ns) h = absurd (omega (arith, h))

-- an account that is empty again
empty-again : (v u : View) (x : Which) → account v.accounts x ≡ empty_account → hold_of u x ≡ hold_of v x → granted_of u x ≡ granted_of v x → trips_of u x ≡ trips_of v x → most_of u x ≡ most_of v x → seen_of u x ≡ seen_of v x
    → account u.accounts x ≡ empty_account
empty-again v u x e h g t m s = (λ i. record { hold = h i; granted = g i; trips = t i; most = m i; seen = s i }) ∙ e

module _ (p : Pool) (q : ℕ) (rs : List ShardRun) (o : Option Tripped) (m : ℕ) (a : PassModel) (g : IsPassOf p q rs o m a) (u : PassModel) (of : IsOf p.words u) where
  -- all was given back
  pub given-all : IsGivenBack a.view child.Request (hold_of a.view Request) u.view → IsPassOf p q rs o 0 u
  given-all back = record {
    of = of;
    rest = back.same.rest;
    some = (let s = g.some in let c = back.same.cap in omega (arith, s, c));
    cap = back.same.cap ∙ g.cap;
    request = (let h = back.holds Request in omega (arith, h));
    parent = (let h = back.holds Parent in let r = g.request in let k = g.parent in omega (arith, h, r, k));
    most = λ x. (let k = back.most x in let t = g.most x in omega (arith, k, t));
    told = all-weaker (IsSeen p.words.limits a.view) (IsSeen p.words.limits u.view) (seen-still p.words.limits a.view u.view (λ x. let e = back.seen x in omega (arith, e))) (told_by o rs) g.told;
    trips = λ x. (let e = back.trips x in let t = g.trips x in omega (arith, e, t));
    no_trips = λ none x. back.trips x ∙ g.no_trips none x;
    others = others-still;
  }
    where
      others-still : (x : Which) → x ≢ Request → x ≢ Parent → account u.view.accounts x ≡ empty_account
      others-still Request f h = absurd (f refl)
      others-still Parent f h = absurd (h refl)
      others-still Fielddata f h = empty-again a.view u.view Fielddata (g.others Fielddata f h) (let k = back.holds Fielddata in omega (arith, k)) (back.granted Fielddata) (back.trips Fielddata) (back.most Fielddata) (back.seen Fielddata)
      others-still Inflight f h = empty-again a.view u.view Inflight (g.others Inflight f h) (let k = back.holds Inflight in omega (arith, k)) (back.granted Inflight) (back.trips Inflight) (back.most Inflight) (back.seen Inflight)

-- The reduction of the parts of a batch: what is told of it whatever its end.
pub record WasReduced (v : View) (s n : ℕ) (u : View) : Type 0 where
  pub same : IsAtRestAgain v u
  pub holds : (x : Which) → hold_of u x + at_both s x ≡ hold_of v x + at_both n x
  pub most : (x : Which) → most_of u x ≤ max (most_of v x) (hold_of v x + s)
  pub seen : (x : Which) → seen_of v x ≤ seen_of u x
  pub untouched : (x : Which) → x ≢ Request → x ≢ Parent → account u.accounts x ≡ account v.accounts x

module _ (p : Pool) (good : IsPool p) (t : Taken) (a : PassModel) (g : IsGathered p t a) (going : is_stopped t ≡ false) where
  abbrev q : ℕ
  q = t.search

  abbrev left : List ℕ
  left = left_in t.runs

  abbrev s : ℕ
  s = cost_of_parts t.parts

  pub all-parts : AreParts (search_at p q) t.parts
  all-parts = subst (AreParts (search_at p q)) (sym (g.parts going)) (answers-parts p good q g.runs.search left (left-among p t.runs (among-all p (shards_in t.runs) g.runs.shards g.apart)))

  costs : s ≡ sum_by (cost_at p q) left
  costs = ap cost_of_parts (g.parts going) ∙ costs-are p good q g.runs.search left

  pub bytes-held : hold_of a.view Request ≡ s
  bytes-held = g.held going

  pub has-room : a.view.accounts.parent.hold + s ≤ a.view.cap
  has-room =
      let h : hold_of a.view Parent ≡ s = g.charge.parent ∙ g.held going in
      let c = g.charge.cap in
      let some = left-sum (cost_at p q) t.runs in
      let twice = below-ceilings p good q g.runs.search (shards_in t.runs) g.runs.shards in
      let e = costs in
      omega (arith, h, c, some, twice, e)

  twice-peaks : s + s ≤ 2 * sum_by (peak_at p q) (shards_in t.runs)
  twice-peaks = let some = left-sum (cost_at p q) t.runs in let top = costs-peaks p q (shards_in t.runs) in let e = costs in omega (arith, some, top, e)

  length-left : length t.parts ≡ length left
  length-left = ap length (g.parts going) ∙ length-map left (λ shard. shard_answer (search_at p q) (rows_in p.index shard))

  no-refusal : (o : Option Tripped) (m k : Bool) → ((is_some o || m) || k) ≡ false → o ≡ None
  no-refusal None m k e = refl
  no-refusal (Some r) m k e = absurd (let no : ⊥ = cc in no)

  none-refused : t.refused ≡ None
  none-refused = no-refusal t.refused t.memory t.skipped going

  charge-none : IsPassOf p q t.runs None (hold_of a.view Request) a
  charge-none = subst (λ o. IsPassOf p q t.runs o (hold_of a.view Request) a) none-refused g.charge

  module _ (u : PassModel) (of : IsOf p.words u) (n : ℕ) (r : WasReduced a.view s n u.view) where
    most-low : (x : Which) → most_of u.view x ≤ at_both (2 * sum_by (peak_at p q) (shards_in t.runs)) x
    most-low Request = let k = r.most Request in let low = charge-none.most Request in let h = bytes-held in let tw = twice-peaks in omega (arith, k, low, h, tw)
    most-low Parent = let k = r.most Parent in let low = charge-none.most Parent in let h : hold_of a.view Parent ≡ s = g.charge.parent ∙ g.held going in let tw = twice-peaks in omega (arith, k, low, h, tw)
    most-low Fielddata = let e = ap (λ c. c.most) (r.untouched Fielddata (λ z. cc) (λ z. cc)) in let low = charge-none.most Fielddata in omega (arith, e, low)
    most-low Inflight = let e = ap (λ c. c.most) (r.untouched Inflight (λ z. cc) (λ z. cc)) in let low = charge-none.most Inflight in omega (arith, e, low)

    told-before : AllByRecursion (IsSeen p.words.limits u.view) (told_by None t.runs)
    told-before = all-weaker (IsSeen p.words.limits a.view) (IsSeen p.words.limits u.view) (seen-still p.words.limits a.view u.view r.seen) (told_by None t.runs) charge-none.told

    reduced-pass : (o : Option Tripped) → AllByRecursion (IsSeen p.words.limits u.view) (told_by o t.runs) → ((x : Which) → counter_value (times_at x (told_by o t.runs)) ≤ trips_of u.view x)
        → (told_by o t.runs ≡ [] → (x : Which) → trips_of u.view x ≡ 0) → IsPassOf p q t.runs o n u
    reduced-pass o told trips no_trips = record {
      of = of;
      rest = r.same.rest;
      some = (let e = r.same.cap in let c = g.charge.some in omega (arith, e, c));
      cap = r.same.cap ∙ g.charge.cap;
      request = (let h = r.holds Request in let k = bytes-held in omega (arith, h, k));
      parent = (let h = r.holds Parent in let k : hold_of a.view Parent ≡ s = g.charge.parent ∙ g.held going in omega (arith, h, k));
      most = most-low;
      told = told;
      trips = trips;
      no_trips = no_trips;
      others = λ x f h. r.untouched x f h ∙ g.charge.others x f h;
    }

    -- no breaker refused
    pub quiet-pass : ((x : Which) → trips_of u.view x ≡ trips_of a.view x) → IsPassOf p q t.runs None n u
    quiet-pass same = reduced-pass None told-before (λ x. (let e = same x in let k = charge-none.trips x in omega (arith, e, k))) (λ none x. same x ∙ charge-none.no_trips none x)

    -- one did
    pub refused-pass : (e : Tripped) → IsRefused p.words.limits a.view s e u.view → IsPassOf p q t.runs (Some e) n u
    refused-pass e ref = reduced-pass (Some e) (seen-now, told-before) trips-now (λ none. absurd (let no : ⊥ = cc in no))
      where
        by_one : IsTrue (is_charged e.which)
        by_one = ⊎_elim (λ (h : e.which ≡ Request). subst (λ w. IsTrue (is_charged w)) (sym h) refl) (λ h. subst (λ w. IsTrue (is_charged w)) (sym h.0) refl) ref.tripped.refused_by

        seen-now : IsSeen p.words.limits u.view e
        seen-now = record {
          breaker = by_one;
          limit = ref.tripped.limit;
          above = ref.tripped.above;
          seen = let k = ref.tripped.seen_there in let same = ref.given_back.seen e.which in omega (arith, k, same);
        }

        one-more : (w x : Which) (v u : Which → ℕ) → u w ≡ counter_value (v w + 1) → ((y : Which) → y ≢ w → u y ≡ v y) → counter_value (v x + told_at x (one_at w)) ≤ counter_value (u x)
        one-more Request Request v u h f = omega (arith, h)
        one-more Request Fielddata v u h f = let k = f Fielddata (λ z. cc) in omega (arith, k)
        one-more Request Inflight v u h f = let k = f Inflight (λ z. cc) in omega (arith, k)
        one-more Request Parent v u h f = let k = f Parent (λ z. cc) in omega (arith, k)
        one-more Fielddata Fielddata v u h f = omega (arith, h)
        one-more Fielddata Request v u h f = let k = f Request (λ z. cc) in omega (arith, k)
        one-more Fielddata Inflight v u h f = let k = f Inflight (λ z. cc) in omega (arith, k)
        one-more Fielddata Parent v u h f = let k = f Parent (λ z. cc) in omega (arith, k)
        one-more Inflight Inflight v u h f = omega (arith, h)
        one-more Inflight Request v u h f = let k = f Request (λ z. cc) in omega (arith, k)
        one-more Inflight Fielddata v u h f = let k = f Fielddata (λ z. cc) in omega (arith, k)
        one-more Inflight Parent v u h f = let k = f Parent (λ z. cc) in omega (arith, k)
        one-more Parent Parent v u h f = omega (arith, h)
        one-more Parent Request v u h f = let k = f Request (λ z. cc) in omega (arith, k)
        one-more Parent Fielddata v u h f = let k = f Fielddata (λ z. cc) in omega (arith, k)
        one-more Parent Inflight v u h f = let k = f Inflight (λ z. cc) in omega (arith, k)

        trips-now : (x : Which) → counter_value (times_at x (told_by (Some e) t.runs)) ≤ trips_of u.view x
        trips-now x =
            let all = sum_by-cons (λ (r : Tripped). told_at x (one_at r.which)) e (told_by None t.runs) in
            let old = charge-none.trips x in
            let more = one-more e.which x (trips_of a.view) (trips_of u.view) (ref.given_back.trips e.which ∙ ref.tripped.trip) (λ y h. ref.given_back.trips y ∙ ref.tripped.trips y h) in
            omega (arith, all, old, more)

    -- what is granted where nothing was refused
    pub granted-all : (2 ≤ length left → ((u.view ≡ a.view) × (s ≡ 0)) ⊎ IsMerged p.words.limits a.view s n u.view) → (length left ≤ 1 → u.view ≡ a.view) → failures_in t.runs ≡ [] → (x : Which) → granted_of u.view x
        ≡ counter_value (at_both (sum_by (gross_at p q) (shards_in t.runs) + merge_charge (map (cost_at p q) (shards_in t.runs))) x)
    granted-all merged alone none x = by_length (length left) refl
      where
        is : left ≡ shards_in t.runs
        is = all-left t.runs none

        old : granted_of a.view x ≡ counter_value (at_both (sum_by (gross_at p q) (shards_in t.runs)) x)
        old = g.granted going none x

        with-charge : (m : ℕ) → merge_charge (map (cost_at p q) (shards_in t.runs)) ≡ m → granted_of u.view x ≡ counter_value (at_both (sum_by (gross_at p q) (shards_in t.runs) + m) x)
            → granted_of u.view x ≡ counter_value (at_both (sum_by (gross_at p q) (shards_in t.runs) + merge_charge (map (cost_at p q) (shards_in t.runs))) x)
        with-charge m e k = k ∙ ap (λ z. counter_value (at_both (sum_by (gross_at p q) (shards_in t.runs) + z) x)) (sym e)

        same-granted : u.view ≡ a.view → granted_of u.view x ≡ counter_value (at_both (sum_by (gross_at p q) (shards_in t.runs) + 0) x)
        same-granted e = ap (λ v. granted_of v x) e ∙ old ∙ ap (λ z. counter_value (at_both z x)) (let z : sum_by (gross_at p q) (shards_in t.runs) ≡ sum_by (gross_at p q) (shards_in t.runs) + 0 = omega arith in z)

        few-charge : length left ≤ 1 → merge_charge (map (cost_at p q) (shards_in t.runs)) ≡ 0
        few-charge h = charge-one (cost_at p q) (shards_in t.runs) (subst (λ ns. length ns ≤ 1) is h)

        many : 2 ≤ length left → merge_charge (map (cost_at p q) (shards_in t.runs)) ≡ s
        many h = charge-many (cost_at p q) (shards_in t.runs) (subst (λ ns. 2 ≤ length ns) is h) ∙ sym (costs ∙ ap (sum_by (cost_at p q)) is)

        raised : (y : Which) → IsMerged p.words.limits a.view s n u.view → granted_of a.view y ≡ counter_value (at_both (sum_by (gross_at p q) (shards_in t.runs)) y)
            → granted_of u.view y ≡ counter_value (at_both (sum_by (gross_at p q) (shards_in t.runs) + s) y)
        raised Request m e = let k = m.given_back.granted Request in let c = m.charged.granted_child in omega (arith, k, c, e)
        raised Parent m e = let k = m.given_back.granted Parent in let c = m.charged.granted_parent in omega (arith, k, c, e)
        raised Fielddata m e = let k = m.given_back.granted Fielddata in let c = m.charged.granted Fielddata (λ z. cc) (λ z. cc) in omega (arith, k, c, e)
        raised Inflight m e = let k = m.given_back.granted Inflight in let c = m.charged.granted Inflight (λ z. cc) (λ z. cc) in omega (arith, k, c, e)

        -- a charge of nothing
        free : 2 ≤ length left → s ≡ 0 → u.view ≡ a.view → granted_of u.view x ≡ counter_value (at_both (sum_by (gross_at p q) (shards_in t.runs) + merge_charge (map (cost_at p q) (shards_in t.runs))) x)
        free h zero_cost e = with-charge 0 (many h ∙ zero_cost) (same-granted e)

        by_end : 2 ≤ length left → ((u.view ≡ a.view) × (s ≡ 0)) ⊎ IsMerged p.words.limits a.view s n u.view → granted_of u.view x ≡ counter_value (at_both (sum_by (gross_at p q) (shards_in t.runs) + merge_charge (map (cost_at p q) (shards_in t.runs))) x)
        by_end h e = ⊎_elim (λ (z : (u.view ≡ a.view) × (s ≡ 0)). free h z.1 z.0) (λ (m : IsMerged p.words.limits a.view s n u.view). with-charge s (many h) (raised x m old)) e

        by_length : (k : ℕ) → length left ≡ k → granted_of u.view x ≡ counter_value (at_both (sum_by (gross_at p q) (shards_in t.runs) + merge_charge (map (cost_at p q) (shards_in t.runs))) x)
        by_length zero e = with-charge 0 (few-charge (omega (arith, e))) (same-granted (alone (omega (arith, e))))
        by_length (suc zero) e = with-charge 0 (few-charge (omega (arith, e))) (same-granted (alone (omega (arith, e))))
        by_length (suc (suc k)) e = by_end (omega (arith, e)) (merged (omega (arith, e)))

  -- what comes of the merge
  abbrev work : Option Partial → Option Tripped → Bool → Work
  work part refused memory = record { search = t.search; runs = t.runs; part = part; refused = refused; memory = memory; skipped = t.skipped }

  some-whole : (ns : List ℕ) → 1 ≤ length ns → Some (whole_of p.index (search_at p q) ns) ≡ whole_unless_none p.index (search_at p q) ns
  some-whole [] h = absurd (omega (arith, h))
  some-whole (n ∷ ns) h = refl

  pub carried-done : (u : PassModel) (part : Partial) → 1 ≤ length t.parts → part ≡ whole (search_at p q) t.parts → IsPassOf p q t.runs None (cost part) u
      → (failures_in t.runs ≡ [] → (x : Which) → granted_of u.view x ≡ counter_value (at_both (sum_by (gross_at p q) (shards_in t.runs) + merge_charge (map (cost_at p q) (shards_in t.runs))) x))
      → IsCarried p (work (Some part) None false) u
  carried-done u part some is pass granted = record {
    runs = g.runs;
    charge = subst (λ k. IsPassOf p q t.runs None k u) (let k : cost part ≡ sum_by cost (part ∷ []) = omega arith in k) pass;
    stopped = λ e. absurd (let no : true ≡ false = sym e ∙ going-now in let none : ⊥ = cc in none);
    whole = λ e. ap (λ x. Some x) (is ∙ ap (whole (search_at p q)) (g.parts going)) ∙ some-whole left (let k = length-left in omega (arith, some, k));
    fits = λ e. g.fits going;
    granted = λ e none x. granted none x;
  }
    where
      last-false : (o m k : Bool) → ((o || m) || k) ≡ false → k ≡ false
      last-false true m k e = absurd (let no : ⊥ = cc in no)
      last-false false true k e = absurd (let no : ⊥ = cc in no)
      last-false false false k e = e

      going-now : is_stopped_work (work (Some part) None false) ≡ false
      going-now = last-false (is_some t.refused) t.memory t.skipped going

  pub carried-refused : (u : PassModel) (e : Tripped) → IsPassOf p q t.runs (Some e) 0 u → IsCarried p (work None (Some e) false) u
  carried-refused u e pass = record {
    runs = g.runs;
    charge = pass;
    stopped = λ h. refl;
    whole = λ h. absurd (let no : ⊥ = cc in no);
    fits = λ h. absurd (let no : ⊥ = cc in no);
    granted = λ h none x. absurd (let no : ⊥ = cc in no);
  }

  pub carried-memory : (u : PassModel) → IsPassOf p q t.runs None 0 u → IsCarried p (work None None true) u
  carried-memory u pass = record {
    runs = g.runs;
    charge = pass;
    stopped = λ h. refl;
    whole = λ h. absurd (let no : ⊥ = cc in no);
    fits = λ h. absurd (let no : ⊥ = cc in no);
    granted = λ h none x. absurd (let no : ⊥ = cc in no);
  }

  -- whatever the end of the merge
  pub reduced : (u : PassModel) (of : IsOf p.words u) (end : ReduceEnd) → 1 ≤ length t.parts
      → IfDone end (λ x. (search : Search) → AreParts search t.parts → x ≡ whole search t.parts) → ((x : Partial) → t.parts ≡ x ∷ [] → (end ≡ Done x) × (u ≡ a)) → (s ≡ 0 → IsNotRefused end × (u ≡ a))
      → (2 ≤ length t.parts → 1 ≤ s → IfDone end (λ x. IsMerged p.words.limits a.view s (cost x) u.view)) → (2 ≤ length t.parts → 1 ≤ s → IfMemory end (IsMerged p.words.limits a.view s 0 u.view))
      → IfRefused end (λ e. IsRefused p.words.limits a.view s e u.view) → WasReduced a.view s (cost_of_end end) u.view → IsCarried p (work_by t.search t.runs t.skipped end) u
  reduced u of (Done x) some is one free done memory refused r = carried-done u x some (is (search_at p q) all-parts) (quiet-pass u of (cost x) r trips-same) (granted-all u of (cost x) r merged alone)
    where
      alone-by : (ps : List Partial) → t.parts ≡ ps → length ps ≤ 1 → u.view ≡ a.view
      alone-by [] e h = absurd (let k = ap length e in omega (arith, k, some))
      alone-by (y ∷ []) e h = ap (λ (z : PassModel). z.view) (one y e).1
      alone-by (y ∷ z ∷ ps) e h = absurd (omega (arith, h))

      alone : length left ≤ 1 → u.view ≡ a.view
      alone h = alone-by t.parts refl (let k = length-left in omega (arith, k, h))

      merged-by : (k : ℕ) → s ≡ k → 2 ≤ length left → ((u.view ≡ a.view) × (s ≡ 0)) ⊎ IsMerged p.words.limits a.view s (cost x) u.view
      merged-by zero e h = inl (ap (λ (z : PassModel). z.view) (free e).1, e)
      merged-by (suc k) e h = inr (done (let l = length-left in omega (arith, l, h)) (omega (arith, e)))

      merged : 2 ≤ length left → ((u.view ≡ a.view) × (s ≡ 0)) ⊎ IsMerged p.words.limits a.view s (cost x) u.view
      merged = merged-by s refl

      trips-by : (n : ℕ) → length left ≡ n → (y : Which) → trips_of u.view y ≡ trips_of a.view y
      trips-by zero e y = ap (λ v. trips_of v y) (alone (omega (arith, e)))
      trips-by (suc zero) e y = ap (λ v. trips_of v y) (alone (omega (arith, e)))
      trips-by (suc (suc n)) e y = ⊎_elim (λ (z : (u.view ≡ a.view) × (s ≡ 0)). ap (λ v. trips_of v y) z.0) (λ (m : IsMerged p.words.limits a.view s (cost x) u.view). m.given_back.trips y ∙ m.charged.trips y) (merged (omega (arith, e)))

      trips-same : (y : Which) → trips_of u.view y ≡ trips_of a.view y
      trips-same = trips-by (length left) refl
  reduced u of (Refused e) some is one free done memory refused r = carried-refused u e (refused-pass u of 0 r e refused)
  reduced u of Memory some is one free done memory refused r = carried-memory u (quiet-pass u of 0 r trips-same)
    where
      trips-by : (ps : List Partial) (k : ℕ) → t.parts ≡ ps → s ≡ k → (y : Which) → trips_of u.view y ≡ trips_of a.view y
      trips-by [] k e z y = absurd (let n = ap length e in omega (arith, n, some))
      trips-by (x ∷ []) k e z y = ap (λ (w : PassModel). trips_of w.view y) (one x e).1
      trips-by (x ∷ x' ∷ ps) zero e z y = ap (λ (w : PassModel). trips_of w.view y) (free z).1
      trips-by (x ∷ x' ∷ ps) (suc k) e z y = let m = memory (let n = ap length e in omega (arith, n)) (omega (arith, z)) in m.given_back.trips y ∙ m.charged.trips y

      trips-same : (y : Which) → trips_of u.view y ≡ trips_of a.view y
      trips-same = trips-by t.parts s refl refl

-- a batch without parts, or whose search was stopped
pub carried-none : (p : Pool) (t : Taken) (a u : PassModel) (g : IsGathered p t a) → (is_stopped t ≡ false → t.parts ≡ []) → IsOf p.words u → IsGivenBack a.view child.Request (hold_of a.view Request) u.view
    → IsCarried p (record { search = t.search; runs = t.runs; part = None; refused = t.refused; memory = t.memory; skipped = t.skipped }) u
carried-none p t a u g empty of back = record {
  runs = g.runs;
  charge = given-all p t.search t.runs t.refused (hold_of a.view Request) a g.charge u of back;
  stopped = λ e. refl;
  whole = λ going. no-whole (left_in t.runs) (no-left (left_in t.runs) (sym (g.parts going) ∙ empty going));
  fits = λ going. g.fits going;
  granted = λ going none x.
      (let nothing = sym (all-left t.runs none) ∙ no-left (left_in t.runs) (sym (g.parts going) ∙ empty going) in
      back.granted x ∙ g.granted going none x
      ∙ ap (λ z. counter_value (at_both z x)) (let z : sum_by (gross_at p t.search) (shards_in t.runs) ≡ sum_by (gross_at p t.search) (shards_in t.runs) + 0 = omega arith in z)
      ∙ ap (λ ns. counter_value (at_both (sum_by (gross_at p t.search) (shards_in t.runs) + merge_charge (map (cost_at p t.search) ns)) x)) (sym nothing));
}
  where
    no-left : (ns : List ℕ) → shard_answers p.index (search_at p t.search) ns ≡ [] → ns ≡ []
    no-left [] e = refl
    no-left (n ∷ ns) e = absurd (let no : ⊥ = cc in no)

    no-whole : (ns : List ℕ) → ns ≡ [] → None ≡ whole_unless_none p.index (search_at p t.search) ns
    no-whole ns e = sym (ap (whole_unless_none p.index (search_at p t.search)) e)
