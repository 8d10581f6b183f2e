-- By how much the totals of the caller's pass rose when searches were answered side by side ('Circuit breaker settings').
use Rattle.std.specs.Prelude.{◌≡◌, refl, ◌≤◌, ◌<◌, ℕ, zero, suc, ◌+◌, ◌-◌, ◌&&◌, nat_le, Bool, true, false, IsTrue, if◌then◌else◌, List, [], ◌∷◌, length, sum_by, slice_index_or, Option, None}
use Rattle.std.specs.List.{range_with_len}
use Rattle.std.proofs.Common.{sym, ap, subst, ◌∙◌, arith}
use Rattle.std.proofs.lemmas.Bool.{leb-true}
use Rattle.std.proofs.lemmas.List.{length-map}
use Rattle.agg_model.specs.declared.aggregation.Search.{Search}
use Rattle.agg_model.specs.declared.breaker.Tripped.{Tripped}
use Rattle.agg_model.specs.declared.breaker.Which.{Which}
use Rattle.agg_model.specs.declared.breaker.Which.TheVariants.{Request, Fielddata, Inflight, Parent}
use Rattle.agg_model.specs.declared.outcome.Answered.{Answered}
use Rattle.agg_model.specs.declared.settings.Settings.{Settings}
use Rattle.agg_spec.specs.Charges.{amount_at}
use Rattle.agg_spec.specs.Failures.{unfailed}
use Rattle.agg_spec.specs.Index.{Index}
use Rattle.agg_spec.specs.Outcome.{Request as AnyRequest}
use Rattle.agg_spec.specs.Rises.{rises}
use Rattle.agg_spec.specs.Rounds.{all_quiet}
use Rattle.breaker_words.specs.Breakers.{counter_value}
use Rattle.breaker_words.specs.Passes.{PassModel, WordsModel}
use Rattle.breaker_words.specs.Views.{granted_of, hold_of, trips_of}
use Rattle.breaker_words.specs.declared.view.View.{View}
use Rattle.fitting_laws.specs.Indexes.{index_of}
use Rattle.shard_pool.specs.Ends.{HasGranted, MayEnd, all_told, least_granted}
use Rattle.shard_pool.specs.declared.search_end.SearchEnd.{SearchEnd}
use Rattle.pool_results.specs.Pools.{Pool, no_search, search_at}
use Rattle.pool_results.specs.Runs.{times_at}
use Rattle.shard_columns.specs.declared.index.Index.{Index as ShardIndex}
use Rattle.shard_pool.specs.PoolOf.{pool_of}
use Rattle.wave_bodies.specs.Charged.{charged_for, trips_in}
use Rattle.wave_bodies.specs.declared.asked.Asked.{Asked}
use Rattle.search_wave.specs.Ran.{HasAnswered}
use Rattle.search_wave.specs.Waves.{HasRisenBy, round_of}
use Rattle.search_wave.proofs.RisenQuiet.{AreQuiet, HasEnded, all-left, goes-quiet, least_in}
use Rattle.search_wave.proofs.RisenSums.{least-granted, least_of}
use Rattle.search_wave.proofs.RisenTrips.{bodies-elsewhere, ends-elsewhere, goes-elsewhere, tell-least, tell-most, told_by_all}
use Rattle.search_wave.proofs.RisenWalk.{Each, each-place, walk}

-- the end at each place
end-at : (p : Pool) (size : ℕ) (v : View) (q : ℕ) (e : SearchEnd) → MayEnd p q size v e → HasEnded p.words.limits p.index size v (search_at p q) e
end-at p size v q e h = record {
  told = h.told;
  groups = λ going. (let k = h.parts going in record { groups = k.groups; parts = k.parts; each = k.each; number = k.number });
}

-- a shard is left where none is left out
record HasFirst (index : Index) : Type 0 where
  first : ℕ
  others : List ℕ
  left : unfailed index [] ≡ first ∷ others

first-of : (index : Index) → 0 < length index.shards → HasFirst index
first-of index some = by_number (length index.shards) refl
  where
    by_number : (n : ℕ) → length index.shards ≡ n → HasFirst index
    by_number zero e = absurd (omega (arith, e, some))
    by_number (suc n) e = record { first = 0; others = range_with_len (0 + 1) n; left = all-left index ∙ ap (range_with_len 0) e }

module _ (settings : Settings) (index : ShardIndex) (words : WordsModel) (requests : List AnyRequest) (refusals : List (Option Tripped)) (asked : List Asked) (searches : List Search) (ceilings : List ℕ) (ends : List SearchEnd) (answers : List Answered)
    (old charged : View) (opened closed : PassModel) (answered : View) (h : HasAnswered settings index words requests refusals asked searches ceilings ends answers old charged opened closed answered) where
  abbrev known : Index
  known = index_of index

  abbrev columns : ℕ
  columns = hold_of old Fielddata

  abbrev pool : Pool
  pool = pool_of words index searches ceilings

  abbrev Ended : Search → SearchEnd → Type 0
  Ended search e = HasEnded settings.limits known settings.batch closed.view search e

  some : 0 < length known.shards
  some = let a = index.some_shards in let b = length-map index.shards (λ s. s.rows) in omega (arith, a, b)

  left : HasFirst known
  left = first-of known some

  no_end : SearchEnd
  no_end = record { parts = []; refused = None; memory = false; failures = [] }

  each : Each Ended searches ends
  each = each-place Ended no_search no_end searches ends h.number
      (λ q low. subst (λ limits. HasEnded limits known settings.batch closed.view (slice_index_or searches q no_search) (slice_index_or ends q no_end)) h.limits
      (end-at pool settings.batch closed.view q (slice_index_or ends q no_end) (h.ends_are q no_end low)))

  -- refusals
  told-most : (x : Which) → amount_at x (told_by_all known answers) ≤ amount_at x (trips_in refusals) + times_at x (all_told ends) + amount_at x h.more_trips
  told-most x =
      walk settings.limits known settings.max_buckets closed.view Ended _ (tell-most settings.limits known settings.max_buckets closed.view Ended x) requests refusals asked searches ends answers h.more h.more_trips h.asked_are h.answers_are each

  told-least : (x : Which) → amount_at x (trips_in refusals) ≤ amount_at x (told_by_all known answers)
  told-least x =
      walk settings.limits known settings.max_buckets closed.view Ended _ (tell-least settings.limits known settings.max_buckets closed.view Ended x left.first left.others left.left) requests refusals asked searches ends answers h.more h.more_trips
      h.asked_are h.answers_are each

  own-inflight : amount_at Inflight h.more_trips ≡ 0
  own-inflight =
      walk settings.limits known settings.max_buckets closed.view Ended _ (goes-elsewhere settings.limits known settings.max_buckets closed.view Ended Inflight refl) requests refusals asked searches ends answers h.more h.more_trips h.asked_are
      h.answers_are each

  own-fielddata : amount_at Fielddata h.more_trips ≡ 0
  own-fielddata =
      walk settings.limits known settings.max_buckets closed.view Ended _ (goes-elsewhere settings.limits known settings.max_buckets closed.view Ended Fielddata refl) requests refusals asked searches ends answers h.more h.more_trips h.asked_are
      h.answers_are each

  ends-inflight : times_at Inflight (all_told ends) ≡ 0
  ends-inflight = ends-elsewhere Inflight settings.limits closed.view Ended refl (λ search e k. k.told) searches ends each

  bodies-fielddata : amount_at Fielddata (trips_in refusals) ≡ 0
  bodies-fielddata = ap (λ ts. amount_at Fielddata (trips_in ts)) h.bodies.refusals_are ∙ bodies-elsewhere settings known columns 0 requests

  if-quiet : all_quiet answers ≡ true → AreQuiet settings known closed.view some left.first left.others left.left requests refusals searches ends h.more h.more_trips
  if-quiet =
      walk settings.limits known settings.max_buckets closed.view Ended _ (goes-quiet settings known closed.view some left.first left.others left.left) requests refusals asked searches ends answers h.more h.more_trips h.asked_are
      h.answers_are each

  trips-fielddata : trips_of answered Fielddata ≡ trips_of old Fielddata
  trips-fielddata =
      let a = h.bodies.trips Fielddata in let b = h.trips Fielddata in let c = h.run.other_trips Fielddata (λ z. cc) (λ z. cc) in let d = h.risen.trips_are Fielddata in
      let e = bodies-fielddata in let f = own-fielddata in let g = h.bounded_old.trips Fielddata in
      omega (arith, a, b, c, d, e, f, g)

  trips-inflight : trips_of answered Inflight ≡ counter_value (trips_of old Inflight + amount_at Inflight (told_by_all known answers))
  trips-inflight =
      let a = h.bodies.trips Inflight in let b = h.trips Inflight in let c = h.run.other_trips Inflight (λ z. cc) (λ z. cc) in let d = h.risen.trips_are Inflight in
      let e = own-inflight in let f = told-most Inflight in let g = told-least Inflight in let k = ends-inflight in
      omega (arith, a, b, c, d, e, f, g, k)

  granted-inflight : granted_of answered Inflight ≡ counter_value (granted_of old Inflight + charged_for settings known columns refusals requests)
  granted-inflight =
      let a = h.bodies.granted in let b = h.granted Inflight in let c = h.run.other_granted Inflight (λ z. cc) (λ z. cc) in let d = h.risen.inflight in
      omega (arith, a, b, c, d)

  granted-fielddata : granted_of answered Fielddata ≡ granted_of old Fielddata
  granted-fielddata = h.risen.fielddata ∙ h.run.other_granted Fielddata (λ z. cc) (λ z. cc) ∙ h.granted Fielddata ∙ h.bodies.granted_fielddata

  -- how often request and the parent refused
  abbrev refused_at : Which → ℕ
  refused_at x = amount_at x (trips_in refusals) + (h.run.trips x).more + amount_at x h.more_trips

  refused-is : (x : Which) → trips_of answered x ≡ counter_value (trips_of old x + refused_at x)
  refused-is x = let a = h.bodies.trips x in let b = h.trips x in let c = (h.run.trips x).is in let d = h.risen.trips_are x in omega (arith, a, b, c, d)

  refused-told : (x : Which) → amount_at x (told_by_all known answers) ≤ refused_at x
  refused-told x = let a = told-most x in let b = (h.run.trips x).told in omega (arith, a, b)

  refused-none : all_quiet answers ≡ true → (x : Which) → refused_at x ≡ 0
  refused-none quiet x = let k = if-quiet quiet in let a = k.bodies x in let b = k.own x in let c = (h.run.trips x).none k.ends_are in omega (arith, a, b, c)

  -- what was granted at request
  record Granted (searched : ℕ) (exact : Bool) : Type 0 where
    granted : ℕ
    least : searched ≤ granted
    exactly : IsTrue exact → granted ≡ searched
    is : granted_of answered Request ≡ counter_value (granted_of old Request + granted)

  granted-other : Granted 0 false
  granted-other = record {
    granted = granted_of closed.view Request - granted_of opened.view Request + h.more;
    least = omega arith;
    exactly = λ e. absurd (let no : ⊥ = cc in no);
    is = (let a = h.bodies.granted_request in let b = h.granted Request in let c = h.run.risen Request in let d = h.risen.request in omega (arith, a, b, c, d));
  }

  granted-quiet : all_quiet answers ≡ true → Granted (sum_by (least_in settings known) requests) (nat_le (length known.shards) settings.batch)
  granted-quiet quiet = record {
    granted = run.more + h.more;
    least = (let a = run.least in let b = pool-least in let c = k.least in omega (arith, a, b, c));
    exactly = λ e. (let few = leb-true (length known.shards) settings.batch e in let a = run.exactly few in let b = pool-least in let c = k.exactly few in omega (arith, a, b, c));
    is = (let a = h.bodies.granted_request in let b = h.granted Request in let c = run.is Request in let d = h.risen.request in omega (arith, a, b, c, d));
  }
    where
      k : AreQuiet settings known closed.view some left.first left.others left.left requests refusals searches ends h.more h.more_trips
      k = if-quiet quiet

      run : HasGranted pool settings.batch opened.view closed.view
      run = h.run.granted k.ends_are

      pool-least : least_granted pool settings.batch ≡ sum_by (least_of known settings.batch) searches
      pool-least = least-granted pool settings.batch

  risen-by : (b : Bool) → all_quiet answers ≡ b → Granted (if b then sum_by (least_in settings known) requests else 0) (b && nat_le (length known.shards) settings.batch)
      → HasRisenBy (rises known columns (round_of settings requests answers)) old answered
  risen-by b e g = record {
    fielddata = (granted-fielddata, trips-fielddata);
    inflight = (granted-inflight ∙ ap (λ ts. counter_value (granted_of old Inflight + charged_for settings known columns ts requests)) h.bodies.refusals_are, trips-inflight);
    searches = g.granted;
    least = subst (λ z. (if z then sum_by (least_in settings known) requests else 0) ≤ g.granted) (sym e) g.least;
    exactly = λ exact. (subst (λ z. IsTrue (z && nat_le (length known.shards) settings.batch) → g.granted ≡ (if z then sum_by (least_in settings known) requests else 0)) (sym e) g.exactly) exact;
    request = g.is;
    at_request = refused_at Request;
    at_parent = refused_at Parent;
    request_told = refused-told Request;
    parent_told = refused-told Parent;
    request_trips = refused-is Request;
    parent_trips = refused-is Parent;
    no_trips = λ quiet. (refused-none quiet Request, refused-none quiet Parent);
  }

  by-quiet : (b : Bool) → all_quiet answers ≡ b → HasRisenBy (rises known columns (round_of settings requests answers)) old answered
  by-quiet true e = risen-by true e (granted-quiet e)
  by-quiet false e = risen-by false e granted-other

-- so did the totals rise
pub wave-risen : (settings : Settings) (index : ShardIndex) (words : WordsModel) (requests : List AnyRequest) (refusals : List (Option Tripped)) (asked : List Asked) (searches : List Search) (ceilings : List ℕ) (ends : List SearchEnd) (answers : List Answered)
    (old charged : View) (opened closed : PassModel) (answered : View) → HasAnswered settings index words requests refusals asked searches ceilings ends answers old charged opened closed answered
    → HasRisenBy (rises (index_of index) (hold_of old Fielddata) (round_of settings requests answers)) old answered
wave-risen settings index words requests refusals asked searches ceilings ends answers old charged opened closed answered h =
    by-quiet settings index words requests refusals asked searches ceilings ends answers old charged opened closed answered h (all_quiet answers) refl
