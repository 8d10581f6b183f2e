-- The refusals that answers tell of, counted at one breaker.
use Rattle.std.specs.Prelude.{◌≡◌, refl, ◌⊎◌, ◌≤◌, ℕ, ◌+◌, Bool, true, false, List, [], ◌∷◌, length, map, nat_lt, option_to_list, Option, Some, None}
use Rattle.std.proofs.Common.{ap, ◌∙◌, arith, ⊎_elim}
use Rattle.std.proofs.lemmas.List.Sums.{sum_by-append, sum_by-cons}
use Rattle.agg_model.specs.declared.aggregation.Search.{Search}
use Rattle.agg_model.specs.declared.answer.Answer.{Answer}
use Rattle.agg_model.specs.declared.breaker.Limits.{Limits}
use Rattle.agg_model.specs.declared.breaker.Tripped.{Tripped}
use Rattle.agg_model.specs.declared.breaker.Which.{Which}
use Rattle.agg_model.specs.declared.breaker.Which.TheVariants.{Request, Fielddata, Inflight, Parent}
use Rattle.agg_model.specs.declared.outcome.Answered.{Answered}
use Rattle.agg_model.specs.declared.outcome.Failure.{Failure}
use Rattle.agg_model.specs.declared.outcome.Outcome.{Outcome}
use Rattle.agg_model.specs.declared.outcome.Outcome.TheVariants as ended
use Rattle.agg_model.specs.declared.outcome.Refused.TheVariants as refused
use Rattle.agg_spec.specs.BucketCount.{total_buckets}
use Rattle.agg_spec.specs.Charges.{Amounts, amount_at, amounts_sum, no_amounts, one_at}
use Rattle.agg_spec.specs.Failures.{unfailed}
use Rattle.agg_spec.specs.Index.{Index}
use Rattle.agg_spec.specs.Notes.{piped}
use Rattle.agg_spec.specs.Outcome.{answer_of, answer_outcome, line_in_range, outcome_of_shards, wide_path}
use Rattle.agg_spec.specs.Response.{response_line}
use Rattle.agg_spec.specs.Rises.{exception_trips, sum_of_amounts, told_trips}
use Rattle.breaker_words.specs.declared.view.View.{View}
use Rattle.shard_pool.specs.Ends.{told_in}
use Rattle.shard_pool.specs.declared.search_end.SearchEnd.{SearchEnd}
use Rattle.pool_results.specs.Runs.{times_at}
use Rattle.wave_answers.specs.Ended.{IsAnswer, IsReduced, IsRefused, IsStopped}

-- amounts at one breaker
pub at-sum : (x : Which) (a b : Amounts) → amount_at x (amounts_sum a b) ≡ amount_at x a + amount_at x b
at-sum Request a b = refl
at-sum Fielddata a b = refl
at-sum Inflight a b = refl
at-sum Parent a b = refl

pub at-none : (x : Which) → amount_at x no_amounts ≡ 0
at-none Request = refl
at-none Fielddata = refl
at-none Inflight = refl
at-none Parent = refl

-- the refusals of the shards that are left out
abbrev pub refusals_of : List Failure → List Tripped
refusals_of fs = map (λ (f : Failure). f.tripped) fs

failures-times : (x : Which) (fs : List Failure) → amount_at x (sum_of_amounts (map (λ (f : Failure). one_at f.tripped.which) fs)) ≡ times_at x (refusals_of fs)
failures-times x [] = at-none x
failures-times x (f ∷ fs) =
    let a = at-sum x (one_at f.tripped.which) (sum_of_amounts (map (λ (g : Failure). one_at g.tripped.which) fs)) in
    let b = sum_by-cons (λ (t : Tripped). amount_at x (one_at t.which)) f.tripped (refusals_of fs) in
    let rest = failures-times x fs in
    omega (arith, a, b, rest)

-- an answer tells of its exception and of its failures
pub told-two : (x : Which) (index : Index) (a : Answered) → amount_at x (told_trips index a) ≡ amount_at x (exception_trips (unfailed index a.failures) a.outcome) + times_at x (refusals_of a.failures)
told-two x index a =
    let e = at-sum x (exception_trips (unfailed index a.failures) a.outcome) (sum_of_amounts (map (λ (f : Failure). one_at f.tripped.which) a.failures)) in
    let f = failures-times x a.failures in
    omega (arith, e, f)

-- an exception counts once at most, and once where a shard is left
pub exception-most : (x : Which) (left : List ℕ) (t : Tripped) → amount_at x (exception_trips left (ended.Tripped t)) ≤ amount_at x (one_at t.which)
exception-most x [] t = let a = at-none x in omega (arith, a)
exception-most x (s ∷ left) t = omega arith

-- what is printed tells of no refusal
printed-none : (x : Which) (s : ℕ) (left : List ℕ) (o : Option (List ℕ)) (line : List ℕ) → amount_at x (exception_trips (s ∷ left) (line_in_range o line)) ≡ 0
printed-none x s left None line = at-none x
printed-none x s left (Some path) line = at-none x

answered-none : (x : Which) (s : ℕ) (left : List ℕ) (index : Index) (max : ℕ) (search : Search) (fs : List Failure) (answer : Answer) → amount_at x (exception_trips (s ∷ left) (answer_outcome index max search fs answer)) ≡ 0
answered-none x s left index max search fs answer = by_count (nat_lt max (total_buckets search answer))
  where
    by_count : (b : Bool)
        → amount_at x (exception_trips (s ∷ left) (elim b as (λ z. Outcome) [
          | true ↦ ended.Refused (refused.TooManyBuckets (total_buckets search answer) max)
          | false ↦ line_in_range (wide_path search answer) (response_line search index.mapping (piped search answer) (length index.shards) fs)
        ])) ≡ 0
    by_count true = at-none x
    by_count false = printed-none x s left (wide_path search answer) (response_line search index.mapping (piped search answer) (length index.shards) fs)

-- the whole reduction has an exception only where no shard is left
pub reduced-none : (x : Which) (index : Index) (max : ℕ) (search : Search) (fs : List Failure) (left : List ℕ) → amount_at x (exception_trips left (outcome_of_shards index max search fs left)) ≡ 0
reduced-none x index max search fs [] = at-none x
reduced-none x index max search [] (s ∷ left) = answered-none x s left index max search [] (answer_of index search (s ∷ left))
reduced-none x index max search (f ∷ fs) (s ∷ left) = answered-none x s left index max search (f ∷ fs) (answer_of index search (s ∷ left))

-- what an end tells of
end-told : (x : Which) (e : SearchEnd) → times_at x (told_in e) ≡ times_at x (option_to_list e.refused) + times_at x (refusals_of e.failures)
end-told x e = sum_by-append (λ (t : Tripped). amount_at x (one_at t.which)) (option_to_list e.refused) (refusals_of e.failures)

one-told : (x : Which) (t : Tripped) → times_at x (t ∷ []) ≡ amount_at x (one_at t.which)
one-told x t = let a = sum_by-cons (λ (u : Tripped). amount_at x (one_at u.which)) t [] in omega (arith, a)

-- an exception, beside these failures
abbrev exception_at : Which → Index → List Failure → Outcome → ℕ
exception_at x index fs o = amount_at x (exception_trips (unfailed index fs) o)

-- an answer to a search tells of what its tasks were refused, and of what it was refused itself
pub answer-told : (x : Which) (limits : Limits) (index : Index) (max : ℕ) (v : View) (search : Search) (e : SearchEnd) (a : Answered) (here : ℕ) (own : Amounts) → IsAnswer limits index max v search e a here own
    → amount_at x (told_trips index a) ≤ times_at x (told_in e) + amount_at x own
answer-told x limits index max v search e a here own is =
    let two = told-two x index a in let all = end-told x e in
    let same : times_at x (refusals_of a.failures) ≡ times_at x (refusals_of e.failures) = ap (λ fs. times_at x (refusals_of fs)) is.failures_are in
    let exception = by_end is.is in
    omega (arith, two, all, same, exception)
  where
    by_reduced : IsReduced limits index max v search e a.outcome here own → exception_at x index a.failures a.outcome ≤ times_at x (option_to_list e.refused) + amount_at x own
    by_reduced r =
        let none = reduced-none x index max search e.failures (unfailed index e.failures) in
        let b = ap (exception_at x index a.failures) r.outcome_is ∙ ap (λ fs. exception_at x index fs (outcome_of_shards index max search e.failures (unfailed index e.failures))) is.failures_are in
        omega (arith, none, b)

    by_stopped : (t : Tripped) → IsStopped limits index max e a.outcome t own → exception_at x index a.failures a.outcome ≤ times_at x (option_to_list e.refused) + amount_at x own
    by_stopped t s =
        let most = exception-most x (unfailed index a.failures) t in let b = ap (exception_at x index a.failures) s.outcome_is in
        let c : times_at x (option_to_list e.refused) ≡ times_at x (t ∷ []) = ap (λ o. times_at x (option_to_list o)) s.refused in let d = one-told x t in
        omega (arith, most, b, c, d)

    by_refused : (t : Tripped) → IsRefused limits index max v search e a.outcome t own → exception_at x index a.failures a.outcome ≤ times_at x (option_to_list e.refused) + amount_at x own
    by_refused t r =
        let most = exception-most x (unfailed index a.failures) t in let b = ap (exception_at x index a.failures) r.outcome_is in let c = ap (amount_at x) r.one in
        omega (arith, most, b, c)

    by_end : IsReduced limits index max v search e a.outcome here own ⊎ (((t : Tripped) × IsStopped limits index max e a.outcome t own) ⊎ ((t : Tripped) × IsRefused limits index max v search e a.outcome t own))
        → exception_at x index a.failures a.outcome ≤ times_at x (option_to_list e.refused) + amount_at x own
    by_end h = ⊎_elim by_reduced
        (λ (k : ((t : Tripped) × IsStopped limits index max e a.outcome t own) ⊎ ((t : Tripped) × IsRefused limits index max v search e a.outcome t own)).
        ⊎_elim (λ (s : (t : Tripped) × IsStopped limits index max e a.outcome t own). by_stopped s.0 s.1) (λ (r : (t : Tripped) × IsRefused limits index max v search e a.outcome t own). by_refused r.0 r.1) k)
        h
