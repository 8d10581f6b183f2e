-- How one search may be answered whose tasks have run: its failures, its outcome, and what had room.
use Rattle.std.specs.Prelude.{◌≡◌, ◌≢◌, refl, ◌≤◌, ◌<◌, ℕ, ◌*◌, ◌||◌, All, Bool, true, false, IsTrue, List, [], ◌∷◌, ◌++◌, map, length, option_to_list, is_some, Option, Some, None}
use Rattle.std.specs.List.{AllByRecursion}
use Rattle.std.proofs.Common.{inl, inr, sym, ap, subst, ◌∙◌, ⊎_elim, arith}
use Rattle.std.proofs.lemmas.List.Elements.{All-from_recursion, All-map}
use Rattle.agg_evaluation.specs.Cost.{cost}
use Rattle.agg_model.specs.declared.aggregation.Search.{Search}
use Rattle.agg_model.specs.declared.breaker.Tripped.{Tripped}
use Rattle.agg_model.specs.declared.outcome.Answered.{Answered}
use Rattle.agg_model.specs.declared.outcome.Failure.{Failure}
use Rattle.agg_model.specs.declared.outcome.Outcome.{Outcome}
use Rattle.agg_model.specs.declared.outcome.Outcome.TheVariants as ended
use Rattle.agg_model.specs.declared.settings.Settings.{Settings}
use Rattle.agg_spec.specs.Charges.{Amounts}
use Rattle.agg_spec.specs.Failures.{AreFailures, unfailed}
use Rattle.agg_spec.specs.Index.{Index}
use Rattle.agg_spec.specs.Outcome.{Request as AnyRequest, outcome, outcome_of_shards, response_length, whole_of}
use Rattle.agg_spec.specs.Rounds.{response_bytes}
use Rattle.agg_spec.specs.Wave.{AreAllowed, IsEnded, IsSeen, MayAnswer, MayEnd, PeaksFit, ResponseFits, allows_partial, result_cost, search_in, task_peaks}
use Rattle.breaker_words.specs.declared.view.View.{View}
use Rattle.shard_pool.proofs.Each.{each-image, each-step}
use Rattle.shard_pool.specs.Ends.{IsTold, is_stopped}
use Rattle.shard_pool.specs.declared.search_end.SearchEnd.{SearchEnd}
use Rattle.wave_answers.specs.Ended.{HasRoom, IsAnswer, IsReduced, IsRefused, IsStopped, outcome_at}
use Rattle.wave_bodies.specs.Asking.{IsRunAs}
use Rattle.search_wave.proofs.AllowedEnds.{HadRoom, HasEnded}
use Rattle.search_wave.proofs.AllowedLists.{each-behind, some-left}
use Rattle.search_wave.proofs.AllowedSeen.{IsWithin, charge-seen, told-seen}
use Rattle.search_wave.proofs.AllowedSums.{search_peaks, shard_peak}

-- where no shard is left, the outcome is the refusal of the first that failed
none-left : (index : Index) (max : ℕ) (search : Search) (fs : List Failure) → 0 < length index.shards → unfailed index fs ≡ []
    → (t : Tripped) × (outcome_of_shards index max search fs (unfailed index fs) ≡ ended.Tripped t)
none-left index max search [] some none = absurd (some-left index some none)
none-left index max search (f ∷ fs) some none = (f.tripped, ap (outcome_of_shards index max search (f ∷ fs)) none)

module _ (settings : Settings) (index : Index) (some : 0 < length index.shards) (columns bodies peaks responses ceiling : ℕ) (view : View) (known : IsWithin columns bodies peaks responses ceiling view) where
  abbrev max : ℕ
  max = settings.max_buckets

  module _ (r : AnyRequest) (search : Search) (run : IsRunAs index r search) where
    search-runs : search_in settings index columns r ≡ Some search
    search-runs = run.runs settings.max_buckets

    runs-some : IsTrue (is_some (search_in settings index columns r))
    runs-some = ap is_some search-runs

    -- the tasks of some shards had room
    peaks-fit : (shards : List ℕ) → AllByRecursion (HadRoom settings.limits index search) shards → PeaksFit settings index columns r shards
    peaks-fit shards h = record {
      at_request = subst (λ o. All (λ p. p ≤ settings.limits.request) (task_peaks index o shards)) (sym search-runs)
          (All-map (λ p. p ≤ settings.limits.request) (shard_peak index search) shards
          (All-from_recursion (λ shard. shard_peak index search shard ≤ settings.limits.request) shards
          (each-step (HadRoom settings.limits index search) (λ shard. shard_peak index search shard ≤ settings.limits.request) (λ shard one. one.at_request) shards h)));
      at_parent = subst (λ o. All (λ p. p ≤ settings.limits.parent) (task_peaks index o shards)) (sym search-runs)
          (All-map (λ p. p ≤ settings.limits.parent) (shard_peak index search) shards
          (All-from_recursion (λ shard. shard_peak index search shard ≤ settings.limits.parent) shards
          (each-step (HadRoom settings.limits index search) (λ shard. shard_peak index search shard ≤ settings.limits.parent) (λ shard one. one.at_parent) shards h)));
    }

    module _ (e : SearchEnd) (end : HasEnded settings.limits index view search e) where
      -- each shard that is left out is told of, and the search allows that
      failures-seen : AllByRecursion (λ (f : Failure). IsSeen settings index columns ceiling f.tripped) e.failures
      failures-seen =
          each-step (λ (f : Failure). IsTold settings.limits view f.tripped) (λ (f : Failure). IsSeen settings index columns ceiling f.tripped)
          (λ f told. told-seen settings index columns bodies peaks responses ceiling view known f.tripped told) e.failures
          (each-image (IsTold settings.limits view) (λ (f : Failure). f.tripped) e.failures
          (each-behind (IsTold settings.limits view) (option_to_list e.refused) (map (λ (f : Failure). f.tripped) e.failures) end.told))

      partial-where : (f : Failure) (fs : List Failure) → e.failures ≡ f ∷ fs → IsTrue (allows_partial r.search)
      partial-where f fs is = subst (λ o. IsTrue (allows_partial o)) (sym run.search_is) (by_partial search.partial refl)
        where
          by_partial : (b : Bool) → search.partial ≡ b → IsTrue search.partial
          by_partial true s = s
          by_partial false s = absurd (let none : f ∷ fs ≡ [] = sym is ∙ end.allowed s in let no : ⊥ = cc in no)

      failures-allowed : AreAllowed settings index columns ceiling r e.failures
      failures-allowed = by_failures e.failures refl
        where
          by_failures : (fs : List Failure) → e.failures ≡ fs → AreAllowed settings index columns ceiling r fs
          by_failures [] is = tt
          by_failures (f ∷ fs) is = record {
            runs = runs-some;
            allowed = partial-where f fs is;
            ascending = subst (AreFailures (length index.shards)) is end.ascending;
            seen = subst (AllByRecursion (λ (g : Failure). IsSeen settings index columns ceiling g.tripped)) is failures-seen;
          }

      -- a refusal that ended it is told of
      refusal-seen : (t : Tripped) → e.refused ≡ Some t → IsSeen settings index columns ceiling t
      refusal-seen t is =
          let told = subst (λ o. AllByRecursion (IsTold settings.limits view) (option_to_list o ++ map (λ (f : Failure). f.tripped) e.failures)) is end.told in
          told-seen settings index columns bodies peaks responses ceiling view known t told.0

      module _ (a : Answered) (same : a.failures ≡ e.failures) where
        abbrev Ends : Outcome → Type 0
        Ends o = MayEnd settings index columns ceiling r o a

        outcome-same : outcome index settings.max_buckets r a.failures ≡ outcome_at index settings.max_buckets search e
        outcome-same = run.outcome_is settings.max_buckets a.failures ∙ ap (λ fs. outcome_of_shards index settings.max_buckets search fs (unfailed index fs)) same

        left-same : unfailed index e.failures ≢ [] → unfailed index a.failures ≢ []
        left-same left = subst (λ fs. unfailed index fs ≢ []) (sym same) left

        cost-same : result_cost index (search_in settings index columns r) (unfailed index a.failures) ≡ cost (whole_of index search (unfailed index e.failures))
        cost-same = ap (λ o. result_cost index o (unfailed index a.failures)) search-runs ∙ ap (λ fs. cost (whole_of index search (unfailed index fs))) same

        response-fits : 2 * r.bytes ≤ bodies → (bytes : ℕ) → HasRoom settings.limits index settings.max_buckets view search e bytes
            → ResponseFits settings index columns r (unfailed index a.failures) bytes
        response-fits body bytes room = record {
          at_request = (let c = cost-same in let h = room.at_request in omega (arith, c, h));
          at_parent = (let c = cost-same in let h = room.at_parent in let f = known.fielddata in let i = known.inflight in omega (arith, c, h, f, i, body));
        }

        -- the answer of the whole reduction
        module _ (charged : ℕ) (trips : Amounts) (i : IsReduced settings.limits index settings.max_buckets view search e a.outcome charged trips) (memory : e.memory ≡ false) where
          reduced-is : a.outcome ≡ outcome index settings.max_buckets r a.failures
          reduced-is = i.outcome_is ∙ sym outcome-same

          -- unless it is a refusal, the search was not stopped
          going : (o : Outcome) → a.outcome ≡ o → ((t : Tripped) → o ≡ ended.Tripped t → ⊥) → is_stopped e ≡ false
          going o is other = by_refused e.refused refl
            where
              by_refused : (x : Option Tripped) → e.refused ≡ x → is_stopped e ≡ false
              by_refused None s = ap (λ y. is_some y || e.memory) s ∙ memory
              by_refused (Some t) s =
                  let none = none-left index settings.max_buckets search e.failures some (i.passed_over (ap is_some s)) in
                  absurd (other none.0 (sym is ∙ i.outcome_is ∙ none.1))

          fit : (o : Outcome) → a.outcome ≡ o → ((t : Tripped) → o ≡ ended.Tripped t → ⊥) → PeaksFit settings index columns r (unfailed index a.failures)
          fit o is other = peaks-fit (unfailed index a.failures) (subst (λ fs. AllByRecursion (HadRoom settings.limits index search) (unfailed index fs)) (sym same) (end.fits (going o is other)))

          reduced-ends : 2 * r.bytes ≤ bodies → (o : Outcome) → a.outcome ≡ o → Ends o
          reduced-ends body (ended.Response line) is = (reduced-is, fit (ended.Response line) is (λ t k. cc), response-fits body (length line) (i.room line is))
          reduced-ends body (ended.Refused x) is = (reduced-is, fit (ended.Refused x) is (λ t k. cc))
          reduced-ends body (ended.Tripped t) is = inl reduced-is
          reduced-ends body ended.Memory is = tt

        -- a breaker's refusal of a charge of the tasks, or of the last merge or the response
        ended-by : (t : Tripped) → a.outcome ≡ ended.Tripped t → unfailed index e.failures ≢ [] → IsSeen settings index columns ceiling t → Ends a.outcome
        ended-by t is left seen = subst Ends (sym is) (let one : IsEnded settings index columns ceiling r a.failures t = record { runs = runs-some; left = left-same left; seen = seen } in inr one)

        stopped-ends : (trips : Amounts) (t : Tripped) → IsStopped settings.limits index settings.max_buckets e a.outcome t trips → Ends a.outcome
        stopped-ends trips t i = ended-by t i.outcome_is i.left (refusal-seen t i.refused)

        refused-ends : search_peaks index search ≤ peaks → response_bytes index settings r a.failures ≤ responses
            → (trips : Amounts) (t : Tripped) → IsRefused settings.limits index settings.max_buckets view search e a.outcome t trips → Ends a.outcome
        refused-ends few short trips t i = ended-by t i.outcome_is i.left
            (let low = end.cost in let same-length = ap response_length outcome-same in
            charge-seen settings index columns bodies peaks responses ceiling view known t _ _ i.breaker i.limit i.above i.within (omega (arith, low, few)) (omega (arith, short, same-length)))

      pub run-allowed : (a : Answered) (charged : ℕ) (trips : Amounts) → IsAnswer settings.limits index settings.max_buckets view search e a charged trips
          → 2 * r.bytes ≤ bodies → search_peaks index search ≤ peaks → response_bytes index settings r a.failures ≤ responses → MayAnswer settings index columns ceiling r None a
      run-allowed a charged trips answer body few short = (
        subst (AreAllowed settings index columns ceiling r) (sym answer.failures_are) failures-allowed,
        ⊎_elim
            (λ i. reduced-ends a answer.failures_are charged trips i answer.memory body a.outcome refl)
            (λ rest. ⊎_elim (λ k. stopped-ends a answer.failures_are trips k.0 k.1) (λ k. refused-ends a answer.failures_are few short trips k.0 k.1) rest)
            answer.is,
      )
