-- How the answer to a search is put together.
use Rattle.std.specs.Prelude.{◌≡◌, ◌≢◌, ◌≤◌, ◌||◌, refl, ℕ, ◌+◌, Bool, true, false, List, [], IsPermutation, IfErr, IfOk, OnErr, Option, Some, None, Result, Ok, Err, is_some, length, map}
use Rattle.std.proofs.Common.{◌∙◌, sym, ap, subst, arith, inl, inr}
use Rattle.std.proofs.lemmas.List.Sorted.{IsPermutation-refl}
use Rattle.agg_evaluation.specs.Cost.{cost}
use Rattle.agg_model.specs.declared.aggregation.Search.{Search}
use Rattle.agg_model.specs.declared.breaker.Limits.{Limits}
use Rattle.agg_model.specs.declared.breaker.Tripped.{Tripped}
use Rattle.agg_model.specs.declared.breaker.Which.{Which}
use Rattle.agg_model.specs.declared.breaker.Which.TheVariants.{Request, Fielddata, Inflight}
use Rattle.agg_model.specs.declared.outcome.Answered.{Answered}
use Rattle.agg_model.specs.declared.outcome.Outcome.{Outcome}
use Rattle.agg_model.specs.declared.outcome.Outcome.TheVariants as ended
use Rattle.agg_search.specs.declared.paging.Found.{Found}
use Rattle.agg_spec.specs.Charges.{Amounts, no_amounts, one_at}
use Rattle.agg_spec.specs.Failures.{unfailed}
use Rattle.agg_spec.specs.Index.{Index}
use Rattle.agg_spec.specs.Outcome.{response_length, whole_of}
use Rattle.agg_spec.specs.Rises.{merge_charge}
use Rattle.batch_reduce.specs.Parts.{cost_of_parts}
use Rattle.batch_reduce.specs.Reduced.{at_both}
use Rattle.breaker_words.specs.Views.{hold_of}
use Rattle.breaker_words.specs.declared.view.View.{View}
use Rattle.shard_pool.specs.declared.search_end.SearchEnd.{SearchEnd}
use Rattle.wave_answers.specs.Charging.{HasPlace, IsRefusedCharge}
use Rattle.wave_answers.specs.Ended.{IsAnswer, IsEnd, outcome_at}
use Rattle.wave_answers.specs.Merged.{AreWholes, HasPlaceBeside}
use Rattle.wave_answers.specs.Rising.{HasRisen}
use Rattle.wave_answers.proofs.Charges.{holds-fall}
use Rattle.wave_answers.proofs.Rises.{none-first, rises-as, rises-join}

-- a refusal of at most so many bytes is one of at most more
pub more-bytes : (l : Limits) (v u : View) (b c g : ℕ) (t : Tripped) → b ≤ c → IsRefusedCharge l v b g t u → IsRefusedCharge l v c g t u
more-bytes l v u b c g t le r = record {
  breaker = r.breaker;
  limit = r.limit;
  above = r.above;
  within = (let w = r.within in omega (arith, w));
  risen = r.risen;
}

-- `v` is the pass with the parts, `w` with their result
module _ (l : Limits) (v w : View) (parts result : ℕ) (held : (x : Which) → hold_of w x + at_both parts x ≡ hold_of v x + at_both result x) where
  pub still-kept : (u : View) → hold_of w Request ≤ hold_of u Request → hold_of v Request ≤ hold_of u Request + parts
  still-kept u kept = let h = held Request in omega (arith, h)

  pub place-beside : (n : ℕ) → parts ≤ hold_of v Request → HasPlace l w n → HasPlaceBeside l v result n
  place-beside n all p =
      let a = held Request in let b = held Fielddata in let c = held Inflight in let d = p.at_request in let e = p.at_parent in
      record { at_request = omega (arith, a, d); at_parent = omega (arith, a, b, c, e) }

  -- the charge of the response was refused, once the merge was granted
  pub refused-then : (u : View) (n g : ℕ) (t : Tripped) → result ≤ parts → HasRisen g no_amounts v w → IsRefusedCharge l w n 0 t u → IsRefusedCharge l v (parts + n) g t u
  refused-then u n g t less merged r = record {
    breaker = r.breaker;
    limit = r.limit;
    above = r.above;
    within = (let a = r.within in let b = holds-fall v w parts result less held t.which in omega (arith, a, b));
    risen = rises-as (g + 0) g _ (one_at t.which) v u (rises-join g 0 no_amounts (one_at t.which) v w u merged r.risen) (omega arith) (none-first (one_at t.which));
  }

-- the response of an outcome
pub line-length : (o : Outcome) (line : List ℕ) → o ≡ ended.Response line → response_length o ≡ length line
line-length o line e = ap response_length e

-- where the search has a result, its parts are the wholes of the shards that are left; and none where no shard is
pub wholes-of-end : (index : Index) (search : Search) (e : SearchEnd) → IsEnd index search e → e.memory ≡ false → (is_some e.refused ≡ true → unfailed index e.failures ≡ [])
    → AreWholes index search (unfailed index e.failures) e.parts
wholes-of-end index search e end memory none = by_refusal (is_some e.refused) refl
  where
    by_refusal : (b : Bool) → is_some e.refused ≡ b → AreWholes index search (unfailed index e.failures) e.parts
    by_refusal false is =
        let parts = end.parts (ap (λ c. c || e.memory) is ∙ memory) in
        record { groups = parts.groups; some = parts.some; parts_are = parts.parts; each = parts.each }
    by_refusal true is = record {
      groups = [];
      some = tt;
      parts_are = end.stopped (ap (λ c. c || e.memory) is);
      each = subst (λ (ns : List ℕ). IsPermutation ns []) (sym (none is)) (IsPermutation-refl []);
    }

module _ (limits : Limits) (index : Index) (max : ℕ) (v : View) (search : Search) (e : SearchEnd) (memory : e.memory ≡ false) where
  -- a refusal of its tasks or merges
  pub stopped-answer : (t : Tripped) → e.refused ≡ Some t → unfailed index e.failures ≢ []
      → IsAnswer limits index max v search e (record { outcome = ended.Tripped t; failures = e.failures }) 0 no_amounts
  stopped-answer t refused left = record {
    failures_are = refl;
    memory = memory;
    is = inr (inl (t, record { refused = refused; outcome_is = refl; left = left; none = refl }));
  }

  -- the whole reduction
  pub reduced-answer : (o : Outcome) → (is_some e.refused ≡ true → unfailed index e.failures ≡ []) → o ≡ outcome_at index max search e
      → ((line : List ℕ) → o ≡ ended.Response line → HasPlaceBeside limits v (cost (whole_of index search (unfailed index e.failures))) (length line))
      → IsAnswer limits index max v search e (record { outcome = o; failures = e.failures }) (merge_charge (map cost e.parts) + response_length o) no_amounts
  reduced-answer o passed same place = record {
    failures_are = refl;
    memory = memory;
    is = inl (record {
      outcome_is = same;
      passed_over = passed;
      charged_is = λ _. refl;
      none = refl;
      room = λ line is. record { at_request = (place line is).at_request; at_parent = (place line is).at_parent };
    });
  }

  going-on : (o : Option Tripped) → e.refused ≡ o → (is_some e.refused ≡ true → unfailed index e.failures ≡ []) → unfailed index e.failures ≢ [] → e.refused ≡ None
  going-on None is passed left = is
  going-on (Some t) is passed left = absurd (left (passed (ap is_some is)))

  -- a refusal of the last merge or of the response
  pub refused-answer : (t : Tripped) (granted : ℕ) (u : View) → (is_some e.refused ≡ true → unfailed index e.failures ≡ []) → unfailed index e.failures ≢ []
      → IsRefusedCharge limits v (cost_of_parts e.parts + response_length (outcome_at index max search e)) granted t u
      → IsAnswer limits index max v search e (record { outcome = ended.Tripped t; failures = e.failures }) granted (one_at t.which)
  refused-answer t granted u passed left r = record {
    failures_are = refl;
    memory = memory;
    is = inr (inr (
      t,
      record {
        going = going-on e.refused refl passed left;
        outcome_is = refl;
        left = left;
        breaker = r.breaker;
        limit = r.limit;
        above = r.above;
        within = (let a = r.within in omega (arith, a));
        one = refl;
      },
    ));
  }

  -- the same of what the search came to
  pub left-answer : (u : View) (r : Result Found Tripped) (f : Found) → r ≡ Ok f → (is_some e.refused ≡ true → unfailed index e.failures ≡ [])
      → IfOk r (λ (g : Found). g.outcome ≡ outcome_at index max search e)
      → IfOk r (λ (g : Found). (line : List ℕ) → g.outcome ≡ ended.Response line → HasPlaceBeside limits v (cost (whole_of index search (unfailed index e.failures))) (length line))
      → IfOk r (λ (g : Found). HasRisen (merge_charge (map cost e.parts) + response_length g.outcome) no_amounts v u)
      → (charged : ℕ) × (trips : Amounts) × IsAnswer limits index max v search e (record { outcome = f.outcome; failures = e.failures }) charged trips × HasRisen charged trips v u
  left-answer u r f is passed outcome place risen =
      let same = subst (λ q. IfOk q (λ (g : Found). g.outcome ≡ outcome_at index max search e)) is outcome in
      let room = subst (λ q. IfOk q (λ (g : Found). (line : List ℕ) → g.outcome ≡ ended.Response line → HasPlaceBeside limits v (cost (whole_of index search (unfailed index e.failures))) (length line))) is place in
      let rise = subst (λ q. IfOk q (λ (g : Found). HasRisen (merge_charge (map cost e.parts) + response_length g.outcome) no_amounts v u)) is risen in
      (merge_charge (map cost e.parts) + response_length f.outcome, no_amounts, reduced-answer f.outcome passed same room, rise)

  pub left-refused : (u : View) (r : Result Found Tripped) (t : Tripped) (a : Answered) → r ≡ Err t → a ≡ record { outcome = ended.Tripped t; failures = e.failures }
      → (is_some e.refused ≡ true → unfailed index e.failures ≡ [])
      → IfErr r (λ (s : Tripped). (granted : ℕ) × IsRefusedCharge limits v (cost_of_parts e.parts + response_length (outcome_at index max search e)) granted s u)
      → OnErr r (unfailed index e.failures ≢ [])
      → (charged : ℕ) × (trips : Amounts) × IsAnswer limits index max v search e a charged trips × HasRisen charged trips v u
  left-refused u r t a is same passed refused left =
      let some = subst (λ q. OnErr q (unfailed index e.failures ≢ [])) is left in
      let by = subst (λ q. IfErr q (λ (s : Tripped). (granted : ℕ) × IsRefusedCharge limits v (cost_of_parts e.parts + response_length (outcome_at index max search e)) granted s u)) is refused in (
        by.0,
        one_at t.which,
        subst (λ (b : Answered). IsAnswer limits index max v search e b by.0 (one_at t.which)) (sym same) (refused-answer t by.0 u passed some by.1),
        by.1.risen,
      )
