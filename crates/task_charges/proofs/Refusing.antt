-- A refused charge, after which all is given back.
use Rattle.std.specs.Prelude.{◌≡◌, refl, ◌⊎◌, ℕ, suc, ℤ, pos, ◌-ℤ◌, ◌+ℤ◌, ◌+◌, ◌-◌, ◌≤◌, ◌<◌, max, List, ◌∷◌, ◌++◌, length, take, Some, slice_get}
use Rattle.std.proofs.Common.{sym, ◌∙◌, ap, subst, arith, inl, inr, ⊎_elim}
use Rattle.std.proofs.Math.Seq.{take-append_seam}
use Rattle.std.proofs.lemmas.Bool.{cases_lt}
use Rattle.std.proofs.lemmas.Int.{ints}
use Rattle.agg_evaluation.specs.Shard.{int_sum}
use Rattle.agg_evaluation.specs.Trace.{sum_before}
use Rattle.agg_model.specs.Breakers.{limit_of}
use Rattle.agg_model.specs.declared.breaker.Child.TheVariants as child
use Rattle.agg_model.specs.declared.breaker.Limits.{Limits}
use Rattle.agg_model.specs.declared.breaker.Tripped.{Tripped}
use Rattle.agg_model.specs.declared.breaker.Which.{Which}
use Rattle.agg_model.specs.declared.breaker.Which.TheVariants.{Request, Fielddata, Inflight, Parent}
use Rattle.breaker_tree.specs.Charge.{IsGivenBack, IsTripped}
use Rattle.breaker_words.specs.Breakers.{counter_value}
use Rattle.breaker_words.specs.Views.{hold_of, most_of}
use Rattle.breaker_words.specs.declared.view.View.{View}
use Rattle.growth_laws.proofs.Paying.{paid-within}
use Rattle.growth_laws.specs.Amounts.{charged}
use Rattle.growth_laws.specs.Paid.{IsPaid, Standing}
use Rattle.growth_laws.specs.Refused.{IsRefusedAt, StaysWithin}
use Rattle.task_charges.proofs.Fronts.{front-here, front-next, front-some}
use Rattle.task_charges.proofs.Steps.{again, untouched-back}
use Rattle.task_charges.specs.Charged.{HasPaid, standing_at}
use Rattle.task_charges.specs.Ended.{IsGivenUp, IsMostAfter, IsRefused}

either : (k m n : ℕ) → k ≤ max m n → (k ≤ m) ⊎ (k ≤ n)
either k m n h = ⊎_elim (λ (l : m < n). inr (omega arith)) (λ (l : n ≤ m). inl (omega arith)) (cases_lt m n)

-- what was held after some of the first amounts
most-front : (ns more : List ℤ) (s : Standing) (k : ℕ) → IsMostAfter ns s k → IsMostAfter (ns ++ more) s k
most-front ns more s k h = ⊎_elim (λ (e : k ≤ s.most). inl e) (λ f. let g = front-some ns more f.0 in inr (g.0, (let a = f.1 in let b = g.1 in omega (arith, ints)))) h

most-next : (limit : ℕ) (s t : Standing) (ns more : List ℤ) (x : ℤ) (a k : ℕ) → IsPaid limit s t ns → x ≡ pos a → k ≤ max t.most (t.hold + a) → IsMostAfter (ns ++ x ∷ more) s k
most-next limit s t ns more x a k p e h = ⊎_elim
    (λ (f : k ≤ t.most). most-front ns (x ∷ more) s k (⊎_elim (λ (g : t.most ≤ s.most). inl (omega arith)) (λ g. inr (g.0, (let b = g.1 in omega (arith, ints)))) p.most_is))
    (λ (f : k ≤ t.hold + a). let next = front-next ns x more in let held = p.held in inr (suc (length ns), omega (arith, ints)))
    (either k t.most (t.hold + a) h)

-- the parts of the pass after a return of all that the task held
module _ (l : Limits) (v u : View) (ns : List ℤ) (paid : HasPaid l v u ns) (held : ℕ) (all : pos held ≡ int_sum ns) where
  -- the hold of the task, at request and at the parent
  own : (x : Which) → (x ≡ Request) ⊎ (x ≡ Parent) → pos (hold_of u x) ≡ pos (hold_of v x) +ℤ int_sum ns
  own x which = ⊎_elim
      (λ (e : x ≡ Request). subst (λ y. pos (hold_of u y) ≡ pos (hold_of v y) +ℤ int_sum ns) (sym e) paid.request.held)
      (λ (e : x ≡ Parent). subst (λ y. pos (hold_of u y) ≡ pos (hold_of v y) +ℤ int_sum ns) (sym e) paid.parent.held) which

  back-holds : (w y : View) → ((x : Which) → hold_of w x ≡ hold_of u x) → IsGivenBack w child.Request held y → (x : Which) → hold_of y x ≡ hold_of v x
  back-holds w y same back Request = let e = same Request in let h = back.holds Request in let p = paid.request.held in omega (arith, ints)
  back-holds w y same back Fielddata = let e = same Fielddata in let h = back.holds Fielddata in let p = ap (λ b. b.hold) (paid.untouched Fielddata (λ z. cc) (λ z. cc)) in omega arith
  back-holds w y same back Inflight = let e = same Inflight in let h = back.holds Inflight in let p = ap (λ b. b.hold) (paid.untouched Inflight (λ z. cc) (λ z. cc)) in omega arith
  back-holds w y same back Parent = let e = same Parent in let h = back.holds Parent in let p = paid.parent.held in omega (arith, ints)

  pub given-up : (y : View) → IsGivenBack u child.Request held y → IsGivenUp v y ns
  given-up y back = record {
    back = record {
      same = again v u y paid.same back.same;
      holds = back-holds u y (λ x. refl) back;
      granted_request = back.granted Request ∙ paid.request.granted_is;
      granted_parent = back.granted Parent ∙ paid.parent.granted_is;
      most_request = subst (IsMostAfter ns (standing_at v Request)) (sym (back.most Request)) paid.request.most_is;
      most_parent = subst (IsMostAfter ns (standing_at v Parent)) (sym (back.most Parent)) paid.parent.most_is;
      seen = λ x. (let a = back.seen x in let b = paid.seen x in omega arith);
      untouched = λ x r p. untouched-back u y held back x r p ∙ paid.untouched x r p;
    };
    trips = λ x. back.trips x ∙ paid.trips x;
  }

  module _ (wanted : ℕ) (above : held < wanted) (more : List ℤ) (t : Tripped) (w : View) (tripped : IsTripped l u child.Request (wanted - held) t w) where
    abbrev x : ℤ
    x = pos wanted -ℤ pos held

    x-is : x ≡ pos (wanted - held)
    x-is = omega (arith, ints)

    abbrev amounts : List ℤ
    amounts = ns ++ x ∷ more

    first : take (length ns) amounts ≡ ns
    first = take-append_seam ns (x ∷ more)

    sum : sum_before amounts (length ns) ≡ int_sum ns
    sum = ap int_sum first

    by_one : (t.which ≡ Request) ⊎ (t.which ≡ Parent)
    by_one = ⊎_elim (λ (e : t.which ≡ Request). inl e) (λ h. inr h.0) tripped.refused_by

    stays : (limit : ℕ) (s r : Standing) → IsPaid limit s r ns → StaysWithin amounts (length ns) s.hold limit
    stays limit s r p = paid-within limit s r amounts (length ns) (subst (IsPaid limit s r) (sym first) p)

    refused-at : IsRefusedAt amounts (hold_of v) (limit_of l) (v.total - v.cap) (length ns) (charged ns) t
    refused-at =
        let total = paid.same.total in let cap = paid.same.cap in let held_there = own t.which by_one in let same = sum in
        let least = tripped.least in let bounded = tripped.bounded in
        (record {
          amount = wanted - held;
          here = subst (λ y. slice_get (ns ++ y ∷ more) (length ns) ≡ Some (pos (wanted - held))) (sym x-is) (front-here ns (pos (wanted - held)) more);
          above_zero = omega arith;
          granted_is = sym (ap charged first);
          request = stays l.request (standing_at v Request) (standing_at u Request) paid.request;
          parent = stays l.parent (standing_at v Parent) (standing_at u Parent) paid.parent;
          refused_by = ⊎_elim (λ (e : t.which ≡ Request). inl e) (λ h. inr (h.0, (let room = h.1 in let p = paid.request.held in omega (arith, ints)))) tripped.refused_by;
          limit_is = tripped.limit;
          above = tripped.above;
          least = omega (arith, ints);
          most = omega (arith, ints);
        })

    pub refused : (y : View) → IsGivenBack w child.Request held y → IsRefused l v y amounts t
    refused y back = record {
      place = length ns;
      granted = charged ns;
      refused = refused-at;
      back = record {
        same = again v w y (again v u w paid.same tripped.same) back.same;
        holds = back-holds w y tripped.holds back;
        granted_request = back.granted Request ∙ tripped.granted Request ∙ paid.request.granted_is;
        granted_parent = back.granted Parent ∙ tripped.granted Parent ∙ paid.parent.granted_is;
        most_request = most-next l.request (standing_at v Request) (standing_at u Request) ns more x (wanted - held) (most_of y Request) paid.request x-is
            (let a = back.most Request in let b = tripped.most Request in omega arith);
        most_parent = most-next l.parent (standing_at v Parent) (standing_at u Parent) ns more x (wanted - held) (most_of y Parent) paid.parent x-is
            (let a = back.most Parent in let b = tripped.most Parent in omega arith);
        seen = λ z. (let a = back.seen z in let b = tripped.seen z in let c = paid.seen z in omega arith);
        untouched = λ z r p. untouched-back w y held back z r p ∙ tripped.untouched z r p ∙ paid.untouched z r p;
      };
      trip = back.trips t.which ∙ tripped.trip ∙ ap (λ n. counter_value (n + 1)) (paid.trips t.which);
      trips = λ z other. back.trips z ∙ tripped.trips z other ∙ paid.trips z;
      seen_there = (let a = back.seen t.which in let b = tripped.seen_there in omega arith);
    }
