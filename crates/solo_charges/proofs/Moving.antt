-- Amounts of a task that stay within the limits are granted, one after another.
use Rattle.std.specs.Prelude.{◌≡◌, refl, ℕ, suc, ◌+◌, ◌≤◌, ◌==◌, ℤ, pos, negsuc, ◌+ℤ◌, ◌≤ℤ◌, if◌then◌else◌, Bool, true, false, List, [], ◌∷◌, flat_map, take, None}
use Rattle.std.proofs.Common.{◌∙◌, sym, subst, arith}
use Rattle.std.proofs.lemmas.Bool.{eqb-true}
use Rattle.std.proofs.lemmas.Int.{ints}
use Rattle.agg_evaluation.specs.Shard.{int_sum}
use Rattle.agg_model.specs.declared.breaker.Child.TheVariants as child
use Rattle.agg_model.specs.declared.breaker.Limits.{Limits}
use Rattle.agg_spec.specs.Charges.{Run, Step, charge, give_back, run}
use Rattle.agg_spec.specs.Reduction.{amount_step}
use Rattle.agg_spec.proofs.SoloLaws.{run-append}
use Rattle.growth_laws.specs.Amounts.{charged}
use Rattle.solo_charges.proofs.OneCharge.{no-refusal, granted-step, one-step}

-- these amounts were charged and given back at request, all of them granted
pub record IsMoved (ns : List ℤ) (r q : Run) : Type 0 where
  pub going : q.refused ≡ None
  pub trips : q.trips ≡ r.trips
  pub request : pos q.holds.request ≡ (pos r.holds.request +ℤ int_sum ns)
  pub parent : pos q.holds.parent ≡ (pos r.holds.parent +ℤ int_sum ns)
  pub fielddata : q.holds.fielddata ≡ r.holds.fielddata
  pub inflight : q.holds.inflight ≡ r.holds.inflight
  pub granted_request : q.granted.request ≡ r.granted.request + charged ns
  pub granted_parent : q.granted.parent ≡ r.granted.parent + charged ns
  pub granted_fielddata : q.granted.fielddata ≡ r.granted.fielddata
  pub granted_inflight : q.granted.inflight ≡ r.granted.inflight

-- after so many of the amounts, a breaker that held so much holds nothing negative, and no more than its limit
pub record Stays (ns : List ℤ) (hold limit : ℕ) : Type 0 where
  pub low : (n : ℕ) → pos 0 ≤ℤ (pos hold +ℤ int_sum (take n ns))
  pub high : (n : ℕ) → (pos hold +ℤ int_sum (take n ns)) ≤ℤ pos limit

charged-cons : (a : ℤ) (ns : List ℤ) → charged (a ∷ ns) ≡ charged (a ∷ []) + charged ns
charged-cons (pos n) ns = omega arith
charged-cons (negsuc n) ns = omega arith

module _ (l : Limits) where
  nothing-moved : (r : Run) → r.refused ≡ None → (n : ℕ) → n ≡ 0 → IsMoved (pos n ∷ []) r r
  nothing-moved r going n z = record {
    going = going;
    trips = refl;
    request = omega (arith, ints);
    parent = omega (arith, ints);
    fielddata = refl;
    inflight = refl;
    granted_request = omega arith;
    granted_parent = omega arith;
    granted_fielddata = refl;
    granted_inflight = refl;
  }

  charge-moved : (r : Run) (n : ℕ) → r.refused ≡ None → r.holds.request + n ≤ l.request → r.holds.parent + n ≤ l.parent → IsMoved (pos n ∷ []) r (run l r (charge child.Request n ∷ []))
  charge-moved r n going request parent =
      subst (IsMoved (pos n ∷ []) r) (sym (granted-step l r child.Request n going (no-refusal l r.holds child.Request n request parent))) (record {
        going = going;
        trips = refl;
        request = omega (arith, ints);
        parent = omega (arith, ints);
        fielddata = refl;
        inflight = refl;
        granted_request = omega arith;
        granted_parent = omega arith;
        granted_fielddata = refl;
        granted_inflight = refl;
      })

  return-moved : (r : Run) (n : ℕ) → r.refused ≡ None → suc n ≤ r.holds.request → suc n ≤ r.holds.parent → IsMoved (negsuc n ∷ []) r (run l r (give_back child.Request (suc n) ∷ []))
  return-moved r n going request parent =
      subst (IsMoved (negsuc n ∷ []) r) (sym (one-step l r (give_back child.Request (suc n)) going)) (record {
        going = going;
        trips = refl;
        request = omega (arith, ints);
        parent = omega (arith, ints);
        fielddata = refl;
        inflight = refl;
        granted_request = omega arith;
        granted_parent = omega arith;
        granted_fielddata = refl;
        granted_inflight = refl;
      })

  moved-one : (a : ℤ) (r : Run) → r.refused ≡ None → pos 0 ≤ℤ (pos r.holds.request +ℤ a) → (pos r.holds.request +ℤ a) ≤ℤ pos l.request
      → pos 0 ≤ℤ (pos r.holds.parent +ℤ a) → (pos r.holds.parent +ℤ a) ≤ℤ pos l.parent → IsMoved (a ∷ []) r (run l r (amount_step a))
  moved-one (pos n) r going low high parent_low parent_high = by_zero (n == 0) refl
    where
      steps : Bool → List Step
      steps b = if b then [] else charge child.Request n ∷ []

      by_zero : (b : Bool) → (n == 0) ≡ b → IsMoved (pos n ∷ []) r (run l r (amount_step (pos n)))
      by_zero true z = subst (λ b. IsMoved (pos n ∷ []) r (run l r (steps b))) (sym z) (nothing-moved r going n (eqb-true n 0 z))
      by_zero false z = subst (λ b. IsMoved (pos n ∷ []) r (run l r (steps b))) (sym z) (charge-moved r n going (omega (arith, ints)) (omega (arith, ints)))
  moved-one (negsuc n) r going low high parent_low parent_high = by_zero (suc n == 0) refl
    where
      steps : Bool → List Step
      steps b = if b then [] else give_back child.Request (suc n) ∷ []

      by_zero : (b : Bool) → (suc n == 0) ≡ b → IsMoved (negsuc n ∷ []) r (run l r (amount_step (negsuc n)))
      by_zero true z = let none : suc n ≡ 0 = eqb-true (suc n) 0 z in absurd (omega (arith, none))
      by_zero false z = subst (λ b. IsMoved (negsuc n ∷ []) r (run l r (steps b))) (sym z) (return-moved r n going (omega (arith, ints)) (omega (arith, ints)))

  stays-first : (a : ℤ) (rest : List ℤ) (hold limit : ℕ) → Stays (a ∷ rest) hold limit → (pos 0 ≤ℤ (pos hold +ℤ a)) × ((pos hold +ℤ a) ≤ℤ pos limit)
  stays-first a rest hold limit s = let low = s.low 1 in let high = s.high 1 in (omega (arith, ints), omega (arith, ints))

  stays-rest : (a : ℤ) (rest : List ℤ) (hold next limit : ℕ) → Stays (a ∷ rest) hold limit → pos next ≡ (pos hold +ℤ int_sum (a ∷ [])) → Stays rest next limit
  stays-rest a rest hold next limit s e = record {
    low = λ n. (let low = s.low (suc n) in omega (arith, ints));
    high = λ n. (let high = s.high (suc n) in omega (arith, ints));
  }

  both-moved : (a : ℤ) (rest : List ℤ) (r q s : Run) → IsMoved (a ∷ []) r q → IsMoved rest q s → IsMoved (a ∷ rest) r s
  both-moved a rest r q s one more =
      let all = charged-cons a rest in
      let r1 = one.request in let r2 = more.request in let p1 = one.parent in let p2 = more.parent in
      let g1 = one.granted_request in let g2 = more.granted_request in let h1 = one.granted_parent in let h2 = more.granted_parent in
      (record {
        going = more.going;
        trips = more.trips ∙ one.trips;
        request = omega (arith, ints);
        parent = omega (arith, ints);
        fielddata = more.fielddata ∙ one.fielddata;
        inflight = more.inflight ∙ one.inflight;
        granted_request = omega arith;
        granted_parent = omega arith;
        granted_fielddata = more.granted_fielddata ∙ one.granted_fielddata;
        granted_inflight = more.granted_inflight ∙ one.granted_inflight;
      })

  pub moved-all : (ns : List ℤ) (r : Run) → r.refused ≡ None → Stays ns r.holds.request l.request → Stays ns r.holds.parent l.parent → IsMoved ns r (run l r (flat_map amount_step ns))
  moved-all [] r going request parent = record {
    going = going;
    trips = refl;
    request = omega (arith, ints);
    parent = omega (arith, ints);
    fielddata = refl;
    inflight = refl;
    granted_request = omega arith;
    granted_parent = omega arith;
    granted_fielddata = refl;
    granted_inflight = refl;
  }
  moved-all (a ∷ rest) r going request parent =
      let first = stays-first a rest r.holds.request l.request request in
      let first_parent = stays-first a rest r.holds.parent l.parent parent in
      let one = moved-one a r going first.0 first.1 first_parent.0 first_parent.1 in
      let q = run l r (amount_step a) in
      subst (IsMoved (a ∷ rest) r) (sym (run-append l r (amount_step a) (flat_map amount_step rest)))
      (both-moved a rest r q (run l q (flat_map amount_step rest)) one
      (moved-all rest q one.going (stays-rest a rest r.holds.request q.holds.request l.request request one.request)
      (stays-rest a rest r.holds.parent q.holds.parent l.parent parent one.parent)))
