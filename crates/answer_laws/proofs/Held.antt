-- What a task, a merge and a whole search hold: what they were granted and did not give back.
use Rattle.std.specs.Prelude.{◌≡◌, refl, ◌≤◌, ◌≤ℤ◌, ℕ, suc, ◌+◌, ◌-◌, ◌==◌, ℤ, pos, negsuc, ◌+ℤ◌, if◌then◌else◌, Bool, true, false, List, [], ◌∷◌, flat_map, take, Option, Some, None}
use Rattle.std.proofs.Common.{◌∙◌, ap, sym, subst, arith}
use Rattle.std.proofs.lemmas.Bool.{eqb-true}
use Rattle.std.proofs.lemmas.Int.{ints}
use Rattle.agg_model.specs.declared.breaker.Child.{Child}
use Rattle.agg_model.specs.declared.breaker.Child.TheVariants as child
use Rattle.agg_model.specs.declared.breaker.Limits.{Limits}
use Rattle.agg_model.specs.declared.breaker.Tripped.{Tripped}
use Rattle.agg_evaluation.specs.Shard.{int_sum}
use Rattle.agg_spec.specs.Charges.{Amounts, Step, Run, charge, give_back, run, stepped_unless, refusal_of, charged, lowered, charge_of, return_of}
use Rattle.agg_spec.specs.Reduction.{amount_step}
use Rattle.agg_spec.proofs.SoloLaws.{run-append, run-stopped}
use Rattle.answer_laws.specs.Held.{HoldsMore}

module _ (limits : Limits) where
  -- a run that is not refused was not before
  pub granted-before : (r : Run) (xs : List Step) → (run limits r xs).refused ≡ None → r.refused ≡ None
  granted-before r xs e = by_refusal r.refused refl
    where
      by_refusal : (o : Option Tripped) → r.refused ≡ o → r.refused ≡ None
      by_refusal None same = same
      by_refusal (Some t) same =
          absurd (let e : Some t ≡ None = sym same ∙ (sym (ap (λ (q : Run). q.refused) (run-stopped limits r t same xs)) ∙ e) in (let no : ⊥ = cc in no))

  -- a charge that does not end the run is held
  pub charge-held : (r : Run) (c : Child) (n : ℕ) (xs : List Step) → (run limits r (charge c n ∷ xs)).refused ≡ None
      → stepped_unless r.refused limits r (charge c n) ≡ charged None c n r
  charge-held r c n xs e = ap (λ o. stepped_unless o limits r (charge c n)) none ∙ by_refusal (refusal_of limits r.holds c n) refl
    where
      none : r.refused ≡ None
      none = granted-before r (charge c n ∷ xs) e

      after : (stepped_unless None limits r (charge c n)).refused ≡ None
      after = sym (ap (λ o. (stepped_unless o limits r (charge c n)).refused) none) ∙ granted-before (stepped_unless r.refused limits r (charge c n)) xs e

      by_refusal : (o : Option Tripped) → refusal_of limits r.holds c n ≡ o → charged (refusal_of limits r.holds c n) c n r ≡ charged None c n r
      by_refusal None same = ap (λ o. charged o c n r) same
      by_refusal (Some t) same = absurd (let e : Some t ≡ None = sym (ap (λ o. (charged o c n r).refused) same) ∙ after in (let no : ⊥ = cc in no))

  pub return-held : (r : Run) (c : Child) (n : ℕ) → r.refused ≡ None → stepped_unless r.refused limits r (give_back c n) ≡ record r { holds = lowered c n r.holds }
  return-held r c n none = ap (λ o. stepped_unless o limits r (give_back c n)) none

  -- a charge of so many bytes, or no step
  pub charge_of-held : (r : Run) (n : ℕ) → (run limits r (charge_of child.Request n)).refused ≡ None
      → HoldsMore n 0 r.holds (run limits r (charge_of child.Request n)).holds
  charge_of-held r n e = by_zero (n == 0) refl
    where
      steps : Bool → List Step
      steps b = if b then [] else charge child.Request n ∷ []

      by_zero : (b : Bool) → (n == 0) ≡ b → HoldsMore n 0 r.holds (run limits r (charge_of child.Request n)).holds
      by_zero true z =
          let nothing : n ≡ 0 = eqb-true n 0 z in
          subst (λ b. HoldsMore n 0 r.holds (run limits r (steps b)).holds) (sym z)
          (record { request = omega arith; fielddata = refl; inflight = omega arith; parent = omega arith })
      by_zero false z =
          let granted : (run limits r (charge child.Request n ∷ [])).refused ≡ None = sym (ap (λ b. (run limits r (steps b)).refused) z) ∙ e in
          subst (λ b. HoldsMore n 0 r.holds (run limits r (steps b)).holds) (sym z)
          (subst (λ (q : Run). HoldsMore n 0 r.holds q.holds) (sym (charge-held r child.Request n [] granted))
          (record { request = refl; fielddata = refl; inflight = omega arith; parent = omega arith }))

  pub return_of-held : (r : Run) (n : ℕ) → r.refused ≡ None → n ≤ r.holds.request → n ≤ r.holds.parent
      → HoldsMore n 0 (run limits r (return_of child.Request n)).holds r.holds
  return_of-held r n none at_request at_parent = by_zero (n == 0) refl
    where
      steps : Bool → List Step
      steps b = if b then [] else give_back child.Request n ∷ []

      by_zero : (b : Bool) → (n == 0) ≡ b → HoldsMore n 0 (run limits r (return_of child.Request n)).holds r.holds
      by_zero true z =
          let nothing : n ≡ 0 = eqb-true n 0 z in
          subst (λ b. HoldsMore n 0 (run limits r (steps b)).holds r.holds) (sym z)
          (record { request = omega arith; fielddata = refl; inflight = omega arith; parent = omega arith })
      by_zero false z =
          subst (λ b. HoldsMore n 0 (run limits r (steps b)).holds r.holds) (sym z)
          (subst (λ (q : Run). HoldsMore n 0 q.holds r.holds) (sym (return-held r child.Request n none))
          (record { request = omega arith; fielddata = refl; inflight = omega arith; parent = omega arith }))

  pub return_of-granted : (r : Run) (n : ℕ) → r.refused ≡ None → (run limits r (return_of child.Request n)).refused ≡ None
  return_of-granted r n none = by_zero (n == 0) refl
    where
      by_zero : (b : Bool) → (n == 0) ≡ b → (run limits r (return_of child.Request n)).refused ≡ None
      by_zero true z = ap (λ b. (run limits r (if b then [] else give_back child.Request n ∷ [])).refused) z ∙ none
      by_zero false z =
          ap (λ b. (run limits r (if b then [] else give_back child.Request n ∷ [])).refused) z
          ∙ (ap (λ (q : Run). q.refused) (return-held r child.Request n none) ∙ none)

  -- what is held after one amount of a task
  pub amount-held : (a : ℤ) (r : Run) (base : Amounts) (c : ℕ) → HoldsMore c 0 base r.holds → pos 0 ≤ℤ (pos c +ℤ a) → (run limits r (amount_step a)).refused ≡ None
      → (d : ℕ) × (pos d ≡ pos c +ℤ a) × HoldsMore d 0 base (run limits r (amount_step a)).holds
  amount-held (pos n) r base c more never granted =
      let held = charge_of-held r n granted in
      let e1 = held.request in let e2 = held.fielddata in let e3 = held.inflight in let e4 = held.parent in
      let b1 = more.request in let b2 = more.fielddata in let b3 = more.inflight in let b4 = more.parent in
      (c + n, omega (arith, ints), record { request = omega arith; fielddata = e2 ∙ b2; inflight = omega arith; parent = omega arith })
  amount-held (negsuc n) r base c more never granted =
      let none = granted-before r (amount_step (negsuc n)) granted in
      let b1 = more.request in let b2 = more.fielddata in let b3 = more.inflight in let b4 = more.parent in
      let enough : suc n ≤ c = omega (arith, ints) in
      let held = return_of-held r (suc n) none (omega arith) (omega arith) in
      let e1 = held.request in let e2 = held.fielddata in let e3 = held.inflight in let e4 = held.parent in
      (c - suc n, omega (arith, ints), record { request = omega arith; fielddata = sym e2 ∙ b2; inflight = omega arith; parent = omega arith })

  -- what is held after amounts that never go below nothing
  pub amounts-held : (amounts : List ℤ) (r : Run) (base : Amounts) (c e : ℕ) → HoldsMore c 0 base r.holds
      → ((n : ℕ) → pos 0 ≤ℤ (pos c +ℤ int_sum (take n amounts))) → pos e ≡ pos c +ℤ int_sum amounts
      → (run limits r (flat_map amount_step amounts)).refused ≡ None → HoldsMore e 0 base (run limits r (flat_map amount_step amounts)).holds
  amounts-held [] r base c e more never ends granted =
      let b1 = more.request in let b2 = more.fielddata in let b3 = more.inflight in let b4 = more.parent in
      let same : e ≡ c = omega (arith, ints) in
      record { request = omega arith; fielddata = b2; inflight = b3; parent = omega arith }
  amounts-held (a ∷ rest) r base c e more never ends granted =
      let next = run limits r (amount_step a) in
      let apart = run-append limits r (amount_step a) (flat_map amount_step rest) in
      let granted_next : (run limits next (flat_map amount_step rest)).refused ≡ None = sym (ap (λ (q : Run). q.refused) apart) ∙ granted in
      let first = never 1 in
      let held = amount-held a r base c more (omega (arith, ints)) (granted-before next (flat_map amount_step rest) granted_next) in
      let d = held.0 in
      let is = held.1 in
      subst (λ (q : Run). HoldsMore e 0 base q.holds) (sym apart)
      (amounts-held rest next base d e held.2 (λ n. let later = never (suc n) in omega (arith, ints)) (omega (arith, ints)) granted_next)
