-- No step of a task or a merge gives back more than is held when it comes.
use Rattle.std.specs.Prelude.{◌≡◌, refl, ◌≤◌, ◌≤ℤ◌, ⊤, ℕ, suc, ◌-◌, ◌*◌, ◌==◌, ℤ, pos, negsuc, ◌+ℤ◌, if◌then◌else◌, Bool, true, false, List, [], ◌∷◌, ◌++◌, flat_map, take, map, sum, Option, Some, None}
use Rattle.std.proofs.Common.{◌∙◌, ap, sym, subst, arith}
use Rattle.std.proofs.lemmas.Int.{ints}
use Rattle.std.proofs.lemmas.List.Sums.{sum-map}
use Rattle.agg_model.specs.declared.aggregation.Search.{Search}
use Rattle.agg_model.specs.declared.breaker.Child.{Child}
use Rattle.agg_model.specs.declared.breaker.Child.TheVariants as child
use Rattle.agg_model.specs.declared.breaker.Limits.{Limits}
use Rattle.agg_model.specs.declared.breaker.Tripped.{Tripped}
use Rattle.agg_model.specs.declared.partial.Partial.{Partial}
use Rattle.agg_evaluation.specs.Cost.{cost}
use Rattle.agg_evaluation.specs.Shard.{int_sum}
use Rattle.agg_evaluation.specs.Whole.{whole}
use Rattle.agg_spec.specs.Charges.{Amounts, Step, Run, charge, give_back, run, stepped_unless, charge_of, return_of}
use Rattle.agg_spec.specs.Reduction.{Task, task_steps, amount_step, merge_steps}
use Rattle.answer_laws.specs.Held.{HoldsMore, IsHeld, GivesBackHeld, IsPaid, costs_of}
use Rattle.answer_laws.proofs.Held.{granted-before, charge_of-held, amount-held}
use Rattle.answer_laws.proofs.SearchesHeld.{no-more}

-- a step that gives back at most what is held
abbrev Fits : Run → Step → Type 0
Fits r (charge c n) = ⊤
Fits r (give_back c n) = r.refused ≡ None → IsHeld c n r.holds

module _ (limits : Limits) where
  abbrev Covered : List Step → Run → Type 0
  Covered [] r = ⊤
  Covered (s ∷ rest) r = Fits r s × Covered rest (stepped_unless r.refused limits r s)

  abbrev CoveredSteps : Run → List Step → Type 0
  CoveredSteps r steps = Covered steps r

  covered-place : (before after steps : List Step) (r : Run) (c : Child) (n : ℕ) → Covered steps r → steps ≡ before ++ give_back c n ∷ after
      → (run limits r before).refused ≡ None → IsHeld c n (run limits r before).holds
  covered-place [] after steps r c n covered e none = (subst (CoveredSteps r) e covered).0 none
  covered-place (b ∷ before) after steps r c n covered e none =
      covered-place before after (before ++ give_back c n ∷ after) (stepped_unless r.refused limits r b) c n (subst (CoveredSteps r) e covered).1 refl none

  refused-fits : (r : Run) (t : Tripped) (s : Step) → r.refused ≡ Some t → Fits r s
  refused-fits r t (charge c n) e = tt
  refused-fits r t (give_back c n) e = λ none. absurd (let same : Some t ≡ None = sym e ∙ none in (let no : ⊥ = cc in no))

  refused-covered : (steps : List Step) (r : Run) (t : Tripped) → r.refused ≡ Some t → Covered steps r
  refused-covered [] r t e = tt
  refused-covered (s ∷ rest) r t e = (refused-fits r t s e, subst (Covered rest) (sym (ap (λ o. stepped_unless o limits r s) e)) (refused-covered rest r t e))

  covered-append : (xs ys : List Step) (r : Run) → Covered xs r → Covered ys (run limits r xs) → Covered (xs ++ ys) r
  covered-append [] ys r first second = second
  covered-append (s ∷ xs) ys r (fits, first) second = (fits, covered-append xs ys (stepped_unless r.refused limits r s) first second)

  charge_of-covered : (r : Run) (c : Child) (n : ℕ) → Covered (charge_of c n) r
  charge_of-covered r c n = by_zero (n == 0)
    where
      by_zero : (b : Bool) → Covered (if b then [] else charge c n ∷ []) r
      by_zero true = tt
      by_zero false = (tt, tt)

  return_of-covered : (r : Run) (c : Child) (n : ℕ) → (r.refused ≡ None → IsHeld c n r.holds) → Covered (return_of c n) r
  return_of-covered r c n held = by_zero (n == 0)
    where
      by_zero : (b : Bool) → Covered (if b then [] else give_back c n ∷ []) r
      by_zero true = tt
      by_zero false = (held, tt)

  amount-covered : (a : ℤ) (r : Run) (base : Amounts) (c : ℕ) → (r.refused ≡ None → HoldsMore c 0 base r.holds) → pos 0 ≤ℤ (pos c +ℤ a) → Covered (amount_step a) r
  amount-covered (pos n) r base c more never = charge_of-covered r child.Request n
  amount-covered (negsuc n) r base c more never =
      return_of-covered r child.Request (suc n) (λ none.
      let held = more none in
      let h1 = held.request in let h4 = held.parent in
      let enough : suc n ≤ c = omega (arith, ints) in
      record { at_child = omega arith; at_parent = omega arith })

  amounts-covered : (amounts : List ℤ) (r : Run) (base : Amounts) (c : ℕ) → (r.refused ≡ None → HoldsMore c 0 base r.holds)
      → ((n : ℕ) → pos 0 ≤ℤ (pos c +ℤ int_sum (take n amounts))) → Covered (flat_map amount_step amounts) r
  amounts-covered [] r base c more never = tt
  amounts-covered (a ∷ rest) r base c more never =
      covered-append (amount_step a) (flat_map amount_step rest) r (amount-covered a r base c more (let first = never 1 in omega (arith, ints)))
      (by_refusal (λ d held later. amounts-covered rest next base d held later) next.refused refl)
    where
      next : Run
      next = run limits r (amount_step a)

      by_refusal : ((d : ℕ) → (next.refused ≡ None → HoldsMore d 0 base next.holds) → ((n : ℕ) → pos 0 ≤ℤ (pos d +ℤ int_sum (take n rest))) → Covered (flat_map amount_step rest) next)
          → (o : Option Tripped) → next.refused ≡ o → Covered (flat_map amount_step rest) next
      by_refusal more_covered (Some t) same = refused-covered (flat_map amount_step rest) next t same
      by_refusal more_covered None same =
          let first = never 1 in
          let held = amount-held limits a r base c (more (granted-before limits r (amount_step a) same)) (omega (arith, ints)) same in
          let is = held.1 in
          more_covered held.0 (λ none. held.2) (λ n. let later = never (suc n) in omega (arith, ints))

  pub task-covered : (search : Search) (start : Run) (task : Task) → IsPaid search task → GivesBackHeld limits start (task_steps task)
  task-covered search start task paid before after c n e none =
      covered-place before after (task_steps task) start c n
      (amounts-covered task.amounts start start.holds 0 (λ granted. no-more start.holds) (λ n. let above = paid.never_negative n in omega (arith, ints))) e none

  merge-covered : (search : Search) (r : Run) (parts : List Partial) → costs_of parts ≤ r.holds.request → costs_of parts ≤ r.holds.parent
      → Covered (merge_steps limits search parts) r
  merge-covered search r [] at_request at_parent = tt
  merge-covered search r (p ∷ []) at_request at_parent = tt
  merge-covered search r (p ∷ q ∷ rest) at_request at_parent =
      let parts = p ∷ q ∷ rest in
      let costs = sum (map cost parts) in
      let together : costs ≡ costs_of parts = sum-map cost parts in
      covered-append (charge_of child.Request costs) (return_of child.Request (2 * costs - cost (whole search parts))) r (charge_of-covered r child.Request costs)
      (return_of-covered (run limits r (charge_of child.Request costs)) child.Request (2 * costs - cost (whole search parts)) (λ none.
      let more = charge_of-held limits r costs none in
      let m1 = more.request in let m4 = more.parent in
      record { at_child = omega (arith, together); at_parent = omega (arith, together) }))

  pub merges-covered : (search : Search) (start : Run) (parts : List Partial) → costs_of parts ≤ start.holds.request → costs_of parts ≤ start.holds.parent
      → GivesBackHeld limits start (merge_steps limits search parts)
  merges-covered search start parts at_request at_parent before after c n e none =
      covered-place before after (merge_steps limits search parts) start c n (merge-covered search start parts at_request at_parent) e none
