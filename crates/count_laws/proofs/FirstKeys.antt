-- The first keys of the union of several pages are the first keys of all.
use Rattle.std.specs.Prelude.{◌≡◌, refl, ℕ, zero, suc, true, List, [], ◌∷◌, filter, take, length, Option}
use Rattle.std.specs.declared.cmp.Ordering.{Ordering}
use Rattle.std.specs.Cmp.{IsTotalOrder}
use Rattle.std.proofs.Common.{sym, ◌∙◌, ap, inl, inr, ⊎_elim}
use Rattle.agg_model.specs.declared.aggregation.CompositeSource.{CompositeSource}
use Rattle.agg_model.specs.declared.key.Key.{Key}
use Rattle.agg_evaluation.specs.CompositeKeys.{is_composite_of}
use Rattle.agg_evaluation.specs.KeyOrder.{has_key}
use Rattle.agg_evaluation.specs.Orders.{composite_cmp}
use Rattle.list_laws.specs.Sorting.{ascending, sorted}
use Rattle.growth_laws.proofs.CompositeOrder.{beyond, exact_cmp, exact_cmp_exact, exact_cmp_total, same-order}
use Rattle.growth_laws.proofs.Ordered.{ascending-has, ascends-ascending, ascends-filter, filter-has, has-ascending, has-filter, has-take, sorted-agree, sorted-distinct}
use Rattle.growth_laws.proofs.PageKeys.{AreKeys, all-has, distinct-ascending, found-has, has-found}
use Rattle.growth_laws.proofs.Pages.{Ascends, Has, StandIn, not_itself, stand-in}

module _ {A : Type 0} (R : A → A → Ordering) (total : IsTotalOrder R) where
  in-all : (xs ys : List A) → StandIn R total xs ys → (q : A) → Has R total q xs → Has R total q ys
  in-all [] ys w q h = absurd h
  in-all (x ∷ xs) [] w q h = absurd w
  in-all (x ∷ xs) (y ∷ ys) (inl w) q (inl e) = inl (e ∙ w.0)
  in-all (x ∷ xs) (y ∷ ys) (inl w) q (inr h) = inr (in-all xs ys w.1 q h)
  in-all (x ∷ xs) (y ∷ ys) (inr w) q h = inr (in-all (x ∷ xs) ys w q h)

  -- xs are some of the ascending ys, the first n of them among these
  pub first-same : (n : ℕ) (xs ys : List A) → StandIn R total xs ys → Ascends R total ys → ((q : A) → Has R total q (take n ys) → Has R total q xs) → take n xs ≡ take n ys
  first-same zero xs ys w up h = refl
  first-same (suc n) [] [] w up h = refl
  first-same (suc n) (x ∷ xs) [] w up h = absurd w
  first-same (suc n) [] (y ∷ ys) w up h = absurd (h y (inl refl))
  first-same (suc n) (x ∷ xs) (y ∷ ys) (inl w) up h =
      λ i. w.0 i ∷ first-same n xs ys w.1 up.1 (λ q j. ⊎_elim (λ (e : q ≡ x). absurd (not_itself R total y q (sym (e ∙ w.0)) (up.0 q (among n q ys j)))) (λ (k : Has R total q xs). k) (h q (inr j))) i
    where
      among : (n : ℕ) (q : A) (ys : List A) → Has R total q (take n ys) → Has R total q ys
      among zero q ys j = absurd j
      among (suc n) q [] j = j
      among (suc n) q (y ∷ ys) (inl e) = inl e
      among (suc n) q (y ∷ ys) (inr j) = inr (among n q ys j)
  first-same (suc n) (x ∷ xs) (y ∷ ys) (inr w) up h = absurd (not_itself R total y y refl (up.0 y (in-all (x ∷ xs) ys w y (h y (inl refl)))))

module _ (sources : List CompositeSource) (size : ℕ) (after : Option Key) where
  abbrev Before : Key → Key → Ordering
  Before = exact_cmp sources

  abbrev total : IsTotalOrder (exact_cmp sources)
  total = exact_cmp_total sources

  -- the order of the sources sorts composite keys as the exact order does
  pub sorted-is : (ks : List Key) → AreKeys sources size after ks → sorted (composite_cmp sources) ks ≡ ascending Before ks
  sorted-is ks are =
      let composite = all-has Before total (is_composite_of (length sources)) ks are.composite in
      sym (sorted-agree Before (composite_cmp sources) total ks (λ j k h g. same-order sources j k (composite j h) (composite k g)))
      ∙ sorted-distinct Before total (exact_cmp_exact sources) ks (distinct-ascending Before total (exact_cmp_exact sources) ks are.up)

  -- some keys that come after `after`, the first of all among them
  pub first-keys-same : (some all : List Key) → AreKeys sources size after some → AreKeys sources size after all
      → ((q : Key) → has_key q some ≡ true → has_key q all ≡ true) → ((q : Key) → has_key q some ≡ true → beyond sources after q ≡ true)
      → ((q : Key) → has_key q all ≡ true → has_key q (take size (filter (beyond sources after) (sorted (composite_cmp sources) all))) ≡ true → has_key q some ≡ true)
      → take size (sorted (composite_cmp sources) some) ≡ take size (filter (beyond sources after) (sorted (composite_cmp sources) all))
  first-keys-same some all are_some are_all sub after_all firsts =
      let xs = ascending Before some in
      let ys = filter (beyond sources after) (ascending Before all) in
      let up = ascends-filter Before total (exact_cmp_exact sources) (beyond sources after) (ascending Before all) (ascends-ascending Before total (exact_cmp_exact sources) all) in
      let found = found-has Before total (exact_cmp_exact sources) in
      let has = has-found Before total (exact_cmp_exact sources) in
      let stands = stand-in Before total xs ys (ascends-ascending Before total (exact_cmp_exact sources) some) up (λ q h.
      let there = has q some (has-ascending Before total (exact_cmp_exact sources) q some h) in
      filter-has Before total (exact_cmp_exact sources) (beyond sources after) q (ascending Before all) (ascending-has Before total (exact_cmp_exact sources) q all (found q all (sub q there))) (after_all q there)) in
      ap (take size) (sorted-is some are_some)
      ∙ first-same Before total size xs ys stands up (λ q h.
      let passed = has-filter Before total (exact_cmp_exact sources) (beyond sources after) q (ascending Before all) (has-take Before total (exact_cmp_exact sources) size q ys h) in
      let there = has q all (has-ascending Before total (exact_cmp_exact sources) q all passed.0) in
      ascending-has Before total (exact_cmp_exact sources) q some (found q some (firsts q there (ap (λ js. has_key q (take size (filter (beyond sources after) js))) (sorted-is all are_all) ∙ has q (take size ys) h))))
      ∙ ap (λ js. take size (filter (beyond sources after) js)) (sym (sorted-is all are_all))
