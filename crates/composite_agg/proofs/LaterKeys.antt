-- Keys that come after a key, by their first parts.
use Rattle.std.specs.Prelude.{◌≡◌, refl, Bool, T, List, [], ◌∷◌, ◌++◌, ◌-◌, map, flat_map, length, take, drop}
use Rattle.std.specs.List.{list_all}
use Rattle.std.specs.Ordering.{is_lt, ordering_then, nat_cmp}
use Rattle.std.specs.Cmp.Lexicographic.{slice_cmp}
use Rattle.std.specs.declared.cmp.Ordering.TheVariants.{Less, Equal}
use Rattle.std.proofs.Common.{ℕ, sym, ◌∙◌, ap, subst, arith}
use Rattle.agg_model.specs.declared.aggregation.CompositeSource.{CompositeSource}
use Rattle.agg_model.specs.declared.key.Key.{Key}
use Rattle.agg_model.specs.declared.key.Key.TheVariants as key
use Rattle.agg_evaluation.specs.KeyOrder.{directed, key_cmp}
use Rattle.agg_evaluation.specs.Keys.{combinations, composite_keys, source_keys}
use Rattle.agg_evaluation.specs.Rows.{PlacedRow}
use Rattle.agg_evaluation.proofs.Computing.{computing}
use Rattle.agg_evaluation.proofs.FoldLaws.{out-Many}
use Rattle.agg_evaluation.specs.CompositeKeys.{key_parts_at}
use Rattle.bucket_order.specs.Composites.{any_parts_cmp, key_parts}
use Rattle.growth_laws.proofs.Combinations.{composite-combinations}
use Rattle.list_laws.proofs.Booleans.{and_left, and_right, both}
use Rattle.composite_agg.specs.InOrder.{page_cmp}
use Rattle.composite_agg.proofs.Steps.{take-whole}

-- a word among the keys
pub word-word : (v w : List ℕ) → key_cmp (key.Word v) (key.Word w) ≡ slice_cmp nat_cmp v w
unfolding computing
word-word v w = refl

module _ (s : CompositeSource) (ss : List CompositeSource) (k : Key) (ks : List Key) (j : Key) where
  abbrev is_behind : List Key → Bool
  is_behind js = is_lt (any_parts_cmp (s ∷ ss) (k ∷ ks) js)

  all-fronted : (kss : List (List Key)) → ((js : List Key) → T (is_lt (any_parts_cmp ss ks js)) → T (is_behind (j ∷ js))) → T (list_all (λ js. is_lt (any_parts_cmp ss ks js)) kss) → T (list_all is_behind (map (λ js. j ∷ js) kss ++ []))
  all-fronted [] each all = tt
  all-fronted (js ∷ kss) each all = both _ _ (each js (and_left _ _ all)) (all-fronted kss each (and_right _ _ all))

  all-less : (kss : List (List Key)) → directed s.descending (key_cmp k j) ≡ Less → T (list_all is_behind (map (λ js. j ∷ js) kss ++ []))
  all-less [] e = tt
  all-less (js ∷ kss) e = both _ _ (subst (λ o. T (is_lt (ordering_then o (any_parts_cmp ss ks js)))) (sym e) tt) (all-less kss e)

  pub less : (own : List Key) (kss : List (List Key)) → own ≡ j ∷ [] → directed s.descending (key_cmp k j) ≡ Less → T (list_all is_behind (flat_map (λ i. map (λ js. i ∷ js) kss) own))
  less own kss e is = subst (λ xs. T (list_all is_behind (flat_map (λ i. map (λ js. i ∷ js) kss) xs))) (sym e) (all-less kss is)

  pub tied : (own : List Key) (kss : List (List Key)) → own ≡ j ∷ [] → directed s.descending (key_cmp k j) ≡ Equal → T (list_all (λ js. is_lt (any_parts_cmp ss ks js)) kss)
      → T (list_all is_behind (flat_map (λ i. map (λ js. i ∷ js) kss) own))
  tied own kss e is all =
      subst (λ xs. T (list_all is_behind (flat_map (λ i. map (λ js. i ∷ js) kss) xs))) (sym e)
      (all-fronted kss (λ js h. subst (λ o. T (is_lt (ordering_then o (any_parts_cmp ss ks js)))) (sym is) h) all)

-- all but the first
pub rest-whole : {A : Type 0} (xs : List A) → take (length xs - 1) (drop 1 xs) ≡ drop 1 xs
rest-whole [] = refl
rest-whole (x ∷ xs) = take-whole xs (length (x ∷ xs) - 1) (omega arith)

-- keys of parts
pub all-keys : (ss : List CompositeSource) (row : PlacedRow) (parts : List Key) → T (list_all (λ js. is_lt (any_parts_cmp ss parts js)) (combinations (map (source_keys row) ss)))
    → T (list_all (λ q. is_lt (page_cmp ss (key.Many parts) q)) (composite_keys ss row))
all-keys ss row parts all = subst (λ qs. T (list_all (λ q. is_lt (page_cmp ss (key.Many parts) q)) qs)) (sym (composite-combinations ss row)) (each (combinations (map (source_keys row) ss)) all)
  where
    own : (js : List Key) → any_parts_cmp ss parts js ≡ page_cmp ss (key.Many parts) (key.Many js)
    own js = ap (λ xs. any_parts_cmp ss xs js) (sym (ap key_parts_at (out-Many parts))) ∙ ap (any_parts_cmp ss (key_parts (key.Many parts))) (sym (ap key_parts_at (out-Many js)))

    each : (kss : List (List Key)) → T (list_all (λ js. is_lt (any_parts_cmp ss parts js)) kss) → T (list_all (λ q. is_lt (page_cmp ss (key.Many parts) q)) (map key.Many kss))
    each [] all = tt
    each (js ∷ kss) all = both _ _ (subst (λ o. T (is_lt o)) (own js) (and_left _ _ all)) (each kss (and_right _ _ all))
