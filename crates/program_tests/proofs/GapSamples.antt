-- The samples of the tests with histograms are made for their mapping, and can be finished.
use Rattle.std.specs.Prelude.{◌≡◌, refl, ℕ, ℤ, ◌<◌, ◌^◌, ◌<ℤ◌, int_lt, ◌&&◌, true, false, List, [], ◌∷◌, map}
use Rattle.std.specs.List.{list_all}
use Rattle.std.specs.Ordering.{is_lt}
use Rattle.std.proofs.Common.{◌∙◌, ap, arith}
use Rattle.std.proofs.lemmas.Bool.{and_from, and_parts, lt-ltb, le-leb}
use Rattle.std.proofs.lemmas.Int.{ints}
use Rattle.agg_model.specs.declared.key.Key.TheVariants.{Whole}
use Rattle.agg_model.specs.declared.partial.Bucket.{Bucket}
use Rattle.agg_model.specs.declared.partial.Node.TheVariants.{Keyed}
use Rattle.agg_model.specs.declared.aggregation.Bounds.{Bounds}
use Rattle.agg_model.specs.declared.aggregation.Spacing.TheVariants.{Numbers}
use Rattle.agg_model.specs.BoundsOrder.{is_at_most, lies_within}
use Rattle.agg_model.specs.declared.aggregation.Agg.{Agg, out-Agg}
use Rattle.agg_evaluation.specs.KeyOrder.{key_cmp}
use Rattle.agg_evaluation.specs.Orders.{bucket_key}
use Rattle.agg_evaluation.specs.Shard.{fixed_keys}
use Rattle.agg_evaluation.specs.Trees.{is_ascending, have_children, is_tree_at}
use Rattle.agg_evaluation.specs.Whole.{by_key, parts_at}
use Rattle.agg_evaluation.proofs.NodeForms.{out-Keyed}
use Rattle.agg_evaluation.specs.Finishable.{is_finishable, is_finishable_at, is_histogram_key, fits_at}
use Rattle.agg_evaluation.specs.Folds.{fold_agg}
use Rattle.agg_evaluation.specs.SearchFits.{Made, made_at, is_made, agg_fits}
use Rattle.program_tests.specs.SampleGaps.{counted_bucket, gapless, no_bounds, rises, IsHistogram}
use Rattle.program_tests.specs.SampleMapping.{sample_mapping}
use Rattle.final_reduce.proofs.Filled.{whole_cmp}
use Rattle.final_reduce.proofs.FinishableLaws.{is_finishable-level}
use Rattle.program_tests.proofs.SampleLaws.{agg_fits-level}
use Rattle.final_reduce.proofs.SelectLaws.{list_all-map}

below : (p : ℤ × ℕ) (ps : List (ℤ × ℕ)) → list_all (λ later. int_lt p.0 later.0) ps ≡ true → list_all (λ later. is_lt (key_cmp (Whole p.0) later)) (map bucket_key (map counted_bucket ps)) ≡ true
below p [] h = refl
below p (q ∷ qs) h =
    let parts = and_parts (int_lt p.0 q.0) _ h in
    let first = parts.0 in
    let less : p.0 <ℤ q.0 = grind (arith, ints) in
    and_from _ _ (ap is_lt (whole_cmp p.0 q.0 less)) (below p qs parts.1)

ascending : (ps : List (ℤ × ℕ)) → rises ps ≡ true → is_ascending (map bucket_key (map counted_bucket ps)) ≡ true
ascending [] h = refl
ascending (p ∷ ps) h =
    let parts = and_parts (list_all (λ later. int_lt p.0 later.0) ps) (rises ps) h in
    and_from _ _ (below p ps parts.0) (ascending ps parts.1)

no_children : (ps : List (ℤ × ℕ)) → have_children [] (map counted_bucket ps) ≡ true
no_children [] = refl
no_children (p ∷ ps) = no_children ps

module _ (interval offset : ℕ) (extended : Bounds) (agg : Agg) where
  pub histogram-made : (children : List Agg) → IsHistogram interval offset extended children (out-Agg agg) → 0 < interval → interval < 2 ^ 63 → offset < interval
      → is_at_most extended.min extended.max ≡ true → lies_within extended no_bounds ≡ true → list_all (agg_fits sample_mapping false 0) children ≡ true → agg_fits sample_mapping true 0 agg ≡ true
  histogram-made children is positive below within ordered inside fit =
      let made = list_all-map (λ (m : Made). m.fits false 0) (fold_agg (made_at sample_mapping)) children ∙ fit in
      agg_fits-level true agg
      ∙ (λ i. is_made sample_mapping (is.0 i) (map (fold_agg (made_at sample_mapping)) (is.1 i)) true 0)
      ∙ and_from _ _ (and_from _ _ (and_from _ _ (and_from _ _ (le-leb _ _ positive) (lt-ltb _ _ below)) (lt-ltb _ _ within)) (and_from _ _ ordered (and_from _ _ inside refl))) made

  -- with these keys
  pub keys-finishable : (ps : List (ℤ × ℕ)) → IsHistogram interval offset extended [] (out-Agg agg) → rises ps ≡ true → list_all (λ p. is_histogram_key (Numbers interval offset) no_bounds (Whole p.0)) ps ≡ true
      → is_finishable agg (Keyed (map counted_bucket ps) 0 0 0) ≡ true
  keys-finishable ps is up made =
      let bs = map counted_bucket ps in
      is_finishable-level agg (Keyed bs 0 0 0)
      ∙ (λ i. is_finishable_at (map is_finishable (is.1 i)) (is.0 i) (Keyed bs 0 0 0))
      ∙ ap (λ l. is_tree_at [] (fixed_keys (gapless interval offset extended)) by_key l && fits_at (gapless interval offset extended) (parts_at l)) (out-Keyed bs 0 0 0)
      ∙ and_from _ _ (and_from _ _ (ascending ps up) (no_children ps)) (list_all-map (λ (b : Bucket). is_histogram_key (Numbers interval offset) no_bounds (bucket_key b)) counted_bucket ps ∙ made)

  -- with no bucket
  pub nothing-finishable : (children : List Agg) → IsHistogram interval offset extended children (out-Agg agg) → is_finishable agg (Keyed [] 0 0 0) ≡ true
  nothing-finishable children is =
      is_finishable-level agg (Keyed [] 0 0 0)
      ∙ ap (λ k. is_finishable_at (map is_finishable (out-Agg agg).children) k (Keyed [] 0 0 0)) is.0
      ∙ ap (λ l. is_tree_at (map is_finishable (out-Agg agg).children) (fixed_keys (gapless interval offset extended)) by_key l && fits_at (gapless interval offset extended) (parts_at l)) (out-Keyed [] 0 0 0)
