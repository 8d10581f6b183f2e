-- The buckets of a level ascend by key.
use Rattle.std.specs.Prelude.{ℕ, suc, ℤ, ◌<◌, T, List, [], ◌∷◌, map}
use Rattle.std.specs.Cmp.{nat_cmp_is}
use Rattle.std.specs.List.{list_all}
use Rattle.std.specs.Ordering.{is_lt}
use Rattle.std.specs.declared.cmp.Ordering.TheVariants.{Less}
use Rattle.std.proofs.Common.{subst, arith}
use Rattle.list_laws.proofs.Booleans.{both}
use Rattle.agg_model.specs.declared.key.Key.{Key}
use Rattle.agg_model.specs.declared.key.Key.TheVariants as key
use Rattle.agg_model.specs.declared.partial.Node.{Node}
use Rattle.agg_model.specs.declared.partial.Node.TheVariants as node
use Rattle.agg_evaluation.specs.KeyOrder.{key_cmp}
use Rattle.agg_evaluation.specs.Orders.{bucket_key}
use Rattle.agg_evaluation.specs.Trees.{is_ascending}
use Rattle.agg_evaluation.proofs.Computing.{computing}
use Rattle.agg_evaluation.proofs.SortedLists.{ascending-sorted}
use Rattle.growing_tree.specs.Decoded.{decoded_bucket}
use Rattle.growing_tree.specs.Grouped.{HasOwnKeys}
use Rattle.growing_tree.specs.Shown.{level_buckets}
use Rattle.growing_tree.specs.Measures.{measures_of}
use Rattle.growing_tree.specs.Trees.{IsAligned, coded_buckets, counter_buckets, measured_buckets, numbered_buckets}
use Rattle.growing_tree.specs.declared.tree.Growing.{Growing}
use Rattle.growing_tree.specs.declared.tree.Level.{Level}
use Rattle.growing_tree.specs.declared.tree.Level.TheVariants.{Keyed, Measured, Counts, Fixed, Number}
use Rattle.growing_tree.proofs.Counters.{counters-distinct}
use Rattle.growing_tree.proofs.Putting.{distinct}

module _ (ds : List (Node → Node)) (key_of : ℤ → Key) where
  below : (m n : ℕ) (bs : List Growing) → m < n → T (list_all (λ later. is_lt (key_cmp (key.Fixed m) later)) (map bucket_key (map (decoded_bucket ds key_of) (numbered_buckets n bs))))
  unfolding computing
  below m n [] l = tt
  below m n (b ∷ bs) l = both _ _ (subst (λ r. T (is_lt r)) (nat_cmp_is m n Less l) tt) (below m (suc n) bs (omega arith))

  numbered-up : (n : ℕ) (bs : List Growing) → T (is_ascending (map bucket_key (map (decoded_bucket ds key_of) (numbered_buckets n bs))))
  unfolding computing
  numbered-up n [] = tt
  numbered-up n (b ∷ bs) = both _ _ (below n (suc n) bs (omega arith)) (numbered-up (suc n) bs)

  pub level-up : HasOwnKeys key_of → (l : Level) → IsAligned l → T (is_ascending (map bucket_key (level_buckets ds key_of l)))
  level-up own (Keyed k) h = ascending-sorted bucket_key (map (decoded_bucket ds key_of) (coded_buckets k.places k.buckets.items)) (distinct (λ g. g.count) (λ g. g.children.items) [] [] ds key_of own k.places k.buckets.items h.distinct)
  level-up own (Measured m) h = ascending-sorted bucket_key (map (decoded_bucket ds key_of) (measured_buckets m.places (measures_of m))) (distinct (λ m. m.count) (λ m. map node.Number m.metrics) [] [] ds key_of own m.places (measures_of m) h.distinct)
  level-up own (Counts ns) h = ascending-sorted bucket_key (map (decoded_bucket ds key_of) (counter_buckets 0 ns)) (counters-distinct ds key_of own 0 ns)
  level-up own (Fixed bs) h = numbered-up 0 bs.items
  level-up own (Number m) h = tt
