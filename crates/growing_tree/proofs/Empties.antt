-- Trees over no row.
use Rattle.std.specs.Prelude.{◌≡◌, refl, ℕ, suc, ℤ, ◌+◌, List, [], ◌∷◌, map, length, All}
use Rattle.std.specs.List.{range_with_len}
use Rattle.std.proofs.Common.{◌∙◌, ap, arith}
use Rattle.agg_model.specs.declared.aggregation.Agg.{Agg, out-Agg}
use Rattle.agg_model.specs.declared.aggregation.Kind.{Kind}
use Rattle.agg_model.specs.declared.key.Key.{Key}
use Rattle.agg_model.specs.declared.key.Key.TheVariants as key
use Rattle.agg_model.specs.declared.partial.Bucket.{Bucket}
use Rattle.agg_model.specs.declared.partial.Node.{Node}
use Rattle.agg_evaluation.specs.Shard.{fixed_keys}
use Rattle.agg_evaluation.specs.Whole.{empty_by, empty_node, shape_of}
use Rattle.agg_evaluation.proofs.AggFolds.{fold_agg-level}
use Rattle.agg_evaluation.proofs.Computing.{computing}
use Rattle.growing_tree.specs.Decoded.{decoded_bucket}
use Rattle.growing_tree.specs.Shown.{AreEmpty, IsEmptyBucket}
use Rattle.growing_tree.specs.Trees.{numbered_buckets}
use Rattle.growing_tree.specs.declared.tree.Growing.{Growing}

pub empty-level : (a : Agg) (k : Kind) → (out-Agg a).kind ≡ k → empty_node a ≡ empty_by (map empty_node (out-Agg a).children) (fixed_keys k) (shape_of k)
empty-level a k e = fold_agg-level (λ a. empty_by a.children (fixed_keys a.kind) (shape_of a.kind)) a ∙ ap (λ j. empty_by (map empty_node (out-Agg a).children) (fixed_keys j) (shape_of j)) e

-- a key's bucket without rows
abbrev pub none_at : List Node → Key → Bucket
none_at children k = record { key = k; count = 0; covered = 0; children = children }

numbered-empty : (ds : List (Node → Node)) (key_of : ℤ → Key) (children : List Node) (n : ℕ) (bs : List Growing) → All (IsEmptyBucket ds children) bs
    → map (decoded_bucket ds key_of) (numbered_buckets n bs) ≡ map (none_at children) (map key.Fixed (range_with_len n (length bs)))
unfolding computing
numbered-empty ds key_of children n [] h = refl
numbered-empty ds key_of children n (b ∷ bs) h =
    let here = h 0 b (omega arith) in
    let next : suc n ≡ n + 1 = omega arith in
    let rest = numbered-empty ds key_of children (suc n) bs (λ k d l. h (suc k) d (omega arith)) ∙ ap (λ m. map (none_at children) (map key.Fixed (range_with_len m (length bs)))) next in
    λ i. record { key = key.Fixed n; count = here.count i; covered = 0; children = here.children_are i } ∷ rest i

-- so many buckets that exist from the start
pub fixed-empty : (ds : List (Node → Node)) (key_of : ℤ → Key) (children : List Node) (count : ℕ) (bs : List Growing) → AreEmpty ds children count bs
    → map (decoded_bucket ds key_of) (numbered_buckets 0 bs) ≡ map (none_at children) (map key.Fixed (range_with_len 0 count))
fixed-empty ds key_of children count bs h = numbered-empty ds key_of children 0 bs h.each ∙ ap (λ n. map (none_at children) (map key.Fixed (range_with_len 0 n))) h.count_is
