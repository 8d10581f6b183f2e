-- A tree as what a shard answers, one level at a time.
use Rattle.std.specs.Prelude.{◌≡◌, refl, ℕ, zero, suc, ℤ, ◌+◌, ◌≤◌, true, false, cond, List, [], ◌∷◌, ◌++◌, map, length, sum_by, drop, slice_get, Some}
use Rattle.std.specs.declared.cmp.Ordering.{Ordering}
use Rattle.std.specs.Ordering.{is_le}
use Rattle.std.proofs.Common.{sym, ◌∙◌, ap, arith, add-one, append_assoc, length-append}
use Rattle.list_laws.proofs.Lists.{map-map, sum_by-map}
use Rattle.list_laws.proofs.Options.{none_some, some_same}
use Rattle.list_laws.proofs.Sums.{sum_by-sorted}
use Rattle.list_laws.specs.Sorting.{sorted, insert_sorted}
use Rattle.agg_model.specs.Options.{options_of}
use Rattle.agg_model.specs.declared.aggregation.Agg.{Agg, out-Agg}
use Rattle.agg_model.specs.declared.key.Key.{Key}
use Rattle.agg_model.specs.declared.key.Key.TheVariants as key
use Rattle.agg_model.specs.declared.partial.Bucket.{Bucket}
use Rattle.agg_model.specs.declared.partial.Metric.{Metric}
use Rattle.agg_model.specs.declared.partial.Node.{Node, out-Node}
use Rattle.agg_model.specs.declared.partial.Node.TheOpen.{Node-F}
use Rattle.agg_model.specs.declared.partial.Node.TheVariants.{Keyed, Fixed, Number}
use Rattle.agg_evaluation.specs.Folds.{fold_agg}
use Rattle.agg_evaluation.specs.KeyOrder.{key_cmp}
use Rattle.agg_evaluation.specs.Orders.{bucket_count, bucket_key}
use Rattle.agg_evaluation.specs.Shard.{sorted_by_key}
use Rattle.agg_evaluation.proofs.AggFolds.{fold_agg-level}
use Rattle.agg_evaluation.proofs.Computing.{computing}
use Rattle.agg_evaluation.proofs.NodeForms.{out-Keyed, out-Fixed, out-Number}
use Rattle.bucket_order.specs.Kinds.{child_kinds}
use Rattle.growth_laws.specs.Cutting.{Cutter, cut_at, cut_bucket, cut_tree, cutter_at}
use Rattle.shard_columns.specs.Columns.{Columns}
use Rattle.terms_agg.specs.Trim.{trimmed_by, trimmed_some}
use Rattle.growing_tree.specs.Codes.{code_key}
use Rattle.growing_tree.specs.Decoded.{decoded, decoded_bucket}
use Rattle.growing_tree.specs.Finished.{finished_bucket, finished_children, finished_with}
use Rattle.growing_tree.specs.Trees.{bucket_at, numbered_buckets}
use Rattle.growing_tree.specs.declared.ready.Ready.{Ready, out-Ready}
use Rattle.growing_tree.specs.declared.tree.Growing.{Growing}
use Rattle.growing_tree.proofs.Levels.{decoded-out}

-- sorting the items as they are seen
insert-map : {A B : Type 0} (f : A → B) (cmp : B → B → Ordering) (x : A) (ys : List A) → map f (insert_sorted (λ a b. cmp (f a) (f b)) x ys) ≡ insert_sorted cmp (f x) (map f ys)
insert-map f cmp x [] = refl
insert-map f cmp x (y ∷ ys) =
    elim (is_le (cmp (f x) (f y))) as (λ b. map f (cond b (x ∷ y ∷ ys) (y ∷ insert_sorted (λ a b. cmp (f a) (f b)) x ys)) ≡ cond b (f x ∷ f y ∷ map f ys) (f y ∷ insert_sorted cmp (f x) (map f ys))) [
      | true ↦ refl
      | false ↦ ap (λ zs. f y ∷ zs) (insert-map f cmp x ys)
    ]

sorted-map : {A B : Type 0} (f : A → B) (cmp : B → B → Ordering) (xs : List A) → map f (sorted (λ a b. cmp (f a) (f b)) xs) ≡ sorted cmp (map f xs)
sorted-map f cmp [] = refl
sorted-map f cmp (x ∷ xs) = insert-map f cmp x (sorted (λ a b. cmp (f a) (f b)) xs) ∙ ap (insert_sorted cmp (f x)) (sorted-map f cmp xs)

-- the kinds of cutters are those of the aggregations
cutter-kinds : (aggs : List Agg) → map (λ (c : Cutter). c.kind) (map (fold_agg cutter_at) aggs) ≡ child_kinds aggs
cutter-kinds [] = refl
cutter-kinds (a ∷ aggs) = λ i. ap (λ (c : Cutter). c.kind) (fold_agg-level cutter_at a) i ∷ cutter-kinds aggs i

-- the items from one on
pub drop-at : {A : Type 0} (xs : List A) (i : ℕ) (x : A) → slice_get xs i ≡ Some x → drop i xs ≡ x ∷ drop (i + 1) xs
drop-at {A = A} xs i x e = next xs i e ∙ ap (λ n. x ∷ drop n xs) (sym (add-one i))
  where
    next : (xs : List A) (i : ℕ) → slice_get xs i ≡ Some x → drop i xs ≡ x ∷ drop (suc i) xs
    next [] zero e = none_some x e
    next [] (suc i) e = none_some x e
    next (y ∷ xs) zero e = ap (λ z. z ∷ xs) (some_same y x e)
    next (y ∷ xs) (suc i) e = next xs i e

pub drop-full : {A : Type 0} (xs : List A) (n : ℕ) → length xs ≤ n → drop n xs ≡ []
drop-full [] zero l = refl
drop-full [] (suc n) l = refl
drop-full (x ∷ xs) zero l = absurd (omega arith)
drop-full (x ∷ xs) (suc n) l = drop-full xs n (omega arith)

module _ (shard : Columns) (a : Agg) (r : Ready) where
  abbrev cutters : List Cutter
  cutters = map (fold_agg cutter_at) (out-Agg a).children

  abbrev decoders : List (Node → Node)
  decoders = map (decoded shard) (out-Ready r).children

  abbrev key_of : ℤ → Key
  key_of = code_key shard (out-Ready r).kind

  cut-level : (n : Node) (m : Node-F Node Bucket) → out-Node n ≡ m → cut_tree a n ≡ cut_at cutters (out-Agg a).kind m
  cut-level n m e = ap (λ (c : Cutter). c.cut n) (fold_agg-level cutter_at a) ∙ ap (cut_at cutters (out-Agg a).kind) e

  finished-all : (bs : List Bucket) → map (cut_bucket cutters) (map (decoded_bucket decoders key_of) bs) ≡ map (finished_bucket shard a r) bs
  finished-all bs = map-map (cut_bucket cutters) (decoded_bucket decoders key_of) bs

  -- buckets of codes
  pub keyed-finished : (bs : List Bucket) → cut_tree a (decoded shard r (Keyed bs 0 0 0)) ≡ trimmed_some a (sum_by bucket_count bs) (sorted_by_key (map (finished_bucket shard a r) bs))
  keyed-finished bs =
      let by = λ (a b : Bucket). key_cmp (bucket_key a) (bucket_key b) in
      let up = sorted_by_key (map (decoded_bucket decoders key_of) bs) in
      let done = map (cut_bucket cutters) up in
      let done_is : done ≡ sorted_by_key (map (finished_bucket shard a r) bs) =
      sorted-map (cut_bucket cutters) by (map (decoded_bucket decoders key_of) bs) ∙ ap sorted_by_key (finished-all bs) in
      let total_is : sum_by bucket_count up ≡ sum_by bucket_count bs = sum_by-sorted bucket_count by (map (decoded_bucket decoders key_of) bs) ∙ sum_by-map bucket_count (decoded_bucket decoders key_of) bs in
      ap (cut_tree a) (decoded-out shard r _ _ (out-Keyed bs 0 0 0))
      ∙ cut-level (Keyed up 0 0 0) _ (out-Keyed up 0 0 0)
      ∙ ap (λ ks. trimmed_by ks (options_of (out-Agg a).kind) (sum_by bucket_count up) done) (cutter-kinds (out-Agg a).children) ∙ (λ i. trimmed_some a (total_is i) (done_is i))

  -- buckets that exist from the start
  pub fixed-finished : (bs : List Bucket) → cut_tree a (decoded shard r (Fixed bs)) ≡ Fixed (map (finished_bucket shard a r) bs)
  fixed-finished bs =
      ap (cut_tree a) (decoded-out shard r _ _ (out-Fixed bs)) ∙ cut-level (Fixed (map (decoded_bucket decoders key_of) bs)) _ (out-Fixed _) ∙ ap Fixed (finished-all bs)

  pub number-finished : (m : Metric) → cut_tree a (decoded shard r (Number m)) ≡ Number m
  number-finished m = ap (cut_tree a) (decoded-out shard r _ _ (out-Number m)) ∙ cut-level (Number m) _ (out-Number m)

  -- a bucket with the key of its code, and one with its number
  pub coded-with : (code : ℤ) (g : Growing) → finished_bucket shard a r (bucket_at (key.Whole code) g) ≡ finished_with shard a r (key_of code) g
  unfolding computing
  coded-with code g = refl

  pub numbered-with : (n : ℕ) (g : Growing) → finished_bucket shard a r (bucket_at (key.Fixed n) g) ≡ finished_with shard a r (key.Fixed n) g
  unfolding computing
  numbered-with n g = refl

  -- one more bucket with a number, and those that are left
  pub numbered-more : (done : List Bucket) (g : Growing) (gs : List Growing)
      → (done ++ finished_with shard a r (key.Fixed (length done)) g ∷ []) ++ map (finished_bucket shard a r) (numbered_buckets (length (done ++ finished_with shard a r (key.Fixed (length done)) g ∷ [])) gs) ≡ done ++ map (finished_bucket shard a r) (numbered_buckets (length done) (g ∷ gs))
  numbered-more done g gs =
      let x = finished_with shard a r (key.Fixed (length done)) g in
      let long : length (done ++ x ∷ []) ≡ suc (length done) = omega (arith, length-append done (x ∷ [])) in
      append_assoc done (x ∷ []) _
      ∙ ap (λ bs. done ++ bs) (λ j. sym (numbered-with (length done) g) j ∷ map (finished_bucket shard a r) (numbered_buckets (long j) gs))

-- one more tree, and those that are left
pub child-finished : (shard : Columns) (done : List Node) (aggs : List Agg) (rs : List Ready) (i : ℕ) (a : Agg) (r : Ready) (n : Node) (ns : List Node) → slice_get aggs i ≡ Some a → slice_get rs i ≡ Some r
    → (done ++ cut_tree a (decoded shard r n) ∷ []) ++ finished_children shard (drop (i + 1) aggs) (drop (i + 1) rs) ns ≡ done ++ finished_children shard (drop i aggs) (drop i rs) (n ∷ ns)
child-finished shard done aggs rs i a r n ns e f =
    append_assoc done (cut_tree a (decoded shard r n) ∷ []) _
    ∙ ap (λ xs. done ++ xs) (λ j. finished_children shard (sym (drop-at aggs i a e) j) (sym (drop-at rs i r f) j) (n ∷ ns))
