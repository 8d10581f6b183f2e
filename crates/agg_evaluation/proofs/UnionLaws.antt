-- The whole of wholes is the whole of all their trees: for each kind of node, for aggregations, and for searches.
use Rattle.std.specs.Prelude.{◌≡◌, refl, ℕ, zero, suc, ◌+◌, ◌<◌, Bool, true, false, cond, ◌||◌, T, List, [], ◌∷◌, ◌++◌, map, flat_map, sum_by}
use Rattle.std.specs.List.{range_with_len}
use Rattle.std.proofs.Common.{sym, ◌∙◌, ap, subst, arith}
use Rattle.agg_model.specs.declared.key.Key.{Key}
use Rattle.agg_model.specs.declared.key.Key.TheVariants as key
use Rattle.agg_model.specs.declared.partial.Bucket.{Bucket}
use Rattle.agg_model.specs.declared.partial.Node.{Node}
use Rattle.agg_model.specs.declared.partial.Node.TheVariants.{Keyed, Fixed, Number}
use Rattle.agg_model.specs.declared.aggregation.Agg.{Agg, Agg', Row_of-Agg, end_of-Agg, more_of-Agg}
use Rattle.agg_model.specs.declared.aggregation.Kind.{Kind}
use Rattle.agg_model.specs.declared.aggregation.Kind.TheVariants as kind
use Rattle.agg_evaluation.specs.Folds.{fold_aggs}
use Rattle.agg_evaluation.specs.KeyOrder.{key_eq, has_key}
use Rattle.agg_evaluation.specs.Keys.{distinct_keys}
use Rattle.agg_evaluation.specs.Orders.{bucket_key}
use Rattle.agg_evaluation.specs.Shard.{fixed_keys}
use Rattle.agg_evaluation.specs.Trees.{is_ascending}
use Rattle.agg_evaluation.specs.Whole.{Parts, parts, parts_at, whole_bucket, whole_by, whole_node, shape_of, Shape, by_key, from_start, a_number, metric_sum}
use Rattle.agg_evaluation.proofs.KeyLists.{is_below, ascending-distinct_keys, has_key-distinct_keys, distinct_keys-same, key_eq-self}
use Rattle.list_laws.proofs.Booleans.{both}
use Rattle.list_laws.proofs.Lists.{joined, flat_map-flat_map, flat_map-map, map-flat_map, sum_by-flat_map, sum_by-map}
use Rattle.agg_evaluation.proofs.MetricLaws.{metric_sum-groups}
use Rattle.agg_evaluation.proofs.NodeForms.{out-Keyed, out-Fixed, out-Number}
use Rattle.agg_evaluation.proofs.DistinctKeys.{fixed_less}
use Rattle.agg_evaluation.proofs.WholeLaws.{Union, Unites, EachUnites, tree_buckets, with_key, bucket-groups}

or_none : (b c : Bool) → (b || c) ≡ false → c ≡ false
or_none true c e = absurd (subst T e tt)
or_none false c e = e

-- no bucket has a key that stands in none
pub without_key : (q : Key) (bs : List Bucket) → has_key q (map bucket_key bs) ≡ false → with_key q bs ≡ []
without_key q [] e = refl
without_key q (b ∷ bs) e =
    elim (key_eq q (bucket_key b)) as (λ c. (c || has_key q (map bucket_key bs)) ≡ false → cond c (b ∷ with_key q bs) (with_key q bs) ≡ []) [
      | true ↦ λ e. absurd (subst T e tt)
      | false ↦ λ e. without_key q bs e
    ] e

pub has_key-append : (q : Key) (js ks : List Key) → has_key q (js ++ ks) ≡ (has_key q js || has_key q ks)
has_key-append q [] ks = refl
has_key-append q (j ∷ js) ks =
    ap (λ b. key_eq q j || b) (has_key-append q js ks)
    ∙ elim (key_eq q j) as (λ b. (b || (has_key q js || has_key q ks)) ≡ ((b || has_key q js) || has_key q ks)) [ true ↦ refl | false ↦ refl ]

has_key-flat_map : {X : Type 0} (q : Key) (f g : X → List Key) → ((x : X) → has_key q (f x) ≡ has_key q (g x)) → (xs : List X) → has_key q (flat_map f xs) ≡ has_key q (flat_map g xs)
has_key-flat_map q f g same [] = refl
has_key-flat_map q f g same (x ∷ xs) =
    has_key-append q (f x) (flat_map f xs) ∙ (λ i. same x i || has_key-flat_map q f g same xs i) ∙ sym (has_key-append q (g x) (flat_map g xs))

-- two functions that agree on the keys of a list
map-where : {C : Type 0} (f g : Key → C) (ks : List Key) → ((q : Key) → has_key q ks ≡ true → f q ≡ g q) → map f ks ≡ map g ks
map-where f g [] same = refl
map-where f g (k ∷ ks) same =
    let rest = map-where f g ks (λ q e. same q (ap (λ b. key_eq q k || b) e ∙ or_true (key_eq q k))) in
    λ i. same k (ap (λ b. b || has_key k ks) (key_eq-self k)) i ∷ rest i
  where
    or_true : (b : Bool) → (b || true) ≡ true
    or_true true = refl
    or_true false = refl

below-range : (i a n : ℕ) → i < a → T (is_below (key.Fixed i) (map key.Fixed (range_with_len a n)))
below-range i a zero h = tt
below-range i a (suc n) h = both _ _ (fixed_less i a h) (below-range i (a + 1) n (omega arith))

ascending-range : (a n : ℕ) → T (is_ascending (map key.Fixed (range_with_len a n)))
ascending-range a zero = tt
ascending-range a (suc n) = both _ _ (below-range a (a + 1) n (omega arith)) (ascending-range (a + 1) n)

pub ascending-fixed_keys : (k : Kind) → T (is_ascending (fixed_keys k))
ascending-fixed_keys (kind.Filters names filters other) = ascending-range 0 _
ascending-fixed_keys (kind.Terms field size shard_size min_doc_count order include exclude missing show_error) = tt
ascending-fixed_keys (kind.Histogram field interval offset min_doc_count extended hard keyed order missing) = tt
ascending-fixed_keys (kind.DateHistogram field period zone min_doc_count extended hard keyed order missing) = tt
ascending-fixed_keys (kind.Filter query) = tt
ascending-fixed_keys (kind.Missing field) = tt
ascending-fixed_keys kind.Global = tt
ascending-fixed_keys (kind.Nested context) = tt
ascending-fixed_keys (kind.ReverseNested context) = tt
ascending-fixed_keys (kind.Composite sources size after) = tt
ascending-fixed_keys (kind.Sum field missing) = tt
ascending-fixed_keys (kind.Min field missing) = tt
ascending-fixed_keys (kind.Max field missing) = tt
ascending-fixed_keys (kind.Avg field missing) = tt
ascending-fixed_keys (kind.ValueCount field missing) = tt

pub keys-whole : (cs : List Union) (bs : List Bucket) (ks : List Key) → map bucket_key (map (whole_bucket cs bs) ks) ≡ ks
keys-whole cs bs [] = refl
keys-whole cs bs (k ∷ ks) = ap (λ js. k ∷ js) (keys-whole cs bs ks)

-- a number of the parts that the union adds up
parts-added : (w : Union) (number : Parts → ℕ) → ((xs : List Node) → number (parts (w xs)) ≡ sum_by (λ t. number (parts t)) xs) → (xss : List (List Node))
    → sum_by (λ t. number (parts t)) (map w xss) ≡ sum_by (λ t. number (parts t)) (joined xss)
parts-added w number adds xss =
    sum_by-map (λ t. number (parts t)) w xss ∙ (λ i. sum_by (λ xs. adds xs i) xss) ∙ sym (sum_by-flat_map (λ t. number (parts t)) (λ xs. xs) xss)

module _ (cs : List Union) (laws : EachUnites cs) (k : Kind) where
  unites-by_key : Unites (whole_by cs k by_key)
  unites-by_key xss =
      let w = whole_by cs k by_key in
      let keys_of = λ (xs : List Node). distinct_keys (map bucket_key (tree_buckets xs)) in
      let groups = λ (xs : List Node). map (whole_bucket cs (tree_buckets xs)) (keys_of xs) in
      let have : (xs : List Node) → (parts (w xs)) ≡ record { buckets = groups xs; error = sum_by (λ t. (parts t).error) xs; full = sum_by (λ t. (parts t).full) xs; cut = sum_by (λ t. (parts t).cut) xs; metrics = [] }
      = (λ xs. ap parts_at (out-Keyed _ _ _ _)) in
      let all_groups : tree_buckets (map w xss) ≡ flat_map groups xss = flat_map-map w (λ t. (parts t).buckets) xss ∙ (λ i. flat_map (λ xs. (have xs i).buckets) xss) in
      let all_trees : tree_buckets (joined xss) ≡ flat_map tree_buckets xss = flat_map-flat_map (λ xs. xs) (λ t. (parts t).buckets) xss in
      let same_keys : distinct_keys (map bucket_key (flat_map groups xss)) ≡ distinct_keys (map bucket_key (flat_map tree_buckets xss)) =
      distinct_keys-same _ _ (λ q.
      ap (has_key q) (map-flat_map bucket_key groups xss ∙ (λ i. flat_map (λ xs. keys-whole cs (tree_buckets xs) (keys_of xs) i) xss))
      ∙ has_key-flat_map q keys_of (λ xs. map bucket_key (tree_buckets xs)) (λ xs. has_key-distinct_keys q (map bucket_key (tree_buckets xs))) xss
      ∙ ap (has_key q) (sym (map-flat_map bucket_key tree_buckets xss))) in
      let one = λ (q : Key). bucket-groups cs laws keys_of (λ xs. ascending-distinct_keys (map bucket_key (tree_buckets xs))) q
      (λ xs e. without_key q (tree_buckets xs) (sym (has_key-distinct_keys q (map bucket_key (tree_buckets xs))) ∙ e)) xss in
      let buckets = ap (λ bs. map (whole_bucket cs bs) (distinct_keys (map bucket_key bs))) all_groups
      ∙ (λ i. map (λ q. one q i) (same_keys i))
      ∙ sym (ap (λ bs. map (whole_bucket cs bs) (distinct_keys (map bucket_key bs))) all_trees) in
      let errors = parts-added w (λ p. p.error) (λ xs. ap (λ p. p.error) (have xs)) xss in
      let fulls = parts-added w (λ p. p.full) (λ xs. ap (λ p. p.full) (have xs)) xss in
      let cuts = parts-added w (λ p. p.cut) (λ xs. ap (λ p. p.cut) (have xs)) xss in
      λ i. Keyed (buckets i) (errors i) (fulls i) (cuts i)

  unites-from_start : Unites (whole_by cs k from_start)
  unites-from_start xss =
      let w = whole_by cs k from_start in
      let keys_of = λ (xs : List Node). fixed_keys k in
      let groups = λ (xs : List Node). map (whole_bucket cs (tree_buckets xs)) (fixed_keys k) in
      let have : (xs : List Node) → (parts (w xs)).buckets ≡ groups xs = (λ xs. ap (λ n. (parts_at n).buckets) (out-Fixed _)) in
      let all_groups : tree_buckets (map w xss) ≡ flat_map groups xss = flat_map-map w (λ t. (parts t).buckets) xss ∙ (λ i. flat_map (λ xs. have xs i) xss) in
      let all_trees : tree_buckets (joined xss) ≡ flat_map tree_buckets xss = flat_map-flat_map (λ xs. xs) (λ t. (parts t).buckets) xss in
      ap (λ bs. Fixed (map (whole_bucket cs bs) (fixed_keys k))) all_groups
      ∙ ap Fixed (map-where _ _ (fixed_keys k) (λ q there. bucket-groups cs laws keys_of (λ xs. ascending-fixed_keys k) q (λ xs e. absurd (subst T (sym there ∙ e) tt)) xss))
      ∙ sym (ap (λ bs. Fixed (map (whole_bucket cs bs) (fixed_keys k))) all_trees)

  unites-a_number : Unites (whole_by cs k a_number)
  unites-a_number xss =
      let w = whole_by cs k a_number in
      let metrics = λ (xs : List Node). flat_map (λ t. (parts t).metrics) xs in
      let have : (xs : List Node) → (parts (w xs)).metrics ≡ metric_sum (metrics xs) ∷ [] = (λ xs. ap (λ n. (parts_at n).metrics) (out-Number _)) in
      ap (λ ms. Number (metric_sum ms)) (flat_map-map w (λ t. (parts t).metrics) xss ∙ (λ i. flat_map (λ xs. have xs i) xss))
      ∙ ap Number (metric_sum-groups metrics xss)
      ∙ sym (ap (λ ms. Number (metric_sum ms)) (flat_map-flat_map (λ xs. xs) (λ t. (parts t).metrics) xss))

  unites-by : (shape : Shape) → Unites (whole_by cs k shape)
  unites-by by_key = unites-by_key
  unites-by from_start = unites-from_start
  unites-by a_number = unites-a_number

mutual
  pub whole_node-unites : (a : Agg) → Unites (whole_node a)
  whole_node-unites (Agg' name k n children) = unites-by _ (each-unites children) k (shape_of k)

  each-unites : {n : _} (children : Row_of-Agg n) → EachUnites (fold_aggs (λ a. whole_by a.children a.kind (shape_of a.kind)) children)
  each-unites end_of-Agg = tt
  each-unites (more_of-Agg a rest) = (whole_node-unites a, each-unites rest)
