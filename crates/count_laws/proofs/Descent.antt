-- Along a path of returned buckets on which no terms were cut, the whole has at each level the wholes of the answers to the rows there.
use Rattle.std.specs.Prelude.{◌≡◌, refl, ℕ, zero, suc, ◌+◌, ◌==◌, ◌&&◌, ◌||◌, Bool, true, false, cond, T, List, [], ◌∷◌, map, filter_map, flat_map, sum_by, take, find, length, Option, Some, None, option_map, slice_get, unwrap_or}
use Rattle.std.specs.List.{AllByRecursion, enumerate_from, list_all}
use Rattle.std.specs.Option.{option_map_or}
use Rattle.std.proofs.Common.{sym, ◌∙◌, ap, subst, arith, ⊎_elim}
use Rattle.std.proofs.Math.Bool.{or-true}
use Rattle.std.proofs.Math.Facts.{eqb_yes}
use Rattle.std.proofs.lemmas.Bool.{cases_Bool, true≢false}
use Rattle.std.proofs.lemmas.Option.{slice_get-map}
use Rattle.std.proofs.lemmas.List.Sums.{sum_by-cons}
use Rattle.agg_model.specs.declared.mapping.Mapping.{Mapping}
use Rattle.agg_model.specs.declared.key.Key.{Key}
use Rattle.agg_model.specs.declared.partial.Bucket.{Bucket}
use Rattle.agg_model.specs.declared.partial.Node.{Node}
use Rattle.agg_model.specs.declared.partial.Partial.{Partial}
use Rattle.agg_model.specs.declared.partial.Node.TheVariants.{Keyed, Fixed}
use Rattle.agg_model.specs.declared.answer.NodeAnswer.{NodeAnswer}
use Rattle.agg_model.specs.declared.aggregation.Agg.{Agg, Agg', Row_of-Agg, end_of-Agg, more_of-Agg}
use Rattle.agg_model.specs.declared.aggregation.CompositeSource.{CompositeSource}
use Rattle.agg_model.specs.declared.aggregation.Search.{Search}
use Rattle.agg_model.specs.declared.aggregation.Kind.{Kind}
use Rattle.agg_model.specs.declared.aggregation.Kind.TheVariants as kind
use Rattle.agg_evaluation.specs.CompositeKeys.{is_composite_of}
use Rattle.agg_evaluation.specs.Folds.{fold_aggs}
use Rattle.agg_evaluation.specs.KeyOrder.{key_eq, has_key}
use Rattle.agg_evaluation.specs.Keys.{distinct_keys}
use Rattle.agg_evaluation.specs.Orders.{bucket_count, bucket_key, composite_cmp}
use Rattle.agg_evaluation.specs.Rows.{PlacedRow, roots}
use Rattle.agg_evaluation.specs.Groups.{all_keys, group, under}
use Rattle.agg_evaluation.specs.Matching.{matched_roots}
use Rattle.agg_evaluation.specs.QueryFits.{query_fits}
use Rattle.agg_evaluation.specs.SearchFits.{Made, made_at, agg_fits, handed, search_fits}
use Rattle.agg_evaluation.specs.Shard.{Collector, collector_of, bucket_of, fixed_keys, node_of, page, shard_answer, shard_node}
use Rattle.agg_evaluation.specs.Trees.{is_ascending}
use Rattle.agg_evaluation.specs.TrueCounts.{BucketPath, aggs_at, children_of, group_in, listed, rows_at}
use Rattle.agg_evaluation.specs.Whole.{Parts, Shape, by_key, from_start, a_number, children_at, parts, parts_at, whole_bucket, whole_by, whole_node, shape_of}
use Rattle.agg_evaluation.proofs.Computing.{computing}
use Rattle.agg_evaluation.proofs.KeyLists.{ascending-distinct_keys, has_key-distinct_keys}
use Rattle.agg_evaluation.proofs.NodeForms.{out-Keyed, out-Fixed, out-Number}
use Rattle.agg_evaluation.proofs.UnionLaws.{ascending-fixed_keys, has_key-append, keys-whole}
use Rattle.agg_evaluation.proofs.WholeLaws.{Union, tree_buckets, with_key}
use Rattle.list_laws.specs.Sorting.{sorted}
use Rattle.list_laws.proofs.Booleans.{and_left, and_right, both, holds, true_is}
use Rattle.list_laws.proofs.Lists.{filter_map-there, flat_map-map, map-flat_map, map-map, slice_get-enumerated, sum_by-map}
use Rattle.list_laws.proofs.Options.{none_some}
use Rattle.growth_laws.proofs.CompositeOrder.{beyond}
use Rattle.growth_laws.proofs.PageKeys.{AreKeys, all-keys, page-keys}
use Rattle.agg_spec.specs.Filling.{bucket_at}
use Rattle.agg_spec.specs.Final.{Finisher, buckets_answer, empty_bucket, finish_at, finish_bucket, finisher, finisher_of}
use Rattle.count_laws.specs.Paths.{answered_by_shard, is_uncut, is_uncut_at, nodes_at, nodes_below, returns, whole_of_shards}
use Rattle.count_laws.specs.ReturnedPaths.{bucket_behind, is_returned_at}
use Rattle.count_laws.specs.TermsSums.{whole_of_rows}
use Rattle.count_laws.proofs.Chosen.{each-step, returns-metric}
use Rattle.count_laws.proofs.Finished.{returns-buckets, sorted-mapped, take-mapped}
use Rattle.count_laws.proofs.Nothing.{made-children}
use Rattle.count_laws.proofs.Returned.{has-sorted, page-beyond, returned-in_page}
use Rattle.count_laws.proofs.ShardBounds.{no-bucket}
use Rattle.count_laws.proofs.Steps.{Answer, Handed, HasWhole, below-bucket, count-whole, find-whole}
use Rattle.count_laws.proofs.WholeGroups.{HasAll, all_keys-have_all, keys-have_all, outside, uncut-has_all}

pub each-of : {A : Type 0} (P : A → Type 0) → ((x : A) → P x) → (xs : List A) → AllByRecursion P xs
each-of P h [] = tt
each-of P h (x ∷ xs) = (h x, each-of P h xs)

-- numbers that add up to nothing
pub each-zero : {A : Type 0} (f : A → ℕ) (xs : List A) → sum_by f xs ≡ 0 → AllByRecursion (λ x. f x ≡ 0) xs
each-zero f [] e = tt
each-zero f (x ∷ xs) e = (omega (arith, e, sum_by-cons f x xs), each-zero f xs (omega (arith, e, sum_by-cons f x xs)))

-- what holds of the keys of each list holds of all
pub any-of : {A : Type 0} (f : A → List Key) (p : Key → Bool) (j : Key) → ((x : A) → has_key j (f x) ≡ true → p j ≡ true) → (xs : List A) → has_key j (flat_map f xs) ≡ true → p j ≡ true
any-of f p j h [] e = absurd (subst T (sym e) tt)
any-of f p j h (x ∷ xs) e =
    ⊎_elim (λ (here : has_key j (f x) ≡ true). h x here)
    (λ (no : has_key j (f x) ≡ false). any-of f p j h xs (ap (λ b. b || has_key j (flat_map f xs)) (sym no) ∙ sym (has_key-append j (f x) (flat_map f xs)) ∙ e)) (cases_Bool (has_key j (f x)))

-- each list's keys are among all
pub each-within : {A : Type 0} (f : A → List Key) (xs : List A) → AllByRecursion (λ x. (j : Key) → has_key j (f x) ≡ true → has_key j (flat_map f xs) ≡ true) xs
each-within f [] = tt
each-within f (x ∷ xs) = (
  λ j e. has_key-append j (f x) (flat_map f xs) ∙ ap (λ b. b || has_key j (flat_map f xs)) e,
  each-step (λ y. (j : Key) → has_key j (f y) ≡ true → has_key j (flat_map f xs) ≡ true) (λ y. (j : Key) → has_key j (f y) ≡ true → has_key j (flat_map f (x ∷ xs)) ≡ true)
      (λ y h j e. has_key-append j (f x) (flat_map f xs) ∙ ap (λ b. has_key j (f x) || b) (h j e) ∙ or-true (has_key j (f x))) xs (each-within f xs),
)

-- a test that holds of each key that stands in a list
pub all-keep : (p : Key → Bool) (ks : List Key) → ((q : Key) → has_key q ks ≡ true → p q ≡ true) → T (list_all p ks)
all-keep p [] h = tt
all-keep p (k ∷ ks) h =
    both _ _ (holds _ (h k (ap (λ b. b || has_key k ks) (Rattle.agg_evaluation.proofs.KeyLists.key_eq-self k)))) (all-keep p ks (λ q e. h q (ap (λ b. key_eq q k || b) e ∙ or-true (key_eq q k))))

pub all-found : (p : Key → Bool) (ks : List Key) → T (list_all p ks) → (q : Key) → has_key q ks ≡ true → p q ≡ true
all-found p [] h q e = absurd (subst T (sym e) tt)
all-found p (k ∷ ks) h q e =
    ⊎_elim (λ (f : key_eq q k ≡ true). ap p (Rattle.agg_evaluation.proofs.KeyLists.key_eq-exact q k (holds _ f)) ∙ true_is _ (and_left _ _ h))
    (λ (f : key_eq q k ≡ false). all-found p ks (and_right _ _ h) q (ap (λ b. b || has_key q ks) (sym f) ∙ e)) (cases_Bool (key_eq q k))

-- a key among the first of a list stands in the list
take-has : (q : Key) (n : ℕ) (ks : List Key) → has_key q (take n ks) ≡ true → has_key q ks ≡ true
take-has q zero ks e = absurd (subst T (sym e) tt)
take-has q (suc n) [] e = absurd (subst T (sym e) tt)
take-has q (suc n) (k ∷ ks) e =
    elim (key_eq q k) as (λ b. (b || has_key q (take n ks)) ≡ true → (b || has_key q ks) ≡ true) [
      | true ↦ λ f. refl
      | false ↦ λ f. take-has q n ks f
    ] e

find-absent : (ws : List Union) (bs : List Bucket) (q : Key) (ks : List Key) → has_key q ks ≡ false → find (λ b. key_eq q (bucket_key b)) (map (whole_bucket ws bs) ks) ≡ None
find-absent ws bs q [] e = refl
find-absent ws bs q (k ∷ ks) e =
    elim (key_eq q k) as (λ b. (b || has_key q ks) ≡ false → cond b (Some (whole_bucket ws bs k)) (find (λ b. key_eq q (bucket_key b)) (map (whole_bucket ws bs) ks)) ≡ None) [
      | true ↦ λ f. absurd (subst T f tt)
      | false ↦ λ f. find-absent ws bs q ks f
    ] e

-- the keys of a whole, by its shape
abbrev pub keys_at : Shape → Kind → List Bucket → List Key
keys_at by_key k bs = distinct_keys (map bucket_key bs)
keys_at from_start k bs = fixed_keys k
keys_at a_number k bs = []

pub whole-are : (ws : List Union) (k : Kind) (shape : Shape) (ts : List Node) → (parts (whole_by ws k shape ts)).buckets ≡ map (whole_bucket ws (tree_buckets ts)) (keys_at shape k (tree_buckets ts))
whole-are ws k by_key ts = ap (λ l. (parts_at l).buckets) (out-Keyed (map (whole_bucket ws (tree_buckets ts)) (distinct_keys (map bucket_key (tree_buckets ts)))) _ _ _)
whole-are ws k from_start ts = ap (λ l. (parts_at l).buckets) (out-Fixed (map (whole_bucket ws (tree_buckets ts)) (fixed_keys k)))
whole-are ws k a_number ts = ap (λ l. (parts_at l).buckets) (out-Number _)

-- what an aggregation finishes is the whole of its trees
mutual
  pub finisher-whole : (a : Agg) → (finisher a).whole ≡ whole_node a
  finisher-whole (Agg' name k n children) = ap (λ ws. whole_by ws k (shape_of k)) (finishers-whole children)

  finishers-whole : {n : _} (children : Row_of-Agg n) → map (λ (f : Finisher). f.whole) (fold_aggs finisher_of children) ≡ fold_aggs (λ a. whole_by a.children a.kind (shape_of a.kind)) children
  finishers-whole end_of-Agg = refl
  finishers-whole (more_of-Agg a rest) = λ i. finisher-whole a i ∷ finishers-whole rest i

-- below an empty bucket stand the wholes of no trees
wholes-none : (j : ℕ) {n : _} (children : Row_of-Agg n) → map (λ (f : Finisher). f.whole []) (fold_aggs finisher_of children) ≡ map (λ c. c.1 (children_at [] c.0)) (enumerate_from j (fold_aggs (λ a. whole_by a.children a.kind (shape_of a.kind)) children))
wholes-none j end_of-Agg = refl
wholes-none j (more_of-Agg a rest) = λ i. finisher-whole a i [] ∷ wholes-none (j + 1) rest i

pub finishers-listed : {n : _} (children : Row_of-Agg n) → map finisher (listed children) ≡ fold_aggs finisher_of children
finishers-listed end_of-Agg = refl
finishers-listed (more_of-Agg a rest) = ap (λ fs. finisher a ∷ fs) (finishers-listed rest)

-- a bucket of no documents over some nodes, and the whole of the buckets of a key
abbrev empty_over : Key → List Node → Bucket
empty_over q nodes = record { key = q; count = 0; covered = 0; children = nodes }

abbrev whole_over : List Union → Key → List Bucket → Bucket
whole_over ws q same = record {
  key = q;
  count = sum_by bucket_count same;
  covered = sum_by (λ b. b.covered) same;
  children = map (λ c. c.1 (children_at same c.0)) (enumerate_from 0 ws);
}

-- what stands below the bucket of a key in a node's buckets
abbrev below : Key → Parts → List Node
below q p = option_map_or (λ b. b.children) (find (λ b. key_eq q (bucket_key b)) p.buckets) []

module _ (m : Mapping) (context : ℕ) (name : List ℕ) {n : _} (children : Row_of-Agg n) (q : Key) (ss : List Handed) where
  abbrev cs : Handed → List Collector
  cs s = fold_aggs (collector_of true s.0 (roots s.0)) children

  abbrev unions : List Union
  unions = fold_aggs (λ a. whole_by a.children a.kind (shape_of a.kind)) children

  abbrev finishers : List Finisher
  finishers = fold_aggs finisher_of children

  module _ (k : Kind) (fit : T (list_all (λ (c : Made). c.fits false (handed context k)) (fold_aggs (made_at m) children))) where
    abbrev counted : Handed → List PlacedRow
    counted s = under s.0 (roots s.0) k s.1

    abbrev tree : Handed → Node
    tree s = node_of true s.0 (roots s.0) (cs s) k (counted s)

    abbrev buckets : List Bucket
    buckets = tree_buckets (map tree ss)

    -- the groups of the key
    abbrev groups : List Handed
    groups = map (λ s. (s.0, group s.0 k (counted s) q)) ss

    abbrev Whole : Handed → Type 0
    Whole = HasWhole m (handed context k) k children fit q tree

    -- where the parts are buckets of some keys, the key among them
    stands : (p : Parts) (ks : List Key) → p.buckets ≡ map (whole_bucket unions buckets) ks → has_key q (map bucket_key p.buckets) ≡ true → AllByRecursion Whole ss
        → Answer (listed children) (below q p) groups
    stands p ks is there whole =
        let among : has_key q ks ≡ true = sym (ap (λ bs. has_key q (map bucket_key bs)) is ∙ ap (has_key q) (keys-whole unions buckets ks)) ∙ there in
        let found : below q p ≡ (whole_bucket unions buckets q).children =
        ap (λ bs. option_map_or (λ b. b.children) (find (λ b. key_eq q (bucket_key b)) bs) []) is ∙ ap (λ o. option_map_or (λ b. b.children) o []) (find-whole unions buckets q ks among) in
        subst (λ ns. Answer (listed children) ns groups) (sym found)
        (below-bucket m (handed context k) k children fit q tree ss whole)

    -- buckets that exist from the start
    fixed-whole : (kf : List Key) → T (is_ascending kf) → ((s : Handed) → (parts (tree s)).buckets ≡ map (bucket_of true s.0 (roots s.0) k (cs s) (counted s)) kf) → has_key q kf ≡ true → AllByRecursion Whole ss
    fixed-whole kf up are there = each-of Whole (λ s. subst (HasAll s.0 k (cs s) (counted s) q) (sym (are s)) (keys-have_all s.0 k (cs s) (counted s) q kf up (λ e. absurd (true≢false (sym there ∙ e))))) ss

    keyed-are : (bs : List Bucket) (e f c : ℕ) → (parts (Keyed bs e f c)).buckets ≡ bs
    keyed-are bs e f c = ap (λ l. (parts_at l).buckets) (out-Keyed bs e f c)

    fixed-are : (bs : List Bucket) → (parts (Fixed bs)).buckets ≡ bs
    fixed-are bs = ap (λ l. (parts_at l).buckets) (out-Fixed bs)

    -- the node of the whole, and its answer
    abbrev united : Node
    united = whole_by unions k (shape_of k) (map tree ss)

    abbrev final_answer : NodeAnswer
    final_answer = finish_at name finishers k (parts united)

    -- no term was cut, and the answer returns a bucket of the key
    abbrev IsReturned : Type 0
    IsReturned = T (((parts united).cut == 0) && returns q final_answer)

    uncut-of : IsReturned → (parts united).cut ≡ 0
    uncut-of h = eqb_yes (and_left ((parts united).cut == 0) (returns q final_answer) h)

    returned-of : IsReturned → returns q final_answer ≡ true
    returned-of h = true_is _ (and_right ((parts united).cut == 0) (returns q final_answer) h)

    -- the keys of the whole
    abbrev whole_keys : List Key
    whole_keys = keys_at (shape_of k) k buckets

    -- each shard has the whole group of the key, and where the whole has no bucket of it no shard has one
    record Found : Type 0 where
      each : AllByRecursion Whole ss
      absent : has_key q whole_keys ≡ false → with_key q buckets ≡ []

    -- the parts of the whole are buckets of some keys
    among-of : (ks : List Key) → (parts united).buckets ≡ map (whole_bucket unions buckets) ks → has_key q (map bucket_key (parts united).buckets) ≡ true → has_key q ks ≡ true
    among-of ks is there = sym (ap (λ bs. has_key q (map bucket_key bs)) is ∙ ap (has_key q) (keys-whole unions buckets ks)) ∙ there

    by-fixed : whole_keys ≡ fixed_keys k → ((s : Handed) → (parts (tree s)).buckets ≡ map (bucket_of true s.0 (roots s.0) k (cs s) (counted s)) (fixed_keys k))
        → final_answer ≡ buckets_answer name (map (finish_bucket finishers None) (parts united).buckets) → IsReturned → Found
    by-fixed same are answered h =
        let has : has_key q (map bucket_key (parts united).buckets) ≡ true = sym (ap (returns q) answered ∙ returns-buckets name finishers q (parts united).buckets) ∙ returned-of h in
        let there : has_key q whole_keys ≡ true = among-of whole_keys (whole-are unions k (shape_of k) (map tree ss)) has in
        record {
          each = fixed-whole (fixed_keys k) (ascending-fixed_keys k) are (ap (has_key q) (sym same) ∙ there);
          absent = λ e. absurd (true≢false (sym there ∙ e));
        }

    by-number : returns q final_answer ≡ false → IsReturned → Found
    by-number none h = absurd (true≢false (sym (returned-of h) ∙ none))

    -- the bucket behind a returned one is the whole of all buckets of its key
    bucket-found : Found → bucket_at (empty_bucket finishers) (parts united).buckets q ≡ whole_bucket unions buckets q
    bucket-found f = ap (λ bs. bucket_at (empty_bucket finishers) bs q) (whole-are unions k (shape_of k) (map tree ss)) ∙ by (has_key q whole_keys) refl
      where
        by : (b : Bool) → has_key q whole_keys ≡ b → bucket_at (empty_bucket finishers) (map (whole_bucket unions buckets) whole_keys) q ≡ whole_bucket unions buckets q
        by true e = ap (λ o. unwrap_or o (empty_bucket finishers q)) (find-whole unions buckets q whole_keys e)
        by false e =
            ap (λ o. unwrap_or o (empty_bucket finishers q)) (find-absent unions buckets q whole_keys e)
            ∙ ap (empty_over q) (wholes-none 0 children)
            ∙ ap (whole_over unions q) (sym (f.absent e))

  module _ (sources : List CompositeSource) (size : ℕ) (after : Option Key) (fit : T (list_all (λ (c : Made). c.fits false (handed context (kind.Composite sources size after))) (fold_aggs (made_at m) children))) where
    abbrev pub k : Kind
    k = kind.Composite sources size after

    abbrev pub all_of : Handed → List Key
    all_of s = all_keys s.0 k s.1

    abbrev pub page_of : Handed → List Key
    page_of s = page sources size after (all_of s)

    abbrev pub union_keys : List Key
    union_keys = distinct_keys (map bucket_key (buckets k fit))

    tree-are : (s : Handed) → (parts (tree k fit s)).buckets ≡ map (bucket_of true s.0 (roots s.0) k (cs s) s.1) (page_of s)
    tree-are s = keyed-are k fit (map (bucket_of true s.0 (roots s.0) k (cs s) s.1) (page_of s)) 0 0 0

    bucket-keys : (s : Handed) (ks : List Key) → map bucket_key (map (bucket_of true s.0 (roots s.0) k (cs s) s.1) ks) ≡ ks
    bucket-keys s [] = refl
    bucket-keys s (j ∷ ks) = ap (λ js. j ∷ js) (bucket-keys s ks)

    -- the keys of the whole are those of all pages
    pub in_union : (j : Key) → has_key j union_keys ≡ has_key j (flat_map page_of ss)
    in_union j =
        has_key-distinct_keys j (map bucket_key (buckets k fit))
        ∙ ap (λ bs. has_key j (map bucket_key bs)) (flat_map-map (tree k fit) (λ t. (parts t).buckets) ss)
        ∙ ap (has_key j) (map-flat_map bucket_key (λ s. (parts (tree k fit s)).buckets) ss)
        ∙ (λ i. has_key j (flat_map (λ s. (ap (map bucket_key) (tree-are s) ∙ bucket-keys s (page_of s)) i) ss))

    are-keys : (s : Handed) → AreKeys sources size after (page_of s)
    are-keys s = page-keys sources size after (all_of s) (all-keys s.0 sources size after s.1)

    pub are-union : AreKeys sources size after union_keys
    are-union = record {
      up = ascending-distinct_keys (map bucket_key (buckets k fit));
      composite = all-keep (is_composite_of (length sources)) union_keys (λ j e.
          any-of page_of (is_composite_of (length sources)) j (λ s. all-found (is_composite_of (length sources)) (page_of s) (are-keys s).composite j) ss (sym (in_union j) ∙ e));
    }

    pub union-beyond : (j : Key) → has_key j union_keys ≡ true → beyond sources after j ≡ true
    union-beyond j e = any-of page_of (beyond sources after) j (λ s. page-beyond sources size after j (all_of s)) ss (sym (in_union j) ∙ e)

    pub union-are : (parts (united k fit)).buckets ≡ map (whole_bucket unions (buckets k fit)) union_keys
    union-are = keyed-are k fit (map (whole_bucket unions (buckets k fit)) union_keys) _ _ _

    -- the returned keys are the first of the union
    first-keys : returns q (finish_at name (fold_aggs finisher_of children) k (parts (united k fit))) ≡ true → has_key q (take size (sorted (composite_cmp sources) union_keys)) ≡ true
    first-keys e =
        let bs = (parts (united k fit)).buckets in
        sym (returns-buckets name (fold_aggs finisher_of children) q (take size (sorted (λ a b. composite_cmp sources (bucket_key a) (bucket_key b)) bs))
        ∙ ap (has_key q) (take-mapped bucket_key size (sorted (λ a b. composite_cmp sources (bucket_key a) (bucket_key b)) bs))
        ∙ ap (λ js. has_key q (take size js)) (sorted-mapped (composite_cmp sources) bucket_key bs)
        ∙ ap (λ js. has_key q (take size (sorted (composite_cmp sources) js))) (ap (map bucket_key) union-are ∙ keys-whole unions (buckets k fit) union_keys)) ∙ e

    -- each shard has the whole group of a returned key
    pub composite-whole : has_key q union_keys ≡ true → has_key q (take size (sorted (composite_cmp sources) union_keys)) ≡ true → AllByRecursion (Whole k fit) ss
    composite-whole there first =
        each-step (λ s. (j : Key) → has_key j (page_of s) ≡ true → has_key j (flat_map page_of ss) ≡ true) (Whole k fit) (λ s sub.
        subst (HasAll s.0 k (cs s) s.1 q) (sym (tree-are s)) (keys-have_all s.0 k (cs s) s.1 q (page_of s) (are-keys s).up (λ absent.
        ⊎_elim (λ (e : has_key q (all_of s) ≡ true).
        absurd (true≢false (sym (returned-in_page sources size after q (all_of s) union_keys (all-keys s.0 sources size after s.1) are-union (λ j g. in_union j ∙ sub j g) union-beyond there first e) ∙ absent)))
        (λ (e : has_key q (all_of s) ≡ false). outside s.0 k (cs s) s.1 q e) (cases_Bool (has_key q (all_of s)))))) ss (each-within page_of ss)

    by-composite : IsReturned k fit → Found k fit
    by-composite h =
        let first = first-keys (returned-of k fit h) in
        let there : has_key q union_keys ≡ true = sym (has-sorted (composite_cmp sources) q union_keys) ∙ take-has q size (sorted (composite_cmp sources) union_keys) first in
        record { each = composite-whole there first; absent = λ e. absurd (true≢false (sym there ∙ e)) }

  -- buckets by the keys of rows
  absent-key : (bs : List Bucket) → has_key q (distinct_keys (map bucket_key bs)) ≡ false → with_key q bs ≡ []
  absent-key bs e = no-bucket q bs (sym (has_key-distinct_keys q (map bucket_key bs)) ∙ e)

  found : (k : Kind) (fit : T (list_all (λ (c : Made). c.fits false (handed context k)) (fold_aggs (made_at m) children))) → IsReturned k fit → Found k fit
  found (kind.Composite sources size after) fit h = by-composite sources size after fit h
  found (kind.Terms field size shard_size min_doc_count order include exclude missing show_error) fit h =
      let k = kind.Terms field size shard_size min_doc_count order include exclude missing show_error in
      let bs = buckets k fit in
      let ks = distinct_keys (map bucket_key bs) in
      let cuts : sum_by (λ t. (parts t).cut) (map (tree k fit) ss) ≡ 0 = sym (ap (λ l. (parts_at l).cut) (out-Keyed (map (whole_bucket unions bs) ks) _ _ _)) ∙ uncut-of k fit h in
      record {
        each = each-step (λ s. (parts (tree k fit s)).cut ≡ 0) (Whole k fit) (λ s e. uncut-has_all s.0 k (cs s) s.1 q (map (λ c. c.kind) (cs s)) shard_size order e) ss
            (each-zero (λ s. (parts (tree k fit s)).cut) ss (sym (sum_by-map (λ t. (parts t).cut) (tree k fit) ss) ∙ cuts));
        absent = absent-key bs;
      }
  found (kind.Histogram field interval offset min_doc_count extended hard keyed order missing) fit h =
      let k = kind.Histogram field interval offset min_doc_count extended hard keyed order missing in
      record {
        each = each-of (Whole k fit) (λ s. subst (HasAll s.0 k (cs s) s.1 q) (sym (keyed-are k fit (map (bucket_of true s.0 (roots s.0) k (cs s) s.1) (all_keys s.0 k s.1)) 0 0 0)) (all_keys-have_all s.0 k (cs s) s.1 q)) ss;
        absent = absent-key (buckets k fit);
      }
  found (kind.DateHistogram field period zone min_doc_count extended hard keyed order missing) fit h =
      let k = kind.DateHistogram field period zone min_doc_count extended hard keyed order missing in
      record {
        each = each-of (Whole k fit) (λ s. subst (HasAll s.0 k (cs s) s.1 q) (sym (keyed-are k fit (map (bucket_of true s.0 (roots s.0) k (cs s) s.1) (all_keys s.0 k s.1)) 0 0 0)) (all_keys-have_all s.0 k (cs s) s.1 q)) ss;
        absent = absent-key (buckets k fit);
      }
  found (kind.Filters names filters other) fit h = by-fixed (kind.Filters names filters other) fit refl (λ s. fixed-are (kind.Filters names filters other) fit _) refl h
  found (kind.Filter query) fit h = by-fixed (kind.Filter query) fit refl (λ s. fixed-are (kind.Filter query) fit _) refl h
  found (kind.Missing field) fit h = by-fixed (kind.Missing field) fit refl (λ s. fixed-are (kind.Missing field) fit _) refl h
  found kind.Global fit h = by-fixed kind.Global fit refl (λ s. fixed-are kind.Global fit _) refl h
  found (kind.Nested inner) fit h = by-fixed (kind.Nested inner) fit refl (λ s. fixed-are (kind.Nested inner) fit _) refl h
  found (kind.ReverseNested outer) fit h = by-fixed (kind.ReverseNested outer) fit refl (λ s. fixed-are (kind.ReverseNested outer) fit _) refl h
  found (kind.Sum field missing) fit h = by-number (kind.Sum field missing) fit (returns-metric name q _) h
  found (kind.Min field missing) fit h = by-number (kind.Min field missing) fit (returns-metric name q _) h
  found (kind.Max field missing) fit h = by-number (kind.Max field missing) fit (returns-metric name q _) h
  found (kind.Avg field missing) fit h = by-number (kind.Avg field missing) fit (returns-metric name q _) h
  found (kind.ValueCount field missing) fit h = by-number (kind.ValueCount field missing) fit (returns-metric name q _) h

  module _ (k : Kind) (fit : T (list_all (λ (c : Made). c.fits false (handed context k)) (fold_aggs (made_at m) children))) where
    -- what stands below a returned bucket that the whole has
    pub below-kind : T (((parts (united k fit)).cut == 0) && (has_key q (map bucket_key (parts (united k fit)).buckets) && returns q (final_answer k fit)))
        → Answer (listed children) (below q (parts (united k fit))) (groups k fit)
    below-kind h =
        let uncut = (parts (united k fit)).cut == 0 in
        let has = has_key q (map bucket_key (parts (united k fit)).buckets) in
        let back = returns q (final_answer k fit) in
        let both_hold = and_right uncut (has && back) h in
        let f = found k fit (both uncut back (and_left uncut (has && back) h) (and_right has back both_hold)) in
        stands k fit (parts (united k fit)) (whole_keys k fit) (whole-are unions k (shape_of k) (map (tree k fit) ss)) (true_is _ (and_left has back both_hold)) f.each

    abbrev behind : Bucket
    behind = bucket_at (empty_bucket finishers) (parts (united k fit)).buckets q

    -- what stands below a returned bucket, also where a gap was filled
    pub behind-kind : IsReturned k fit → Answer (listed children) behind.children (groups k fit)
    behind-kind h =
        let f = found k fit h in
        subst (λ (b : Bucket). Answer (listed children) b.children (groups k fit)) (sym (bucket-found k fit f)) (below-bucket m (handed context k) k children fit q (tree k fit) ss f.each)

    -- and how many rows it counts
    pub behind-count : IsReturned k fit → bucket_count behind ≡ sum_by (λ s. length (group s.0 k (counted k fit s) q)) ss
    behind-count h = let f = found k fit h in ap bucket_count (bucket-found k fit f) ∙ count-whole m (handed context k) k children fit q (tree k fit) ss f.each

-- the nodes below a returned bucket of an aggregation of which no terms were cut
pub below-whole : (m : Mapping) (top : Bool) (context : ℕ) (a : Agg) (q : Key) (ss : List Handed) → T (agg_fits m top context a) → T (is_uncut_at a (whole_of_rows a ss) q)
    → Answer (children_of a) (below q (parts (whole_of_rows a ss))) (map (λ s. (s.0, group_in s.0 a s.1 q)) ss)
unfolding computing
below-whole m top context (Agg' name k n children) q ss h = below-kind m context name children q ss k (made-children m [] k (fold_aggs (made_at m) children) top context h)

-- those below the bucket behind a returned one
pub behind-whole : (m : Mapping) (top : Bool) (context : ℕ) (a : Agg) (q : Key) (ss : List Handed) → T (agg_fits m top context a) → T (is_returned_at a (whole_of_rows a ss) q)
    → Answer (children_of a) (bucket_behind a (whole_of_rows a ss) q).children (map (λ s. (s.0, group_in s.0 a s.1 q)) ss)
unfolding computing
behind-whole m top context (Agg' name k n children) q ss h returned =
    subst (λ fs. Answer (listed children) (bucket_at (empty_bucket fs) (parts (whole_of_rows (Agg' name k n children) ss)).buckets q).children (map (λ s. (s.0, group s.0 k (under s.0 (roots s.0) k s.1) q)) ss)) (sym (finishers-listed children))
    (behind-kind m context name children q ss k (made-children m [] k (fold_aggs (made_at m) children) top context h) returned)

pub behind-counts : (m : Mapping) (top : Bool) (context : ℕ) (a : Agg) (q : Key) (ss : List Handed) → T (agg_fits m top context a) → T (is_returned_at a (whole_of_rows a ss) q)
    → bucket_count (bucket_behind a (whole_of_rows a ss) q) ≡ sum_by (λ s. length (group_in s.0 a s.1 q)) ss
unfolding computing
behind-counts m top context (Agg' name k n children) q ss h returned =
    subst (λ fs. bucket_count (bucket_at (empty_bucket fs) (parts (whole_of_rows (Agg' name k n children) ss)).buckets q) ≡ sum_by (λ s. length (group s.0 k (under s.0 (roots s.0) k s.1) q)) ss) (sym (finishers-listed children))
    (behind-count m context name children q ss k (made-children m [] k (fold_aggs (made_at m) children) top context h) returned)

-- the aggregations of a list are made for the mapping
abbrev Fit : Mapping → Bool → ℕ → List Agg → Type 0
Fit m top context aggs = T (list_all (agg_fits m top context) aggs)

pub fit-at : (m : Mapping) (top : Bool) (context : ℕ) (aggs : List Agg) (j : ℕ) (a : Agg) → Fit m top context aggs → slice_get aggs j ≡ Some a → T (agg_fits m top context a)
fit-at m top context [] j a h e = absurd (none_some a e)
fit-at m top context (b ∷ aggs) zero a h e = subst (λ o. T (option_map_or (agg_fits m top context) o true)) e (and_left _ _ h)
fit-at m top context (b ∷ aggs) (suc j) a h e = fit-at m top context aggs j a (and_right _ _ h) e

pub fit-listed : (m : Mapping) (context : ℕ) {n : _} (children : Row_of-Agg n) → T (list_all (λ (c : Made). c.fits false context) (fold_aggs (made_at m) children)) → Fit m false context (listed children)
fit-listed m context end_of-Agg h = tt
fit-listed m context (more_of-Agg a rest) h = both _ _ (and_left _ _ h) (fit-listed m context rest (and_right _ _ h))

abbrev pub kind_at : Agg → Kind
kind_at (Agg' name k n children) = k

pub fit-children : (m : Mapping) (top : Bool) (context : ℕ) (a : Agg) → T (agg_fits m top context a) → Fit m false (handed context (kind_at a)) (children_of a)
fit-children m top context (Agg' name k n children) h = fit-listed m (handed context k) children (made-children m [] k (fold_aggs (made_at m) children) top context h)

pub same-handed : (ss : List Handed) → map (λ s. (s.0, s.1)) ss ≡ ss
same-handed [] = refl
same-handed (s ∷ ss) = ap (λ rest. s ∷ rest) (same-handed ss)

-- along a path
pub descend : (m : Mapping) (path : BucketPath) (top : Bool) (context : ℕ) (aggs : List Agg) (nodes : List Node) (ss : List Handed) → Fit m top context aggs → Answer aggs nodes ss → T (is_uncut aggs nodes path)
    → Answer (aggs_at aggs path) (nodes_at nodes path) (map (λ s. (s.0, rows_at s.0 aggs s.1 path)) ss)
descend m [] top context aggs nodes ss fit answers h = subst (Answer aggs nodes) (sym (same-handed ss)) answers
descend m (step ∷ path) top context aggs nodes ss fit answers h = by (descend m path false) (slice_get aggs step.0) refl h
  where
    by : ((context : ℕ) (aggs : List Agg) (nodes : List Node) (ss : List Handed) → Fit m false context aggs → Answer aggs nodes ss → T (is_uncut aggs nodes path)
        → Answer (aggs_at aggs path) (nodes_at nodes path) (map (λ s. (s.0, rows_at s.0 aggs s.1 path)) ss)) → (o : Option Agg) → slice_get aggs step.0 ≡ o
        → T (option_map_or (λ a. option_map_or (λ n. is_uncut_at a n step.1) (slice_get nodes step.0) false && is_uncut (children_of a) (nodes_below nodes step) path) o false)
        → Answer (option_map_or (λ a. aggs_at (children_of a) path) o []) (nodes_at (nodes_below nodes step) path)
        (map (λ s. (s.0, option_map_or (λ a. rows_at s.0 (children_of a) (group_in s.0 a s.1 step.1) path) o [])) ss)
    by later_steps None e h = absurd h
    by later_steps (Some a) e h =
        let node = answers step.0 a e in
        let here = subst (λ o. T (option_map_or (λ n. is_uncut_at a n step.1) o false)) node (and_left _ (is_uncut (children_of a) (nodes_below nodes step) path) h) in
        let later = and_right (option_map_or (λ n. is_uncut_at a n step.1) (slice_get nodes step.0) false) (is_uncut (children_of a) (nodes_below nodes step) path) h in
        let made = fit-at m top context aggs step.0 a fit e in
        let groups = map (λ s. (s.0, group_in s.0 a s.1 step.1)) ss in
        let below_are : nodes_below nodes step ≡ below step.1 (parts (whole_of_rows a ss)) = ap (λ o. option_map_or (λ n. below step.1 (parts n)) o []) node in
        let next : Answer (children_of a) (nodes_below nodes step) groups = subst (λ ns. Answer (children_of a) ns groups) (sym below_are) (below-whole m top context a step.1 ss made here) in
        subst (Answer (aggs_at (children_of a) path) (nodes_at (nodes_below nodes step) path)) (map-map (λ s. (s.0, rows_at s.0 (children_of a) s.1 path)) (λ s. (s.0, group_in s.0 a s.1 step.1)) ss)
        (later_steps (handed context (kind_at a)) (children_of a) (nodes_below nodes step) groups (fit-children m top context a made) next later)

-- at the top of a search
pub answer-at-top : (search : Search) (shards : List (List PlacedRow)) → Answer search.aggs (whole_of_shards search shards).nodes (map (λ all. (all, matched_roots all search.query)) shards)
answer-at-top search shards j a at =
    let trees = map (shard_answer search) shards in
    let zero_first : 0 + j ≡ j = omega arith in
    slice_get-enumerated 0 search.aggs (λ a. whole_node a.1 (filter_map (λ t. slice_get t.nodes a.0) trees)) j a at
    ∙ ap (λ i. Some (whole_node a (filter_map (λ t. slice_get t.nodes i) trees))) zero_first
    ∙ ap (λ ns. Some (whole_node a ns)) (filter_map-there (λ (t : Partial). slice_get t.nodes j) (shard_answer search) (λ all. shard_node all a (matched_roots all search.query))
    (λ all. slice_get-map (λ a. shard_node all a (matched_roots all search.query)) search.aggs j ∙ ap (option_map (λ a. shard_node all a (matched_roots all search.query))) at) shards)
    ∙ ap (λ ns. Some (whole_node a ns)) (sym (map-map (λ s. shard_node s.0 a s.1) (λ all. (all, matched_roots all search.query)) shards))

-- the node of the whole at the end of an uncut path
pub whole-at : (m : Mapping) (search : Search) (shards : List (List PlacedRow)) (path : BucketPath) (place : ℕ) (a : Agg) → T (search_fits m search) → T (is_uncut search.aggs (whole_of_shards search shards).nodes path)
    → slice_get (aggs_at search.aggs path) place ≡ Some a → slice_get (nodes_at (whole_of_shards search shards).nodes path) place ≡ Some (whole_of_rows a (answered_by_shard search path shards))
whole-at m search shards path place a fit uncut at =
    let handed : List Handed = map (λ all. (all, matched_roots all search.query)) shards in
    descend m path true 0 search.aggs (whole_of_shards search shards).nodes handed (and_right (query_fits m 0 search.query) (list_all (agg_fits m true 0) search.aggs) fit) (answer-at-top search shards) uncut place a at
    ∙ ap (λ ss. Some (whole_of_rows a ss)) (map-map (λ s. (s.0, rows_at s.0 search.aggs s.1 path)) (λ all. (all, matched_roots all search.query)) shards)
