-- A page of a composite is the first groups of all that come after its key, with their true counts.
use Rattle.std.specs.Prelude.{◌≡◌, refl, ℕ, zero, suc, ◌||◌, true, false, if◌then◌else◌, T, List, [], ◌∷◌, map, filter, flat_map, take, length, sum_by, Option, None}
use Rattle.std.specs.List.{AllByRecursion, list_all}
use Rattle.std.specs.declared.cmp.Ordering.{Ordering}
use Rattle.std.specs.Ordering.{is_le}
use Rattle.std.proofs.Common.{sym, ◌∙◌, ap, subst, ⊎_elim}
use Rattle.std.proofs.Math.Bool.{or-true}
use Rattle.std.proofs.lemmas.Bool.{cases_Bool}
use Rattle.agg_model.specs.declared.mapping.Mapping.{Mapping}
use Rattle.agg_model.specs.declared.key.Key.{Key}
use Rattle.agg_model.specs.declared.partial.Bucket.{Bucket}
use Rattle.agg_model.specs.declared.partial.Node.{Node}
use Rattle.agg_model.specs.declared.answer.BucketAnswer.{BucketAnswer}
use Rattle.agg_model.specs.declared.answer.BucketAnswer.TheOpen.{BucketAnswer-F}
use Rattle.agg_model.specs.declared.answer.NodeAnswer.{NodeAnswer}
use Rattle.agg_model.specs.declared.aggregation.Agg.{Row_of-Agg}
use Rattle.agg_model.specs.declared.aggregation.CompositeSource.{CompositeSource}
use Rattle.agg_model.specs.declared.aggregation.Search.{Search}
use Rattle.agg_model.specs.declared.aggregation.Kind.{Kind}
use Rattle.agg_model.specs.declared.aggregation.Kind.TheVariants as kind
use Rattle.agg_evaluation.specs.CompositeKeys.{is_composite_of}
use Rattle.agg_evaluation.specs.Folds.{fold_aggs}
use Rattle.agg_evaluation.specs.Groups.{all_keys, group}
use Rattle.agg_evaluation.specs.KeyOrder.{key_cmp, key_eq, has_key}
use Rattle.agg_evaluation.specs.Matching.{matched_roots}
use Rattle.agg_evaluation.specs.Orders.{bucket_count, bucket_key, composite_cmp}
use Rattle.agg_evaluation.specs.Rows.{PlacedRow, roots}
use Rattle.agg_evaluation.specs.SearchFits.{Made, made_at, handed}
use Rattle.agg_evaluation.specs.Shard.{collector_of, node_of, page}
use Rattle.agg_evaluation.specs.TrueCounts.{rows_at, true_count}
use Rattle.agg_evaluation.specs.Whole.{parts, whole_bucket, whole_by, shape_of}
use Rattle.agg_evaluation.proofs.KeyLists.{ascending-distinct_keys, has_key-distinct_keys, key_eq-self}
use Rattle.agg_evaluation.proofs.UnionLaws.{has_key-append}
use Rattle.agg_evaluation.proofs.WholeLaws.{Union, tree_buckets}
use Rattle.list_laws.specs.Sorting.{insert_sorted, sorted}
use Rattle.list_laws.proofs.Lists.{flat_map-map, map-map, sum_by-map}
use Rattle.growth_laws.proofs.CompositeOrder.{beyond}
use Rattle.growth_laws.proofs.PageKeys.{AreKeys, all-keys, page-among, page-fewer}
use Rattle.agg_spec.specs.Final.{Finisher, finish_at, finish_bucket, finisher_of}
use Rattle.count_laws.specs.CompositeGroups.{Group, answered_groups, group_answer, matched_keys}
use Rattle.count_laws.proofs.Chosen.{each-step}
use Rattle.count_laws.proofs.Descent.{all-found, all-keep, any-of, are-union, composite-whole, each-within, in_union, union-are, union-beyond, union_keys}
use Rattle.count_laws.proofs.Finished.{buckets-are, finished-is, take-mapped}
use Rattle.count_laws.proofs.FirstKeys.{first-keys-same}
use Rattle.count_laws.proofs.Returned.{has-sorted}
use Rattle.count_laws.proofs.Steps.{Handed, count-whole}

-- a key among those of one list of functions is among those of another
has-where : {A : Type 0} (f g : A → List Key) (j : Key) (xs : List A) → AllByRecursion (λ x. has_key j (f x) ≡ true → has_key j (g x) ≡ true) xs → has_key j (flat_map f xs) ≡ true → has_key j (flat_map g xs) ≡ true
has-where f g j [] h e = e
has-where f g j (x ∷ xs) h e =
    has_key-append j (g x) (flat_map g xs)
    ∙ ⊎_elim (λ (here : has_key j (f x) ≡ true). ap (λ b. b || has_key j (flat_map g xs)) (h.0 here))
    (λ (no : has_key j (f x) ≡ false). ap (λ b. has_key j (g x) || b) (has-where f g j xs h.1 (ap (λ b. b || has_key j (flat_map f xs)) (sym no) ∙ sym (has_key-append j (f x) (flat_map f xs)) ∙ e)) ∙ or-true (has_key j (g x)))
    (cases_Bool (has_key j (f x)))

each-so : {A : Type 0} (P : A → Type 0) → ((x : A) → P x) → (xs : List A) → AllByRecursion P xs
each-so P h [] = tt
each-so P h (x ∷ xs) = (h x, each-so P h xs)

-- two functions that agree on the keys of a list
same-where : {C : Type 0} (f g : Key → C) (ks : List Key) → ((q : Key) → has_key q ks ≡ true → f q ≡ g q) → map f ks ≡ map g ks
same-where f g [] same = refl
same-where f g (k ∷ ks) same =
    let rest = same-where f g ks (λ q e. same q (ap (λ b. key_eq q k || b) e ∙ or-true (key_eq q k))) in
    λ i. same k (ap (λ b. b || has_key k ks) (key_eq-self k)) i ∷ rest i

has-take : (n : ℕ) (q : Key) (ks : List Key) → has_key q (take n ks) ≡ true → has_key q ks ≡ true
has-take zero q ks e = absurd (subst T (sym e) tt)
has-take (suc n) q [] e = e
has-take (suc n) q (k ∷ ks) e =
    ⊎_elim (λ (f : key_eq q k ≡ true). ap (λ b. b || has_key q ks) f)
    (λ (f : key_eq q k ≡ false). ap (λ b. key_eq q k || b) (has-take n q ks (ap (λ b. b || has_key q (take n ks)) (sym f) ∙ e)) ∙ or-true (key_eq q k)) (cases_Bool (key_eq q k))

-- buckets of keys are sorted as the keys
module _ (cmp : Key → Key → Ordering) (ws : List Union) (bs : List Bucket) where
  insert-buckets : (k : Key) (ks : List Key) → insert_sorted (λ a b. cmp (bucket_key a) (bucket_key b)) (whole_bucket ws bs k) (map (whole_bucket ws bs) ks) ≡ map (whole_bucket ws bs) (insert_sorted cmp k ks)
  insert-buckets k [] = refl
  insert-buckets k (j ∷ ks) =
      elim (is_le (cmp k j)) as (λ b. (if b then whole_bucket ws bs k ∷ whole_bucket ws bs j ∷ map (whole_bucket ws bs) ks
      else (whole_bucket ws bs j ∷ insert_sorted (λ a b. cmp (bucket_key a) (bucket_key b)) (whole_bucket ws bs k) (map (whole_bucket ws bs) ks))) ≡ map (whole_bucket ws bs) (if b then k ∷ j ∷ ks else (j ∷ insert_sorted cmp k ks))) [
        | true ↦ refl
        | false ↦ ap (λ zs. whole_bucket ws bs j ∷ zs) (insert-buckets k ks)
      ]

  sorted-buckets : (ks : List Key) → sorted (λ a b. cmp (bucket_key a) (bucket_key b)) (map (whole_bucket ws bs) ks) ≡ map (whole_bucket ws bs) (sorted cmp ks)
  sorted-buckets [] = refl
  sorted-buckets (k ∷ ks) = ap (insert_sorted (λ a b. cmp (bucket_key a) (bucket_key b)) (whole_bucket ws bs k)) (sorted-buckets ks) ∙ insert-buckets k (sorted cmp ks)

module _ (m : Mapping) (context : ℕ) (name : List ℕ) {n : _} (children : Row_of-Agg n) (request : Search) (shards : List (List PlacedRow)) (sources : List CompositeSource) (size : ℕ) (after : Option Key)
    (fit : T (list_all (λ (c : Made). c.fits false (handed context (kind.Composite sources size after))) (fold_aggs (made_at m) children))) (no_key : Key) where
  abbrev k : Kind
  k = kind.Composite sources size after

  abbrev ss : List Handed
  ss = map (λ all. (all, matched_roots all request.query)) shards

  abbrev some : List Key
  some = union_keys m context name children no_key ss sources size after fit

  abbrev every : List Key
  every = matched_keys shards request k

  abbrev all_of : Handed → List Key
  all_of s = all_keys s.0 k s.1

  abbrev page_of : Handed → List Key
  page_of s = page sources size after (all_of s)

  in-every : (j : Key) → has_key j every ≡ has_key j (flat_map all_of ss)
  in-every j = has_key-distinct_keys j (flat_map (λ all. all_keys all k (matched_roots all request.query)) shards) ∙ ap (has_key j) (sym (flat_map-map (λ all. (all, matched_roots all request.query)) all_of shards))

  pub are-every : AreKeys sources size after every
  are-every = record {
    up = ascending-distinct_keys (flat_map (λ all. all_keys all k (matched_roots all request.query)) shards);
    composite = all-keep (is_composite_of (length sources)) every (λ j e.
        any-of all_of (is_composite_of (length sources)) j (λ s. all-found (is_composite_of (length sources)) (all_of s) (all-keys s.0 sources size after s.1).composite j) ss (sym (in-every j) ∙ e));
  }

  some-among : (j : Key) → has_key j some ≡ true → has_key j every ≡ true
  some-among j e =
      in-every j ∙ has-where page_of all_of j ss (each-so (λ s. has_key j (page_of s) ≡ true → has_key j (all_of s) ≡ true) (λ s. page-among sources size after j (all_of s) (all-keys s.0 sources size after s.1)) ss)
      (sym (in_union m context name children no_key ss sources size after fit j) ∙ e)

  firsts-among : (j : Key) → has_key j every ≡ true → has_key j (take size (filter (beyond sources after) (sorted (composite_cmp sources) every))) ≡ true → has_key j some ≡ true
  firsts-among j e first =
      let in_page : has_key j (page sources size after every) ≡ true = has-sorted key_cmp j (take size (filter (beyond sources after) (sorted (composite_cmp sources) every))) ∙ first in
      in_union m context name children no_key ss sources size after fit j
      ∙ has-where all_of page_of j ss
      (each-step (λ s. (i : Key) → has_key i (all_of s) ≡ true → has_key i (flat_map all_of ss) ≡ true) (λ s. has_key j (all_of s) ≡ true → has_key j (page_of s) ≡ true)
      (λ s sub there. page-fewer sources size after (all_of s) every (all-keys s.0 sources size after s.1) are-every (λ i g. in-every i ∙ sub i g) j there in_page) ss (each-within all_of ss))
      (sym (in-every j) ∙ e)

  keys-same : take size (sorted (composite_cmp sources) some) ≡ take size (filter (beyond sources after) (sorted (composite_cmp sources) every))
  keys-same =
      first-keys-same sources size after some every (are-union m context name children no_key ss sources size after fit) are-every some-among (union-beyond m context name children no_key ss sources size after fit) firsts-among

  abbrev unions : List Union
  unions = fold_aggs (λ a. whole_by a.children a.kind (shape_of a.kind)) children

  abbrev tree : Handed → Node
  tree s = node_of true s.0 (roots s.0) (fold_aggs (collector_of true s.0 (roots s.0)) children) k s.1

  abbrev buckets : List Bucket
  buckets = tree_buckets (map tree ss)

  abbrev first_some : List Key
  first_some = take size (sorted (composite_cmp sources) some)

  module _ (reach : (all : List PlacedRow) (q : Key) → rows_at all request.aggs (matched_roots all request.query) ((0, q) ∷ []) ≡ group all k (matched_roots all request.query) q) where
    -- a returned key's count is the true one
    counted : (q : Key) → has_key q first_some ≡ true → (whole_bucket unions buckets q).count ≡ true_count shards request ((0, q) ∷ [])
    counted q first =
        let inside = sym (has-sorted (composite_cmp sources) q some) ∙ has-take size q (sorted (composite_cmp sources) some) first in
        count-whole m (handed context k) k children fit q tree ss (composite-whole m context name children q ss sources size after fit inside first)
        ∙ sum_by-map (λ s. length (group s.0 k s.1 q)) (λ all. (all, matched_roots all request.query)) shards
        ∙ (λ i. sum_by (λ all. length (sym (reach all q) i)) shards)

    abbrev group_at : Key → Group
    group_at q = (q, true_count shards request ((0, q) ∷ []))

    abbrev fs : List Finisher
    fs = fold_aggs finisher_of children

    abbrev cmp : Bucket → Bucket → Ordering
    cmp a b = composite_cmp sources (bucket_key a) (bucket_key b)

    finished-group : (b : Bucket) → group_answer (finish_bucket fs None b) ≡ (bucket_key b, bucket_count b)
    finished-group b = ap (λ (l : BucketAnswer-F BucketAnswer NodeAnswer). (l.key, l.count)) (finished-is fs None b)

    pub page-groups : answered_groups (finish_at name fs k (parts (whole_by unions k (shape_of k) (map tree ss))))
        ≡ take size (map group_at (filter (beyond sources after) (sorted (composite_cmp sources) every)))
    page-groups =
        let bs = (parts (whole_by unions k (shape_of k) (map tree ss))).buckets in
        let first = take size (sorted cmp bs) in
        let wb = whole_bucket unions buckets in
        let first_are : first ≡ map wb first_some =
        ap (λ xs. take size (sorted cmp xs)) (union-are m context name children no_key ss sources size after fit)
        ∙ ap (take size) (sorted-buckets (composite_cmp sources) unions buckets some)
        ∙ sym (take-mapped wb size (sorted (composite_cmp sources) some)) in
        let pair : Bucket → Group = (λ b. (bucket_key b, bucket_count b)) in
        ap (map group_answer) (buckets-are name (map (finish_bucket fs None) first))
        ∙ map-map group_answer (finish_bucket fs None) first
        ∙ (λ i. map (λ b. finished-group b i) first)
        ∙ ap (map pair) first_are
        ∙ map-map pair wb first_some
        ∙ same-where (λ q. pair (wb q)) group_at first_some (λ q e. ap (λ (c : ℕ). (q, c)) (counted q e))
        ∙ ap (map group_at) keys-same
        ∙ take-mapped group_at size (filter (beyond sources after) (sorted (composite_cmp sources) every))
