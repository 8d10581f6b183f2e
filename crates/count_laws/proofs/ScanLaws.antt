-- The pages of a search whose first aggregation is a composite.
use Rattle.std.specs.Prelude.{◌≡◌, refl, ℕ, zero, suc, ◌&&◌, nat_le, Bool, true, T, List, [], ◌∷◌, map, filter, take, drop, length, sum_by, Option, Some, None, option_map, slice_get}
use Rattle.std.specs.List.{last_or, list_all}
use Rattle.std.specs.Option.{option_map_or}
use Rattle.std.proofs.Common.{sym, ◌∙◌, ap, subst}
use Rattle.agg_model.specs.declared.limits.TheConstants.{MAX_PAGE, MAX_SOURCES}
use Rattle.agg_model.specs.declared.mapping.Mapping.{Mapping}
use Rattle.agg_model.specs.declared.key.Key.{Key}
use Rattle.agg_model.specs.declared.key.Key.TheVariants as key
use Rattle.agg_model.specs.declared.aggregation.CompositeSource.{CompositeSource}
use Rattle.agg_model.specs.declared.aggregation.Kind.{Kind}
use Rattle.agg_model.specs.declared.answer.BucketAnswer.{out-BucketAnswer}
use Rattle.agg_evaluation.specs.CompositeKeys.{is_composite_of}
use Rattle.agg_evaluation.proofs.Computing.{computing}
use Rattle.agg_spec.specs.Pages.{agg_after, last_key, search_after}
use Rattle.agg_model.specs.declared.answer.NodeAnswer.{NodeAnswer, out-NodeAnswer}
use Rattle.agg_model.specs.declared.aggregation.Agg.{Agg, Agg'}
use Rattle.agg_model.specs.declared.aggregation.Search.{Search}
use Rattle.agg_model.specs.declared.aggregation.Kind.TheVariants as kind
use Rattle.agg_evaluation.specs.Folds.{fold_aggs}
use Rattle.agg_evaluation.specs.Matching.{matched_roots}
use Rattle.agg_evaluation.specs.QueryFits.{query_fits}
use Rattle.agg_evaluation.specs.Rows.{PlacedRow}
use Rattle.agg_evaluation.specs.SearchFits.{agg_fits, kind_fits, made_at, search_fits, source_fits}
use Rattle.agg_evaluation.specs.TrueCounts.{kind_of, true_count}
use Rattle.list_laws.proofs.Booleans.{and_left, and_right, true_is}
use Rattle.list_laws.proofs.Options.{none_some}
use Rattle.agg_spec.specs.Final.{finisher}
use Rattle.count_laws.specs.CompositeGroups.{Group, answered_groups, composite_groups, group_answer, keys_after, matched_keys, page_size}
use Rattle.count_laws.specs.Paths.{answer_of_shards, whole_of_shards}
use Rattle.count_laws.specs.TermsSums.{whole_of_rows}
use Rattle.count_laws.proofs.AtPaths.{rows-one_more, some-same}
use Rattle.count_laws.proofs.Descent.{answer-at-top, fit-at}
use Rattle.count_laws.proofs.Nothing.{made-children, made-kind}
use Rattle.count_laws.proofs.ScanPages.{are-every, page-groups}
use Rattle.count_laws.proofs.Finished.{finished-at, take-mapped}
use Rattle.count_laws.proofs.NextPages.{keys-behind}
use Rattle.growth_laws.proofs.CompositeOrder.{beyond}
use Rattle.list_laws.specs.Sorting.{sorted}
use Rattle.list_laws.proofs.Lists.{map-map}
use Rattle.agg_evaluation.specs.Orders.{composite_cmp}

-- the answer at the top, and so for each aggregation there
pub answer-first : (request : Search) (shards : List (List PlacedRow)) (j : ℕ) (a : Agg) → slice_get request.aggs j ≡ Some a
    → slice_get (answer_of_shards request shards).nodes j ≡ Some ((finisher a).finish (whole_of_rows a (map (λ all. (all, matched_roots all request.query)) shards)))
answer-first request shards j a at = finished-at request.aggs (whole_of_shards request shards).nodes j a _ at (answer-at-top request shards j a at)

-- the first page of the groups
first-of : (m : Mapping) (request : Search) (shards : List (List PlacedRow)) (a : Agg) (size : ℕ) → slice_get request.aggs 0 ≡ Some a → T (agg_fits m true 0 a) → page_size (kind_of a) ≡ Some size
    → answered_groups ((finisher a).finish (whole_of_rows a (map (λ all. (all, matched_roots all request.query)) shards))) ≡ take size (map (λ q. (q, true_count shards request ((0, q) ∷ []))) (keys_after shards request (kind_of a)))
first-of m request shards (Agg' name (kind.Composite sources page after) n children) size at fit e =
    let k = kind.Composite sources page after in
    let a = Agg' name k n children in
    page-groups m 0 name children request shards sources page after (made-children m [] k (fold_aggs (made_at m) children) true 0 fit) key.Null
    (λ all q. rows-one_more all [] request.aggs (matched_roots all request.query) 0 q a at)
    ∙ ap (λ s. take s (map (λ q. (q, true_count shards request ((0, q) ∷ []))) (keys_after shards request k))) (some-same e)
first-of m request shards (Agg' name (kind.Terms field size shard_size min_doc_count order include exclude missing show_error) n children) s at fit e = absurd (none_some s e)
first-of m request shards (Agg' name (kind.Histogram field interval offset min_doc_count extended hard keyed orders missing) n children) s at fit e = absurd (none_some s e)
first-of m request shards (Agg' name (kind.DateHistogram field period zone min_doc_count extended hard keyed orders missing) n children) s at fit e = absurd (none_some s e)
first-of m request shards (Agg' name (kind.Filters names filters other) n children) s at fit e = absurd (none_some s e)
first-of m request shards (Agg' name (kind.Filter query) n children) s at fit e = absurd (none_some s e)
first-of m request shards (Agg' name (kind.Missing field) n children) s at fit e = absurd (none_some s e)
first-of m request shards (Agg' name kind.Global n children) s at fit e = absurd (none_some s e)
first-of m request shards (Agg' name (kind.Nested context) n children) s at fit e = absurd (none_some s e)
first-of m request shards (Agg' name (kind.ReverseNested context) n children) s at fit e = absurd (none_some s e)
first-of m request shards (Agg' name (kind.Sum field missing) n children) s at fit e = absurd (none_some s e)
first-of m request shards (Agg' name (kind.Min field missing) n children) s at fit e = absurd (none_some s e)
first-of m request shards (Agg' name (kind.Max field missing) n children) s at fit e = absurd (none_some s e)
first-of m request shards (Agg' name (kind.Avg field missing) n children) s at fit e = absurd (none_some s e)
first-of m request shards (Agg' name (kind.ValueCount field missing) n children) s at fit e = absurd (none_some s e)

pub page-first : (m : Mapping) (request : Search) (shards : List (List PlacedRow)) (a : Agg) (size : ℕ) (page : NodeAnswer) → T (search_fits m request) → slice_get request.aggs 0 ≡ Some a → page_size (kind_of a) ≡ Some size
    → slice_get (answer_of_shards request shards).nodes 0 ≡ Some page → answered_groups page ≡ take size (composite_groups shards request)
page-first m request shards a size page fit at e answered =
    ap answered_groups (some-same (sym answered ∙ answer-first request shards 0 a at))
    ∙ first-of m request shards a size at (fit-at m true 0 request.aggs 0 a (and_right (query_fits m 0 request.query) (list_all (agg_fits m true 0) request.aggs) fit) at) e
    ∙ ap (λ o. take size (option_map_or (λ a. map (λ q. (q, true_count shards request ((0, q) ∷ []))) (keys_after shards request (kind_of a))) o [])) (sym at)

-- the `after` of a composite that is made for a mapping
after-composite : (m : Mapping) (kinds : List Kind) (sources : List CompositeSource) (size : ℕ) (after : Option Key) → T (kind_fits m true 0 kinds (kind.Composite sources size after)) → option_map_or (is_composite_of (length sources)) after true ≡ true
after-composite m kinds sources size None h = refl
after-composite m kinds sources size (Some k) h =
    let n = length sources in
    let paged : Bool = nat_le 1 size && (nat_le size MAX_PAGE && is_composite_of n k) in
    let sourced : Bool = list_all (source_fits m) sources && paged in
    let most = and_right (nat_le 1 n) (nat_le n MAX_SOURCES && sourced) h in
    let fit = and_right (nat_le n MAX_SOURCES) sourced most in
    let page_fit = and_right (list_all (source_fits m) sources) paged fit in
    let parts = and_right (nat_le size MAX_PAGE) (is_composite_of n k) (and_right (nat_le 1 size) (nat_le size MAX_PAGE && is_composite_of n k) page_fit) in
    true_is _ parts

-- and a page of it has a group at least
size-positive : (m : Mapping) (kinds : List Kind) (sources : List CompositeSource) (size : ℕ) (after : Option Key) → T (kind_fits m true 0 kinds (kind.Composite sources size after)) → T (nat_le 1 size)
size-positive m kinds sources size after h =
    let n = length sources in
    let ended : Bool = nat_le size MAX_PAGE && option_map_or (is_composite_of n) after true in
    let paged : Bool = nat_le 1 size && ended in
    let sourced : Bool = list_all (source_fits m) sources && paged in
    let most = and_right (nat_le 1 n) (nat_le n MAX_SOURCES && sourced) h in
    let fit = and_right (nat_le n MAX_SOURCES) sourced most in
    and_left (nat_le 1 size) ended (and_right (list_all (source_fits m) sources) paged fit)

-- the last key of an answer's first node
pub last_key-at : (nodes : List NodeAnswer) (page : NodeAnswer) → slice_get nodes 0 ≡ Some page → last_key nodes ≡ option_map (λ b. (out-BucketAnswer b).key) (last_or None (out-NodeAnswer page).buckets)
last_key-at [] page e = absurd (none_some page e)
last_key-at (n ∷ ns) page e = ap (λ p. option_map (λ b. (out-BucketAnswer b).key) (last_or None (out-NodeAnswer p).buckets)) (some-same e)

last-mapped : {A B : Type 0} (f : A → B) (o : Option A) (xs : List A) → option_map f (last_or o xs) ≡ last_or (option_map f o) (map f xs)
last-mapped f o [] = refl
last-mapped f o (x ∷ xs) = last-mapped f (Some x) xs

map-same : (ks : List Key) → map (λ k. k) ks ≡ ks
map-same [] = refl
map-same (k ∷ ks) = ap (λ js. k ∷ js) (map-same ks)

-- The next page of a search whose first aggregation is a composite: its groups are those that the page left.
next-of : (m : Mapping) (request : Search) (shards : List (List PlacedRow)) (a : Agg) (size : ℕ) (l : Key) → request.aggs ≡ a ∷ [] → T (agg_fits m true 0 a) → page_size (kind_of a) ≡ Some size
    → last_or None (take size (keys_after shards request (kind_of a))) ≡ Some l → composite_groups shards (search_after request l) ≡ drop size (map (λ q. (q, true_count shards request ((0, q) ∷ []))) (keys_after shards request (kind_of a)))
unfolding computing
next-of m request shards (Agg' name (kind.Composite sources page after) n children) size l alone fit e last =
    let k = kind.Composite sources page after in
    let a = Agg' name k n children in
    let next = search_after request l in
    let every = matched_keys shards request k in
    let at : slice_get request.aggs 0 ≡ Some a = ap (λ aggs. slice_get aggs 0) alone in
    let at_next : slice_get next.aggs 0 ≡ Some (agg_after l a) = ap (λ aggs. slice_get (map (agg_after l) aggs) 0) alone in
    let sized : page ≡ size = some-same e in
    let same_count : (q : Key) → true_count shards next ((0, q) ∷ []) ≡ true_count shards request ((0, q) ∷ []) =
    (λ q i. sum_by (λ all. length ((rows-one_more all [] next.aggs (matched_roots all next.query) 0 q (agg_after l a) at_next
    ∙ sym (rows-one_more all [] request.aggs (matched_roots all request.query) 0 q a at)) i)) shards) in
    let composite = after-composite m (map (λ c. c.kind) (fold_aggs (made_at m) children)) sources page after (made-kind m [] k (fold_aggs (made_at m) children) true 0 fit) in
    let last_key : last_or None (take page (filter (beyond sources after) (sorted (composite_cmp sources) every))) ≡ Some l = ap (λ s. last_or None (take s (keys_after shards request k))) sized ∙ last in
    ap (λ o. option_map_or (λ b. map (λ q. (q, true_count shards next ((0, q) ∷ []))) (keys_after shards next (kind_of b))) o []) at_next
    ∙ (λ i. map (λ q. (q, same_count q i)) (filter (beyond sources (Some l)) (sorted (composite_cmp sources) every)))
    ∙ ap (map (λ q. (q, true_count shards request ((0, q) ∷ [])))) (keys-behind sources page after composite every l (are-every m 0 name children request shards sources page after (made-children m [] k (fold_aggs (made_at m) children) true 0 fit) key.Null) last_key)
    ∙ ap (λ s. map (λ q. (q, true_count shards request ((0, q) ∷ []))) (drop s (filter (beyond sources after) (sorted (composite_cmp sources) every)))) sized
    ∙ drop-mapped (λ q. (q, true_count shards request ((0, q) ∷ []))) size (filter (beyond sources after) (sorted (composite_cmp sources) every))
  where
    drop-mapped : {A B : Type 0} (f : A → B) (n : ℕ) (xs : List A) → map f (drop n xs) ≡ drop n (map f xs)
    drop-mapped f zero xs = refl
    drop-mapped f (suc n) [] = refl
    drop-mapped f (suc n) (x ∷ xs) = drop-mapped f n xs
next-of m request shards (Agg' name (kind.Terms field size shard_size min_doc_count order include exclude missing show_error) n children) s l alone fit e last = absurd (none_some s e)
next-of m request shards (Agg' name (kind.Histogram field interval offset min_doc_count extended hard keyed orders missing) n children) s l alone fit e last = absurd (none_some s e)
next-of m request shards (Agg' name (kind.DateHistogram field period zone min_doc_count extended hard keyed orders missing) n children) s l alone fit e last = absurd (none_some s e)
next-of m request shards (Agg' name (kind.Filters names filters other) n children) s l alone fit e last = absurd (none_some s e)
next-of m request shards (Agg' name (kind.Filter query) n children) s l alone fit e last = absurd (none_some s e)
next-of m request shards (Agg' name (kind.Missing field) n children) s l alone fit e last = absurd (none_some s e)
next-of m request shards (Agg' name kind.Global n children) s l alone fit e last = absurd (none_some s e)
next-of m request shards (Agg' name (kind.Nested context) n children) s l alone fit e last = absurd (none_some s e)
next-of m request shards (Agg' name (kind.ReverseNested context) n children) s l alone fit e last = absurd (none_some s e)
next-of m request shards (Agg' name (kind.Sum field missing) n children) s l alone fit e last = absurd (none_some s e)
next-of m request shards (Agg' name (kind.Min field missing) n children) s l alone fit e last = absurd (none_some s e)
next-of m request shards (Agg' name (kind.Max field missing) n children) s l alone fit e last = absurd (none_some s e)
next-of m request shards (Agg' name (kind.Avg field missing) n children) s l alone fit e last = absurd (none_some s e)
next-of m request shards (Agg' name (kind.ValueCount field missing) n children) s l alone fit e last = absurd (none_some s e)

pub next-groups : (m : Mapping) (request : Search) (shards : List (List PlacedRow)) (a : Agg) (size : ℕ) (l : Key) → T (search_fits m request) → request.aggs ≡ a ∷ [] → page_size (kind_of a) ≡ Some size
    → last_key (answer_of_shards request shards).nodes ≡ Some l → composite_groups shards (search_after request l) ≡ drop size (composite_groups shards request)
next-groups m request shards a size l fit alone e last =
    let at : slice_get request.aggs 0 ≡ Some a = ap (λ aggs. slice_get aggs 0) alone in
    let page = (finisher a).finish (whole_of_rows a (map (λ all. (all, matched_roots all request.query)) shards)) in
    let made = fit-at m true 0 request.aggs 0 a (and_right (query_fits m 0 request.query) (list_all (agg_fits m true 0) request.aggs) fit) at in
    let group_at : Key → Group = (λ q. (q, true_count shards request ((0, q) ∷ []))) in
    let key_in : Group → Key = (λ g. g.0) in
    let keys = keys_after shards request (kind_of a) in
    let first : map key_in (answered_groups page) ≡ take size keys =
    ap (map key_in) (first-of m request shards a size at made e) ∙ take-mapped key_in size (map group_at keys) ∙ ap (take size) (map-map key_in group_at keys ∙ map-same keys) in
    let last_is : last_or None (take size keys) ≡ Some l =
    ap (last_or None) (sym (sym (map-map key_in group_answer (out-NodeAnswer page).buckets) ∙ first))
    ∙ sym (last-mapped (λ b. (out-BucketAnswer b).key) None (out-NodeAnswer page).buckets)
    ∙ sym (last_key-at (answer_of_shards request shards).nodes page (answer-first request shards 0 a at)) ∙ last in
    next-of m request shards a size l alone made e last_is
    ∙ ap (λ o. drop size (option_map_or (λ a. map (λ q. (q, true_count shards request ((0, q) ∷ []))) (keys_after shards request (kind_of a))) o [])) (sym at)

-- the size of a page that is made for a mapping
size-of : (m : Mapping) (a : Agg) (size : ℕ) → T (agg_fits m true 0 a) → page_size (kind_of a) ≡ Some size → T (nat_le 1 size)
size-of m (Agg' name (kind.Composite sources page after) n children) size fit e =
    let k = kind.Composite sources page after in
    subst (λ s. T (nat_le 1 s)) (some-same e) (size-positive m (map (λ c. c.kind) (fold_aggs (made_at m) children)) sources page after (made-kind m [] k (fold_aggs (made_at m) children) true 0 fit))
size-of m (Agg' name (kind.Terms field size shard_size min_doc_count order include exclude missing show_error) n children) s fit e = absurd (none_some s e)
size-of m (Agg' name (kind.Histogram field interval offset min_doc_count extended hard keyed orders missing) n children) s fit e = absurd (none_some s e)
size-of m (Agg' name (kind.DateHistogram field period zone min_doc_count extended hard keyed orders missing) n children) s fit e = absurd (none_some s e)
size-of m (Agg' name (kind.Filters names filters other) n children) s fit e = absurd (none_some s e)
size-of m (Agg' name (kind.Filter query) n children) s fit e = absurd (none_some s e)
size-of m (Agg' name (kind.Missing field) n children) s fit e = absurd (none_some s e)
size-of m (Agg' name kind.Global n children) s fit e = absurd (none_some s e)
size-of m (Agg' name (kind.Nested context) n children) s fit e = absurd (none_some s e)
size-of m (Agg' name (kind.ReverseNested context) n children) s fit e = absurd (none_some s e)
size-of m (Agg' name (kind.Sum field missing) n children) s fit e = absurd (none_some s e)
size-of m (Agg' name (kind.Min field missing) n children) s fit e = absurd (none_some s e)
size-of m (Agg' name (kind.Max field missing) n children) s fit e = absurd (none_some s e)
size-of m (Agg' name (kind.Avg field missing) n children) s fit e = absurd (none_some s e)
size-of m (Agg' name (kind.ValueCount field missing) n children) s fit e = absurd (none_some s e)

pub positive-size : (m : Mapping) (request : Search) (a : Agg) (size : ℕ) → T (search_fits m request) → slice_get request.aggs 0 ≡ Some a → page_size (kind_of a) ≡ Some size → T (nat_le 1 size)
positive-size m request a size fit at e = size-of m a size (fit-at m true 0 request.aggs 0 a (and_right (query_fits m 0 request.query) (list_all (agg_fits m true 0) request.aggs) fit) at) e
