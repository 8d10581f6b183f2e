-- Of terms that are cut, only those that have enough rows are wanted.
use Rattle.std.specs.Prelude.{◌≡◌, refl, ℕ, suc, ◌≤◌, ◌<◌, ◌&&◌, ◌||◌, ◌==◌, ◌-◌, ◌++◌, Bool, true, false, not, cond, nat_le, List, [], ◌∷◌, map, filter, length, take, sum_by, None, unwrap_or, if◌then◌else◌}
use Rattle.std.specs.declared.cmp.Ordering.{Ordering}
use Rattle.std.specs.declared.cmp.Ordering.TheVariants.{Less, Equal, Greater}
use Rattle.std.specs.Cmp.{IsTotalOrder}
use Rattle.std.specs.List.{last_or, list_all}
use Rattle.std.specs.Ordering.{nat_cmp, is_eq, is_le, ordering_reverse, ordering_then}
use Rattle.std.proofs.Common.{sym, ◌∙◌, ap, subst, arith, inl, inr}
use Rattle.std.proofs.lemmas.Bool.{and_parts, and_from, or_parts}
use Rattle.std.proofs.lemmas.Bool.Decides.{nat_tests}
use Rattle.std.proofs.lemmas.List.{take-append-le}
use Rattle.list_laws.proofs.Lists.{filter-map, map-map, sum_by-map}
use Rattle.list_laws.proofs.StableSort.{length-sorted}
use Rattle.list_laws.proofs.Sums.{sum_by-filter, sum_by-sorted}
use Rattle.list_laws.specs.Sorting.{insert_sorted, sorted}
use Rattle.agg_model.specs.Options.{Options, options_of}
use Rattle.agg_model.specs.declared.aggregation.Agg.{Agg, out-Agg}
use Rattle.agg_model.specs.declared.aggregation.Kind.{Kind}
use Rattle.agg_model.specs.declared.aggregation.Order.{Order}
use Rattle.agg_model.specs.declared.aggregation.OrderBy.{OrderBy}
use Rattle.agg_model.specs.declared.aggregation.OrderBy.TheVariants as by
use Rattle.agg_model.specs.declared.key.Key.{Key}
use Rattle.agg_model.specs.declared.partial.Bucket.{Bucket}
use Rattle.agg_model.specs.declared.partial.Node.{Node}
use Rattle.agg_model.specs.declared.partial.Node.TheVariants.{Keyed}
use Rattle.agg_evaluation.specs.KeyOrder.{has_key, key_cmp, key_eq}
use Rattle.agg_evaluation.specs.Orders.{bucket_cmp, bucket_count, bucket_key, cmp_by}
use Rattle.agg_evaluation.specs.Profile.{Form, profile_of}
use Rattle.agg_evaluation.specs.Shard.{is_terms, sorted_by_key, with_covered}
use Rattle.agg_evaluation.proofs.Computing.{computing}
use Rattle.bucket_order.proofs.SameOrder.{list_all-sorted}
use Rattle.bucket_order.proofs.TotalLaws.{bucket_cmp_total}
use Rattle.bucket_order.specs.Kinds.{child_kinds}
use Rattle.shard_columns.specs.Columns.{Columns}
use Rattle.terms_agg.specs.Trim.{trimmed_by, trimmed_some}
use Rattle.growing_tree.specs.CodedBuckets.{coded_bucket}
use Rattle.growing_tree.specs.Finished.{finished_bucket}
use Rattle.growing_tree.specs.Frequent.{AreFrequent, IsChosen, Suffices, frequent, has_rows, is_by_count, is_count}
use Rattle.growing_tree.specs.Grouped.{AreApart}
use Rattle.growing_tree.specs.declared.chosen.Chosen.{Chosen}
use Rattle.growing_tree.specs.declared.coded.Coded.{Coded}
use Rattle.growing_tree.specs.declared.ready.Ready.{Ready}
use Rattle.growing_tree.proofs.Reordered.{apart-sorted, sorted-any, sorted-before}

-- items that pass a test and stand before all others
module _ {A : Type 0} (cmp : A → A → Ordering) (total : IsTotalOrder cmp) (p : A → Bool) (less : (x y : A) → p x ≡ true → p y ≡ false → cmp x y ≡ Less) where
  insert-front : (x : A) (hs ls : List A) → p x ≡ true → list_all (λ y. not (p y)) ls ≡ true → insert_sorted cmp x (hs ++ ls) ≡ insert_sorted cmp x hs ++ ls
  insert-front x [] [] is rest = refl
  insert-front x [] (l ∷ ls) is rest = ap (λ b. cond b (x ∷ l ∷ ls) (l ∷ insert_sorted cmp x ls)) (ap is_le (less x l is (not-true (p l) (and_parts _ _ rest).0)))
    where
      not-true : (b : Bool) → not b ≡ true → b ≡ false
      not-true true e = absurd (cc e)
      not-true false e = refl
  insert-front x (h ∷ hs) ls is rest =
      elim (is_le (cmp x h)) as (λ b. cond b (x ∷ h ∷ (hs ++ ls)) (h ∷ insert_sorted cmp x (hs ++ ls)) ≡ cond b (x ∷ h ∷ hs) (h ∷ insert_sorted cmp x hs) ++ ls) [
        | true ↦ refl
        | false ↦ ap (λ zs. h ∷ zs) (insert-front x hs ls is rest)
      ]

  insert-back : (x : A) (hs ls : List A) → p x ≡ false → list_all p hs ≡ true → insert_sorted cmp x (hs ++ ls) ≡ hs ++ insert_sorted cmp x ls
  insert-back x [] ls is all = refl
  insert-back x (h ∷ hs) ls is all =
      let parts = and_parts (p h) (list_all p hs) all in
      ap (λ b. cond b (x ∷ h ∷ (hs ++ ls)) (h ∷ insert_sorted cmp x (hs ++ ls))) (ap is_le (total.antisymm x h ∙ ap ordering_reverse (less h x parts.0 is)))
      ∙ ap (λ zs. h ∷ zs) (insert-back x hs ls is parts.1)

  all-pass : (q : A → Bool) (xs : List A) → list_all q (filter q xs) ≡ true
  all-pass q [] = refl
  all-pass q (x ∷ xs) = pick (q x) refl (all-pass q xs)
    where
      pick : (b : Bool) → q x ≡ b → list_all q (filter q xs) ≡ true → list_all q (cond b (x ∷ filter q xs) (filter q xs)) ≡ true
      pick true e rest = and_from _ _ e rest
      pick false e rest = rest

  sorted-parts : (xs : List A) → sorted cmp xs ≡ sorted cmp (filter p xs) ++ sorted cmp (filter (λ x. not (p x)) xs)
  sorted-parts [] = refl
  sorted-parts (x ∷ xs) = pick (p x) refl (sorted-parts xs)
    where
      hs : List A
      hs = filter p xs

      ls : List A
      ls = filter (λ x. not (p x)) xs

      pick : (b : Bool) → p x ≡ b → sorted cmp xs ≡ sorted cmp hs ++ sorted cmp ls → insert_sorted cmp x (sorted cmp xs) ≡ sorted cmp (cond b (x ∷ hs) hs) ++ sorted cmp (cond (not b) (x ∷ ls) ls)
      pick true e rest = ap (insert_sorted cmp x) rest ∙ insert-front x (sorted cmp hs) (sorted cmp ls) e (list_all-sorted (λ y. not (p y)) cmp ls (all-pass (λ y. not (p y)) xs))
      pick false e rest = ap (insert_sorted cmp x) rest ∙ insert-back x (sorted cmp hs) (sorted cmp ls) e (list_all-sorted p cmp hs (all-pass p xs))

  -- the first of them, where enough pass
  pub first-pass : (n : ℕ) (xs : List A) → n ≤ length (filter p xs) → take n (sorted cmp (filter p xs)) ≡ take n (sorted cmp xs)
  first-pass n xs enough =
      sym (ap (take n) (sorted-parts xs) ∙ take-append-le n (sorted cmp (filter p xs)) (sorted cmp (filter (λ x. not (p x)) xs)) (omega (arith, enough, length-sorted cmp (filter p xs))))

-- a bucket with more rows comes first
more-first : (d : Bool) (b : OrderBy) (kinds : List Kind) (x y : Bucket) → (d && is_count b) ≡ true → bucket_count y < bucket_count x → cmp_by kinds d b x y ≡ Less
more-first true by.Count kinds x y e more = ap ordering_reverse (greater (bucket_count x) (bucket_count y) more)
  where
    greater : (m n : ℕ) → n < m → nat_cmp m n ≡ Greater
    greater m n more = grind (arith, nat_tests)
more-first true by.Key kinds x y e more = absurd (cc e)
more-first true (by.Child i) kinds x y e more = absurd (cc e)
more-first false b kinds x y e more = absurd (cc e)

frequent-first : (kinds : List Kind) (orders : List Order) (least : ℕ) → is_by_count orders ≡ true → (x y : Bucket) → has_rows least x ≡ true → has_rows least y ≡ false → bucket_cmp kinds orders x y ≡ Less
frequent-first kinds [] least first x y has lacks = absurd (cc first)
frequent-first kinds (o ∷ os) least first x y has lacks =
    ap (λ c. ordering_then c (bucket_cmp kinds os x y)) (more-first o.descending o.by kinds x y first (apart least (bucket_count x) (bucket_count y) has lacks))
  where
    apart : (l m n : ℕ) → nat_le l m ≡ true → nat_le l n ≡ false → n < m
    apart l m n has lacks = grind (arith, nat_tests)

then-differs : (o rest : Ordering) → is_eq rest ≡ false → is_eq (ordering_then o rest) ≡ false
then-differs Less rest e = refl
then-differs Equal rest e = e
then-differs Greater rest e = refl

-- buckets of different keys do not compare alike
differs : (kinds : List Kind) (orders : List Order) (x y : Bucket) → key_eq (bucket_key x) (bucket_key y) ≡ false → is_eq (bucket_cmp kinds orders x y) ≡ false
differs kinds [] x y e = e
differs kinds (o ∷ os) x y e = then-differs (cmp_by kinds o.descending o.by x y) (bucket_cmp kinds os x y) (differs kinds os x y e)

map-itself : (bs : List Bucket) → map (λ b. b) bs ≡ bs
map-itself [] = refl
map-itself (b ∷ bs) = ap (λ cs. b ∷ cs) (map-itself bs)

-- an order by key before another is no matter
by-key-before : (kinds : List Kind) (orders : List Order) (bs : List Bucket) → AreApart (map bucket_key bs) → sorted (bucket_cmp kinds orders) (sorted_by_key bs) ≡ sorted (bucket_cmp kinds orders) bs
by-key-before kinds orders bs apart =
    ap (sorted (bucket_cmp kinds orders)) (sym (map-itself (sorted_by_key bs)))
    ∙ sorted-any (λ b. b) (λ a b. key_cmp (bucket_key a) (bucket_key b)) (bucket_cmp kinds orders) (bucket_cmp_total kinds orders) (differs kinds orders) bs (subst (λ cs. AreApart (map bucket_key cs)) (sym (map-itself bs)) apart)
    ∙ ap (sorted (bucket_cmp kinds orders)) (map-itself bs)

-- keys that are apart are so after some items are left out
module _ {A : Type 0} (f : A → Bucket) (q : A → Bool) where
  absent-filter : (k : Key) (xs : List A) → has_key k (map bucket_key (map f xs)) ≡ false → has_key k (map bucket_key (map f (filter q xs))) ≡ false
  absent-filter k [] e = refl
  absent-filter k (x ∷ xs) e = let parts = or_parts (key_eq k (bucket_key (f x))) (has_key k (map bucket_key (map f xs))) e in pick (q x) parts.0 (absent-filter k xs parts.1)
    where
      pick : (b : Bool) → key_eq k (bucket_key (f x)) ≡ false → has_key k (map bucket_key (map f (filter q xs))) ≡ false → has_key k (map bucket_key (map f (cond b (x ∷ filter q xs) (filter q xs)))) ≡ false
      pick true other rest = λ i. other i || rest i
      pick false other rest = rest

  apart-filter : (xs : List A) → AreApart (map bucket_key (map f xs)) → AreApart (map bucket_key (map f (filter q xs)))
  apart-filter [] apart = tt
  apart-filter (x ∷ xs) apart = pick (q x) (absent-filter (bucket_key (f x)) xs apart.0) (apart-filter xs apart.1)
    where
      pick : (b : Bool) → has_key (bucket_key (f x)) (map bucket_key (map f (filter q xs))) ≡ false → AreApart (map bucket_key (map f (filter q xs))) → AreApart (map bucket_key (map f (cond b (x ∷ filter q xs) (filter q xs))))
      pick true other rest = (other, rest)
      pick false other rest = rest

-- what is kept of terms, as a node
abbrev kept_node : ℕ → ℕ → List Bucket → Node
kept_node shard_size total kept =
    let is_full = length kept == shard_size in
    let error = if is_full then unwrap_or (last_or None (map bucket_count kept)) 0 else 0 in
    Keyed (sorted_by_key (map (with_covered error) kept)) error (if is_full then 1 else 0) (total - sum_by bucket_count kept)

module _ (shard : Columns) (a : Agg) (r : Ready) where
  abbrev finish : Bucket → Bucket
  finish = finished_bucket shard a r

  abbrev made : Coded → Bucket
  made c = finish (coded_bucket c)

  abbrev keys_of : List Bucket → List Key
  keys_of bs = map bucket_key (map finish bs)

  -- a bucket keeps its rows
  filter-finished : (least : ℕ) (all : List Bucket) → filter (has_rows least) (map finish all) ≡ map finish (frequent least all)
  unfolding computing
  filter-finished least all = filter-map (has_rows least) finish all

  -- the frequent ones are cut as all of them are
  frequent-cut : (total : ℕ) (all kept : List Bucket) → AreApart (keys_of all) → AreFrequent (out-Agg a).kind all kept → trimmed_some a total (sorted_by_key (map finish kept)) ≡ trimmed_some a total (sorted_by_key (map finish all))
  frequent-cut total all kept apart are =
      let kinds = child_kinds (out-Agg a).children in
      let t = are.cuts.terms in
      let cmp = bucket_cmp kinds t.order in
      let kept_is : map finish kept ≡ filter (has_rows are.least) (map finish all) = ap (map finish) are.kept_are ∙ sym (filter-finished are.least all) in
      let kept_apart : AreApart (map bucket_key (filter (has_rows are.least) (map finish all))) =
      subst (λ bs. AreApart (map bucket_key bs)) (sym (filter-finished are.least all)) (apart-filter finish (has_rows are.least) all apart) in
      let many : length (filter (has_rows are.least) (map finish all)) ≡ length kept = sym (ap length kept_is) ∙ length-finished kept in
      let first : take t.shard_size (sorted cmp (sorted_by_key (map finish kept))) ≡ take t.shard_size (sorted cmp (sorted_by_key (map finish all))) =
      ap (λ bs. take t.shard_size (sorted cmp (sorted_by_key bs))) kept_is ∙ ap (take t.shard_size) (by-key-before kinds t.order (filter (has_rows are.least) (map finish all)) kept_apart)
      ∙ first-pass cmp (bucket_cmp_total kinds t.order) (has_rows are.least) (frequent-first kinds t.order are.least are.cuts.by_count) t.shard_size (map finish all) (let enough = are.cuts.enough in omega (arith, enough, many))
      ∙ ap (take t.shard_size) (sym (by-key-before kinds t.order (map finish all) apart)) in
      ap (λ o. trimmed_by kinds o total (sorted_by_key (map finish kept))) are.cuts.is ∙ ap (kept_node t.shard_size total) first ∙ sym (ap (λ o. trimmed_by kinds o total (sorted_by_key (map finish all))) are.cuts.is)
    where
      length-finished : (bs : List Bucket) → length (map finish bs) ≡ length bs
      length-finished [] = refl
      length-finished (b ∷ bs) = ap suc (length-finished bs)

  suffices-apart : (all kept : List Bucket) → AreApart (keys_of all) → Suffices (out-Agg a).kind all kept → AreApart (keys_of kept)
  suffices-apart all kept apart (inl same) = subst (λ bs. AreApart (keys_of bs)) (sym same) apart
  suffices-apart all kept apart (inr are) = subst (λ bs. AreApart (keys_of bs)) (sym are.kept_are) (apart-filter finish (has_rows are.least) all apart)

  module _ (all : List Bucket) (kept : List Coded) (apart : AreApart (keys_of all)) (are : Suffices (out-Agg a).kind all (map coded_bucket kept)) where
    made-apart : AreApart (map bucket_key (map made kept))
    made-apart = subst (λ bs. AreApart (map bucket_key bs)) (map-map finish coded_bucket kept) (suffices-apart all (map coded_bucket kept) apart are)

    -- what suffices, in some order of its own first, is cut as all of them are
    pub suffices-cut : (by : Coded → Coded → Ordering) (total : ℕ)
        → trimmed_some a total (sorted_by_key (map finish (map coded_bucket (sorted by kept)))) ≡ trimmed_some a total (sorted_by_key (map finish all))
    suffices-cut by total =
        ap (λ bs. trimmed_some a total (sorted_by_key bs)) (map-map finish coded_bucket (sorted by kept))
        ∙ ap (trimmed_some a total) (sorted-before made by kept made-apart)
        ∙ ap (λ bs. trimmed_some a total (sorted_by_key bs)) (sym (map-map finish coded_bucket kept))
        ∙ elim are [
          | inl same ↦ ap (λ bs. trimmed_some a total (sorted_by_key (map finish bs))) same
          | inr frequent ↦ frequent-cut total all (map coded_bucket kept) apart frequent
        ]

    -- terms need no order by key before they are cut
    pub terms-cut : (by : Coded → Coded → Ordering) (total : ℕ) → is_terms (out-Agg a).kind ≡ true
        → trimmed_some a total (map finish (map coded_bucket (sorted by kept))) ≡ trimmed_some a total (sorted_by_key (map finish (map coded_bucket (sorted by kept))))
    terms-cut by total terms =
        any-order (options_of (out-Agg a).kind) terms
      where
        bs : List Bucket
        bs = map finish (map coded_bucket (sorted by kept))

        kinds : List Kind
        kinds = child_kinds (out-Agg a).children

        own : AreApart (map bucket_key bs)
        own = subst (λ cs. AreApart (map bucket_key cs)) (sym (map-map finish coded_bucket (sorted by kept))) (apart-sorted made by kept made-apart)

        any-order : (o : Options) → (elim (profile_of o).form [ Form.terms t ↦ true | Form.histogram h ↦ false | Form.pages sources size after ↦ false | Form.fixed ks ↦ false | Form.number m ↦ false ]) ≡ true → trimmed_by kinds o total bs ≡ trimmed_by kinds o total (sorted_by_key bs)
        any-order (Options.Terms t) e = sym (ap (λ cs. kept_node t.shard_size total (take t.shard_size cs)) (by-key-before kinds t.order bs own))
        any-order (Options.Histogram h) e = absurd (cc e)
        any-order (Options.Filters names filters other) e = absurd (cc e)
        any-order (Options.Filter query) e = absurd (cc e)
        any-order (Options.Missing field) e = absurd (cc e)
        any-order Options.Global e = absurd (cc e)
        any-order (Options.Nested context) e = absurd (cc e)
        any-order (Options.ReverseNested context) e = absurd (cc e)
        any-order (Options.Composite sources size after) e = absurd (cc e)
        any-order (Options.Metric m) e = absurd (cc e)

  -- finished buckets have the rows of those that they are made of, in any order
  pub finished-rows : (by : Coded → Coded → Ordering) (cs : List Coded) → sum_by bucket_count (map finish (map coded_bucket (sorted by cs))) ≡ sum_by (λ c. c.bucket.count) cs
  unfolding computing
  finished-rows by cs =
      ap (sum_by bucket_count) (map-map finish coded_bucket (sorted by cs)) ∙ sum_by-map bucket_count made (sorted by cs) ∙ sum_by-sorted (λ (c : Coded). c.bucket.count) by cs

few : (k : Kind) (all kept : List Bucket) → Suffices k all kept → sum_by bucket_count kept ≤ sum_by bucket_count all
few k all kept (inl same) = omega (arith, ap (sum_by bucket_count) same)
few k all kept (inr are) = omega (arith, ap (sum_by bucket_count) are.kept_are, sum_by-filter bucket_count (has_rows are.least) all)

-- chosen buckets have no more rows than all of which they are chosen
pub chosen-within : (k : Kind) (all : List Bucket) (c : Chosen) → IsChosen k all c → sum_by (λ g. g.bucket.count) c.coded.items ≤ c.total
chosen-within k all c chosen =
    let rows : sum_by bucket_count (map coded_bucket c.coded.items) ≡ sum_by (λ (g : Coded). g.bucket.count) c.coded.items = sum_by-map bucket_count coded_bucket c.coded.items in
    let total = chosen.total_is in
    omega (arith, rows, few k all (map coded_bucket c.coded.items) chosen.suffices, total)
