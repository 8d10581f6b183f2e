-- The buckets that an answer returns: each is that of its key in the whole or, where a gap was filled, one of no documents.
use Rattle.std.specs.Prelude.{◌≡◌, refl, ℕ, ◌==◌, ◌||◌, true, false, cond, if◌then◌else◌, T, List, [], ◌∷◌, map, take, find, Option, Some, None, unwrap_or, pos, ℤ}
use Rattle.std.specs.List.{AllByRecursion, list_any}
use Rattle.std.specs.Option.{option_map_or}
use Rattle.std.proofs.Common.{sym, ◌∙◌, ap, subst}
use Rattle.std.proofs.Math.Bool.{or-true}
use Rattle.agg_model.specs.declared.key.Key.{Key}
use Rattle.agg_model.specs.declared.partial.Bucket.{Bucket}
use Rattle.agg_model.specs.declared.partial.Metric.{Metric}
use Rattle.agg_model.specs.declared.answer.BucketAnswer.{BucketAnswer, out-BucketAnswer}
use Rattle.agg_model.specs.declared.answer.BucketAnswer.TheOpen.{NodeAnswer-F, BucketAnswer-F}
use Rattle.agg_model.specs.declared.answer.NodeAnswer.{NodeAnswer, out-NodeAnswer, out-roll-NodeAnswer}
use Rattle.agg_model.specs.declared.aggregation.Spacing.TheVariants.{Numbers, Dates}
use Rattle.agg_model.specs.declared.aggregation.Kind.{Kind}
use Rattle.agg_model.specs.declared.aggregation.Kind.TheVariants as kind
use Rattle.agg_evaluation.specs.KeyOrder.{key_eq, has_key}
use Rattle.agg_evaluation.specs.Orders.{bucket_cmp, bucket_count, bucket_key, composite_cmp}
use Rattle.agg_evaluation.specs.Whole.{Parts}
use Rattle.agg_evaluation.proofs.KeyLists.{key_eq-exact, key_eq-self}
use Rattle.list_laws.specs.Sorting.{sorted}
use Rattle.list_laws.proofs.Booleans.{holds}
use Rattle.list_laws.proofs.Each.{each-filter, each-map, each-mapped, each-sorted, each-take}
use Rattle.agg_spec.specs.CountErrors.{count_error, precision_of}
use Rattle.agg_spec.specs.Filling.{bucket_at, filled, frequent}
use Rattle.agg_spec.specs.Final.{Finisher, empty_bucket, finish_at, finish_bucket, finish_each, metric_answer}
use Rattle.count_laws.specs.Paths.{returns}
use Rattle.count_laws.proofs.Finished.{buckets-are, finished-is, finished-key}

pub each-step : {A : Type 0} (P Q : A → Type 0) → ((x : A) → P x → Q x) → (xs : List A) → AllByRecursion P xs → AllByRecursion Q xs
each-step P Q f [] h = tt
each-step P Q f (x ∷ xs) h = (f x h.0, each-step P Q f xs h.1)

pub each-both : {A : Type 0} (P Q R : A → Type 0) → ((x : A) → P x → Q x → R x) → (xs : List A) → AllByRecursion P xs → AllByRecursion Q xs → AllByRecursion R xs
each-both P Q R f [] h g = tt
each-both P Q R f (x ∷ xs) h g = (f x h.0 g.0, each-both P Q R f xs h.1 g.1)

-- each key of a list stands in it
pub each-there : (ks : List Key) → AllByRecursion (λ k. has_key k ks ≡ true) ks
each-there [] = tt
each-there (k ∷ ks) = (
  ap (λ b. b || has_key k ks) (key_eq-self k),
  each-step (λ j. has_key j ks ≡ true) (λ j. has_key j (k ∷ ks) ≡ true) (λ j e. ap (λ b. key_eq j k || b) e ∙ or-true (key_eq j k)) ks (each-there ks),
)

abbrev answered_key : BucketAnswer → Key
answered_key b = (out-BucketAnswer b).key

-- an answer returns a bucket of the key of each that it has
pub each-returned : (n : NodeAnswer) → AllByRecursion (λ b. returns (answered_key b) n ≡ true) (out-NodeAnswer n).buckets
each-returned n = within (out-NodeAnswer n).buckets
  where
    within : (bs : List BucketAnswer) → AllByRecursion (λ b. list_any (λ c. key_eq (answered_key b) (answered_key c)) bs ≡ true) bs
    within [] = tt
    within (b ∷ bs) = (
      ap (λ c. c || list_any (λ c. key_eq (answered_key b) (answered_key c)) bs) (key_eq-self (answered_key b)),
      each-step (λ a. list_any (λ c. key_eq (answered_key a) (answered_key c)) bs ≡ true) (λ a. list_any (λ c. key_eq (answered_key a) (answered_key c)) (b ∷ bs) ≡ true)
          (λ a e. ap (λ c. key_eq (answered_key a) (answered_key b) || c) e ∙ or-true (key_eq (answered_key a) (answered_key b))) bs (within bs),
    )

-- a metric has no buckets
pub metric-buckets : (name : List ℕ) (ms : List Metric) → (out-NodeAnswer (metric_answer name ms)).buckets ≡ []
metric-buckets name [] = buckets-are name []
metric-buckets name (m ∷ ms) = ap (λ (l : NodeAnswer-F BucketAnswer NodeAnswer). l.buckets) (out-roll-NodeAnswer (record { name = name; buckets = []; error = pos 0; other = 0; metric = m }))

pub returns-metric : (name : List ℕ) (q : Key) (ms : List Metric) → returns q (metric_answer name ms) ≡ false
returns-metric name q ms = ap (list_any (λ b. key_eq q (answered_key b))) (metric-buckets name ms)

module _ (fs : List Finisher) where
  module _ (bs : List Bucket) where
    -- the bucket that is returned under a key
    abbrev pub made : Key → Bucket
    made = bucket_at (empty_bucket fs) bs

    abbrev pub IsMade : Bucket → Type 0
    IsMade b = b ≡ made (bucket_key b)

    -- it has the key
    made-key : (q : Key) → bucket_key (made q) ≡ q
    made-key q = by bs
      where
        by : (cs : List Bucket) → bucket_key (bucket_at (empty_bucket fs) cs q) ≡ q
        by [] = refl
        by (c ∷ cs) =
            elim (key_eq q (bucket_key c)) as (λ t. key_eq q (bucket_key c) ≡ t → bucket_key (unwrap_or (cond t (Some c) (find (λ b. key_eq q (bucket_key b)) cs)) (empty_bucket fs q)) ≡ q) [
              | true ↦ λ e. sym (key_eq-exact q (bucket_key c) (holds _ e))
              | false ↦ λ e. by cs
            ] refl

    made-own : (q : Key) → IsMade (made q)
    made-own q = ap made (sym (made-key q))

module _ (name : List ℕ) (fs : List Finisher) where
  -- the buckets of an answer, each with its error, in the order of the answer
  pub record HasChosen (k : Kind) (p : Parts) : Type 0 where
    pub error : Bucket → Option ℤ
    pub chosen : List Bucket
    pub are : (out-NodeAnswer (finish_at name fs k p)).buckets ≡ map (λ b. finish_bucket fs (error b) b) chosen
    pub each : AllByRecursion (IsMade fs p.buckets) chosen

  module _ (p : Parts) (own : AllByRecursion (IsMade fs p.buckets) p.buckets) where
    all-chosen : (k : Kind) → (out-NodeAnswer (finish_at name fs k p)).buckets ≡ map (finish_bucket fs None) p.buckets → HasChosen k p
    all-chosen k are = record { error = λ b. None; chosen = p.buckets; are = are; each = own }

    none-chosen : (k : Kind) → (out-NodeAnswer (finish_at name fs k p)).buckets ≡ [] → HasChosen k p
    none-chosen k are = record { error = λ b. None; chosen = []; are = are; each = tt }

    abbrev frequent-each : (min_doc_count : ℕ) → AllByRecursion (IsMade fs p.buckets) (frequent min_doc_count p.buckets)
    frequent-each min_doc_count = each-filter (IsMade fs p.buckets) _ p.buckets own

    filled-each : (min_doc_count : ℕ) (ks : List Key) → AllByRecursion (IsMade fs p.buckets) (if min_doc_count == 0 then map (made fs p.buckets) ks else frequent min_doc_count p.buckets)
    filled-each min_doc_count ks =
        elim (min_doc_count == 0) as (λ c. AllByRecursion (IsMade fs p.buckets) (if c then map (made fs p.buckets) ks else frequent min_doc_count p.buckets)) [
          | true ↦ each-map (IsMade fs p.buckets) (made fs p.buckets) ks (made-own fs p.buckets)
          | false ↦ frequent-each min_doc_count
        ]

    pub has-chosen : (k : Kind) → HasChosen k p
    has-chosen (kind.Terms field size shard_size min_doc_count order include exclude missing show_error) = record {
      error = λ b. Some (count_error (precision_of order) p.error b.covered p.full);
      chosen = take size (sorted (bucket_cmp (map (λ c. c.kind) fs) order) (frequent min_doc_count p.buckets));
      are = ap (λ (l : NodeAnswer-F BucketAnswer NodeAnswer). l.buckets) (out-roll-NodeAnswer _);
      each = each-take (IsMade fs p.buckets) size _ (each-sorted (IsMade fs p.buckets) _ _ (frequent-each min_doc_count));
    }
    has-chosen (kind.Histogram field interval offset min_doc_count extended hard keyed order missing) = record {
      error = λ b. None;
      chosen = sorted (bucket_cmp (map (λ c. c.kind) fs) order) (filled (empty_bucket fs) (Numbers interval offset) min_doc_count extended hard p.buckets);
      are = buckets-are name _;
      each = each-sorted (IsMade fs p.buckets) _ _ (filled-each min_doc_count _);
    }
    has-chosen (kind.DateHistogram field period zone min_doc_count extended hard keyed order missing) = record {
      error = λ b. None;
      chosen = sorted (bucket_cmp (map (λ c. c.kind) fs) order) (filled (empty_bucket fs) (Dates period zone) min_doc_count extended hard p.buckets);
      are = buckets-are name _;
      each = each-sorted (IsMade fs p.buckets) _ _ (filled-each min_doc_count _);
    }
    has-chosen (kind.Composite sources size after) = record {
      error = λ b. None;
      chosen = take size (sorted (λ a b. composite_cmp sources (bucket_key a) (bucket_key b)) p.buckets);
      are = buckets-are name _;
      each = each-take (IsMade fs p.buckets) size _ (each-sorted (IsMade fs p.buckets) _ _ own);
    }
    has-chosen (kind.Filters names filters other) = all-chosen (kind.Filters names filters other) (buckets-are name _)
    has-chosen (kind.Filter query) = all-chosen (kind.Filter query) (buckets-are name _)
    has-chosen (kind.Missing field) = all-chosen (kind.Missing field) (buckets-are name _)
    has-chosen kind.Global = all-chosen kind.Global (buckets-are name _)
    has-chosen (kind.Nested inner) = all-chosen (kind.Nested inner) (buckets-are name _)
    has-chosen (kind.ReverseNested outer) = all-chosen (kind.ReverseNested outer) (buckets-are name _)
    has-chosen (kind.Sum field missing) = none-chosen (kind.Sum field missing) (metric-buckets name p.metrics)
    has-chosen (kind.Min field missing) = none-chosen (kind.Min field missing) (metric-buckets name p.metrics)
    has-chosen (kind.Max field missing) = none-chosen (kind.Max field missing) (metric-buckets name p.metrics)
    has-chosen (kind.Avg field missing) = none-chosen (kind.Avg field missing) (metric-buckets name p.metrics)
    has-chosen (kind.ValueCount field missing) = none-chosen (kind.ValueCount field missing) (metric-buckets name p.metrics)

    -- what stands below the bucket of a key among finished ones
    finished-below : (error : Bucket → Option ℤ) (q : Key) (bs : List Bucket) → AllByRecursion (IsMade fs p.buckets) bs → list_any (λ b. key_eq q (answered_key b)) (map (λ b. finish_bucket fs (error b) b) bs) ≡ true
        → option_map_or (λ b. (out-BucketAnswer b).children) (find (λ b. key_eq q (answered_key b)) (map (λ b. finish_bucket fs (error b) b) bs)) [] ≡ finish_each fs (made fs p.buckets q).children
    finished-below error q [] each e = absurd (subst T (sym e) tt)
    finished-below error q (b ∷ bs) each e =
        let first = finish_bucket fs (error b) b in
        let rest = map (λ b. finish_bucket fs (error b) b) bs in
        elim (key_eq q (answered_key first)) as (λ t. key_eq q (answered_key first) ≡ t → (t || list_any (λ b. key_eq q (answered_key b)) rest) ≡ true
        → option_map_or (λ b. (out-BucketAnswer b).children) (cond t (Some first) (find (λ b. key_eq q (answered_key b)) rest)) [] ≡ finish_each fs (made fs p.buckets q).children) [
          | true ↦ λ f g. finished-first error q b each.0 f
          | false ↦ λ f g. finished-below error q bs each.1 g
        ] refl e
      where
        finished-first : (error : Bucket → Option ℤ) (q : Key) (b : Bucket) → IsMade fs p.buckets b → key_eq q (answered_key (finish_bucket fs (error b) b)) ≡ true
            → (out-BucketAnswer (finish_bucket fs (error b) b)).children ≡ finish_each fs (made fs p.buckets q).children
        finished-first error q b own f =
            let same : q ≡ bucket_key b = key_eq-exact q (answered_key (finish_bucket fs (error b) b)) (holds _ f) ∙ finished-key fs (error b) b in
            ap (λ (l : BucketAnswer-F BucketAnswer NodeAnswer). l.children) (finished-is fs (error b) b) ∙ ap (λ c. finish_each fs c.children) (own ∙ ap (made fs p.buckets) (sym same))

    module _ (k : Kind) where
      -- what stands below the returned bucket of a key
      pub chosen-below : (q : Key) → returns q (finish_at name fs k p) ≡ true
          → option_map_or (λ b. (out-BucketAnswer b).children) (find (λ b. key_eq q (answered_key b)) (out-NodeAnswer (finish_at name fs k p)).buckets) [] ≡ finish_each fs (made fs p.buckets q).children
      chosen-below q there =
          let h = has-chosen k in
          ap (λ bs. option_map_or (λ b. (out-BucketAnswer b).children) (find (λ b. key_eq q (answered_key b)) bs) []) h.are
          ∙ finished-below h.error q h.chosen h.each (sym (ap (list_any (λ b. key_eq q (answered_key b))) h.are) ∙ there)

      -- the counts of the returned buckets
      pub chosen-counts : AllByRecursion (λ b. (out-BucketAnswer b).count ≡ bucket_count (made fs p.buckets (answered_key b))) (out-NodeAnswer (finish_at name fs k p)).buckets
      chosen-counts =
          let h = has-chosen k in
          subst (AllByRecursion (λ b. (out-BucketAnswer b).count ≡ bucket_count (made fs p.buckets (answered_key b)))) (sym h.are)
          (each-mapped (IsMade fs p.buckets) (λ b. (out-BucketAnswer b).count ≡ bucket_count (made fs p.buckets (answered_key b))) (λ b. finish_bucket fs (h.error b) b) (λ b own.
          ap (λ (l : BucketAnswer-F BucketAnswer NodeAnswer). l.count) (finished-is fs (h.error b) b)
          ∙ ap bucket_count own ∙ ap (λ key. bucket_count (made fs p.buckets key)) (sym (finished-key fs (h.error b) b))) h.chosen h.each)
