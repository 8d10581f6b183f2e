-- The number of buckets of the answer that is made of what stands, one level at a time.
use Rattle.std.specs.Prelude.{◌≡◌, refl, ℕ, suc, ◌+◌, ◌-◌, ◌*◌, ◌==◌, Bool, true, false, cond, List, [], ◌∷◌, map, length, sum, sum_by, ℤ, pos, Option, Some, None}
use Rattle.std.specs.List.{list_all, enumerate_from, range_with_len}
use Rattle.std.specs.Option.{option_map_or}
use Rattle.std.proofs.Common.{sym, ◌∙◌, ap, arith, ⊎_elim}
use Rattle.std.proofs.lemmas.Bool.{and_parts, eqb-true}
use Rattle.std.proofs.Math.Nat.{add-mul}
use Rattle.std.proofs.lemmas.List.{length-map}
use Rattle.std.proofs.lemmas.List.FromFn.{length-range_with_len}
use Rattle.std.proofs.lemmas.List.Sums.{sum_by-cons}
use Rattle.agg_model.specs.declared.key.Key.{Key}
use Rattle.agg_model.specs.declared.key.Key.TheVariants as key
use Rattle.agg_model.specs.declared.partial.Bucket.{Bucket}
use Rattle.agg_model.specs.declared.partial.Metric.{Metric}
use Rattle.agg_model.specs.declared.partial.Node.{Node}
use Rattle.agg_model.specs.declared.partial.Node.TheVariants.{Keyed, Fixed, Number}
use Rattle.agg_model.specs.declared.answer.BucketAnswer.{BucketAnswer, out-BucketAnswer, out-roll-BucketAnswer}
use Rattle.agg_model.specs.declared.answer.BucketAnswer.TheOpen.{NodeAnswer-F, BucketAnswer-F}
use Rattle.agg_model.specs.declared.answer.NodeAnswer.{NodeAnswer, roll-NodeAnswer, out-NodeAnswer, out-roll-NodeAnswer}
use Rattle.agg_model.specs.declared.aggregation.Agg.{Agg, out-Agg}
use Rattle.agg_model.specs.declared.aggregation.Agg.TheOpen.{Agg-F}
use Rattle.agg_model.specs.declared.aggregation.Bounds.{Bounds}
use Rattle.agg_model.specs.declared.aggregation.Spacing.{Spacing}
use Rattle.agg_model.specs.declared.aggregation.Spacing.TheVariants.{Numbers, Dates}
use Rattle.agg_model.specs.Options.{HistogramOptions}
use Rattle.agg_model.specs.declared.aggregation.Kind.{Kind}
use Rattle.agg_model.specs.declared.aggregation.Kind.TheVariants as kind
use Rattle.list_laws.specs.Sorting.{sorted}
use Rattle.list_laws.proofs.Lists.{sum_by-map}
use Rattle.list_laws.proofs.Each.{sum_by-sorted}
use Rattle.agg_evaluation.specs.Orders.{bucket_cmp, bucket_key}
use Rattle.agg_evaluation.specs.Shard.{fixed_keys}
use Rattle.agg_evaluation.specs.Trees.{is_ascending}
use Rattle.agg_evaluation.specs.Whole.{Parts, children_at, metric_sum, parts, parts_at, shape_of, whole_bucket, whole_by}
use Rattle.agg_evaluation.specs.Finishable.{is_histogram_key}
use Rattle.agg_evaluation.specs.Conditions.{has_interval, has_intervals, is_spaced}
use Rattle.agg_evaluation.proofs.NodeForms.{out-Keyed, out-Fixed, out-Number}
use Rattle.agg_evaluation.proofs.AggFolds.{fold_agg-level}
use Rattle.agg_spec.specs.BucketCount.{Counter, counter, count_each, member_count}
use Rattle.agg_spec.specs.CountErrors.{precision_of, count_error}
use Rattle.agg_spec.specs.Filling.{bucket_at, filled_keys}
use Rattle.agg_spec.specs.Final.{Finisher, finish_bucket, finish_each, empty_bucket, metric_answer, no_metric}
use Rattle.agg_spec.specs.GapCount.{Plan, plan_each, below_empty, filled_count}
use Rattle.final_reduce.specs.Counts.{fixed_count, gap_count, gaps_of, member_number, tally, tally_below, tally_of_nothing}
use Rattle.final_reduce.specs.Standing.{spaced, builder, builder_of, built_at, form_of, is_standing, plain_answer, stands_at, with_gaps}
use Rattle.final_reduce.specs.Steps.{key_numbers}
use Rattle.final_reduce.proofs.Filled.{adds_up}
use Rattle.final_reduce.proofs.SpanLaws.{spans, span-count, span-keys, span-numbered, span-holds}
use Rattle.final_reduce.proofs.Grids.{spacing-is}
use Rattle.final_reduce.proofs.FinishableLaws.{intervals-at, standing-opened}

abbrev nil : (A : Type 0) → List A
nil A = []

pub member_count-is : {A : Type 0} (k : Kind) (xs : List A) → member_count k xs ≡ member_number k (length xs)
member_count-is (kind.Filter query) xs = refl
member_count-is (kind.Missing field) xs = refl
member_count-is kind.Global xs = refl
member_count-is (kind.Nested context) xs = refl
member_count-is (kind.ReverseNested context) xs = refl
member_count-is _ xs = refl

-- what is counted of nodes side by side
pub tally-each : (aggs : List Agg) (ns : List Node) → plan_each (map tally aggs) ns ≡ count_each (map counter aggs) (finish_each (map builder aggs) ns)
tally-each [] ns = refl
tally-each (a ∷ rest) [] = refl
tally-each (a ∷ rest) (n ∷ ns) = ap (λ m. counter a ((builder a).finish n) + m) (tally-each rest ns)

pub same-nothing : (aggs : List Agg) → map (λ (f : Finisher). f.whole []) (map builder aggs) ≡ map (λ (p : Plan). p.whole []) (map tally aggs)
same-nothing [] = refl
same-nothing (a ∷ rest) = ap (λ ns. (builder a).whole [] ∷ ns) (same-nothing rest)

-- a finished bucket, and a finished node, as records
abbrev bucket_level : List Finisher → Option ℤ → Bucket → BucketAnswer-F BucketAnswer NodeAnswer
bucket_level children error b = record { key = b.key; count = b.count; error = error; children = finish_each children b.children }

children_of : (fs : List Finisher) (error : Option ℤ) (b : Bucket) → (out-BucketAnswer (finish_bucket fs error b)).children ≡ finish_each fs b.children
children_of fs error b = ap (λ (l : BucketAnswer-F BucketAnswer NodeAnswer). l.children) (out-roll-BucketAnswer (bucket_level fs error b))

abbrev node_level : List ℕ → List BucketAnswer → ℤ → ℕ → Metric → NodeAnswer-F BucketAnswer NodeAnswer
node_level name buckets error other metric = record { name = name; buckets = buckets; error = error; other = other; metric = metric }

buckets_of : (name : List ℕ) (buckets : List BucketAnswer) (error : ℤ) (other : ℕ) (metric : Metric) → (out-NodeAnswer (roll-NodeAnswer (node_level name buckets error other metric))).buckets ≡ buckets
buckets_of name buckets error other metric = ap (λ (l : NodeAnswer-F BucketAnswer NodeAnswer). l.buckets) (out-roll-NodeAnswer (node_level name buckets error other metric))

-- no gaps
no_gaps : (m below : ℕ) → m + 0 * (1 + below) ≡ m
no_gaps m below = omega arith

module _ (name : List ℕ) (aggs : List Agg) where
  abbrev fs : List Finisher
  fs = map builder aggs

  abbrev ps : List Plan
  ps = map tally aggs

  abbrev cs : List Counter
  cs = map counter aggs

  abbrev below : BucketAnswer → ℕ
  below b = count_each cs (out-BucketAnswer b).children

  -- the count of an answer's buckets
  abbrev counted : Kind → List BucketAnswer → ℕ
  counted k bs = member_count k bs + sum (map below bs)

  -- that of buckets as they stand
  abbrev standing : Kind → List Bucket → ℕ
  standing k bs = member_number k (length bs) + tally_below ps bs

  below-built : (error : ℕ → Option ℤ) (bs : List Bucket) → sum_by below (map (λ b. finish_bucket fs (error b.covered) b) bs) ≡ tally_below ps bs
  below-built error [] = refl
  below-built error (b ∷ bs) =
      let here : below (finish_bucket fs (error b.covered) b) ≡ plan_each ps b.children = ap (count_each cs) (children_of fs (error b.covered) b) ∙ sym (tally-each aggs b.children) in
      omega (
        arith,
        here,
        below-built error bs,
        sum_by-cons below (finish_bucket fs (error b.covered) b) (map (λ b. finish_bucket fs (error b.covered) b) bs),
        sum_by-cons (λ (b : Bucket). plan_each ps b.children) b bs,
      )

  counted-built : (k : Kind) (error : ℕ → Option ℤ) (bs : List Bucket) → counted k (map (λ b. finish_bucket fs (error b.covered) b) bs) ≡ standing k bs
  counted-built k error bs =
      let answers = map (λ b. finish_bucket fs (error b.covered) b) bs in
      let members : member_count k answers ≡ member_number k (length bs) = member_count-is k answers ∙ ap (member_number k) (length-map bs (λ b. finish_bucket fs (error b.covered) b)) in
      let sums : sum (map below answers) ≡ tally_below ps bs = sum_by-map (λ (n : ℕ). n) below answers ∙ below-built error bs in
      λ i. members i + sums i

  -- a bucket with those below it
  abbrev weight : Bucket → ℕ
  weight b = 1 + plan_each ps b.children

  weighed : (bs : List Bucket) → length bs + tally_below ps bs ≡ sum_by weight bs
  weighed [] = refl
  weighed (b ∷ bs) = omega (arith, weighed bs, sum_by-cons (λ (b : Bucket). plan_each ps b.children) b bs, sum_by-cons weight b bs)

  module _ (s : Spacing) (m : ℕ) (extended hard : Bounds) (has : is_spaced s extended hard ≡ true) where
    empty-weight : (key : Key) → weight (empty_bucket fs key) ≡ 1 + below_empty ps
    empty-weight key = ap (λ ns. 1 + plan_each ps ns) (same-nothing aggs)

    -- the buckets of a histogram with its gaps filled weigh what those that are there weigh, and each gap
    gaps-weigh : (bs : List Bucket) → list_all (λ b. is_histogram_key s hard (bucket_key b)) bs ≡ true → is_ascending (map bucket_key bs) ≡ true
        → sum_by weight (map (bucket_at (empty_bucket fs) bs) (filled_keys s extended hard (key_numbers bs)))
        ≡ sum_by weight bs + (filled_count s extended hard (key_numbers bs) - length bs) * (1 + below_empty ps)
    gaps-weigh bs made up =
        let count = filled_count s extended hard (key_numbers bs) in
        ⊎_elim
        (λ none.
        let nothing : sum_by weight (map (bucket_at (empty_bucket fs) bs) []) ≡ 0 = refl in
        let no : (count - length bs) * (1 + below_empty ps) ≡ 0 * (1 + below_empty ps) = ap (λ n. (n - length bs) * (1 + below_empty ps)) none.1.0 ∙ (let e : (0 - length bs) * (1 + below_empty ps) ≡ 0 * (1 + below_empty ps) = ap (λ n. n * (1 + below_empty ps)) (omega arith) in e) in
        let zero_is : 0 * (1 + below_empty ps) ≡ 0 = omega arith in
        ap (λ ks. sum_by weight (map (bucket_at (empty_bucket fs) bs) ks)) none.0 ∙ omega (arith, ap (sum_by weight) none.1.1, no, zero_is))
        (λ some.
        let first = some.0 in
        let last = some.1 in
        let span = some.2 in
        let counts = span-count s extended hard has bs made first last span in
        let sums = adds_up s (spacing-is s extended hard has) (empty_bucket fs) weight (1 + below_empty ps) empty-weight last count first (span-numbered s extended hard has bs made first last span) (sym counts) bs up (span-holds s extended hard has bs made first last span) in
        let apart : count ≡ (count - length bs) + length bs = let few = sums.1 in omega (arith, few) in
        let product : count * (1 + below_empty ps) ≡ (count - length bs) * (1 + below_empty ps) + length bs * (1 + below_empty ps) = ap (λ n. n * (1 + below_empty ps)) apart ∙ add-mul (count - length bs) (length bs) (1 + below_empty ps) in
        let all = sums.0 in
        ap (λ ks. sum_by weight (map (bucket_at (empty_bucket fs) bs) ks)) (span-keys s extended hard has bs made first last span) ∙ omega (arith, all, product))
        (spans s extended hard has bs made)

    filled-weigh : (bs : List Bucket) → list_all (λ b. is_histogram_key s hard (bucket_key b)) bs ≡ true → is_ascending (map bucket_key bs) ≡ true
        → (length bs + tally_below ps bs) + gaps_of s m extended hard bs * (1 + below_empty ps) ≡ sum_by weight (with_gaps (empty_bucket fs) s m extended hard bs)
    filled-weigh bs made up = by_minimum (m == 0)
      where
        by_minimum : (t : Bool) → (length bs + tally_below ps bs) + cond t (filled_count s extended hard (key_numbers bs) - length bs) 0 * (1 + below_empty ps)
            ≡ sum_by weight (cond t (map (bucket_at (empty_bucket fs) bs) (filled_keys s extended hard (key_numbers bs))) bs)
        by_minimum true =
            let gaps = filled_count s extended hard (key_numbers bs) - length bs in
            ap (λ n. n + gaps * (1 + below_empty ps)) (weighed bs) ∙ sym (gaps-weigh bs made up)
        by_minimum false = no_gaps _ (below_empty ps) ∙ weighed bs

  -- the count of the answer, and that of what stands
  abbrev Counts : Kind → Parts → Type 0
  Counts k p = counted k (out-NodeAnswer (built_at name fs (form_of k) p)).buckets ≡ standing k p.buckets + gap_count (form_of k) p.buckets * (1 + below_empty ps)

  -- where the answer has the buckets as they stand
  plain-counted : (k : Kind) (error : ℕ → Option ℤ) (bs : List Bucket) (answer : NodeAnswer) → (out-NodeAnswer answer).buckets ≡ map (λ b. finish_bucket fs (error b.covered) b) bs
      → counted k (out-NodeAnswer answer).buckets ≡ standing k bs + 0 * (1 + below_empty ps)
  plain-counted k error bs answer is = ap (counted k) is ∙ counted-built k error bs ∙ sym (no_gaps (standing k bs) (below_empty ps))

  abbrev built_plain : Parts → NodeAnswer
  built_plain p = plain_answer name fs p.buckets

  as-they-stand : (k : Kind) (p : Parts) → counted k (out-NodeAnswer (built_plain p)).buckets ≡ standing k p.buckets + 0 * (1 + below_empty ps)
  as-they-stand k p = plain-counted k (λ covered. None) p.buckets (built_plain p) (buckets_of name (map (finish_bucket fs None) p.buckets) (pos 0) 0 no_metric)

  metric-none : (metrics : List Metric) → (out-NodeAnswer (metric_answer name metrics)).buckets ≡ []
  metric-none [] = buckets_of name [] (pos 0) 0 no_metric
  metric-none (m ∷ ms) = buckets_of name [] (pos 0) 0 m

  no_bucket : (bs : List Bucket) → (length bs == 0) ≡ true → bs ≡ []
  no_bucket [] none = refl
  no_bucket (b ∷ bs) none = absurd (omega (arith, eqb-true (length (b ∷ bs)) 0 none))

  metric-counted : (k : Kind) (bs : List Bucket) (metrics : List Metric) → (length bs == 0) ≡ true → counted k (out-NodeAnswer (metric_answer name metrics)).buckets ≡ standing k bs + 0 * (1 + below_empty ps)
  metric-counted k bs metrics none =
      ap (counted k) (metric-none metrics) ∙ (λ i. member_count-is k (nil BucketAnswer) i + 0) ∙ sym (no_gaps (standing k []) (below_empty ps))
      ∙ ap (λ bs. standing k bs + 0 * (1 + below_empty ps)) (sym (no_bucket bs none))

  histogram-counted : (k : Kind) (h : HistogramOptions) → ((n : ℕ) → member_number k n ≡ n) → (p : Parts) → is_spaced h.spacing h.extended h.hard ≡ true
      → list_all (λ b. is_histogram_key h.spacing h.hard (bucket_key b)) p.buckets ≡ true → is_ascending (map bucket_key p.buckets) ≡ true
      → counted k (out-NodeAnswer (built_at name fs (spaced h) p)).buckets ≡ standing k p.buckets + gap_count (spaced h) p.buckets * (1 + below_empty ps)
  histogram-counted k h members p has made up =
      let cmp = bucket_cmp (map (λ (f : Finisher). f.kind) fs) h.order in
      let all = with_gaps (empty_bucket fs) h.spacing h.min_doc_count h.extended h.hard p.buckets in
      ap (counted k) (buckets_of name (map (finish_bucket fs None) (sorted cmp all)) (pos 0) 0 no_metric)
      ∙ counted-built k (λ covered. None) (sorted cmp all) ∙ ap (λ n. n + tally_below ps (sorted cmp all)) (members (length (sorted cmp all)))
      ∙ weighed (sorted cmp all) ∙ sum_by-sorted cmp weight all ∙ sym (filled-weigh h.spacing h.min_doc_count h.extended h.hard has p.buckets made up)
      ∙ ap (λ n. (n + tally_below ps p.buckets) + gap_count (spaced h) p.buckets * (1 + below_empty ps)) (sym (members (length p.buckets)))

  counts-at : (k : Kind) (p : Parts) → has_interval k ≡ true → stands_at (form_of k) p ≡ true → Counts k p
  counts-at (kind.Terms f size ss m order i x ms sh) p has stands =
      let error_of = λ (covered : ℕ). count_error (precision_of order) p.error covered p.full in
      plain-counted (kind.Terms f size ss m order i x ms sh) (λ covered. Some (error_of covered)) p.buckets _
      (buckets_of name (map (λ b. finish_bucket fs (Some (error_of b.covered)) b) p.buckets) (error_of 0) p.cut no_metric)
  counts-at (kind.Histogram f interval offset m extended hard keyed order ms) p has stands =
      let k = kind.Histogram f interval offset m extended hard keyed order ms in
      let s = Numbers interval offset in
      let both = and_parts (list_all (λ b. is_histogram_key s hard (bucket_key b)) p.buckets) (is_ascending (map bucket_key p.buckets)) stands in
      histogram-counted k (record { field = f; spacing = s; min_doc_count = m; extended = extended; hard = hard; keyed = keyed; order = order; missing = ms }) (λ n. refl) p has both.0 both.1
  counts-at (kind.DateHistogram f period zone m extended hard keyed order ms) p has stands =
      let k = kind.DateHistogram f period zone m extended hard keyed order ms in
      let s = Dates period zone in
      let both = and_parts (list_all (λ b. is_histogram_key s hard (bucket_key b)) p.buckets) (is_ascending (map bucket_key p.buckets)) stands in
      histogram-counted k (record { field = f; spacing = s; min_doc_count = m; extended = extended; hard = hard; keyed = keyed; order = order; missing = ms }) (λ n. refl) p has both.0 both.1
  counts-at (kind.Sum f m) p has stands = metric-counted (kind.Sum f m) p.buckets p.metrics stands
  counts-at (kind.Min f m) p has stands = metric-counted (kind.Min f m) p.buckets p.metrics stands
  counts-at (kind.Max f m) p has stands = metric-counted (kind.Max f m) p.buckets p.metrics stands
  counts-at (kind.Avg f m) p has stands = metric-counted (kind.Avg f m) p.buckets p.metrics stands
  counts-at (kind.ValueCount f m) p has stands = metric-counted (kind.ValueCount f m) p.buckets p.metrics stands
  counts-at k p has stands = as-they-stand k p

  -- the trees over no rows
  abbrev ws : List (List Node → Node)
  ws = map (λ (f : Finisher). f.whole) fs

  below-nothing : (m : ℕ) (more : List Agg) → map (λ c. c.1 (children_at [] c.0)) (enumerate_from m (map (λ (f : Finisher). f.whole) (map builder more))) ≡ map (λ (p : Plan). p.whole []) (map tally more)
  below-nothing m [] = refl
  below-nothing m (a ∷ rest) = ap (λ ns. (builder a).whole [] ∷ ns) (below-nothing (m + 1) rest)

  below-keys : (ks : List Key) → tally_below ps (map (whole_bucket ws []) ks) ≡ length ks * below_empty ps
  below-keys [] = let product : 0 * below_empty ps ≡ 0 = omega arith in sym product
  below-keys (k ∷ ks) =
      let here : plan_each ps (map (λ c. c.1 (children_at [] c.0)) (enumerate_from 0 ws)) ≡ below_empty ps = ap (plan_each ps) (below-nothing 0 aggs) in
      let product : suc (length ks) * below_empty ps ≡ below_empty ps + length ks * below_empty ps = omega arith in
      omega (arith, here, product, below-keys ks, sum_by-cons (λ (b : Bucket). plan_each ps b.children) (whole_bucket ws [] k) (map (whole_bucket ws []) ks))

  -- and those of the first buckets
  abbrev FirstCounted : Kind → List Bucket → Type 0
  FirstCounted k bs = standing k bs + gap_count (form_of k) bs * (1 + below_empty ps) ≡ (member_number k (fixed_count k) + fixed_count k * below_empty ps) + gap_count (form_of k) [] * (1 + below_empty ps)

  none-counted : (k : Kind) (bs : List Bucket) → bs ≡ [] → fixed_count k ≡ 0 → FirstCounted k bs
  none-counted k bs none few =
      let nothing : 0 ≡ 0 * below_empty ps = omega arith in
      (λ i. standing k (none i) + gap_count (form_of k) (none i) * (1 + below_empty ps))
      ∙ (λ i. (member_number k 0 + nothing i) + gap_count (form_of k) [] * (1 + below_empty ps))
      ∙ (λ i. (member_number k (sym few i) + sym few i * below_empty ps) + gap_count (form_of k) [] * (1 + below_empty ps))

  started-counted : (k : Kind) → ((bs : List Bucket) → gap_count (form_of k) bs ≡ 0) → length (fixed_keys k) ≡ fixed_count k → FirstCounted k (parts (Fixed (map (whole_bucket ws []) (fixed_keys k)))).buckets
  started-counted k none number =
      let bs = map (whole_bucket ws []) (fixed_keys k) in
      let long : length bs ≡ fixed_count k = length-map (fixed_keys k) (whole_bucket ws []) ∙ number in
      let sums : tally_below ps bs ≡ fixed_count k * below_empty ps = below-keys (fixed_keys k) ∙ ap (λ n. n * below_empty ps) number in
      ap (λ l. standing k (parts_at l).buckets + gap_count (form_of k) (parts_at l).buckets * (1 + below_empty ps)) (out-Fixed bs)
      ∙ (λ i. (member_number k (long i) + sums i) + (none bs ∙ sym (none [])) i * (1 + below_empty ps))

  no_keyed : (parts (Keyed [] 0 0 0)).buckets ≡ []
  no_keyed = ap (λ l. (parts_at l).buckets) (out-Keyed [] 0 0 0)

  no_number : (parts (Number (metric_sum []))).buckets ≡ []
  no_number = ap (λ l. (parts_at l).buckets) (out-Number (metric_sum []))

  nothing-at : (k : Kind) → FirstCounted k (parts (whole_by ws k (shape_of k) [])).buckets
  nothing-at (kind.Terms f size ss m order i x ms sh) = none-counted (kind.Terms f size ss m order i x ms sh) _ no_keyed refl
  nothing-at (kind.Histogram f interval offset m extended hard keyed order ms) = none-counted (kind.Histogram f interval offset m extended hard keyed order ms) _ no_keyed refl
  nothing-at (kind.DateHistogram f period zone m extended hard keyed order ms) = none-counted (kind.DateHistogram f period zone m extended hard keyed order ms) _ no_keyed refl
  nothing-at (kind.Composite sources size after) = none-counted (kind.Composite sources size after) _ no_keyed refl
  nothing-at (kind.Sum f m) = none-counted (kind.Sum f m) _ no_number refl
  nothing-at (kind.Min f m) = none-counted (kind.Min f m) _ no_number refl
  nothing-at (kind.Max f m) = none-counted (kind.Max f m) _ no_number refl
  nothing-at (kind.Avg f m) = none-counted (kind.Avg f m) _ no_number refl
  nothing-at (kind.ValueCount f m) = none-counted (kind.ValueCount f m) _ no_number refl
  nothing-at (kind.Filters names filters other) = started-counted (kind.Filters names filters other) (λ bs. refl) (length-map (range_with_len 0 (option_map_or (λ name. length filters + 1) other (length filters))) key.Fixed ∙ length-range_with_len 0 _)
  nothing-at k = started-counted k (λ bs. refl) refl

abbrev counter_of : Agg-F Counter → Counter
counter_of a = λ n. member_count a.kind (out-NodeAnswer n).buckets + sum (map (λ b. count_each a.children (out-BucketAnswer b).children) (out-NodeAnswer n).buckets)

-- one level of the count
pub tally-level : (a : Agg) (n : Node) → has_intervals a ≡ true → is_standing a n ≡ true
    → (tally a).count n ≡ (member_number (out-Agg a).kind (length (parts n).buckets) + tally_below (map tally (out-Agg a).children) (parts n).buckets) + gap_count (form_of (out-Agg a).kind) (parts n).buckets * (1 + below_empty (map tally (out-Agg a).children))
tally-level a n has stands =
    let l = out-Agg a in
    ap (λ (c : Counter). c ((builder a).finish n)) (fold_agg-level counter_of a)
    ∙ ap (λ (f : Finisher). counted l.name l.children l.kind (out-NodeAnswer (f.finish n)).buckets) (fold_agg-level builder_of a)
    ∙ counts-at l.name l.children l.kind (parts n) (intervals-at a has).0 (standing-opened a n stands).1

-- and over no rows
pub nothing-level : (a : Agg) → has_intervals a ≡ true → is_standing a ((tally a).whole []) ≡ true
    → tally_of_nothing a ≡ (member_number (out-Agg a).kind (fixed_count (out-Agg a).kind) + fixed_count (out-Agg a).kind * below_empty (map tally (out-Agg a).children)) + gap_count (form_of (out-Agg a).kind) [] * (1 + below_empty (map tally (out-Agg a).children))
nothing-level a has stands =
    let l = out-Agg a in
    tally-level a ((builder a).whole []) has stands
    ∙ ap (λ (f : Finisher). standing l.name l.children l.kind (parts (f.whole [])).buckets + gap_count (form_of l.kind) (parts (f.whole [])).buckets * (1 + below_empty (map tally l.children))) (fold_agg-level builder_of a)
    ∙ nothing-at l.name l.children l.kind
