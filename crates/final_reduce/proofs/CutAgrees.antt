-- The answer that is made of what stands is the answer of the whole.
use Rattle.std.specs.Prelude.{◌≡◌, refl, ℕ, ℤ, zero, suc, ◌+◌, ◌^◌, ◌==◌, ◌&&◌, nat_lt, nat_le, Bool, true, List, [], ◌∷◌, map, take, drop, length, sum_by, Option, Some, None, option_and_then, slice_get}
use Rattle.std.specs.List.{list_all, enumerate_from}
use Rattle.std.proofs.Common.{sym, ◌∙◌, ap}
use Rattle.std.proofs.lemmas.Bool.{and_parts, and_from, false≢true}
use Rattle.agg_model.specs.declared.key.Key.{Key}
use Rattle.agg_model.specs.declared.partial.Bucket.{Bucket}
use Rattle.agg_model.specs.declared.partial.Metric.{Metric}
use Rattle.agg_model.specs.declared.partial.Node.{Node, out-Node}
use Rattle.agg_model.specs.declared.partial.Node.TheVariants.{Keyed, Fixed, Number}
use Rattle.agg_model.specs.declared.answer.BucketAnswer.{roll-BucketAnswer}
use Rattle.agg_model.specs.declared.answer.NodeAnswer.{roll-NodeAnswer}
use Rattle.agg_model.specs.declared.aggregation.Agg.{Agg, Agg', Row_of-Agg, end_of-Agg, more_of-Agg}
use Rattle.agg_model.specs.declared.aggregation.Agg.TheOpen.{Agg-F}
use Rattle.agg_model.specs.declared.aggregation.Bounds.{Bounds}
use Rattle.agg_model.specs.declared.aggregation.Order.{Order}
use Rattle.agg_model.specs.declared.aggregation.Spacing.{Spacing}
use Rattle.agg_model.specs.declared.aggregation.Spacing.TheVariants.{Numbers, Dates}
use Rattle.agg_model.specs.declared.aggregation.Kind.{Kind}
use Rattle.agg_model.specs.declared.aggregation.Kind.TheVariants as kind
use Rattle.agg_model.specs.Options.{HistogramOptions}
use Rattle.list_laws.specs.Sorting.{sorted}
use Rattle.list_laws.proofs.Lists.{map-map}
use Rattle.agg_evaluation.specs.Folds.{fold_aggs}
use Rattle.agg_evaluation.specs.Orders.{bucket_cmp, bucket_key, bucket_count, child_value, composite_cmp, metric_value, number_of}
use Rattle.agg_evaluation.specs.Shard.{fixed_keys}
use Rattle.agg_evaluation.specs.Trees.{have_children, is_ascending, is_tree_at, pass_each}
use Rattle.agg_evaluation.specs.Whole.{Parts, by_key, children_at, metric_sum, parts, parts_at, shape_of, whole_bucket, whole_by}
use Rattle.agg_evaluation.specs.Finishable.{fits_at, is_finishable, is_finishable_at, is_histogram_key}
use Rattle.agg_evaluation.proofs.NodeForms.{out-Keyed, out-Fixed, out-Number}
use Rattle.agg_spec.specs.CountErrors.{precision_of, count_error}
use Rattle.agg_spec.specs.Filling.{filled, frequent}
use Rattle.agg_spec.specs.Final.{Finisher, finisher, finisher_of, finish_at, finish_each, finish_bucket, empty_bucket, buckets_answer, no_metric}
use Rattle.final_reduce.specs.Standing.{Cutter, Form, spaced, paged, as_it_is, metric_alone, beyond_at, builder, builder_of, built_at, cut_at, cut_bucket, cut_keyed, cut_nodes, cutter, cutter_of, form_of, is_standing, is_standing_at, ordered_terms, plain_answer, returned_at, spaced_built, stands_at, with_gaps}
use Rattle.final_reduce.proofs.SelectLaws.{list_all-map, list_all-filter}
use Rattle.final_reduce.proofs.FinishableLaws.{children_pass, ascending_of, no_buckets, returned-pass}
use Rattle.final_reduce.proofs.CutKeeps.{ascending-filter, filled-is, gaps-kept, sorted-kept}

-- the value of a metric by which it is sorted
abbrev value_by : Kind → Node → Option ℤ
value_by k n = option_and_then (metric_value k) (number_of (out-Node n))

-- what stands, what is made of it, what the answer is, and which nodes these take
pub record Agree (c : Cutter) (g f : Finisher) (t s : Node → Bool) : Type 0 where
  pub cut_kind : c.kind ≡ f.kind
  pub built_kind : g.kind ≡ f.kind
  pub wholes : g.whole ≡ f.whole
  pub nothing_cut : c.cut (f.whole []) ≡ f.whole []
  pub nothing_stands : s (f.whole []) ≡ true
  pub values : (n : Node) → value_by f.kind (c.cut n) ≡ value_by f.kind n
  pub answers : (n : Node) → g.finish (c.cut n) ≡ f.finish n
  pub stands : (n : Node) → t n ≡ true → s (c.cut n) ≡ true

abbrev pub AllAgree : List Cutter → List Finisher → List Finisher → List (Node → Bool) → List (Node → Bool) → Type 0
AllAgree [] [] [] [] [] = Unit {0}
AllAgree (c ∷ cs) (g ∷ gs) (f ∷ fs) (t ∷ ts) (s ∷ ss) = Agree c g f t s × AllAgree cs gs fs ts ss
AllAgree _ _ _ _ _ = ⊥

kinds-cut : (cs : List Cutter) (gs fs : List Finisher) (ts ss : List (Node → Bool)) → AllAgree cs gs fs ts ss → map (λ (c : Cutter). c.kind) cs ≡ map (λ (f : Finisher). f.kind) fs
kinds-cut [] [] [] [] [] h = refl
kinds-cut (c ∷ cs) (g ∷ gs) (f ∷ fs) (t ∷ ts) (s ∷ ss) h = λ i. h.0.cut_kind i ∷ kinds-cut cs gs fs ts ss h.1 i
kinds-cut _ _ _ _ _ h = absurd h

kinds-built : (cs : List Cutter) (gs fs : List Finisher) (ts ss : List (Node → Bool)) → AllAgree cs gs fs ts ss → map (λ (g : Finisher). g.kind) gs ≡ map (λ (f : Finisher). f.kind) fs
kinds-built [] [] [] [] [] h = refl
kinds-built (c ∷ cs) (g ∷ gs) (f ∷ fs) (t ∷ ts) (s ∷ ss) h = λ i. h.0.built_kind i ∷ kinds-built cs gs fs ts ss h.1 i
kinds-built _ _ _ _ _ h = absurd h

wholes-built : (cs : List Cutter) (gs fs : List Finisher) (ts ss : List (Node → Bool)) → AllAgree cs gs fs ts ss → map (λ (g : Finisher). g.whole) gs ≡ map (λ (f : Finisher). f.whole) fs
wholes-built [] [] [] [] [] h = refl
wholes-built (c ∷ cs) (g ∷ gs) (f ∷ fs) (t ∷ ts) (s ∷ ss) h = λ i. h.0.wholes i ∷ wholes-built cs gs fs ts ss h.1 i
wholes-built _ _ _ _ _ h = absurd h

pub nothing-built : (cs : List Cutter) (gs fs : List Finisher) (ts ss : List (Node → Bool)) → AllAgree cs gs fs ts ss → map (λ (g : Finisher). g.whole []) gs ≡ map (λ (f : Finisher). f.whole []) fs
nothing-built [] [] [] [] [] h = refl
nothing-built (c ∷ cs) (g ∷ gs) (f ∷ fs) (t ∷ ts) (s ∷ ss) h = λ i. h.0.wholes i [] ∷ nothing-built cs gs fs ts ss h.1 i
nothing-built _ _ _ _ _ h = absurd h

nothing-cut : (cs : List Cutter) (gs fs : List Finisher) (ts ss : List (Node → Bool)) → AllAgree cs gs fs ts ss → cut_nodes cs (map (λ (f : Finisher). f.whole []) fs) ≡ map (λ (f : Finisher). f.whole []) fs
nothing-cut [] [] [] [] [] h = refl
nothing-cut (c ∷ cs) (g ∷ gs) (f ∷ fs) (t ∷ ts) (s ∷ ss) h = λ i. h.0.nothing_cut i ∷ nothing-cut cs gs fs ts ss h.1 i
nothing-cut _ _ _ _ _ h = absurd h

pub nothing-stands : (cs : List Cutter) (gs fs : List Finisher) (ts ss : List (Node → Bool)) → AllAgree cs gs fs ts ss → pass_each ss (map (λ (f : Finisher). f.whole []) fs) ≡ true
nothing-stands [] [] [] [] [] h = refl
nothing-stands (c ∷ cs) (g ∷ gs) (f ∷ fs) (t ∷ ts) (s ∷ ss) h = and_from _ _ h.0.nothing_stands (nothing-stands cs gs fs ts ss h.1)
nothing-stands _ _ _ _ _ h = absurd h

-- the value of the child at a place
abbrev value_at : List Kind → ℕ → List Node → Option ℤ
value_at kinds i ns = option_and_then (λ k. option_and_then (λ n. option_and_then (metric_value k) (number_of (out-Node n))) (slice_get ns i)) (slice_get kinds i)

values-cut : (cs : List Cutter) (gs fs : List Finisher) (ts ss : List (Node → Bool)) → AllAgree cs gs fs ts ss → (ns : List Node) (i : ℕ) → value_at (map (λ (f : Finisher). f.kind) fs) i (cut_nodes cs ns) ≡ value_at (map (λ (f : Finisher). f.kind) fs) i ns
values-cut [] [] [] [] [] h ns i = refl
values-cut (c ∷ cs) (g ∷ gs) (f ∷ fs) (t ∷ ts) (s ∷ ss) h [] i = refl
values-cut (c ∷ cs) (g ∷ gs) (f ∷ fs) (t ∷ ts) (s ∷ ss) h (n ∷ ns) zero = h.0.values n
values-cut (c ∷ cs) (g ∷ gs) (f ∷ fs) (t ∷ ts) (s ∷ ss) h (n ∷ ns) (suc i) = values-cut cs gs fs ts ss h.1 ns i
values-cut _ _ _ _ _ h ns i = absurd h

pub answers-cut : (cs : List Cutter) (gs fs : List Finisher) (ts ss : List (Node → Bool)) → AllAgree cs gs fs ts ss → (ns : List Node) → finish_each gs (cut_nodes cs ns) ≡ finish_each fs ns
answers-cut [] [] [] [] [] h ns = refl
answers-cut (c ∷ cs) (g ∷ gs) (f ∷ fs) (t ∷ ts) (s ∷ ss) h [] = refl
answers-cut (c ∷ cs) (g ∷ gs) (f ∷ fs) (t ∷ ts) (s ∷ ss) h (n ∷ ns) = λ i. h.0.answers n i ∷ answers-cut cs gs fs ts ss h.1 ns i
answers-cut _ _ _ _ _ h ns = absurd h

pub stands-cut : (cs : List Cutter) (gs fs : List Finisher) (ts ss : List (Node → Bool)) → AllAgree cs gs fs ts ss → (ns : List Node) → pass_each ts ns ≡ true → pass_each ss (cut_nodes cs ns) ≡ true
stands-cut [] [] [] [] [] h [] pass = refl
stands-cut [] [] [] [] [] h (n ∷ ns) pass = absurd (false≢true pass)
stands-cut (c ∷ cs) (g ∷ gs) (f ∷ fs) (t ∷ ts) (s ∷ ss) h [] pass = absurd (false≢true pass)
stands-cut (c ∷ cs) (g ∷ gs) (f ∷ fs) (t ∷ ts) (s ∷ ss) h (n ∷ ns) pass =
    let parts = and_parts _ _ pass in
    and_from _ _ (h.0.stands n parts.0) (stands-cut cs gs fs ts ss h.1 ns parts.1)
stands-cut _ _ _ _ _ h ns pass = absurd h

children-nothing : (m : ℕ) (fs : List Finisher) → map (λ c. c.1 (children_at [] c.0)) (enumerate_from m (map (λ (f : Finisher). f.whole) fs)) ≡ map (λ (f : Finisher). f.whole []) fs
children-nothing m [] = refl
children-nothing m (f ∷ fs) = ap (λ ns. f.whole [] ∷ ns) (children-nothing (m + 1) fs)

-- a kind that is no metric has no value
no-value : (k : Kind) → ((m : Metric) → metric_value k m ≡ None) → (o p : Option Metric) → option_and_then (metric_value k) o ≡ option_and_then (metric_value k) p
no-value k none None None = refl
no-value k none None (Some m) = sym (none m)
no-value k none (Some m) None = none m
no-value k none (Some m) (Some n) = none m ∙ sym (none n)

abbrev nil : (A : Type 0) → List A
nil A = []

none-taken : (n : ℕ) (bs : List Bucket) → bs ≡ [] → take n bs ≡ []
none-taken n bs none = ap (take n) none ∙ of_none n
  where
    of_none : (n : ℕ) → take n (nil Bucket) ≡ []
    of_none zero = refl
    of_none (suc n) = refl

none-dropped : (n : ℕ) (bs : List Bucket) → bs ≡ [] → sum_by bucket_count (drop n bs) ≡ 0
none-dropped n bs none = ap (λ bs. sum_by bucket_count (drop n bs)) none ∙ of_none n
  where
    of_none : (n : ℕ) → sum_by bucket_count (drop n (nil Bucket)) ≡ 0
    of_none zero = refl
    of_none (suc n) = refl

module _ (name : List ℕ) (cs : List Cutter) (gs fs : List Finisher) (ts ss : List (Node → Bool)) (agree : AllAgree cs gs fs ts ss) where
  abbrev kinds : List Kind
  kinds = map (λ (f : Finisher). f.kind) fs

  abbrev own_kinds : List Kind
  own_kinds = map (λ (c : Cutter). c.kind) cs

  abbrev ws : List (List Node → Node)
  ws = map (λ (f : Finisher). f.whole) fs

  empty-cut : (key : Key) → cut_bucket cs (empty_bucket fs key) ≡ empty_bucket fs key
  empty-cut key = λ i. record { key = key; count = 0; covered = 0; children = nothing-cut cs gs fs ts ss agree i }

  empty-built : (key : Key) → empty_bucket gs key ≡ empty_bucket fs key
  empty-built key = λ i. record { key = key; count = 0; covered = 0; children = nothing-built cs gs fs ts ss agree i }

  value-kept : (i : ℕ) (b : Bucket) → child_value kinds i (cut_bucket cs b) ≡ child_value kinds i b
  value-kept i b = values-cut cs gs fs ts ss agree b.children i

  bucket-built : (error : Option ℤ) (b : Bucket) → finish_bucket gs error (cut_bucket cs b) ≡ finish_bucket fs error b
  bucket-built error b = ap (λ ns. roll-BucketAnswer (record { key = bucket_key b; count = bucket_count b; error = error; children = ns })) (answers-cut cs gs fs ts ss agree b.children)

  buckets-built : (error : ℕ → Option ℤ) (bs : List Bucket) → map (λ b. finish_bucket gs (error b.covered) b) (map (cut_bucket cs) bs) ≡ map (λ b. finish_bucket fs (error b.covered) b) bs
  buckets-built error [] = refl
  buckets-built error (b ∷ bs) = λ i. bucket-built (error b.covered) b i ∷ buckets-built error bs i

  -- buckets as they stand
  plain-built : (bs : List Bucket) → plain_answer name gs (map (cut_bucket cs) bs) ≡ plain_answer name fs bs
  plain-built bs = ap (buckets_answer name) (buckets-built (λ covered. None) bs)

  started-built : (n : Node) → plain_answer name gs (parts (Fixed (map (cut_bucket cs) (parts n).buckets))).buckets ≡ plain_answer name fs (parts n).buckets
  started-built n = ap (λ l. plain_answer name gs (parts_at l).buckets) (out-Fixed (map (cut_bucket cs) (parts n).buckets)) ∙ plain-built (parts n).buckets

  histogram-built : (spacing : Spacing) (m : ℕ) (extended hard : Bounds) (order : List Order) (bs : List Bucket)
      → spaced_built name gs spacing m extended hard order (map (cut_bucket cs) bs)
      ≡ plain_answer name fs (sorted (bucket_cmp kinds order) (with_gaps (empty_bucket fs) spacing m extended hard bs))
  histogram-built spacing m extended hard order bs =
      let all = with_gaps (empty_bucket fs) spacing m extended hard bs in
      (λ i. plain_answer name gs (sorted (bucket_cmp (kinds-built cs gs fs ts ss agree i) order) (with_gaps (λ key. empty-built key i) spacing m extended hard (map (cut_bucket cs) bs))))
      ∙ ap (λ xs. plain_answer name gs (sorted (bucket_cmp kinds order) xs)) (gaps-kept cs (empty_bucket fs) empty-cut spacing m extended hard bs)
      ∙ ap (plain_answer name gs) (sorted-kept cs kinds value-kept order all)
      ∙ plain-built (sorted (bucket_cmp kinds order) all)

  -- a histogram: those of its buckets that have enough documents, with gaps
  frequent-built : (spacing : Spacing) (m : ℕ) (extended hard : Bounds) (order : List Order) (p : Parts)
      → spaced_built name gs spacing m extended hard order (parts (Keyed (map (cut_bucket cs) (frequent m p.buckets)) p.error p.full (p.cut + 0))).buckets
      ≡ plain_answer name fs (sorted (bucket_cmp kinds order) (filled (empty_bucket fs) spacing m extended hard p.buckets))
  frequent-built spacing m extended hard order p =
      ap (λ l. spaced_built name gs spacing m extended hard order (parts_at l).buckets) (out-Keyed (map (cut_bucket cs) (frequent m p.buckets)) p.error p.full (p.cut + 0))
      ∙ histogram-built spacing m extended hard order (frequent m p.buckets)
      ∙ ap (λ bs. plain_answer name fs (sorted (bucket_cmp kinds order) bs)) (sym (filled-is (empty_bucket fs) spacing m extended hard p.buckets))

  answers-at : (k : Kind) (n : Node) → built_at name gs (form_of k) (parts (cut_at cs (form_of k) n)) ≡ finish_at name fs k (parts n)
  answers-at (kind.Terms f size shard_size m order i x ms sh) n =
      let p = parts n in
      let k = kind.Terms f size shard_size m order i x ms sh in
      let first = take size (ordered_terms own_kinds m order p.buckets) in
      let other = p.cut + sum_by bucket_count (drop size (ordered_terms own_kinds m order p.buckets)) in
      let error_of = λ (covered : ℕ). count_error (precision_of order) p.error covered p.full in
      ap (λ l. built_at name gs (form_of k) (parts_at l)) (out-Keyed (map (cut_bucket cs) first) p.error p.full other)
      ∙ ap (λ bs. roll-NodeAnswer (record { name = name; buckets = bs; error = error_of 0; other = other; metric = no_metric })) (buckets-built (λ covered. Some (error_of covered)) first)
      ∙ ap (λ ks. roll-NodeAnswer (record {
        name = name;
        buckets = map (λ b. finish_bucket fs (Some (error_of b.covered)) b) (take size (ordered_terms ks m order p.buckets));
        error = error_of 0;
        other = p.cut + sum_by bucket_count (drop size (ordered_terms ks m order p.buckets));
        metric = no_metric;
      })) (kinds-cut cs gs fs ts ss agree)
  answers-at (kind.Histogram f interval offset m extended hard keyed order ms) n = frequent-built (Numbers interval offset) m extended hard order (parts n)
  answers-at (kind.DateHistogram f period zone m extended hard keyed order ms) n = frequent-built (Dates period zone) m extended hard order (parts n)
  answers-at (kind.Composite sources size after) n =
      let p = parts n in
      let k = kind.Composite sources size after in
      let first = take size (sorted (λ a b. composite_cmp sources (bucket_key a) (bucket_key b)) p.buckets) in
      ap (λ l. built_at name gs (form_of k) (parts_at l)) (out-Keyed (map (cut_bucket cs) first) p.error p.full (p.cut + 0)) ∙ plain-built first
  answers-at (kind.Sum f m) n = refl
  answers-at (kind.Min f m) n = refl
  answers-at (kind.Max f m) n = refl
  answers-at (kind.Avg f m) n = refl
  answers-at (kind.ValueCount f m) n = refl
  answers-at _ n = started-built n

  values-at : (k : Kind) (n : Node) → value_by k (cut_at cs (form_of k) n) ≡ value_by k n
  values-at (kind.Sum f m) n = refl
  values-at (kind.Min f m) n = refl
  values-at (kind.Max f m) n = refl
  values-at (kind.Avg f m) n = refl
  values-at (kind.ValueCount f m) n = refl
  values-at k n = no-value k (λ m. refl) _ _

  -- what stands of buckets whose children pass
  below-stands : (bs : List Bucket) → have_children ts bs ≡ true → have_children ss (map (cut_bucket cs) bs) ≡ true
  below-stands [] pass = refl
  below-stands (b ∷ bs) pass =
      let parts = and_parts (pass_each ts b.children) (have_children ts bs) pass in
      and_from _ _ (stands-cut cs gs fs ts ss agree b.children parts.0) (below-stands bs parts.1)

  keyed-stands : (form : Form) (bs : List Bucket) (error full cut : ℕ) → have_children ss bs ≡ true → stands_at form (record { buckets = bs; error = error; full = full; cut = cut; metrics = [] }) ≡ true → is_standing_at ss form (Keyed bs error full cut) ≡ true
  keyed-stands form bs error full cut children own = ap (λ l. have_children ss (parts_at l).buckets && stands_at form (parts_at l)) (out-Keyed bs error full cut) ∙ and_from _ _ children own

  started-stands : (n : Node) → have_children ts (parts n).buckets ≡ true → is_standing_at ss as_it_is (Fixed (map (cut_bucket cs) (parts n).buckets)) ≡ true
  started-stands n pass = ap (λ l. have_children ss (parts_at l).buckets && true) (out-Fixed (map (cut_bucket cs) (parts n).buckets)) ∙ and_from _ _ (below-stands (parts n).buckets pass) refl

  number-stands : (n : Node) → (parts n).buckets ≡ [] → is_standing_at ss metric_alone n ≡ true
  number-stands n none = ap (λ bs. have_children ss bs && (length bs == 0)) none

  spaced-stands : (h : HistogramOptions) (fixed : List Key) (n : Node) → have_children ts (parts n).buckets ≡ true → is_tree_at ts fixed by_key (out-Node n) ≡ true
      → list_all (λ b. is_histogram_key h.spacing h.hard (bucket_key b)) (parts n).buckets ≡ true → is_standing_at ss (spaced h) (cut_at cs (spaced h) n) ≡ true
  spaced-stands h fixed n pass tree fits =
      let p = parts n in
      let enough = λ (b : Bucket). nat_le h.min_doc_count (bucket_count b) in
      let kept = frequent h.min_doc_count p.buckets in
      let made = λ (b : Bucket). is_histogram_key h.spacing h.hard (bucket_key b) in
      let keys : list_all made (map (cut_bucket cs) kept) ≡ true = list_all-map made (cut_bucket cs) kept ∙ list_all-filter made enough p.buckets fits in
      let up : is_ascending (map bucket_key (map (cut_bucket cs) kept)) ≡ true = ap is_ascending (map-map bucket_key (cut_bucket cs) kept) ∙ ascending-filter enough p.buckets (ascending_of ts fixed (out-Node n) tree) in
      keyed-stands (spaced h) (map (cut_bucket cs) kept) p.error p.full (p.cut + 0) (below-stands kept (returned-pass ts own_kinds (spaced h) p.buckets pass)) (and_from _ _ keys up)

  stands-at : (k : Kind) (n : Node) → have_children ts (parts n).buckets ≡ true → is_tree_at ts (fixed_keys k) (shape_of k) (out-Node n) ≡ true → fits_at k (parts n) ≡ true → is_standing_at ss (form_of k) (cut_at cs (form_of k) n) ≡ true
  stands-at (kind.Terms f size shard_size m order i x ms sh) n pass tree fits =
      let p = parts n in
      let first = take size (ordered_terms own_kinds m order p.buckets) in
      let both = and_parts (nat_lt (p.cut + sum_by bucket_count p.buckets) (2 ^ 64)) _ fits in
      keyed-stands (form_of (kind.Terms f size shard_size m order i x ms sh)) (map (cut_bucket cs) first) p.error p.full (p.cut + sum_by bucket_count (drop size (ordered_terms own_kinds m order p.buckets)))
      (below-stands first (returned-pass ts own_kinds (form_of (kind.Terms f size shard_size m order i x ms sh)) p.buckets pass)) (and_parts (nat_lt p.error (2 ^ 63)) _ both.1).0
  stands-at (kind.Histogram f interval offset m extended hard keyed order ms) n pass tree fits =
      let k = kind.Histogram f interval offset m extended hard keyed order ms in
      spaced-stands (record { field = f; spacing = Numbers interval offset; min_doc_count = m; extended = extended; hard = hard; keyed = keyed; order = order; missing = ms })
      (fixed_keys k) n pass tree fits
  stands-at (kind.DateHistogram f period zone m extended hard keyed order ms) n pass tree fits =
      let k = kind.DateHistogram f period zone m extended hard keyed order ms in
      spaced-stands (record { field = f; spacing = Dates period zone; min_doc_count = m; extended = extended; hard = hard; keyed = keyed; order = order; missing = ms })
      (fixed_keys k) n pass tree fits
  stands-at (kind.Composite sources size after) n pass tree fits =
      let p = parts n in
      let first = take size (sorted (λ a b. composite_cmp sources (bucket_key a) (bucket_key b)) p.buckets) in
      keyed-stands (paged sources size) (map (cut_bucket cs) first) p.error p.full (p.cut + 0) (below-stands first (returned-pass ts own_kinds (paged sources size) p.buckets pass)) refl
  stands-at (kind.Sum f m) n pass tree fits = number-stands n (no_buckets ts (fixed_keys (kind.Sum f m)) (out-Node n) tree)
  stands-at (kind.Min f m) n pass tree fits = number-stands n (no_buckets ts (fixed_keys (kind.Min f m)) (out-Node n) tree)
  stands-at (kind.Max f m) n pass tree fits = number-stands n (no_buckets ts (fixed_keys (kind.Max f m)) (out-Node n) tree)
  stands-at (kind.Avg f m) n pass tree fits = number-stands n (no_buckets ts (fixed_keys (kind.Avg f m)) (out-Node n) tree)
  stands-at (kind.ValueCount f m) n pass tree fits = number-stands n (no_buckets ts (fixed_keys (kind.ValueCount f m)) (out-Node n) tree)
  stands-at k n pass tree fits = started-stands n pass

  -- what stands of the trees over no rows are these trees
  none-below : (key : Key) → cut_bucket cs (whole_bucket ws [] key) ≡ whole_bucket ws [] key
  none-below key =
      let nodes = children-nothing 0 fs in
      λ i. record { key = key; count = 0; covered = 0; children = (ap (cut_nodes cs) nodes ∙ nothing-cut cs gs fs ts ss agree ∙ sym nodes) i }

  all-below : (keys : List Key) → map (cut_bucket cs) (map (whole_bucket ws []) keys) ≡ map (whole_bucket ws []) keys
  all-below [] = refl
  all-below (key ∷ keys) = λ i. none-below key i ∷ all-below keys i

  -- which stand
  abbrev StaysAs : Form → Node → Type 0
  StaysAs form n = (cut_at cs form n ≡ n) × (is_standing_at ss form n ≡ true)

  keyed-nothing : (form : Form) → returned_at own_kinds form [] ≡ [] → beyond_at own_kinds form [] ≡ 0 → stands_at form (record { buckets = []; error = 0; full = 0; cut = 0; metrics = [] }) ≡ true
      → (cut_keyed cs form (parts (Keyed [] 0 0 0)) ≡ Keyed [] 0 0 0) × (is_standing_at ss form (Keyed [] 0 0 0) ≡ true)
  keyed-nothing form none beyond own =
      (ap (λ l. cut_keyed cs form (parts_at l)) (out-Keyed [] 0 0 0) ∙ (λ i. Keyed (map (cut_bucket cs) (none i)) 0 0 (0 + beyond i)), keyed-stands form [] 0 0 0 refl own)

  all_same : (b : Bool) (ks : List Key) → b ≡ true → list_all (λ k. b) ks ≡ true
  all_same b [] e = refl
  all_same b (k ∷ ks) e = and_from _ _ e (all_same b ks e)

  started-nothing : (ks : List Key) → StaysAs as_it_is (Fixed (map (whole_bucket ws []) ks))
  started-nothing ks =
      let bs = map (whole_bucket ws []) ks in
      let passes = λ (b : Bucket). pass_each ss b.children in
      let nodes = map (λ c. c.1 (children_at [] c.0)) (enumerate_from 0 ws) in
      let one : pass_each ss nodes ≡ true = ap (pass_each ss) (children-nothing 0 fs) ∙ nothing-stands cs gs fs ts ss agree in
      let all : list_all passes bs ≡ true = list_all-map passes (whole_bucket ws []) ks ∙ all_same (pass_each ss nodes) ks one in (
        ap (λ l. Fixed (map (cut_bucket cs) (parts_at l).buckets)) (out-Fixed bs) ∙ ap Fixed (all-below ks),
        ap (λ l. have_children ss (parts_at l).buckets && true) (out-Fixed bs) ∙ and_from _ _ all refl,
      )

  number-nothing : StaysAs metric_alone (Number (metric_sum []))
  number-nothing = (refl, number-stands (Number (metric_sum [])) (ap (λ l. (parts_at l).buckets) (out-Number (metric_sum []))))

  nothing-at : (k : Kind) → StaysAs (form_of k) (whole_by ws k (shape_of k) [])
  nothing-at (kind.Terms f size ss m order i x ms sh) = keyed-nothing (form_of (kind.Terms f size ss m order i x ms sh)) (none-taken size _ refl) (none-dropped size _ refl) refl
  nothing-at (kind.Histogram f interval offset m extended hard keyed order ms) = keyed-nothing (form_of (kind.Histogram f interval offset m extended hard keyed order ms)) refl refl refl
  nothing-at (kind.DateHistogram f period zone m extended hard keyed order ms) = keyed-nothing (form_of (kind.DateHistogram f period zone m extended hard keyed order ms)) refl refl refl
  nothing-at (kind.Composite sources size after) = keyed-nothing (paged sources size) (none-taken size _ refl) refl refl
  nothing-at (kind.Sum f m) = number-nothing
  nothing-at (kind.Min f m) = number-nothing
  nothing-at (kind.Max f m) = number-nothing
  nothing-at (kind.Avg f m) = number-nothing
  nothing-at (kind.ValueCount f m) = number-nothing
  nothing-at k = started-nothing (fixed_keys k)

  agrees-at : (k : Kind) (n : Node) → is_finishable_at ts k n ≡ true → is_standing_at ss (form_of k) (cut_at cs (form_of k) n) ≡ true
  agrees-at k n fine =
      let both = and_parts (is_tree_at ts (fixed_keys k) (shape_of k) (out-Node n)) (fits_at k (parts n)) fine in
      stands-at k n (children_pass ts (fixed_keys k) (shape_of k) (out-Node n) both.0) both.0 both.1

abbrev finishable_of : Agg-F (Node → Bool) → Node → Bool
finishable_of a = λ n. is_finishable_at a.children a.kind n

abbrev standing_of : Agg-F (Node → Bool) → Node → Bool
standing_of a = λ n. is_standing_at a.children (form_of a.kind) n

mutual
  pub agrees : (a : Agg) → Agree (cutter a) (builder a) (finisher a) (is_finishable a) (is_standing a)
  agrees (Agg' name k n children) =
      let all = each-agrees children in
      record {
        cut_kind = refl;
        built_kind = refl;
        wholes = ap (λ ws. whole_by ws k (shape_of k)) (wholes-built _ _ _ _ _ all);
        nothing_cut = (nothing-at name _ _ _ _ _ all k).0;
        nothing_stands = (nothing-at name _ _ _ _ _ all k).1;
        values = λ m. values-at name _ _ _ _ _ all k m;
        answers = λ m. answers-at name _ _ _ _ _ all k m;
        stands = λ m fine. agrees-at name _ _ _ _ _ all k m fine;
      }

  each-agrees : {n : _} (children : Row_of-Agg n) → AllAgree (fold_aggs cutter_of children) (fold_aggs builder_of children) (fold_aggs finisher_of children) (fold_aggs finishable_of children) (fold_aggs standing_of children)
  each-agrees end_of-Agg = tt
  each-agrees (more_of-Agg a rest) = (agrees a, each-agrees rest)

pub all-agree : (aggs : List Agg) → AllAgree (map cutter aggs) (map builder aggs) (map finisher aggs) (map is_finishable aggs) (map is_standing aggs)
all-agree [] = tt
all-agree (a ∷ rest) = (agrees a, all-agree rest)

-- what is made of what stands is the answer
pub standing-answers : (aggs : List Agg) (ns : List Node) → finish_each (map builder aggs) (cut_nodes (map cutter aggs) ns) ≡ finish_each (map finisher aggs) ns
standing-answers aggs ns = answers-cut _ _ _ _ _ (all-agree aggs) ns

-- what stands of nodes that can be finished
pub standing-stands : (aggs : List Agg) (ns : List Node) → pass_each (map is_finishable aggs) ns ≡ true → pass_each (map is_standing aggs) (cut_nodes (map cutter aggs) ns) ≡ true
standing-stands aggs ns pass = stands-cut _ _ _ _ _ (all-agree aggs) ns pass

-- the trees over no rows stand
pub nothing-standing : (aggs : List Agg) → pass_each (map is_standing aggs) (map (λ (f : Finisher). f.whole []) (map finisher aggs)) ≡ true
nothing-standing aggs = nothing-stands _ _ _ _ _ (all-agree aggs)

-- empty buckets are the same by both
pub empty-standing : (aggs : List Agg) (key : Key) → empty_bucket (map builder aggs) key ≡ empty_bucket (map finisher aggs) key
empty-standing aggs key = λ i. record { key = key; count = 0; covered = 0; children = nothing-built _ _ _ _ _ (all-agree aggs) i }

pub nothing-stands-at : (a : Agg) → is_standing a ((builder a).whole []) ≡ true
nothing-stands-at a = ap (λ (w : List Node → Node). is_standing a (w [])) (agrees a).wholes ∙ (agrees a).nothing_stands
