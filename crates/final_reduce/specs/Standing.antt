-- What stands of a whole in an answer: the buckets that it returns, in order, before gaps are filled; and the answer that is made
-- of them ('Terms aggregation', order, size and minimum document count; 'Composite aggregation', size).
use Rattle.std.specs.Prelude.{ℕ, ◌+◌, ◌^◌, ◌==◌, ◌&&◌, nat_lt, Bool, true, if◌then◌else◌, List, [], ◌∷◌, map, take, drop, length, sum_by, Some, None}
use Rattle.std.specs.List.{list_all}
use Rattle.agg_model.specs.declared.key.Key.{Key}
use Rattle.agg_model.specs.declared.partial.Bucket.{Bucket}
use Rattle.agg_model.specs.declared.partial.Node.{Node}
use Rattle.agg_model.specs.declared.partial.Node.TheVariants.{Keyed, Fixed}
use Rattle.agg_model.specs.declared.answer.NodeAnswer.{NodeAnswer, roll-NodeAnswer}
use Rattle.agg_model.specs.declared.aggregation.Bounds.{Bounds}
use Rattle.agg_model.specs.declared.aggregation.Order.{Order}
use Rattle.agg_model.specs.declared.aggregation.Spacing.{Spacing}
use Rattle.agg_model.specs.declared.aggregation.Kind.{Kind}
use Rattle.agg_model.specs.declared.aggregation.CompositeSource.{CompositeSource}
use Rattle.agg_model.specs.Options.{Options, TermsOptions, HistogramOptions, options_of}
use Rattle.agg_model.specs.declared.aggregation.Agg.{Agg}
use Rattle.agg_model.specs.declared.aggregation.Agg.TheOpen.{Agg-F}
use Rattle.list_laws.specs.Sorting.{sorted}
use Rattle.agg_evaluation.specs.Folds.{fold_agg}
use Rattle.agg_evaluation.specs.Orders.{bucket_cmp, bucket_key, bucket_count, composite_cmp}
use Rattle.agg_evaluation.specs.Whole.{Parts, parts, shape_of, whole_by}
use Rattle.agg_evaluation.specs.Trees.{is_ascending, have_children}
use Rattle.agg_evaluation.specs.CompositeKeys.{is_composite_of}
use Rattle.agg_evaluation.specs.Finishable.{is_histogram_key}
use Rattle.agg_spec.specs.CountErrors.{precision_of, count_error}
use Rattle.agg_spec.specs.Filling.{frequent, filled_keys, bucket_at}
use Rattle.agg_spec.specs.Final.{Finisher, finish_bucket, buckets_answer, metric_answer, no_metric, empty_bucket}
use Rattle.final_reduce.specs.Steps.{key_numbers}

-- the terms with enough documents, in order
abbrev pub ordered_terms : List Kind → ℕ → List Order → List Bucket → List Bucket
ordered_terms kinds min_doc_count order buckets = sorted (bucket_cmp kinds order) (frequent min_doc_count buckets)

-- How an answer takes the buckets of a kind: the first terms in an order, those of a histogram, the first composite keys, all that
-- are there from the start, or none beside a number.
pub data Form : Type 0 where
  ranked : TermsOptions → Form
  spaced : HistogramOptions → Form
  paged : List CompositeSource → ℕ → Form
  as_it_is : Form
  metric_alone : Form

abbrev pub form_of : Kind → Form
form_of k = elim (options_of k) [
  | Options.Terms t ↦ ranked t
  | Options.Histogram h ↦ spaced h
  | Options.Composite sources size after ↦ paged sources size
  | Options.Filters names filters other ↦ as_it_is
  | Options.Filter query ↦ as_it_is
  | Options.Missing field ↦ as_it_is
  | Options.Global ↦ as_it_is
  | Options.Nested context ↦ as_it_is
  | Options.ReverseNested context ↦ as_it_is
  | Options.Metric m ↦ metric_alone
]

-- the buckets that are returned, but for those that fill gaps
abbrev pub returned_at : List Kind → Form → List Bucket → List Bucket
returned_at kinds (ranked t) bs = take t.size (ordered_terms kinds t.min_doc_count t.order bs)
returned_at kinds (spaced h) bs = frequent h.min_doc_count bs
returned_at kinds (paged sources size) bs = take size (sorted (λ a b. composite_cmp sources (bucket_key a) (bucket_key b)) bs)
returned_at kinds as_it_is bs = bs
returned_at kinds metric_alone bs = bs

-- the number of documents of the terms that are left out
abbrev pub beyond_at : List Kind → Form → List Bucket → ℕ
beyond_at kinds (ranked t) bs = sum_by bucket_count (drop t.size (ordered_terms kinds t.min_doc_count t.order bs))
beyond_at kinds (spaced h) bs = 0
beyond_at kinds (paged sources size) bs = 0
beyond_at kinds as_it_is bs = 0
beyond_at kinds metric_alone bs = 0

-- what the choice asks of the buckets: the counts of terms are a number together, and composite keys have a part for each source
abbrev pub can_return : Form → List Bucket → Bool
can_return (ranked t) bs = nat_lt (sum_by bucket_count bs) (2 ^ 64)
can_return (spaced h) bs = true
can_return (paged sources size) bs = list_all (λ b. is_composite_of (length sources) (bucket_key b)) bs
can_return as_it_is bs = true
can_return metric_alone bs = true

-- an aggregation's kind, and what stands of its node
pub record Cutter : Type 0 where
  pub kind : Kind
  pub cut : Node → Node

abbrev pub cut_nodes : List Cutter → List Node → List Node
cut_nodes [] nodes = []
cut_nodes (c ∷ cs) [] = []
cut_nodes (c ∷ cs) (n ∷ ns) = c.cut n ∷ cut_nodes cs ns

-- a bucket with what stands below it
abbrev pub cut_bucket : List Cutter → Bucket → Bucket
cut_bucket children b = record { key = b.key; count = b.count; covered = b.covered; children = cut_nodes children b.children }

-- buckets of keys that rows have: the terms that are left out count as those that the shards cut
abbrev pub cut_keyed : List Cutter → Form → Parts → Node
cut_keyed children form p =
    let kinds = map (λ c. c.kind) children in
    Keyed (map (cut_bucket children) (returned_at kinds form p.buckets)) p.error p.full (p.cut + beyond_at kinds form p.buckets)

-- what stands of a node
abbrev pub cut_at : List Cutter → Form → Node → Node
cut_at children (ranked t) n = cut_keyed children (ranked t) (parts n)
cut_at children (spaced h) n = cut_keyed children (spaced h) (parts n)
cut_at children (paged sources size) n = cut_keyed children (paged sources size) (parts n)
cut_at children as_it_is n = Fixed (map (cut_bucket children) (parts n).buckets)
cut_at children metric_alone n = n

abbrev pub cutter_of : Agg-F Cutter → Cutter
cutter_of a = record { kind = a.kind; cut = cut_at a.children (form_of a.kind) }

abbrev pub cutter : Agg → Cutter
cutter = fold_agg cutter_of

-- the answer of terms that stand, with their errors
abbrev pub terms_built : List ℕ → List Finisher → List Order → Parts → NodeAnswer
terms_built name children order p =
    let error_of = λ (covered : ℕ). count_error (precision_of order) p.error covered p.full in
    roll-NodeAnswer (record {
      name = name;
      buckets = map (λ b. finish_bucket children (Some (error_of b.covered)) b) p.buckets;
      error = error_of 0;
      other = p.cut;
      metric = no_metric;
    })

-- with a minimum of 0 the gaps between the buckets are filled
abbrev pub with_gaps : (Key → Bucket) → Spacing → ℕ → Bounds → Bounds → List Bucket → List Bucket
with_gaps empty spacing min_doc_count extended hard buckets =
    if min_doc_count == 0 then map (bucket_at empty buckets) (filled_keys spacing extended hard (key_numbers buckets)) else buckets

-- the answer of buckets as they stand
abbrev pub plain_answer : List ℕ → List Finisher → List Bucket → NodeAnswer
plain_answer name children buckets = buckets_answer name (map (finish_bucket children None) buckets)

-- the answer of a histogram: its gaps are filled, and then its buckets are sorted
abbrev pub spaced_built : List ℕ → List Finisher → Spacing → ℕ → Bounds → Bounds → List Order → List Bucket → NodeAnswer
spaced_built name children spacing min_doc_count extended hard order buckets =
    plain_answer name children (sorted (bucket_cmp (map (λ c. c.kind) children) order)
    (with_gaps (empty_bucket children) spacing min_doc_count extended hard buckets))

-- the answer that is made of what stands: no bucket is left out any more
abbrev pub built_at : List ℕ → List Finisher → Form → Parts → NodeAnswer
built_at name children (ranked t) p = terms_built name children t.order p
built_at name children (spaced h) p = spaced_built name children h.spacing h.min_doc_count h.extended h.hard h.order p.buckets
built_at name children (paged sources size) p = plain_answer name children p.buckets
built_at name children as_it_is p = plain_answer name children p.buckets
built_at name children metric_alone p = metric_answer name p.metrics

abbrev pub builder_of : Agg-F Finisher → Finisher
builder_of a = record {
  kind = a.kind;
  whole = whole_by (map (λ c. c.whole) a.children) a.kind (shape_of a.kind);
  finish = λ n. built_at a.name a.children (form_of a.kind) (parts n);
}

abbrev pub builder : Agg → Finisher
builder = fold_agg builder_of

-- what stands has errors that are signed numbers, and the keys of histograms in order; beside a number there is no bucket
abbrev pub stands_at : Form → Parts → Bool
stands_at (ranked t) p = nat_lt p.error (2 ^ 63)
stands_at (spaced h) p = list_all (λ b. is_histogram_key h.spacing h.hard (bucket_key b)) p.buckets && is_ascending (map bucket_key p.buckets)
stands_at (paged sources size) p = true
stands_at as_it_is p = true
stands_at metric_alone p = length p.buckets == 0

-- the tests are those of the children
abbrev pub is_standing_at : List (Node → Bool) → Form → Node → Bool
is_standing_at tests form n = have_children tests (parts n).buckets && stands_at form (parts n)

-- whether an answer can be made of a node
abbrev pub is_standing : Agg → Node → Bool
is_standing = fold_agg (λ a n. is_standing_at a.children (form_of a.kind) n)
