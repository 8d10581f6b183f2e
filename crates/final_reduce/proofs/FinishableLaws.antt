-- A node that can be finished, opened by one level.
use Rattle.std.specs.Prelude.{◌≡◌, refl, ℕ, ◌+◌, ◌<◌, ◌^◌, nat_lt, nat_le, Bool, true, ◌&&◌, List, [], ◌∷◌, map, sum_by, Option}
use Rattle.std.proofs.Common.{sym, ◌∙◌, ap, ◌⊎◌, inl, inr, arith}
use Rattle.std.proofs.lemmas.Bool.{and_parts, false≢true, ltb-true, lt-ltb}
use Rattle.std.proofs.lemmas.List.Sums.{sum_by-take-drop}
use Rattle.agg_model.specs.declared.row.Scalar.{Scalar}
use Rattle.agg_model.specs.declared.query.Query.{Query}
use Rattle.agg_model.specs.declared.partial.Metric.{Metric}
use Rattle.agg_model.specs.declared.aggregation.CompositeSource.{CompositeSource}
use Rattle.agg_model.specs.declared.aggregation.Kind.{Kind}
use Rattle.agg_model.specs.declared.aggregation.Kind.TheVariants as kind
use Rattle.agg_evaluation.specs.Orders.{bucket_cmp, bucket_key, bucket_count, composite_cmp}
use Rattle.agg_model.specs.declared.key.Key.{Key}
use Rattle.agg_model.specs.declared.partial.Bucket.{Bucket}
use Rattle.agg_model.specs.declared.partial.Node.{Node, out-Node}
use Rattle.agg_model.specs.declared.partial.Node.TheOpen.{Node-F}
use Rattle.agg_model.specs.declared.partial.Node.TheVariants.{Keyed, Fixed}
use Rattle.agg_model.specs.declared.aggregation.Agg.{Agg, out-Agg}
use Rattle.agg_model.specs.declared.aggregation.Agg.TheOpen.{Agg-F}
use Rattle.agg_evaluation.specs.Shard.{fixed_keys}
use Rattle.agg_evaluation.specs.Trees.{is_ascending, is_tree_at, have_children, pass_each}
use Rattle.agg_evaluation.specs.Whole.{Shape, by_key, from_start, a_number, shape_of, Parts, parts, parts_at}
use Rattle.agg_spec.specs.Final.{Finisher, metric_answer}
use Rattle.agg_spec.specs.Filling.{frequent}
use Rattle.bucket_order.specs.Kinds.{child_kinds, kind_of}
use Rattle.agg_evaluation.specs.Finishable.{is_finishable, is_finishable_at, fits_at, terms_fit, has_histogram_keys}
use Rattle.agg_evaluation.specs.Conditions.{has_interval, has_intervals}
use Rattle.final_reduce.specs.Standing.{Cutter, Form, ranked, spaced, paged, beyond_at, builder, builder_of, built_at, can_return, cut_at, cut_bucket, cut_keyed, cutter, cutter_of, form_of, is_standing, is_standing_at, ordered_terms, plain_answer, returned_at, stands_at}
use Rattle.list_laws.proofs.Each.{sum_by-sorted}
use Rattle.final_reduce.proofs.SelectLaws.{list_all-map, list_all-take, list_all-filter}
use Rattle.bucket_order.proofs.SameOrder.{list_all-sorted}
use Rattle.list_laws.proofs.Sums.{sum_by-filter}
use Rattle.std.specs.List.{list_all}
use Rattle.agg_evaluation.proofs.AggFolds.{fold_agg-level}
use Rattle.agg_evaluation.proofs.NodeForms.{out-Keyed, out-Fixed}

pub children_pass : (tests : List (Node → Bool)) (fixed : List Key) (shape : Shape) (n : Node-F Node Bucket) → is_tree_at tests fixed shape n ≡ true → have_children tests (parts_at n).buckets ≡ true
children_pass tests fixed by_key (Node-F.Keyed buckets error full cut) h = (and_parts _ _ h).1
children_pass tests fixed by_key (Node-F.Fixed buckets) h = absurd (false≢true h)
children_pass tests fixed by_key (Node-F.Number m) h = absurd (false≢true h)
children_pass tests fixed from_start (Node-F.Keyed buckets error full cut) h = absurd (false≢true h)
children_pass tests fixed from_start (Node-F.Fixed buckets) h = (and_parts _ _ h).1
children_pass tests fixed from_start (Node-F.Number m) h = absurd (false≢true h)
children_pass tests fixed a_number (Node-F.Keyed buckets error full cut) h = absurd (false≢true h)
children_pass tests fixed a_number (Node-F.Fixed buckets) h = absurd (false≢true h)
children_pass tests fixed a_number (Node-F.Number m) h = refl

pub ascending_of : (tests : List (Node → Bool)) (fixed : List Key) (n : Node-F Node Bucket) → is_tree_at tests fixed by_key n ≡ true → is_ascending (map bucket_key (parts_at n).buckets) ≡ true
ascending_of tests fixed (Node-F.Keyed buckets error full cut) h = (and_parts _ _ h).0
ascending_of tests fixed (Node-F.Fixed buckets) h = absurd (false≢true h)
ascending_of tests fixed (Node-F.Number m) h = absurd (false≢true h)

pub no_buckets : (tests : List (Node → Bool)) (fixed : List Key) (n : Node-F Node Bucket) → is_tree_at tests fixed a_number n ≡ true → (parts_at n).buckets ≡ []
no_buckets tests fixed (Node-F.Keyed buckets error full cut) h = absurd (false≢true h)
no_buckets tests fixed (Node-F.Fixed buckets) h = absurd (false≢true h)
no_buckets tests fixed (Node-F.Number m) h = refl

pub is_finishable-level : (a : Agg) (n : Node) → is_finishable a n ≡ is_finishable_at (map is_finishable (out-Agg a).children) (out-Agg a).kind n
is_finishable-level a n = ap (λ (test : Node → Bool). test n) (fold_agg-level (λ (b : Agg-F (Node → Bool)) (m : Node). is_finishable_at b.children b.kind m) a)

pub opened : (a : Agg) (n : Node) → is_finishable a n ≡ true → (have_children (map is_finishable (out-Agg a).children) (parts n).buckets ≡ true) × (fits_at (out-Agg a).kind (parts n) ≡ true)
opened a n h =
    let both = and_parts _ _ (sym (is_finishable-level a n) ∙ h) in
    (children_pass (map is_finishable (out-Agg a).children) (fixed_keys (out-Agg a).kind) (shape_of (out-Agg a).kind) (out-Node n) both.0, both.1)

pub counts_fit : (p : Parts) → terms_fit p ≡ true → (p.cut + sum_by bucket_count p.buckets < 2 ^ 64) × (p.error < 2 ^ 63)
counts_fit p h =
    let both = and_parts (nat_lt (p.cut + sum_by bucket_count p.buckets) (2 ^ 64)) _ h in
    (ltb-true _ _ both.0, ltb-true _ _ (and_parts (nat_lt p.error (2 ^ 63)) _ both.1).0)

-- what the choice of buckets asks
pub can_return-of : (k : Kind) (p : Parts) → fits_at k p ≡ true → can_return (form_of k) p.buckets ≡ true
can_return-of (kind.Terms a b c d o i e m s) p h = let fit = counts_fit p h in lt-ltb (sum_by bucket_count p.buckets) (2 ^ 64) (omega (arith, fit.0))
can_return-of (kind.Composite s n a) p h = h
can_return-of _ p h = refl

-- what the shards cut and the terms that are left out are a number together
pub other-fits : (kinds : List Kind) (k : Kind) (p : Parts) → fits_at k p ≡ true → p.cut < 2 ^ 64 → p.cut + beyond_at kinds (form_of k) p.buckets < 2 ^ 64
other-fits kinds (kind.Terms f size ss m order i x ms sh) p h low =
    let fit = counts_fit p h in
    let terms = ordered_terms kinds m order p.buckets in
    omega (
      arith,
      fit.0,
      sum_by-take-drop bucket_count terms size,
      sum_by-sorted (bucket_cmp kinds order) bucket_count (frequent m p.buckets),
      sum_by-filter bucket_count (λ b. nat_le m (bucket_count b)) p.buckets,
    )
other-fits kinds _ p h low = omega arith

-- a level of what stands
pub cutter-level : (a : Agg) (n : Node) → (cutter a).cut n ≡ cut_at (map cutter (out-Agg a).children) (form_of (out-Agg a).kind) n
cutter-level a n = ap (λ (c : Cutter). c.cut n) (fold_agg-level cutter_of a)

cutter-kind : (a : Agg) → (cutter a).kind ≡ kind_of a
cutter-kind a = ap (λ (c : Cutter). c.kind) (fold_agg-level cutter_of a)

pub kinds_of_cutters : (aggs : List Agg) → map (λ (c : Cutter). c.kind) (map cutter aggs) ≡ child_kinds aggs
kinds_of_cutters [] = refl
kinds_of_cutters (a ∷ rest) = λ i. cutter-kind a i ∷ kinds_of_cutters rest i

-- and of the answer that is made of it
pub builder-level : (a : Agg) (n : Node) → (builder a).finish n ≡ built_at (out-Agg a).name (map builder (out-Agg a).children) (form_of (out-Agg a).kind) (parts n)
builder-level a n = ap (λ (f : Finisher). f.finish n) (fold_agg-level builder_of a)

builder-kind : (a : Agg) → (builder a).kind ≡ kind_of a
builder-kind a = ap (λ (f : Finisher). f.kind) (fold_agg-level builder_of a)

pub kinds_of_builders : (aggs : List Agg) → map (λ (f : Finisher). f.kind) (map builder aggs) ≡ child_kinds aggs
kinds_of_builders [] = refl
kinds_of_builders (a ∷ rest) = λ i. builder-kind a i ∷ kinds_of_builders rest i

is_standing-level : (a : Agg) (n : Node) → is_standing a n ≡ is_standing_at (map is_standing (out-Agg a).children) (form_of (out-Agg a).kind) n
is_standing-level a n = ap (λ (test : Node → Bool). test n) (fold_agg-level (λ (b : Agg-F (Node → Bool)) (m : Node). is_standing_at b.children (form_of b.kind) m) a)

pub standing-opened : (a : Agg) (n : Node) → is_standing a n ≡ true → (have_children (map is_standing (out-Agg a).children) (parts n).buckets ≡ true) × (stands_at (form_of (out-Agg a).kind) (parts n) ≡ true)
standing-opened a n h = and_parts _ _ (sym (is_standing-level a n) ∙ h)

-- the keys of what stands
pub keys-stand : (k : Kind) (p : Parts) → stands_at (form_of k) p ≡ true → has_histogram_keys k p.buckets ≡ true
keys-stand (kind.Histogram a b c d x y s o m) p h = (and_parts (has_histogram_keys (kind.Histogram a b c d x y s o m) p.buckets) _ h).0
keys-stand (kind.DateHistogram a b c d x y s o m) p h = (and_parts (has_histogram_keys (kind.DateHistogram a b c d x y s o m) p.buckets) _ h).0
keys-stand _ p h = refl

-- what stands of a node with keys, of one with buckets from the start, and of a number
pub keyed-cut : (cs : List Cutter) (tests : List (Node → Bool)) (k : Kind) (n : Node) (bs : List Bucket) (error full cut : ℕ)
    → is_tree_at tests (fixed_keys k) (shape_of k) (Node-F.Keyed bs error full cut) ≡ true → cut_at cs (form_of k) n ≡ cut_keyed cs (form_of k) (parts n)
keyed-cut cs tests (kind.Terms f size ss m order i x ms sh) n bs error full cut h = refl
keyed-cut cs tests (kind.Histogram f i o m x y kd order ms) n bs error full cut h = refl
keyed-cut cs tests (kind.DateHistogram f p z m x y kd order ms) n bs error full cut h = refl
keyed-cut cs tests (kind.Composite sources size after) n bs error full cut h = refl
keyed-cut cs tests _ n bs error full cut h = absurd (false≢true h)

pub fixed-cut : (cs : List Cutter) (tests : List (Node → Bool)) (k : Kind) (n : Node) (bs : List Bucket)
    → is_tree_at tests (fixed_keys k) (shape_of k) (Node-F.Fixed bs) ≡ true → cut_at cs (form_of k) n ≡ Fixed (map (cut_bucket cs) (parts n).buckets)
fixed-cut cs tests (kind.Filters names filters other) n bs h = refl
fixed-cut cs tests (kind.Filter q) n bs h = refl
fixed-cut cs tests (kind.Missing f) n bs h = refl
fixed-cut cs tests kind.Global n bs h = refl
fixed-cut cs tests (kind.Nested c) n bs h = refl
fixed-cut cs tests (kind.ReverseNested c) n bs h = refl
fixed-cut cs tests _ n bs h = absurd (false≢true h)

pub number-cut : (cs : List Cutter) (tests : List (Node → Bool)) (k : Kind) (n : Node) (m : Metric)
    → is_tree_at tests (fixed_keys k) (shape_of k) (Node-F.Number m) ≡ true → cut_at cs (form_of k) n ≡ n
number-cut cs tests (kind.Sum f missing) n m h = refl
number-cut cs tests (kind.Min f missing) n m h = refl
number-cut cs tests (kind.Max f missing) n m h = refl
number-cut cs tests (kind.Avg f missing) n m h = refl
number-cut cs tests (kind.ValueCount f missing) n m h = refl
number-cut cs tests _ n m h = absurd (false≢true h)

pub tree-opened : (a : Agg) (n : Node) → is_finishable a n ≡ true → is_tree_at (map is_finishable (out-Agg a).children) (fixed_keys (out-Agg a).kind) (shape_of (out-Agg a).kind) (out-Node n) ≡ true
tree-opened a n h = (and_parts _ (fits_at (out-Agg a).kind (parts n)) (sym (is_finishable-level a n) ∙ h)).0

-- buckets without children, below which nothing is cut
pub leaves-stand : (bs : List Bucket) → have_children [] bs ≡ true → map (cut_bucket []) bs ≡ bs
leaves-stand [] pass = refl
leaves-stand (b ∷ bs) pass =
    let parts = and_parts (pass_each [] b.children) (have_children [] bs) pass in
    λ i. record { key = b.key; count = b.count; covered = b.covered; children = none b.children parts.0 i } ∷ leaves-stand bs parts.1 i
  where
    none : (ns : List Node) → pass_each [] ns ≡ true → [] ≡ ns
    none [] h = refl
    none (n ∷ ns) h = absurd (false≢true h)

-- a metric's kind has its number alone
pub metric_is : (name : List ℕ) (finishers : List Finisher) (p : Parts) (k : Kind)
    → (((f : ℕ) × (m : Option Scalar) × (k ≡ kind.Sum f m)) ⊎ (((f : ℕ) × (m : Option Scalar) × (k ≡ kind.Min f m)) ⊎ (((f : ℕ) × (m : Option Scalar) × (k ≡ kind.Max f m))
    ⊎ (((f : ℕ) × (m : Option Scalar) × (k ≡ kind.Avg f m)) ⊎ ((f : ℕ) × (m : Option Scalar) × (k ≡ kind.ValueCount f m))))))
    → built_at name finishers (form_of k) p ≡ metric_answer name p.metrics
metric_is name fs p k (inl w) = ap (λ j. built_at name fs (form_of j) p) w.2
metric_is name fs p k (inr (inl w)) = ap (λ j. built_at name fs (form_of j) p) w.2
metric_is name fs p k (inr (inr (inl w))) = ap (λ j. built_at name fs (form_of j) p) w.2
metric_is name fs p k (inr (inr (inr (inl w)))) = ap (λ j. built_at name fs (form_of j) p) w.2
metric_is name fs p k (inr (inr (inr (inr w)))) = ap (λ j. built_at name fs (form_of j) p) w.2

-- these kinds have the buckets that stand
pub plain_is : (name : List ℕ) (finishers : List Finisher) (p : Parts) (k : Kind)
    → (((s : List CompositeSource) × (n : ℕ) × (a : Option Key) × (k ≡ kind.Composite s n a)) ⊎ (((ns : Option (List (List ℕ))) × (qs : List Query) × (o : Option (List ℕ)) × (k ≡ kind.Filters ns qs o))
    ⊎ (((q : Query) × (k ≡ kind.Filter q)) ⊎ (((f : ℕ) × (k ≡ kind.Missing f)) ⊎ ((k ≡ kind.Global) ⊎ (((c : ℕ) × (k ≡ kind.Nested c)) ⊎ ((c : ℕ) × (k ≡ kind.ReverseNested c))))))))
    → built_at name finishers (form_of k) p ≡ plain_answer name finishers p.buckets
plain_is name fs p k (inl w) = ap (λ j. built_at name fs (form_of j) p) w.3
plain_is name fs p k (inr (inl w)) = ap (λ j. built_at name fs (form_of j) p) w.3
plain_is name fs p k (inr (inr (inl w))) = ap (λ j. built_at name fs (form_of j) p) w.1
plain_is name fs p k (inr (inr (inr (inl w)))) = ap (λ j. built_at name fs (form_of j) p) w.1
plain_is name fs p k (inr (inr (inr (inr (inl w))))) = ap (λ j. built_at name fs (form_of j) p) w
plain_is name fs p k (inr (inr (inr (inr (inr (inl w)))))) = ap (λ j. built_at name fs (form_of j) p) w.1
plain_is name fs p k (inr (inr (inr (inr (inr (inr w)))))) = ap (λ j. built_at name fs (form_of j) p) w.1

abbrev intervals : Agg-F Bool → Bool
intervals a = has_interval a.kind && list_all (λ has. has) a.children

-- the interval of an aggregation, and those below it
pub intervals-at : (a : Agg) → has_intervals a ≡ true → (has_interval (out-Agg a).kind ≡ true) × (list_all has_intervals (out-Agg a).children ≡ true)
intervals-at a h =
    let both = and_parts (has_interval (out-Agg a).kind) _ (sym (fold_agg-level intervals a) ∙ h) in
    (both.0, sym (list_all-map (λ (has : Bool). has) has_intervals (out-Agg a).children) ∙ both.1)

pub no_keys : (k : Kind) → has_histogram_keys k [] ≡ true
no_keys (kind.Histogram a b c d x y s o m) = refl
no_keys (kind.DateHistogram a b c d x y s o m) = refl
no_keys _ = refl

-- the returned buckets have children that pass where all have
pub returned-pass : (tests : List (Node → Bool)) (kinds : List Kind) (form : Form) (bs : List Bucket) → have_children tests bs ≡ true → have_children tests (returned_at kinds form bs) ≡ true
returned-pass tests kinds (ranked t) bs h =
    let passes = λ (b : Bucket). pass_each tests b.children in
    list_all-take passes t.size _ (list_all-sorted passes (bucket_cmp kinds t.order) _ (list_all-filter passes (λ b. nat_le t.min_doc_count (bucket_count b)) bs h))
returned-pass tests kinds (spaced o) bs h = list_all-filter (λ (b : Bucket). pass_each tests b.children) (λ b. nat_le o.min_doc_count (bucket_count b)) bs h
returned-pass tests kinds (paged sources size) bs h =
    let passes = λ (b : Bucket). pass_each tests b.children in
    list_all-take passes size _ (list_all-sorted passes (λ a b. composite_cmp sources (bucket_key a) (bucket_key b)) bs h)
returned-pass tests kinds _ bs h = h

-- the parts of a node that is taken apart
pub keyed-parts : (n : Node) (bs : List Bucket) (error full cut : ℕ) → n ≡ Keyed bs error full cut → parts n ≡ parts_at (Node-F.Keyed bs error full cut)
keyed-parts n bs error full cut is = ap parts is ∙ ap parts_at (out-Keyed bs error full cut)

pub fixed-parts : (n : Node) (bs : List Bucket) → n ≡ Fixed bs → parts n ≡ parts_at (Node-F.Fixed bs)
fixed-parts n bs is = ap parts is ∙ ap parts_at (out-Fixed bs)
