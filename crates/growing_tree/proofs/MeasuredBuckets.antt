-- Buckets below which there are metrics alone: one of them changes, and one more comes behind the others.
use Rattle.std.specs.Prelude.{◌≡◌, ◌≢◌, refl, ℕ, ℤ, zero, suc, ◌+◌, ◌<◌, ◌≤◌, List, [], ◌∷◌, ◌++◌, length, map, take, slice_get, Some, sum_by, IsTrue}
use Rattle.std.specs.Global.{Vec}
use Rattle.std.specs.List.{list_all}
use Rattle.std.proofs.Common.{sym, ◌∙◌, ap, arith, add-one, length-append}
use Rattle.std.proofs.Math.ListN.{set, get_or}
use Rattle.std.proofs.Math.Seq.{get_or-append_seam, set-append_seam}
use Rattle.std.proofs.lemmas.Bool.{false≢true}
use Rattle.std.proofs.lemmas.List.Sums.{sum_by-cons}
use Rattle.list_laws.proofs.Booleans.{and_left, and_right, holds, true_is}
use Rattle.list_laws.proofs.Options.{none_some, some_same}
use Rattle.agg_model.specs.declared.aggregation.Agg.{Agg, out-Agg}
use Rattle.agg_model.specs.declared.aggregation.Kind.{Kind}
use Rattle.agg_model.specs.declared.aggregation.Kind.TheVariants as kind
use Rattle.agg_model.specs.declared.key.Key.{Key}
use Rattle.agg_model.specs.declared.key.Key.TheVariants as key
use Rattle.agg_model.specs.declared.partial.Metric.{Metric}
use Rattle.agg_model.specs.declared.partial.Node.{Node}
use Rattle.agg_model.specs.declared.partial.Node.TheVariants as node
use Rattle.agg_evaluation.specs.Cost.{node_cost}
use Rattle.agg_evaluation.specs.Rows.{PlacedRow}
use Rattle.agg_evaluation.specs.Shard.{fixed_keys}
use Rattle.agg_evaluation.specs.Whole.{empty_by, empty_node, shape_of}
use Rattle.evaluation_laws.proofs.CostLaws.{cost-Number}
use Rattle.growth_laws.specs.Gathering.{gathered_children}
use Rattle.growth_laws.specs.Growth.{metric_with}
use Rattle.shard_columns.specs.Columns.{Columns}
use Rattle.growing_tree.specs.Decoded.{decoded, decoded_children}
use Rattle.growing_tree.specs.Gathered.{decoders, gatherers, key_at, shown_measured}
use Rattle.growing_tree.specs.Measures.{Measure, measures_from, metrics_with, no_values}
use Rattle.growing_tree.specs.Readiness.{is_metric}
use Rattle.growing_tree.specs.Shown.{metric_buckets}
use Rattle.growing_tree.specs.Trees.{coded_buckets, measured_buckets}
use Rattle.growing_tree.specs.declared.ready.Ready.{Ready, out-Ready}
use Rattle.growing_tree.specs.declared.tree.Growing.{Growing}
use Rattle.growing_tree.specs.declared.tree.Level.TheVariants.{Number}
use Rattle.growing_tree.proofs.Counting.{handed-values}
use Rattle.growing_tree.proofs.Empties.{empty-level}
use Rattle.growing_tree.proofs.Levels.{counted-number, decoded-is, gathered-is}
use Rattle.growing_tree.proofs.Putting.{Gathers}

abbrev pub measure : ℕ → List Metric → Measure
measure n ms = record { count = n; metrics = ms }

pub length-measures : (at : ℕ → List Metric) (q : ℕ) (ns : List ℕ) → length (measures_from at q ns) ≡ length ns
length-measures at q [] = refl
length-measures at q (n ∷ ns) = ap suc (length-measures at (suc q) ns)

-- the bucket at a place
pub measure-at : (at : ℕ → List Metric) (q : ℕ) (ns : List ℕ) (p : ℕ) (d : Measure) → p < length ns → get_or (measures_from at q ns) p d ≡ measure (get_or ns p 0) (at (q + p))
measure-at at q [] p d l = absurd (omega arith)
measure-at at q (n ∷ ns) zero d l = let here : q ≡ q + zero = omega arith in ap (λ k. measure n (at k)) here
measure-at at q (n ∷ ns) (suc p) d l =
    let next : suc q + p ≡ q + suc p = omega arith in
    measure-at at (suc q) ns p d (omega arith) ∙ ap (λ k. measure (get_or ns p 0) (at k)) next

-- buckets whose metrics are the same from a place on
pub measures-same : (at more : ℕ → List Metric) (q : ℕ) (ns : List ℕ) → ((n : ℕ) → q ≤ n → more n ≡ at n) → measures_from more q ns ≡ measures_from at q ns
measures-same at more q [] same = refl
measures-same at more q (n ∷ ns) same = λ i. measure n (same q (omega arith) i) ∷ measures-same at more (suc q) ns (λ k l. same k (omega (arith, l))) i

-- the bucket at a place changes
pub measures-set : (at more : ℕ → List Metric) (q : ℕ) (ns : List ℕ) (p n : ℕ) → p < length ns → ((k : ℕ) → k ≢ q + p → more k ≡ at k)
    → measures_from more q (set ns p n) ≡ set (measures_from at q ns) p (measure n (more (q + p)))
measures-set at more q [] p n l others = absurd (omega arith)
measures-set at more q (m ∷ ns) zero n l others =
    let here : q ≡ q + zero = omega arith in
    λ i. measure n (more (here i)) ∷ measures-same at more (suc q) ns (λ k l. others k (λ e. absurd (omega (arith, e, l)))) i
measures-set at more q (m ∷ ns) (suc p) n l others =
    let next : suc q + p ≡ q + suc p = omega arith in
    let rest = measures-set at more (suc q) ns p n (omega arith) (λ k other. others k (λ e. other (omega (arith, e)))) ∙ ap (λ k. set (measures_from at (suc q) ns) p (measure n (more k))) next in
    λ i. measure m (others q (λ e. absurd (omega (arith, e))) i) ∷ rest i

-- one more bucket
pub measures-push : (at : ℕ → List Metric) (q : ℕ) (ns : List ℕ) (n : ℕ) → measures_from at q (ns ++ n ∷ []) ≡ measures_from at q ns ++ measure n (at (q + length ns)) ∷ []
measures-push at q [] n = let here : q ≡ q + zero = omega arith in ap (λ k. measure n (at k) ∷ []) here
measures-push at q (m ∷ ns) n =
    let next : suc q + length ns ≡ q + suc (length ns) = omega arith in
    ap (λ ms. measure m (at q) ∷ ms) (measures-push at (suc q) ns n ∙ ap (λ k. measures_from at (suc q) ns ++ measure n (at k) ∷ []) next)

nothing-more : (p : ℕ) → p ≡ 0 + p
nothing-more p = omega arith

module _ (at : ℕ → List Metric) (ns : List ℕ) where
  -- the bucket at a place, of all
  pub bucket-at : (p : ℕ) (d : Measure) → p < length ns → get_or (measures_from at 0 ns) p d ≡ measure (get_or ns p 0) (at p)
  bucket-at p d l = measure-at at 0 ns p d l ∙ ap (λ k. measure (get_or ns p 0) (at k)) (sym (nothing-more p))

  -- the bucket at a place has other rows
  pub bucket-set : (more : ℕ → List Metric) (p n : ℕ) → p < length ns → ((k : ℕ) → k ≢ p → more k ≡ at k)
      → measures_from more 0 (set ns p n) ≡ set (measures_from at 0 ns) p (measure n (more p))
  bucket-set more p n l others =
      measures-set at more 0 ns p n l (λ k other. others k (λ e. other (e ∙ nothing-more p)))
      ∙ ap (λ k. set (measures_from at 0 ns) p (measure n (more k))) (sym (nothing-more p))

  pub bucket-push : (n p : ℕ) → p ≡ length ns → measures_from at 0 (ns ++ n ∷ []) ≡ measures_from at 0 ns ++ measure n (at p) ∷ []
  bucket-push n p end = measures-push at 0 ns n ∙ ap (λ k. measures_from at 0 ns ++ measure n (at k) ∷ []) (sym (nothing-more (length ns)) ∙ sym end)

-- a bucket behind the others, with its first row
pub bucket-begun : (at begun more : ℕ → List Metric) (ns : List ℕ) (p : ℕ) → p ≡ length ns → ((n : ℕ) → begun n ≡ at n) → ((k : ℕ) → k ≢ p → more k ≡ begun k)
    → measures_from more 0 (set (ns ++ 0 ∷ []) p (get_or (ns ++ 0 ∷ []) p 0 + 1)) ≡ measures_from at 0 ns ++ measure 1 (more p) ∷ []
bucket-begun at begun more ns p end same others =
    let long : length (ns ++ 0 ∷ []) ≡ length ns + 1 = length-append ns (0 ∷ []) in
    let one : get_or (ns ++ 0 ∷ []) p 0 + 1 ≡ 1 = ap (λ k. get_or (ns ++ 0 ∷ []) k 0 + 1) end ∙ ap (λ k. k + 1) (get_or-append_seam ns 0 [] 0) in
    let here : p ≡ length (measures_from at 0 ns) = end ∙ sym (length-measures at 0 ns) in
    ap (λ k. measures_from more 0 (set (ns ++ 0 ∷ []) p k)) one
    ∙ bucket-set begun (ns ++ 0 ∷ []) more p 1 (omega (arith, long, end)) others
    ∙ ap (λ ms. set ms p (measure 1 (more p))) (measures-same at begun 0 (ns ++ 0 ∷ []) (λ n l. same n) ∙ bucket-push at ns 0 p end)
    ∙ ap (λ k. set (measures_from at 0 ns ++ measure 0 (at p) ∷ []) k (measure 1 (more p))) here
    ∙ set-append_seam (measures_from at 0 ns) (measure 0 (at p)) [] (measure 1 (more p))

-- the next metric takes the values of the row
pub next-metric : (aggs : List Agg) (row : PlacedRow) (ms : List Metric) (i : ℕ) (a : Agg) (m : Metric) → slice_get aggs i ≡ Some a → slice_get (metrics_with (take i aggs) row ms) i ≡ Some m
    → metrics_with (take (i + 1) aggs) row ms ≡ set (metrics_with (take i aggs) row ms) i (metric_with (out-Agg a).kind row m)
next-metric aggs row ms i a m e f = ap (λ k. metrics_with (take k aggs) row ms) (add-one i) ∙ next aggs ms i e f
  where
    next : (aggs : List Agg) (ms : List Metric) (i : ℕ) → slice_get aggs i ≡ Some a → slice_get (metrics_with (take i aggs) row ms) i ≡ Some m → metrics_with (take (suc i) aggs) row ms ≡ set (metrics_with (take i aggs) row ms) i (metric_with (out-Agg a).kind row m)
    next [] ms zero e f = none_some a e
    next [] ms (suc i) e f = none_some a e
    next (b ∷ aggs) [] zero e f = none_some m f
    next (b ∷ aggs) [] (suc i) e f = none_some m f
    next (b ∷ aggs) (n ∷ ms) zero e f = λ j. metric_with (out-Agg (some_same b a e j)).kind row (some_same n m f j) ∷ ms
    next (b ∷ aggs) (n ∷ ms) (suc i) e f = ap (λ xs. metric_with (out-Agg b).kind row n ∷ xs) (next aggs ms i e f)

-- metrics of no values stand for the empty trees of the aggregations
shape-metric : (k : Kind) (children : List Node) (fixed : List Key) → IsTrue (is_metric k) → empty_by children fixed (shape_of k) ≡ node.Number no_values
shape-metric (kind.Sum field missing) children fixed h = refl
shape-metric (kind.Min field missing) children fixed h = refl
shape-metric (kind.Max field missing) children fixed h = refl
shape-metric (kind.Avg field missing) children fixed h = refl
shape-metric (kind.ValueCount field missing) children fixed h = refl
shape-metric _ children fixed h = absurd (false≢true h)

-- each metric stands for itself
decoded-metrics : (shard : Columns) (rs : List Ready) (ms : List Metric) → decoded_children (map (decoded shard) rs) (map node.Number ms) ≡ map node.Number ms
decoded-metrics shard [] ms = refl
decoded-metrics shard (r ∷ rs) [] = refl
decoded-metrics shard (r ∷ rs) (m ∷ ms) = λ i. decoded-is shard r (Number m) i ∷ decoded-metrics shard rs ms i

-- and takes the values of a row
gathered-metrics : (shard : Columns) (aggs : List Agg) (row : PlacedRow) (ms : List Metric) → IsTrue (list_all (λ a. is_metric (out-Agg a).kind) aggs)
    → gathered_children (gatherers shard aggs) (row ∷ []) (map node.Number ms) ≡ map node.Number (metrics_with aggs row ms)
gathered-metrics shard [] row ms h = refl
gathered-metrics shard (a ∷ aggs) row [] h = refl
gathered-metrics shard (a ∷ aggs) row (m ∷ ms) h =
    let here = gathered-is shard.rows a (row ∷ []) (row ∷ []) (node.Number m) (handed-values shard.rows (out-Agg a).kind (row ∷ []) (true_is _ (and_left _ _ (holds _ h)))) ∙ counted-number shard.rows a (row ∷ []) m in
    λ i. here i ∷ gathered-metrics shard aggs row ms (true_is _ (and_right _ _ (holds _ h))) i

no-metrics : (aggs : List Agg) (columns : List (Vec Metric)) → length columns ≡ length aggs → IsTrue (list_all (λ a. is_metric (out-Agg a).kind) aggs)
    → map node.Number (map (λ column. no_values) columns) ≡ map empty_node aggs
no-metrics [] [] l h = refl
no-metrics [] (column ∷ columns) l h = absurd (omega arith)
no-metrics (a ∷ aggs) [] l h = absurd (omega arith)
no-metrics (a ∷ aggs) (column ∷ columns) l h =
    let here = sym (empty-level a (out-Agg a).kind refl ∙ shape-metric (out-Agg a).kind (map empty_node (out-Agg a).children) (fixed_keys (out-Agg a).kind) (true_is _ (and_left _ _ (holds _ h)))) in
    λ i. here i ∷ no-metrics aggs columns (omega arith) (true_is _ (and_right _ _ (holds _ h))) i

-- they cost what they did
metrics-cost : (aggs : List Agg) (row : PlacedRow) (ms : List Metric) → sum_by node_cost (map node.Number (metrics_with aggs row ms)) ≡ sum_by node_cost (map node.Number ms)
metrics-cost [] row ms = refl
metrics-cost (a ∷ aggs) row [] = refl
metrics-cost (a ∷ aggs) row (m ∷ ms) =
    let n = metric_with (out-Agg a).kind row m in
    let before = sum_by-cons node_cost (node.Number m) (map node.Number ms) in
    let after = sum_by-cons node_cost (node.Number n) (map node.Number (metrics_with aggs row ms)) in
    let old = cost-Number m in
    let new = cost-Number n in
    let rest = metrics-cost aggs row ms in
    omega arith

abbrev pub count_of : Measure → ℕ
count_of m = m.count

abbrev pub children_of : Measure → List Node
children_of m = map node.Number m.metrics

module _ (shard : Columns) (aggs : List Agg) (rs : List Ready) (key_of : ℤ → Key) (row : PlacedRow) (metrics : IsTrue (list_all (λ a. is_metric (out-Agg a).kind) aggs)) (n : ℕ) (before after : List Metric) (taken : after ≡ metrics_with aggs row before) where
  -- a bucket with one more row
  pub measured-gathers : Gathers count_of children_of (gatherers shard aggs) (row ∷ []) (decoders shard rs) key_of (measure n before) (measure (n + 1) after)
  measured-gathers = record {
    count = refl;
    children =
        decoded-metrics shard rs after ∙ ap (map node.Number) taken
        ∙ sym (ap (gathered_children (gatherers shard aggs) (row ∷ [])) (decoded-metrics shard rs before) ∙ gathered-metrics shard aggs row before metrics);
  }

  pub measured-cost : sum_by node_cost (decoded_children (decoders shard rs) (map node.Number after)) ≡ sum_by node_cost (decoded_children (decoders shard rs) (map node.Number before)) + 0
  measured-cost =
      let old = ap (sum_by node_cost) (decoded-metrics shard rs before) in
      let new = ap (sum_by node_cost) (decoded-metrics shard rs after ∙ ap (map node.Number) taken) in
      let same = metrics-cost aggs row before in
      omega arith

-- a bucket without rows
pub measured-empty : (shard : Columns) (aggs : List Agg) (rs : List Ready) (columns : List (Vec Metric)) → length columns ≡ length aggs → IsTrue (list_all (λ a. is_metric (out-Agg a).kind) aggs)
    → decoded_children (decoders shard rs) (map node.Number (map (λ column. no_values) columns)) ≡ map empty_node aggs
measured-empty shard aggs rs columns l h = decoded-metrics shard rs (map (λ column. no_values) columns) ∙ no-metrics aggs columns l h

-- an item of a list
pub some-item : {A : Type 0} (xs : List A) (i : ℕ) → i < length xs → (x : A) × (slice_get xs i ≡ Some x)
some-item [] i l = absurd (omega arith)
some-item (x ∷ xs) zero l = (x, refl)
some-item (x ∷ xs) (suc i) l = some-item xs i (omega arith)

-- what is read for want of an item, behind the others
pub read-behind : {A : Type 0} (xs : List A) (n : ℕ) (d : A) → get_or (xs ++ d ∷ []) n d ≡ get_or xs n d
read-behind [] zero d = refl
read-behind [] (suc n) d = refl
read-behind (x ∷ xs) zero d = refl
read-behind (x ∷ xs) (suc n) d = read-behind xs n d

-- how many rows a bucket has, and what its children are
abbrev pub seen_growing : Growing → ℕ × List Node
seen_growing g = (g.count, g.children.items)

abbrev pub seen_measure : Measure → ℕ × List Node
seen_measure m = (m.count, children_of m)

-- buckets that have the same rows and children are the same buckets of the codes
pub coded-seen : (codes : List ℤ) (gs : List Growing) (ms : List Measure) → map seen_growing gs ≡ map seen_measure ms → coded_buckets codes gs ≡ measured_buckets codes ms
coded-seen [] gs ms same = refl
coded-seen (code ∷ codes) [] [] same = refl
coded-seen (code ∷ codes) [] (m ∷ ms) same = absurd (cc same)
coded-seen (code ∷ codes) (g ∷ gs) [] same = absurd (cc same)
coded-seen (code ∷ codes) (g ∷ gs) (m ∷ ms) same =
    let first : seen_growing g ≡ seen_measure m = cc same in
    let rest : map seen_growing gs ≡ map seen_measure ms = cc same in
    λ i. record { key = key.Whole code; count = (first i).0; covered = 0; children = (first i).1 } ∷ coded-seen codes gs ms rest i

-- what callers see is told by the counts, and by what the metrics have taken at each place
pub shown-same : (shard : Columns) (r : Ready) (codes : List ℤ) (ns more : List ℕ) (at now : ℕ → List Metric) → more ≡ ns → ((n : ℕ) → now n ≡ at n) → shown_measured shard r codes more now ≡ shown_measured shard r codes ns at
shown-same shard r codes ns more at now counts same =
    ap (λ ms. metric_buckets (decoders shard (out-Ready r).children) (key_at shard r) codes ms) (ap (measures_from now 0) counts ∙ measures-same at now 0 ns (λ n l. same n))
