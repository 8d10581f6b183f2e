-- Rows that an aggregation counts come to the same one after another, where those below it take rows in two steps as at once.
use Rattle.std.specs.Prelude.{◌≡◌, refl, ◌+◌, ◌||◌, Bool, true, false, cond, T, List, [], ◌∷◌, ◌++◌, flat_map, length, map, Option, None, Some, IsTrue}
use Rattle.std.specs.FinMap.Entries.{find, is_sorted, same_entries}
use Rattle.std.specs.List.{list_all}
use Rattle.std.proofs.Common.{sym, ◌∙◌, ap, arith, length-append}
use Rattle.std.proofs.lemmas.Bool.{false≢true}
use Rattle.list_laws.proofs.Booleans.{and_left, and_right, holds, true_is}
use Rattle.list_laws.proofs.Lists.{append-nil, filter-append, flat_map-append}
use Rattle.agg_model.specs.declared.aggregation.Agg.{Agg, out-Agg}
use Rattle.agg_model.specs.declared.aggregation.Kind.{Kind}
use Rattle.agg_model.specs.declared.aggregation.Kind.TheVariants as kind
use Rattle.agg_model.specs.declared.key.Key.{Key}
use Rattle.agg_model.specs.declared.partial.Bucket.{Bucket}
use Rattle.agg_model.specs.declared.partial.Metric.{Metric}
use Rattle.agg_model.specs.declared.partial.Node.{Node, out-Node}
use Rattle.agg_model.specs.declared.partial.Node.TheOpen.{Node-F}
use Rattle.agg_model.specs.declared.partial.Node.TheVariants.{Keyed, Fixed, Number}
use Rattle.agg_evaluation.specs.Groups.{all_keys, group, under}
use Rattle.agg_evaluation.specs.KeyOrder.{has_key, key_cmp}
use Rattle.agg_evaluation.specs.Keys.{distinct_keys, keys}
use Rattle.agg_evaluation.specs.Orders.{bucket_key}
use Rattle.agg_evaluation.specs.Rows.{PlacedRow}
use Rattle.agg_evaluation.specs.Trees.{is_ascending}
use Rattle.agg_evaluation.proofs.DistinctKeys.{ascending-keys}
use Rattle.agg_evaluation.proofs.KeyCompare.{key_cmp_total}
use Rattle.agg_evaluation.proofs.KeyExact.{exact_keys}
use Rattle.agg_evaluation.proofs.KeyLists.{ascending-distinct_keys, has_key-distinct_keys}
use Rattle.agg_evaluation.proofs.NodeForms.{out-Keyed, out-Fixed, out-Number}
use Rattle.agg_evaluation.proofs.UnionLaws.{has_key-append}
use Rattle.growth_laws.specs.Gathering.{Gatherer, empty_bucket, gathered_bucket, gathered_buckets, gathered_children, gathered_metric, gathered_node, gatherer_of, put_groups}
use Rattle.growth_laws.specs.Growth.{metric_with}
use Rattle.growth_laws.proofs.InsertedKeys.{no_group}
use Rattle.growing_tree.specs.Readiness.{is_metric}
use Rattle.growing_tree.specs.Shown.{put_all}
use Rattle.growing_tree.proofs.Arriving.{entries, next, sorted-entries, buckets-entries}
use Rattle.growing_tree.proofs.Finals.{ascending-apart, groups-all, keeps_all}
use Rattle.growing_tree.proofs.Levels.{gatherer-level}
use Rattle.growing_tree.proofs.Orderings.{found-all, sorted-all}

-- more rows in two steps are the same as at once
abbrev pub TakesInSteps : Gatherer → Type 0
TakesInSteps g = (rows more : List PlacedRow) (n : Node) → g.gather (rows ++ more) n ≡ g.gather more (g.gather rows n)

abbrev pub AllTakeInSteps : List Gatherer → Type 0
AllTakeInSteps [] = Unit {0}
AllTakeInSteps (g ∷ gs) = TakesInSteps g × AllTakeInSteps gs

children-steps : (gs : List Gatherer) → AllTakeInSteps gs → (rows more : List PlacedRow) (ns : List Node) → gathered_children gs (rows ++ more) ns ≡ gathered_children gs more (gathered_children gs rows ns)
children-steps [] h rows more ns = refl
children-steps (g ∷ gs) h rows more [] = refl
children-steps (g ∷ gs) h rows more (n ∷ ns) = λ i. h.0 rows more n i ∷ children-steps gs h.1 rows more ns i

module _ (gs : List Gatherer) (h : AllTakeInSteps gs) where
  bucket-steps : (rows more : List PlacedRow) (b : Bucket) → gathered_bucket gs (rows ++ more) b ≡ gathered_bucket gs more (gathered_bucket gs rows b)
  bucket-steps rows more b = λ i. record { key = b.key; count = counts i; covered = b.covered; children = children-steps gs h rows more b.children i }
    where
      counts : b.count + length (rows ++ more) ≡ (b.count + length rows) + length more
      counts = let both = length-append rows more in omega (arith, both)

  next-steps : (q : Key) (rows more : List PlacedRow) (o : Option Bucket) → next gs (rows ++ more) q o ≡ next gs more q (Some (next gs rows q o))
  next-steps q rows more None = bucket-steps rows more (empty_bucket gs q)
  next-steps q rows more (Some b) = bucket-steps rows more b

  -- the bucket of a key that had these rows, or none, with one more row or not
  chosen : (had has : Bool) (rows : List PlacedRow) (row : PlacedRow) (q : Key) (o : Option Bucket) → (had ≡ false → rows ≡ [])
      → cond has (Some (next gs (row ∷ []) q (cond had (Some (next gs rows q o)) o))) (cond had (Some (next gs rows q o)) o)
      ≡ cond (had || has) (Some (next gs (rows ++ cond has (row ∷ []) []) q o)) o
  chosen true true rows row q o none = ap Some (sym (next-steps q rows (row ∷ []) o))
  chosen true false rows row q o none = ap (λ rs. Some (next gs rs q o)) (sym (append-nil rows))
  chosen false true rows row q o none = ap (λ rs. Some (next gs (rs ++ row ∷ []) q o)) (sym (none refl))
  chosen false false rows row q o none = refl

  module _ (all : List PlacedRow) (k : Kind) (rows : List PlacedRow) (row : PlacedRow) where
    has-more : (q : Key) → has_key q (all_keys all k (rows ++ row ∷ [])) ≡ (has_key q (all_keys all k rows) || has_key q (keys all k row))
    has-more q =
        has_key-distinct_keys q (flat_map (keys all k) (rows ++ row ∷ []))
        ∙ ap (has_key q) (flat_map-append (keys all k) rows (row ∷ []) ∙ ap (λ ks. flat_map (keys all k) rows ++ ks) (append-nil (keys all k row)))
        ∙ has_key-append q (flat_map (keys all k) rows) (keys all k row)
        ∙ ap (λ b. b || has_key q (keys all k row)) (sym (has_key-distinct_keys q (flat_map (keys all k) rows)))

    group-more : (q : Key) → group all k (rows ++ row ∷ []) q ≡ group all k rows q ++ cond (has_key q (keys all k row)) (row ∷ []) []
    group-more q = filter-append (λ row. has_key q (keys all k row)) rows (row ∷ [])

    -- one more row, at its own keys, in the buckets of the rows before it
    pub one-more : (bs : List Bucket) → keeps_all k ≡ true → T (is_ascending (map bucket_key bs))
        → put_all (λ q. row ∷ []) gs (keys all k row) (gathered_buckets all gs k rows bs) ≡ gathered_buckets all gs k (rows ++ row ∷ []) bs
    one-more bs keeps ascends =
        ap (put_all (λ q. row ∷ []) gs (keys all k row)) (groups-all (group all k rows) gs k (all_keys all k rows) bs keeps)
        ∙ sym (buckets-entries one) ∙ ap (map (λ e. e.1)) same ∙ buckets-entries more
        ∙ sym (groups-all (group all k (rows ++ row ∷ [])) gs k (all_keys all k (rows ++ row ∷ [])) bs keeps)
      where
        up : T (is_sorted key_cmp (entries bs))
        up = sorted-entries bs ascends

        before : List Bucket
        before = put_all (group all k rows) gs (all_keys all k rows) bs

        one : List Bucket
        one = put_all (λ q. row ∷ []) gs (keys all k row) before

        more : List Bucket
        more = put_all (group all k (rows ++ row ∷ [])) gs (all_keys all k (rows ++ row ∷ [])) bs

        up-before : T (is_sorted key_cmp (entries before))
        up-before = sorted-all (group all k rows) gs (all_keys all k rows) bs up

        found : (q : Key) → find key_cmp q (entries one) ≡ find key_cmp q (entries more)
        found q =
            let o = find key_cmp q (entries bs) in
            found-all (λ q. row ∷ []) gs (keys all k row) q before (ascending-apart (keys all k row) (ascending-keys all k row)) up-before
            ∙ ap (λ x. cond (has_key q (keys all k row)) (Some (next gs (row ∷ []) q x)) x)
            (found-all (group all k rows) gs (all_keys all k rows) q bs (ascending-apart (all_keys all k rows) (ascending-distinct_keys (flat_map (keys all k) rows))) up)
            ∙ chosen (has_key q (all_keys all k rows)) (has_key q (keys all k row)) (group all k rows q) row q o
            (λ e. no_group all k q rows (sym (has_key-distinct_keys q (flat_map (keys all k) rows)) ∙ e))
            ∙ (λ i. cond (sym (has-more q) i) (Some (next gs (sym (group-more q) i) q o)) o)
            ∙ sym (found-all (group all k (rows ++ row ∷ [])) gs (all_keys all k (rows ++ row ∷ [])) q bs
            (ascending-apart (all_keys all k (rows ++ row ∷ [])) (ascending-distinct_keys (flat_map (keys all k) (rows ++ row ∷ [])))) up)

        same : entries one ≡ entries more
        same = same_entries key_cmp key_cmp_total exact_keys (entries one) (entries more)
            (sorted-all (λ q. row ∷ []) gs (keys all k row) before up-before)
            (sorted-all (group all k (rows ++ row ∷ [])) gs (all_keys all k (rows ++ row ∷ [])) bs up) found

no-keys : (f : PlacedRow → List Key) → ((row : PlacedRow) → f row ≡ []) → (rows : List PlacedRow) → flat_map f rows ≡ []
no-keys f h [] = refl
no-keys f h (row ∷ rows) = (λ i. h row i ++ no-keys f h rows i)

-- a metric has no keys, and counts the rows that it is handed
metric-keys : (all : List PlacedRow) (k : Kind) (row : PlacedRow) → IsTrue (is_metric k) → keys all k row ≡ []
metric-keys all (kind.Sum field missing) row h = refl
metric-keys all (kind.Min field missing) row h = refl
metric-keys all (kind.Max field missing) row h = refl
metric-keys all (kind.Avg field missing) row h = refl
metric-keys all (kind.ValueCount field missing) row h = refl
metric-keys all _ row h = absurd (false≢true h)

metric-under : (all : List PlacedRow) (k : Kind) (rows : List PlacedRow) → IsTrue (is_metric k) → under all [] k rows ≡ rows
metric-under all (kind.Sum field missing) rows h = refl
metric-under all (kind.Min field missing) rows h = refl
metric-under all (kind.Max field missing) rows h = refl
metric-under all (kind.Avg field missing) rows h = refl
metric-under all (kind.ValueCount field missing) rows h = refl
metric-under all _ rows h = absurd (false≢true h)

metric-append : (k : Kind) (rows more : List PlacedRow) (m : Metric) → gathered_metric k (rows ++ more) m ≡ gathered_metric k more (gathered_metric k rows m)
metric-append k [] more m = refl
metric-append k (row ∷ rows) more m = metric-append k rows more (metric_with k row m)

module _ (all : List PlacedRow) (gs : List Gatherer) (k : Kind) (h : IsTrue (is_metric k)) where
  same-buckets : (rows : List PlacedRow) (bs : List Bucket) → gathered_buckets all gs k rows bs ≡ bs
  same-buckets rows bs = ap (λ ks. put_groups (group all k rows) gs k (distinct_keys ks) bs) (no-keys (keys all k) (λ row. metric-keys all k row h) rows)

  node-steps : (rows more : List PlacedRow) (n : Node-F Node Bucket) → gathered_node all gs k (rows ++ more) n ≡ gathered_node all gs k more (out-Node (gathered_node all gs k rows n))
  node-steps rows more (Node-F.Keyed bs error full cut) =
      ap (λ cs. Keyed cs error full cut) (same-buckets (rows ++ more) bs)
      ∙ sym (ap (gathered_node all gs k more) (out-Keyed (gathered_buckets all gs k rows bs) error full cut)
      ∙ ap (λ cs. Keyed cs error full cut) (same-buckets more (gathered_buckets all gs k rows bs) ∙ same-buckets rows bs))
  node-steps rows more (Node-F.Fixed bs) =
      ap Fixed (same-buckets (rows ++ more) bs)
      ∙ sym (ap (gathered_node all gs k more) (out-Fixed (gathered_buckets all gs k rows bs))
      ∙ ap Fixed (same-buckets more (gathered_buckets all gs k rows bs) ∙ same-buckets rows bs))
  node-steps rows more (Node-F.Number m) =
      ap Number (metric-append k rows more m) ∙ sym (ap (gathered_node all gs k more) (out-Number (gathered_metric k rows m)))

pub metric-steps : (all : List PlacedRow) (a : Agg) → IsTrue (is_metric (out-Agg a).kind) → TakesInSteps (gatherer_of all a)
metric-steps all a h rows more n = step (rows ++ more) n ∙ node-steps all gs k h rows more (out-Node n) ∙ sym (ap ((gatherer_of all a).gather more) (step rows n) ∙ step more _)
  where
    gs : List Gatherer
    gs = map (gatherer_of all) (out-Agg a).children

    k : Kind
    k = (out-Agg a).kind

    step : (rows : List PlacedRow) (n : Node) → (gatherer_of all a).gather rows n ≡ gathered_node all gs k rows (out-Node n)
    step rows n = ap (λ (g : Gatherer). g.gather rows n) (gatherer-level all a) ∙ ap (λ xs. gathered_node all gs k xs (out-Node n)) (metric-under all k rows h)

-- metrics take rows in steps
pub metrics-steps : (all : List PlacedRow) (aggs : List Agg) → IsTrue (list_all (λ a. is_metric (out-Agg a).kind) aggs) → AllTakeInSteps (map (gatherer_of all) aggs)
metrics-steps all [] h = tt
metrics-steps all (a ∷ aggs) h = (metric-steps all a (true_is _ (and_left _ _ (holds _ h))), metrics-steps all aggs (true_is _ (and_right _ _ (holds _ h))))
