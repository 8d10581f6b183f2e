-- Metrics, and buckets of keys above metrics, take rows in steps as at once.
use Rattle.std.specs.Prelude.{◌≡◌, refl, true, T, fold, List, [], ◌∷◌, ◌++◌, map, IsTrue}
use Rattle.std.specs.FinMap.Entries.{below_all, is_sorted}
use Rattle.std.specs.List.{list_all}
use Rattle.std.proofs.Common.{sym, ◌∙◌, ap, append_assoc, subst}
use Rattle.list_laws.proofs.Booleans.{and_left, and_right, both}
use Rattle.list_laws.proofs.Lists.{append-nil}
use Rattle.agg_model.specs.declared.aggregation.Agg.{Agg, out-Agg}
use Rattle.agg_model.specs.declared.aggregation.Kind.{Kind}
use Rattle.agg_model.specs.declared.partial.Bucket.{Bucket}
use Rattle.agg_model.specs.declared.partial.Node.{Node}
use Rattle.agg_evaluation.specs.Groups.{all_keys, group}
use Rattle.agg_evaluation.specs.KeyOrder.{key_cmp}
use Rattle.agg_evaluation.specs.Keys.{keys}
use Rattle.agg_evaluation.specs.Orders.{bucket_key}
use Rattle.agg_evaluation.specs.Rows.{PlacedRow}
use Rattle.agg_evaluation.specs.Trees.{is_ascending}
use Rattle.growth_laws.specs.Gathering.{Gatherer, gathered, gathered_buckets}
use Rattle.shard_columns.specs.Columns.{Columns}
use Rattle.growing_tree.specs.Decoded.{decoded}
use Rattle.growing_tree.specs.Gathered.{gatherers, key_at, decoders, shown_level}
use Rattle.growing_tree.specs.Readiness.{IsKindReady, is_keyed, is_metric}
use Rattle.growing_tree.specs.Shown.{HasBuckets, node_with, put_all}
use Rattle.growing_tree.specs.Steady.{IsSteady}
use Rattle.growing_tree.specs.Trees.{IsAligned, level_node}
use Rattle.growing_tree.specs.declared.ready.Ready.{Ready, out-Ready}
use Rattle.growing_tree.specs.declared.tree.Level.{Level}
use Rattle.agg_evaluation.proofs.KeyLists.{is_below}
use Rattle.growing_tree.proofs.Arriving.{entries, sorted-entries}
use Rattle.growing_tree.proofs.Ascents.{level-up}
use Rattle.growing_tree.proofs.Codes.{codes-own}
use Rattle.growing_tree.proofs.Counting.{handed-values, keyed-keeps}
use Rattle.growing_tree.proofs.Each.{keyed-handed}
use Rattle.growing_tree.proofs.Finals.{groups-all, keeps_all}
use Rattle.growing_tree.proofs.Levels.{counted-keyed, counted-none, decoded-is, gathered-is}
use Rattle.growing_tree.proofs.Orderings.{sorted-all}
use Rattle.growing_tree.proofs.Turns.{AllTakeInSteps, metric-steps, metrics-steps, one-more}

-- buckets whose entries are sorted ascend
entries-up : (bs : List Bucket) → T (is_sorted key_cmp (entries bs)) → T (is_ascending (map bucket_key bs))
entries-up [] h = tt
entries-up (b ∷ bs) h = both _ _ (below b bs (and_left _ _ h)) (entries-up bs (and_right _ _ h))
  where
    below : (b : Bucket) (bs : List Bucket) → T (below_all {X = Bucket} key_cmp (bucket_key b) (entries bs)) → T (is_below (bucket_key b) (map bucket_key bs))
    below b [] h = tt
    below b (c ∷ bs) h = both _ _ (and_left _ _ h) (below b bs (and_right _ _ h))

module _ (all : List PlacedRow) (gs : List Gatherer) (steps : AllTakeInSteps gs) (k : Kind) (keeps : keeps_all k ≡ true) where
  still-up : (rows : List PlacedRow) (bs : List Bucket) → T (is_ascending (map bucket_key bs)) → T (is_ascending (map bucket_key (gathered_buckets all gs k rows bs)))
  still-up rows bs up =
      subst (λ (cs : List Bucket). T (is_ascending (map bucket_key cs))) (sym (groups-all (group all k rows) gs k (all_keys all k rows) bs keeps))
      (entries-up (put_all (group all k rows) gs (all_keys all k rows) bs) (sorted-all (group all k rows) gs (all_keys all k rows) bs (sorted-entries bs up)))

  -- rows behind these, one after another
  in-turn : (rows more : List PlacedRow) (bs : List Bucket) → T (is_ascending (map bucket_key bs))
      → gathered_buckets all gs k (rows ++ more) bs ≡ fold (λ cs row. put_all (λ q. row ∷ []) gs (keys all k row) cs) (gathered_buckets all gs k rows bs) more
  in-turn rows [] bs up = ap (λ rs. gathered_buckets all gs k rs bs) (append-nil rows)
  in-turn rows (row ∷ more) bs up =
      ap (λ rs. gathered_buckets all gs k rs bs) (sym (append_assoc rows (row ∷ []) more))
      ∙ in-turn (rows ++ row ∷ []) more bs up
      ∙ ap (λ cs. fold (λ cs row. put_all (λ q. row ∷ []) gs (keys all k row) cs) cs more) (sym (one-more gs steps all k rows row bs keeps up))

  buckets-steps : (rows more : List PlacedRow) (bs : List Bucket) → T (is_ascending (map bucket_key bs))
      → gathered_buckets all gs k (rows ++ more) bs ≡ gathered_buckets all gs k more (gathered_buckets all gs k rows bs)
  buckets-steps rows more bs up = in-turn rows more bs up ∙ sym (in-turn [] more (gathered_buckets all gs k rows bs) (still-up rows bs up))

-- a metric takes rows in steps
pub metric-steady : (all : List PlacedRow) (a : Agg) (n : Node) → IsTrue (is_metric (out-Agg a).kind) → IsSteady (gathered all a) n
metric-steady all a n h = record {
  none = gathered-is all a [] [] n (handed-values all (out-Agg a).kind [] h) ∙ counted-none all a n;
  more = λ rows more. metric-steps all a h rows more n;
}

module _ (shard : Columns) (a : Agg) (r : Ready) (ready : IsKindReady shard (out-Agg a).kind (out-Ready r).kind) (keyed : IsTrue (is_keyed (out-Ready r).kind)) (metrics : IsTrue (list_all (λ a. is_metric (out-Agg a).kind) (out-Agg a).children)) (old : Level) (has : HasBuckets old) where
  abbrev gs : List Gatherer
  gs = gatherers shard (out-Agg a).children

  abbrev k : Kind
  k = (out-Agg a).kind

  all-with : (rows : List PlacedRow) (bs : List Bucket) → gathered shard.rows a rows (node_with old bs) ≡ node_with old (gathered_buckets shard.rows gs k rows bs)
  all-with rows bs =
      gathered-is shard.rows a rows rows (node_with old bs) (keyed-handed shard k (out-Ready r).kind rows ready keyed)
      ∙ counted-keyed shard.rows a rows old bs _ refl has

  -- so does a level whose rows have their own keys
  pub keyed-steady : IsAligned old → IsSteady (gathered shard.rows a) (decoded shard r (level_node old))
  keyed-steady aligned = subst (IsSteady (gathered shard.rows a)) (sym (decoded-is shard r old)) (record {
    none = gathered-is shard.rows a [] [] n (keyed-handed shard k (out-Ready r).kind [] ready keyed) ∙ counted-none shard.rows a n;
    more = λ rows more.
        all-with (rows ++ more) bs
        ∙ ap (node_with old) (buckets-steps shard.rows gs (metrics-steps shard.rows (out-Agg a).children metrics) k (keyed-keeps shard k (out-Ready r).kind ready keyed) rows more bs
        (level-up (decoders shard (out-Ready r).children) (key_at shard r) (codes-own shard k (out-Ready r).kind ready) old aligned))
        ∙ sym (ap (gathered shard.rows a more) (all-with rows bs) ∙ all-with more (gathered_buckets shard.rows gs k rows bs));
  })
    where
      bs : List Bucket
      bs = shown_level shard r old

      n : Node
      n = node_with old bs
