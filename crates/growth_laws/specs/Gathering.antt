-- What the rows of more documents make of a tree: for each key the rows that have it go into its bucket at once, so that a
-- row that encloses several of them is counted once (Elasticsearch Reference 8, 'Bucket aggregations'; 'Reverse nested
-- aggregation'; 'Composite aggregation' on its page).
use Rattle.std.specs.Prelude.{◌+◌, List, [], ◌∷◌, filter, length, map}
use Rattle.std.specs.Ordering.{match_ordering}
use Rattle.agg_model.specs.declared.aggregation.Agg.{Agg}
use Rattle.agg_model.specs.declared.aggregation.Agg.TheOpen.{Agg-F}
use Rattle.agg_model.specs.declared.aggregation.Kind.{Kind}
use Rattle.agg_evaluation.specs.Profile.{Form, profile}
use Rattle.agg_model.specs.declared.key.Key.{Key}
use Rattle.agg_model.specs.declared.partial.Bucket.{Bucket}
use Rattle.agg_model.specs.declared.partial.Metric.{Metric}
use Rattle.agg_model.specs.declared.partial.Node.{Node, out-Node}
use Rattle.agg_model.specs.declared.partial.Node.TheOpen.{Node-F}
use Rattle.agg_model.specs.declared.partial.Node.TheVariants.{Keyed, Fixed, Number}
use Rattle.agg_evaluation.specs.Folds.{fold_agg}
use Rattle.agg_evaluation.specs.Groups.{all_keys, group, under}
use Rattle.agg_evaluation.specs.KeyOrder.{has_key, key_cmp}
use Rattle.agg_evaluation.specs.Orders.{bucket_key}
use Rattle.agg_evaluation.specs.Rows.{PlacedRow}
use Rattle.agg_evaluation.specs.Shard.{fixed_keys, page}
use Rattle.agg_evaluation.specs.Whole.{empty_by, shape_of}
use Rattle.growth_laws.specs.Growth.{metric_with}

-- an aggregation's tree over no row, its tree with more rows that it counts, and with more rows that it is handed
pub record Gatherer : Type 0 where
  pub empty : Node
  pub count : List PlacedRow → Node → Node
  pub gather : List PlacedRow → Node → Node

-- child by child
abbrev pub gathered_children : List Gatherer → List PlacedRow → List Node → List Node
gathered_children [] rows ns = ns
gathered_children (g ∷ gs) rows [] = []
gathered_children (g ∷ gs) rows (n ∷ ns) = g.gather rows n ∷ gathered_children gs rows ns

-- a bucket with more rows
abbrev pub gathered_bucket : List Gatherer → List PlacedRow → Bucket → Bucket
gathered_bucket gs rows b = record {
  key = b.key;
  count = b.count + length rows;
  covered = b.covered;
  children = gathered_children gs rows b.children;
}

-- a key's bucket before its first row
abbrev pub empty_bucket : List Gatherer → Key → Bucket
empty_bucket gs key = record { key = key; count = 0; covered = 0; children = map (λ g. g.empty) gs }

-- the buckets, ascending by key, where the one of the key has more rows
abbrev pub put_rows : List Gatherer → List PlacedRow → Key → List Bucket → List Bucket
put_rows gs rows k [] = gathered_bucket gs rows (empty_bucket gs k) ∷ []
put_rows gs rows k (b ∷ bs) = match_ordering (key_cmp k b.key)
    (gathered_bucket gs rows (empty_bucket gs k) ∷ b ∷ bs)
    (gathered_bucket gs rows b ∷ bs)
    (b ∷ put_rows gs rows k bs)

-- the buckets that a composite aggregation keeps are those of its page; the others keep all
abbrev pub kept_buckets : Kind → List Bucket → List Bucket
kept_buckets k bs = elim (profile k).form [
  | Form.terms t ↦ bs
  | Form.histogram h ↦ bs
  | Form.pages sources size after ↦ filter (λ b. has_key (bucket_key b) (page sources size after (map bucket_key bs))) bs
  | Form.fixed ks ↦ bs
  | Form.number o ↦ bs
]

-- key by key, with the rows of each
abbrev pub put_groups : (Key → List PlacedRow) → List Gatherer → Kind → List Key → List Bucket → List Bucket
put_groups rows_of gs k [] bs = bs
put_groups rows_of gs k (key ∷ keys) bs =
    put_groups rows_of gs k keys (kept_buckets k (put_rows gs (rows_of key) key bs))

-- row by row
abbrev pub gathered_metric : Kind → List PlacedRow → Metric → Metric
gathered_metric k [] m = m
gathered_metric k (row ∷ rows) m = gathered_metric k rows (metric_with k row m)

-- `all` are the rows of the shard
module _ (all : List PlacedRow) where
  -- the buckets with more rows that the aggregation counts
  abbrev pub gathered_buckets : List Gatherer → Kind → List PlacedRow → List Bucket → List Bucket
  gathered_buckets gs k rows bs = put_groups (group all k rows) gs k (all_keys all k rows) bs

  -- a node with more rows that the aggregation counts
  abbrev pub gathered_node : List Gatherer → Kind → List PlacedRow → Node-F Node Bucket → Node
  gathered_node gs k rows (Node-F.Keyed bs error full cut) = Keyed (gathered_buckets gs k rows bs) error full cut
  gathered_node gs k rows (Node-F.Fixed bs) = Fixed (gathered_buckets gs k rows bs)
  gathered_node gs k rows (Node-F.Number m) = Number (gathered_metric k rows m)

  -- what one level makes of rows
  abbrev pub gatherer_at : Agg-F Gatherer → Gatherer
  gatherer_at a = record {
    empty = empty_by (map (λ g. g.empty) a.children) (fixed_keys a.kind) (shape_of a.kind);
    count = λ rows n. gathered_node a.children a.kind rows (out-Node n);
    gather = λ rows n. gathered_node a.children a.kind (under all [] a.kind rows) (out-Node n);
  }

  -- what an aggregation makes of rows
  abbrev pub gatherer_of : Agg → Gatherer
  gatherer_of = fold_agg gatherer_at

  -- the tree with more rows that the aggregation is handed
  abbrev pub gathered : Agg → List PlacedRow → Node → Node
  gathered a = (gatherer_of a).gather

  -- the tree with more rows that the aggregation counts
  abbrev pub counted : Agg → List PlacedRow → Node → Node
  counted a = (gatherer_of a).count
