-- What callers see of one level of a growing tree, and of a bucket in it (Elasticsearch Reference 8, 'Bucket aggregations').
use Rattle.std.specs.Prelude.{◌≡◌, ℕ, ℤ, All, ◌+◌, List, [], ◌∷◌, map, length}
use Rattle.agg_model.specs.declared.aggregation.Kind.{Kind}
use Rattle.agg_model.specs.declared.key.Key.{Key}
use Rattle.agg_model.specs.declared.partial.Bucket.{Bucket}
use Rattle.agg_model.specs.declared.partial.Node.{Node}
use Rattle.agg_model.specs.declared.partial.Node.TheVariants as node
use Rattle.agg_evaluation.specs.Rows.{PlacedRow}
use Rattle.agg_evaluation.specs.Shard.{sorted_by_key}
use Rattle.growing_tree.specs.Decoded.{decoded_bucket, decoded_children}
use Rattle.growth_laws.specs.Gathering.{Gatherer, gathered_children, gathered_metric, put_rows}
use Rattle.growing_tree.specs.Measures.{Measure, measures_of}
use Rattle.growing_tree.specs.Trees.{coded_buckets, counter_buckets, measured_buckets, numbered_buckets}
use Rattle.growing_tree.specs.declared.tree.Growing.{Growing}
use Rattle.growing_tree.specs.declared.tree.Level.{Level}
use Rattle.growing_tree.specs.declared.tree.Level.TheVariants.{Keyed, Measured, Counts, Fixed, Number}

-- `decoders` are those of the children, and `key_of` gives the keys of codes
module _ (decoders : List (Node → Node)) (key_of : ℤ → Key) where
  -- the buckets of codes, ascending by key
  abbrev pub keyed_buckets : List ℤ → List Growing → List Bucket
  keyed_buckets codes buckets = sorted_by_key (map (decoded_bucket decoders key_of) (coded_buckets codes buckets))

  -- those below which there are metrics alone
  abbrev pub metric_buckets : List ℤ → List Measure → List Bucket
  metric_buckets codes measures = sorted_by_key (map (decoded_bucket decoders key_of) (measured_buckets codes measures))

  -- those whose rows are counted alone
  abbrev pub counted_buckets : List ℕ → List Bucket
  counted_buckets counters = sorted_by_key (map (decoded_bucket decoders key_of) (counter_buckets 0 counters))

  -- the buckets that exist from the start
  abbrev pub fixed_buckets : List Growing → List Bucket
  fixed_buckets buckets = map (decoded_bucket decoders key_of) (numbered_buckets 0 buckets)

  -- the buckets of a level
  abbrev pub level_buckets : Level → List Bucket
  level_buckets (Keyed k) = keyed_buckets k.places k.buckets.items
  level_buckets (Measured m) = metric_buckets m.places (measures_of m)
  level_buckets (Counts ns) = counted_buckets ns
  level_buckets (Fixed bs) = fixed_buckets bs.items
  level_buckets (Number m) = []

-- a node of the form of the level, with these buckets
abbrev pub node_with : Level → List Bucket → Node
node_with (Keyed k) bs = node.Keyed bs 0 0 0
node_with (Measured m) bs = node.Keyed bs 0 0 0
node_with (Counts ns) bs = node.Keyed bs 0 0 0
node_with (Fixed gs) bs = node.Fixed bs
node_with (Number m) bs = node.Number m

-- the one level has the form of the other
abbrev pub IsAlike : Level → Level → Type 0
IsAlike old new = (bs : List Bucket) → node_with new bs ≡ node_with old bs

-- a bucket with more rows, whatever its key
pub record HasGathered (gs : List Gatherer) (rows : List PlacedRow) (decoders : List (Node → Node)) (old new : Growing) : Type 0 where
  pub count : new.count ≡ old.count + length rows
  pub children : decoded_children decoders new.children.items ≡ gathered_children gs rows (decoded_children decoders old.children.items)

-- key by key, with the rows of each
abbrev pub put_all : (Key → List PlacedRow) → List Gatherer → List Key → List Bucket → List Bucket
put_all rows_of gs [] bs = bs
put_all rows_of gs (k ∷ ks) bs = put_all rows_of gs ks (put_rows gs (rows_of k) k bs)

-- the level has buckets
abbrev pub HasBuckets : Level → Type 0
HasBuckets (Keyed k) = Unit {0}
HasBuckets (Measured m) = Unit {0}
HasBuckets (Counts ns) = Unit {0}
HasBuckets (Fixed bs) = Unit {0}
HasBuckets (Number m) = ⊥

-- a metric that takes the values of rows
abbrev pub TakesRows : Kind → List PlacedRow → Level → Level → Type 0
TakesRows k rows (Keyed b) new = ⊥
TakesRows k rows (Measured b) new = ⊥
TakesRows k rows (Counts b) new = ⊥
TakesRows k rows (Fixed b) new = ⊥
TakesRows k rows (Number m) (Keyed b) = ⊥
TakesRows k rows (Number m) (Measured b) = ⊥
TakesRows k rows (Number m) (Counts b) = ⊥
TakesRows k rows (Number m) (Fixed b) = ⊥
TakesRows k rows (Number m) (Number n) = n ≡ gathered_metric k rows m

-- a bucket without rows
pub record IsEmptyBucket (decoders : List (Node → Node)) (children : List Node) (b : Growing) : Type 0 where
  pub count : b.count ≡ 0
  pub children_are : decoded_children decoders b.children.items ≡ children

-- so many buckets without rows
pub record AreEmpty (decoders : List (Node → Node)) (children : List Node) (count : ℕ) (bs : List Growing) : Type 0 where
  pub count_is : length bs ≡ count
  pub each : All (IsEmptyBucket decoders children) bs
