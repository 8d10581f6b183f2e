-- A tree whose buckets have codes, as the tree in which each has its key, ascending by key (Elasticsearch Reference 8, 'Bucket
-- aggregations').
use Rattle.std.specs.Prelude.{ℤ, List, [], ◌∷◌, map}
use Rattle.agg_model.specs.declared.key.Key.{Key, out-Key}
use Rattle.agg_model.specs.declared.key.Key.TheOpen.{Key-F}
use Rattle.agg_model.specs.declared.partial.Bucket.{Bucket}
use Rattle.agg_model.specs.declared.partial.Node.{Node, out-Node}
use Rattle.agg_model.specs.declared.partial.Node.TheOpen.{Node-F}
use Rattle.agg_model.specs.declared.partial.Node.TheVariants.{Keyed, Fixed, Number}
use Rattle.agg_evaluation.specs.Shard.{sorted_by_key}
use Rattle.shard_columns.specs.Columns.{Columns}
use Rattle.growing_tree.specs.Codes.{code_key}
use Rattle.growing_tree.specs.ReadyFolds.{fold_ready}
use Rattle.growing_tree.specs.declared.ready.Ready.{Ready}
use Rattle.growing_tree.specs.declared.ready.Ready.TheOpen.{Ready-F}

-- the key of a code; a bucket that exists from the start has its own
abbrev pub decoded_key_at : (ℤ → Key) → Key → Key-F Key → Key
decoded_key_at key_of k Key-F.Null = k
decoded_key_at key_of k (Key-F.Whole code) = key_of code
decoded_key_at key_of k (Key-F.Flag b) = k
decoded_key_at key_of k (Key-F.Word w) = k
decoded_key_at key_of k (Key-F.Fixed n) = k
decoded_key_at key_of k (Key-F.Many parts) = k

abbrev pub decoded_key : (ℤ → Key) → Key → Key
decoded_key key_of k = decoded_key_at key_of k (out-Key k)

-- child by child
abbrev pub decoded_children : List (Node → Node) → List Node → List Node
decoded_children [] ns = ns
decoded_children (d ∷ ds) [] = []
decoded_children (d ∷ ds) (n ∷ ns) = d n ∷ decoded_children ds ns

abbrev pub decoded_bucket : List (Node → Node) → (ℤ → Key) → Bucket → Bucket
decoded_bucket ds key_of b = record { key = decoded_key key_of b.key; count = b.count; covered = b.covered; children = decoded_children ds b.children }

abbrev pub decoded_level : List (Node → Node) → (ℤ → Key) → Node-F Node Bucket → Node
decoded_level ds key_of (Node-F.Keyed bs error full cut) = Keyed (sorted_by_key (map (decoded_bucket ds key_of) bs)) error full cut
decoded_level ds key_of (Node-F.Fixed bs) = Fixed (map (decoded_bucket ds key_of) bs)
decoded_level ds key_of (Node-F.Number m) = Number m

module _ (shard : Columns) where
  abbrev pub decoder_at : Ready-F (Node → Node) → Node → Node
  decoder_at r n = decoded_level r.children (code_key shard r.kind) (out-Node n)

  -- the tree of the prepared aggregation
  abbrev pub decoded : Ready → Node → Node
  decoded = fold_ready decoder_at
