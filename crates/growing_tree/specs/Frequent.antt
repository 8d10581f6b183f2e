-- The buckets of terms that have rows enough to be among those that a shard keeps (Elasticsearch Reference 8, 'Terms aggregation'
-- on shard size).
use Rattle.std.specs.Prelude.{◌≡◌, ◌⊎◌, ◌≤◌, ◌&&◌, ℕ, Bool, true, false, nat_le, List, [], ◌∷◌, filter, length, map, sum_by}
use Rattle.agg_model.specs.Options.{Options, TermsOptions, options_of}
use Rattle.agg_model.specs.declared.aggregation.Kind.{Kind}
use Rattle.agg_model.specs.declared.aggregation.Order.{Order}
use Rattle.agg_model.specs.declared.aggregation.OrderBy.{OrderBy}
use Rattle.agg_model.specs.declared.aggregation.OrderBy.TheVariants as by
use Rattle.agg_model.specs.declared.partial.Bucket.{Bucket}
use Rattle.agg_evaluation.specs.Orders.{bucket_count}
use Rattle.growing_tree.specs.CodedBuckets.{coded_bucket}
use Rattle.growing_tree.specs.declared.chosen.Chosen.{Chosen}

abbrev pub is_count : OrderBy → Bool
is_count by.Count = true
is_count by.Key = false
is_count (by.Child place) = false

-- buckets with more rows come before those with fewer
abbrev pub is_by_count : List Order → Bool
is_by_count [] = false
is_by_count (o ∷ os) = o.descending && is_count o.by

-- terms of which a shard keeps no more than so many, those with most rows first
pub record CutsByCount (k : Kind) (count : ℕ) : Type 0 where
  pub terms : TermsOptions
  pub is : options_of k ≡ Options.Terms terms
  pub by_count : is_by_count terms.order ≡ true
  pub enough : terms.shard_size ≤ count

-- of buckets with these numbers of rows, each has at least so many, or as many have as a shard keeps
abbrev pub IsLeast : Kind → List ℕ → ℕ → Type 0
IsLeast k counts least = (least ≡ 0) ⊎ CutsByCount k (length (filter (λ n. nat_le least n) counts))

-- whether a bucket has at least so many rows
abbrev pub has_rows : ℕ → Bucket → Bool
has_rows least b = nat_le least (bucket_count b)

-- the buckets that have at least so many rows
abbrev pub frequent : ℕ → List Bucket → List Bucket
frequent least bs = filter (has_rows least) bs

-- those that have at least so many rows, of which there are as many as a shard keeps
pub record AreFrequent (k : Kind) (all kept : List Bucket) : Type 0 where
  pub least : ℕ
  pub kept_are : kept ≡ frequent least all
  pub cuts : CutsByCount k (length kept)

-- all that a shard keeps are among these
abbrev pub Suffices : Kind → List Bucket → List Bucket → Type 0
Suffices k all kept = (kept ≡ all) ⊎ AreFrequent k all kept

-- the rows of all buckets, and those buckets among which are all that a shard keeps
pub record IsChosen (k : Kind) (all : List Bucket) (c : Chosen) : Type 0 where
  pub total_is : c.total ≡ sum_by bucket_count all
  pub suffices : Suffices k all (map coded_bucket c.coded.items)
