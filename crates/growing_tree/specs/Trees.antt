-- What a growing tree stands for (Elasticsearch Reference 8, 'Bucket aggregations').
use Rattle.std.specs.Prelude.{ℕ, zero, suc, ℤ, pos, ◌≤◌, List, [], ◌∷◌, length, map}
use Rattle.std.specs.List.{IsDistinct}
use Rattle.std.specs.Ordering.{int_eq}
use Rattle.agg_model.specs.declared.key.Key.{Key}
use Rattle.agg_model.specs.declared.key.Key.TheVariants as key
use Rattle.agg_model.specs.declared.partial.Bucket.{Bucket}
use Rattle.agg_model.specs.declared.partial.Node.{Node}
use Rattle.agg_model.specs.declared.partial.Node.TheVariants as node
use Rattle.growing_tree.specs.Measures.{Measure, measures_of}
use Rattle.growing_tree.specs.declared.tree.Growing.{Growing}
use Rattle.growing_tree.specs.declared.tree.Level.{Level}
use Rattle.growing_tree.specs.declared.tree.Level.TheVariants.{Keyed, Measured, Counts, Fixed, Number}

-- a bucket of this key, of whatever says how many rows it has and what its children are
abbrev pub bucket_with : {G : Type 0} → (G → ℕ) → (G → List Node) → Key → G → Bucket
bucket_with count_of children_of key g = record { key = key; count = count_of g; covered = 0; children = children_of g }

abbrev pub bucket_at : Key → Growing → Bucket
bucket_at = bucket_with (λ g. g.count) (λ g. g.children.items)

-- the buckets of the codes, where there are so many: a code stands for itself
abbrev pub coded_with : {G : Type 0} → (Key → G → Bucket) → List ℤ → List G → List Bucket
coded_with at [] gs = []
coded_with at (c ∷ cs) [] = []
coded_with at (c ∷ cs) (g ∷ gs) = at (key.Whole c) g ∷ coded_with at cs gs

abbrev pub coded_buckets : List ℤ → List Growing → List Bucket
coded_buckets = coded_with bucket_at

-- what is known of a bucket below which there are metrics alone
abbrev pub measured_at : Key → Measure → Bucket
measured_at = bucket_with (λ m. m.count) (λ m. map node.Number m.metrics)

abbrev pub measured_buckets : List ℤ → List Measure → List Bucket
measured_buckets = coded_with measured_at

-- a bucket of which it is counted alone how many rows it has
abbrev pub counter_at : Key → ℕ → Bucket
counter_at = bucket_with (λ n. n) (λ n. [])

-- the buckets of the counters from this place on, which is the code of the first: a counter of 0 has no bucket
abbrev pub counter_buckets : ℕ → List ℕ → List Bucket
counter_buckets place [] = []
counter_buckets place (zero ∷ ns) = counter_buckets (suc place) ns
counter_buckets place (suc n ∷ ns) = counter_at (key.Whole (pos place)) (suc n) ∷ counter_buckets (suc place) ns

-- the buckets that exist from the start, by number from this one on
abbrev pub numbered_buckets : ℕ → List Growing → List Bucket
numbered_buckets n [] = []
numbered_buckets n (g ∷ gs) = bucket_at (key.Fixed n) g ∷ numbered_buckets (suc n) gs

abbrev pub level_node : Level → Node
level_node (Keyed k) = node.Keyed (coded_buckets k.places k.buckets.items) 0 0 0
level_node (Measured m) = node.Keyed (measured_buckets m.places (measures_of m)) 0 0 0
level_node (Counts ns) = node.Keyed (counter_buckets 0 ns) 0 0 0
level_node (Fixed bs) = node.Fixed (numbered_buckets 0 bs.items)
level_node (Number m) = node.Number m

-- each bucket has a code, and no code stands twice
pub record IsIndexed {G : Type 0} (codes : List ℤ) (buckets : List G) : Type 0 where
  pub few : length buckets ≤ length codes
  pub distinct : IsDistinct int_eq codes

abbrev pub IsAligned : Level → Type 0
IsAligned (Keyed k) = IsIndexed k.places k.buckets.items
IsAligned (Measured m) = IsIndexed m.places m.counts.items
IsAligned (Counts ns) = Unit {0}
IsAligned (Fixed bs) = Unit {0}
IsAligned (Number m) = Unit {0}
