-- The page of a composite aggregation while it grows (Elasticsearch Reference 8, 'Composite aggregation').
use Rattle.std.specs.Prelude.{◌≡◌, ◌≤◌, Bool, List, length, map, T}
use Rattle.std.specs.List.{list_all, AllByRecursion}
use Rattle.agg_model.specs.declared.aggregation.CompositeSource.{CompositeSource}
use Rattle.agg_model.specs.declared.aggregation.Kind.{Kind}
use Rattle.agg_model.specs.declared.key.Key.{Key}
use Rattle.agg_model.specs.declared.partial.Bucket.{Bucket}
use Rattle.agg_model.specs.declared.partial.Node.{Node}
use Rattle.agg_model.specs.declared.partial.Node.TheVariants.{Keyed}
use Rattle.agg_evaluation.specs.CompositeKeys.{is_composite_of}
use Rattle.agg_evaluation.specs.Shard.{sorted_by_key}
use Rattle.composite_agg.specs.FirstPages.{FirstPage, empty_page}
use Rattle.composite_agg.specs.InOrder.{IsInOrder, is_kept_out}
use Rattle.composite_page.specs.Pages.{is_beyond_any, is_cursor}
use Rattle.composite_agg.specs.Runs.{AreFilled, in_runs}
use Rattle.growing_tree.specs.Decoded.{decoded_children}
use Rattle.growth_laws.specs.BucketBytes.{bucket_bytes}
use Rattle.growing_page.specs.declared.page.Held.{Held}
use Rattle.growing_page.specs.declared.page.Page.{Page}
pub use Rattle.growing_tree.specs.Gathered.{decoders}

-- a bucket as it stands in a node
abbrev pub shown : List (Node → Node) → Held → Bucket
shown ds h = record { key = h.key; count = h.count; covered = 0; children = decoded_children ds h.children.items }

abbrev pub shown_all : List (Node → Node) → List Held → List Bucket
shown_all ds hs = map (shown ds) hs

-- the buckets of a page, in the order of the sources
abbrev pub buckets_of : Page → List Held
buckets_of p = in_runs p.runs.items

-- the page as a node, ascending by key
abbrev pub page_node : List (Node → Node) → Page → Node
page_node ds p = Keyed (sorted_by_key (shown_all ds (buckets_of p))) 0 0 0

abbrev pub held_key : Held → Key
held_key h = h.key

-- what a page is of
abbrev pub sources_of : Kind → List CompositeSource
sources_of k = (empty_page k).sources

-- at most `size` buckets in the order of the sources, each with a part for each source and behind `after`
pub record IsFilled {A : Type 0} (key : A → Key) (p : FirstPage) (xs : List A) : Type 0 where
  pub order : IsInOrder key p.sources xs
  pub parts : T (list_all (λ x. is_composite_of (length p.sources) (key x)) xs)
  pub within : length xs ≤ p.size
  pub beyond : T (list_all (λ x. is_beyond_any p.sources p.after (key x)) xs)
  pub cursor : T (is_cursor (length p.sources) p.after)

-- the key does not come after `after`, or it comes after all in a full page
abbrev pub is_refused : FirstPage → List Held → Key → Bool
is_refused p hs k = is_kept_out held_key p.sources p.size p.after hs k

-- the bytes that are noted of a bucket are what it costs
abbrev pub IsCosted : List (Node → Node) → Held → Type 0
IsCosted ds h = h.bytes ≡ bucket_bytes (shown ds h)

-- the buckets are a page of this composite, and each bucket's bytes are noted
pub record AreKept (k : Kind) (ds : List (Node → Node)) (hs : List Held) : Type 0 where
  pub filled : IsFilled held_key (empty_page k) hs
  pub costs : AllByRecursion (IsCosted ds) hs

-- the page is one of this composite, and its buckets are counted
pub record IsPageOf (k : Kind) (ds : List (Node → Node)) (p : Page) : Type 0 where
  pub kept : AreKept k ds (buckets_of p)
  pub runs : AreFilled p.runs.items
  pub count : p.held ≡ length (buckets_of p)
