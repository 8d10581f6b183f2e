-- The page of a composite as keys come, one after another (Elasticsearch Reference 8, 'Composite aggregation').
use Rattle.std.specs.Prelude.{◌≤◌, ◌+◌, ℕ, Bool, true, false, if◌then◌else◌, not, ◌&&◌, ◌||◌, nat_le, List, [], ◌∷◌, length, map, take, Option, None, IsTrue}
use Rattle.std.specs.List.{list_all, last_or}
use Rattle.std.specs.Ordering.{is_lt}
use Rattle.agg_model.specs.declared.key.Key.{Key}
use Rattle.agg_model.specs.declared.partial.Bucket.{Bucket}
use Rattle.agg_model.specs.declared.partial.Node.{Node}
use Rattle.agg_model.specs.declared.aggregation.CompositeSource.{CompositeSource}
use Rattle.agg_model.specs.declared.aggregation.Kind.{Kind}
use Rattle.agg_model.specs.Options.{Options, options_of}
use Rattle.agg_evaluation.specs.KeyOrder.{has_key, key_eq}
use Rattle.agg_evaluation.specs.Orders.{bucket_key}
use Rattle.list_laws.specs.Sorting.{insert_sorted}
use Rattle.composite_agg.specs.InOrder.{IsInOrder}
use Rattle.composite_page.specs.Pages.{are_composite, is_beyond_any}
use Rattle.composite_agg.specs.declared.offered.Offered.{Offered}
use Rattle.composite_agg.specs.declared.offered.Offered.TheVariants.{Counted, Entered, Outside}
pub use Rattle.composite_agg.specs.InOrder.{page_cmp}

-- what a page is of, and its buckets in the order of the sources
pub record FirstPage : Type 0 where
  pub sources : List CompositeSource
  pub size : ℕ
  pub after : Option Key
  pub buckets : List Bucket

-- each bucket comes before the later ones
abbrev pub AreInOrder : List CompositeSource → List Bucket → Type 0
AreInOrder sources bs = IsInOrder bucket_key sources bs

abbrev pub is_full : FirstPage → Bool
is_full p = nat_le p.size (length p.buckets)

-- the key comes after all in the page
abbrev pub is_last : FirstPage → Key → Bool
is_last p k = list_all (λ b. is_lt (page_cmp p.sources (bucket_key b) k)) p.buckets

abbrev pub is_held : FirstPage → Key → Bool
is_held p k = has_key k (map bucket_key p.buckets)

-- the key does not come after the one that the page comes after, or it comes after all in a full page
abbrev pub is_outside : FirstPage → Key → Bool
is_outside p k = not (is_beyond_any p.sources p.after k) || (is_full p && is_last p k)

-- the last bucket, where the page is full
abbrev pub evicted_of : FirstPage → Option Bucket
evicted_of p = if is_full p then last_or None p.buckets else None

-- what becomes of a key that is offered
abbrev pub answer_of : FirstPage → Key → Offered
answer_of p k = if is_outside p k then Outside else (if is_held p k then Counted else Entered (evicted_of p))

abbrev pub counted : Key → Bucket → Bucket
counted k b = if key_eq k (bucket_key b) then record b { count = b.count + 1 } else b

abbrev pub new_bucket : Key → List Node → Bucket
new_bucket k children = record { key = k; count = 1; covered = 0; children = children }

abbrev pub with_buckets : FirstPage → List Bucket → FirstPage
with_buckets p bs = record { sources = p.sources; size = p.size; after = p.after; buckets = bs }

-- the buckets with one more, in its place
abbrev pub with_bucket : FirstPage → Bucket → List Bucket
with_bucket p b = take p.size (insert_sorted (λ a c. page_cmp p.sources (bucket_key a) (bucket_key c)) b p.buckets)

-- the page after a key was offered
abbrev pub page_with : FirstPage → Key → List Node → FirstPage
page_with p k children =
    if is_outside p k then p else with_buckets p (if is_held p k then map (counted k) p.buckets else with_bucket p (new_bucket k children))

-- the bucket of a key has these children
abbrev pub with_children : Key → List Node → Bucket → Bucket
with_children k children b = if key_eq k (bucket_key b) then record b { children = children } else b

-- the children of the bucket of a key, or these where no bucket has it
abbrev pub children_of : Key → List Node → List Bucket → List Node
children_of k children [] = children
children_of k children (b ∷ bs) = if key_eq k (bucket_key b) then b.children else children_of k children bs

-- the page with these children at the bucket of a key
abbrev pub page_with_children : FirstPage → Key → List Node → FirstPage
page_with_children p k children = with_buckets p (map (with_children k children) p.buckets)

-- at most `size` buckets in order, each key, and the one that the page comes after, with a part for each source
pub record IsPage (p : FirstPage) : Type 0 where
  pub order : AreInOrder p.sources p.buckets
  pub parts : IsTrue (are_composite (length p.sources) p.buckets)
  pub within : length p.buckets ≤ p.size

-- the empty page of a composite
abbrev pub empty_page : Kind → FirstPage
empty_page k = elim (options_of k) [
  | Options.Terms t ↦ record { sources = []; size = 0; after = None; buckets = [] }
  | Options.Histogram h ↦ record { sources = []; size = 0; after = None; buckets = [] }
  | Options.Filters names filters other ↦ record { sources = []; size = 0; after = None; buckets = [] }
  | Options.Filter query ↦ record { sources = []; size = 0; after = None; buckets = [] }
  | Options.Missing field ↦ record { sources = []; size = 0; after = None; buckets = [] }
  | Options.Global ↦ record { sources = []; size = 0; after = None; buckets = [] }
  | Options.Nested context ↦ record { sources = []; size = 0; after = None; buckets = [] }
  | Options.ReverseNested context ↦ record { sources = []; size = 0; after = None; buckets = [] }
  | Options.Composite sources size after ↦ record { sources = sources; size = size; after = after; buckets = [] }
  | Options.Metric m ↦ record { sources = []; size = 0; after = None; buckets = [] }
]

abbrev pub is_composite : Kind → Bool
is_composite k = elim (options_of k) [
  | Options.Terms t ↦ false
  | Options.Histogram h ↦ false
  | Options.Filters names filters other ↦ false
  | Options.Filter query ↦ false
  | Options.Missing field ↦ false
  | Options.Global ↦ false
  | Options.Nested context ↦ false
  | Options.ReverseNested context ↦ false
  | Options.Composite sources size after ↦ true
  | Options.Metric m ↦ false
]
