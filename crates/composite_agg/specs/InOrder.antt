-- Items in the order of the sources of a composite.
use Rattle.std.specs.Prelude.{ℕ, Bool, not, ◌&&◌, ◌||◌, nat_le, List, [], ◌∷◌, length, Option, T}
use Rattle.std.specs.List.{list_all}
use Rattle.std.specs.Ordering.{is_lt}
use Rattle.std.specs.declared.cmp.Ordering.{Ordering}
use Rattle.agg_model.specs.declared.key.Key.{Key}
use Rattle.agg_model.specs.declared.aggregation.CompositeSource.{CompositeSource}
use Rattle.bucket_order.specs.Composites.{any_parts_cmp, key_parts}
use Rattle.composite_page.specs.Pages.{is_beyond_any}

-- the order of the sources, which agrees with that of composite keys where each has a part for each source
abbrev pub page_cmp : List CompositeSource → Key → Key → Ordering
page_cmp sources j k = any_parts_cmp sources (key_parts j) (key_parts k)

module _ {A : Type 0} (key : A → Key) (sources : List CompositeSource) where
  -- all come before the key, or all behind it
  abbrev pub all_before : Key → List A → Bool
  all_before k xs = list_all (λ x. is_lt (page_cmp sources (key x) k)) xs

  abbrev pub all_behind : Key → List A → Bool
  all_behind k xs = list_all (λ x. is_lt (page_cmp sources k (key x))) xs

  -- each comes before the later ones
  abbrev pub IsInOrder : List A → Type 0
  IsInOrder [] = Unit {0}
  IsInOrder (x ∷ xs) = T (all_behind (key x) xs) × IsInOrder xs

  -- the key does not come after `after`, or it comes after all of a full page
  abbrev pub is_kept_out : ℕ → Option Key → List A → Key → Bool
  is_kept_out size after xs k = not (is_beyond_any sources after k) || (nat_le size (length xs) && all_before k xs)
