-- Histograms as the tests have them.
use Rattle.std.specs.Prelude.{◌≡◌, ℕ, ℤ, int_lt, Bool, true, false, ◌&&◌, List, [], ◌∷◌, None}
use Rattle.std.specs.List.{list_all}
use Rattle.agg_model.specs.declared.key.Key.TheVariants.{Whole}
use Rattle.agg_model.specs.declared.partial.Bucket.{Bucket}
use Rattle.agg_model.specs.declared.aggregation.Bounds.{Bounds}
use Rattle.agg_model.specs.declared.aggregation.Kind.{Kind}
use Rattle.agg_model.specs.declared.aggregation.Kind.TheVariants as kind
use Rattle.agg_model.specs.declared.aggregation.OrderBy.TheVariants as by
use Rattle.agg_model.specs.declared.aggregation.Agg.{Agg}
use Rattle.agg_model.specs.declared.aggregation.Agg.TheOpen.{Agg-F}

abbrev pub counted_bucket : ℤ × ℕ → Bucket
counted_bucket p = record { key = Whole p.0; count = p.1; covered = 0; children = [] }

abbrev pub rises : List (ℤ × ℕ) → Bool
rises [] = true
rises (p ∷ ps) = list_all (λ later. int_lt p.0 later.0) ps && rises ps

abbrev pub no_bounds : Bounds
no_bounds = record { min = None; max = None }

-- with a minimum count of 0, in the order of keys
abbrev pub gapless : ℕ → ℕ → Bounds → Kind
gapless interval offset extended = kind.Histogram 1 interval offset 0 extended no_bounds false (record { by = by.Key; descending = false } ∷ []) None

abbrev pub IsHistogram : ℕ → ℕ → Bounds → List Agg → Agg-F Agg → Type 0
IsHistogram interval offset extended children a = (a.kind ≡ gapless interval offset extended) × (a.children ≡ children)
