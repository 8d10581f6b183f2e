-- Terms as the tests have them.
use Rattle.std.specs.Prelude.{◌≡◌, ℕ, Bool, true, List, [], ◌∷◌, None}
use Rattle.agg_model.specs.declared.key.Key.TheVariants.{Word}
use Rattle.agg_model.specs.declared.partial.Bucket.{Bucket}
use Rattle.agg_model.specs.declared.aggregation.Kind.{Kind}
use Rattle.agg_model.specs.declared.aggregation.Kind.TheVariants as kind
use Rattle.agg_model.specs.declared.aggregation.OrderBy.TheVariants as by
use Rattle.agg_model.specs.declared.aggregation.Agg.{Agg}
use Rattle.agg_model.specs.declared.aggregation.Agg.TheOpen.{Agg-F}

abbrev pub returned_bucket : List ℕ → ℕ → ℕ → Bucket
returned_bucket word count covered = record { key = Word word; count = count; covered = covered; children = [] }

-- the first term by count
abbrev pub first_by_count : Bool → Kind
first_by_count descending = kind.Terms 0 1 1 1 (record { by = by.Count; descending = descending } ∷ []) None [] None true

-- with no aggregation below it
abbrev pub IsFirstByCount : Bool → Agg-F Agg → Type 0
IsFirstByCount descending a = (a.kind ≡ first_by_count descending) × (a.children ≡ [])
