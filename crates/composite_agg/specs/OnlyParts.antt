-- The order of a key and the one part of a row at a source.
use Rattle.std.specs.Prelude.{◌≡◌, ℕ, List, [], ◌∷◌, Some, slice_get}
use Rattle.std.specs.declared.cmp.Ordering.{Ordering}
use Rattle.agg_model.specs.declared.key.Key.{Key}
use Rattle.agg_model.specs.declared.key.Key.TheVariants.{Word}
use Rattle.agg_model.specs.declared.aggregation.CompositeSource.{CompositeSource}
use Rattle.agg_evaluation.specs.KeyOrder.{directed, key_cmp}

-- the parts of a row are one part, to which the key stands so
pub record IsOnlyPart (s : CompositeSource) (k : Key) (parts : List Key) (o : Ordering) : Type 0 where
  pub part : Key
  pub only : parts ≡ part ∷ []
  pub order : o ≡ directed s.descending (key_cmp k part)

-- the parts of a row are one word, at this place of a dictionary
pub record IsOnlyWord (words : List (List ℕ)) (place : ℕ) (parts : List Key) : Type 0 where
  pub word : List ℕ
  pub only : parts ≡ Word word ∷ []
  pub there : slice_get words place ≡ Some word
