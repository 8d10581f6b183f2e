-- A value put in its place, one value of the list at a time.
use Rattle.std.specs.Prelude.{◌≡◌, refl, List, [], ◌∷◌, cond}
use Rattle.std.specs.declared.cmp.Ordering.{Ordering}
use Rattle.std.specs.declared.cmp.Ordering.TheVariants.{Less, Equal, Greater}
use Rattle.std.specs.Ordering.{match_ordering, is_le}
use Rattle.agg_model.specs.declared.row.Scalar.{Scalar}
use Rattle.agg_model.specs.declared.row.Scalar.TheVariants.{Whole, Word, Flag}
use Rattle.agg_reading.specs.Rows.{scalar_cmp, insert_value}

-- equal words are joined, equal numbers and flags are kept
abbrev pub beside : Scalar → List Scalar → List Scalar
beside (Word w) ss = ss
beside s ss = s ∷ ss

-- what is at most the next stands before it
kept : (o : Ordering) (s : Scalar) (ss ts : List Scalar) → cond (is_le o) (s ∷ ss) ts ≡ match_ordering o (s ∷ ss) (s ∷ ss) ts
kept Less s ss ts = refl
kept Equal s ss ts = refl
kept Greater s ss ts = refl

-- the first value of an empty list
pub insert_value-none : (s : Scalar) → insert_value s [] ≡ s ∷ []
unfolding insert_value
insert_value-none (Whole z) = refl
insert_value-none (Word w) = refl
insert_value-none (Flag b) = refl

-- before, beside or behind the first value of a list
pub insert_value-step : (s t : Scalar) (ts : List Scalar) → insert_value s (t ∷ ts) ≡ match_ordering (scalar_cmp s t) (s ∷ t ∷ ts) (beside s (t ∷ ts)) (t ∷ insert_value s ts)
unfolding insert_value
insert_value-step (Whole z) t ts = kept (scalar_cmp (Whole z) t) (Whole z) (t ∷ ts) (t ∷ insert_value (Whole z) ts)
insert_value-step (Word w) t ts = refl
insert_value-step (Flag b) t ts = kept (scalar_cmp (Flag b) t) (Flag b) (t ∷ ts) (t ∷ insert_value (Flag b) ts)
