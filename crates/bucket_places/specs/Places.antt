-- The places of codes: each stands once, in the order in which they came (Elasticsearch Reference 8, 'Bucket aggregations').
use Rattle.std.specs.Prelude.{◌≡◌, ℕ, ℤ, pos, zero, suc, ◌<◌, false, List, [], ◌∷◌, ◌++◌, length, Option, Some, None, IfSome, slice_get}
use Rattle.std.specs.BTreeMap.{BTreeMap, get}
use Rattle.std.specs.List.{IsDistinct, list_any, slice_index_or}
use Rattle.std.specs.Ordering.{int_cmp, int_eq}
use Rattle.bucket_places.specs.declared.places.Index.{Index}
use Rattle.bucket_places.specs.declared.places.Place.{Place}
use Rattle.bucket_places.specs.declared.places.Place.TheVariants.{Found, Added}

-- the code stood there, and the codes are as before
pub record IsFoundAt (code : ℤ) (before after : List ℤ) (place : ℕ) : Type 0 where
  pub here : slice_get before place ≡ Some code
  pub same : after ≡ before

-- the code stood nowhere, and stands at the end now
pub record IsAddedAt (code : ℤ) (before after : List ℤ) (place : ℕ) : Type 0 where
  pub absent : list_any (int_eq code) before ≡ false
  pub last : place ≡ length before
  pub more : after ≡ before ++ code ∷ []

-- the place of a code that was looked for in these codes and comes to stand in those
abbrev pub IsPlaceOf : ℤ → List ℤ → List ℤ → Place → Type 0
IsPlaceOf code before after (Found place) = IsFoundAt code before after place
IsPlaceOf code before after (Added place) = IsAddedAt code before after place

-- what an index says of a code: its place, or none where it stands nowhere
abbrev pub Indexes : List ℤ → ℤ → Option ℕ → Type 0
Indexes codes code (Some place) = slice_get codes place ≡ Some code
Indexes codes code None = list_any (int_eq code) codes ≡ false

-- the code is no number below this
abbrev pub IsOutside : ℤ → ℕ → Type 0
IsOutside code width = (n : ℕ) → n < width → code ≡ pos n → ⊥

-- an entry of a table, which is one more than a place, or 0
abbrev pub place_at : ℕ → Option ℕ
place_at zero = None
place_at (suc place) = Some place

-- a table for the codes that are numbers of its entries, and a map for the others
pub record IsIndexed (codes : List ℤ) (table : List ℕ) (others : BTreeMap ℤ ℕ) : Type 0 where
  pub of_table : (n : ℕ) → n < length table → Indexes codes (pos n) (place_at (slice_index_or table n 0))
  pub of_others : (code : ℤ) → IsOutside code (length table) → Indexes codes code (get int_cmp others code)

-- none stands twice, and where there is an index it is one of these codes
pub record AreKept (codes : List ℤ) (index : Option Index) : Type 0 where
  pub distinct : IsDistinct int_eq codes
  pub indexed : IfSome index (λ i. IsIndexed codes i.table.items i.others)
