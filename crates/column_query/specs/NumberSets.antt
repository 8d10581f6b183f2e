-- Sets of whole numbers: an ascending list, or a bit for each number from a first one on, in words of 64 bits.
use Rattle.std.specs.Prelude.{◌≡◌, ℕ, ◌*◌, ◌/◌, ◌%◌, ◌<◌, ◌==◌, ◌||◌, Bool, false, List, length, slice_index_or, ℤ, pos, negsuc, ◌-ℤ◌}
use Rattle.std.specs.Int.{bit_at}
use Rattle.column_query.specs.Numbers.{is_among}
use Rattle.column_query.specs.declared.marks.Marks.{Marks}
use Rattle.column_query.specs.declared.number_set.NumberSet.{NumberSet}
use Rattle.column_query.specs.declared.number_set.NumberSet.TheVariants.{Listed, Marked}

-- whether the bit at this place is set
abbrev pub has_bit : List ℕ → ℕ → Bool
has_bit words place = bit_at (slice_index_or words (place / 64) 0) (place % 64) == 1

-- the same for a whole number: there is no bit at one below 0
abbrev pub has_place : List ℕ → ℤ → Bool
has_place words (pos place) = has_bit words place
has_place words (negsuc n) = false

-- whether the number is marked
abbrev pub is_marked : Marks → ℤ → Bool
is_marked marks x = has_place marks.bits.items (x -ℤ marks.first)

-- whether the set has the number
abbrev pub has_number : NumberSet → ℤ → Bool
has_number (Listed numbers) x = is_among numbers x
has_number (Marked marks) x = is_marked marks x

-- the set has these numbers and no others
pub record HasNumbers (numbers : List ℤ) (set : NumberSet) : Type 0 where
  pub same : (x : ℤ) → has_number set x ≡ is_among numbers x

-- these numbers are marked, and no others
pub record AreMarked (numbers : List ℤ) (marks : Marks) : Type 0 where
  pub same : (x : ℤ) → is_marked marks x ≡ is_among numbers x

-- the bit at this place is set besides the others
pub record SetsBit (old : List ℕ) (place : ℕ) (new : List ℕ) : Type 0 where
  pub same : (n : ℕ) → has_bit new n ≡ ((n == place) || has_bit old n)

-- each of the numbers has a bit in so many words, of which the first bit is that of this number
abbrev pub AreWithin : ℤ → ℕ → List ℤ → Type 0
AreWithin first words numbers = (k : ℕ) (d : ℤ) → k < length numbers → (place : ℕ) × ((slice_index_or numbers k d -ℤ first ≡ pos place) × (place < 64 * words))
