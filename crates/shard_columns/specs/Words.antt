-- The words that are met in rows: each number is that of one word of one field, and later the place of that word in a dictionary.
use Rattle.std.specs.Prelude.{◌≡◌, ◌≢◌, ◌⊎◌, ◌∷◌, ◌++◌, ℕ, ◌+◌, ◌<◌, ◌==◌, if◌then◌else◌, List, [], length, slice_index_or, slice_get, flat_map, Some, Contains}
use Rattle.std.specs.Ordering.{nat_cmp}
use Rattle.std.specs.Cmp.Lexicographic.{slice_cmp}
use Rattle.std.specs.List.Sorted.{IsStrictlySortedBy}
use Rattle.agg_model.specs.declared.row.Scalar.TheVariants as scalar
use Rattle.shard_columns.specs.declared.layout.Laid.{Laid}
use Rattle.shard_columns.specs.declared.words.WordNumbers.{WordNumbers}
use Rattle.shard_columns.specs.Numbered.{Known, none_known, HasNumber, HasNone}
use Rattle.shard_columns.specs.Values.{Words, Reader, words_for, AllAmong, FieldsBelow}

-- the words of a field with their numbers
abbrev pub entries_of : WordNumbers → ℕ → Known
entries_of numbers field = slice_index_or numbers.by_field.items field none_known

-- the number is one of this word of a field
abbrev pub IsNumberOf : WordNumbers → ℕ → List ℕ → ℕ → Type 0
IsNumberOf numbers field word number = HasNumber (entries_of numbers field) word number

-- no word of any field has a number
abbrev pub HasNoWords : WordNumbers → Type 0
HasNoWords numbers = (field : ℕ) → HasNone (entries_of numbers field)

-- no two words have one number, whatever their fields
pub record IsNumbered (numbers : WordNumbers) : Type 0 where
  pub below : (f n : ℕ) (w : List ℕ) → IsNumberOf numbers f w n → n < length numbers.ranks.items
  pub apart : (f g n : ℕ) (v w : List ℕ) → IsNumberOf numbers f v n → IsNumberOf numbers g w n → (f ≡ g) × (v ≡ w)

-- these words of one field alone
abbrev pub of_field : ℕ → Words → ℕ → Words
of_field field words f = if field == f then words else []

-- these words of each field are met besides those of before
pub record Notes (old new : WordNumbers) (words : ℕ → Words) : Type 0 where
  pub sizes : length new.by_field.items ≡ length old.by_field.items
  pub sound : IsNumbered new
  pub kept : (f n : ℕ) (w : List ℕ) → IsNumberOf old f w n → IsNumberOf new f w n
  pub known : (f : ℕ) (w : List ℕ) → Contains (words f) w → (n : ℕ) × IsNumberOf new f w n
  pub nothing_else : (f n : ℕ) (w : List ℕ) → IsNumberOf new f w n → ((m : ℕ) × IsNumberOf old f w m) ⊎ Contains (words f) w

-- each number is read as its word
pub record Shows (numbers : WordNumbers) (show : Reader) : Type 0 where
  pub word : (f n : ℕ) (w : List ℕ) → IsNumberOf numbers f w n → show f n ≡ scalar.Word w

-- the numbers of these words are apart, and below a limit
pub record AreApart (limit : ℕ) (known : Known) : Type 0 where
  pub below : (n : ℕ) (w : List ℕ) → HasNumber known w n → n < limit
  pub apart : (n : ℕ) (v w : List ℕ) → HasNumber known v n → HasNumber known w n → v ≡ w

-- at the numbers of each word stands its place among the words; other numbers keep theirs
pub record AreRanked (known : Known) (words : Words) (old new : List ℕ) : Type 0 where
  pub sizes : length new ≡ length old
  pub placed : (n : ℕ) (w : List ℕ) → HasNumber known w n → slice_get words (slice_index_or new n 0) ≡ Some w
  pub others : (n : ℕ) → ((w : List ℕ) → ¬ (HasNumber known w n)) → slice_index_or new n 0 ≡ slice_index_or old n 0

-- the word is the last of these, or is put behind them; the place is where it stands
pub record IsPutLast (old new : Words) (word : List ℕ) (place : ℕ) : Type 0 where
  pub there : slice_get new place ≡ Some word
  pub grown : (new ≡ old) ⊎ ((new ≡ old ++ word ∷ []) × ((n : ℕ) → n + 1 ≡ length old → slice_get old n ≢ Some word))

-- the distinct words of a list, ascending
pub record SameWords (words distinct : Words) : Type 0 where
  pub strict : IsStrictlySortedBy (slice_cmp nat_cmp) distinct
  pub kept : AllAmong words distinct
  pub nothing_else : AllAmong distinct words

-- the distinct words of a field, ascending
pub record AreWordsOf (known : Known) (words : Words) : Type 0 where
  pub strict : IsStrictlySortedBy (slice_cmp nat_cmp) words
  pub kept : (w : List ℕ) (n : ℕ) → HasNumber known w n → Contains words w
  pub nothing_else : (w : List ℕ) → Contains words w → (n : ℕ) × HasNumber known w n

-- the words of each field, ascending
pub record AreWords (numbers : WordNumbers) (words : List Words) : Type 0 where
  pub sizes : length words ≡ length numbers.by_field.items
  pub same : (f : ℕ) → AreWordsOf (entries_of numbers f) (slice_index_or words f [])

-- at the numbers of each word of a field stands its place among the words of the field
abbrev pub ArePlaced : WordNumbers → List Words → List ℕ → Type 0
ArePlaced numbers words ranks =
    (f n : ℕ) (w : List ℕ) → IsNumberOf numbers f w n → slice_get (slice_index_or words f []) (slice_index_or ranks n 0) ≡ Some w

unfoldable pub AllFieldsBelow : ℕ → List Laid → Type 0
AllFieldsBelow n [] = Unit {0}
AllFieldsBelow n (l ∷ ls) = FieldsBelow n l.values.now × AllFieldsBelow n ls

abbrev pub row_words : ℕ → Laid → Words
row_words f l = words_for f l.values.now

-- for each field the distinct words that the rows have, ascending
pub record AreDictionaries (count : ℕ) (rows : List Laid) (words : List Words) : Type 0 where
  pub sizes : length words ≡ count
  pub same : (f : ℕ) → f < count → SameWords (flat_map (row_words f) rows) (slice_index_or words f [])
