-- The words of a field with their numbers, found by how they begin.
use Rattle.std.specs.Prelude.{◌≡◌, ◌≢◌, ◌⊎◌, ◌∷◌, ℕ, ◌<◌, List, [], ◌++◌, Contains, length, map, slice_index_or, take, replicate, Option, Some, IsSome, String, string_bytes}
use Rattle.std.specs.declared.alloc.Global.{Global}
use Rattle.std.specs.List.{AllByRecursion}
use Rattle.std.specs.Map.{lookup, keys_of}
use Rattle.std.specs.BTreeMap.{is_at}
use Rattle.std.specs.Ordering.{nat_cmp, is_lt}
use Rattle.std.specs.Int.{w128, from_be_bytes}
use Rattle.std.specs.Cmp.Lexicographic.{slice_cmp}
use Rattle.std.specs.List.Sorted.{IsStrictlySortedBy, IsSortedBy}
use Rattle.shard_columns.specs.declared.mapped_words.Found.{Found}
use Rattle.shard_columns.specs.declared.field_words.Numbered.{Numbered}

-- a word with its number
abbrev pub Entry : Type 0
Entry = List ℕ × ℕ

-- words with their numbers
abbrev pub Entries : Type 0
Entries = List Entry

-- the number of a word, if it has one
abbrev pub number_in : Entries → List ℕ → Option ℕ
number_in entries word = lookup (is_at (slice_cmp nat_cmp word)) entries

-- the words without their numbers
abbrev pub words_among : Entries → List (List ℕ)
words_among entries = map (λ e. e.0) entries

-- the word that is lent, with its number
abbrev pub entry_of : Numbered → Entry
entry_of word = (word.text.now, word.number)

-- these words with their numbers, in their order
abbrev pub all_entries : List Numbered → Entries
all_entries words = map entry_of words

-- the first 16 bytes of a word, with zeros behind a shorter one, as a number whose first byte weighs most
unfoldable pub beginning_of : List ℕ → ℕ
beginning_of word = from_be_bytes w128 (take 16 (word ++ replicate 16 0))

-- the word begins as is said, and has bytes
abbrev pub IsBegun : Numbered → Type 0
IsBegun word = (word.beginning ≡ beginning_of word.text.now) × ((i : ℕ) → slice_index_or word.text.now i 0 < 256)

-- each of these words does
abbrev pub AreBegun : List Numbered → Type 0
AreBegun words = AllByRecursion IsBegun words

-- none of these words is less than the one before it
abbrev pub AreSorted : List Numbered → Type 0
AreSorted words = IsSortedBy (λ a b. is_lt (slice_cmp nat_cmp a.text.now b.text.now)) words

-- the number of a word that is among these is the one that is found
abbrev pub IsOneEach : Entries → Type 0
IsOneEach entries = (w : List ℕ) (n : ℕ) → Contains entries (w, n) → number_in entries w ≡ Some n

-- texts with the numbers that stand at their places
abbrev pub later_entries : List (List ℕ) → List ℕ → Entries
later_entries [] _ = []
later_entries (text ∷ texts) [] = []
later_entries (text ∷ texts) (number ∷ numbers) = (text, number) ∷ later_entries texts numbers

-- words that are looked up, and later ones, of which each may stand more than once
pub record Known : Type 0 where
  pub mapped : Entries
  pub later : Entries

-- no words
abbrev pub none_known : Known
none_known = record { mapped = []; later = [] }

-- the number is one of this word
abbrev pub HasNumber : Known → List ℕ → ℕ → Type 0
HasNumber known word number = (number_in known.mapped word ≡ Some number) ⊎ Contains known.later (word, number)

-- no word has a number
abbrev pub HasNone : Known → Type 0
HasNone known = (w : List ℕ) (n : ℕ) → ¬ (HasNumber known w n)

-- A word is given a number: one that it had, or the next one. Nothing else changes.
pub record IsGiven (old new : Known) (word : List ℕ) (number next : ℕ) : Type 0 where
  pub there : HasNumber new word number
  pub own : HasNumber old word number ⊎ (number ≡ next)
  pub kept : (w : List ℕ) (n : ℕ) → HasNumber old w n → HasNumber new w n
  pub nothing_else : (w : List ℕ) (n : ℕ) → HasNumber new w n → HasNumber old w n ⊎ ((w ≡ word) × (n ≡ number))

-- the word at a place among these texts, with its number
abbrev pub found_in : List (List ℕ) → Found → Entry
found_in texts found = (slice_index_or texts found.place [], found.number)

-- what stands at each beginning
abbrev pub firsts_in : List (List ℕ) → List (ℕ × Found) → List (ℕ × Entry)
firsts_in texts firsts = map (λ e. (e.0, found_in texts e.1)) firsts

-- the words that stand at their beginnings
abbrev pub first_entries : List (ℕ × Entry) → Entries
first_entries firsts = map (λ e. e.1) firsts

-- the words that stand for themselves
abbrev pub other_entries : List (String Global × ℕ) → Entries
other_entries others = map (λ e. (string_bytes e.0, e.1)) others

-- The words of one part stand at their beginnings, and those of the other begin like a different word of the first part.
pub record IsIndexed (firsts : List (ℕ × Entry)) (others : List (String Global × ℕ)) : Type 0 where
  pub firsts_ascend : IsStrictlySortedBy nat_cmp (keys_of firsts)
  pub begun : AllByRecursion (λ e. e.0 ≡ beginning_of e.1.0) firsts
  pub apart : (w : List ℕ) → IsSome (number_in (other_entries others) w) → (first : Entry) × ((lookup (is_at (nat_cmp (beginning_of w))) firsts ≡ Some first) × (first.0 ≢ w))

-- The texts have a place for each word that stands at its beginning.
pub record IsKept (texts : List (List ℕ)) (firsts : List (ℕ × Found)) (others : List (String Global × ℕ)) : Type 0 where
  pub within : AllByRecursion (λ e. e.1.place < length texts) firsts
  pub indexed : IsIndexed (firsts_in texts firsts) others
