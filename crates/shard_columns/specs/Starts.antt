-- Where the values of each rank of a context start, while rows come one after another.
use Rattle.std.specs.Prelude.{◌≡◌, ℕ, ◌+◌, ◌<◌, ◌≤◌, List, length, slice_index_or}
use Rattle.std.specs.Option.{option_map_or}
use Rattle.shard_columns.specs.declared.homes.Homes.{Homes}
use Rattle.shard_columns.specs.declared.values.Held.{Held}
use Rattle.shard_columns.specs.declared.values.Span.{Span}
use Rattle.shard_columns.specs.Homes.{home_count, rank_in}
use Rattle.shard_columns.specs.Values.{no_span, span_in, span_between, AreAlike, WithinReach}

-- where the values of a row are, by its rank in a context
abbrev pub span_by_rank : Homes → ℕ → List ℕ → ℕ → Span
span_by_rank homes context starts row = option_map_or (span_between starts) (rank_in homes context row) no_span

-- each row that has a home has by its rank the values that it has among these rows
abbrev pub HaveStarts : Homes → ℕ → List Held → List ℕ → Type 0
HaveStarts homes context held starts =
    (size : ℕ) → WithinReach size held → (row : ℕ) → row < home_count homes → AreAlike size (span_by_rank homes context starts row) (span_in held row)

-- so it is, and all values end at a place of a list of this length, which is the last start
pub record AreStarts (homes : Homes) (context size : ℕ) (held : List Held) (end : ℕ) (starts : List ℕ) : Type 0 where
  pub last : (k : ℕ) → length starts ≡ k + 1 → slice_index_or starts k 0 ≡ end
  pub within : end ≤ size
  pub alike : (row : ℕ) → row < home_count homes → AreAlike size (span_by_rank homes context starts row) (span_in held row)

-- whatever rows the old starts are of, the new ones are of them too
abbrev pub KeepStarts : List ℕ → List ℕ → ℕ → Type 0
KeepStarts old new end =
    (homes : Homes) (context size : ℕ) (held : List Held) → AreStarts homes context size held end old → AreStarts homes context size held end new

-- so many ranks have one value each, at its place
pub record AreOnes (starts : List ℕ) (count : ℕ) : Type 0 where
  pub size : length starts ≡ count + 1
  pub each : (k : ℕ) → k < length starts → slice_index_or starts k 0 ≡ k
