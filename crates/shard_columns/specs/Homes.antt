-- Where each row stands among the rows of its context.
use Rattle.std.specs.Prelude.{◌≡◌, ℕ, ◌<◌, ◌==◌, if◌then◌else◌, Option, Some, None, List, length, slice_index_or}
use Rattle.shard_columns.specs.declared.homes.Home.{Home}
use Rattle.shard_columns.specs.declared.homes.Homes.{Homes}
use Rattle.shard_columns.specs.declared.homes.Homes.TheVariants as homes

-- what stands for the home of a row past the last
abbrev pub no_home : Home
no_home = record { context = 0; rank = 0 }

-- how many rows have homes
abbrev pub home_count : Homes → ℕ
home_count (homes.OfRoots count) = count
home_count (homes.OfEach each) = length each.items

-- the home of a row
abbrev pub home_of : Homes → ℕ → Home
home_of (homes.OfRoots count) row = record { context = 0; rank = row }
home_of (homes.OfEach each) row = slice_index_or each.items row no_home

-- the rank of a home, if it is of this context
abbrev pub rank_at : ℕ → Home → Option ℕ
rank_at context home = if home.context == context then Some home.rank else None

-- the rank of a row, if it is of this context
abbrev pub rank_in : Homes → ℕ → ℕ → Option ℕ
rank_in homes context row = rank_at context (home_of homes row)

-- no two rows have one home
abbrev pub AreHomes : Homes → Type 0
AreHomes homes = (m n : ℕ) → m < home_count homes → n < home_count homes → home_of homes m ≡ home_of homes n → m ≡ n

-- no two of these homes are one
abbrev pub AreApart : List Home → Type 0
AreApart each = (m n : ℕ) → m < length each → n < length each → slice_index_or each m no_home ≡ slice_index_or each n no_home → m ≡ n

-- of so many contexts no row is counted
pub record AreNoCounts (contexts : ℕ) (counts : List ℕ) : Type 0 where
  pub sizes : length counts ≡ contexts
  pub none : (context : ℕ) → slice_index_or counts context 0 ≡ 0
