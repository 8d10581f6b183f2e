-- Homes of rows, one after another: no two of them are one.
use Rattle.std.proofs.Common.{◌≡◌, ℕ, ◌<◌, ◌≤◌, List, length, get_or}
use Rattle.shard_columns.specs.declared.homes.Home.{Home}
use Rattle.shard_columns.specs.Homes.{no_home, AreApart}

-- these are the homes of so many rows, of which each context has as many as are counted
pub record AreCounted (contexts rows : ℕ) (counts : List ℕ) (each : List Home) : Type 0 where
  pub sizes : length counts ≡ contexts
  pub count : length each ≡ rows
  pub few : (context : ℕ) → get_or counts context 0 ≤ rows
  pub below : (n : ℕ) → n < length each → (get_or each n no_home).rank < get_or counts (get_or each n no_home).context 0
  pub apart : AreApart each
