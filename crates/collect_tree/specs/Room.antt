-- The room that a pass has for a task: its ceiling fits (Elasticsearch Reference 8, 'Circuit breaker settings').
use Rattle.std.specs.Prelude.{◌≡◌, ℕ, ◌+◌, ◌≤◌, Some}
use Rattle.agg_model.specs.declared.aggregation.Search.{Search}
use Rattle.agg_model.specs.declared.breaker.Which.TheVariants.{Request}
use Rattle.agg_evaluation.specs.Ceiling.{ceiling as ceiling_of}
use Rattle.breaker_words.specs.Views.{hold_of}
use Rattle.breaker_words.specs.declared.view.View.{View}
use Rattle.shard_columns.specs.Columns.{Columns}

-- the task has a ceiling, and the pass may hold so much more
pub record HasRoom (shard : Columns) (search : Search) (v : View) : Type 0 where
  pub ceiling : ℕ
  pub is : ceiling_of shard.kinds search shard.rows ≡ Some ceiling
  pub fits : v.accounts.parent.hold + ceiling ≤ v.cap

-- the task has a ceiling
abbrev pub HasCeiling : Columns → Search → Type 0
HasCeiling shard search = (ceiling : ℕ) × (ceiling_of shard.kinds search shard.rows ≡ Some ceiling)

-- the pass holds so many bytes for the task, and may hold its ceiling in their place
pub record HoldsTask (shard : Columns) (search : Search) (held : ℕ) (v : View) : Type 0 where
  pub holds : held ≤ hold_of v Request
  pub ceiling : ℕ
  pub is : ceiling_of shard.kinds search shard.rows ≡ Some ceiling
  pub fits : v.accounts.parent.hold + ceiling ≤ v.cap + held
