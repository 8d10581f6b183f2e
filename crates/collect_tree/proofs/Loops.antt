-- What the loops over roots keep.
use Rattle.std.specs.Prelude.{◌≡◌, ℕ, ◌+◌}
use Rattle.agg_model.specs.declared.aggregation.Search.{Search}
use Rattle.agg_evaluation.specs.Trace.{task_overhead}
use Rattle.breaker_words.specs.Passes.{IsOf, PassModel, WordsModel}
use Rattle.breaker_words.specs.declared.trial.Trial.TheVariants.{Rest}
use Rattle.breaker_words.specs.declared.view.View.{View}
use Rattle.growth_laws.specs.Amounts.{amounts}
use Rattle.shard_columns.specs.Columns.{Columns}
use Rattle.collect_tree.specs.Grown.{HasGrown}
use Rattle.collect_tree.specs.Room.{HoldsTask}
use Rattle.collect_tree.specs.Stops.{PaysOn}
use Rattle.collect_tree.specs.declared.growth.Growth.{Growth}

-- from the trees of `first` roots, for which the pass was `start`, to those of n
abbrev pub HasCome : Columns → Search → WordsModel → View → ℕ → ℕ → PassModel → Growth → Type 0
HasCome shard search words start first n pass growth = record {
  of : IsOf words pass;
  rest : pass.view.trial ≡ Rest;
  cap : pass.view.cap ≡ start.cap;
  grown : HasGrown shard search n growth;
  held : HoldsTask shard search (task_overhead + growth.bytes) pass.view;
  paid : PaysOn words.limits (amounts search shard.rows) first n start pass.view;
}

-- the same with the number of hits
abbrev pub HasCounted : Columns → Search → WordsModel → View → ℕ → PassModel → Growth → ℕ → Type 0
HasCounted shard search words start n pass growth hits = record {
  hits : hits ≡ n;
  come : HasCome shard search words start 0 n pass growth;
}
