use Rattle.std.proofs.Common.{◌≡◌, map, take}
use Rattle.agg_model.specs.declared.key.Key.TheVariants.{Fixed}
use Rattle.agg_evaluation.specs.Matching.{matches}
use Rattle.agg_evaluation.specs.Rows.{row_of}
use Rattle.filters_agg.specs.Numbers.{true_places}
use Rattle.filters_agg.proofs.row_keys.keys_of_filters.Given as goal

abbrev pub invariant-loop-place : goal.invariant-loop-place
invariant-loop-place l = l.keys ≡ map Fixed (true_places (map (λ q. matches l.shard.rows q (row_of l.shard.rows l.row)) (take l.place l.filter-items)))
