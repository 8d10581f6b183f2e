-- The shards of a store whose documents fit are such as an index takes.
use Rattle.std.specs.Prelude.{◌≡◌, ℕ, ◌≤◌, List, sum_by}
use Rattle.std.proofs.Common.{arith}
use Rattle.agg_model.specs.declared.mapping.Mapping.{Mapping}
use Rattle.agg_model.specs.declared.row.Document.{Document}
use Rattle.agg_reading.specs.Store.{Store, weight, shards_of}
use Rattle.agg_reading.proofs.ShardWeights.{shards_weigh}
use Rattle.agg_evaluation.specs.Rows.{rows_of_documents}
use Rattle.agg_evaluation.specs.RowsWeight.{rows_weight}
use Rattle.fitting_laws.specs.Stores.{IsFitting, AreShards}
use Rattle.fitting_laws.proofs.Weights.{weights_agree}
use Rattle.fitting_laws.proofs.Stores.{shards_fit}

pub weigh_same : (lists : List (List Document)) → sum_by (λ ds. rows_weight (rows_of_documents ds)) lists ≡ sum_by (sum_by weight) lists
weigh_same lists = λ i. sum_by (λ ds. weights_agree ds i) lists

pub shards_given : (m : Mapping) (store : Store) (n : ℕ) → 1 ≤ n → IsFitting m store → AreShards m (shards_of store n)
shards_given m store n some h =
    let all = shards_weigh store n some in
    let same = weigh_same (shards_of store n) in
    record { fit = shards_fit m store n h.0; light = omega (arith, all, same, h.1) }
